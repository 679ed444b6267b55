-- What stands in Less.
pub use Rattle.geo_laws_life.proofs.Less.{no_count}
