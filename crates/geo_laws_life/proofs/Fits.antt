-- What stands in Opened.
pub use Rattle.geo_laws_life.proofs.Opened.{opening-fitting}
