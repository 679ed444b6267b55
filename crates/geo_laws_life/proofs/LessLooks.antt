-- What stands in Less.
pub use Rattle.geo_laws_life.proofs.Less.{components-below, disk_there, middle_kind}
