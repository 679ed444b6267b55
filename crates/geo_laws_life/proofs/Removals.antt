-- What stands in Washed.
pub use Rattle.geo_laws_life.proofs.Washed.{IsBareGeom}
