-- What stands in Frames.
pub use Rattle.geo_laws_life.proofs.Frames.{grants-same}
