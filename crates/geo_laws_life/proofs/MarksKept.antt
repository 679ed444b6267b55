-- What stands in Begun.
pub use Rattle.geo_laws_life.proofs.Begun.{queues_keep}
