-- What stands in EachStep.
pub use Rattle.geo_laws_rest.proofs.EachStep.{step_idle, take_idle}
