-- What stands in EachStep.
pub use Rattle.geo_laws_rest.proofs.EachStep.{others_leave_commands}
