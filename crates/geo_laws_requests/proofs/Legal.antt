-- Laws of steps and of legal logs, handed on to the crates above.
pub use Rattle.geo_laws_steps.proofs.Logs.{firm_after, opened_firm}
pub use Rattle.geo_laws_steps.proofs.Stepped.{steps_stay_firm}
pub use Rattle.geo_laws_steps.proofs.Steps.{steps_keep_used}
pub use Rattle.geo_laws_bios.proofs.Turning.{found_there}
pub use Rattle.geo_laws_bios.proofs.Phases.{can_take}
