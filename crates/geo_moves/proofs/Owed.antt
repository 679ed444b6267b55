-- Laws of what steps owe the log, handed on to the core.
pub use Rattle.geo_laws_owed.proofs.OwedSteps.{owed_changes}
pub use Rattle.geo_laws_owed.proofs.Room.{logs_stay_lawful}
pub use Rattle.geo_laws_owed.proofs.Full.{full_logs_are_long}
