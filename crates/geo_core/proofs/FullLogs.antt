-- A law of full logs, handed on to what drives a mesh.
pub use Rattle.geo_moves.proofs.Owed.{full_logs_are_long}
