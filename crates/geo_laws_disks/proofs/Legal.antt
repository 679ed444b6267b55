-- Laws of legal logs, handed on to the crates above.
pub use Rattle.geo_laws_requests.proofs.Legal.{firm_after}
pub use Rattle.geo_laws_requests.proofs.Complete.{legal_logs_complete_requests}
pub use Rattle.geo_laws_requests.proofs.Opened.{opening_none}
