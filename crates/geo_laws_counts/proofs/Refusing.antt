-- What stands in Openers.
pub use Rattle.geo_laws_counts.proofs.Openers.{allowed, errors_came, opened_allowed}
