-- What stands in Stays.
pub use Rattle.geo_laws_counts.proofs.Stays.{granted_wants_nothing}
