-- What stands in Reach.
pub use Rattle.geo_laws_counts.proofs.Reach.{kept_members}
