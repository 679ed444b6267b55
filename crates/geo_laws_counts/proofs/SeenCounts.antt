-- What stands in Unseen.
pub use Rattle.geo_laws_counts.proofs.Unseen.{seen_stays}
