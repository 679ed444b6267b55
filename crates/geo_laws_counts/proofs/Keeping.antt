-- What stands in LimitFacts.
pub use Rattle.geo_laws_counts.proofs.LimitFacts.{exclusive_less, limit_less}
