-- What stands in LimitFacts.
pub use Rattle.geo_laws_counts.proofs.LimitFacts.{changed_exclusive, changed_limit, fallen_none, risen_in}
