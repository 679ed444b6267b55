-- What stands in LimitFacts and in Reach.
pub use Rattle.geo_laws_counts.proofs.LimitFacts.{contains-has, has-contains, has_not, not-has}
pub use Rattle.geo_laws_counts.proofs.Reach.{below_least, is-under, order_closed, order_stays, order_within, under-is, under_lower}
