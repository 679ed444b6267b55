-- What stands in Sums.
pub use Rattle.geo_laws_counts.proofs.Sums.{granted_want, want-sum, want_of_sum, want_of_sum-gain}
