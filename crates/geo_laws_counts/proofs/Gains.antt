-- What stands in Sums.
pub use Rattle.geo_laws_counts.proofs.Sums.{sum_of_more}
