-- What stands in Sums.
pub use Rattle.geo_laws_counts.proofs.Sums.{grants-same, have-at_most, of_each, want-at_most, want_given-at_most}
