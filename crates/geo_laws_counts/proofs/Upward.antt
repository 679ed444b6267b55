-- What stands in Sums.
pub use Rattle.geo_laws_counts.proofs.Sums.{attached-above, found_of, geom_found, have_is_sum, names_some, upward, want_given-same}
