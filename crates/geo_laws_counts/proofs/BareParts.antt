-- What stands in Stays.
pub use Rattle.geo_laws_counts.proofs.Stays.{length-kept, levels_same, none_within}
