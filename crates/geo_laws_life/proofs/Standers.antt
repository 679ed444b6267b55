-- What stands in Standing.
pub use Rattle.geo_laws_life.proofs.Standing.{AreApart, IsStander, PairsByRecursion, pairs-from_recursion, recursion-from_pairs, sizes_of, standers-apart, standers-stand}
