use Rattle.std.proofs.Common.{length}
use Rattle.geo_moves.proofs.below.+rank_below.Given as goal

abbrev pub decreases-rank_below : goal.decreases-rank_below
decreases-rank_below l = length l.below.now
