use Rattle.std.proofs.Common.{length}
use Rattle.geo_class.proofs.sizes.+smallest.Given as goal

abbrev pub decreases-smallest : goal.decreases-smallest
decreases-smallest l = length l.sizes.now
