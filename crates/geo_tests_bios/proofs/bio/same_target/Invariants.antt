use Rattle.std.proofs.Common.{◌≡◌, length}
use Rattle.geo_tests_bios.proofs.bio.same_target.Given as goal

abbrev pub invariant-loop-child : goal.invariant-loop-child
invariant-loop-child l = length l.targets.items ≡ l._child
