use Rattle.std.proofs.Common.{◌≡◌, length}
use Rattle.geo_tests_bios.proofs.bio.pages_as_pieces.Given as goal

abbrev pub invariant-loop-child : goal.invariant-loop-child
invariant-loop-child l = length l.pieces.items ≡ l.child
