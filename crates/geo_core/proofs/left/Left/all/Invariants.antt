-- So many actors have the place of their first command, and from it on all that are theirs.
use Rattle.geo_core.proofs.Lefts.{AreFirst}
use Rattle.geo_core.proofs.left.Left.all.Given as goal

abbrev pub invariant-loop-actor : goal.invariant-loop-actor
invariant-loop-actor l = AreFirst l.commands l.places.items l.actor
