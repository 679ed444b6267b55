-- No command from where the search began up to here is the actor's.
use Rattle.std.proofs.Common.{◌≡◌}
use Rattle.geo_core.specs.Left.{commands_from}
use Rattle.geo_core.proofs.left.next_place.Given as goal

abbrev pub invariant-loop-place : goal.invariant-loop-place
invariant-loop-place l = commands_from l.commands l.actor l.place ≡ commands_from l.commands l.actor l.from
