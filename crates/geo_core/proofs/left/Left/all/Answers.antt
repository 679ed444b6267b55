use Rattle.geo_core.proofs.Lefts.{first-push}
use Rattle.geo_core.proofs.left.Left.all.Goals as goal

-- the place of the next actor's first command is put behind the others
pub loop-actor-preserved : goal.loop-actor-preserved
loop-actor-preserved c =
    rw c.in_ok-push.ensures.items
    (first-push c.commands-commands.result.now c.loop-actor.places.items c.loop-actor.actor c.next_place.result
    c.loop-actor.invariant c.next_place.ensures.next c.next_place.ensures.skips)
