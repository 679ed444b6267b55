use Rattle.std.proofs.Common.{Some, ap}
use Rattle.geo_moves.proofs.Assembled.{place-more}
use Rattle.geo_moves.proofs.joins.new_places.Goals as goal

pub loop-number-preserved : goal.loop-number-preserved
loop-number-preserved c =
    place-more c.number-first.result c.loop-number.number c.loop-number.places.items c.push.new.self.items
    (Some c.new.result) c.loop-number.auto.number c.loop-number.invariant c.in_ok-push.ensures.items
    (ap (λ n. Some n) c.new.ensures)
