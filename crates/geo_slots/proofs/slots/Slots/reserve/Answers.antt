use Rattle.std.proofs.Common.{arith, ap}
use Rattle.slab.specs.Slab.{slab_len}
use Rattle.geo_slots.proofs.TableLemmas.{rows_reserved, index_reserved}
use Rattle.geo_slots.proofs.KeyLemmas.{room_none}
use Rattle.geo_slots.proofs.slots.Slots.reserve.Goals as goal

-- the slab keeps its values, and has no less room
pub invariant_of-self : goal.invariant_of-self
invariant_of-self g c =
    let i = c.self.invariant in
    index_reserved _ _ _ _ _ i c.self.inside.index.pages.items c.self.inside.index.end c.reserve.new.self
    (room_none _ _ i.pages_are.in_order) c.reserve.ensures.rest_kept c.self.inside.spare i.paged
    (omega (arith, i.room, c.reserve.ensures.capacity, ap slab_len c.reserve.ensures.rest_kept)) i.numbers

-- so has the index, in which no page was lost
pub invariant_of-self-in_err-reserve-2 : goal.invariant_of-self-in_err-reserve-2
invariant_of-self-in_err-reserve-2 g c =
    let i = c.self.invariant in
    index_reserved _ _ _ _ _ i _ c.reserve-2.new.index.end c.reserve.new.self c.reserve-2.ensures.room
    c.reserve.ensures.rest_kept c.self.inside.spare (omega (arith, i.paged, c.reserve-2.ensures.room.grows))
    (omega (arith, i.room, c.reserve.ensures.capacity, ap slab_len c.reserve.ensures.rest_kept)) i.numbers

pub returns-in_err-reserve-2-clause-values_stay : goal.returns-in_err-reserve-2-clause-values_stay
returns-in_err-reserve-2-clause-values_stay g c =
    let rows = rows_reserved _ _ _ _ _ c.self.invariant _ _ c.reserve.new.self c.reserve-2.ensures.room
    c.reserve.ensures.rest_kept in
    rw (← c.self.view_is) (λ i. record { rows = rows i; next = c.self.inside.next; spare = c.self.inside.spare })

-- there is room for all that were asked for
pub invariant_of-self-2 : goal.invariant_of-self-2
invariant_of-self-2 g c =
    let i = c.self.invariant in
    index_reserved _ _ _ _ _ i _ c.reserve-2.new.index.end c.reserve.new.self c.reserve-2.ensures.room
    c.reserve.ensures.rest_kept c.args.count (omega (arith, c.in_ok-reserve-2.ensures.enough, c.in-Some.ensures))
    c.in_ok-reserve.ensures.room (omega (arith, c.in-Some.ensures))

pub returns-clause-values_stay : goal.returns-clause-values_stay
returns-clause-values_stay g c =
    let rows = rows_reserved _ _ _ _ _ c.self.invariant _ _ c.reserve.new.self c.reserve-2.ensures.room
    c.reserve.ensures.rest_kept in
    rw (← c.self.view_is) (λ i. record { rows = rows i; next = c.self.inside.next; spare = c.args.count })
