use Rattle.std.proofs.Common.{◌∙◌, length, ap, arith}
use Rattle.geo_state.specs.Cursors.{with_last}
use Rattle.geo_state.proofs.OrderLemmas.{fewer_than_next}
use Rattle.geo_state.proofs.TrafficLemmas.{kept_same, split_all, split_counted, split_fewer}
use Rattle.geo_state.proofs.traffic.Traffic.start.Goals as goal

-- those Down, with the children, are no more than all bios, which are fewer than the numbers
pub with_last-self-inside-requires : goal.with_last-self-inside-requires
with_last-self-inside-requires c =
    let few = fewer_than_next c.start.new.self c.in_ok-first.ensures.in_order in
    let down = split_fewer c.self.inside.bios c.self.view_is c.self.invariant.in_order c.args.bio
    c.requires.down c.self.invariant.counted c.without_one-down.ensures c.args.pieces.now.items
    c.args.targets.now.items c.requires.same_number c.requires.some c.start.new.self.bios
    c.in_ok-first.ensures.split in
    omega (arith, down, few, c.in_ok-first.ensures.bound, ap length c.items.ensures)

pub overflow_add-self : goal.overflow_add-self
overflow_add-self c =
    let few = fewer_than_next c.start.new.self c.in_ok-first.ensures.in_order in
    let all = split_all c.self.inside.bios c.self.view_is c.args.bio c.requires.down c.args.pieces.now.items
    c.args.targets.now.items c.requires.same_number c.start.new.self.bios c.in_ok-first.ensures.split in
    omega (arith, all, c.self.invariant.counted.all, few, c.in_ok-first.ensures.bound, ap length c.items.ensures)

-- the first of the children has the number that was the next one
pub invariant_of-self-2 : goal.invariant_of-self-2
invariant_of-self-2 c =
    let number = c.number.ensures ∙ c.in_ok-first.ensures.first in
    let down = c.with_last-self-inside.ensures
    ∙ (λ i. with_last c.without_one-down.result (number i) (length (c.items.ensures i))) in
    record {
      in_order = c.in_ok-first.ensures.in_order;
      bound = c.in_ok-first.ensures.bound;
      counted = rw (down, ap length c.items.ensures)
          (split_counted c.self.inside.bios c.self.view_is c.self.invariant.in_order c.args.bio
          c.requires.down c.self.invariant.counted c.without_one-down.ensures c.args.pieces.now.items
          c.args.targets.now.items c.requires.same_number c.requires.some c.start.new.self.bios
          c.in_ok-first.ensures.split);
    }

pub invariant_of-self : goal.invariant_of-self
invariant_of-self c =
    kept_same c.self.inside.bios c.start.new.self c.in_err-first.ensures.bios_stay c.in_err-first.ensures.next_stays
    c.self.invariant
