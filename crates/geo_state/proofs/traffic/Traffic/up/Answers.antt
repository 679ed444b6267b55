use Rattle.std.proofs.Common.{◌-◌, ◌≤◌, sym, subst, arith}
use Rattle.std.proofs.lemmas.List.Sums.{count_by-le-length}
use Rattle.geo_model.specs.World.{BioOf, is_up}
use Rattle.geo_bio.specs.declared.bio.Held.{Held}
use Rattle.geo_state.specs.Cursors.{IsCounted, up_after, gone_by}
use Rattle.geo_state.proofs.OrderLemmas.{table_rises, fewer_than_next}
use Rattle.geo_state.proofs.CursorLemmas.{count_left}
use Rattle.geo_state.proofs.TrafficLemmas.{bio_seen, kept_same, up_counted, up_fewer}
use Rattle.geo_state.proofs.traffic.Traffic.up.Goals as goal

-- the bio itself leaves those that are Up, so there is room in the count for its parent
pub up_after-after-requires : goal.up_after-after-requires
up_after-after-requires g c =
    let now = c.self.inside in
    let x = bio_seen is_up now.bios c.self.view_is c.args.bio c.requires in
    let order = c.self.invariant.in_order in
    let less = count_left is_up now.bios.bios c.args.bio x.0 (table_rises now.bios order) x.1 x.2 now.up
    c.self.invariant.counted.ups in
    let some = count_by-le-length (λ (y : BioOf Held). is_up y.phase) now.bios.bios in
    let few = fewer_than_next now.bios order in
    omega (
      arith,
      less,
      some,
      few,
      c.without_one-up.ensures.count,
      c.self.invariant.bound,
      c.self.invariant.counted.ups.count,
    )

-- a root that is gone, or the children of a family that is complete, were counted
pub overflow_sub-self : goal.overflow_sub-self
overflow_sub-self g c =
    subst (λ k. k ≤ c.self.inside.live) (sym c.up_after-after.ensures.gone)
    (up_fewer c.self.inside.bios c.self.view_is c.self.invariant.in_order c.args.bio c.requires
    c.self.invariant.counted c.without_one-up.ensures (g.B.LogBytes.place_bytes c.args.log.now)
    c.family_size-family.result c.family_size-family.ensures.parent c.family_size-family.ensures.size
    c.in_ok-risen.risen c.in_ok-risen.ensures.told)

-- a root or all children are gone, or the child is done; a parent that is complete is one more Up
pub invariant_of-self-2 : goal.invariant_of-self-2
invariant_of-self-2 g c =
    let counted : IsCounted c.up.new.self.bios c.self.inside.down c.self.inside.sent
    (up_after c.without_one-up.result c.in_ok-risen.risen) c.self.inside.busy
    (c.self.inside.live - gone_by c.family_size-family.result c.in_ok-risen.risen) =
    up_counted c.self.inside.bios c.self.view_is c.self.invariant.in_order c.args.bio c.requires
    c.self.invariant.counted c.without_one-up.ensures (g.B.LogBytes.place_bytes c.args.log.now)
    c.family_size-family.result c.family_size-family.ensures.parent c.family_size-family.ensures.size
    c.in_ok-risen.risen c.in_ok-risen.ensures.told
    c.up.new.self.bios c.in_ok-risen.ensures.rises in
    record {
      in_order = c.up.ensures.in_order;
      bound = omega (arith, c.up.ensures.next_stays, c.self.invariant.bound);
      counted = rw (c.up_after-after.ensures.up, c.up_after-after.ensures.gone) counted;
    }

pub invariant_of-self : goal.invariant_of-self
invariant_of-self g c =
    kept_same c.self.inside.bios c.up.new.self c.in_err-risen.ensures.bios_stay c.up.ensures.next_stays
    c.self.invariant
