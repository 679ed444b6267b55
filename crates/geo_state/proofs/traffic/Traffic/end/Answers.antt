use Rattle.std.proofs.Common.{◌∙◌, ap, refl, arith}
use Rattle.geo_model.specs.World.{is_busy, is_up}
use Rattle.geo_model.specs.Bios.{up_with}
use Rattle.geo_state.specs.Cursors.{with_one}
use Rattle.geo_state.proofs.OrderLemmas.{table_rises}
use Rattle.geo_state.proofs.TrafficLemmas.{busy_is, from_busy_up, some_busy, bio_seen, kept_turned, room_in_phase}
use Rattle.geo_state.proofs.traffic.Traffic.end.Goals as goal

-- the bio is Busy, so it was counted
pub overflow_sub-self : goal.overflow_sub-self
overflow_sub-self c =
    let now = c.self.inside in
    let x = bio_seen is_busy now.bios c.self.view_is c.args.bio c.requires in
    some_busy now.bios.bios c.args.bio x.0 (table_rises now.bios c.self.invariant.in_order) x.1 now.down now.sent now.up
    now.busy now.live c.self.invariant.counted (up_with c.args.held) refl x.2 refl

-- this bio isn't Up yet, so those Up with it are fewer than the numbers
pub with_one-self-inside-requires : goal.with_one-self-inside-requires
with_one-self-inside-requires c =
    let old = c.self.inside.bios in
    let x = bio_seen is_busy old c.self.view_is c.args.bio c.requires in
    let room = room_in_phase is_up old c.self.invariant.in_order c.args.bio x.0 x.1 (busy_is x.0.phase x.2).up in
    omega (arith, room, c.self.invariant.bound, c.self.invariant.counted.ups.count)

-- from Busy to Up: one less Busy and one more Up, and the other counts stay
pub invariant_of-self : goal.invariant_of-self
invariant_of-self c =
    let now = c.self.inside in
    let x = bio_seen is_busy now.bios c.self.view_is c.args.bio c.requires in
    let counted = from_busy_up now.bios.bios c.args.bio x.0 (table_rises now.bios c.self.invariant.in_order) x.1
    now.down now.sent now.up now.busy now.live c.self.invariant.counted (up_with c.args.held) refl x.2
    refl in
    let up = c.with_one-self-inside.ensures ∙ ap (with_one now.up) c.number.ensures in
    kept_turned now.bios _ c.end.ensures.ended c.end.ensures.in_order c.self.invariant.bound (rw up counted)
