use Rattle.std.proofs.Common.{◌∙◌, ap, refl, arith}
use Rattle.geo_model.proofs.BioLemmas.{phase_down}
use Rattle.geo_model.specs.Bios.{up_with}
use Rattle.geo_bio.specs.declared.bio.Held.TheVariants as held
use Rattle.geo_model.specs.World.{is_down, is_up}
use Rattle.geo_state.specs.Cursors.{with_one}
use Rattle.geo_state.proofs.OrderLemmas.{table_rises}
use Rattle.geo_state.proofs.TrafficLemmas.{from_down_up, bio_seen, kept_turned, room_in_phase}
use Rattle.geo_state.proofs.traffic.Traffic.bounce.Goals as goal

-- this bio isn't Up yet, so those Up with it are fewer than the numbers
pub with_one-self-inside-requires : goal.with_one-self-inside-requires
with_one-self-inside-requires c =
    let old = c.self.inside.bios in
    let x = bio_seen is_down old c.self.view_is c.args.bio c.requires in
    let room = room_in_phase is_up old c.self.invariant.in_order c.args.bio x.0 x.1
    (ap is_up (phase_down x.0.phase x.2)) in
    omega (arith, room, c.self.invariant.bound, c.self.invariant.counted.ups.count)

-- from Down to Up: one less Down and one more Up, and the other counts stay
pub invariant_of-self : goal.invariant_of-self
invariant_of-self c =
    let now = c.self.inside in
    let x = bio_seen is_down now.bios c.self.view_is c.args.bio c.requires in
    let counted = from_down_up now.bios.bios c.args.bio x.0 (table_rises now.bios c.self.invariant.in_order) x.1
    now.down now.sent now.up now.busy now.live c.self.invariant.counted (up_with (held.Failed c.args.errno)) refl
    c.without_one-self-inside.result (phase_down x.0.phase x.2) refl c.without_one-self-inside.ensures in
    let up = c.with_one-self-inside.ensures ∙ ap (with_one now.up) c.number.ensures in
    kept_turned now.bios _ c.bounce.ensures.bounced c.bounce.ensures.in_order c.self.invariant.bound
    (rw up counted)
