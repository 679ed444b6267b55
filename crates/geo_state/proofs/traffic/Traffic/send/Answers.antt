use Rattle.std.proofs.Common.{◌∙◌, ap, refl, arith}
use Rattle.geo_model.proofs.BioLemmas.{phase_down}
use Rattle.geo_model.specs.declared.step.Phase.TheVariants as phases
use Rattle.geo_bio.specs.BioTable.{with_phase, is_going}
use Rattle.geo_model.specs.World.{is_down, is_sent}
use Rattle.geo_state.specs.Cursors.{with_one}
use Rattle.geo_state.proofs.OrderLemmas.{table_rises}
use Rattle.geo_state.proofs.TrafficLemmas.{from_down_sent, bio_seen, kept_turned, room_in_phase}
use Rattle.geo_state.proofs.traffic.Traffic.send.Goals as goal

-- the bio is on its way
pub set_phase-requires-clause-was : goal.set_phase-requires-clause-was
set_phase-requires-clause-was c =
    let x = bio_seen is_down c.self.inside.bios c.self.view_is c.args.bio c.requires in
    let there = x.1 in
    rw there (ap is_going (phase_down x.0.phase x.2))

-- this bio isn't Sent yet, so those Sent with it are fewer than the numbers
pub with_one-self-inside-requires : goal.with_one-self-inside-requires
with_one-self-inside-requires c =
    let old = c.self.inside.bios in
    let x = bio_seen is_down old c.self.view_is c.args.bio c.requires in
    let room = room_in_phase is_sent old c.self.invariant.in_order c.args.bio x.0 x.1
    (ap is_sent (phase_down x.0.phase x.2)) in
    omega (arith, room, c.self.invariant.bound, c.self.invariant.counted.takes.count)

-- from Down to Sent: one less Down and one more Sent, and the other counts stay
pub invariant_of-self : goal.invariant_of-self
invariant_of-self c =
    let now = c.self.inside in
    let x = bio_seen is_down now.bios c.self.view_is c.args.bio c.requires in
    let counted = from_down_sent now.bios.bios c.args.bio x.0 (table_rises now.bios c.self.invariant.in_order) x.1
    now.down now.sent now.up now.busy now.live c.self.invariant.counted (with_phase phases.Sent) refl
    c.without_one-self-inside.result (phase_down x.0.phase x.2) refl c.without_one-self-inside.ensures in
    let sent = c.with_one-self-inside.ensures ∙ ap (with_one now.sent) c.number.ensures in
    kept_turned now.bios _ c.set_phase.ensures.set c.set_phase.ensures.in_order c.self.invariant.bound
    (rw sent counted)
