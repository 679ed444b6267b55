use Rattle.std.proofs.Common.{ap, refl, arith}
use Rattle.geo_model.proofs.BioLemmas.{phase_sent}
use Rattle.geo_model.specs.World.{is_sent, is_busy}
use Rattle.geo_model.specs.declared.step.Phase.TheVariants as phases
use Rattle.geo_bio.specs.BioTable.{with_phase, is_going}
use Rattle.geo_state.proofs.OrderLemmas.{table_rises}
use Rattle.geo_state.proofs.TrafficLemmas.{from_sent_busy, bio_seen, kept_turned, room_in_phase}
use Rattle.geo_state.proofs.traffic.Traffic.take.Goals as goal

-- the bio is on its way
pub set_phase-requires-clause-was : goal.set_phase-requires-clause-was
set_phase-requires-clause-was c =
    let x = bio_seen is_sent c.self.inside.bios c.self.view_is c.args.bio c.requires in
    let there = x.1 in
    rw there (ap is_going (phase_sent x.0.phase x.2))

-- this bio isn't Busy yet, so those Busy with it are fewer than the numbers
pub overflow_add-self : goal.overflow_add-self
overflow_add-self c =
    let old = c.self.inside.bios in
    let x = bio_seen is_sent old c.self.view_is c.args.bio c.requires in
    let room = room_in_phase is_busy old c.self.invariant.in_order c.args.bio x.0 x.1
    (ap is_busy (phase_sent x.0.phase x.2)) in
    omega (arith, room, c.self.invariant.bound, c.self.invariant.counted.taken)

-- from Sent to Busy: one less Sent and one more Busy, and the other counts stay
pub invariant_of-self : goal.invariant_of-self
invariant_of-self c =
    let now = c.self.inside in
    let x = bio_seen is_sent now.bios c.self.view_is c.args.bio c.requires in
    let counted = from_sent_busy now.bios.bios c.args.bio x.0 (table_rises now.bios c.self.invariant.in_order) x.1
    now.down now.sent now.up now.busy now.live c.self.invariant.counted (with_phase (phases.Busy c.args.seat)) refl
    c.without_one-self-inside.result c.args.seat (phase_sent x.0.phase x.2) refl c.without_one-self-inside.ensures in
    kept_turned now.bios _ c.set_phase.ensures.set c.set_phase.ensures.in_order c.self.invariant.bound counted
