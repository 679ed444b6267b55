use Rattle.std.proofs.Common.{sym, arith, ap, ◌≡◌, ◌∙◌}
use Rattle.std.specs.Prelude.{false}
use Rattle.geo_model.specs.Topology.{Topology}
use Rattle.geo_model.specs.Events.{offer_again, announce_fallen}
use Rattle.geo_access.specs.Access.{noted}
use Rattle.geo_slots.specs.Slots.{with_value}
use Rattle.geo_mesh.specs.Topo.{TopoView}
use Rattle.geo_life.specs.Life.{queued, notes}
use Rattle.geo_life.proofs.Announced.{IsTaken, fall_step, fall_taken, fall_mesh, fall_end, note_none}
use Rattle.geo_life.proofs.announces.announce_fallen.Given.{Over}
use Rattle.geo_life.proofs.announces.announce_fallen.Goals.{In-Some}
use Rattle.geo_life.proofs.announces.announce_fallen.Goals as goal

-- the least note is taken
taken : (g : Over) (c : In-Some g)
    → let rows = with_value c.loop-prov.topo.fallen c.in-Some.prov false in
    IsTaken c.loop-prov.topo c.next_fallen.new.topo (record c.loop-prov.topo { fallen = rows })
    c.loop-prov.topo.fallen rows c.in-Some.prov
taken g c =
    fall_taken c.loop-prov.invariant.counted c.in-Some.ensures.sound (sym c.in-Some.ensures.first)
    c.in-Some.ensures.dropped

-- the note that was taken counted for one place, which is spare still
pub offer_again-requires : goal.offer_again-requires
offer_again-requires g c =
    let took = taken g (goal.at.offer_again-requires g c).In-Some in
    omega (arith, took.less, c.loop-prov.invariant.room)

pub loop-prov-smaller : goal.loop-prov-smaller
loop-prov-smaller g c =
    let took = taken g (goal.at.loop-prov-smaller g c).In-Some in
    omega (arith, took.less, ap (λ (v : TopoView g.row.C.Denot). notes v.fallen) took.is)

-- the least note is gone, its provider was offered or not as the model does first, and the graph is as before
pub loop-prov-preserved : goal.loop-prov-preserved
loop-prov-preserved g c =
    let took = taken g (goal.at.loop-prov-preserved g c).In-Some in
    let rows = with_value c.loop-prov.topo.fallen c.in-Some.prov false in
    let kept : c.next_fallen.new.topo.fallen ≡ rows = ap (λ (v : TopoView g.row.C.Denot). v.fallen) took.is in
    let now : notes c.next_fallen.new.topo.fallen ≡ notes rows = ap notes kept in
    record {
      counted = c.in-Some.ensures.counted;
      announced =
          ap (λ rs. announce_fallen (noted rs) (queued c.next_fallen.new.topo c.offer_again.new.queue)) kept
          ∙ fall_step c.loop-prov.topo.fallen rows c.in-Some.prov took.next
          (queued c.loop-prov.topo c.loop-prov.queue) (queued c.next_fallen.new.topo c.offer_again.new.queue)
          (c.offer_again.ensures.offered
          ∙ ap (λ (u : Topology g.row.C.Denot). offer_again (record {
            topology = u;
            events = c.loop-prov.queue.events;
          }) c.in-Some.prov)
          (ap (λ (v : TopoView g.row.C.Denot). v.topology) took.is))
          ∙ c.loop-prov.invariant.announced;
      mesh = fall_mesh c.args.topo.now c.loop-prov.invariant.mesh took;
      memory = c.offer_again.ensures.memory ∙ c.loop-prov.invariant.memory;
      owed = omega (arith, took.less, now, c.loop-prov.invariant.owed, c.offer_again.ensures.room);
      room = omega (arith, took.less, now, c.loop-prov.invariant.room, c.offer_again.ensures.room);
    }

pub returns-clause-announced : goal.returns-clause-announced
returns-clause-announced g c =
    ap (λ (v : TopoView g.row.C.Denot). queued v c.loop-prov.queue) c.in_default.ensures.dropped
    ∙ sym (ap (λ ns. announce_fallen ns (queued c.loop-prov.topo c.loop-prov.queue))
    (note_none c.loop-prov.topo.fallen (sym c.in_default.ensures.first)))
    ∙ c.loop-prov.invariant.announced

pub returns-clause-mesh : goal.returns-clause-mesh
returns-clause-mesh g c =
    c.in_default.ensures.dropped
    ∙ fall_end c.args.topo.now c.loop-prov.invariant.mesh c.loop-prov.invariant.counted
    (sym c.in_default.ensures.first)
