use Rattle.std.proofs.Common.{sym, arith, ap, ◌≡◌, ◌∙◌, subst}
use Rattle.std.specs.Prelude.{false, length}
use Rattle.geo_model.specs.Events.{spoil_at, announce_risen}
use Rattle.geo_access.specs.Access.{noted}
use Rattle.geo_slots.specs.Slots.{with_value}
use Rattle.geo_mesh.specs.Topo.{TopoView}
use Rattle.geo_laws_counts.specs.CountWords.{seen_by_counts}
use Rattle.geo_life.specs.Life.{queued, notes, without_rises, IsDevMade, AreStored, CountsStay}
use Rattle.geo_life.proofs.Unseen.{mesh_kept}
use Rattle.geo_life.proofs.Announced.{IsTaken, note_none, rise_step, rise_taken, rise_stored, rise_end, rise_notes, rise_mesh, rise_unseen, rise_made, rise_out}
use Rattle.geo_life.proofs.announces.announce_risen.Given.{Over}
use Rattle.geo_life.proofs.announces.announce_risen.Goals.{In-Some}
use Rattle.geo_life.proofs.announces.announce_risen.Goals as goal

-- the least note is taken
taken : (g : Over) (c : In-Some g)
    → let rows = with_value c.loop-prov.topo.risen c.in-Some.prov false in
    IsTaken c.loop-prov.topo c.next_risen.new.topo (record c.loop-prov.topo { risen = rows })
    c.loop-prov.topo.risen rows c.in-Some.prov
taken g c =
    rise_taken c.loop-prov.invariant.counted c.in-Some.ensures.sound (sym c.in-Some.ensures.first)
    c.in-Some.ensures.dropped

-- taking a note leaves the graph, so DEV is as it was made
pub spoil_at-requires-clause-made : goal.spoil_at-requires-clause-made
spoil_at-requires-clause-made g c =
    let took = taken g (goal.at.spoil_at-requires-clause-made g c).In-Some in
    subst (λ (v : TopoView g.row.C.Denot). IsDevMade v.topology) (sym took.is) c.loop-prov.invariant.made

-- the note that was taken counted for one place, which is spare still
pub spoil_at-requires-clause-room : goal.spoil_at-requires-clause-room
spoil_at-requires-clause-room g c =
    let took = taken g (goal.at.spoil_at-requires-clause-room g c).In-Some in
    omega (arith, took.less, c.loop-prov.invariant.room)

pub loop-prov-smaller : goal.loop-prov-smaller
loop-prov-smaller g c =
    let took = taken g (goal.at.loop-prov-smaller g c).In-Some in
    omega (arith, took.less, ap notes (rise_notes took c.spoil_at.ensures.rest.mesh))

-- the provider noted first was spoiled as the model does it first; counts see no marks, so all stored ones are right
pub loop-prov-preserved : goal.loop-prov-preserved
loop-prov-preserved g c =
    let took = taken g (goal.at.loop-prov-preserved g c).In-Some in
    let rows = with_value c.loop-prov.topo.risen c.in-Some.prov false in
    let kept : c.spoil_at.new.topo.risen ≡ rows = rise_notes took c.spoil_at.ensures.rest.mesh in
    let now : notes c.spoil_at.new.topo.risen ≡ notes rows = ap notes kept in
    let mid : c.next_risen.new.topo ≡ record c.loop-prov.topo { risen = rows } = took.is in
    record {
      made =
          rise_made c.next_risen.new.topo c.loop-prov.queue (queued c.spoil_at.new.topo c.spoil_at.new.queue)
          c.in-Some.prov c.in-Some.ensures.counted c.spoil_at.ensures.spoiled
          (subst (λ (v : TopoView g.row.C.Denot). IsDevMade v.topology) (sym mid) c.loop-prov.invariant.made);
      counted = CountsStay.counted c.spoil_at.ensures.kept c.in-Some.ensures.counted;
      announced = λ granted stored.
          ap (λ rs. announce_risen granted (noted rs) (queued c.spoil_at.new.topo c.spoil_at.new.queue)) kept
          ∙ rise_step c.loop-prov.topo.risen rows c.in-Some.prov took.next
          (queued c.loop-prov.topo c.loop-prov.queue) (queued c.spoil_at.new.topo c.spoil_at.new.queue) granted
          (c.spoil_at.ensures.spoiled granted
          (subst (AreStored granted) (sym mid)
          (rise_stored c.args.topo.now c.loop-prov.invariant.mesh c.loop-prov.invariant.seen granted stored))
          ∙ ap (λ (v : TopoView g.row.C.Denot). spoil_at granted (queued v c.loop-prov.queue) c.in-Some.prov) mid)
          ∙ c.loop-prov.invariant.announced granted stored;
      mesh = rise_mesh took c.spoil_at.ensures.rest.mesh c.args.topo.now c.loop-prov.invariant.mesh;
      seen =
          rise_unseen c.next_risen.new.topo c.loop-prov.queue (queued c.spoil_at.new.topo c.spoil_at.new.queue)
          c.in-Some.prov c.in-Some.ensures.counted c.spoil_at.ensures.spoiled
          ∙ ap (λ (v : TopoView g.row.C.Denot). seen_by_counts v.topology) mid
          ∙ c.loop-prov.invariant.seen;
      memory = c.spoil_at.ensures.rest.room ∙ c.loop-prov.invariant.memory;
      owed = omega (arith, took.less, now, c.loop-prov.invariant.owed, c.spoil_at.ensures.room);
      room = omega (arith, took.less, now, c.loop-prov.invariant.room, c.spoil_at.ensures.room);
    }

pub returns-clause-announced : goal.returns-clause-announced
returns-clause-announced g c =
    λ granted stored.
    ap (λ (v : TopoView g.row.C.Denot). queued v c.loop-prov.queue) c.in_default.ensures.dropped
    ∙ sym (ap (λ ns. announce_risen granted ns (queued c.loop-prov.topo c.loop-prov.queue))
    (note_none c.loop-prov.topo.risen (sym c.in_default.ensures.first)))
    ∙ c.loop-prov.invariant.announced granted stored

-- a spoil changes marks and events alone, and no note is left
pub returns-clause-rest : goal.returns-clause-rest
returns-clause-rest g c = record {
  mesh =
      rise_out c.args.topo.now c.loop-prov.topo c.next_risen.new.topo
      (rise_end c.args.topo.now c.loop-prov.invariant.mesh c.loop-prov.invariant.seen c.loop-prov.invariant.counted
      (sym c.in_default.ensures.first))
      c.in_default.ensures.dropped;
  room = c.loop-prov.invariant.memory;
}

pub returns-clause-room : goal.returns-clause-room
returns-clause-room g c =
    let none : notes c.loop-prov.topo.risen ≡ 0 =
    ap length (note_none c.loop-prov.topo.risen (sym c.in_default.ensures.first)) in
    omega (arith, none, c.loop-prov.invariant.owed)

pub returns-clause-kept : goal.returns-clause-kept
returns-clause-kept g c =
    mesh_kept (without_rises c.args.topo.now) c.next_risen.new.topo (returns-clause-rest g c).mesh
    (ap (λ (v : TopoView g.row.C.Denot). seen_by_counts v.topology) c.in_default.ensures.dropped
    ∙ c.loop-prov.invariant.seen)
