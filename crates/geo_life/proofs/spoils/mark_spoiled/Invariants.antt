-- Once those that are left to mark are marked, all are; the consumers alone changed, and counts don't see it.
use Rattle.std.proofs.Common.{◌≡◌, ◌-◌, ℕ, true}
use Rattle.geo_base.specs.declared.request.Counts.{Counts}
use Rattle.geo_model.specs.Topology.{set_marks}
use Rattle.geo_model.specs.Events.{is_to_spoil, mark_spoiled}
use Rattle.geo_mesh.specs.Graph.{IsSoundGraph}
use Rattle.geo_mesh.specs.Topo.{with_topology}
use Rattle.geo_laws_counts.specs.CountWords.{seen_by_counts}
use Rattle.geo_life.specs.Life.{AreStored}
use Rattle.geo_life.proofs.MarkWalk.{still}
use Rattle.geo_life.proofs.Rest.{IsKnown}
use Rattle.geo_life.proofs.spoils.mark_spoiled.Given as goal

abbrev pub invariant-loop-id : goal.invariant-loop-id
invariant-loop-id g l = record {
  marked : (granted : ℕ → Counts) → AreStored granted l.fn.topo → IsSoundGraph l.fn.topo.topology
      → set_marks l.topo.topology (still (is_to_spoil granted l.fn.topo.topology l.prov) l.from) true
      ≡ mark_spoiled granted l.fn.topo.topology l.prov;
  mesh : l.topo
      ≡ with_topology l.fn.topo (record l.fn.topo.topology { consumers = l.topo.topology.consumers });
  seen : seen_by_counts l.topo.topology ≡ seen_by_counts l.fn.topo.topology;
  known : IsKnown l.fn.topo l.topo;
}

abbrev pub decreases-loop-id : goal.decreases-loop-id
decreases-loop-id g l = l.topo.topology.next_consumer - l.from
