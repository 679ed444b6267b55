-- What was reached so far, once a look-up told that the graph is sound.
use Rattle.std.proofs.Common.{◌+◌, ◌-◌, length}
use Rattle.geo_mesh.specs.Graph.{IsSoundGraph}
use Rattle.geo_moves.proofs.Reaching.{IsReached, IsToldOf}
use Rattle.geo_moves.proofs.above.providers_above.Given as goal

abbrev pub invariant-loop-found : goal.invariant-loop-found
invariant-loop-found l = record {
  told : IsToldOf l.topo.topology l.fn.prov l.above.items l.next;
  reached : IsSoundGraph l.topo.topology → IsReached l.topo.topology l.fn.prov l.above.items l.next;
}

abbrev pub decreases-loop-found : goal.decreases-loop-found
decreases-loop-found l = length l.topo.topology.providers + 1 - l.next
