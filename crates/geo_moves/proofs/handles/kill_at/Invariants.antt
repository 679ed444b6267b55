-- Once the handles of the consumers left are dead, all are; nothing but handles changed, and all is kept.
use Rattle.std.proofs.Common.{◌-◌}
use Rattle.geo_state.specs.Holds.{Holds}
use Rattle.geo_moves.proofs.Dying.{KilledSoFar}
use Rattle.geo_moves.proofs.handles.kill_at.Given as goal

abbrev pub invariant-loop-cons : goal.invariant-loop-cons
invariant-loop-cons l = record {
  far : KilledSoFar l.fn.state l.state l.prov l.from;
  kept : Holds l.state;
}

abbrev pub decreases-loop-cons : goal.decreases-loop-cons
decreases-loop-cons l = l.state.topo.topology.next_consumer - l.from
