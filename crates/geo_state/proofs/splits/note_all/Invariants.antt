-- The requests noted so far.
use Rattle.std.proofs.Common.{drop}
use Rattle.geo_state.proofs.Moves.{NotedSoFar}
use Rattle.geo_state.proofs.splits.note_all.Given as goal

abbrev pub invariant-loop-target : goal.invariant-loop-target
invariant-loop-target l = NotedSoFar l.initial.topo l.topo (drop l.target-index l.targets) l.targets
