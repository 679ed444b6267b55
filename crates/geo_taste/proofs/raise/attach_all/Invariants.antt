-- The consumers made so far.
use Rattle.std.proofs.Common.{drop}
use Rattle.geo_taste.proofs.Raising.{AttachedSoFar}
use Rattle.geo_taste.proofs.raise.attach_all.Given as goal

abbrev pub invariant-loop-prov : goal.invariant-loop-prov
invariant-loop-prov l = AttachedSoFar l.initial.topo l.topo l.geom (drop l.prov-index l.provs) l.provs
