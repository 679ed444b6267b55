-- The providers made so far.
use Rattle.std.proofs.Common.{drop}
use Rattle.geo_taste.proofs.TableLemmas.{OfferedSoFar}
use Rattle.geo_taste.proofs.parts.offer_parts.Given as goal

abbrev pub invariant-loop-part : goal.invariant-loop-part
invariant-loop-part l =
    OfferedSoFar l.initial.topo l.topo l.initial.queue l.queue l.geom (drop l.part-index l.parts) l.parts
