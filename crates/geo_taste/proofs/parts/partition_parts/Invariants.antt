-- The parts named so far.
use Rattle.std.proofs.Common.{drop}
use Rattle.geo_model.specs.Names.{logical_name}
use Rattle.geo_taste.proofs.TableLemmas.{NamedSoFar}
use Rattle.geo_taste.proofs.parts.partition_parts.Given as goal

abbrev pub invariant-loop-part : goal.invariant-loop-part
invariant-loop-part l =
    NamedSoFar (logical_name l.below) (λ s. s.count) l.chain l.place l.parts.items (drop l.part-index l.chain)
