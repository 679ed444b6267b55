-- The parts named so far.
use Rattle.std.proofs.Common.{drop}
use Rattle.geo_model.specs.Names.{slice_name}
use Rattle.geo_taste.proofs.TableLemmas.{NamedSoFar}
use Rattle.geo_taste.proofs.parts.slice_parts.Given as goal

abbrev pub invariant-loop-slice : goal.invariant-loop-slice
invariant-loop-slice l =
    NamedSoFar (slice_name l.below) (λ s. s.count) l.slices l.place l.parts.items (drop l.slice-index l.slices)
