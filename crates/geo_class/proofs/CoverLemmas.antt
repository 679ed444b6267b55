-- Providers whose offsets have places are covered by the maps of their geoms.
use Rattle.std.proofs.Common.{nat_lt, IfSome, IsSomeAnd, if◌then◌else◌, ◌≡◌, ℕ, ◌+◌, ◌-◌, ◌*◌, ◌<◌, ◌≤◌, Bool, true, false, List, [], ◌∷◌, Option, Some, None, sum, refl, arith}
use Rattle.std.specs.Option.{option_map}
use Rattle.std.proofs.lemmas.List.Sums.{sum_by-cons}
use Rattle.std.proofs.lemmas.Bool.Decides.{nat_tests}
use Rattle.geo_model.specs.TheConstants.{MAX_MEDIA_BYTES}
use Rattle.geo_model.specs.declared.class.EbrPart.{EbrPart}
use Rattle.geo_model.specs.declared.class.Slice.{Slice}
use Rattle.geo_model.specs.Place.{Spot, concat_spot, slice_at, part_at}
use Rattle.geo_model.specs.World.{Mbr, Ebr, Label, Concat, Stripe, Nop}
use Rattle.geo_class.specs.Cover.{WhatLiesIsCovered}

-- an offset in the first component
abbrev at_first : ℕ → Spot
at_first o = record { component = 0; offset = o }

-- the last offset of a slice or of a partition that lies before MAX_MEDIA_BYTES tells its end
placed-end : {X : Type 0} (first : X → ℕ) (part : Option X) (size : ℕ) → 1 ≤ size
    → IsSomeAnd (option_map (λ s. at_first (first s * 512 + (size - 1))) part) (λ spot. spot.offset < MAX_MEDIA_BYTES)
    → IfSome part (λ s. first s * 512 + size ≤ MAX_MEDIA_BYTES)
placed-end first (Some s) size some before = omega (arith, some, before)
placed-end first None size some before = tt

-- an offset that has a place in components one behind the other is below their sum
concat-step : (k o size rest : ℕ) (below : Bool) (spot : Option Spot) → nat_lt o size ≡ below
    → (IsSomeAnd spot (λ x. x.offset < MAX_MEDIA_BYTES) → o - size < rest)
    → IsSomeAnd (if below then Some (record { component = k; offset = o }) else spot) (λ x. x.offset < MAX_MEDIA_BYTES)
    → o < size + rest
concat-step k o size rest true spot inside later placed =
    let low : o < size = grind (arith, nat_tests) in
    omega (arith, low)
concat-step k o size rest false spot beyond later placed =
    let high : size ≤ o = grind (arith, nat_tests) in
    let left : o - size < rest = later placed in
    omega (arith, high, left)

concat-inside : (k : ℕ) (sizes : List ℕ) (o : ℕ)
    → IsSomeAnd (concat_spot k sizes o) (λ x. x.offset < MAX_MEDIA_BYTES) → o < sum sizes
concat-inside k [] o never = absurd never
concat-inside k (size ∷ sizes) o placed =
    let below : o < size + sum sizes =
    concat-step k o size (sum sizes) (nat_lt o size) (concat_spot (k + 1) sizes (o - size)) refl
    (concat-inside (k + 1) sizes (o - size)) placed in
    omega (arith, below, sum_by-cons (λ x. x) size sizes)

pub what_lies_is_covered : WhatLiesIsCovered
what_lies_is_covered (Mbr below slices) name size some lies whole long =
    placed-end (λ (s : Slice). s.first) (slice_at slices name) size some (lies (size - 1) (omega (arith, some)))
what_lies_is_covered (Ebr below parts) name size some lies whole long =
    placed-end (λ (s : EbrPart). s.first) (part_at parts name) size some (lies (size - 1) (omega (arith, some)))
what_lies_is_covered (Label below) name size some lies whole long =
    let last : size - 1 < MAX_MEDIA_BYTES = lies (size - 1) (omega (arith, some)) in
    omega (arith, some, last)
what_lies_is_covered (Concat id places sizes) name size some lies whole long =
    let last : size - 1 < sum sizes = concat-inside 0 sizes (size - 1) (lies (size - 1) (omega (arith, some))) in
    (whole, omega (arith, some, last))
what_lies_is_covered (Stripe id stripe places sizes) name size some lies whole long = (whole, long)
what_lies_is_covered (Nop below offset fail) name size some lies whole long =
    let last : offset + (size - 1) < MAX_MEDIA_BYTES = lies (size - 1) (omega (arith, some)) in
    omega (arith, some, last)
what_lies_is_covered _ name size some lies whole long = tt
