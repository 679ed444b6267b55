-- A component behind the others.
use Rattle.std.proofs.Common.{◌≡◌, ℕ, ◌+◌, ◌-◌, ◌<◌, ◌≤◌, List, [], ◌∷◌, ◌++◌, length, take, drop, set, replicate, sum, Some, refl, sym, ap, ◌∙◌, arith, zero-add, length-take-le, add-zero, inl, inr}
use Rattle.std.proofs.lemmas.Bool.{lt-ltb, le-ltb, ltb-false, cases_Bool}
use Rattle.std.proofs.lemmas.List.{take_more_set, length-set, drop-set-lt, drop-replicate, drop-drop}
use Rattle.std.proofs.lemmas.List.Sums.{sum_by-append, sum_by-cons}
use Rattle.std.specs.Prelude.{nat_lt}
use Rattle.geo_model.specs.TheConstants.{MAX_COMPONENTS, MAX_MEDIA_BYTES}
use Rattle.geo_model.specs.Place.{concat_spot}
use Rattle.geo_model.specs.World.{Concat}
use Rattle.geo_class.specs.concat.Growth.{SpotsStay, NewSpots, PlacesStay}
use Rattle.geo_class.specs.concat.Kept.{IsKept}

-- old offsets, where components are counted from k
spots_stay-from : (k : ℕ) (sizes : List ℕ) (size o : ℕ) → o < sum sizes
    → concat_spot k (sizes ++ size ∷ []) o ≡ concat_spot k sizes o
spots_stay-from k [] size o inside = absurd (omega (arith, inside))
spots_stay-from k (first ∷ sizes) size o inside = elim (cases_Bool (nat_lt o first)) [
  | inl here ↦ rw here refl
  | inr behind ↦
      let above : first ≤ o = ltb-false o first behind in
      let left : o - first < sum sizes = omega (arith, inside, sum_by-cons (λ x. x) first sizes, above) in
      rw behind (spots_stay-from (k + 1) sizes size (o - first) left)
]

-- each old offset keeps its place
pub spots_stay : SpotsStay
spots_stay sizes size o inside = spots_stay-from 0 sizes size o inside

-- new offsets, where components are counted from k
new_spots-from : (k : ℕ) (sizes : List ℕ) (size j : ℕ) → j < size
    → concat_spot k (sizes ++ size ∷ []) (sum sizes + j) ≡ Some (record { component = k + length sizes; offset = j })
new_spots-from k [] size j inside = rw (zero-add j, lt-ltb j size inside, add-zero k) refl
new_spots-from k (first ∷ sizes) size j inside =
    let whole : sum (first ∷ sizes) ≡ first + sum sizes = sum_by-cons (λ x. x) first sizes in
    let above : first ≤ sum (first ∷ sizes) + j = omega (arith, whole) in
    let left : sum (first ∷ sizes) + j - first ≡ sum sizes + j = omega (arith, whole) in
    let last : k + 1 + length sizes ≡ k + length (first ∷ sizes) = omega arith in
    rw (le-ltb (sum (first ∷ sizes) + j) first above)
    (ap (concat_spot (k + 1) (sizes ++ size ∷ [])) left ∙ new_spots-from (k + 1) sizes size j inside
    ∙ ap (λ n. Some (record { component = n; offset = j })) last)

-- each new offset lies in the new component
pub new_spots : NewSpots
new_spots sizes size j inside =
    new_spots-from 0 sizes size j inside
    ∙ ap (λ n. Some (record { component = n; offset = j })) (zero-add (length sizes))

-- each old offset of a provider keeps its place, by configurations
pub places_stay : PlacesStay
places_stay (Concat id places sizes) name consumer size o inside = spots_stay-from 0 sizes size o inside
places_stay _ name consumer size o inside = refl

-- cells that keep these sizes, of which there are fewer than MAX_COMPONENTS, and one size more for which there is room
module _ (sizes cells : List ℕ) (count size : ℕ) (kept : IsKept cells count) (same : sizes ≡ take count cells)
    (few : length sizes < MAX_COMPONENTS) where
  as_many : length sizes ≡ count
  as_many = ap length same ∙ length-take-le count cells (omega (arith, kept.whole, kept.few))

  -- the sizes with that one behind them
  pub sizes_grown : take (count + 1) (set cells count size) ≡ sizes ++ size ∷ []
  sizes_grown =
      let inside : count < length cells = omega (arith, kept.whole, few, as_many) in
      take_more_set cells count size inside ∙ ap (λ front. front ++ size ∷ []) (sym same)

  -- they are kept
  pub kept_grown : sum sizes + size ≤ MAX_MEDIA_BYTES → IsKept (set cells count size) (count + 1)
  kept_grown fits =
      let last : sum (size ∷ []) ≡ size = sum_by-cons (λ x. x) size [] ∙ add-zero size in
      record {
        whole = length-set cells count size ∙ kept.whole;
        few = omega (arith, few, as_many);
        rest =
            drop-set-lt (count + 1) cells count size (omega arith) ∙ sym (drop-drop 1 count cells)
            ∙ ap (drop 1) kept.rest
            ∙ drop-replicate 1 (MAX_COMPONENTS - count) 0 ∙ ap (λ n. replicate n 0) (omega arith);
        fits = rw sizes_grown (omega (arith, sum_by-append (λ x. x) sizes (size ∷ []), last, fits));
      }

  -- each old offset keeps its place
  pub places_kept : (o : ℕ) → o < sum sizes
      → concat_spot 0 (take (count + 1) (set cells count size)) o ≡ concat_spot 0 sizes o
  places_kept o inside = ap (λ grown. concat_spot 0 grown o) sizes_grown ∙ spots_stay sizes size o inside
