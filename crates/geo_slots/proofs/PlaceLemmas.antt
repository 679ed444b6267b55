-- Pages by their places: what stands at a place is what its number finds.
use Rattle.std.proofs.Common.{◌≡◌, ℕ, zero, suc, ◌+◌, ◌<◌, ◌≤◌, [], ◌∷◌, length, true, false, Some, None, sym, refl, ap, subst, ◌∙◌, inl, inr, arith}
use Rattle.std.proofs.lemmas.Bool.{cases_eq, eq-eqb, ne_eqb, ltb-true, ltb-false}
use Rattle.std.proofs.lemmas.Option.{same_Some}
use Rattle.std.specs.Prelude.{slice_set, slice_index_or, nat_lt}
use Rattle.std.specs.List.Sorted.{IsPartitionPoint}
use Rattle.std.specs.Option.{option_map}
use Rattle.std.specs.List.{slice_get, remove}
use Rattle.geo_slots.specs.Slots.{IsRising, value_at, with_value, without}
use Rattle.geo_slots.specs.Pages.{Pages, IsGap, bits_at, page_at}
use Rattle.geo_slots.specs.declared.page.Page.{Page}
use Rattle.geo_slots.proofs.RowLemmas.{IsRising_ends, value_at_below, with_value_below, without_below}

-- the page at a place
pub entry_at : (pages : Pages) (at m : ℕ) → page_at pages at ≡ Some m → (p : Page) × (slice_get pages at ≡ Some (m, p))
entry_at [] at m is = absurd cc
entry_at (q ∷ ps) zero m is = (q.1, ap (λ n. Some (n, q.1)) (same_Some _ _ is))
entry_at (q ∷ ps) (suc at) m is = entry_at ps at m is

-- the page whose bits stand at a place
pub entry_with_bits : (pages : Pages) (at m live : ℕ) → bits_at pages at ≡ Some (m, live)
    → (p : Page) × (slice_get pages at ≡ Some (m, p)) × (p.live ≡ live)
entry_with_bits [] at m live is = absurd cc
entry_with_bits (q ∷ ps) zero m live is =
    let same = same_Some _ _ is in
    (q.1, ap (λ n. Some (n, q.1)) (ap (λ x. x.0) same), ap (λ x. x.1) same)
entry_with_bits (q ∷ ps) (suc at) m live is = entry_with_bits ps at m live is

-- it lies within the bounds
pub within_here : (low at high : ℕ) (pages : Pages) (m : ℕ) → IsRising low pages high → page_at pages at ≡ Some m
    → (low ≤ m) × (m < high)
within_here low at high [] m rising is = absurd cc
within_here low zero high (q ∷ ps) m rising is =
    let same : q.0 ≡ m = same_Some _ _ is in
    let ends = IsRising_ends (q.0 + 1) ps high rising.1 in
    (omega (arith, rising.0, same), omega (arith, ends, same))
within_here low (suc at) high (q ∷ ps) m rising is =
    let rest = within_here (q.0 + 1) at high ps m rising.1 is in
    (omega (arith, rest.0, rising.0), rest.1)

-- its number finds it
pub value_here : (low at high : ℕ) (pages : Pages) (m : ℕ) (p : Page) → IsRising low pages high
    → slice_get pages at ≡ Some (m, p) → value_at pages m ≡ Some p
value_here low at high [] m p rising is = absurd cc
value_here low zero high (q ∷ ps) m p rising is =
    let same : q ≡ (m, p) = same_Some _ _ is in
    subst (λ e. value_at (e ∷ ps) m ≡ Some p) (sym same) (rw (eq-eqb m m refl) refl)
value_here low (suc at) high (q ∷ ps) m p rising is =
    let rest = within_here (q.0 + 1) at high ps m rising.1 (ap (λ o. option_map (λ e. e.0) o) is) in
    rw (ne_eqb q.0 m (λ same. omega (arith, same, rest.0))) (value_here (q.0 + 1) at high ps m p rising.1 is)

-- those before it have smaller numbers
pub before_here : (low at high : ℕ) (pages : Pages) (m : ℕ) → IsRising low pages high → page_at pages at ≡ Some m
    → (k j : ℕ) → k < at → page_at pages k ≡ Some j → j < m
before_here low at high [] m rising is k j below there = absurd cc
before_here low zero high (q ∷ ps) m rising is k j below there = absurd (omega (arith, below))
before_here low (suc at) high (q ∷ ps) m rising is zero j below there =
    let same : q.0 ≡ j = same_Some _ _ there in
    let rest = within_here (q.0 + 1) at high ps m rising.1 is in
    omega (arith, same, rest.0)
before_here low (suc at) high (q ∷ ps) m rising is (suc k) j below there =
    before_here (q.0 + 1) at high ps m rising.1 is k j (omega (arith, below)) there

-- a number between what stands before a place and what stands there has no page
pub gap : (bound m at low high : ℕ) (pages : Pages) → IsRising low pages high
    → ((k j : ℕ) → k < at → page_at pages k ≡ Some j → j < bound) → bound ≤ m
    → ((j : ℕ) → page_at pages at ≡ Some j → m < j) → value_at pages m ≡ None
gap bound m at low high [] rising before from behind = refl
gap bound m zero low high (q ∷ ps) rising before from behind =
    value_at_below m q.0 (q ∷ ps) high (omega arith, rising.1) (behind q.0 refl)
gap bound m (suc at) low high (q ∷ ps) rising before from behind =
    let lower = before 0 q.0 (omega arith) refl in
    rw (ne_eqb q.0 m (λ same. omega (arith, same, lower, from)))
    (gap bound m at (q.0 + 1) high ps rising.1 (λ k j below there. before (suc k) j (omega (arith, below)) there) from
    behind)

-- another page at a place is another under its number
pub set_here : (low at high : ℕ) (pages : Pages) (m : ℕ) (p new : Page) → IsRising low pages high
    → slice_get pages at ≡ Some (m, p) → slice_set pages at (m, new) ≡ with_value pages m new
set_here low at high [] m p new rising is = absurd cc
set_here low zero high (q ∷ ps) m p new rising is =
    let same : q.0 ≡ m = ap (λ e. e.0) (same_Some _ _ is) in
    rw (eq-eqb q.0 m same) (ap (λ xs. (m, new) ∷ xs)
    (sym (with_value_below m (q.0 + 1) new ps high rising.1 (omega (arith, same)))))
set_here low (suc at) high (q ∷ ps) m p new rising is =
    let rest = within_here (q.0 + 1) at high ps m rising.1 (ap (λ o. option_map (λ e. e.0) o) is) in
    rw (ne_eqb q.0 m (λ same. omega (arith, same, rest.0)))
    (ap (λ xs. q ∷ xs) (set_here (q.0 + 1) at high ps m p new rising.1 is))

-- without the page at a place, its number has none
pub remove_here : (low at high : ℕ) (pages : Pages) (m : ℕ) (p : Page) → IsRising low pages high
    → slice_get pages at ≡ Some (m, p) → remove pages at ≡ without pages m
remove_here low at high [] m p rising is = absurd cc
remove_here low zero high (q ∷ ps) m p rising is =
    let same : q.0 ≡ m = ap (λ e. e.0) (same_Some _ _ is) in
    rw (eq-eqb q.0 m same) (sym (without_below m (q.0 + 1) ps high rising.1 (omega (arith, same))))
remove_here low (suc at) high (q ∷ ps) m p rising is =
    let rest = within_here (q.0 + 1) at high ps m rising.1 (ap (λ o. option_map (λ e. e.0) o) is) in
    rw (ne_eqb q.0 m (λ same. omega (arith, same, rest.0)))
    (ap (λ xs. q ∷ xs) (remove_here (q.0 + 1) at high ps m p rising.1 is))

-- what is read at a place
pub entry_read : (pages : Pages) (at m : ℕ) (e : ℕ × Page) → page_at pages at ≡ Some m → e ≡ slice_index_or pages at e
    → slice_get pages at ≡ Some (m, e.1)
entry_read [] at m e is read = absurd cc
entry_read (q ∷ ps) zero m e is read =
    let same : q.0 ≡ m = same_Some _ _ is in
    ap (λ n. Some (n, q.1)) same ∙ ap (λ p. Some (m, p)) (ap (λ x. x.1) (sym read))
entry_read (q ∷ ps) (suc at) m e is read = entry_read ps at m e is read

-- a place is within the list, and its entry is what is there
pub place_within : (pages : Pages) (at m : ℕ) (d : ℕ × Page) → page_at pages at ≡ Some m
    → (at < length pages) × ((slice_index_or pages at d).0 ≡ m)
place_within [] at m d is = absurd cc
place_within (q ∷ ps) zero m d is = (omega arith, same_Some _ _ is)
place_within (q ∷ ps) (suc at) m d is =
    let rest = place_within ps at m d is in
    (omega (arith, rest.0), rest.1)

pub place_in : (pages : Pages) (at m : ℕ) → page_at pages at ≡ Some m → at < length pages
place_in [] at m is = absurd cc
place_in (q ∷ ps) zero m is = omega arith
place_in (q ∷ ps) (suc at) m is = let rest = place_in ps at m is in omega (arith, rest)

-- the numbers of the pages don't fall
pub numbers_rise : (low high : ℕ) (pages : Pages) → IsRising low pages high → (i j : ℕ) (d : ℕ × Page) → i ≤ j
    → j < length pages → (slice_index_or pages i d).0 ≤ (slice_index_or pages j d).0
numbers_rise low high [] rising i j d le within = absurd (omega (arith, within))
numbers_rise low high (q ∷ ps) rising zero zero d le within = omega arith
numbers_rise low high (q ∷ ps) rising zero (suc j) d le within =
    let first = least (q.0 + 1) high ps rising.1 j d (omega (arith, within)) in
    omega (arith, first)
  where
    least : (low high : ℕ) (pages : Pages) → IsRising low pages high → (j : ℕ) (d : ℕ × Page) → j < length pages
        → low ≤ (slice_index_or pages j d).0
    least low high [] rising j d within = absurd (omega (arith, within))
    least low high (q ∷ ps) rising zero d within = rising.0
    least low high (q ∷ ps) rising (suc j) d within =
        let rest = least (q.0 + 1) high ps rising.1 j d (omega (arith, within)) in
        omega (arith, rest, rising.0)
numbers_rise low high (q ∷ ps) rising (suc i) zero d le within = absurd (omega (arith, le))
numbers_rise low high (q ∷ ps) rising (suc i) (suc j) d le within =
    numbers_rise (q.0 + 1) high ps rising.1 i j d (omega (arith, le)) (omega (arith, within))

-- each place within the list has a page
pub number_at : (pages : Pages) (at : ℕ) (d : ℕ × Page) → at < length pages
    → page_at pages at ≡ Some (slice_index_or pages at d).0
number_at [] at d within = absurd (omega (arith, within))
number_at (q ∷ ps) zero d within = refl
number_at (q ∷ ps) (suc at) d within = number_at ps at d (omega (arith, within))

-- halving finds the gap of a page that isn't there
pub gap_found : (pages : Pages) (page at end : ℕ) → IsRising 0 pages end
    → IsPartitionPoint (λ e. nat_lt e.0 page ≡ true) (λ e. nat_lt e.0 page ≡ false) pages at
    → (page_at pages at ≡ Some page → ⊥) → IsGap pages page at
gap_found pages page at end rising point absent =
    record {
      before = λ k m below is.
          let d : ℕ × Page = (m, (entry_at pages k m is).0) in
          let here = place_within pages k m d is in
          let low = ltb-true _ page (point.0 k d (omega arith) below) in
          omega (arith, here.1, low);
      behind = λ k m from is.
          let d : ℕ × Page = (m, (entry_at pages k m is).0) in
          let here = place_within pages k m d is in
          let high = ltb-false _ page (point.1 k d from here.0) in
          let other : page ≡ m → ⊥ = λ same.
          elim (cases_eq at k) [
            | inl place ↦ absent (ap (page_at pages) place ∙ is ∙ ap Some (sym same))
            | inr before ↦
                let below : at < length pages = omega (arith, here.0, from, before) in
                let first = before_here 0 k end pages m rising is at _ (omega (arith, from, before))
                (number_at pages at d below) in
                let low = ltb-false _ page (point.1 at d (omega arith) below) in
                omega (arith, first, low, same)
          ] in
          omega (arith, here.1, high, other);
    }
