-- The rows of the numbers below the next one, as their values are looked up, changed, put in and taken out.
use Rattle.std.proofs.Common.{◌≡◌, ◌≢◌, ℕ, zero, suc, ◌+◌, ◌<◌, ◌≤◌, List, [], ◌∷◌, ◌++◌, ◌==◌, Option, Some, None, IsSome, not, nat_le, find, sym, refl, ap, subst, ◌∙◌, inl, inr, arith, rules}
use Rattle.std.proofs.lemmas.Bool.{cases_eq, eq-eqb, ne_eqb}
use Rattle.std.proofs.lemmas.List.{append-nil, map-append}
use Rattle.std.proofs.lemmas.List.Elements.{filter-append}
use Rattle.std.proofs.lemmas.List.Folds.{find-append}
use Rattle.std.specs.Prelude.{if◌then◌else◌}
use Rattle.std.specs.Option.{option_map, option_or}
use Rattle.geo_slots.specs.Slots.{IsRising, value_at, first_from, with_value, without}
use Rattle.geo_slots.specs.Pages.{IsFirst}
use Rattle.geo_slots.specs.Index.{row_of, rows_below}
use Rattle.geo_slots.proofs.RowLemmas.{IsRising-push, value_at_next, value_at-last, value_at-other}

module _ {T : Type 0} where
  -- rows that rise below a number rise below the next one too
  IsRising_to : (low : ℕ) (rows : List (ℕ × T)) (high : ℕ) → IsRising low rows high → IsRising low rows (high + 1)
  IsRising_to low [] high rising = omega (arith, rising)
  IsRising_to low (row ∷ rows) high rising = (rising.0, IsRising_to (row.0 + 1) rows high rising.1)

  rising-push : (o : Option T) (low : ℕ) (rows : List (ℕ × T)) (n : ℕ) → IsRising low rows n
      → IsRising low (rows ++ row_of (λ _. o) n) (n + 1)
  rising-push (Some v) low rows n rising = IsRising-push low rows n v rising
  rising-push None low rows n rising = rw (append-nil rows) (IsRising_to low rows n rising)

  here_push : (o : Option T) (n : ℕ) (rows : List (ℕ × T)) → value_at rows n ≡ None
      → value_at (rows ++ row_of (λ _. o) n) n ≡ o
  here_push (Some v) n rows none = value_at-last n v rows none
  here_push None n rows none = rw (append-nil rows) none

  other_push : (o : Option T) (n m : ℕ) (rows : List (ℕ × T)) → (n ≡ m → ⊥)
      → value_at (rows ++ row_of (λ _. o) n) m ≡ value_at rows m
  other_push (Some v) n m rows other = value_at-other n m v rows other
  other_push None n m rows other = ap (λ xs. value_at xs m) (append-nil rows)

  find_row : (o : Option T) (n k : ℕ) → (n ≤ k → o ≡ None) → find (λ row. nat_le n row.0) (row_of (λ _. o) k) ≡ None
  find_row None n k none = refl
  find_row (Some v) n k none = grind (arith, none)

  found_row : (o : Option T) (n k : ℕ) → IsSome o → n ≤ k
      → option_map (λ row. row.0) (find (λ row. nat_le n row.0) (row_of (λ _. o) k)) ≡ Some k
  found_row None n k some below = absurd cc
  found_row (Some v) n k some below = search (rules, below)

  first_or : (o p : Option (ℕ × T)) (m : ℕ) → option_map (λ row. row.0) o ≡ Some m
      → option_map (λ row. row.0) (option_or o p) ≡ Some m
  first_or None p m found = absurd cc
  first_or (Some row) p m found = found

  row_with : (k n : ℕ) (w : T) (o p : Option T) → (k ≡ n → IsSome o × (p ≡ Some w)) → (k ≢ n → p ≡ o)
      → row_of (λ _. p) k ≡ with_value (row_of (λ _. o) k) n w
  row_with k n w o p here there = elim (cases_eq k n) [
    | inl same ↦ changed o p same (here same).0 (here same).1
    | inr other ↦ rw (there other) (stays o other)
  ]
    where
      changed : (o p : Option T) → k ≡ n → IsSome o → p ≡ Some w → row_of (λ _. p) k ≡ with_value (row_of (λ _. o) k) n w
      changed None p same some is = absurd cc
      changed (Some v) p same some is = rw (is, eq-eqb k n same) (ap (λ m. (m, w) ∷ []) same)

      stays : (o : Option T) → k ≢ n → row_of (λ _. o) k ≡ with_value (row_of (λ _. o) k) n w
      stays None other = refl
      stays (Some v) other = rw (ne_eqb k n other) refl

  row_without : (k n : ℕ) (o p : Option T) → (k ≡ n → p ≡ None) → (k ≢ n → p ≡ o)
      → row_of (λ _. p) k ≡ without (row_of (λ _. o) k) n
  row_without k n o p here there = elim (cases_eq k n) [
    | inl same ↦ rw (here same) (gone o same)
    | inr other ↦ rw (there other) (stays o other)
  ]
    where
      gone : (o : Option T) → k ≡ n → [] ≡ without (row_of (λ _. o) k) n
      gone None same = refl
      gone (Some v) same = rw (eq-eqb k n same) refl

      stays : (o : Option T) → k ≢ n → row_of (λ _. o) k ≡ without (row_of (λ _. o) k) n
      stays None other = refl
      stays (Some v) other = rw (ne_eqb k n other) refl

  module _ (values : ℕ → Option T) where
    -- the rows rise
    pub rising_below : (next : ℕ) → values 0 ≡ None → 1 ≤ next → IsRising 1 (rows_below values next) next
    rising_below zero none some = absurd (omega (arith, some))
    rising_below (suc zero) none some = rw none (omega arith)
    rising_below (suc (suc n)) none some =
        let more = rising-push (values (suc n)) 1 (rows_below values (suc n)) (suc n)
        (rising_below (suc n) none (omega arith)) in
        let e : suc n + 1 ≡ suc (suc n) = omega arith in
        subst (λ h. IsRising 1 (rows_below values (suc (suc n))) h) e more

    -- the rows have the numbers' values
    pub value_below : (next n : ℕ) → values 0 ≡ None → 1 ≤ next → n < next
        → value_at (rows_below values next) n ≡ values n
    value_below zero n none some below = absurd (omega (arith, some))
    value_below (suc zero) n none some below =
        let first : n ≡ 0 = omega (arith, below) in
        rw (none, first, none) refl
    value_below (suc (suc k)) n none some below =
        elim (cases_eq (suc k) n) [
          | inl same ↦
              let rising = rising_below (suc k) none (omega arith) in
              let past = value_at_next (suc k) 1 (rows_below values (suc k)) (suc k) rising (omega arith) in
              subst (λ m. value_at (rows_below values (suc (suc k))) m ≡ values m) same
              (here_push (values (suc k)) (suc k) (rows_below values (suc k)) past)
          | inr other ↦
              other_push (values (suc k)) (suc k) n (rows_below values (suc k)) other
              ∙ value_below (suc k) n none (omega arith) (omega (arith, below, other))
        ]

    -- no number from one on has a value, so none is found
    none_below : (next n : ℕ) → ((k : ℕ) → n ≤ k → k < next → values k ≡ None)
        → find (λ row. nat_le n row.0) (rows_below values next) ≡ None
    none_below zero n none = refl
    none_below (suc k) n none =
        find-append (λ row. nat_le n row.0) (rows_below values k) (row_of values k)
        ∙ ap (λ o. option_or o (find (λ row. nat_le n row.0) (row_of values k)))
        (none_below k n (λ j from below. none j from (omega (arith, below))))
        ∙ find_row (values k) n k (λ from. none k from (omega arith))

    some_below : (next n m : ℕ) → n ≤ m → m < next → IsSome (values m) → ((k : ℕ) → n ≤ k → k < m → values k ≡ None)
        → first_from (rows_below values next) n ≡ Some m
    some_below zero n m from below some none = absurd (omega (arith, below))
    some_below (suc k) n m from below some none =
        ap (option_map (λ row. row.0)) (find-append (λ row. nat_le n row.0) (rows_below values k) (row_of values k))
        ∙ elim (cases_eq k m) [
          | inl same ↦
              let before = none_below k n (λ j low high. none j low (omega (arith, high, same))) in
              ap (λ o. option_map (λ row. row.0) (option_or o (find (λ row. nat_le n row.0) (row_of values k)))) before
              ∙ found_row (values k) n k (subst (λ j. IsSome (values j)) (sym same) some) (omega (arith, from, same))
              ∙ ap Some same
          | inr other ↦
              first_or _ _ m (some_below k n m from (omega (arith, below, other)) some none)
        ]

    -- the first number with a value is that of the first row
    pub first_below : (next n : ℕ) (found : Option ℕ) → IsFirst values n next found
        → found ≡ first_from (rows_below values next) n
    first_below next n None first = sym (ap (option_map (λ row. row.0)) (none_below next n first))
    first_below next n (Some m) first = sym (some_below next n m first.0 first.1 first.2 first.3)

  module _ (old new : ℕ → Option T) where
    -- the same values, the same rows
    pub same_below : (next : ℕ) → ((k : ℕ) → k < next → new k ≡ old k) → rows_below new next ≡ rows_below old next
    same_below zero same = refl
    same_below (suc k) same =
        ap (λ xs. xs ++ row_of new k) (same_below k (λ j below. same j (omega (arith, below))))
        ∙ ap (λ o. rows_below old k ++ row_of (λ _. o) k) (same k (omega arith))

  module _ (old new : ℕ → Option T) (n : ℕ) where
    -- another value under a number that has one
    pub with_below : (next : ℕ) (w : T) → IsSome (old n) → new n ≡ Some w → ((k : ℕ) → k ≢ n → new k ≡ old k)
        → rows_below new next ≡ with_value (rows_below old next) n w
    with_below zero w some here others = refl
    with_below (suc k) w some here others =
        ap (λ xs. xs ++ row_of new k) (with_below k w some here others)
        ∙ ap (λ xs. with_value (rows_below old k) n w ++ xs)
        (row_with k n w (old k) (new k)
        (λ same. (subst (λ j. IsSome (old j)) (sym same) some, ap new same ∙ here)) (others k))
        ∙ sym (map-append (λ row. if row.0 == n then (n, w) else row) (rows_below old k) (row_of old k))

    -- a number without its value
    pub without_below : (next : ℕ) → new n ≡ None → ((k : ℕ) → k ≢ n → new k ≡ old k)
        → rows_below new next ≡ without (rows_below old next) n
    without_below zero here others = refl
    without_below (suc k) here others =
        ap (λ xs. xs ++ row_of new k) (without_below k here others)
        ∙ ap (λ xs. without (rows_below old k) n ++ xs)
        (row_without k n (old k) (new k) (λ same. ap new same ∙ here) (others k))
        ∙ sym (filter-append (λ row. not (row.0 == n)) (rows_below old k) (row_of old k))
