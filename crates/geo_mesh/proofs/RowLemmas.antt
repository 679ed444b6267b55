-- Lists of rows after a change of one row, as they are seen.
use Rattle.std.specs.Prelude.{◌≡◌, ℕ, ◌+◌, ◌<◌, ◌==◌, Bool, true, not, List, [], ◌∷◌, Some, map, filter, find, option_map, IsSome, Option, None}
use Rattle.std.proofs.Common.{refl, ap, sym, ◌∙◌, arith, inl, inr, rules}
use Rattle.std.proofs.lemmas.Bool.{eqb-true, cases_Bool}
use Rattle.geo_model.specs.Words.{change_where}
use Rattle.geo_slots.specs.Slots.{SlotsView, IsRising, value_at, with_value, without}
use Rattle.geo_mesh.specs.Rows.{rows_with, change_at}
use Rattle.geo_mesh.specs.declared.records.Scratch.{Scratch}
use Rattle.geo_mesh.specs.declared.records.GeomRec.{GeomRec}
use Rattle.geo_mesh.specs.declared.records.GeomCell.{GeomCell}
use Rattle.geo_mesh.specs.Ranks.{bare, without_rank}

-- each row under the number has the value
abbrev pub OnlyValue : {T : Type 0} → ℕ → T → List (ℕ × T) → Type 0
OnlyValue n v [] = Unit {0}
OnlyValue n v (row ∷ rows) = ((row.0 == n) ≡ true → row ≡ (n, v)) × OnlyValue n v rows

module _ {T : Type 0} where
  -- past the number there is no row under it
  past : (n low high : ℕ) (v : T) (rows : List (ℕ × T)) → n < low → IsRising low rows high → OnlyValue n v rows
  past n low high v [] above rising = tt
  past n low high v (row ∷ rows) above rising =
      search (rules, past n (row.0 + 1) high v rows (omega (arith, rising.0)) rising.1)

  -- in rising rows the value under a number is the only one
  pub only_value : (n low high : ℕ) (v : T) (rows : List (ℕ × T)) → IsRising low rows high
      → value_at rows n ≡ Some v → OnlyValue n v rows
  only_value n low high v [] rising at = tt
  only_value n low high v (row ∷ rows) rising at =
      elim (cases_Bool (row.0 == n)) [
        | inl e ↦
            let same : row.0 ≡ n = eqb-true row.0 n e in
            search (rules, past n (row.0 + 1) high v rows (omega arith) rising.1)
        | inr e ↦ search (rules, only_value n (row.0 + 1) high v rows rising.1 (rw e at at))
      ]

module _ {T Y : Type 0} (f : ℕ × T → Y) (n : ℕ) where
  -- the rows with another value under a number, seen by f: the one thing that is seen under the number changes
  pub map-with_value : (test : Y → Bool) (change : Y → Y) (v w : T) → ((row : ℕ × T) → test (f row) ≡ (row.0 == n))
      → f (n, w) ≡ change (f (n, v)) → (rows : List (ℕ × T)) → OnlyValue n v rows
      → map f (with_value rows n w) ≡ change_where test change (map f rows)
  map-with_value test change v w same so [] is = refl
  map-with_value test change v w same so (row ∷ rows) is =
      grind (arith, same row, is.0, so, map-with_value test change v w same so rows is.1)

  -- where f sees the same under the number, it sees the same rows
  pub map-with_value_same : (v w : T) → f (n, w) ≡ f (n, v) → (rows : List (ℕ × T)) → OnlyValue n v rows
      → map f (with_value rows n w) ≡ map f rows
  map-with_value_same v w so [] is = refl
  map-with_value_same v w so (row ∷ rows) is = grind (arith, is.0, so, map-with_value_same v w so rows is.1)

module _ {T U : Type 0} (h : T → U) (n : ℕ) where
  -- another value under a number, seen otherwise
  pub rows_with-with_value : (w : T) (rows : List (ℕ × T))
      → rows_with h (with_value rows n w) ≡ with_value (rows_with h rows) n (h w)
  rows_with-with_value w [] = refl
  rows_with-with_value w (row ∷ rows) = grind (arith, rows_with-with_value w rows)

module _ {T Y : Type 0} (f : ℕ × T → Y) (n : ℕ) where
  -- the rows without a number, seen by f
  pub map-without : (test : Y → Bool) → ((row : ℕ × T) → test (f row) ≡ (row.0 == n)) → (rows : List (ℕ × T))
      → map f (without rows n) ≡ filter (λ y. not (test y)) (map f rows)
  map-without test same [] = refl
  map-without test same (row ∷ rows) = grind (arith, same row, map-without test same rows)

  -- what is seen under a number
  pub find-map : (test : Y → Bool) → ((row : ℕ × T) → test (f row) ≡ (row.0 == n)) → (rows : List (ℕ × T))
      → find test (map f rows) ≡ option_map (λ v. f (n, v)) (value_at rows n)
  find-map test same [] = refl
  find-map test same (row ∷ rows) = search (rules, find-map test same rows)

module _ {T U : Type 0} (h : T → U) (n : ℕ) where
  -- another value under a number, where what is seen of it is a change of what was seen
  pub rows_with-change_at : (change : U → U) (v w : T) → h w ≡ change (h v) → (rows : List (ℕ × T)) → OnlyValue n v rows
      → rows_with h (with_value rows n w) ≡ change_at change (rows_with h rows) n
  rows_with-change_at change v w so [] is = refl
  rows_with-change_at change v w so (row ∷ rows) is =
      grind (arith, is.0, so, rows_with-change_at change v w so rows is.1)

  -- what is seen of the value under a number
  pub value_at-rows_with : (rows : List (ℕ × T)) → value_at (rows_with h rows) n ≡ option_map h (value_at rows n)
  value_at-rows_with [] = refl
  value_at-rows_with (row ∷ rows) = grind (arith, value_at-rows_with rows)

-- what is seen of all rows is as before, if it is so of the cell under the number
pub rows_kept : {T Y : Type 0} (s : SlotsView T) (n : ℕ) (v w : T) → IsRising 1 s.rows s.next
    → value_at s.rows n ≡ Some v
    → (f : ℕ × T → Y) → f (n, w) ≡ f (n, v) → map f (with_value s.rows n w) ≡ map f s.rows
rows_kept s n v w rising at f same = map-with_value_same f n v w same s.rows (only_value n 1 s.next v s.rows rising at)

-- it changes there alone, where the test tells the number
pub rows_changed : {T Y : Type 0} (s : SlotsView T) (n : ℕ) (v w : T) → IsRising 1 s.rows s.next
    → value_at s.rows n ≡ Some v → (f : ℕ × T → Y) (test : Y → Bool) → ((row : ℕ × T) → test (f row) ≡ (row.0 == n))
    → (change : Y → Y) → f (n, w) ≡ change (f (n, v))
    → map f (with_value s.rows n w) ≡ change_where test change (map f s.rows)
rows_changed s n v w rising at f test tells change so =
    map-with_value f n test change v w tells so s.rows (only_value n 1 s.next v s.rows rising at)

-- what is seen is there
pub row_there : {X Y : Type 0} (f : X → Y) (o : Option X) → IsSome (option_map f o) → IsSome o
row_there f None there = there
row_there f (Some v) there = refl

-- something stands under a number where it does in the rows seen otherwise
pub seen-some : {T U : Type 0} (h : T → U) (n : ℕ) (rows : List (ℕ × T)) → IsSome (value_at (rows_with h rows) n)
    → IsSome (value_at rows n)
seen-some h n rows there = row_there h (value_at rows n) (rw (value_at-rows_with h n rows) at there)

-- what is seen of the geoms beside their ranks
module _ {C Y : Type 0} (f : ℕ × (GeomRec C × Scratch) → Y) where
  -- by all but the ranks
  map-rest : (rows : List (ℕ × GeomCell C))
      → map (λ row. f (row.0, (row.1.geom, row.1.scratch))) rows ≡ map f (rows_with (without_rank {C = C}) rows)
  map-rest [] = refl
  map-rest (row ∷ rows) = ap (λ xs. f (row.0, (row.1.geom, row.1.scratch)) ∷ xs) (map-rest rows)

  -- it is the same with other ranks
  pub map-bare : (gs ns : SlotsView (GeomCell C)) → bare ns ≡ bare gs
      → map (λ (row : ℕ × GeomCell C). f (row.0, (row.1.geom, row.1.scratch))) ns.rows
      ≡ map (λ (row : ℕ × GeomCell C). f (row.0, (row.1.geom, row.1.scratch))) gs.rows
  map-bare gs ns same = map-rest ns.rows ∙ ap (λ s. map f s.rows) same ∙ sym (map-rest gs.rows)

-- The first among rows, by what the rows are seen as.

module _ {T Y : Type 0} (f : ℕ × T → Y) (name : Y → ℕ) (test : Y → Bool) (passed : ℕ × T → Bool)
    (same_name : (row : ℕ × T) → name (f row) ≡ row.0) (same : (row : ℕ × T) → test (f row) ≡ passed row) where
  -- the number of the first that passes, seen by f
  pub first-map : (rows : List (ℕ × T))
      → option_map name (find test (map f rows)) ≡ option_map (λ r. r.0) (find passed rows)
  first-map [] = refl
  first-map (row ∷ rows) = grind (arith, same row, same_name row, first-map rows)
