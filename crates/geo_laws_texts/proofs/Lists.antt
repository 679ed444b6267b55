-- A fact of each item of a list, after items were changed, dropped, added and counted.
use Rattle.std.specs.Prelude.{ℕ, zero, suc, ◌+◌, Bool, true, false, cond, List, [], ◌∷◌, find, fold, zip, Some, IfSome, slice_get, slice_set, if◌then◌else◌}
use Rattle.std.specs.List.{AllByRecursion, enumerate_from}
use Rattle.geo_model.specs.Words.{change_where}

module _ {X : Type 0} (P : X → Type 0) where
  -- a change that keeps the fact
  pub all_changed : (hit : X → Bool) (change : X → X) → ((x : X) → P x → P (change x)) → (xs : List X)
      → AllByRecursion P xs → AllByRecursion P (change_where hit change xs)
  all_changed hit change keeps [] all = tt
  all_changed hit change keeps (x ∷ xs) all = (one (hit x), all_changed hit change keeps xs all.1)
    where
      one : (b : Bool) → P (if b then change x else x)
      one true = keeps x all.0
      one false = all.0

  -- another one in a place
  pub all_placed : (xs : List X) (k : ℕ) (x : X) → P x → AllByRecursion P xs → AllByRecursion P (slice_set xs k x)
  all_placed [] k x new all = tt
  all_placed (y ∷ xs) zero x new all = (new, all.1)
  all_placed (y ∷ xs) (suc k) x new all = (all.0, all_placed xs k x new all.1)

  -- the one in a place
  pub fact_at : (xs : List X) (k : ℕ) → AllByRecursion P xs → IfSome (slice_get xs k) P
  fact_at [] k all = tt
  fact_at (x ∷ xs) zero all = all.0
  fact_at (x ∷ xs) (suc k) all = fact_at xs k all.1

  -- the one that is found among them with their places
  pub fact_found : (test : ℕ × X → Bool) (k : ℕ) (xs : List X) → AllByRecursion P xs
      → IfSome (find test (enumerate_from k xs)) (λ item. P item.1)
  fact_found test k [] all = tt
  fact_found test k (x ∷ xs) all = by (test (k, x)) (fact_found test (k + 1) xs all.1)
    where
      by : (b : Bool) → IfSome (find test (enumerate_from (k + 1) xs)) (λ item. P item.1)
          → IfSome (cond b (Some (k, x)) (find test (enumerate_from (k + 1) xs))) (λ item. P item.1)
      by true rest = all.0
      by false rest = rest

  -- each of them with its place
  pub all_counted : (k : ℕ) (xs : List X) → AllByRecursion P xs
      → AllByRecursion (λ (item : ℕ × X). P item.1) (enumerate_from k xs)
  all_counted k [] all = tt
  all_counted k (x ∷ xs) all = (all.0, all_counted (k + 1) xs all.1)

  -- each of them with another item
  pub all_paired : {Y : Type 0} (xs : List X) (ys : List Y) → AllByRecursion P xs
      → AllByRecursion (λ (pair : X × Y). P pair.0) (zip xs ys)
  all_paired [] ys all = tt
  all_paired (x ∷ xs) [] all = tt
  all_paired (x ∷ xs) (y ∷ ys) all = (all.0, all_paired xs ys all.1)

-- what each step over the items keeps holds after all of them
pub kept_over : {A X : Type 0} (Q : A → Type 0) (P : X → Type 0) (f : A → X → A)
    → ((a : A) (x : X) → Q a → P x → Q (f a x)) → (xs : List X) (a : A) → AllByRecursion P xs → Q a → Q (fold f a xs)
kept_over Q P f keeps [] a all so = so
kept_over Q P f keeps (x ∷ xs) a all so = kept_over Q P f keeps xs (f a x) all.1 (keeps a x so all.0)

-- one of two
pub either : {A : Type 0} (Q : A → Type 0) (a c : A) (b : Bool) → Q a → Q c → Q (if b then a else c)
either Q a c true first second = first
either Q a c false first second = second
