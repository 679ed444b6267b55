-- Sums over lists in order of numbers, of which one item is changed or goes.
use Rattle.std.specs.Prelude.{◌≡◌, ℕ, ◌+◌, ◌<◌, ◌==◌, Bool, true, false, not, List, [], ◌∷◌, map, filter, find, length, sum_by, Some}
use Rattle.std.specs.List.{AllByRecursion}
use Rattle.std.proofs.Common.{refl, ap, arith}
use Rattle.std.proofs.lemmas.Bool.{ne_eqb, eqb-true}
use Rattle.std.proofs.lemmas.List.Sums.{sum_by-cons}
use Rattle.geo_base.proofs.FilterLists.{keeps_all}
use Rattle.geo_base.proofs.AllLists.{all_weaker}
use Rattle.geo_model.specs.Words.{change_where}
use Rattle.geo_model.specs.Graph.{AreNumbers}
use Rattle.geo_laws_graph.proofs.Lists.{Rise, rise-from, unhit}

-- each item counts one
pub ones : {X : Type 0} (xs : List X) → sum_by (λ x. 1) xs ≡ length xs
ones [] = refl
ones (x ∷ xs) = omega (arith, sum_by-cons (λ y. 1) x xs, ones xs)

module _ {X : Type 0} (number : X → ℕ) (n : ℕ) where
  -- whether an item has the number, and whether it has another
  abbrev has : X → Bool
  has x = number x == n

  abbrev other : X → Bool
  other x = not (number x == n)

  -- numbers that rise from above it are others
  others : (low high : ℕ) (xs : List X) → n < low → Rise low (map number xs) high
      → AllByRecursion (λ (x : X). (number x == n) ≡ false) xs
  others low high [] above rise = tt
  others low high (x ∷ xs) above rise = (
    ne_eqb (number x) n (λ same. omega (arith, same, above, rise.0)),
    others (number x + 1) high xs (omega (arith, above, rise.0)) rise.2,
  )

  -- so are those behind an item of the number
  behind : (y : X) (ys : List X) (low high : ℕ) → (number y == n) ≡ true → Rise low (map number (y ∷ ys)) high
      → AllByRecursion (λ (x : X). (number x == n) ≡ false) ys
  behind y ys low high e rise =
      let is : number y ≡ n = eqb-true (number y) n e in
      others (number y + 1) high ys (omega (arith, is)) rise.2

  -- items of another number stay
  stay : (xs : List X) → AllByRecursion (λ (x : X). (number x == n) ≡ false) xs → filter other xs ≡ xs
  stay xs facts =
      keeps_all other xs
      (all_weaker (λ (x : X). (number x == n) ≡ false) (λ (x : X). other x ≡ true) (λ x e. rw e refl) xs facts)

  module _ (f : X → ℕ) (x : X) where
    -- one item more, the one that goes or another
    gone_step : (y : X) (ys : List X) (low high : ℕ) (b : Bool) → (number y == n) ≡ b
        → find has (y ∷ ys) ≡ Some x → Rise low (map number (y ∷ ys)) high
        → (find has ys ≡ Some x → sum_by f (filter other ys) + f x ≡ sum_by f ys)
        → sum_by f (filter other (y ∷ ys)) + f x ≡ sum_by f (y ∷ ys)
    gone_step y ys low high true e found rise rest =
        let one : Some y ≡ Some x = rw e at found in
        let is : y ≡ x = cc in
        let kept = stay ys (behind y ys low high e rise) in
        rw e (omega (arith, ap (sum_by f) kept, ap f is, sum_by-cons f y ys))
    gone_step y ys low high false e found rise rest =
        rw e
        (omega (arith, sum_by-cons f y ys, sum_by-cons f y (filter other ys), rest (rw e at found)))

    -- the item of the number goes with what it counts
    gone_rise : (xs : List X) (low high : ℕ) → find has xs ≡ Some x → Rise low (map number xs) high
        → sum_by f (filter other xs) + f x ≡ sum_by f xs
    gone_rise [] low high found rise = absurd (let no : ⊥ = cc in no)
    gone_rise (y ∷ ys) low high found rise =
        gone_step y ys low high (number y == n) refl found rise (λ e. gone_rise ys (number y + 1) high e rise.2)

    -- so in a list in order
    pub sum_gone : (next : ℕ) (xs : List X) → AreNumbers (map number xs) next → find has xs ≡ Some x
        → sum_by f (filter other xs) + f x ≡ sum_by f xs
    sum_gone next xs are found = gone_rise xs 0 next found (rise-from next (map number xs) are)

    module _ (change : X → X) where
      -- one item more, the one that is changed or another
      changed_step : (y : X) (ys : List X) (low high : ℕ) (b : Bool) → (number y == n) ≡ b
          → find has (y ∷ ys) ≡ Some x → Rise low (map number (y ∷ ys)) high
          → (find has ys ≡ Some x → sum_by f (change_where has change ys) + f x ≡ sum_by f ys + f (change x))
          → sum_by f (change_where has change (y ∷ ys)) + f x ≡ sum_by f (y ∷ ys) + f (change x)
      changed_step y ys low high true e found rise rest =
          let one : Some y ≡ Some x = rw e at found in
          let is : y ≡ x = cc in
          let kept = unhit has change ys (behind y ys low high e rise) in
          rw e
          (omega (
            arith,
            ap (sum_by f) kept,
            ap f is,
            ap (λ (z : X). f (change z)) is,
            sum_by-cons f y ys,
            sum_by-cons f (change y) (change_where has change ys),
          ))
      changed_step y ys low high false e found rise rest =
          rw e
          (omega (
            arith,
            sum_by-cons f y ys,
            sum_by-cons f y (change_where has change ys),
            rest (rw e at found),
          ))

      -- the item of the number counts what it counts when it is changed
      changed_rise : (xs : List X) (low high : ℕ) → find has xs ≡ Some x → Rise low (map number xs) high
          → sum_by f (change_where has change xs) + f x ≡ sum_by f xs + f (change x)
      changed_rise [] low high found rise = absurd (let no : ⊥ = cc in no)
      changed_rise (y ∷ ys) low high found rise =
          changed_step y ys low high (number y == n) refl found rise
          (λ e. changed_rise ys (number y + 1) high e rise.2)

      -- so in a list in order
      pub sum_changed : (next : ℕ) (xs : List X) → AreNumbers (map number xs) next → find has xs ≡ Some x
          → sum_by f (change_where has change xs) + f x ≡ sum_by f xs + f (change x)
      sum_changed next xs are found = changed_rise xs 0 next found (rise-from next (map number xs) are)

-- where what is left out counts nothing, the sum stays
kept_step : {X : Type 0} (f : X → ℕ) (keep : X → Bool) (x : X) (xs : List X) (b : Bool) → keep x ≡ b
    → (keep x ≡ false → f x ≡ 0) → sum_by f (filter keep xs) ≡ sum_by f xs
    → sum_by f (filter keep (x ∷ xs)) ≡ sum_by f (x ∷ xs)
kept_step f keep x xs true e none rest =
    rw e (omega (arith, rest, sum_by-cons f x xs, sum_by-cons f x (filter keep xs)))
kept_step f keep x xs false e none rest = rw e (omega (arith, rest, sum_by-cons f x xs, none e))

-- so for the whole list
pub sum_of_kept : {X : Type 0} (f : X → ℕ) (keep : X → Bool) (xs : List X)
    → AllByRecursion (λ (x : X). keep x ≡ false → f x ≡ 0) xs → sum_by f (filter keep xs) ≡ sum_by f xs
sum_of_kept f keep [] facts = refl
sum_of_kept f keep (x ∷ xs) facts = kept_step f keep x xs (keep x) refl facts.0 (sum_of_kept f keep xs facts.1)
