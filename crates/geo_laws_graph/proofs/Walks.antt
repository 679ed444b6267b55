-- Walks over lists in order of numbers.
use Rattle.std.specs.Prelude.{◌≡◌, ℕ, ◌+◌, ◌<◌, ◌≤◌, nat_le, Bool, true, false, List, [], ◌∷◌, find, map, Some, None}
use Rattle.std.specs.Option.{option_map}
use Rattle.std.proofs.Common.{refl, sym, ap, ◌∙◌, arith}
use Rattle.std.proofs.lemmas.Bool.{le-leb, lt-leb, leb-true, leb-false}
use Rattle.geo_laws_graph.specs.LookupLaws.{left_from, IsStep, WalksMeetAll}
use Rattle.geo_laws_graph.proofs.Lists.{Rise, rise-from, numbers-kept}

module _ {X : Type 0} (number : X → ℕ) where
  -- all is left where the numbers begin no earlier
  all_left : (from_number low high : ℕ) (xs : List X) → Rise low (map number xs) high → from_number ≤ low
      → left_from number from_number xs ≡ xs
  all_left from_number low high [] rise below = refl
  all_left from_number low high (x ∷ xs) rise below =
      rw (le-leb from_number (number x) (omega (arith, rise.0)))
      (ap (λ ys. x ∷ ys) (all_left from_number (number x + 1) high xs rise.2 (omega (arith, rise.0))))

  -- at the beginning all is left
  pub walk-begin : (xs : List X) → left_from number 0 xs ≡ xs
  walk-begin [] = refl
  walk-begin (x ∷ xs) = rw (le-leb 0 (number x) (omega arith)) (ap (λ ys. x ∷ ys) (walk-begin xs))

  -- an item that isn't left is passed over
  passed : (from_number : ℕ) (x : X) (xs : List X) → number x < from_number
      → left_from number from_number (x ∷ xs) ≡ left_from number from_number xs
  passed from_number x xs before = rw (lt-leb from_number (number x) before) refl

  -- where nothing comes next, nothing is left
  rest_step : (from_number : ℕ) (x : X) (xs : List X) (b : Bool) → nat_le from_number (number x) ≡ b
      → option_map number (find (λ y. nat_le from_number (number y)) (x ∷ xs)) ≡ None
      → (option_map number (find (λ y. nat_le from_number (number y)) xs) ≡ None → left_from number from_number xs ≡ [])
      → left_from number from_number (x ∷ xs) ≡ []
  rest_step from_number x xs true e none so = let never = rw e at none in absurd (cc)
  rest_step from_number x xs false e none so = rw e (so (rw e at none))

  -- a walk ends where nothing is left
  pub walk-rest : (xs : List X) (from_number : ℕ)
      → option_map number (find (λ y. nat_le from_number (number y)) xs) ≡ None → left_from number from_number xs ≡ []
  walk-rest [] from_number none = refl
  walk-rest (x ∷ xs) from_number none =
      rest_step from_number x xs (nat_le from_number (number x)) refl none (walk-rest xs from_number)

  -- a step of a walk over one item more, which comes next or was passed
  more_step : (next from_number n low : ℕ) (x : X) (xs : List X) (b : Bool) → nat_le from_number (number x) ≡ b
      → Rise low (map number (x ∷ xs)) next
      → option_map number (find (λ y. nat_le from_number (number y)) (x ∷ xs)) ≡ Some n
      → (option_map number (find (λ y. nat_le from_number (number y)) xs) ≡ Some n
      → IsStep number xs next from_number n)
      → IsStep number (x ∷ xs) next from_number n
  more_step next from_number n low x xs true e rise first so =
      let found : Some (number x) ≡ Some n = rw e at first in
      let here : number x ≡ n = cc in
      let past : from_number ≤ number x = leb-true from_number (number x) e in
      record {
        item = x;
        is = here;
        left =
            rw (e, all_left from_number (number x + 1) next xs rise.2 (omega arith))
            (ap (λ ys. x ∷ ys)
            (sym (passed (n + 1) x xs (omega arith)
            ∙ all_left (n + 1) (number x + 1) next xs rise.2 (omega arith))));
        past = omega arith;
        known = omega (arith, rise.1);
      }
  more_step next from_number n low x xs false e rise first so =
      let step : IsStep number xs next from_number n = so (rw e at first) in
      let before : number x < from_number = leb-false from_number (number x) e in
      record {
        item = step.item;
        is = step.is;
        left =
            passed from_number x xs before
            ∙ step.left
            ∙ ap (λ ys. step.item ∷ ys) (sym (passed (n + 1) x xs (omega (arith, step.past))));
        past = step.past;
        known = step.known;
      }

  -- over a list whose numbers rise
  steps : (xs : List X) (next from_number n low : ℕ) → Rise low (map number xs) next
      → option_map number (find (λ y. nat_le from_number (number y)) xs) ≡ Some n
      → IsStep number xs next from_number n
  steps [] next from_number n low rise never = absurd (cc)
  steps (x ∷ xs) next from_number n low rise first =
      more_step next from_number n low x xs (nat_le from_number (number x)) refl rise first
      (steps xs next from_number n (number x + 1) rise.2)

-- a walk meets each item once
pub walks-meet : {X : Type 0} → WalksMeetAll X
walks-meet = record {
  begin = λ number xs. walk-begin number xs;
  step = λ number xs next from_number n are first.
      steps number xs next from_number n 0 (rise-from next (map number xs) are) first;
  rest = λ number xs from_number none. walk-rest number xs from_number none;
  empty = λ number xs none. sym (walk-begin number xs) ∙ walk-rest number xs 0 none;
  part = λ number keep xs next are. numbers-kept number keep next xs are;
}
