-- A fact of each item of a list or of any two, after items were added, dropped and seen otherwise.
use Rattle.std.specs.Prelude.{ℕ, zero, suc, Bool, true, false, cond, List, [], ◌∷◌, ◌++◌, map, filter, All, AllPairs}
use Rattle.std.specs.List.{AllByRecursion}
use Rattle.std.proofs.Common.{arith}

-- what holds of everything holds of each item
pub of_each : {X : Type 0} (P : X → Type 0) → ((x : X) → P x) → (xs : List X) → AllByRecursion P xs
of_each P so [] = tt
of_each P so (x ∷ xs) = (so x, of_each P so xs)

-- a fact for each item that follows from another
pub all_weaker : {X : Type 0} (P Q : X → Type 0) → ((x : X) → P x → Q x) → (xs : List X) → AllByRecursion P xs
    → AllByRecursion Q xs
all_weaker P Q so [] facts = facts
all_weaker P Q so (x ∷ xs) facts = (so x facts.0, all_weaker P Q so xs facts.1)

-- two facts of each item
pub two_facts : {X : Type 0} (P Q : X → Type 0) (xs : List X) → AllByRecursion P xs → AllByRecursion Q xs
    → AllByRecursion (λ x. P x × Q x) xs
two_facts P Q [] p q = tt
two_facts P Q (x ∷ xs) p q = ((p.0, q.0), two_facts P Q xs p.1 q.1)

-- a fact of each item of two lists
pub all_appended : {X : Type 0} (P : X → Type 0) (xs ys : List X) → AllByRecursion P xs → AllByRecursion P ys
    → AllByRecursion P (xs ++ ys)
all_appended P [] ys front back = back
all_appended P (x ∷ xs) ys front back = (front.0, all_appended P xs ys front.1 back)

-- with one more item of which it holds
pub all_pushed : {X : Type 0} (P : X → Type 0) (xs : List X) (x : X) → AllByRecursion P xs → P x
    → AllByRecursion P (xs ++ x ∷ [])
all_pushed P xs x facts new = all_appended P xs (x ∷ []) facts (new, tt)

-- of those that are kept
pub all_kept : {X : Type 0} (P : X → Type 0) (keep : X → Bool) (xs : List X) → AllByRecursion P xs
    → AllByRecursion P (filter keep xs)
all_kept P keep [] facts = tt
all_kept P keep (x ∷ xs) facts = by (keep x) (all_kept P keep xs facts.1)
  where
    by : (b : Bool) → AllByRecursion P (filter keep xs)
        → AllByRecursion P (cond b (x ∷ filter keep xs) (filter keep xs))
    by true rest = (facts.0, rest)
    by false rest = rest

-- of the items seen otherwise
pub all_mapped : {X Y : Type 0} (P : Y → Type 0) (f : X → Y) (xs : List X) → AllByRecursion (λ x. P (f x)) xs
    → AllByRecursion P (map f xs)
all_mapped P f [] facts = tt
all_mapped P f (x ∷ xs) facts = (facts.0, all_mapped P f xs facts.1)

-- what holds of each item holds of one in the middle
pub in_middle : {X : Type 0} (P : X → Type 0) (xs : List X) (y : X) (ys : List X) → AllByRecursion P (xs ++ y ∷ ys)
    → P y
in_middle P [] y ys facts = facts.0
in_middle P (x ∷ xs) y ys facts = in_middle P xs y ys facts.1

-- what holds of any two items holds of the first and each later one
pub pairs_head : {X : Type 0} (R : X → X → Type 0) (x : X) (xs : List X) → AllPairs R (x ∷ xs) → All (R x) xs
pairs_head R x xs facts = λ k d short. facts zero (suc k) d (omega arith) (omega (arith, short))

-- and of any two later ones
pub pairs_tail : {X : Type 0} (R : X → X → Type 0) (x : X) (xs : List X) → AllPairs R (x ∷ xs) → AllPairs R xs
pairs_tail R x xs facts = λ i j d less short. facts (suc i) (suc j) d (omega (arith, less)) (omega (arith, short))
