-- Tests of names and numbers, and lists of names.
use Rattle.std.proofs.Common.{◌≡◌, ◌≢◌, ℕ, zero, suc, ◌<◌, ◌⊎◌, true, false, List, [], ◌∷◌, ◌++◌, length, refl, ap, inl, inr, arith, bytes_eq, Contains, get_or, rules}
use Rattle.std.specs.List.{list_any}
use Rattle.std.proofs.lemmas.Slice.Eq.{bytes_eq-Decides}
use Rattle.std.proofs.lemmas.List.Elements.{Contains-append_right}
use Rattle.geo_disk.specs.Names.{names_without}
use Rattle.geo_run.specs.Lending.{AreOther}

-- a name is the same as itself
pub same_itself : (name : List ℕ) → bytes_eq name name ≡ true
same_itself name = (bytes_eq-Decides name name).1 refl

-- names that the test finds equal are equal
pub same_names : (a b : List ℕ) → bytes_eq a b ≡ true → a ≡ b
same_names a b e = (bytes_eq-Decides a b).0 e

-- other names are told apart
pub other_names : (a b : List ℕ) → a ≢ b → bytes_eq a b ≡ false
other_names a b other = search rules

-- two names are the same or not
pub same_or_other : (a b : List ℕ) → (a ≡ b) ⊎ (a ≢ b)
same_or_other a b = search (rules, bytes_eq-Decides a b)

-- the first of a list is one of it
pub contains_first : {X : Type 0} (x : X) (xs : List X) → Contains (x ∷ xs) x
contains_first x xs = (0, omega arith, refl)

-- and so is one of the others
pub contains_more : {X : Type 0} (x y : X) (xs : List X) → Contains xs y → Contains (x ∷ xs) y
contains_more x y xs c = Contains-append_right (x ∷ []) xs y c

-- nothing is in an empty list
pub contains_none : {X : Type 0} (x : X) → Contains [] x → ⊥
contains_none x c = let bad : c.0 < 0 = c.1 in absurd (omega arith)

-- what a list contains is its first, or one of the others
pub contains_cases : {X : Type 0} (x y : X) (xs : List X) → Contains (x ∷ xs) y → (x ≡ y) ⊎ Contains xs y
contains_cases x y xs c = by c.0 c.1 c.2
  where
    by : (k : ℕ) → k < length (x ∷ xs) → get_or (x ∷ xs) k y ≡ y → (x ≡ y) ⊎ Contains xs y
    by zero lt e = inl e
    by (suc k) lt e = inr (k, omega (arith, lt), e)

-- where no name is this one, the list doesn't contain it
pub other-contains : (name : List ℕ) (names : List (List ℕ)) → AreOther name names → Contains names name → ⊥
other-contains name [] others c = contains_none name c
other-contains name (x ∷ names) others c =
    elim (contains_cases x name names c) [ inl e ↦ others.0 e | inr more ↦ other-contains name names others.1 more ]

-- and where it doesn't contain a name, no name is this one
pub other-from : (name : List ℕ) (names : List (List ℕ)) → (Contains names name → ⊥) → AreOther name names
other-from name [] none = tt
other-from name (x ∷ names) none = search (rules, other-from name names (λ c. none (contains_more x name names c)))

-- no name of two lists is this one
pub other-append : (name : List ℕ) (xs ys : List (List ℕ)) → AreOther name xs → AreOther name ys
    → AreOther name (xs ++ ys)
other-append name [] ys none more = more
other-append name (x ∷ xs) ys none more = (none.0, other-append name xs ys none.1 more)

-- where a name is among them, the test passes
pub contains-among : (name : List ℕ) (names : List (List ℕ)) → Contains names name
    → list_any (bytes_eq name) names ≡ true
contains-among name [] c = absurd (contains_none name c)
contains-among name (x ∷ names) c = search (rules, contains-among name names)

-- where no name is this one, the test fails
pub other-among : (name : List ℕ) (names : List (List ℕ)) → AreOther name names → list_any (bytes_eq name) names ≡ false
other-among name [] others = refl
other-among name (x ∷ names) others = search (rules, other-among name names others.1)

-- where no name is this one, taking it away changes nothing
pub without_none : (name : List ℕ) (names : List (List ℕ)) → AreOther name names → names_without name names ≡ names
without_none name [] others = refl
without_none name (x ∷ names) others = search (rules, ap (λ ns. x ∷ ns) (without_none name names others.1))

-- the name that stands first goes
pub without_first : (name : List ℕ) (names : List (List ℕ)) → names_without name (name ∷ names)
    ≡ names_without name names
without_first name names = search rules

-- names in two parts without one
pub without_both : (name : List ℕ) (xs ys : List (List ℕ))
    → names_without name (xs ++ ys) ≡ names_without name xs ++ names_without name ys
without_both name [] ys = refl
without_both name (x ∷ xs) ys = search (rules, without_both name xs ys)
