-- What is found, and pairs of a list in order of numbers.
use Rattle.std.specs.Prelude.{◌≡◌, ℕ, ◌+◌, ◌<◌, ◌≤◌, ◌==◌, List, [], ◌∷◌, map, find, Option, Some, None, AllPairs, Contains, IsSomeAnd}
use Rattle.std.proofs.Common.{inl, inr, refl, sym, ◌∙◌, ap, subst, arith}
use Rattle.geo_model.specs.Graph.{AreNumbers}
use Rattle.geo_laws_graph.proofs.Members.{Contains-here, Contains-there, Contains-cases, nothing_in, All-from_contained, at_contained, find-Contains}
use Rattle.geo_laws_graph.proofs.Lists.{Rise, rise-from, found_itself}
use Rattle.geo_laws_graph.proofs.Numbered.{number_found}
use Rattle.geo_laws_life.proofs.Standing.{PairsByRecursion, pairs-from_recursion, recursion-from_pairs}
use Rattle.geo_laws_life.specs.LessLaws.{ComesFrom}
pub use Rattle.geo_model.proofs.Options.{some-with, some-there, if-found, at-found, at-some, one-found, none-there}
pub use Rattle.geo_model.proofs.FilterLists.{keeps_all}
pub use Rattle.geo_model.proofs.Tests.{passes_apart}

-- a thing that is found, and what holds of it
pub record FoundWith {X : Type 0} (o : Option X) (P : X → Type 0) : Type 0 where
  pub item : X
  pub is : o ≡ Some item
  pub fact : P item

module _ {X : Type 0} where
  -- where a fact holds of what is found, something is found
  pub found-with : (o : Option X) (P : X → Type 0) → IsSomeAnd o P → FoundWith o P
  found-with None P fact = absurd fact
  found-with (Some x) P fact = record { item = x; is = refl; fact = fact }

-- what is found at a number, and that a fact ties it to another thing
pub record From {X : Type 0} (number : X → ℕ) (R : X → X → Type 0) (xs : List X) (n : ℕ) (y : X) : Type 0 where
  pub item : X
  pub found : find (λ (z : X). number z == n) xs ≡ Some item
  pub is : R item y

module _ {X : Type 0} (number : X → ℕ) where
  -- each of a list comes from one of another with the same number: so does what is found at a number
  pub from-found : (R : X → X → Type 0) → ((x y : X) → R x y → number y ≡ number x) → (next : ℕ) (xs ys : List X)
      → AreNumbers (map number xs) next
      → ((y : X) → Contains ys y → ComesFrom R xs y) → (n : ℕ) (y : X) → find (λ (z : X). number z == n) ys ≡ Some y
      → From number R xs n y
  from-found R same next xs ys are come n y found =
      let o = come y (find-Contains (λ (z : X). number z == n) ys y found) in
      let here : number o.item ≡ n = sym (same o.item y o.fact) ∙ number_found number ys n y found in
      record {
        item = o.item;
        found = subst (λ m. find (λ (z : X). number z == m) xs ≡ Some o.item) here
            (found_itself number next xs o.item are o.stands);
        is = o.fact;
      }

  -- where numbers rise from one on, none is lower
  above_low : (low high : ℕ) (xs : List X) (y : X) → Rise low (map number xs) high → Contains xs y → low ≤ number y
  above_low low high [] y rise here = absurd (nothing_in y here)
  above_low low high (x ∷ xs) y rise here =
      elim (Contains-cases x y xs here) [
        | inl same ↦ (let e : number x ≡ number y = ap number same in let a : low ≤ number x = rise.0 in omega arith)
        | inr rest ↦ (let a : low ≤ number x = rise.0 in let b : number x + 1 ≤ number y =
            above_low (number x + 1) high xs y rise.2 rest in omega arith)
      ]

  -- a fact of any two members of which the one has the lower number, by recursion
  pairs_by : (R : X → X → Type 0) (low high : ℕ) (xs : List X) → Rise low (map number xs) high
      → ((x y : X) → Contains xs x → Contains xs y → number x < number y → R x y) → PairsByRecursion R xs
  pairs_by R low high [] rise so = tt
  pairs_by R low high (x ∷ xs) rise so = (
    All-from_contained (R x) xs (λ y here.
        let b : number x + 1 ≤ number y = above_low (number x + 1) high xs y rise.2 here in
        so x y (Contains-here x xs) (Contains-there x y xs here) (omega arith)),
    pairs_by R (number x + 1) high xs rise.2 (λ y z a b less. so y z (Contains-there x y xs a)
        (Contains-there x z xs b) less),
  )

  -- and back
  members_by : (R : X → X → Type 0) (low high : ℕ) (xs : List X) → Rise low (map number xs) high → PairsByRecursion R xs
      → (x y : X) → Contains xs x → Contains xs y → number x < number y → R x y
  members_by R low high [] rise facts x y a b less = absurd (nothing_in x a)
  members_by R low high (z ∷ zs) rise facts x y a b less =
      elim (Contains-cases z x zs a) [
        | inl first ↦
            elim (Contains-cases z y zs b) [
              | inl second ↦ (let e : number x ≡ number y = ap number (sym first ∙ second) in absurd (omega arith))
              | inr rest ↦ subst (λ v. R v y) first (at_contained (R z) zs y facts.0 rest)
            ]
        | inr rest ↦
            elim (Contains-cases z y zs b) [
              | inl second ↦
                  (let e : number z ≡ number y = ap number second in
                  let c : number z + 1 ≤ number x = above_low (number z + 1) high zs x rise.2 rest in
                  absurd (omega arith))
              | inr more ↦ members_by R (number z + 1) high zs rise.2 facts.1 x y rest more less
            ]
      ]

  -- what holds of any two in their order in one list, holds so in another whose members come from its members
  pub pairs-from : (R : X → X → Type 0) (T : X → X → Type 0) → ((x y : X) → T x y → number y ≡ number x)
      → ((x y u v : X) → T x u → T y v → R x y → R u v)
      → (next other : ℕ) (xs ys : List X) → AreNumbers (map number xs) next → AreNumbers (map number ys) other
      → ((y : X) → Contains ys y → ComesFrom T xs y) → AllPairs R xs → AllPairs R ys
  pairs-from R T same keeps next other xs ys are new come facts =
      pairs-from_recursion R ys (pairs_by R 0 other ys (rise-from other (map number ys) new) (λ u v a b less.
      let o = come u a in
      let p = come v b in
      let e : number u ≡ number o.item = same o.item u o.fact in
      let f : number v ≡ number p.item = same p.item v p.fact in
      keeps o.item p.item u v o.fact p.fact
      (members_by R 0 next xs (rise-from next (map number xs) are) (recursion-from_pairs R xs facts) o.item p.item
      o.stands p.stands (omega arith))))
