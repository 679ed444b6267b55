-- What a list contains, after a filter and a map.
use Rattle.std.specs.Prelude.{◌≡◌, ℕ, ◌≤◌, List, [], ◌∷◌, Option, Some, None, Contains, IsSome}
use Rattle.std.proofs.Common.{inl, inr, refl, arith}
use Rattle.geo_model.specs.Words.{largest}
pub use Rattle.geo_model.proofs.MemberLists.{Origin, Contains-here, Contains-there, nothing_in, Contains-cases, All-from_contained, at_contained, Contains-filter, filter-Contains, Contains-map, map-Contains, Contains-filter_map, filter_map-Contains}
pub use Rattle.geo_model.proofs.FindLists.{find-Contains}

-- the largest is no smaller than each of them
pub largest-above : (ns : List ℕ) (n : ℕ) → Contains ns n → n ≤ largest ns
largest-above [] n c = absurd (nothing_in n c)
largest-above (m ∷ ns) n c =
    elim (Contains-cases m n ns c) [
      | inl same ↦ omega arith
      | inr rest ↦ omega (arith, largest-above ns n rest)
    ]

-- and no greater than a number that none of them passes
pub largest-least : (n : ℕ) (ns : List ℕ) → ((k : ℕ) → Contains ns k → k ≤ n) → largest ns ≤ n
largest-least n [] so = omega arith
largest-least n (m ∷ ns) so =
    let first = so m (Contains-here m ns) in
    let rest = largest-least n ns (λ k c. so k (Contains-there m k ns c)) in
    omega arith

-- what an option has, where it has something
pub record Has {X : Type 0} (o : Option X) : Type 0 where
  pub item : X
  pub is : o ≡ Some item

-- an option that isn't empty has something
pub has : {X : Type 0} (o : Option X) → IsSome o → Has o
has None some = absurd (let no : ⊥ = cc in no)
has (Some x) some = record { item = x; is = refl }
