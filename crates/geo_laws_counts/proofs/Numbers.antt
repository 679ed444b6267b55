-- Where numbers rise, each leads to its own item, no other item has it, and the next number is free.
use Rattle.std.specs.Prelude.{◌≡◌, ◌≢◌, ℕ, ◌<◌, ◌==◌, cond, List, [], ◌∷◌, map, filter, find, Some, All, AllPairs, Contains}
use Rattle.std.specs.List.Sorted.{IsStrictlyIncreasing}
use Rattle.std.proofs.Common.{refl, ◌∙◌, ap, subst, arith, inl, inr, eq-eqb}
use Rattle.std.proofs.lemmas.Bool.{ne_eqb}
use Rattle.std.proofs.lemmas.List.Elements.{recursion_from_All, All-contains}
use Rattle.std.proofs.lemmas.List.Kept.{AllPairs-from_increasing}
use Rattle.geo_model.specs.Topology.{Topology, Provider, Consumer, provider_at}
use Rattle.geo_model.proofs.MemberLists.{Contains-there, Contains-cases, nothing_in, Contains-here, Contains-map}
use Rattle.geo_model.proofs.AllLists.{pairs_head, pairs_tail}
use Rattle.geo_laws_counts.specs.CountWords.{NumbersLead, IsOnlyOne}
use Rattle.geo_laws_counts.proofs.LimitFacts.{all_of}

-- the first of rising numbers is below the others, and these rise
pub first_below : (n : ℕ) (ns : List ℕ) → AllPairs (λ x y. x < y) (n ∷ ns) → (m : ℕ) → Contains ns m → n < m
first_below n ns pairs m there = All-contains (λ x. n < x) ns m (pairs_head (λ x y. x < y) n ns pairs) there

module _ {X : Type 0} (key : X → ℕ) where
  -- each item is found by its number
  pub found_of : (xs : List X) → AllPairs (λ m n. m < n) (map key xs) → (x : X) → Contains xs x
      → find (λ y. key y == key x) xs ≡ Some x
  found_of [] rise x there = absurd (nothing_in x there)
  found_of (y ∷ ys) rise x there =
      elim (Contains-cases y x ys there) [
        | inl same ↦
            ap (λ b. cond b (Some y) (find (λ z. key z == key x) ys)) (eq-eqb (key y) (key x) (ap key same))
            ∙ ap (λ z. Some z) same
        | inr rest ↦
            ap (λ b. cond b (Some y) (find (λ z. key z == key x) ys))
            (ne_eqb (key y) (key x) (λ e. let less : key y < key x =
            first_below (key y) (map key ys) rise (key x) (Contains-map key ys x rest) in omega arith))
            ∙ found_of ys (pairs_tail (λ x y. x < y) (key y) (map key ys) rise) x rest
      ]

  -- a number below all others is none of theirs
  pub none_left : (n : ℕ) (xs : List X) → ((m : ℕ) → Contains (map key xs) m → n < m) → filter (λ y. key y == n) xs ≡ []
  none_left n [] above = refl
  none_left n (x ∷ xs) above =
      ap (λ b. cond b (x ∷ filter (λ y. key y == n) xs) (filter (λ y. key y == n) xs))
      (ne_eqb (key x) n (λ e. let less : n < key x = above (key x) (Contains-here (key x) (map key xs)) in omega arith))
      ∙ none_left n xs (λ m there. above m (Contains-there (key x) m (map key xs) there))

  -- no other item has its number
  pub only_of : (xs : List X) → AllPairs (λ m n. m < n) (map key xs) → (x : X) → Contains xs x
      → filter (λ y. key y == key x) xs ≡ x ∷ []
  only_of [] rise x there = absurd (nothing_in x there)
  only_of (y ∷ ys) rise x there =
      elim (Contains-cases y x ys there) [
        | inl same ↦
            ap (λ b. cond b (y ∷ filter (λ z. key z == key x) ys) (filter (λ z. key z == key x) ys))
            (eq-eqb (key y) (key x) (ap key same))
            ∙ ap (λ z. z ∷ filter (λ w. key w == key x) ys) same
            ∙ ap (λ zs. x ∷ zs)
            (none_left (key x) ys
            (λ m inside. subst (λ z. key z < m) same (first_below (key y) (map key ys) rise m inside)))
        | inr rest ↦
            ap (λ b. cond b (y ∷ filter (λ z. key z == key x) ys) (filter (λ z. key z == key x) ys))
            (ne_eqb (key y) (key x) (λ e. let less : key y < key x =
            first_below (key y) (map key ys) rise (key x) (Contains-map key ys x rest) in omega arith))
            ∙ only_of ys (pairs_tail (λ x y. x < y) (key y) (map key ys) rise) x rest
      ]

  -- a number above all others is none of theirs
  pub free_of : (xs : List X) (next : ℕ) → All (λ n. n < next) (map key xs) → All (λ x. key x ≢ next) xs
  free_of xs next below =
      all_of (λ x. key x ≢ next) xs
      (λ x there e. let less : key x < next =
      All-contains (λ n. n < next) (map key xs) (key x) below (Contains-map key xs x there) in omega arith)

module _ {C : Type 0} (t : Topology C) where
  -- each provider is the one that its number leads to
  pub numbers_lead : IsStrictlyIncreasing (map (λ x. x.number) t.providers) → NumbersLead t
  numbers_lead rise =
      recursion_from_All (λ (x : Provider). provider_at t x.number ≡ Some x) t.providers
      (all_of (λ (x : Provider). provider_at t x.number ≡ Some x) t.providers
      (found_of (λ (x : Provider). x.number) t.providers
      (AllPairs-from_increasing (map (λ (x : Provider). x.number) t.providers) rise)))

  -- no other consumer has a consumer's number
  pub number_is_only : IsStrictlyIncreasing (map (λ x. x.number) t.consumers) → (d : Consumer)
      → Contains t.consumers d → IsOnlyOne t d
  number_is_only rise d there =
      only_of (λ (x : Consumer). x.number) t.consumers
      (AllPairs-from_increasing (map (λ (x : Consumer). x.number) t.consumers) rise) d there
