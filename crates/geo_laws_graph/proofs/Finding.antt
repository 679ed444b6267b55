-- What a look-up finds lives.
use Rattle.std.specs.Prelude.{◌≡◌, ℕ, ◌&&◌, nat_le, Bool, true, false, not, List, [], ◌∷◌, filter, find, Option, Some, None, IfSome, IsSome, IsSomeAnd}
use Rattle.std.specs.List.{AllByRecursion, last_or}
use Rattle.std.specs.Option.{option_map, option_or}
use Rattle.std.proofs.Common.{refl, subst}
use Rattle.std.proofs.lemmas.Bool.{and_parts}
use Rattle.geo_model.specs.Words.{same_name}
use Rattle.geo_model.specs.Topology.{Topology, Geom, Provider, Consumer, geom_at, provider_at, consumer_at}
use Rattle.geo_model.proofs.FindLists.{found_in}
use Rattle.geo_model.proofs.MemberLists.{at_contained}
use Rattle.geo_laws_graph.specs.LookupLaws.{EachIsFound, WhatIsFoundLives}
use Rattle.geo_laws_graph.proofs.Found.{each-found}

module _ {X : Type 0} (P : X → Type 0) (test : X → Bool) where
  -- a fact of each item is one of what is found, which passes
  pub found_fact : (xs : List X) (y : X) → AllByRecursion P xs → find test xs ≡ Some y → P y × (test y ≡ true)
  found_fact xs y facts found =
      let there = found_in test xs y found in (at_contained P xs y facts there.0, there.1)

  -- so of the last that passes
  last_fact : (xs : List X) (y : X) (o : Option X) → IfSome o (λ x. P x × (test x ≡ true)) → AllByRecursion P xs
      → last_or o (filter test xs) ≡ Some y
      → P y × (test y ≡ true)
  last_fact [] y None fact facts never = absurd cc
  last_fact [] y (Some x) fact facts is = let same : x ≡ y = cc in subst (λ z. P z × (test z ≡ true)) same fact
  last_fact (x ∷ xs) y o fact facts is =
      step (test x) refl is (λ e later. last_fact xs y (Some x) (facts.0, e) facts.1 later)
      (λ later. last_fact xs y o fact facts.1 later) where
        step : (b : Bool) → test x ≡ b → last_or o (filter test (x ∷ xs)) ≡ Some y
            → (test x ≡ true → last_or (Some x) (filter test xs) ≡ Some y → P y × (test y ≡ true))
            → (last_or o (filter test xs) ≡ Some y → P y × (test y ≡ true)) → P y × (test y ≡ true)
        step true e is here later = here e (rw e at is)
        step false e is here later = later (rw e at is)

-- what is found by its number lives, where each is found at its number
module _ {X : Type 0} (number : X → ℕ) (at : ℕ → Option X) where
  pub lives_at : (test : X → Bool) (xs : List X) (n : ℕ) → AllByRecursion (λ x. at (number x) ≡ Some x) xs
      → option_map number (find test xs) ≡ Some n → IsSome (at n)
  lives_at test xs n facts found = pick (find test xs) refl found where
    pick : (o : Option X) → find test xs ≡ o → option_map number o ≡ Some n → IsSome (at n)
    pick None e never = absurd cc
    pick (Some x) e found =
        let here : number x ≡ n = cc in
        let stands : at (number x) ≡ Some x = (found_fact (λ x. at (number x) ≡ Some x) test xs x facts e).0 in
        subst (λ k. IsSome (at k)) here (rw stands refl)

-- what is found by a name lives and has the name
named_lives : {C : Type 0} (t : Topology C) (name : List ℕ) (p : ℕ)
    → AllByRecursion (λ (x : Provider). provider_at t x.number ≡ Some x) t.providers
    → option_map (λ (x : Provider). x.number)
    (option_or (find (λ x. not x.errored && same_name x.name name) t.providers)
    (last_or None (filter (λ x. same_name x.name name) t.providers))) ≡ Some p
    → IsSomeAnd (provider_at t p) (λ x. same_name x.name name ≡ true)
named_lives t name p facts found =
    pick (find sound t.providers) refl (last_or None (filter named t.providers)) refl found where
      sound : Provider → Bool
      sound x = not x.errored && same_name x.name name

      named : Provider → Bool
      named x = same_name x.name name

      stands : (x : Provider) → provider_at t x.number ≡ Some x → same_name x.name name ≡ true → x.number ≡ p
          → IsSomeAnd (provider_at t p) (λ x. same_name x.name name ≡ true)
      stands x at has here =
          subst (λ k. IsSomeAnd (provider_at t k) (λ x. same_name x.name name ≡ true)) here (rw at has)

      pick : (o : Option Provider) → find sound t.providers ≡ o → (q : Option Provider)
          → last_or None (filter named t.providers) ≡ q
          → option_map (λ (x : Provider). x.number) (option_or o q) ≡ Some p
          → IsSomeAnd (provider_at t p) (λ x. same_name x.name name ≡ true)
      pick (Some x) e q f is =
          let both = found_fact (λ (x : Provider). provider_at t x.number ≡ Some x) sound t.providers x facts e in
          let here : x.number ≡ p = cc in
          stands x both.0 (and_parts (not x.errored) (same_name x.name name) both.1).1 here
      pick None e (Some x) f is =
          let both = last_fact (λ (x : Provider). provider_at t x.number ≡ Some x) named t.providers x None
          tt facts f in
          let here : x.number ≡ p = cc in
          stands x both.0 both.1 here
      pick None e None f never = absurd cc

-- what a look-up finds lives
pub found_lives : {C : Type 0} → WhatIsFoundLives C
found_lives {C} =
    let each : EachIsFound C = each-found in
    record {
      geom = λ t from_number g order found.
          lives_at (λ (x : Geom C). x.number) (geom_at t) (λ x. nat_le from_number x.number) t.geoms g
          (each.geoms t order) found;
      provider = λ t from_number p order found.
          lives_at (λ (x : Provider). x.number) (provider_at t) (λ x. nat_le from_number x.number) t.providers p
          (each.providers t order) found;
      consumer = λ t from_number c order found.
          lives_at (λ (x : Consumer). x.number) (consumer_at t) (λ x. nat_le from_number x.number) t.consumers c
          (each.consumers t order) found;
      named = λ t name p order found. named_lives t name p (each.providers t order) found;
    }
