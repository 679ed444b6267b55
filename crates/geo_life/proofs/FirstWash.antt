-- What a wash finds, and that it goes on with the first geom of which something can go.
use Rattle.std.specs.Prelude.{◌≡◌, ℕ, ◌+◌, ◌==◌, nat_le, Bool, true, false, not, ◌&&◌, List, [], ◌∷◌, length, find, Option, Some, None, if◌then◌else◌, IsSomeAnd, IfSome, IsTrue, is_none, is_some, option_map, ◌||◌, filter}
use Rattle.std.specs.Option.{option_or, option_and_then}
use Rattle.std.proofs.Common.{refl, sym, ap, ◌∙◌, subst, arith, rules}
use Rattle.std.proofs.lemmas.Bool.{and_parts}
use Rattle.geo_base.specs.declared.request.Counts.{Counts}
use Rattle.geo_model.specs.declared.step.WashWork.{WashWork}
use Rattle.geo_model.specs.declared.step.WashWork.TheVariants as washes
use Rattle.geo_model.specs.Topology.{Topology, Geom, Provider, Consumer, geom_at, consumer_at, attached_to, providers_of, consumers_of, is_withering}
use Rattle.geo_model.specs.Graph.{IsInOrder}
use Rattle.geo_model.specs.Demand.{is_zero}
use Rattle.geo_model.specs.Freeing.{is_idle, free_consumer, free_geom, wash_work_of, first_wash, wash_where}
use Rattle.geo_mesh.specs.Topo.{TopoView, first_geom}
use Rattle.geo_laws_graph.proofs.Numbered.{number_found}
use Rattle.geo_laws_graph.specs.LookupLaws.{left_from, EachIsFound}
use Rattle.geo_access.specs.Views.{want_at}
use Rattle.geo_access.proofs.Folding.{found_more, found_here}
use Rattle.geo_life.specs.Life.{AreStored, is_out}
use Rattle.geo_life.proofs.Errors.{any_found}
use Rattle.geo_life.proofs.MarkWalk.{stored_now}
use Rattle.std.specs.List.{list_any, AllByRecursion}
use Rattle.std.proofs.Math.Bool.{or-false}
use Rattle.geo_base.proofs.FindLists.{found_passes}
use Rattle.geo_laws_graph.proofs.Found.{each-found}
use Rattle.geo_laws_graph.proofs.Lists.{found_itself}
use Rattle.geo_laws_graph.proofs.Members.{find-Contains}
use Rattle.geo_mesh.specs.Going.{is_unused, is_bare, is_free, can_go}
use Rattle.geo_mesh.proofs.GoingLemmas.{any-same, any-filter}

-- Whether there is none

module _ {X : Type 0} (number : X → ℕ) where
  -- nothing comes first just where there is nothing
  pub none_first : (xs : List X)
      → is_none (option_map number (find (λ x. nat_le 0 (number x)) xs)) ≡ (length xs == 0)
  none_first [] = refl
  none_first (x ∷ xs) = search rules

  pub none_there : (xs : List X) → is_none (option_map number (find (λ x. nat_le 0 (number x)) xs)) ≡ true → xs ≡ []
  none_there [] e = refl
  none_there (x ∷ xs) e = search rules

-- what says that there is something says that there isn't nothing
pub told_none : {X : Type 0} (o : Option X) (b : Bool) → is_some o ≡ not b → b ≡ is_none o
told_none None true e = refl
told_none None false never = absurd (cc)
told_none (Some x) true never = absurd (cc)
told_none (Some x) false e = refl

-- Withering geoms

module _ {C : Type 0} (t : Topology C) (order : IsInOrder t) where
  -- a geom withers just where it says so
  pub withering_is : (n : ℕ) (g : Geom C) → geom_at t n ≡ Some g → is_withering t n ≡ g.withering
  withering_is n g found =
      any_found (λ (x : Geom C). x.number) (λ x. x.withering) n t.next_geom t.geoms g order.geoms found

  -- one that doesn't isn't one that does
  pub not_withering : (n m : ℕ) → IsSomeAnd (geom_at t m) (λ g. g.withering ≡ false) → IsTrue (is_withering t n) → n ≡ m
      → ⊥
  not_withering n m stands withers same = search (rules, withering_is m)

-- a consumer is idle where its stored counts are zero and no request is out
pub idle_is : {C : Type 0} (granted : ℕ → Counts) (t : TopoView C) → AreStored granted t → (x : Consumer)
    → consumer_at t.topology x.number ≡ Some x
    → is_idle granted (is_out t) t.topology x ≡ (is_zero (want_at t x.number) && not (is_out t x.number))
idle_is granted t stored x found = search (rules, stored_now granted t stored x.number x found)

-- the walk over the consumers of a geom came to one, of which it was told whether it is idle
module _ {C : Type 0} (granted : ℕ → Counts) (t : TopoView C) (stored : AreStored granted t)
    (geom from_number id : ℕ) (x : Consumer)
    (left : left_from (λ (c : Consumer). c.number) from_number (consumers_of t.topology geom)
    ≡ x ∷ left_from (λ (c : Consumer). c.number) (id + 1) (consumers_of t.topology geom))
    (lives : consumer_at t.topology x.number ≡ Some x) {b : Bool}
    (told : b ≡ (is_zero (want_at t x.number) && not (is_out t x.number))) where
  -- the test of the walk
  abbrev test : Consumer → Bool
  test = is_idle granted (is_out t) t.topology

  -- the number of the first idle one
  abbrev first : Option ℕ
  first = option_map (λ (c : Consumer). c.number) (find test (consumers_of t.topology geom))

  module _ (so_far : option_map (λ (c : Consumer). c.number)
      (find test (left_from (λ (c : Consumer). c.number) from_number (consumers_of t.topology geom))) ≡ first) where
    -- one that isn't is passed over
    pub idle_more : b ≡ false → option_map (λ (c : Consumer). c.number)
        (find test (left_from (λ (c : Consumer). c.number) (id + 1) (consumers_of t.topology geom))) ≡ first
    idle_more fails =
        found_more (λ (c : Consumer). c.number) test (consumers_of t.topology geom) from_number id x first left
        (idle_is granted t stored x lives ∙ sym told ∙ fails) so_far

    -- one that is idle is the first
    pub idle_found : b ≡ true → Some x.number ≡ first
    idle_found passes =
        found_here (λ (c : Consumer). c.number) test (consumers_of t.topology geom) from_number id x first left
        (idle_is granted t stored x lives ∙ sym told ∙ passes) so_far

-- What can go of one geom

-- of what is there, what was found of it
there : {X : Type 0} (P : X → Type 0) (o : Option X) → ((x : X) → o ≡ Some x → P x) → IfSome o P
there P None so = tt
there P (Some x) so = so x refl

module _ {C : Type 0} (granted : ℕ → Counts) (active : ℕ → Bool) (t : Topology C) (geom : ℕ)
    (p : Option ℕ)
    (provider : p ≡ option_map (λ (x : Provider). x.number)
    (find (λ x. length (attached_to t x.number) == 0) (providers_of t geom))) where
  -- a provider goes first
  first_part : (n : ℕ) → n ≡ geom
      → option_map (λ (x : Provider). washes.Provider x.number)
      (find (λ x. length (attached_to t x.number) == 0) (providers_of t n))
      ≡ option_map washes.Provider p
  first_part n same = search rules

  -- the number of a geom that is found
  its_number : (g : Geom C) → geom_at t geom ≡ Some g → g.number ≡ geom
  its_number g found = number_found (λ (x : Geom C). x.number) t.geoms geom g found

  pub work_provider : (n : ℕ) → p ≡ Some n
      → IfSome (geom_at t geom) (λ g. Some (washes.Provider n) ≡ wash_work_of granted active t g)
  work_provider n is =
      there (λ g. Some (washes.Provider n) ≡ wash_work_of granted active t g) (geom_at t geom)
      (λ g found.
      sym (ap (λ o. option_or o (option_or (free_consumer granted active t g) (option_or (free_geom granted active t g)
      None)))
      (first_part g.number (its_number g found) ∙ ap (option_map washes.Provider) is)))

  module _ (none : p ≡ None) (c : Option ℕ)
      (consumer : c ≡ option_map (λ (x : Consumer). x.number)
      (find (is_idle granted active t) (consumers_of t geom))) where
    -- else a consumer
    second_part : (n : ℕ) → n ≡ geom
        → option_map (λ (x : Consumer). washes.Consumer x.number) (find (is_idle granted active t) (consumers_of t n))
        ≡ option_map washes.Consumer c
    second_part n same = search rules

    -- what is left then
    after_first : (g : Geom C) → geom_at t geom ≡ Some g
        → wash_work_of granted active t g
        ≡ option_or (option_map washes.Consumer c) (option_or (free_geom granted active t g) None)
    after_first g found =
        ap (λ o. option_or o (option_or (free_consumer granted active t g)
        (option_or (free_geom granted active t g) None)))
        (first_part g.number (its_number g found) ∙ ap (option_map washes.Provider) none)
        ∙ ap (λ o. option_or o (option_or (free_geom granted active t g) None))
        (second_part g.number (its_number g found))

    pub work_consumer : (n : ℕ) → c ≡ Some n
        → IfSome (geom_at t geom) (λ g. Some (washes.Consumer n) ≡ wash_work_of granted active t g)
    work_consumer n is =
        there (λ g. Some (washes.Consumer n) ≡ wash_work_of granted active t g) (geom_at t geom)
        (λ g found.
        sym (after_first g found
        ∙ ap (λ o. option_or (option_map washes.Consumer o) (option_or (free_geom granted active t g) None)) is))

    module _ (over : c ≡ None) where
      -- else the geom
      after_second : (g : Geom C) → geom_at t geom ≡ Some g → (b : Bool)
          → b ≡ ((length (providers_of t geom) == 0) && (length (consumers_of t geom) == 0))
          → wash_work_of granted active t g ≡ option_or (if b then Some (washes.Geom geom) else None) None
      after_second g found b bare = search (rules, its_number g found)

      pub work_geom : true ≡ ((length (providers_of t geom) == 0) && (length (consumers_of t geom) == 0))
          → IfSome (geom_at t geom) (λ g. Some (washes.Geom geom) ≡ wash_work_of granted active t g)
      work_geom bare =
          there (λ g. Some (washes.Geom geom) ≡ wash_work_of granted active t g) (geom_at t geom)
          (λ g found. sym (after_second g found true bare))

      pub work_none : false ≡ ((length (providers_of t geom) == 0) && (length (consumers_of t geom) == 0))
          → IfSome (geom_at t geom) (λ g. None ≡ wash_work_of granted active t g)
      work_none bare =
          there (λ g. None ≡ wash_work_of granted active t g) (geom_at t geom)
          (λ g found. sym (after_second g found false bare))

-- The first geom

-- Whether there is something

-- one is found just where one passes
found_any : {X Y : Type 0} (f : X → Y) (test : X → Bool) (xs : List X)
    → is_some (option_map f (find test xs)) ≡ list_any test xs
found_any f test [] = refl
found_any f test (x ∷ xs) = grind (arith, found_any f test xs)

-- one of two is there
some_or : {X : Type 0} (o p : Option X) → is_some (option_or o p) ≡ (is_some o || is_some p)
some_or None p = refl
some_or (Some x) p = refl

-- what is there on a condition
some_if : {X : Type 0} (b : Bool) (x : X) → is_some (if b then Some x else None) ≡ b
some_if true x = refl
some_if false x = refl

-- The first

-- the first number that is there is that of the first that passes
first_passing : {X : Type 0} (number : X → ℕ) (test : X → Bool) (xs : List X)
    → find (λ x. nat_le 0 (number x)) (filter test xs) ≡ find test xs
first_passing number test [] = refl
first_passing number test (x ∷ xs) = search (rules, first_passing number test xs)

module _ {C : Type 0} (granted : ℕ → Counts) (v : TopoView C) (stored : AreStored granted v)
    (order : IsInOrder v.topology) where
  -- each consumer, of a geom or not
  idle_each : (g : ℕ) (xs : List Consumer)
      → AllByRecursion (λ (x : Consumer). consumer_at v.topology x.number ≡ Some x) xs
      → AllByRecursion (λ (x : Consumer). ((x.geom == g) && is_idle granted (is_out v) v.topology x)
      ≡ ((x.geom == g) && is_unused v x.number)) xs
  idle_each g [] found = tt
  idle_each g (x ∷ xs) found = search (rules, idle_is granted v stored x found.0, idle_each g xs found.1)

  -- a consumer of a geom can go just where one is unused
  idle_any : (g : ℕ) → list_any (is_idle granted (is_out v) v.topology) (consumers_of v.topology g)
      ≡ list_any (λ (x : Consumer). is_unused v x.number) (consumers_of v.topology g)
  idle_any g =
      let each : EachIsFound C = each-found in
      any-filter (λ (x : Consumer). x.geom == g) (is_idle granted (is_out v) v.topology) v.topology.consumers
      ∙ any-same (λ (x : Consumer). (x.geom == g) && is_idle granted (is_out v) v.topology x)
      (λ x. (x.geom == g) && is_unused v x.number) v.topology.consumers
      (idle_each g v.topology.consumers (each.consumers v.topology order))
      ∙ sym (any-filter (λ (x : Consumer). x.geom == g) (λ x. is_unused v x.number) v.topology.consumers)

  -- something of a geom can go just where something of it is free
  work_is : (g : Geom C) → is_some (wash_work_of granted (is_out v) v.topology g) ≡ is_free v g.number
  work_is g =
      search (
        rules,
        found_any (λ (p : Provider). washes.Provider p.number)
            (λ (p : Provider). length (attached_to v.topology p.number) == 0) (providers_of v.topology g.number),
        found_any (λ (x : Consumer). washes.Consumer x.number) (is_idle granted (is_out v) v.topology)
            (consumers_of v.topology g.number),
        idle_any g.number,
        some_or (free_geom granted (is_out v) v.topology g) None,
        or-false (is_some (free_geom granted (is_out v) v.topology g)),
        some_if (is_bare v g.number) (washes.Geom g.number),
      )

  -- one geom more in front, by whether it withers and what of it can go
  first_step : (g : Geom C) (gs : List (Geom C)) (b : Bool) (o : Option WashWork) → g.withering ≡ b
      → wash_work_of granted (is_out v) v.topology g ≡ o
      → first_wash granted (is_out v) v.topology (filter (λ x. x.withering) gs)
      ≡ option_and_then (wash_work_of granted (is_out v) v.topology) (find (can_go v) gs)
      → first_wash granted (is_out v) v.topology (filter (λ x. x.withering) (g ∷ gs))
      ≡ option_and_then (wash_work_of granted (is_out v) v.topology) (find (can_go v) (g ∷ gs))
  first_step g gs true (Some work) e f rest = search (rules, work_is g)
  first_step g gs true None e f rest = search (rules, work_is g)
  first_step g gs false o e f rest = rw e rest

  -- what can go of the first geom that can
  pub first_work : (gs : List (Geom C))
      → first_wash granted (is_out v) v.topology (filter (λ x. x.withering) gs)
      ≡ option_and_then (wash_work_of granted (is_out v) v.topology) (find (can_go v) gs)
  first_work [] = refl
  first_work (g ∷ gs) =
      first_step g gs g.withering (wash_work_of granted (is_out v) v.topology g) refl refl (first_work gs)

  -- where there is none, nothing can be washed
  pub wash_none : None ≡ first_geom (filter (can_go v) v.topology.geoms) 0
      → None ≡ wash_where granted (is_out v) v.topology
  wash_none first =
      search (rules, first_passing (λ (g : Geom C). g.number) (can_go v) v.topology.geoms, first_work v.topology.geoms)

  -- what can be washed is what can go of the first geom that can
  pub wash_first : (g : Geom C) → find (can_go v) v.topology.geoms ≡ Some g
      → wash_where granted (is_out v) v.topology ≡ wash_work_of granted (is_out v) v.topology g
  wash_first g found = search (rules, first_work v.topology.geoms)

-- the first geom that can go stands under its number, and withers
pub record IsFirstGoing {C : Type 0} (v : TopoView C) (n : ℕ) : Type 0 where
  pub geom : Geom C
  pub found : find (can_go v) v.topology.geoms ≡ Some geom
  pub at : geom_at v.topology n ≡ Some geom
  pub withers : IsTrue (is_withering v.topology n)

module _ {C : Type 0} (v : TopoView C) (order : IsInOrder v.topology) where
  -- what the look-up gives
  pub first_going : (n : ℕ) → Some n ≡ first_geom (filter (can_go v) v.topology.geoms) 0 → IsFirstGoing v n
  first_going n first = by (find (can_go v) v.topology.geoms) refl
      (search (rules, first_passing (λ (g : Geom C). g.number) (can_go v) v.topology.geoms)) where
        by : (o : Option (Geom C)) → find (can_go v) v.topology.geoms ≡ o
            → Some n ≡ option_map (λ (g : Geom C). g.number) (find (can_go v) v.topology.geoms) → IsFirstGoing v n
        by None e some = let never : Some n ≡ None = rw e at some in absurd (cc)
        by (Some g) e some =
            let numbers : Some n ≡ Some g.number = rw e at some in
            let same : n ≡ g.number = cc in
            let stands : geom_at v.topology n ≡ Some g =
            subst (λ m. geom_at v.topology m ≡ Some g) (sym same)
            (found_itself (λ (x : Geom C). x.number) v.topology.next_geom v.topology.geoms g order.geoms
            (find-Contains (can_go v) v.topology.geoms g e)) in
            let goes : can_go v g ≡ true = found_passes (can_go v) v.topology.geoms g e in
            record {
              geom = g;
              found = e;
              at = stands;
              withers = withering_is v.topology order n g stands ∙ (and_parts g.withering (is_free v g.number) goes).0;
            }
