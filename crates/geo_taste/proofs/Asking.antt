-- Whether a taste goes on, whether a class has a geom over the provider already, and what asking a class comes to.
use Rattle.std.specs.Option.{option_map_or}
use Rattle.std.proofs.Common.{◌≡◌, Bool, true, false, Option, Some, None, ℕ, ◌==◌, ◌≤◌, ◌&&◌, ◌||◌, if◌then◌else◌, not, List, ◌∷◌, filter, ◌+◌, is_some, find, map, refl, sym, ◌∙◌, ap, inl, inr, arith, rules}
use Rattle.std.proofs.lemmas.Bool.{eqb-true, and_parts, and_from, or_cases, false_from_ne_true, eq-eqb}
use Rattle.std.proofs.lemmas.List.Elements.{All-contains, filter_agree}
use Rattle.geo_base.proofs.Tests.{same_tests}
use Rattle.geo_base.proofs.FindLists.{some-passes, Passes}
use Rattle.geo_model.specs.Topology.{Topology, Provider, Consumer, provider_at, consumer_at, is_errored, Geom, geom_at, consumers_of, attached_to, is_withering}
use Rattle.geo_model.specs.Graph.{IsInOrder, AreNumbers}
use Rattle.geo_model.specs.World.{Config, Taste, ReadOut}
use Rattle.geo_model.proofs.DemandLemmas.{find_passes}
use Rattle.geo_mesh.specs.Graph.{IsSoundGraph, IsOffer}
use Rattle.geo_laws_graph.proofs.Members.{find-Contains, Contains-filter}
use Rattle.geo_laws_graph.proofs.Numbered.{any-contained, number_found}
use Rattle.geo_taste.specs.Going.{going}
use Rattle.std.specs.List.{list_any}
use Rattle.geo_base.specs.declared.kind.Kind.{Kind}
use Rattle.geo_base.specs.declared.kind.Kind.TheVariants as kinds
use Rattle.geo_model.specs.Words.{is_kind, names_number}
use Rattle.geo_model.specs.Tasting.{is_over, is_attached_class, ask_class, facts_of, read_sector}
use Rattle.geo_laws_counts.proofs.LimitFacts.{of_filter}
use Rattle.geo_taste.specs.Over.{may_be_of, over, stands_as}
use Rattle.geo_base.specs.declared.errno.Errno.{Errno}
use Rattle.geo_model.specs.declared.class.Judged.{Judged}
use Rattle.geo_model.specs.declared.class.Judged.TheVariants.{Read, Next}
use Rattle.geo_model.specs.declared.step.Event.{Event}
use Rattle.geo_model.specs.Acceptance.{taste_where}
use Rattle.geo_model.specs.Demand.{one_read}
use Rattle.geo_model.specs.Opens.{grant_refusal, with_grant}
use Rattle.geo_mesh.specs.Topo.{TopoView, is_provider_size}
use Rattle.geo_access.specs.Access.{granted_by}
use Rattle.geo_class.specs.Taste.{ended}
use Rattle.geo_taste.specs.Taster.{judging, queued}
use Rattle.geo_laws_graph.proofs.Lists.{found_itself, any-kept}
use Rattle.geo_mesh.proofs.IndexLemmas.{filter-both}

-- a value that passes is there
pub some_passes : {X : Type 0} (test : X → Bool) (o : Option X) → option_map_or test o false ≡ true
    → (x : X) × (o ≡ Some x) × (test x ≡ true)
some_passes test None never = absurd (cc)
some_passes test (Some x) passes = (x, refl, passes)

-- one of a number passes where the one that is found there does
test_there : {X : Type 0} (number : X → ℕ) (test : X → Bool) (n : ℕ) (xs : List X) (x : X)
    → find (λ y. number y == n) xs ≡ Some x → test x ≡ true → list_any (λ y. (number y == n) && test y) xs ≡ true
test_there number test n xs x found passes =
    any-contained (λ y. (number y == n) && test y) xs x (find-Contains (λ y. number y == n) xs x found)
    (and_from (number x == n) (test x) (find_passes (λ y. number y == n) xs x found) passes)

-- where numbers differ, whether one of a number passes is what stands there
test_told : {X : Type 0} (number : X → ℕ) (test : X → Bool) (next n : ℕ) (xs : List X) → AreNumbers (map number xs) next
    → list_any (λ x. (number x == n) && test x) xs ≡ option_map_or test (find (λ x. number x == n) xs) false
test_told {X} number test next n xs are =
    same_tests (list_any (λ x. (number x == n) && test x) xs)
    (option_map_or test (find (λ x. number x == n) xs) false) forth back
  where
    forth : list_any (λ x. (number x == n) && test x) xs ≡ true
        → option_map_or test (find (λ x. number x == n) xs) false ≡ true
    forth some =
        let one : Passes (λ (x : X). (number x == n) && test x) xs =
        some-passes (λ (x : X). (number x == n) && test x) xs some in
        search (rules, found_itself number next xs one.item are one.here)

    back : option_map_or test (find (λ x. number x == n) xs) false ≡ true
        → list_any (λ x. (number x == n) && test x) xs ≡ true
    back some = search (rules, test_there number test n xs)

-- so whether a geom withers is what stands at it
pub withering_is : {C : Type 0} (t : Topology C) → IsInOrder t → (g : ℕ) (o : Option (Geom C)) → geom_at t g ≡ o
    → is_withering t g ≡ option_map_or (λ (x : Geom C). x.withering) o false
withering_is {C} t order g o found =
    search (rules, test_told (λ (x : Geom C). x.number) (λ (x : Geom C). x.withering) t.next_geom g t.geoms order.geoms)

-- and whether a provider carries an error
pub errored_is : {C : Type 0} (t : Topology C) → IsInOrder t → (p : ℕ) (x : Provider) → provider_at t p ≡ Some x
    → is_errored t p ≡ x.errored
errored_is t order p x found =
    test_told (λ (y : Provider). y.number) (λ (y : Provider). y.errored) t.next_provider p t.providers order.providers
    ∙ ap (λ o. option_map_or (λ (y : Provider). y.errored) o false) found

-- a provider that is found where none carries an error carries none
pub no_error_there : {C : Type 0} (t : Topology C) (p : ℕ) (x : Provider) → provider_at t p ≡ Some x
    → is_errored t p ≡ false → x.errored ≡ false
no_error_there t p x found none =
    false_from_ne_true x.errored (λ errored.
    let some : is_errored t p ≡ true =
    test_there (λ (y : Provider). y.number) (λ (y : Provider). y.errored) p t.providers x found errored in
    let no : true ≡ false = sym some ∙ none in cc)

-- Whether a taste goes on

-- a provider that is found has the size of one
pub sized_there : {C : Type 0} (t : Topology C) → IsSoundGraph t → (p : ℕ) (x : Provider) → provider_at t p ≡ Some x
    → is_provider_size x.size x.sector ≡ true
sized_there t sound p x found =
    (All-contains (λ (y : Provider). IsOffer y) t.providers x sound.orderly.offers
    (find-Contains (λ (y : Provider). y.number == p) t.providers x found)).sizes

-- so its sectors have some bytes
pub sector_some : {C : Type 0} (t : Topology C) → IsSoundGraph t → (p : ℕ) (x : Provider) → provider_at t p ≡ Some x
    → 1 ≤ x.sector
sector_some t sound p x found =
    elim (or_cases (x.sector == 512) (x.sector == 4096)
    (and_parts ((x.sector == 512) || (x.sector == 4096)) _ (sized_there t sound p x found)).0) [
      | inl e ↦ let is : x.sector ≡ 512 = eqb-true x.sector 512 e in omega arith
      | inr e ↦ let is : x.sector ≡ 4096 = eqb-true x.sector 4096 e in omega arith
    ]

module _ (t : Topology Config) (order : IsInOrder t) (s : Taste) where
  -- whether the consumer is marked
  abbrev pub spoiled : Bool
  spoiled = option_map_or (λ (c : Consumer). c.spoiled) (consumer_at t s.consumer) false

  -- one with an error
  pub going_errored : (x : Provider) → provider_at t s.provider ≡ Some x → x.errored ≡ true → going t s ≡ None
  going_errored x found errored = search (rules, errored_is t order s.provider x found)

  -- neither
  pub going_on : (x : Provider) → provider_at t s.provider ≡ Some x → x.errored ≡ false → spoiled ≡ false
      → going t s ≡ Some x
  going_on x found errored unmarked = search (rules, errored_is t order s.provider x found)

-- Whether a class has a geom over a provider

module _ (t : Topology Config) (order : IsInOrder t) (kind : Kind) (p : ℕ) where
  -- whether a geom is of the class and isn't withering, and whether it is over the provider
  abbrev is_of : Geom Config → Bool
  is_of g = is_kind g.kind kind && not g.withering

  abbrev covers : Geom Config → Bool
  covers g = is_kind g.kind kind && (not g.withering && is_over t p g)

  -- a consumer at the provider leads to its geom
  leads_up : list_any (λ (c : Consumer). stands_as t kind c.geom) (attached_to t p) ≡ true
      → is_attached_class t kind p ≡ true
  leads_up some =
      let one : Passes (λ (c : Consumer). stands_as t kind c.geom) (attached_to t p) =
      some-passes (λ (c : Consumer). stands_as t kind c.geom) (attached_to t p) some in
      let at = of_filter (λ (c : Consumer). names_number c.provider p) t.consumers one.item one.here in
      let found = some_passes is_of (geom_at t one.item.geom) one.passes in
      let number : found.0.number ≡ one.item.geom =
      number_found (λ (g : Geom Config). g.number) t.geoms one.item.geom found.0 found.1 in
      let parts = and_parts (is_kind found.0.kind kind) (not found.0.withering) found.2 in
      let over : is_over t p found.0 ≡ true =
      any-contained (λ (c : Consumer). names_number c.provider p) (consumers_of t found.0.number) one.item
      (Contains-filter (λ (c : Consumer). c.geom == found.0.number) t.consumers one.item at.0
      (eq-eqb one.item.geom found.0.number (sym number)))
      at.1 in
      any-contained covers t.geoms found.0
      (find-Contains (λ (g : Geom Config). g.number == one.item.geom) t.geoms found.0 found.1)
      (and_from (is_kind found.0.kind kind) (not found.0.withering && is_over t p found.0) parts.0
      (and_from (not found.0.withering) (is_over t p found.0) parts.1 over))

  -- and a geom over the provider to its consumer there
  leads_down : is_attached_class t kind p ≡ true
      → list_any (λ (c : Consumer). stands_as t kind c.geom) (attached_to t p) ≡ true
  leads_down some =
      let one : Passes covers t.geoms = some-passes covers t.geoms some in
      let g : Geom Config = one.item in
      let parts = and_parts (is_kind g.kind kind) (not g.withering && is_over t p g) one.passes in
      let rest = and_parts (not g.withering) (is_over t p g) parts.1 in
      let below : Passes (λ (c : Consumer). names_number c.provider p) (consumers_of t g.number) =
      some-passes (λ (c : Consumer). names_number c.provider p) (consumers_of t g.number) rest.1 in
      let at = of_filter (λ (c : Consumer). c.geom == g.number) t.consumers below.item below.here in
      let same : below.item.geom ≡ g.number = eqb-true below.item.geom g.number at.1 in
      let found : geom_at t below.item.geom ≡ Some g =
      ap (geom_at t) same
      ∙ found_itself (λ (x : Geom Config). x.number) t.next_geom t.geoms g order.geoms one.here in
      any-contained (λ (c : Consumer). stands_as t kind c.geom) (attached_to t p) below.item
      (Contains-filter (λ (c : Consumer). names_number c.provider p) t.consumers below.item at.0 below.passes)
      (ap (λ o. option_map_or is_of o false) found
      ∙ and_from (is_kind g.kind kind) (not g.withering) parts.0 rest.0)

  -- so they say the same
  all_told : list_any (λ (c : Consumer). stands_as t kind c.geom) (attached_to t p)
      ≡ is_attached_class t kind p
  all_told =
      same_tests (list_any (λ (c : Consumer). stands_as t kind c.geom) (attached_to t p))
      (is_attached_class t kind p) leads_up leads_down

-- Handles

-- whether a consumer is at a provider, and may be of a geom of the class
abbrev pub looked_at : Kind → ℕ → Consumer → Bool
looked_at kind p c = names_number c.provider p && may_be_of kind c

module _ (t : Topology Config) (kind : Kind) (p : ℕ) where
  -- for DEV all consumers at the provider are looked at
  pub over_all : is_kind kind kinds.Dev ≡ true → attached_to t p ≡ over t kind p
  over_all dev = search rules

  -- for another class those that aren't DEV's
  pub over_above : is_kind kind kinds.Dev ≡ false
      → filter (λ (c : Consumer). not (c.geom == 1)) (attached_to t p) ≡ over t kind p
  over_above other =
      sym (filter-both (λ (c : Consumer). names_number c.provider p) (λ (c : Consumer). not (c.geom == 1)) t.consumers)
      ∙ filter_agree (λ (c : Consumer). names_number c.provider p && not (c.geom == 1)) (looked_at kind p)
      (λ c. ap (λ b. names_number c.provider p && (b || not (c.geom == 1))) (sym other)) t.consumers

  -- so it is enough to look at the others
  pub over_told : IsSoundGraph t
      → list_any (λ (c : Consumer). stands_as t kind c.geom) (over t kind p) ≡ is_attached_class t kind p
  over_told sound =
      let passes : Consumer → Bool = λ c. stands_as t kind c.geom in
      ap (list_any passes) (filter-both (λ (c : Consumer). names_number c.provider p) (may_be_of kind) t.consumers)
      ∙ any-kept (may_be_of kind) passes (search rules) (attached_to t p)
      ∙ all_told t sound.orderly.order kind p

-- Walks

-- what comes next is the first of what is left
pub any_next : {X : Type 0} (test : X → Bool) (xs rest : List X) (x : X) (b : Bool) → xs ≡ x ∷ rest → test x ≡ false
    → list_any test xs ≡ b → list_any test rest ≡ b
any_next test xs rest x b is fails so = search rules

-- one that passes is enough
pub any_first : {X : Type 0} (test : X → Bool) (xs rest : List X) (x : X) (b : Bool) → xs ≡ x ∷ rest → test x ≡ true
    → list_any test xs ≡ b → true ≡ b
any_first test xs rest x b is passes so = search rules

-- Asking a class, and reading a sector

module _ (t : TopoView Config) (events : List Event) where
  -- the read of a sector, by what refuses it
  pub read_told : (s : Taste) (kind : Kind) (sector : ℕ) (o : Option Errno)
      → grant_refusal (with_grant (granted_by t) s.consumer one_read) t.topology s.provider ≡ o
      → read_sector (granted_by t) (queued t events) s kind sector
      ≡ (if is_some o then judging t events (ended s) Next
      else judging t events (record s { asked = ReadOut kind; reads = s.reads + 1 }) (Read sector))
  read_told s kind sector o refused =
      ap (λ r. if is_some r then judging t events (ended s) Next
      else judging t events (record s { asked = ReadOut kind; reads = s.reads + 1 }) (Read sector)) refused

  -- the same where the mesh has the graph that it had
  pub read_made : (u : TopoView Config) (s z : Taste) (j : Judged) → u.topology ≡ t.topology → z ≡ s
      → judging t events s j ≡ judging u events z j
  read_made u s z j graph same = search rules

  -- a class that has no geom over the provider, and looks at it, reads its first sector
  pub asks_sector : (s : Taste) (p : Provider) (kind : Kind) (left : Taste) (sector : ℕ)
      → left ≡ record (ended s) { classes = left.classes }
      → is_attached_class t.topology kind s.provider ≡ false
      → taste_where kind (facts_of t.topology p) ≡ Some sector
      → ask_class (granted_by t) (queued t events) s p kind left.classes
      ≡ read_sector (granted_by t) (queued t events) left kind sector
  asks_sector s p kind left sector is free looks = search rules
