-- A member joins an assembly, in a new geom or in the standing one: the place that it takes, and what comes of it.
use Rattle.std.specs.List.{list_all, AllByRecursion}
use Rattle.std.proofs.Common.{◌≡◌, ℕ, ◌-◌, Bool, true, false, not, ◌&&◌, List, [], ◌∷◌, Option, Some, None, IfSome, is_some, if◌then◌else◌, ◌≢◌, ◌⊎◌, ◌+◌, ◌^◌, ◌<◌, ◌≤◌, ◌==◌, nat_le, length, find, filter, flat_map, filter_map, is_none, IsSomeAnd, option_map, Contains, slice_get, option_and_then, All, refl, sym, ◌∙◌, ap, subst, arith, rules}
use Rattle.std.proofs.lemmas.Bool.{and_parts, cases_Bool}
use Rattle.std.proofs.lemmas.List.Elements.{All-contains, recursion_from_All}
use Rattle.geo_model.specs.Topology.{Topology, Provider, Geom, geom_at, provider_at, provider_of_consumer, providers_of, is_withering, set_config}
use Rattle.geo_model.specs.World.{Config, Concat, Stripe}
use Rattle.geo_model.specs.Acceptance.{are_names_free, fill_place, places_of, joined_size, is_size, Member, is_same_assembly, can_join, standing_geom}
use Rattle.geo_mesh.specs.Topo.{is_provider_size, first_geom, first_provider, TopoView, with_geom, with_topology, IsButForRoom}
use Rattle.geo_laws_graph.specs.LookupLaws.{WalksMeetAll, left_from}
use Rattle.geo_class.specs.Assembly.{can_stand, standing}
use Rattle.geo_taste.specs.declared.offer.Offer.{Offer}
use Rattle.geo_taste.specs.declared.place.Plan.{Plan}
use Rattle.geo_taste.specs.Making.{QueuedMesh, both, AreBoth, with_attached}
use Rattle.geo_taste.specs.Accepting.{placed, joined, joined_at, with_member, IsAccepted}
use Rattle.geo_taste.specs.Accepts.{HaveSizes, MakesSizes}
use Rattle.geo_taste.specs.Members.{CanBeOffered, plan_for, plan_of, with_plan}
use Rattle.std.specs.Option.{option_flatten, option_map_or, option_to_list}
use Rattle.geo_base.proofs.Options.{is_nothing, at-some, if-with}
use Rattle.geo_base.proofs.PlaceLists.{free_at}
use Rattle.geo_model.specs.Words.{same_name, is_kind}
use Rattle.geo_model.specs.Place.{components}
use Rattle.geo_model.proofs.DemandLemmas.{find_passes}
use Rattle.geo_mesh.specs.Graph.{IsSoundGraph}
use Rattle.geo_laws_graph.proofs.Members.{Contains-here, filter-Contains, find-Contains, has}
use Rattle.geo_laws_graph.proofs.Lists.{found_itself}
use Rattle.geo_laws_graph.proofs.Walks.{walks-meet}
use Rattle.geo_taste.specs.Joining.{MayBeMember, MayJoin, fits_sector, can_take, is_bare, is_of_assembly}
use Rattle.geo_base.specs.declared.kind.Kind.{Kind}
use Rattle.geo_base.specs.declared.kind.Kind.TheVariants as kinds
use Rattle.geo_model.specs.Sound.{IsOfItsClass, fits_kind}
use Rattle.geo_event.specs.EventQueue.{Queued}
use Rattle.geo_laws_graph.proofs.Found.{config-found}
use Rattle.geo_laws_life.proofs.Found.{some-there, one-found}
use Rattle.geo_taste.specs.declared.shapes.Accepted.{Accepted}
use Rattle.geo_taste.specs.declared.shapes.Accepted.TheVariants.{Made, Declined}
use Rattle.geo_taste.specs.Standing.{MayOffer}
use Rattle.geo_taste.proofs.Raising.{still_may}
use Rattle.geo_base.proofs.Tests.{passes_apart}
use Rattle.geo_taste.proofs.Asking.{withering_is}
use Rattle.geo_taste.proofs.TableLemmas.{kept_some, offer_sized}

-- A place that is taken

-- where all that is made has sizes of providers, the one of a plan has
pub plan_sizes : (m : QueuedMesh) (prov geom : ℕ) (filled : Config) (o : Option Offer)
    → HaveSizes (with_plan m prov geom (record { filled = filled; offer = o })).mesh.topology
    → IfSome o (λ x. is_provider_size x.size x.sector ≡ true)
plan_sizes m prov geom filled None sizes = tt
plan_sizes m prov geom filled (Some x) sizes =
    (offer_sized (placed m prov geom filled) geom x.name x.size x.sector sizes).1

-- what a complete assembly comes to, and another one
abbrev whole : Config → List ℕ → ℕ → Plan
whole filled name sector = record {
  filled = filled;
  offer = Some (record { name = name; size = joined_size filled; sector = sector });
}

abbrev open_still : Config → Plan
open_still filled = record { filled = filled; offer = None }

-- the plan by the tests: whether no place is left, the size is one, the name is free, and the sectors fit
abbrev plan_by : Config → List ℕ → ℕ → Bool → Bool → Bool → Bool → Option Plan
plan_by filled name sector full size free sized =
    if full
    then (if size && (free && sized) then Some (whole filled name sector) else None)
    else Some (open_still filled)

module _ (m : QueuedMesh) (p : Provider) (geom : ℕ) (config : Config) (place : ℕ) (name : List ℕ) where
  -- the configuration with the place filled
  abbrev filled : Config
  filled = fill_place config place m.mesh.topology.next_consumer (p.size - p.sector)

  -- what is made, by the tests
  abbrev made_by : Bool → Bool → Bool → Option QueuedMesh
  made_by full size free =
      if full
      then (if size
      then (if free then Some (with_plan m p.number geom (whole filled name p.sector)) else None)
      else None)
      else Some (with_plan m p.number geom (open_still filled))

  -- where there is no plan nothing can be made, if what is made has sizes of providers
  plan_by_none : (a b c d : Bool) → is_provider_size (joined_size filled) p.sector ≡ d
      → plan_by filled name p.sector a b c d ≡ None
      → MakesSizes (made_by a b c) → made_by a b c ≡ None
  plan_by_none true true true false sized e sizes =
      let good : is_provider_size (joined_size filled) p.sector ≡ true =
      plan_sizes m p.number geom filled (Some (record { name = name; size = joined_size filled; sector = p.sector }))
      sizes in
      absurd (let no : false ≡ true = sym sized ∙ good in let none : ⊥ = cc in none)
  plan_by_none true true false d sized e sizes = refl
  plan_by_none true false c d sized e sizes = refl
  plan_by_none _ _ _ _ sized e sizes = absurd (let no : ⊥ = cc in no)

  -- and so none is
  pub plan_none : plan_of m.mesh.topology (p.size - p.sector) p.sector config place name ≡ None
      → MakesSizes (joined m p geom config place name) → joined m p geom config place name ≡ None
  plan_none e sizes =
      plan_by_none (list_all is_some (places_of filled)) (is_size (joined_size filled))
      (are_names_free m.mesh.topology (name ∷ [])) (is_provider_size (joined_size filled) p.sector) refl e sizes

module _ (t : Topology Config) (size sector : ℕ) (config : Config) (place : ℕ) (name : List ℕ) (plan : Plan) where
  -- so it is
  pub plan_offers : plan_of t size sector config place name ≡ Some plan → IfSome plan.offer (CanBeOffered t)
  plan_offers e = search rules

-- Configurations that can stand

-- a configuration that can't stand comes to nothing
pub standing_none : (t : Topology Config) (filled : Config) (name : List ℕ) (sector : ℕ) → standing filled ≡ None
    → plan_for t filled name sector ≡ None
standing_none t filled name sector e = search rules

-- one that can is itself
pub standing_some : (filled other : Config) → standing filled ≡ Some other → other ≡ filled
standing_some filled other e = sym (kept_some (can_stand filled) filled other e).1

-- Components of one sector size

module _ (t : Topology Config) (sector : ℕ) where
  -- the provider at a place
  abbrev at_place : Option ℕ → Option Provider
  at_place place = option_and_then (provider_at t) (option_and_then (provider_of_consumer t) place)

  -- the consumers that fill places fit where the providers there have the sector size
  all_fit : (ps : List (Option ℕ))
      → list_all (fits_sector t sector) (flat_map option_to_list ps)
      ≡ list_all (λ (x : Provider). x.sector == sector) (filter_map at_place ps)
  all_fit [] = refl
  all_fit (None ∷ ps) = all_fit ps
  all_fit (Some c ∷ ps) = search (rules, all_fit ps)

-- no place is below none
no_place : (k : ℕ) → k < 0 → ⊥
no_place k less = omega (arith, less)

-- a provider can take a place of a configuration as it can join its geom
pub takes_as_joins : (t : Topology Config) (p : Provider) (g : Geom Config) (config : Config) (k : ℕ)
    → g.config ≡ config → k < length (places_of config)
    → can_take t p.sector config k ≡ can_join t p g k
takes_as_joins t p g (Concat id places sizes) k e less =
    rw e (ap (λ b. is_none (option_flatten (slice_get places k)) && b) (all_fit t p.sector places))
takes_as_joins t p g (Stripe id stripe places sizes) k e less =
    rw e (ap (λ b. is_none (option_flatten (slice_get places k)) && b) (all_fit t p.sector places))
takes_as_joins t p g _ k e less = absurd (no_place k less)

-- a provider can take a place that is free where each component fits
pub can_take_is : (t : Topology Config) (sector : ℕ) (config : Config) (k : ℕ) (b r : Bool) (cs : List ℕ)
    → b ≡ is_none (option_flatten (slice_get (places_of config) k)) → b ≡ true
    → r ≡ list_all (fits_sector t sector) cs → cs ≡ components config
    → r ≡ can_take t sector config k
can_take_is t sector config k b r cs free holds fit are = search rules

-- Standing geoms

-- what a geom has that is of an assembly
pub record IsOfAssembly (name : List ℕ) (empty : Config) (g : Geom Config) : Type 0 where
  pub automatic : g.automatic ≡ true
  pub stays : g.withering ≡ false
  pub named : same_name g.name name ≡ true
  pub same : is_same_assembly g.config empty ≡ true

-- so the test tells
pub assembly_of : (name : List ℕ) (empty : Config) (g : Geom Config) → is_of_assembly name empty g ≡ true
    → IsOfAssembly name empty g
assembly_of name empty g e = search rules

module _ (t : Topology Config) (sound : IsSoundGraph t) (name : List ℕ) (empty : Config) (id : ℕ) (g : Geom Config)
    (found : geom_at t id ≡ Some g) (is : is_of_assembly name empty g ≡ true) where
  -- the geom doesn't wither
  pub standing_stays : is_withering t id ≡ false
  standing_stays = withering_is t sound.orderly.order id (Some g) found ∙ (assembly_of name empty g is).stays

  -- and has the place
  pub standing_place : (place : ℕ) → place < length (places_of empty) → place < length (places_of g.config)
  standing_place place inside = search rules

module _ (m : QueuedMesh) (p : Provider) (x : Member) (g : Geom Config) (sound : IsSoundGraph m.mesh.topology)
    (inside : x.place < length (places_of x.empty))
    (found : standing_geom m.mesh.topology x.geom_name x.empty ≡ Some g) where
  -- the graph
  abbrev t : Topology Config
  t = m.mesh.topology

  -- the geom stands
  stands : Contains t.geoms g
  stands = find-Contains (is_of_assembly x.geom_name x.empty) t.geoms g found

  -- under its number
  pub standing_at : geom_at t g.number ≡ Some g
  standing_at = found_itself (λ (h : Geom Config). h.number) t.next_geom t.geoms g sound.orderly.order.geoms stands

  -- and passes the test
  passes : is_of_assembly x.geom_name x.empty g ≡ true
  passes = find_passes (is_of_assembly x.geom_name x.empty) t.geoms g found

  module _ (may : MayBeMember m p x) where
    -- it isn't of a number of those that aren't automatic
    other : (g.number ≡ 1) ⊎ (g.number ≡ 2) → ⊥
    other which =
        let not_made : g.automatic ≡ false =
        All-contains (λ (h : Geom Config). (h.number ≡ 1) ⊎ (h.number ≡ 2) → h.automatic ≡ false) t.geoms g may.first
        stands which in
        let no : true ≡ false = sym (assembly_of x.geom_name x.empty g passes).automatic ∙ not_made in
        cc

    -- so in a fitting mesh it can be joined
    pub standing_may : MayJoin m p x g
    standing_may =
        search (
          rules,
          stands,
          free_at (places_of g.config) x.place
              (standing_place t sound x.geom_name x.empty g.number g standing_at passes x.place inside),
        )

-- The walk over the geoms

-- the next geom of a walk over some of the geoms
pub record IsNextGeom (t : Topology Config) (xs : List (Geom Config)) (from_number id : ℕ) : Type 0 where
  pub item : Geom Config
  pub is : item.number ≡ id
  pub left : left_from (λ (g : Geom Config). g.number) from_number xs
      ≡ item ∷ left_from (λ (g : Geom Config). g.number) (id + 1) xs
  pub past : from_number ≤ id
  pub known : id < t.next_geom
  pub fits : t.next_geom < 2 ^ 64
  pub at : geom_at t id ≡ Some item

-- so it is where it was found among the geoms that are walked
pub next_geom_of : (t : Topology Config) (keep : Geom Config → Bool) (from_number id : ℕ) → IsSoundGraph t
    → first_geom (filter keep t.geoms) from_number ≡ Some id → IsNextGeom t (filter keep t.geoms) from_number id
next_geom_of t keep from_number id sound e =
    let walk : WalksMeetAll (Geom Config) = walks-meet in
    let step = walk.step (λ (g : Geom Config). g.number) (filter keep t.geoms) t.next_geom from_number id
    (walk.part (λ (g : Geom Config). g.number) keep t.geoms t.next_geom sound.orderly.order.geoms) e in
    let among : Contains (left_from (λ (g : Geom Config). g.number) from_number (filter keep t.geoms)) step.item =
    subst (λ xs. Contains xs step.item) (sym step.left) (Contains-here step.item _) in
    let kept : Contains (filter keep t.geoms) step.item =
    (filter-Contains (λ (g : Geom Config). nat_le from_number g.number) (filter keep t.geoms) step.item among).0 in
    let here : Contains t.geoms step.item = (filter-Contains keep t.geoms step.item kept).0 in
    record {
      item = step.item;
      is = step.is;
      left = step.left;
      past = step.past;
      known = step.known;
      fits = sound.orderly.numbers.next_geom.fits;
      at = subst (λ n. geom_at t n ≡ Some step.item) step.is
          (found_itself (λ (g : Geom Config). g.number) t.next_geom t.geoms step.item sound.orderly.order.geoms here);
    }

module _ (t : Topology Config) (keep : Geom Config → Bool) (name : List ℕ) (empty : Config) (from_number id : ℕ)
    (sound : IsSoundGraph t) (first : Some id ≡ first_geom (filter keep t.geoms) from_number)
    (so_far : find (is_of_assembly name empty)
    (left_from (λ (g : Geom Config). g.number) from_number (filter keep t.geoms))
    ≡ find (is_of_assembly name empty) (filter keep t.geoms)) where
  -- the geoms that are walked
  abbrev xs : List (Geom Config)
  xs = filter keep t.geoms

  -- the next one
  next : IsNextGeom t xs from_number id
  next = next_geom_of t keep from_number id sound (sym first)

  -- the test at the number is that of the item
  at_item : option_map_or (is_of_assembly name empty) (geom_at t id) false ≡ is_of_assembly name empty next.item
  at_item = ap (λ o. option_map_or (is_of_assembly name empty) o false) next.at

  -- an item that doesn't pass is passed over
  pub walk_on : false ≡ option_map_or (is_of_assembly name empty) (geom_at t id) false
      → find (is_of_assembly name empty) (left_from (λ (g : Geom Config). g.number) (id + 1) xs)
      ≡ find (is_of_assembly name empty) xs
  walk_on fails = search (rules, at_item)

  -- one that passes is the first
  pub walk_found : true ≡ option_map_or (is_of_assembly name empty) (geom_at t id) false
      → Some id ≡ option_map (λ (g : Geom Config). g.number) (find (is_of_assembly name empty) xs)
  walk_found holds = search (rules, at_item)

  -- and is of the assembly
  pub walk_passes : true ≡ option_map_or (is_of_assembly name empty) (geom_at t id) false
      → IsSomeAnd (geom_at t id) (λ g. is_of_assembly name empty g ≡ true)
  walk_passes holds = search rules

-- a walk that ends meets none
pub walk_end : (t : Topology Config) (name : List ℕ) (empty : Config) (xs : List (Geom Config)) (from_number : ℕ)
    → find (is_of_assembly name empty) (left_from (λ (g : Geom Config). g.number) from_number xs)
    ≡ find (is_of_assembly name empty) xs
    → None ≡ first_geom xs from_number
    → None ≡ option_map (λ (g : Geom Config). g.number) (find (is_of_assembly name empty) xs)
walk_end t name empty xs from_number so_far ends =
    let walk : WalksMeetAll (Geom Config) = walks-meet in
    search rules

-- Geoms without providers

-- what the test of a bare geom tells
pub record IsBare (t : Topology Config) (geom : ℕ) : Type 0 where
  pub not_dev : geom ≢ 1
  pub not_taste : geom ≢ 2
  pub bare : providers_of t geom ≡ []

-- so it tells
pub bare_of : (t : Topology Config) (geom : ℕ) → is_bare t geom ≡ true → IsBare t geom
bare_of t geom e =
    let first = and_parts (not (geom == 1)) (not (geom == 2) && is_none (first_provider (providers_of t geom) 0)) e in
    let second = and_parts (not (geom == 2)) (is_none (first_provider (providers_of t geom) 0)) first.1 in
    let walk : WalksMeetAll Provider = walks-meet in
    record {
      not_dev = passes_apart geom 1 first.0;
      not_taste = passes_apart geom 2 second.0;
      bare = walk.empty (λ (x : Provider). x.number) (providers_of t geom)
          (is_nothing (first_provider (providers_of t geom) 0) second.1);
    }

-- Geoms of a class and a name

-- whether a geom is of the class and of the name
abbrev pub has_name : Kind → List ℕ → Geom Config → Bool
has_name kind name g = is_kind g.kind kind && same_name g.name name

-- the geoms of the class and of the name
abbrev pub named_geoms : Kind → List ℕ → List (Geom Config) → List (Geom Config)
named_geoms kind name xs = filter (has_name kind name) xs

module _ (kind : Kind) (name : List ℕ) (empty : Config) (fits : fits_kind kind empty ≡ true) where
  -- so it is found among those
  found_named : (xs : List (Geom Config)) → AllByRecursion IsOfItsClass xs
      → find (is_of_assembly name empty) (named_geoms kind name xs) ≡ find (is_of_assembly name empty) xs
  found_named [] classes = refl
  found_named (g ∷ xs) classes =
      search (
        rules,
        cases_Bool (is_of_assembly name empty g),
        cases_Bool (has_name kind name g),
        found_named xs classes.1,
      )

  -- where each geom is of its class
  pub named_found : (xs : List (Geom Config)) → All IsOfItsClass xs
      → find (is_of_assembly name empty) (named_geoms kind name xs) ≡ find (is_of_assembly name empty) xs
  named_found xs classes = found_named xs (recursion_from_All IsOfItsClass xs classes)

-- A member joins

-- a geom that was made after room was kept
pub geom_over : (t r u : TopoView Config) (kind : Kind) (name : List ℕ) (config : Config) (automatic : Bool)
    → IsButForRoom r t → IsButForRoom u (with_geom r kind name config automatic)
    → IsButForRoom u (with_geom t kind name config automatic)
geom_over t r u kind name config automatic kept raised = search rules

-- a provider that can be made can be made in a graph with the same providers
pub offered_still : (t u : Topology Config) (o : Option Offer) → u.providers ≡ t.providers
    → IfSome o (CanBeOffered t) → IfSome o (CanBeOffered u)
offered_still t u None same can = tt
offered_still t u (Some x) same can = search rules

-- a geom may get a provider still once it has one more consumer and another configuration
pub may_placed : (t u v : TopoView Config) (geom prov : ℕ) (filled : Config)
    → IsButForRoom u (with_attached t geom prov) → v ≡ with_topology u (set_config u.topology geom filled)
    → MayOffer t.topology geom → MayOffer v.topology geom
may_placed t u v geom prov filled attached swapped may =
    let more : MayOffer u.topology geom = still_may t u geom (prov ∷ []) attached may in
    let x = has (geom_at u.topology geom) more.lives in
    subst (λ (y : TopoView Config). MayOffer y.topology geom) (sym swapped) (record {
      lives = some-there (geom_at (set_config u.topology geom filled) geom) (record x.item { config = filled })
          (config-found.here u.topology geom filled x.item x.is);
      stays = config-found.withering u.topology geom filled geom ∙ more.stays;
      not_dev = may.not_dev;
      not_taste = may.not_taste;
    })

-- a fact of the graph where only the room changed
pub room_kept : (P : Topology Config → Type 0) (t u : TopoView Config) → IsButForRoom u t → P t.topology
    → P u.topology
room_kept P t u kept fact = subst (λ (x : TopoView Config). P x.topology) (sym kept) fact

-- a place that was taken after room was kept
pub kept_taken : (t u v : TopoView Config) (q r s : Queued) (prov geom : ℕ) (plan : Plan) → IsButForRoom u t
    → r.events ≡ q.events → AreBoth v s (with_plan (both u r) prov geom plan)
    → AreBoth v s (with_plan (both t q) prov geom plan)
kept_taken t u v q r s prov geom plan kept same taken = search rules

-- a standing geom without providers may get one
pub standing_may_offer : (t : Topology Config) (geom : ℕ) (g : Geom Config) → geom_at t geom ≡ Some g
    → is_withering t geom ≡ false → is_bare t geom ≡ true → MayOffer t geom
standing_may_offer t geom g found stays bare = search rules

-- whether a provider can take a place is whether it can join
pub can_join_is : (t : Topology Config) (p : Provider) (g : Geom Config) (k : ℕ) (b : Bool)
    → k < length (places_of g.config) → b ≡ can_take t p.sector g.config k → b ≡ can_join t p g k
can_join_is t p g k b less e = e ∙ takes_as_joins t p g g.config k refl less

-- In a new geom

module _ (t : TopoView Config) (q : Queued) (p : Provider) (x : Member) where
  -- the mesh with the new geom
  abbrev more : QueuedMesh
  more = record (both t q) { mesh = with_geom t x.kind x.geom_name x.empty true }

  -- the place is taken there
  pub new_joined : (u v : TopoView Config) (r s : Queued) (plan : Plan)
      → plan_of t.topology (p.size - p.sector) p.sector x.empty x.place x.name ≡ Some plan
      → IsButForRoom u (with_geom t x.kind x.geom_name x.empty true) → r.events ≡ q.events
      → AreBoth v s (with_plan (both u r) p.number t.topology.next_geom plan)
      → IsSomeAnd (joined_at (both t q) p x None) (AreBoth v s)
  new_joined u v r s plan is made same taken = search rules

  -- or nothing can be made
  pub new_none : plan_of t.topology (p.size - p.sector) p.sector x.empty x.place x.name ≡ None
      → MakesSizes (joined_at (both t q) p x None) → joined_at (both t q) p x None ≡ None
  new_none is sizes = plan_none more p t.topology.next_geom x.empty x.place x.name is sizes

  -- In the standing geom

  module _ (g : Geom Config) where
    -- what is made where it can join
    at_standing : can_join t.topology p g x.place ≡ true
        → joined_at (both t q) p x (Some g) ≡ joined (both t q) p g.number g.config x.place x.name
    at_standing can = rw can refl

    -- the place is taken there
    pub standing_joined : (v : TopoView Config) (s : Queued) (plan : Plan) → can_join t.topology p g x.place ≡ true
        → plan_of t.topology (p.size - p.sector) p.sector g.config x.place x.name ≡ Some plan
        → AreBoth v s (with_plan (both t q) p.number g.number plan)
        → IsSomeAnd (joined_at (both t q) p x (Some g)) (AreBoth v s)
    standing_joined v s plan can is taken = search rules

    -- it can't join
    pub standing_no : can_join t.topology p g x.place ≡ false → joined_at (both t q) p x (Some g) ≡ None
    standing_no can = rw can refl

    -- or the place that it takes comes to nothing
    pub standing_no_plan : can_join t.topology p g x.place ≡ true
        → plan_of t.topology (p.size - p.sector) p.sector g.config x.place x.name ≡ None
        → MayJoin (both t q) p x g → joined_at (both t q) p x (Some g) ≡ None
    standing_no_plan can is may =
        at_standing can
        ∙ plan_none (both t q) p g.number g.config x.place x.name is (subst MakesSizes (at_standing can) may.sizes)

    -- a geom that can be joined in a fitting mesh is bare
    pub standing_bare : can_join t.topology p g x.place ≡ true → MayJoin (both t q) p x g
        → is_bare t.topology g.number ≡ true
    standing_bare can may = search rules

    -- so one that isn't can't be joined in one
    pub standing_no_bare : can_join t.topology p g x.place ≡ true → is_bare t.topology g.number ≡ false
        → MayJoin (both t q) p x g → joined_at (both t q) p x (Some g) ≡ None
    standing_no_bare can bare may = search rules

    module _ (geom : ℕ) (at : geom_at t.topology geom ≡ Some g)
        (place : IsSomeAnd (geom_at t.topology geom) (λ (h : Geom Config). x.place < length (places_of h.config)))
        (b : Bool) (told : b ≡ can_take t.topology p.sector g.config x.place) where
      -- what was told is whether it can join
      is_told : b ≡ can_join t.topology p g x.place
      is_told =
          can_join_is t.topology p g x.place b
          (at-some (geom_at t.topology geom) (λ (h : Geom Config). x.place < length (places_of h.config)) g at place)
          told

      -- what is answered to the member
      abbrev pub IsTold : Accepted → TopoView Config → Queued → Type 0
      IsTold a v s =
          IfSome (geom_at t.topology geom)
          (λ h. IsAccepted a v s (both t q) (joined_at (both t q) p x (Some h)) (MayJoin (both t q) p x h))

      -- what is declined leaves all
      declined : (MayJoin (both t q) p x g → joined_at (both t q) p x (Some g) ≡ None) → IsTold Declined t q
      declined none =
          if-with (geom_at t.topology geom) _ g at (record { mesh = refl; events = refl }, none)

      -- it is declined where it can't join
      pub declines_full : b ≡ false → IsTold Declined t q
      declines_full cannot = declined (λ may. standing_no (sym is_told ∙ cannot))

      -- where the geom isn't bare
      pub declines_filled : b ≡ true → is_bare t.topology g.number ≡ false → IsTold Declined t q
      declines_filled can filled = declined (standing_no_bare (sym is_told ∙ can) filled)

      module _ {n : ℕ} (less : n ≡ p.sector) {o : Option Plan}
          (planned : o ≡ plan_of t.topology (p.size - n) p.sector g.config x.place x.name) where
        -- the plan of its place
        plan_is : o ≡ plan_of t.topology (p.size - p.sector) p.sector g.config x.place x.name
        plan_is = planned ∙ ap (λ k. plan_of t.topology (p.size - k) p.sector g.config x.place x.name) less

        -- where its place comes to nothing
        pub declines_planless : b ≡ true → o ≡ None → IsTold Declined t q
        declines_planless can none = declined (standing_no_plan (sym is_told ∙ can) (sym plan_is ∙ none))

        -- else it takes its place
        pub takes_place : (v : TopoView Config) (s : Queued) (plan : Plan) → b ≡ true → o ≡ Some plan
            → AreBoth v s (with_plan (both t q) p.number g.number plan) → IsTold Made v s
        takes_place v s plan can some taken =
            if-with (geom_at t.topology geom) _ g at
            (λ may. standing_joined v s plan (sym is_told ∙ can) (sym plan_is ∙ some) taken)

  -- In whichever

  module _ (sound : IsSoundGraph t.topology) (inside : x.place < length (places_of x.empty)) where
    -- the answer for the geom of the number that stands
    pub member_standing : (a : Accepted) (v : TopoView Config) (s : Queued) (id : ℕ) (g : Geom Config)
        → geom_at t.topology id ≡ Some g
        → (MayBeMember (both t q) p x
        → Some id ≡ option_map (λ (h : Geom Config). h.number) (standing_geom t.topology x.geom_name x.empty))
        → IsAccepted a v s (both t q) (joined_at (both t q) p x (Some g)) (MayJoin (both t q) p x g)
        → IsAccepted a v s (both t q) (with_member (both t q) p x) (MayBeMember (both t q) p x)
    member_standing a v s id g at stands answer =
        search (
          rules,
          standing_may (both t q) p x g sound inside,
          standing_at (both t q) p x,
          one-found (geom_at t.topology id),
          stands,
        )

    -- the answer where none stands
    pub member_new : (a : Accepted) (v : TopoView Config) (s : Queued)
        → (MayBeMember (both t q) p x
        → None ≡ option_map (λ (h : Geom Config). h.number) (standing_geom t.topology x.geom_name x.empty))
        → IsAccepted a v s (both t q) (joined_at (both t q) p x None) (MakesSizes (joined_at (both t q) p x None))
        → IsAccepted a v s (both t q) (with_member (both t q) p x) (MayBeMember (both t q) p x)
    member_new a v s stands answer = search rules
