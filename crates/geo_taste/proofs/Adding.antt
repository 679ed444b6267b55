-- What is added to a mesh leaves all counts as they are: a geom of another class than DEV and TASTE, a provider, an
-- attached consumer that wants nothing; and so does another configuration. So what a class makes leaves the taste's
-- consumer where it is.
use Rattle.std.specs.Option.{option_map_or, option_flatten}
use Rattle.std.proofs.Common.{◌≡◌, ◌≢◌, ◌⊎◌, ℕ, ◌==◌, Bool, true, false, List, [], ◌∷◌, ◌++◌, length, map, filter, option_map, Option, Some, None, IsSome, IfSome, Contains, refl, sym, ◌∙◌, ap, subst, inl, inr, arith, ◌-◌, ◌<◌, All, is_some, is_none, slice_get, if◌then◌else◌, rules}
use Rattle.std.proofs.lemmas.Bool.{false_from_ne_true, and_parts}
use Rattle.std.proofs.lemmas.List.{map-append}
use Rattle.std.proofs.lemmas.List.Elements.{All-contains, All-push, All-from_recursion, recursion_from_All, Contains-push_cases, All-weaker}
use Rattle.geo_base.proofs.Options.{none-there, if-with, if_some_weaker}
use Rattle.geo_base.specs.declared.request.Counts.{Counts}
use Rattle.geo_base.specs.declared.kind.Kind.{Kind}
use Rattle.geo_model.specs.Words.{is_granted_kind, names_number, change_where}
use Rattle.geo_model.specs.Topology.{Topology, Geom, Provider, Consumer, geom_at, provider_at, consumer_at, attached_to, add_provider, add_consumer, set_config, providers_of, consumers_of}
use Rattle.geo_model.specs.Graph.{IsInOrder, PartsLive, ProvidersLive}
use Rattle.geo_model.specs.Rank.{Ranked}
use Rattle.geo_model.specs.Demand.{no_counts, have, want}
use Rattle.geo_model.proofs.DemandLemmas.{names_some}
use Rattle.geo_mesh.specs.declared.records.Scratch.{Scratch}
use Rattle.geo_mesh.specs.Topo.{TopoView, Room, Scratches, no_scratch, with_geom, with_provider, with_consumer, with_topology}
use Rattle.geo_laws_graph.specs.LookupLaws.{new_geom, new_provider, new_consumer}
use Rattle.geo_laws_graph.proofs.Members.{Contains-there, find-Contains}
use Rattle.geo_laws_graph.proofs.Lists.{changed, changed-keeps, find-changed, map-changed, all-changed, found_itself, found_fresh}
use Rattle.geo_laws_graph.proofs.Found.{added-geom, added-provider, added-consumer, config-found}
use Rattle.geo_laws_counts.specs.CountWords.{DemandStays, AnyConsumer}
use Rattle.geo_laws_counts.proofs.BareParts.{none_within}
use Rattle.geo_laws_counts.proofs.LimitFacts.{all_of}
use Rattle.geo_laws_counts.proofs.Numbers.{numbers_lead}
use Rattle.geo_laws_counts.proofs.Stays.{geom_came, provider_came, consumer_came}
use Rattle.geo_laws_counts.proofs.Unseen.{unseen_config}
use Rattle.geo_access.specs.Access.{granted_by, clear_scratches, IsCounted, IsQuiet}
use Rattle.geo_base.proofs.PlaceLists.{row_more}
use Rattle.std.specs.List.{list_all}
use Rattle.std.proofs.lemmas.List.Folds.{find-append}
use Rattle.geo_base.proofs.FindLists.{found-still}
use Rattle.geo_base.specs.declared.kind.Kind.TheVariants as kinds
use Rattle.geo_model.specs.declared.class.Shape.{Shape}
use Rattle.geo_model.specs.declared.class.Shape.TheVariants.{Slices, Logical, Named, Joined, Striped}
use Rattle.geo_model.specs.Names.{label_name}
use Rattle.geo_model.specs.World.{Config, Taste, Mbr, Ebr, Label}
use Rattle.geo_model.specs.Acceptance.{Member, NewSlice, are_names_free, can_join, concat_member, fill_place, is_size, joined_size, new_parts, new_slices, places_of, standing_geom, stripe_member}
use Rattle.geo_slots.specs.Slots.{value_at}
use Rattle.geo_mesh.specs.Graph.{IsSoundGraph}
use Rattle.geo_taste.specs.Making.{QueuedMesh, queued, with_attached, with_offer}
use Rattle.geo_taste.specs.Accepting.{accepted, finished, joined, joined_at, labelled, over, placed, sliced, with_member, with_slices_of}
use Rattle.geo_taste.specs.Accepts.{MayAccept, NamesAPlace}
use Rattle.geo_taste.specs.Joining.{MayBeMember}
use Rattle.geo_taste.specs.Taster.{held_by_taste, IsSettled, IsTasteOf}
use Rattle.geo_laws_graph.proofs.Opens.{offers-nothing}
use Rattle.geo_taste.proofs.Kept.{KeepsCounts, kept_counted}
use Rattle.geo_taste.proofs.ModelLemmas.{may_member, place_inside}
use Rattle.geo_taste.proofs.JoinLemmas.{standing_at, standing_may}
use Rattle.geo_taste.proofs.Raising.{new_not_taste}

-- what stays for any consumer, stays for those of a list
pub among : {C : Type 0} (granted : ℕ → Counts) (t u : Topology C) (cs : List Consumer)
    → DemandStays granted t granted u AnyConsumer → DemandStays granted t granted u (Contains cs)
among granted t u cs stays = search rules

-- nothing is kept where none passes
none_kept : {X : Type 0} (test : X → Bool) (xs : List X) → ((x : X) → Contains xs x → test x ≡ false)
    → filter test xs ≡ []
none_kept test [] none = refl
none_kept test (x ∷ xs) none = search (rules, none_kept test xs (λ y there. none y (Contains-there x y xs there)))

module _ {C : Type 0} (t : TopoView C) (counted : IsCounted t) (order : IsInOrder t.topology) (room : Room) where
  -- a consumer that stood is known
  pub stood : (c : Consumer) → Contains t.topology.consumers c
      → IfSome (consumer_at t.topology c.number) (λ d. d.geom ≡ c.geom)
  stood c there =
      if-with (consumer_at t.topology c.number) (λ (d : Consumer). d.geom ≡ c.geom) c
      (found_itself (λ (x : Consumer). x.number) t.topology.next_consumer t.topology.consumers c order.consumers there)
      refl

  -- no geom, no provider and no consumer has the next number
  pub no_geom : geom_at t.topology t.topology.next_geom ≡ None
  no_geom =
      found_fresh (λ (g : Geom C). g.number) t.topology.next_geom t.topology.next_geom t.topology.geoms order.geoms
      (omega arith)

  no_provider : provider_at t.topology t.topology.next_provider ≡ None
  no_provider =
      found_fresh (λ (p : Provider). p.number) t.topology.next_provider t.topology.next_provider t.topology.providers
      order.providers (omega arith)

  pub no_consumer : consumer_at t.topology t.topology.next_consumer ≡ None
  no_consumer =
      found_fresh (λ (c : Consumer). c.number) t.topology.next_consumer t.topology.next_consumer t.topology.consumers
      order.consumers (omega arith)

  -- a new geom of another class
  pub geom_kept : (kind : Kind) (name : List ℕ) (config : C) (automatic : Bool) → is_granted_kind kind ≡ false
      → Ranked t.topology → PartsLive t.topology
      → KeepsCounts t (record (with_geom t kind name config automatic) { room = room })
  geom_kept kind name config automatic other ranked live =
      let made : Geom C = new_geom t.topology kind name config automatic in
      let away : (c : Consumer) → Contains t.topology.consumers c → c.geom ≢ t.topology.next_geom =
      search (rules, none-there (geom_at t.topology t.topology.next_geom) no_geom) in
      record {
        order = added-geom.order t.topology kind name config automatic order;
        kinds =
            All-push (λ (g : Geom C). is_granted_kind g.kind ≡ true
            → (g.number ≡ 1) ⊎ (g.number ≡ 2)) t.topology.geoms made counted.kinds
            (λ granted. let no : true ≡ false = sym granted ∙ other in absurd (cc));
        haves = counted.haves;
        wants = counted.wants;
        stays = geom_came (granted_by t) t.topology kind name config automatic ranked
            (numbers_lead t.topology order.providers.0)
            (all_of (λ (c : Consumer). c.geom ≢ t.topology.next_geom) t.topology.consumers away);
        classes = λ c there.
            ap (λ o. option_map_or (λ (x : Geom C). is_granted_kind x.kind) o false)
            (added-geom.others t.topology kind name config automatic c.geom (away c there));
        known = stood;
        risen = counted.risen;
        fallen = counted.fallen;
        clear =
            ap (λ (s : Scratches). record s { geoms = s.geoms ++ (t.topology.next_geom, no_scratch) ∷ [] })
            counted.clear
            ∙ ap (λ rows. record (clear_scratches t.topology) { geoms = rows })
            (sym (map-append (λ (g : Geom C). let r : ℕ × Scratch = (g.number, no_scratch) in r)
            t.topology.geoms (made ∷ [])));
      }

  -- a new provider
  pub provider_kept : (geom : ℕ) (name : List ℕ) (size sector : ℕ) → ProvidersLive t.topology
      → KeepsCounts t (record (with_provider t geom name size sector) { room = room })
  provider_kept geom name size sector live =
      let made : Provider = new_provider t.topology geom name size sector in
      let n : ℕ = t.topology.next_provider in
      let bare : attached_to t.topology n ≡ [] =
      none_kept (λ (c : Consumer). names_number c.provider n) t.topology.consumers
      (λ c there. false_from_ne_true (names_number c.provider n)
      (λ named.
      let lives : IfSome c.provider (λ p. IsSome (provider_at t.topology p)) =
      All-contains (λ (d : Consumer). IfSome d.provider (λ p. IsSome (provider_at t.topology p)))
      t.topology.consumers c live there in
      let at : IsSome (provider_at t.topology n) =
      subst (λ o. IfSome o (λ p. IsSome (provider_at t.topology p))) (names_some c.provider n named) lives in
      absurd (none-there (provider_at t.topology n) no_provider at))) in
      record {
        order = added-provider.order t.topology geom name size sector order;
        kinds = counted.kinds;
        haves =
            ap (λ a. let row : ℕ × Counts = (n, a) in t.haves ++ row ∷ [])
            (sym (none_within (granted_by t) t.topology n bare (length t.topology.geoms)))
            ∙ row_more (λ (p : Provider). let row : ℕ × Counts = (p.number, have (granted_by t) t.topology p.number) in
            row) t.topology.providers made t.haves counted.haves;
        wants = counted.wants;
        stays = among (granted_by t) t.topology (add_provider t.topology geom name size sector) t.topology.consumers
            (provider_came (granted_by t) t.topology geom name size sector bare);
        classes = λ c there. refl;
        known = stood;
        risen = noted t.risen counted.risen;
        fallen = noted t.fallen counted.fallen;
        clear =
            ap (λ (s : Scratches). record s { providers = s.providers ++ (n, no_scratch) ∷ [] }) counted.clear
            ∙ ap (λ rows. record (clear_scratches t.topology) { providers = rows })
            (sym (map-append (λ (p : Provider). let r : ℕ × Scratch = (p.number, no_scratch) in r)
            t.topology.providers (made ∷ [])));
      }
    where
      noted : (rows : List (ℕ × Bool)) → map (λ row. row.0) rows ≡ map (λ (p : Provider). p.number) t.topology.providers
          → map (λ row. row.0) (rows ++ (t.topology.next_provider, false) ∷ [])
          ≡ map (λ (p : Provider). p.number) (add_provider t.topology geom name size sector).providers
      noted rows same =
          map-append (λ (row : ℕ × Bool). row.0) rows ((t.topology.next_provider, false) ∷ [])
          ∙ ap (λ ns. ns ++ t.topology.next_provider ∷ []) same
          ∙ sym (map-append (λ (p : Provider). p.number) t.topology.providers
          (new_provider t.topology geom name size sector ∷ []))

  -- a new consumer that wants nothing is attached
  pub consumer_kept : (geom p : ℕ)
      → want (granted_by t) t.topology (new_consumer t.topology geom (Some p)) ≡ no_counts
      → KeepsCounts t
      (record (with_topology (with_consumer t geom) (add_consumer t.topology geom (Some p))) { room = room })
  consumer_kept geom p quiet =
      let made : Consumer = new_consumer t.topology geom (Some p) in
      let n : ℕ = t.topology.next_consumer in
      record {
        order = added-consumer.order t.topology geom (Some p) order;
        kinds = counted.kinds;
        haves = counted.haves;
        wants =
            ap (λ a. let row : ℕ × Counts = (n, a) in t.wants ++ row ∷ []) (sym quiet)
            ∙ row_more (λ (c : Consumer). let row : ℕ × Counts = (c.number, want (granted_by t) t.topology c) in row)
            t.topology.consumers made t.wants counted.wants;
        stays = among (granted_by t) t.topology (add_consumer t.topology geom (Some p))
            (add_consumer t.topology geom (Some p)).consumers
            (consumer_came (granted_by t) t.topology geom (Some p) (λ attached. quiet));
        classes = λ c there. refl;
        known = λ c there.
            elim (Contains-push_cases t.topology.consumers made c there) [
              | inl old ↦ stood c old
              | inr same ↦
                  subst (λ (d : Consumer). IfSome (consumer_at t.topology d.number) (λ e. e.geom ≡ d.geom)) same
                  (subst (λ o. IfSome o (λ (e : Consumer). e.geom ≡ geom)) (sym no_consumer) tt)
            ];
        risen = counted.risen;
        fallen = counted.fallen;
        clear =
            ap (λ (s : Scratches). record s { consumers = s.consumers ++ (n, no_scratch) ∷ [] }) counted.clear
            ∙ ap (λ rows. record (clear_scratches t.topology) { consumers = rows })
            (sym (map-append (λ (c : Consumer). let r : ℕ × Scratch = (c.number, no_scratch) in r)
            t.topology.consumers (made ∷ [])));
      }

  -- another configuration
  pub config_kept : (g : ℕ) (config : C)
      → KeepsCounts t (record (with_topology t (set_config t.topology g config)) { room = room })
  config_kept g config =
      let hit : Geom C → Bool = λ x. x.number == g in
      let change : Geom C → Geom C = λ x. record x { config = config } in
      record {
        order = config-found.order t.topology g config order;
        kinds =
            let P : Geom C → Type 0 = λ x. is_granted_kind x.kind ≡ true → (x.number ≡ 1) ⊎ (x.number ≡ 2) in
            All-from_recursion P (change_where hit change t.topology.geoms)
            (all-changed hit change P (λ x e so. so) t.topology.geoms
            (recursion_from_All P t.topology.geoms counted.kinds));
        haves = counted.haves;
        wants = counted.wants;
        stays = among (granted_by t) t.topology (set_config t.topology g config) t.topology.consumers
            (unseen_config (granted_by t) t.topology g config);
        classes = λ c there.
            ap (λ o. option_map_or (λ (x : Geom C). is_granted_kind x.kind) o false)
            (find-changed hit change (λ (x : Geom C). x.number == c.geom) (λ x e. refl) t.topology.geoms)
            ∙ by (geom_at t.topology c.geom) hit change (λ x e. refl);
        known = stood;
        risen = counted.risen;
        fallen = counted.fallen;
        clear =
            counted.clear
            ∙ ap (λ rows. record (clear_scratches t.topology) { geoms = rows })
            (sym (map-changed hit change (λ (x : Geom C). let r : ℕ × Scratch = (x.number, no_scratch) in r)
            (λ x e. refl) t.topology.geoms));
      }
    where
      by : (o : Option (Geom C)) (hit : Geom C → Bool) (change : Geom C → Geom C)
          → ((x : Geom C) → hit x ≡ true → (change x).kind ≡ x.kind)
          → option_map_or (λ (x : Geom C). is_granted_kind x.kind) (option_map (changed hit change) o) false
          ≡ option_map_or (λ (x : Geom C). is_granted_kind x.kind) o false
      by None hit change same = refl
      by (Some x) hit change same = ap is_granted_kind (changed-keeps hit change (λ (y : Geom C). y.kind) same x)

-- What a class makes

-- a value that is found is found among more
kept_value : {V : Type 0} (rows : List (ℕ × V)) (r : ℕ × V) (n : ℕ) (v : V) → value_at rows n ≡ Some v
    → value_at (rows ++ r ∷ []) n ≡ Some v
kept_value {V} rows r n v e = search (rules, find-append (λ (row : ℕ × V). row.0 == n) rows (r ∷ []))

-- a geom that isn't of DEV or TASTE, over which there is no provider yet
pub record IsBare (t : Topology Config) (geom : ℕ) : Type 0 where
  pub item : Geom Config
  pub found : geom_at t geom ≡ Some item
  pub kind : is_granted_kind item.kind ≡ false
  pub none : providers_of t item.number ≡ []
  pub apart : 2 ≢ geom

-- a new consumer of it wants nothing
bare_quiet : (granted : ℕ → Counts) (t : Topology Config) (geom p : ℕ) → IsBare t geom
    → want granted t (new_consumer t geom (Some p)) ≡ no_counts
bare_quiet granted t geom p is = search rules

-- what holds of a mesh in which a provider is tasted
pub record HoldsTaste (s : Taste) (t : TopoView Config) : Type 0 where
  pub settled : IsSettled t
  pub order : IsInOrder t.topology
  pub live : ProvidersLive t.topology
  pub tasting : IsTasteOf t s

-- so of what may be made
abbrev AllHold : Taste → Option QueuedMesh → Type 0
AllHold s made = IfSome made (λ m. HoldsTaste s m.mesh)

module _ (s : Taste) where
  module _ (t : TopoView Config) (is : HoldsTaste s t) where
    -- what is added to it, or changed, and leaves all counts as they are
    grown : (u : TopoView Config) → KeepsCounts t u → IsQuiet u → All (λ c. IsSome c.provider) u.topology.consumers
        → ProvidersLive u.topology → consumers_of u.topology 2 ≡ consumers_of t.topology 2
        → value_at u.wants s.consumer ≡ Some (held_by_taste s) → HoldsTaste s u
    grown u kept quiet attached live alone holds = search (rules, kept_counted t u is.settled.counted kept)

    -- a geom
    pub geom_held : IsSoundGraph t.topology → (kind : Kind) (name : List ℕ) (config : Config) (automatic : Bool)
        → is_granted_kind kind ≡ false → HoldsTaste s (with_geom t kind name config automatic)
    geom_held sound kind name config automatic other =
        grown (with_geom t kind name config automatic)
        (geom_kept t is.settled.counted is.order t.room kind name config automatic other sound.ranked
        sound.orderly.parts)
        (record { risen = is.settled.quiet.risen; fallen = is.settled.quiet.fallen })
        is.settled.attached is.live refl is.tasting.holds

    -- a provider
    pub provider_held : (geom : ℕ) (name : List ℕ) (size sector : ℕ)
        → HoldsTaste s (with_provider t geom name size sector)
    provider_held geom name size sector =
        search (
          rules,
          grown (with_provider t geom name size sector)
              (provider_kept t is.settled.counted is.order t.room geom name size sector is.live),
          row_more,
          All-weaker (λ (c : Consumer). IfSome c.provider (λ p. IsSome (provider_at t.topology p))),
          if_some_weaker (λ (p : ℕ). IsSome (provider_at t.topology p)),
          found-still,
        )

    -- a consumer of a bare geom at a provider
    pub consumer_held : (geom p : ℕ) → IsBare t.topology geom → IsSome (provider_at t.topology p)
        → HoldsTaste s (with_attached t geom p)
    consumer_held geom p bare there =
        let made : Consumer = new_consumer t.topology geom (Some p) in
        grown (with_attached t geom p)
        (consumer_kept t is.settled.counted is.order t.room geom p (bare_quiet (granted_by t) t.topology geom p bare))
        (record { risen = is.settled.quiet.risen; fallen = is.settled.quiet.fallen })
        (All-push (λ (c : Consumer). IsSome c.provider) t.topology.consumers made is.settled.attached refl)
        (All-push (λ (c : Consumer). IfSome c.provider (λ q. IsSome (provider_at t.topology q)))
        t.topology.consumers made is.live there)
        (added-consumer.others_of t.topology geom (Some p) 2 bare.apart)
        (kept_value t.wants (t.topology.next_consumer, no_counts) s.consumer (held_by_taste s) is.tasting.holds)

    -- another configuration
    pub config_held : (g : ℕ) (config : Config) → HoldsTaste s (with_topology t (set_config t.topology g config))
    config_held g config =
        grown (with_topology t (set_config t.topology g config))
        (config_kept t is.settled.counted is.order t.room g config)
        (record { risen = is.settled.quiet.risen; fallen = is.settled.quiet.fallen })
        is.settled.attached is.live refl is.tasting.holds

  -- what is made if something holds, or else
  held_either : (b : Bool) (made other : Option QueuedMesh) → AllHold s made → AllHold s other
      → AllHold s (if b then made else other)
  held_either true made other held rest = held
  held_either false made other held rest = rest

  -- providers of slices
  slices_held : (geom : ℕ) (slices : List NewSlice) (m : QueuedMesh) → HoldsTaste s m.mesh
      → HoldsTaste s (with_slices_of m geom slices).mesh
  slices_held geom [] m is = is
  slices_held geom (x ∷ slices) m is =
      slices_held geom slices (with_offer m geom x.name x.size 512) (provider_held m.mesh is geom x.name x.size 512)

  -- the provider of an assembly
  finished_held : (m : QueuedMesh) → HoldsTaste s m.mesh → (geom : ℕ) (config : Config) (name : List ℕ) (sector : ℕ)
      → AllHold s (finished m geom config name sector)
  finished_held m is geom config name sector =
      held_either (is_size (joined_size config)) _ None
      (held_either (are_names_free m.mesh.topology (name ∷ []))
      (Some (with_offer m geom name (joined_size config) sector)) None
      (provider_held m.mesh is geom name (joined_size config) sector) tt) tt

  -- a place that is taken
  joined_held : (m : QueuedMesh) → HoldsTaste s m.mesh → (p : Provider) (geom : ℕ) (config : Config) (place : ℕ)
      (name : List ℕ) → IsBare m.mesh.topology geom → IsSome (provider_at m.mesh.topology p.number)
      → AllHold s (joined m p geom config place name)
  joined_held m is p geom config place name bare there =
      let filled : Config = fill_place config place m.mesh.topology.next_consumer (p.size - p.sector) in
      let with_place : HoldsTaste s (placed m p.number geom filled).mesh =
      config_held (with_attached m.mesh geom p.number) (consumer_held m.mesh is geom p.number bare there) geom filled in
      held_either (list_all is_some (places_of filled)) _ (Some (placed m p.number geom filled))
      (finished_held (placed m p.number geom filled) with_place geom filled name p.sector) with_place

  module _ (m : QueuedMesh) (is : HoldsTaste s m.mesh) (sound : IsSoundGraph m.mesh.topology) (p : Provider)
      (there : IsSome (provider_at m.mesh.topology p.number)) where
    -- the graph
    abbrev t : Topology Config
    t = m.mesh.topology

    -- a new geom is bare
    new_bare : (kind : Kind) (name : List ℕ) (config : Config) (automatic : Bool) → is_granted_kind kind ≡ false
        → IsBare (with_geom m.mesh kind name config automatic).topology t.next_geom
    new_bare kind name config automatic other = record {
      item = new_geom t kind name config automatic;
      found = added-geom.new t kind name config automatic is.order;
      kind = other;
      none = offers-nothing t is.order sound.orderly.parts.offerers;
      apart = λ same. new_not_taste t sound (sym same);
    }

    -- a geom over the provider
    over_held : (kind : Kind) (name : List ℕ) (config : Config) → is_granted_kind kind ≡ false
        → HoldsTaste s (over m p.number kind name config).mesh
    over_held kind name config other =
        consumer_held (with_geom m.mesh kind name config true) (geom_held m.mesh is sound kind name config true other)
        t.next_geom p.number (new_bare kind name config true other) there

    -- a table
    sliced_held : (kind : Kind) (config : Config) (slices : List NewSlice) → is_granted_kind kind ≡ false
        → AllHold s (sliced m p.number kind p.name config slices)
    sliced_held kind config slices other =
        held_either (are_names_free t (map (λ (x : NewSlice). x.name) slices))
        (Some (with_slices_of (over m p.number kind p.name config) t.next_geom slices)) None
        (slices_held t.next_geom slices (over m p.number kind p.name config) (over_held kind p.name config other)) tt

    -- a label
    labelled_held : (name : List ℕ) → AllHold s (labelled m p name)
    labelled_held name =
        let below : QueuedMesh = over m p.number kinds.Label p.name (Label (Some t.next_consumer)) in
        held_either (are_names_free t (name ∷ []))
        (Some (with_offer below t.next_geom name (p.size - p.sector) p.sector)) None
        (provider_held below.mesh (over_held kinds.Label p.name (Label (Some t.next_consumer)) refl) t.next_geom name
        (p.size - p.sector) p.sector) tt

    module _ (x : Member) (other : is_granted_kind x.kind ≡ false) (inside : x.place < length (places_of x.empty))
        (may : MayBeMember m p x) where
      -- a standing geom in which a place is free is bare
      standing_bare : (g : Geom Config) → standing_geom t x.geom_name x.empty ≡ Some g → can_join t p g x.place ≡ true
          → IsBare t g.number
      standing_bare g found joins =
          search (
            rules,
            standing_at m p x g sound inside found,
            standing_may m p x g sound inside found may,
            false_from_ne_true (is_granted_kind g.kind),
            All-contains (λ (y : Geom Config). is_granted_kind y.kind ≡ true → (y.number ≡ 1) ⊎ (y.number ≡ 2)) t.geoms
                g is.settled.counted.kinds,
            find-Contains (λ (y : Geom Config). y.number == g.number) t.geoms g,
            and_parts (is_none (option_flatten (slice_get (places_of g.config) x.place))) _ joins,
          )

      -- a place in it, or in a new one
      joined_at_held : (o : Option (Geom Config)) → standing_geom t x.geom_name x.empty ≡ o
          → AllHold s (joined_at m p x o)
      joined_at_held None none =
          joined_held (record m { mesh = with_geom m.mesh x.kind x.geom_name x.empty true })
          (geom_held m.mesh is sound x.kind x.geom_name x.empty true other) p t.next_geom x.empty x.place x.name
          (new_bare x.kind x.geom_name x.empty true other) there
      joined_at_held (Some g) found =
          search (rules, joined_held m is p g.number g.config x.place x.name, standing_bare g found)

      -- so of a member
      member_held : AllHold s (with_member m p x)
      member_held = joined_at_held (standing_geom t x.geom_name x.empty) refl

    -- whatever a class accepts
    pub accepted_held : (shape : Shape) → NamesAPlace shape → MayAccept (queued m) p shape
        → AllHold s (accepted m p shape)
    accepted_held (Slices table) place may =
        sliced_held kinds.Mbr (Mbr (Some t.next_consumer) table.slices) (new_slices p.name table.slices) refl
    accepted_held (Logical table) place may =
        sliced_held kinds.Ebr (Ebr (Some t.next_consumer) table.parts) (new_parts p.name table.parts) refl
    accepted_held (Named found) place may = labelled_held (label_name found.name)
    accepted_held (Joined found) place may =
        member_held (concat_member found) refl
        (place_inside found.place found.count place) (may_member m p (Joined found) (concat_member found) refl may)
    accepted_held (Striped found) place may =
        member_held (stripe_member found) refl
        (place_inside found.place found.count place) (may_member m p (Striped found) (stripe_member found) refl may)
