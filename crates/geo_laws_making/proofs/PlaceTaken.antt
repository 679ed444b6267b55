-- A provider takes a place of a standing assembly: places and sizes, what is known of the assembly, and that the mesh
-- is firm.
use Rattle.std.specs.Prelude.{◌≡◌, ◌≢◌, ◌⊎◌, ℕ, zero, suc, true, false, List, [], ◌∷◌, flat_map, Option, Some, None, Contains, slice_get, slice_set, ◌==◌, IsSome, IsSomeAnd, ◌+◌, ◌-◌, ◌%◌, ◌<◌, ◌≤◌, max, Bool, length, if◌then◌else◌, All, AllPairs, IfSome, option_and_then}
use Rattle.std.specs.List.{AllZip}
use Rattle.std.specs.Option.{option_flatten, option_to_list}
use Rattle.std.proofs.Common.{inl, inr, refl, sym, ◌∙◌, subst, ap, arith}
use Rattle.geo_base.specs.declared.kind.Kind.{Kind}
use Rattle.geo_base.specs.declared.kind.Kind.TheVariants as kinds
use Rattle.geo_base.proofs.MemberLists.{in_flat_map, zip_members}
use Rattle.geo_model.specs.Words.{is_kind, change_where}
use Rattle.geo_model.specs.World.{Config, Concat, Stripe, World, granted_in}
use Rattle.geo_model.specs.Place.{component, components, disk_of}
use Rattle.geo_model.specs.Acceptance.{places_of, fill_place, joined_size}
use Rattle.geo_model.specs.Sound.{fits_kind, IsOfItsClass, RanksHold, DifferInDisk, IsMediaSize}
use Rattle.geo_model.specs.Fitting.{IsWholeIn, sizes_of, Firm, FitsBelow, FitsPlace, FitsPlaces, PlacesHold}
use Rattle.geo_laws_graph.proofs.Members.{Contains-here, Contains-there, Contains-cases, nothing_in, All-from_contained, at_contained, find-Contains, Contains-filter, map-Contains}
use Rattle.geo_laws_making.specs.PlaceLaws.{IsAssembly, IsOpenAssembly, CanTakePlace, TakesStayFirm}
use Rattle.geo_laws_life.proofs.Standers.{PairsByRecursion, pairs-from_recursion, recursion-from_pairs}
use Rattle.std.proofs.lemmas.Bool.{eq-eqb, eqb-true}
use Rattle.std.proofs.lemmas.List.Elements.{All-contains, All-nil, Contains-push_cases}
use Rattle.geo_model.specs.Topology.{Topology, Geom, Provider, geom_at, consumer_at, Consumer, provider_at, providers_of, add_consumer, set_config}
use Rattle.geo_model.specs.Steady.{HasItsComponents}
use Rattle.geo_laws_graph.proofs.Lists.{found_itself, found_fresh}
use Rattle.geo_laws_graph.proofs.Living.{sound-order, found-before, parts-alive, steady-parts}
use Rattle.geo_laws_life.proofs.Found.{one-found, found-with, some-with, some-there, none-there, if-found, at-found, pairs-from}
use Rattle.std.proofs.lemmas.List.{length-set}
use Rattle.std.proofs.lemmas.Nat.Gcd.{dvd_of_mod-eq-zero, mod-eq-zero_of_dvd, dvd_refl}
use Rattle.std.proofs.Math.Nat.{dvd-sub}
use Rattle.geo_base.specs.declared.limits.TheConstants.{MAX_COMPONENTS, MAX_RANK}
use Rattle.geo_model.specs.Rank.{rank}
use Rattle.geo_model.specs.Demand.{want, is_zero}
use Rattle.geo_model.specs.Graph.{IsInOrder, PartsLive}
use Rattle.geo_laws_graph.specs.LookupLaws.{new_consumer}
use Rattle.geo_laws_graph.proofs.Numbered.{number_found}
use Rattle.geo_laws_graph.proofs.Found.{added-consumer, config-found}
use Rattle.geo_laws_graph.specs.RankChangeLaws.{OneRankRises}
use Rattle.geo_laws_graph.proofs.RankChanges.{plain-stay}
use Rattle.geo_laws_graph.proofs.Opens.{open-rises}
use Rattle.geo_laws_graph.proofs.Holding.{sound-ranks}
use Rattle.geo_laws_counts.specs.CountWords.{IsAtMost, DemandStays, AnyConsumer}
use Rattle.geo_laws_counts.proofs.LimitFacts.{all_of}
use Rattle.geo_laws_counts.proofs.Sums.{at_most-same}
use Rattle.geo_laws_counts.proofs.Unseen.{unseen_config}
use Rattle.geo_laws_life.specs.LessLaws.{ComesFrom}
use Rattle.geo_laws_life.proofs.Less.{demand-trans}
use Rattle.geo_laws_making.proofs.Over.{over-demand}
use Rattle.geo_laws_making.specs.MoreLaws.{IsUntouched, GeomFits, ConsumerFits, IsMore}
use Rattle.geo_laws_life.proofs.Frames.{fact_still, IsPart, FitsOver}
use Rattle.geo_laws_making.proofs.MoreFirm.{more-firm, tastes-low}

-- Assemblies: the places and sizes of a concat or a stripe, and what is known of a standing one with no provider.

-- The configuration of an assembly, and what it is with one more place filled.

-- Configurations

-- its components are what is in its places, and it is of no disk
pub record HasPlaces (config : Config) : Type 0 where
  pub components_are : components config ≡ flat_map option_to_list (places_of config)
  pub component_is : (k : ℕ) → component config k ≡ option_flatten (slice_get (places_of config) k)
  pub no_disk : disk_of config ≡ None

-- so it is
pub has-places : (config : Config) → IsAssembly config → HasPlaces config
has-places (Concat id places sizes) is = record { components_are = refl; component_is = λ k. refl; no_disk = refl }
has-places (Stripe id stripe places sizes) is =
    record { components_are = refl; component_is = λ k. refl; no_disk = refl }
has-places _ is = absurd is

-- with a place filled it is the same but for that place
pub record IsFilled (config : Config) (k c size : ℕ) : Type 0 where
  pub assembly : IsAssembly (fill_place config k c size)
  pub places_are : places_of (fill_place config k c size) ≡ slice_set (places_of config) k (Some c)
  pub sizes_are : sizes_of (fill_place config k c size) ≡ slice_set (sizes_of config) k size
  pub whole : (sector : ℕ) → IsWholeIn config sector → IsWholeIn (fill_place config k c size) sector

-- so it is
pub filled-is : (config : Config) (k c size : ℕ) → IsAssembly config → IsFilled config k c size
filled-is (Concat id places sizes) k c size is =
    record { assembly = tt; places_are = refl; sizes_are = refl; whole = λ sector so. so }
filled-is (Stripe id stripe places sizes) k c size is =
    record { assembly = tt; places_are = refl; sizes_are = refl; whole = λ sector so. so }
filled-is _ k c size is = absurd is

-- the class of an assembly isn't DEV or TASTE, and is that of it with a place filled
pub record IsOfAssembly (kind : Kind) (config : Config) : Type 0 where
  pub dev : is_kind kind kinds.Dev ≡ false
  pub taste : is_kind kind kinds.Taste ≡ false
  pub filled : (k c size : ℕ) → fits_kind kind (fill_place config k c size) ≡ true

-- so for each class
of_concat : (kind : Kind) (id : Option ℕ) (places : List (Option ℕ)) (sizes : List ℕ)
    → fits_kind kind (Concat id places sizes) ≡ true → IsOfAssembly kind (Concat id places sizes)
of_concat kinds.Concat id places sizes fits = record { dev = refl; taste = refl; filled = λ k c size. refl }
of_concat _ id places sizes fits = absurd (let no : ⊥ = cc in no)

-- and for a stripe
of_stripe : (kind : Kind) (id : Option ℕ) (stripe : ℕ) (places : List (Option ℕ)) (sizes : List ℕ)
    → fits_kind kind (Stripe id stripe places sizes) ≡ true → IsOfAssembly kind (Stripe id stripe places sizes)
of_stripe kinds.Stripe id stripe places sizes fits = record { dev = refl; taste = refl; filled = λ k c size. refl }
of_stripe _ id stripe places sizes fits = absurd (let no : ⊥ = cc in no)

-- so for any assembly
pub of-assembly : (kind : Kind) (config : Config) → IsAssembly config → fits_kind kind config ≡ true
    → IsOfAssembly kind config
of-assembly kind (Concat id places sizes) is fits = of_concat kind id places sizes fits
of-assembly kind (Stripe id stripe places sizes) is fits = of_stripe kind id stripe places sizes fits
of-assembly kind _ is fits = absurd is

-- Places

-- what is in the places with one more
abbrev pub filled_of : List (Option ℕ) → List ℕ
filled_of places = flat_map option_to_list places

-- what is in a place is in the list
pub in-places : (places : List (Option ℕ)) (c : ℕ) → Contains places (Some c) → Contains (filled_of places) c
in-places places c here = in_flat_map option_to_list places (Some c) c here (Contains-here c [])

-- and back
pub of-places : (places : List (Option ℕ)) (c : ℕ) → Contains (filled_of places) c → Contains places (Some c)
of-places [] c here = absurd (nothing_in c here)
of-places (None ∷ places) c here = Contains-there None (Some c) places (of-places places c here)
of-places (Some d ∷ places) c here =
    elim (Contains-cases d c (filled_of places) here) [
      | inl same ↦ subst (λ n. Contains (Some d ∷ places) (Some n)) same (Contains-here (Some d) places)
      | inr rest ↦ Contains-there (Some d) (Some c) places (of-places places c rest)
    ]

-- what is in the places, once a place is filled, is new or was there
pub filled-cases : (places : List (Option ℕ)) (k c d : ℕ) → Contains (filled_of (slice_set places k (Some c))) d
    → (d ≡ c) ⊎ Contains (filled_of places) d
filled-cases [] k c d here = absurd (nothing_in d here)
filled-cases (None ∷ places) zero c d here =
    elim (Contains-cases c d (filled_of places) here) [ inl same ↦ inl (sym same) | inr rest ↦ inr rest ]
filled-cases (Some b ∷ places) zero c d here =
    elim (Contains-cases c d (filled_of places) here) [
      | inl same ↦ inl (sym same)
      | inr rest ↦ inr (Contains-there b d (filled_of places) rest)
    ]
filled-cases (None ∷ places) (suc k) c d here = filled-cases places k c d here
filled-cases (Some b ∷ places) (suc k) c d here =
    elim (Contains-cases b d (filled_of (slice_set places k (Some c))) here) [
      | inl same ↦ inr (subst (λ n. Contains (b ∷ filled_of places) n) same (Contains-here b (filled_of places)))
      | inr rest ↦
          elim (filled-cases places k c d rest) [
            | inl new ↦ inl new
            | inr old ↦ inr (Contains-there b d (filled_of places) old)
          ]
    ]

-- where all differ, they do so with one that is none of them
pub filled-differ : (places : List (Option ℕ)) (k c : ℕ) → ((d : ℕ) → Contains (filled_of places) d → d ≢ c)
    → PairsByRecursion (λ a b. a ≢ b) (filled_of places)
    → PairsByRecursion (λ a b. a ≢ b) (filled_of (slice_set places k (Some c)))
filled-differ [] k c other apart = apart
filled-differ (None ∷ places) zero c other apart =
    (All-from_contained (λ b. c ≢ b) (filled_of places) (λ b here same. other b here (sym same)), apart)
filled-differ (Some b ∷ places) zero c other apart = (
  All-from_contained (λ a. c ≢ a) (filled_of places) (λ a here same.
      other a (Contains-there b a (filled_of places) here) (sym same)),
  apart.1,
)
filled-differ (None ∷ places) (suc k) c other apart = filled-differ places k c other apart
filled-differ (Some b ∷ places) (suc k) c other apart = (
  All-from_contained (λ a. b ≢ a) (filled_of (slice_set places k (Some c))) (λ a here.
      elim (filled-cases places k c a here) [
        | inl new ↦ (λ same. other b (Contains-here b (filled_of places)) (same ∙ new))
        | inr old ↦ of_first a old
      ]),
  filled-differ places k c (λ d here. other d (Contains-there b d (filled_of places) here)) apart.1,
)
  where
    -- another one of the rest isn't the first
    of_first : (a : ℕ) → Contains (filled_of places) a → b ≢ a
    of_first a here = at_contained (λ x. b ≢ x) (filled_of places) a apart.0 here

-- a fact of each place and its size, where one is filled
pub zip-set : {A B : Type 0} (R : A → B → Type 0) (xs : List A) (ys : List B) (k : ℕ) (a : A) (b : B)
    → AllZip R xs ys
    → R a b → AllZip R (slice_set xs k a) (slice_set ys k b)
zip-set R [] [] k a b facts new = facts
zip-set R [] (y ∷ ys) k a b facts new = absurd facts
zip-set R (x ∷ xs) [] k a b facts new = absurd facts
zip-set R (x ∷ xs) (y ∷ ys) zero a b facts new = (new, facts.1)
zip-set R (x ∷ xs) (y ∷ ys) (suc k) a b facts new = (facts.0, zip-set R xs ys k a b facts.1 new)

-- A standing assembly that has no provider: what is known of it in a firm world.

module _ (w : World) (g : Geom Config) (firm : Firm w) (waits : IsOpenAssembly w g) where
  -- the geom is one of its geoms
  pub is-there : Contains w.topology.geoms g
  is-there = find-Contains (λ (x : Geom Config). x.number == g.number) w.topology.geoms g waits.stands

  -- each one of its number is it
  pub only-one : (x : Geom Config) → Contains w.topology.geoms x → x.number ≡ g.number → x ≡ g
  only-one x stands same =
      one-found (geom_at w.topology g.number) x g
      (subst (λ m. geom_at w.topology m ≡ Some x) same
      (found_itself (λ (z : Geom Config). z.number) w.topology.next_geom w.topology.geoms x
      (sound-order w firm.graph.numbers).geoms stands))
      waits.stands

  -- its class
  pub its-class : IsOfItsClass g
  its-class = All-contains IsOfItsClass w.topology.geoms g firm.graph.numbers.classes is-there

  -- is that of an assembly
  pub its-assembly : IsOfAssembly g.kind g.config
  its-assembly = of-assembly g.kind g.config waits.assembly its-class.config

  -- so it isn't DEV
  pub isnt-dev : g.number ≢ 1
  isnt-dev same =
      let e : true ≡ false = sym (eq-eqb g.number 1 same) ∙ sym its-class.dev ∙ its-assembly.dev in
      let no : ⊥ = cc in no

  -- nor TASTE
  pub isnt-taste : g.number ≢ 2
  isnt-taste same =
      let e : true ≡ false = sym (eq-eqb g.number 2 same) ∙ sym its-class.taste ∙ its-assembly.taste in
      let no : ⊥ = cc in no

  -- no provider is of it
  pub offers-not : (x : Provider) → Contains w.topology.providers x → x.geom ≢ g.number
  offers-not x stands same =
      nothing_in x
      (subst (λ xs. Contains xs x) waits.offers_none
      (Contains-filter (λ (z : Provider). z.geom == g.number) w.topology.providers x stands
      (eq-eqb x.geom g.number same)))

  -- what is in a place is an attached consumer of it
  pub component-there : (d : ℕ) → Contains (components g.config) d
      → IsSomeAnd (consumer_at w.topology d) (λ x. (x.geom ≡ g.number) × IsSome x.provider)
  component-there d stands =
      All-contains (λ d. IsSomeAnd (consumer_at w.topology d) (λ x. (x.geom ≡ g.number) × IsSome x.provider))
      (components g.config) d
      (All-contains (HasItsComponents (granted_in w) w.topology) w.topology.geoms g firm.demand.components is-there
      (inl waits.upright)) stands

-- A provider takes a place of a standing assembly: the graph has come to more, and a firm world with it is firm.

-- a geom that is one of the list with another configuration, or is as it was
configured : (n : ℕ) (config : Config) (xs : List (Geom Config)) (y : Geom Config)
    → Contains (change_where (λ (x : Geom Config). x.number == n) (λ x. record x { config = config }) xs) y
    → ComesFrom (λ (x z : Geom Config).
    ((x.number ≡ n) × (z ≡ record x { config = config })) ⊎ ((x.number ≢ n) × (z ≡ x))) xs y
configured n config xs y here =
    let o = map-Contains (λ (x : Geom Config). if x.number == n then record x { config = config } else x) xs y
    here in
    record { item = o.item; stands = o.stands; fact = by o.item (o.item.number == n) refl o.fact }
  where
    -- by whether it is the one
    by : (x : Geom Config) (b : Bool) → (x.number == n) ≡ b
        → (if x.number == n then record x { config = config } else x) ≡ y
        → ((x.number ≡ n) × (y ≡ record x { config = config })) ⊎ ((x.number ≢ n) × (y ≡ x))
    by x true e is = inl (eqb-true x.number n e, sym (rw e at is))
    by x false e is = inr (
      λ same. let yes : true ≡ false = sym (eq-eqb x.number n same) ∙ e in let no : ⊥ = cc in no,
      sym (rw e at is),
    )

module _ (w : World) (p : Provider) (g : Geom Config) (k : ℕ) (firm : Firm w) (can : CanTakePlace w p)
    (waits : IsOpenAssembly w g) (whole : IsWholeIn g.config p.sector) where
  -- the graph before
  abbrev t : Topology Config
  t = w.topology

  -- the number of the geom
  abbrev n : ℕ
  n = g.number

  -- the new consumer
  abbrev c : ℕ
  c = t.next_consumer

  -- the size of the component
  abbrev size : ℕ
  size = p.size - p.sector

  -- the configuration with the place filled
  abbrev pub filled : Config
  filled = fill_place g.config k c size

  -- the geom with it
  abbrev pub joined : Geom Config
  joined = record g { config = filled }

  -- the graph with the consumer
  abbrev v : Topology Config
  v = add_consumer t n (Some p.number)

  -- and with the configuration
  abbrev pub u : Topology Config
  u = set_config v n filled

  -- before, all stood in order
  order : IsInOrder t
  order = sound-order w firm.graph.numbers

  -- and lived
  live : PartsLive t
  live = steady-parts t firm.graph.parts firm.graph.attached

  -- the geom was one of them
  here : Contains t.geoms g
  here = is-there w g firm waits

  -- it lives
  lives : IsSome (geom_at t n)
  lives = some-there (geom_at t n) g waits.stands

  -- its class
  class : IsOfItsClass g
  class = its-class w g firm waits

  -- which is that of an assembly
  abbrev of_class : IsOfAssembly g.kind g.config
  of_class = its-assembly w g firm waits

  -- so it isn't DEV
  not_dev : n ≢ 1
  not_dev = isnt-dev w g firm waits

  -- nor TASTE
  not_taste : n ≢ 2
  not_taste = isnt-taste w g firm waits

  -- no provider is of it
  not_of_it : (x : Provider) → Contains t.providers x → x.geom ≢ n
  not_of_it = offers-not w g firm waits

  -- a consumer that was found is found
  pub consumer-still : (m : ℕ) (x : Consumer) → consumer_at t m ≡ Some x → consumer_at u m ≡ Some x
  consumer-still m x e = found-before (λ (z : Consumer). z.number == m) t.consumers _ x e

  -- so is the new one
  pub new-found : consumer_at u c ≡ Some (new_consumer t n (Some p.number))
  new-found = added-consumer.new t n (Some p.number) order

  -- no consumer had its number
  consumer_apart : (m : ℕ) (x : Consumer) → consumer_at t m ≡ Some x → m ≢ c
  consumer_apart m x e same =
      none-there (consumer_at t c)
      (found_fresh (λ (z : Consumer). z.number) c c t.consumers order.consumers (omega arith))
      (some-there (consumer_at t c) x (subst (λ i. consumer_at t i ≡ Some x) same e))

  -- Ranks

  -- only the rank of the geom rises
  abbrev rises : OneRankRises t v n × (rank v n ≡ max (rank t n) (1 + rank t p.geom))
  rises = open-rises t n p.number p firm.graph.ranks.ranked live.geoms lives waits.offers_none can.found

  -- the ranks hold
  ranks_v : RanksHold v
  ranks_v = record {
    ranked = rises.0.ranked;
    not_deep = all_of (λ (x : Geom Config). x.number ≢ 1 → x.number ≢ 2 → rank v x.number ≤ MAX_RANK) t.geoms
        (λ x stands dev taste.
        let was : rank t x.number ≤ MAX_RANK = All-contains (λ (x : Geom Config). x.number ≢ 1 → x.number ≢ 2
        → rank t x.number ≤ MAX_RANK) t.geoms x firm.graph.ranks.not_deep stands dev taste in
        by x.number was (x.number == n) refl);
    dev = record { stands = firm.graph.ranks.dev.stands; no_provider = firm.graph.ranks.dev.no_provider };
    taste = record { stands = firm.graph.ranks.taste.stands; no_provider = firm.graph.ranks.taste.no_provider };
  }
    where
      -- by whether it is the one
      by : (m : ℕ) → rank t m ≤ MAX_RANK → (b : Bool) → (m == n) ≡ b → rank v m ≤ MAX_RANK
      by m was true e =
          let same : m ≡ n = eqb-true m n e in
          let now : rank v n ≡ max (rank t n) (1 + rank t p.geom) = rises.1 in
          let old : rank t n ≤ MAX_RANK = subst (λ i. rank t i ≤ MAX_RANK) same was in
          let below : rank t p.geom < MAX_RANK = can.low in
          subst (λ i. rank v i ≤ MAX_RANK) (sym same) (omega arith)
      by m was false e =
          let still : rank v m ≡ rank t m = rises.0.same m (λ same.
          let yes : true ≡ false = sym (eq-eqb m n same) ∙ e in let no : ⊥ = cc in no) in
          omega arith

  -- with the configuration as well
  ranks_u : RanksHold u
  ranks_u = sound-ranks.configured v n filled ranks_v

  -- another rank stays
  rank_same : (h : ℕ) → h ≢ n → rank u h ≡ rank t h
  rank_same h apart = (plain-stay.config v n filled).same h ∙ rises.0.same h apart

  -- Demand

  -- it stays
  demand : DemandStays (granted_in w) t (granted_in w) u AnyConsumer
  demand =
      demand-trans (granted_in w) t v u
      (over-demand (granted_in w) n g refl of_class.dev of_class.taste (p ∷ []) t waits.stands waits.offers_none)
      (unseen_config (granted_in w) v n filled)

  -- Parts

  -- a geom that was there, or the one that has changed
  geom_cases : (y : Geom Config) → Contains u.geoms y → (Contains t.geoms y × (y.number ≢ n)) ⊎ (y ≡ joined)
  geom_cases y stands =
      let o = configured n filled t.geoms y stands in
      elim o.fact [
        | inl it ↦
            inr (it.1 ∙ ap (λ (z : Geom Config). record z { config = filled })
            (only-one w g firm waits o.item o.stands it.0))
        | inr other ↦
            inl (
              subst (Contains t.geoms) (sym other.1) o.stands,
              subst (λ (z : Geom Config). z.number ≢ n) (sym other.1) other.0,
            )
      ]

  -- disks differ
  disks_differ : AllPairs DifferInDisk u.geoms
  disks_differ =
      pairs-from (λ (z : Geom Config). z.number) DifferInDisk
      (λ (x y : Geom Config). (y.number ≡ x.number) × (disk_of y.config ≡ disk_of x.config)) (λ x y both. both.0)
      (λ x y a b first second apart d one other. apart d (sym first.1 ∙ one) (sym second.1 ∙ other))
      t.next_geom u.next_geom t.geoms u.geoms order.geoms
      (config-found.order v n filled (added-consumer.order t n (Some p.number) order)).geoms
      (λ y stands.
      let o = configured n filled t.geoms y stands in
      record {
        item = o.item;
        stands = o.stands;
        fact = elim o.fact [
          | inl it ↦ (
            ap (λ (z : Geom Config). z.number) it.1,
            ap (λ (z : Geom Config). disk_of z.config) it.1
                ∙ (has-places filled (filled-is g.config k c size waits.assembly).assembly).no_disk
                ∙ sym (has-places g.config waits.assembly).no_disk
                ∙ ap (λ (z : Geom Config). disk_of z.config) (sym (only-one w g firm waits o.item o.stands it.0)),
          )
          | inr other ↦ (
            ap (λ (z : Geom Config). z.number) other.1,
            ap (λ (z : Geom Config). disk_of z.config) other.1,
          )
        ];
      })
      firm.graph.numbers.one_geom_of_disk

  -- The geom

  -- the components with the new one
  pub components-now : components filled ≡ filled_of (slice_set (places_of g.config) k (Some c))
  components-now =
      let is = filled-is g.config k c size waits.assembly in
      (has-places filled is.assembly).components_are ∙ ap (λ xs. filled_of xs) is.places_are

  -- the size of the component is in whole sectors
  whole_size : size % p.sector ≡ 0
  whole_size =
      let media =
      All-contains (λ (x : Provider). IsMediaSize x.size x.sector) t.providers p firm.graph.providers.sizes
      (find-Contains (λ (x : Provider). x.number == p.number) t.providers p can.found) in
      mod-eq-zero_of_dvd p.sector (dvd-sub p.sector (dvd_of_mod-eq-zero p.sector media.whole) (dvd_refl p.sector))

  -- so once the place is filled
  components_there
      : All (λ d. IsSomeAnd (consumer_at u d) (IsPart g)) (components filled)
  components_there =
      all_of (λ d. IsSomeAnd (consumer_at u d) (IsPart g)) (components filled) (λ d stands.
      elim (filled-cases (places_of g.config) k c d (subst (λ xs. Contains xs d) components-now stands)) [
        | inl new ↦
            some-with (consumer_at u d) (IsPart g) (new_consumer t n (Some p.number))
            (ap (consumer_at u) new ∙ new-found) (refl, refl)
        | inr old ↦
            fact_still t u (IsPart g) (λ m x e part. consumer-still m x e) (Some d)
            (component-there w g firm waits d (subst (λ xs. Contains xs d)
            (sym (has-places g.config waits.assembly).components_are) old))
      ])

  -- its places fit
  fits_places : FitsPlaces u joined
  fits_places =
      let is = filled-is g.config k c size waits.assembly in
      subst (λ xs. AllZip (FitsPlace u n) xs (sizes_of filled)) (sym is.places_are)
      (subst (λ ys. AllZip (FitsPlace u n) (slice_set (places_of g.config) k (Some c)) ys) (sym is.sizes_are)
      (zip-set (FitsPlace u n) (places_of g.config) (sizes_of g.config) k (Some c) size
      (zip_members (FitsPlace t n) (FitsPlace u n) (places_of g.config) (sizes_of g.config) old
      (All-contains (FitsPlaces t) t.geoms g firm.sizes.places here)) new))
    where
      -- the new place
      new : FitsPlace u n (Some c) size
      new =
          if-found (consumer_at u c) (FitsOver u n size) (λ x e own.
          subst (λ (z : Consumer). IfSome (option_and_then (provider_at u) z.provider) (λ q.
          (size ≤ q.size) × (size % q.sector ≡ 0)))
          (one-found (consumer_at u c) (new_consumer t n (Some p.number)) x new-found e)
          (if-found (provider_at t p.number) (λ q. (size ≤ q.size) × (size % q.sector ≡ 0)) (λ q under.
          subst (λ (z : Provider). (size ≤ z.size) × (size % z.sector ≡ 0))
          (one-found (provider_at t p.number) p q can.found under)
          (omega arith, whole_size))))

      -- a place that was filled, or is free
      old : (a : Option ℕ) (b : ℕ) → Contains (places_of g.config) a → FitsPlace t n a b → FitsPlace u n a b
      old None b stands fact = tt
      old (Some d) b stands fact =
          let x = found-with (consumer_at t d) (IsPart g) (component-there w g firm waits d (subst (λ xs. Contains xs d)
          (sym (has-places g.config waits.assembly).components_are)
          (in-places (places_of g.config) d stands))) in
          subst (λ o. IfSome o (FitsOver t n b)) (x.is ∙ sym (consumer-still d x.item x.is)) fact

  -- its places are apart and few
  places_hold : PlacesHold joined
  places_hold =
      let before = All-contains PlacesHold t.geoms g firm.sizes.apart here in
      let is = filled-is g.config k c size waits.assembly in
      record {
        apart = subst (AllPairs (λ a b. a ≢ b)) (sym components-now)
            (pairs-from_recursion (λ a b. a ≢ b) (filled_of (slice_set (places_of g.config) k (Some c)))
            (filled-differ (places_of g.config) k c (λ d stands.
            let x = found-with (consumer_at t d) (IsPart g)
            (component-there w g firm waits d (subst (λ xs. Contains xs d)
            (sym (has-places g.config waits.assembly).components_are) stands)) in
            consumer_apart d x.item x.is)
            (recursion-from_pairs (λ a b. a ≢ b) (filled_of (places_of g.config))
            (subst (AllPairs (λ a b. a ≢ b)) (has-places g.config waits.assembly).components_are before.apart))));
        few = subst (λ m. m ≤ MAX_COMPONENTS)
            (sym (ap length is.places_are ∙ length-set (places_of g.config) k (Some c))) before.few;
      }

  -- the geom fits
  geom_fits : GeomFits w u joined
  geom_fits = record {
    dev = not_dev;
    taste = not_taste;
    class = record { config = of_class.filled k c size; dev = class.dev; taste = class.taste };
    upright = waits.upright;
    disk_sizes = if-found (disk_of filled) _ (λ d e.
        let none = (has-places filled (filled-is g.config k c size waits.assembly).assembly).no_disk in
        absurd (let no : ⊥ = cc in no));
    components = components_there;
    partial = λ free. waits.offers_none;
    places = fits_places;
    one = λ concat. let none : length (providers_of t n) ≡ 0 = ap length waits.offers_none in omega arith;
    apart = places_hold;
    sums = λ joined.
        subst (All (λ (x : Provider). x.size ≡ joined_size filled)) (sym waits.offers_none)
        (All-nil (λ (x : Provider). x.size ≡ joined_size filled));
  }

  -- what stood stands as it stood
  untouched : (m : ℕ) → IsUntouched t u joined m
  untouched m x e = (e, not_of_it x (find-Contains (λ (z : Provider). z.number == m) t.providers x e))

  -- a consumer was there, or is the new one
  consumer_cases : (y : Consumer) → Contains u.consumers y
      → Contains t.consumers y ⊎ (new_consumer t n (Some p.number) ≡ y)
  consumer_cases y stands = Contains-push_cases t.consumers (new_consumer t n (Some p.number)) y stands

  -- what a consumer of the geom is attached to has whole sectors for it
  whole_below : (y : Consumer) → Contains u.consumers y → y.geom ≡ n
      → IfSome (option_and_then (provider_at u) y.provider) (λ q. IsWholeIn filled q.sector)
  whole_below y stands own =
      let so = (filled-is g.config k c size waits.assembly).whole in
      elim (consumer_cases y stands) [
        | inl old ↦
            (let fits = at-found (geom_at t y.geom) (λ h. IfSome (option_and_then (provider_at t) y.provider) (λ q.
            IsWholeIn h.config q.sector)) g (ap (geom_at t) own ∙ waits.stands)
            (All-contains (FitsBelow t) t.consumers y firm.sizes.wholes old) in
            if-found (option_and_then (provider_at t) y.provider) (λ q. IsWholeIn filled q.sector) (λ q e.
            so q.sector (at-found (option_and_then (provider_at t) y.provider)
            (λ q. IsWholeIn g.config q.sector) q e fits)))
        | inr new ↦
            subst (λ (z : Consumer). IfSome (option_and_then (provider_at t) z.provider)
            (λ q. IsWholeIn filled q.sector)) new
            (if-found (provider_at t p.number) (λ q. IsWholeIn filled q.sector) (λ q e.
            subst (λ (z : Provider). IsWholeIn filled z.sector) (one-found (provider_at t p.number) p q can.found e)
            (so p.sector whole)))
      ]

  -- the graph has come to more
  taken-more : IsMore w u joined
  taken-more = record {
    order = config-found.order v n filled (added-consumer.order t n (Some p.number) order);
    live = parts-alive.config v n filled
        (parts-alive.consumer_added t n (Some p.number) lives
        (some-there (provider_at t p.number) p can.found) live);
    ranks = ranks_u;
    exclusive = demand.exclusive firm.demand.counts.exclusive;
    limited = demand.limit firm.demand.counts.limited;
    old_geoms = λ m x apart e. config-found.others v n filled m apart ∙ e;
    old_providers = λ m x e. record { now = x; found = e; is = record { same = refl; larger = omega arith } };
    old_consumers = consumer-still;
    stands = config-found.here v n filled g waits.stands;
    geoms = geom_cases;
    providers = λ y stands. inl (stands, not_of_it y stands);
    consumers = λ y stands.
        elim (consumer_cases y stands) [
          | inl old ↦ inl old
          | inr new ↦
              inr (subst (ConsumerFits u joined) new
              (record { geom = refl; attached = some-there (provider_at t p.number) p can.found }))
        ];
    others = λ m apart. refl;
    dev = added-consumer.others_of t n (Some p.number) 1 (λ same. not_dev (sym same));
    tasting = added-consumer.others_of t n (Some p.number) 2 (λ same. not_taste (sym same));
    names = firm.graph.providers.names;
    disks = disks_differ;
    wholes = whole_below;
    fits = geom_fits;
    wants = λ y stands.
        subst (λ a. IsAtMost (want (granted_in w) t y) a) (sym (demand.wants y tt))
        (at_most-same (want (granted_in w) t y));
    opened = λ y stands used. inl (sym (ap is_zero (demand.haves y.number)) ∙ used);
    bios = λ x stands. untouched x.target;
    tasted = if-found w.taste (λ s. IsUntouched t u joined s.provider) (λ s e. untouched s.provider);
    rank = tastes-low w u firm (λ s e x is h of.
        let apart = not_of_it x (find-Contains (λ (z : Provider). z.number == s.provider) t.providers x is) in
        let number : h.number ≡ x.geom = number_found (λ (z : Geom Config). z.number) t.geoms x.geom h of in (
          ap (option_and_then (λ (z : Provider). geom_at u z.geom)) is
              ∙ config-found.others v n filled x.geom apart ∙ of,
          rank_same h.number (λ same. apart (sym number ∙ same)),
        ));
  }

  -- so the world is firm
  pub taken-firm : Firm (record w { topology = u; events = w.events })
  taken-firm = more-firm w u joined firm taken-more w.events firm.taste.living

-- so say all places
pub takes_stay : TakesStayFirm
takes_stay = record { take = λ w p g k firm can waits whole. taken-firm w p g k firm can waits whole }
