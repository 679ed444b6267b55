-- A firm world whose graph has come to less is firm: it is sound, steady and fitting.
use Rattle.std.specs.Prelude.{◌≡◌, ◌⊎◌, ℕ, ◌<◌, ◌≤◌, ◌/◌, ◌==◌, Bool, true, false, not, ◌&&◌, [], Option, Some, None, All, Contains, IsSome, IsSomeAnd, IfSome, IsTrue, MatchOption, option_and_then, slice_get, length, ◌%◌, List}
use Rattle.std.proofs.Common.{inl, inr, refl, sym, ◌∙◌, ap, subst, arith}
use Rattle.std.proofs.lemmas.Bool.{eqb-true, eq-eqb}
use Rattle.std.proofs.lemmas.List.Elements.{All-contains, All-weaker}
use Rattle.std.proofs.lemmas.List.{nil_from_length}
use Rattle.std.specs.Option.{option_map_or}
use Rattle.geo_model.specs.TheConstants.{UNTASTED_RANK}
use Rattle.geo_model.specs.Words.{same_name}
use Rattle.geo_model.specs.Topology.{Topology, Geom, Provider, Consumer, geom_at, provider_at, consumer_at, geom_of_provider, providers_of, consumers_of, is_withering}
use Rattle.geo_model.specs.Rank.{rank}
use Rattle.geo_model.specs.Demand.{have, is_zero, no_counts}
use Rattle.geo_model.specs.Place.{Spot, place, component, disk_of, components}
use Rattle.geo_model.specs.World.{HeaderDisk, World, Config, Taste, granted_in, Asked, NoClass, NextSector, ReadOut, ReadBack, is_taste_root}
use Rattle.geo_model.specs.Sound.{IsMediaSize, DifferInName, ProvidersHold, CountsHold, IsOfItsClass, DifferInDisk, HasDiskSizes, NumbersHold, IsHandleConsumer, HasItsConsumer, IsTasting, HasTasteConsumer, HandlesHold, IsPlaceInside, IsPlaced, LeadsDown, ChainHolds, IsTasteInOrder, StandsBare}
use Rattle.geo_model.specs.Fitting.{Firm, IsWholeIn, FitsBelow, sizes_of, FitsPlace, FitsPlaces, IsAskedInOrder, IsOneSector, HasOneProvider, PlacesHold, HasItsSum, TasteReadHolds, SizesHold}
use Rattle.geo_model.proofs.FindLists.{some-passes}
use Rattle.geo_model.specs.Counts.{Counts}
use Rattle.geo_model.specs.Steady.{AreMade, AreAttached, has_open_provider, HasItsComponents, WaitsForPlaces}
use Rattle.geo_model.specs.Sectors.{IsSectorSize}
use Rattle.geo_model.specs.Kind.{Kind}
use Rattle.geo_model.specs.Kind.TheVariants as kinds
use Rattle.geo_model.specs.declared.class.Facts.{Facts}
use Rattle.geo_model.specs.declared.step.BioResult.{BioResult}
use Rattle.geo_model.specs.declared.step.BioResult.TheVariants as results
use Rattle.geo_model.specs.declared.step.Event.{Event}
use Rattle.geo_model.specs.Acceptance.{taste_where, places_of, joined_size}
use Rattle.geo_model.specs.Events.{provider_of_event}
use Rattle.geo_model.specs.Tasting.{facts_of}
use Rattle.geo_model.proofs.MemberLists.{zip_members}
use Rattle.geo_laws_graph.proofs.Members.{find-Contains, Contains-filter, filter-Contains, Contains-here}
use Rattle.geo_laws_graph.proofs.Numbered.{number_found, any-contained}
use Rattle.geo_laws_graph.proofs.Lists.{found_itself}
use Rattle.geo_laws_counts.proofs.LimitFacts.{all_of}
use Rattle.geo_laws_life.proofs.Found.{found-with, some-with, some-there, if-found, at-found, at-some, one-found, pairs-from}
use Rattle.geo_laws_life.specs.LessLaws.{IsGeomOf, IsProviderOf, IsSpent, IsLess, LessIsFirm}
use Rattle.geo_laws_life.proofs.Less.{upright-before, geom-number, provider-number, remade, less-self, has_below, StandsStill, provider_from, before_order, stands-still, attached-still, stays_or_spent, of_geom, spent-closed, component-below, geom_there, components-below, geom_from, consumer_from, bio-stands, less-bios, less-families, less-disks}
use Rattle.geo_laws_life.proofs.Frames.{IsPart, FitsOver}

-- names that differ still do where more is in error
names_differ : (x y : Provider) (a b : Bool) → (x.errored ≡ true → a ≡ true) → (y.errored ≡ true → b ≡ true)
    → DifferInName x y → DifferInName (record x { errored = a }) (record y { errored = b })
names_differ x y a b first second apart = by a b x.errored y.errored first second apart where
  -- by the errors
  by : (a b c d : Bool) → (c ≡ true → a ≡ true) → (d ≡ true → b ≡ true)
      → not (not c && (not d && same_name x.name y.name)) ≡ true
      → not (not a && (not b && same_name x.name y.name)) ≡ true
  by true b c d first second apart = refl
  by false true c d first second apart = refl
  by false false true d first second apart = let no : false ≡ true = first refl in absurd (let bad : ⊥ = cc in bad)
  by false false false true first second apart = let no : false ≡ true = second refl in absurd (let bad : ⊥ = cc in bad)
  by false false false false first second apart = apart

-- the provider has the sizes of a disk
abbrev HasSize : HeaderDisk → Provider → Type 0
HasSize disk p = (p.sector ≡ disk.sector) × (p.size ≡ disk.size)

-- so has each one of a geom
abbrev HasSizes : Topology Config → ℕ → HeaderDisk → Type 0
HasSizes t n disk = All (HasSize disk) (providers_of t n)

-- the provider is open, or its geom doesn't wither
abbrev IsUsed : World → Topology Config → ℕ → Bool → Type 0
IsUsed w t n withering = (is_zero (have (granted_in w) t n) ≡ false) ⊎ (withering ≡ false)

-- the offset is inside the provider, which has the sector size
abbrev IsUnder : Topology Config → ℕ → ℕ → Option ℕ → Type 0
IsUnder t offset sector o =
    IsSomeAnd (option_and_then (provider_at t) o) (λ r. (offset < r.size) × (r.sector ≡ sector))

-- zero counts aren't some
zero_open : (granted : ℕ → Counts) (t : Topology Config) (n : ℕ) → have granted t n ≡ no_counts
    → not (is_zero (have granted t n)) ≡ true → ⊥
zero_open granted t n none some = let no : false ≡ true = sym (ap (λ a. not (is_zero a)) none) ∙ some in cc

-- the provider below, and that it was so before
pub record BelowBefore (t : Topology Config) (o : Option ℕ) (q : Provider) : Type 0 where
  pub before : Provider
  pub was : option_and_then (provider_at t) o ≡ Some before
  pub is : IsProviderOf before q

-- the facts, by the class and the provider
abbrev with_kind : Kind → Provider → Facts
with_kind k z = record { kind = k; sector = z.sector; sectors = z.size / z.sector }

-- what is found there stands for the same class and sizes
same_facts : (t u : Topology Config) (p q : Provider) → q ≡ record p { errored = q.errored } → (g h : Geom Config)
    → geom_at t p.geom ≡ Some g
    → geom_at u q.geom ≡ Some h → h ≡ record g { withering = h.withering; started = h.started }
    → facts_of u q ≡ facts_of t p
same_facts t u p q same g h found now of =
    let kind : option_map_or (λ (x : Geom Config). x.kind) (geom_at u q.geom) kinds.Disk ≡ option_map_or
    (λ (x : Geom Config). x.kind) (geom_at t p.geom) kinds.Disk =
    ap (λ (o : Option (Geom Config)). option_map_or (λ (x : Geom Config). x.kind) o kinds.Disk) now
    ∙ ap (λ (x : Geom Config). x.kind) of
    ∙ sym (ap (λ (o : Option (Geom Config)). option_map_or (λ (x : Geom Config). x.kind) o kinds.Disk) found) in
    ap (λ (k : Kind). with_kind k q) kind ∙ ap
    (λ z. with_kind (option_map_or (λ (x : Geom Config). x.kind) (geom_at t p.geom) kinds.Disk) z) same

-- one sector is one whatever the errors
same_sector : (p q : Provider) (got : BioResult) → q.sector ≡ p.sector → IsOneSector p got → IsOneSector q got
same_sector p q (results.Bytes bytes) e fact = fact ∙ sym e
same_sector p q _ e fact = fact

-- what is asked stays in order where the facts and the sizes are the same
asked_still : (t u : Topology Config) (p q : Provider) → facts_of u q ≡ facts_of t p
    → q ≡ record p { errored = q.errored } → (a : Asked) → IsAskedInOrder t p a → IsAskedInOrder u q a
asked_still t u p q facts same NoClass fact = fact
asked_still t u p q facts same (NextSector kind sector) fact = (
  subst (λ f. IsSome (taste_where kind f)) (sym facts) fact.0,
  subst (λ (z : Provider). sector < z.size / z.sector) (sym same) fact.1,
)
asked_still t u p q facts same (ReadOut kind) fact = subst (λ f. IsSome (taste_where kind f)) (sym facts) fact
asked_still t u p q facts same (ReadBack kind got) fact = (
  subst (λ f. IsSome (taste_where kind f)) (sym facts) fact.0,
  same_sector p q got (ap (λ (z : Provider). z.sector) same) fact.1,
)

module _ (w : World) (u : Topology Config) (firm : Firm w) (less : IsLess w u) where
  -- a fact of each provider that doesn't speak of errors
  each_provider : (P : Provider → Type 0) → ((x : Provider) (b : Bool) → P x → P (record x { errored = b }))
      → All P w.topology.providers → All P u.providers
  each_provider P so facts = all_of P u.providers (λ y here.
      let o = less.providers y here in
      subst P (sym o.fact.same) (so o.item y.errored (All-contains P w.topology.providers o.item facts o.stands)))

  -- what holds of each geom by what held of it before, whether it withers now or not
  each_geom : (P Q : Geom Config → Type 0)
      → ((x : Geom Config) (b : Bool) (n : ℕ) → P x → Q (record x { withering = b; started = n }))
      → All P w.topology.geoms → All Q u.geoms
  each_geom P Q so facts = all_of Q u.geoms (λ y here.
      let o = less.geoms y here in
      subst Q (sym o.fact.same)
      (so o.item y.withering y.started (All-contains P w.topology.geoms o.item facts o.stands)))

  -- each provider has the name and the size that it had
  less-providers : All (λ x. IsTrue (is_withering u x.geom) → x.errored ≡ true) u.providers → ProvidersHold u
  less-providers withering = record {
    names = pairs-from (λ (x : Provider). x.number) DifferInName IsProviderOf provider-number
        (λ x y a b first second apart.
        subst (λ z. DifferInName z b) (sym first.same)
        (subst (λ z. DifferInName (record x { errored = a.errored }) z) (sym second.same)
        (names_differ x y a.errored b.errored first.errored second.errored apart)))
        w.topology.next_provider u.next_provider w.topology.providers u.providers
        (before_order w u firm less).providers less.order.providers less.providers
        firm.graph.providers.names;
    withering = withering;
    sizes = each_provider (λ (x : Provider). IsMediaSize x.size x.sector) (λ x b fact. fact)
        firm.graph.providers.sizes;
  }

  -- no count is in another's way or above the limit
  less-counts : CountsHold (granted_in w) u
  less-counts = record {
    exclusive = less.demand.exclusive firm.demand.counts.exclusive;
    limited = less.demand.limit firm.demand.counts.limited;
  }

  -- each geom has the sizes of its disk
  disk_sizes : (x : Geom Config) (b : Bool) (n : ℕ) → HasDiskSizes w.topology w.disks x
      → HasDiskSizes u w.disks (record x { withering = b; started = n })
  disk_sizes x b n old =
      if-found (disk_of x.config) (λ d. IsSomeAnd (slice_get w.disks d) (HasSizes u x.number)) (λ d e.
      let before = found-with (slice_get w.disks d) (HasSizes w.topology x.number)
      (at-found (disk_of x.config) (λ d. IsSomeAnd (slice_get w.disks d) (HasSizes w.topology x.number)) d e old) in
      some-with (slice_get w.disks d) (HasSizes u x.number) before.item before.is
      (all_of (HasSize before.item) (providers_of u x.number) (λ p own.
      let q = of_geom w u firm less x.number p own in
      subst (HasSize before.item) (sym q.fact.same)
      (All-contains (HasSize before.item) (providers_of w.topology x.number) q.item before.fact q.stands))))

  -- numbers and classes hold
  less-numbers : NumbersHold u w.disks
  less-numbers = record {
    geoms = less.order.geoms;
    providers = less.order.providers;
    consumers = less.order.consumers;
    classes = each_geom IsOfItsClass IsOfItsClass
        (λ x b n c. record { config = c.config; dev = c.dev; taste = c.taste }) firm.graph.numbers.classes;
    one_geom_of_disk = pairs-from (λ (x : Geom Config). x.number) DifferInDisk IsGeomOf geom-number
        (λ x y a b first second apart.
        subst (λ z. DifferInDisk z b) (sym first.same)
        (subst (λ z. DifferInDisk (record x { withering = a.withering; started = a.started }) z) (sym second.same)
        apart))
        w.topology.next_geom u.next_geom w.topology.geoms u.geoms (before_order w u firm less).geoms less.order.geoms
        less.geoms
        firm.graph.numbers.one_geom_of_disk;
    disk_sizes = each_geom (HasDiskSizes w.topology w.disks) (HasDiskSizes u w.disks) disk_sizes
        firm.graph.numbers.disk_sizes;
  }

  -- a consumer of geom 1 or 2 isn't spent
  pub never_spent : (n : ℕ) → StandsBare w.topology n → (x : Consumer) → x.geom ≡ n → IsSpent w x → ⊥
  never_spent n bare x own spent =
      let g = found-with (geom_at w.topology n) (λ z. z.withering ≡ false) bare.stands in
      let at : geom_at w.topology n ≡ Some spent.geom =
      subst (λ m. geom_at w.topology m ≡ Some spent.geom) own spent.found in
      let same : g.item ≡ spent.geom = one-found (geom_at w.topology n) g.item spent.geom g.is at in
      let no : false ≡ true = sym g.fact ∙ ap (λ (z : Geom Config). z.withering) same ∙ spent.withering in
      cc

  -- each consumer of DEV is attached, and that of one handle
  handle_consumer : (y : Consumer) → Contains (consumers_of u 1) y → IsHandleConsumer w.handles y
  handle_consumer y here =
      let kept = filter-Contains (λ (z : Consumer). z.geom == 1) u.consumers y here in
      let o = less.consumers y kept.0 in
      let own : o.item.geom ≡ 1 = sym (ap (λ (z : Consumer). z.geom) o.fact.same) ∙ eqb-true y.geom 1 kept.1 in
      let before : IsHandleConsumer w.handles o.item =
      All-contains (IsHandleConsumer w.handles) (consumers_of w.topology 1) o.item firm.handles.consumers
      (Contains-filter (λ (z : Consumer). z.geom == 1) w.topology.consumers o.item o.stands
      (eq-eqb o.item.geom 1 own)) in
      subst (IsHandleConsumer w.handles) (sym o.fact.same)
      (record { attached = before.attached; one_handle = before.one_handle })

  -- each handle has its consumer
  its_consumer : (o : Option ℕ) (dead : Bool)
      → MatchOption o (dead ≡ true) (λ c. IsSomeAnd (consumer_at w.topology c) (λ x. x.geom ≡ 1))
      → MatchOption o (dead ≡ true) (λ c. IsSomeAnd (consumer_at u c) (λ x. x.geom ≡ 1))
  its_consumer None dead fact = fact
  its_consumer (Some c) dead fact =
      let d = found-with (consumer_at w.topology c) (λ x. x.geom ≡ 1) fact in
      elim (stays_or_spent w u firm less c d.item d.is) [
        | inl stays ↦
            some-with (consumer_at u c) (λ x. x.geom ≡ 1) stays.now stays.found
            (ap (λ (z : Consumer). z.geom) stays.is.same ∙ d.fact)
        | inr spent ↦ absurd (never_spent 1 firm.graph.ranks.dev d.item d.fact spent)
      ]

  -- handles and the taste's consumer hold
  less-handles : HandlesHold u w.handles w.next_handle w.taste
  less-handles = record {
    numbers = firm.handles.numbers;
    consumers = all_of (IsHandleConsumer w.handles) (consumers_of u 1) handle_consumer;
    handles = All-weaker (HasItsConsumer w.topology) (HasItsConsumer u)
        (λ h. its_consumer h.consumer h.dead) w.handles firm.handles.handles;
    taste = less.tasting;
  }

  -- Places

  module _ (p q : Provider) (is : IsProviderOf q p) (g h : Geom Config) (stood : geom_at w.topology q.geom ≡ Some h)
      (of : IsGeomOf h g) (here : Contains w.topology.providers q) where
    -- a consumer of the geom isn't spent while the geom stands or its provider is open
    not_spent : IsUsed w u p.number g.withering → has_below h.config ≡ true
        → (d : Consumer) → d.geom ≡ h.number → IsSpent w d → ⊥
    not_spent used has d own spent =
        let own_number : h.number ≡ q.geom = number_found (λ (z : Geom Config). z.number) w.topology.geoms q.geom h
        stood in
        let at : geom_at w.topology d.geom ≡ Some h =
        subst (λ n. geom_at w.topology n ≡ Some h) (sym (own ∙ own_number)) stood in
        let same : h ≡ spent.geom = one-found (geom_at w.topology d.geom) h spent.geom at spent.found in
        let withers : h.withering ≡ true = ap (λ (z : Geom Config). z.withering) same ∙ spent.withering in
        elim used [
          | inl opened ↦
              (let closed : All (λ y. have (granted_in w) w.topology y.number ≡ no_counts)
              (providers_of w.topology h.number) =
              spent-closed w d h spent at (All-contains IsOfItsClass w.topology.geoms h firm.graph.numbers.classes
              (find-Contains (λ (z : Geom Config). z.number == q.geom) w.topology.geoms h stood)).config has in
              let none : have (granted_in w) w.topology q.number ≡ no_counts =
              All-contains (λ (y : Provider). have (granted_in w) w.topology y.number ≡ no_counts)
              (providers_of w.topology h.number) q closed
              (Contains-filter (λ (z : Provider). z.geom == h.number) w.topology.providers q here
              (eq-eqb q.geom h.number (sym own_number))) in
              let zero_now : have (granted_in w) u p.number ≡ no_counts =
              less.demand.haves p.number ∙ ap (have (granted_in w) w.topology) (provider-number q p is) ∙ none in
              let no : true ≡ false = ap is_zero (sym zero_now) ∙ opened in
              cc)
          | inr stands ↦ (let no : true ≡ false = sym (of.withering withers) ∙ stands in cc)
        ]

    -- a place is still inside
    place_inside : IsUsed w u p.number g.withering → (spot : Spot) → IsPlaceInside w.topology h q spot
        → IsPlaceInside u g p spot
    place_inside used spot inside =
        by (component h.config spot.component) refl inside
      where
        -- from the provider below
        below : (o : Option ℕ) → IsUnder w.topology spot.offset q.sector o → (c : Consumer) → Contains u.consumers c
            → c.provider ≡ o → IsUnder u spot.offset p.sector o
        below None fact c there to = absurd fact
        below (Some n) fact c there to =
            let s = attached-still w u firm less c n there to in
            let old = at-some (provider_at w.topology n) (λ r. (spot.offset < r.size) × (r.sector ≡ q.sector)) s.before
            s.was fact in
            some-with (provider_at u n) (λ r. (spot.offset < r.size) × (r.sector ≡ p.sector)) s.provider s.found
            (subst (λ (z : Provider). (spot.offset < z.size) × (z.sector ≡ p.sector)) (sym s.is.same)
            (old.0, old.1 ∙ sym (ap (λ (z : Provider). z.sector) is.same)))

        -- from the consumer
        by : (o : Option ℕ) → component h.config spot.component ≡ o
            → IsSomeAnd (option_and_then (consumer_at w.topology) o)
            (λ c. (c.geom ≡ h.number) × IsUnder w.topology spot.offset q.sector c.provider) → IsPlaceInside u g p spot
        by None e fact = absurd fact
        by (Some n) e fact =
            let d = found-with (consumer_at w.topology n)
            (λ c. (c.geom ≡ h.number) × IsUnder w.topology spot.offset q.sector c.provider) fact in
            elim (stays_or_spent w u firm less n d.item d.is) [
              | inl stays ↦
                  (let at : component g.config spot.component ≡ Some n =
                  ap (λ (z : Geom Config). component z.config spot.component) of.same ∙ e in
                  let to = ap (λ (z : Consumer). z.provider) stays.is.same in
                  some-with (option_and_then (consumer_at u) (component g.config spot.component))
                  (λ c. (c.geom ≡ g.number) × IsUnder u spot.offset p.sector c.provider)
                  stays.now (ap (option_and_then (consumer_at u)) at ∙ stays.found) (
                    ap (λ (z : Consumer). z.geom) stays.is.same ∙ d.fact.0 ∙ sym (geom-number h g of),
                    subst (IsUnder u spot.offset p.sector) (sym to)
                        (below d.item.provider d.fact.1 stays.now stays.here to),
                  ))
              | inr spent ↦ absurd (not_spent used (component-below h.config spot.component n e) d.item d.fact.0 spent)
            ]

    -- so each offset is still placed
    placed : IsUsed w u p.number g.withering → IsPlaced w.topology h q → IsPlaced u g p
    placed used old o short =
        let spot = found-with (place h.config q.name o) (IsPlaceInside w.topology h q)
        (old o (subst (λ (n : ℕ). o < n) (ap (λ (z : Provider). z.size) is.same) short)) in
        some-with (place g.config p.name o) (IsPlaceInside u g p) spot.item
        (ap (λ (z : Geom Config). place z.config p.name o) of.same
        ∙ ap (λ (z : Provider). place h.config z.name o) is.same ∙ spot.is) (place_inside used spot.item spot.fact)

    -- and the provider leads down
    leads : (IsUsed w w.topology q.number h.withering → IsSome (disk_of h.config) ⊎ IsPlaced w.topology h q)
        → IsUsed w u p.number g.withering → IsSome (disk_of g.config) ⊎ IsPlaced u g p
    leads old used =
        elim (old (premise used)) [
          | inl disk ↦ inl (subst (λ (z : Geom Config). IsSome (disk_of z.config)) (sym of.same) disk)
          | inr is_placed ↦ inr (placed used is_placed)
        ]
      where
        -- so was it used before
        premise : IsUsed w u p.number g.withering → IsUsed w w.topology q.number h.withering
        premise (inl opened) =
            inl (sym (ap is_zero (less.demand.haves p.number
            ∙ ap (have (granted_in w) w.topology) (provider-number q p is))) ∙ opened)
        premise (inr stands) = inr (upright-before h g of h.withering refl stands)

  -- each provider that is open or of a geom that doesn't wither leads down
  leads_down : (p : Provider) → Contains u.providers p → LeadsDown (granted_in w) u p
  leads_down p here =
      let s = stands-still w u firm less p.number (some-there (provider_at u p.number) p
      (found_itself (λ (z : Provider). z.number) u.next_provider u.providers p less.order.providers here)) in
      let now : p ≡ s.provider = one-found (provider_at u p.number) p s.provider
      (found_itself (λ (z : Provider). z.number) u.next_provider u.providers p less.order.providers here) s.found in
      let there : Contains w.topology.providers s.before =
      find-Contains (λ (z : Provider). z.number == p.number) w.topology.providers s.before s.was in
      let old = at-some (geom_at w.topology s.before.geom) (λ g. IsUsed w w.topology s.before.number g.withering
      → IsSome (disk_of g.config) ⊎ IsPlaced w.topology g s.before)
      s.geom_before s.was_of (All-contains (LeadsDown (granted_in w) w.topology) w.topology.providers s.before
      firm.demand.places there) in
      some-with (geom_at u p.geom) (λ g. IsUsed w u p.number g.withering → IsSome (disk_of g.config) ⊎ IsPlaced u g p)
      s.geom (subst (λ (z : Provider). geom_at u z.geom ≡ Some s.geom) (sym now) s.of)
      (leads p s.before (subst (λ z. IsProviderOf s.before z) (sym now) s.is) s.geom s.geom_before s.was_of s.geom_is
      there old)

  -- so do all of them
  less-places : All (LeadsDown (granted_in w) u) u.providers
  less-places = all_of (LeadsDown (granted_in w) u) u.providers leads_down

  -- Events and the taste

  -- a taste is still in order
  taste_in_order : (s : Taste) → IsTasting u s → IsTasteInOrder w.topology s → IsTasteInOrder u s
  taste_in_order s tasting old = record {
    rank = some-with (geom_of_provider u s.provider) (λ g. rank u g.number < UNTASTED_RANK) still.geom
        (geom_there u s.provider still.provider still.geom still.found still.of) (
        let g = found-with (geom_of_provider w.topology s.provider) (λ g. rank w.topology g.number < UNTASTED_RANK)
        old.rank in
        let same : g.item ≡ still.geom_before =
        one-found (geom_of_provider w.topology s.provider) g.item still.geom_before g.is
        (geom_there w.topology s.provider still.before still.geom_before still.was still.was_of) in
        let low : rank w.topology still.geom_before.number < UNTASTED_RANK =
        subst (λ (z : Geom Config). rank w.topology z.number < UNTASTED_RANK) same g.fact in
        let lower : rank u still.geom.number ≤ rank w.topology still.geom.number = less.lower still.geom.number in
        let number : rank w.topology still.geom.number ≡ rank w.topology still.geom_before.number =
        ap (rank w.topology) (geom-number still.geom_before still.geom still.geom_is) in
        omega arith);
    reads = old.reads;
    chain = λ ebr. if-found (provider_at u s.provider) (λ p. ChainHolds (p.size / p.sector) s.asked s.reads s.chain)
        (λ p found.
        let x = provider_from w u firm less s.provider p found in
        subst (λ (z : Provider). ChainHolds (z.size / z.sector) s.asked s.reads s.chain) (sym x.is.same)
        (at-found (provider_at w.topology s.provider) (λ p. ChainHolds (p.size / p.sector) s.asked s.reads s.chain)
        x.item x.found (old.chain ebr)));
  }
    where
      -- its consumer stands
      here : Contains u.consumers tasting.consumer
      here = (filter-Contains (λ (z : Consumer). z.geom == 2) u.consumers tasting.consumer
          (subst (λ cs. Contains cs tasting.consumer) (sym tasting.alone) (Contains-here tasting.consumer []))).0

      -- and so does the provider
      still : StandsStill w u s.provider
      still = attached-still w u firm less tasting.consumer s.provider here tasting.attached

  -- whatever taste there is
  taste_holds : (o : Option Taste) → HasTasteConsumer u o → IfSome o (IsTasteInOrder w.topology)
      → IfSome o (IsTasteInOrder u)
  taste_holds None tasting old = tt
  taste_holds (Some s) tasting old = taste_in_order s tasting old

  -- the taste is in order
  less-taste : IfSome w.taste (IsTasteInOrder u)
  less-taste = taste_holds w.taste less.tasting firm.taste.order

  -- It is steady

  -- each consumer is attached
  attached_one : (c : Consumer) → Contains u.consumers c → IsSome (option_and_then (provider_at u) c.provider)
  attached_one c here =
      let o = less.consumers c here in
      let was : IsSome (option_and_then (provider_at w.topology) o.item.provider) =
      All-contains (λ (z : Consumer). IsSome (option_and_then (provider_at w.topology) z.provider))
      w.topology.consumers o.item firm.graph.attached o.stands in
      by c.provider (ap (λ (z : Consumer). z.provider) o.fact.same) was
      (All-contains (λ (z : Consumer). IfSome z.provider (λ q. IsSome (provider_at u q))) u.consumers c
      less.live.providers here)
    where
      -- by what it is attached to
      by : (o : Option ℕ) {before : Option ℕ} → o ≡ before → IsSome (option_and_then (provider_at w.topology) before)
          → IfSome o (λ q. IsSome (provider_at u q)) → IsSome (option_and_then (provider_at u) o)
      by None e was live = subst (λ z. IsSome (option_and_then (provider_at w.topology) z)) (sym e) was
      by (Some n) e was live = live

  -- a geom that is used or stands upright was so before
  used_before : (x y : Geom Config) → IsGeomOf x y
      → (y.withering ≡ false) ⊎ IsTrue (has_open_provider (granted_in w) u y)
      → (x.withering ≡ false) ⊎ IsTrue (has_open_provider (granted_in w) w.topology x)
  used_before x y is (inl stands) = inl (upright-before x y is x.withering refl stands)
  used_before x y is (inr some) =
      let p = some-passes (λ (z : Provider). not (is_zero (have (granted_in w) u z.number))) (providers_of u y.number)
      some in
      let q = of_geom w u firm less y.number p.item p.here in
      inr (any-contained (λ (z : Provider). not (is_zero (have (granted_in w) w.topology z.number)))
      (providers_of w.topology x.number) q.item
      (subst (λ n. Contains (providers_of w.topology n) q.item) (geom-number x y is) q.stands)
      (sym (ap (λ a. not (is_zero a)) (less.demand.haves p.item.number
      ∙ ap (have (granted_in w) w.topology) (provider-number q.item p.item q.fact))) ∙ p.passes))

  -- a spent consumer isn't a component of a geom that is used or stands upright
  spent_unused : (x : Geom Config) → Contains w.topology.geoms x → (x.withering ≡ false)
      ⊎ IsTrue (has_open_provider (granted_in w) w.topology x) → has_below x.config ≡ true
      → (d : Consumer) → d.geom ≡ x.number → IsSpent w d → ⊥
  spent_unused x here used below d own spent =
      let at : geom_at w.topology d.geom ≡ Some x =
      subst (λ n. geom_at w.topology n ≡ Some x) (sym own)
      (found_itself (λ (z : Geom Config). z.number) w.topology.next_geom w.topology.geoms x
      (before_order w u firm less).geoms here) in
      elim used [
        | inl stands ↦
            (let same : x ≡ spent.geom = one-found (geom_at w.topology d.geom) x spent.geom at spent.found in
            let no : true ≡ false = sym (ap (λ (z : Geom Config). z.withering) same ∙ spent.withering) ∙ stands in
            cc)
        | inr some ↦
            (let p = some-passes (λ (z : Provider). not (is_zero (have (granted_in w) w.topology z.number)))
            (providers_of w.topology x.number) some in
            zero_open (granted_in w) w.topology p.item.number
            (All-contains (λ (y : Provider). have (granted_in w) w.topology y.number ≡ no_counts)
            (providers_of w.topology x.number) p.item
            (spent-closed w d x spent at (All-contains IsOfItsClass w.topology.geoms x firm.graph.numbers.classes
            here).config below) p.here)
            p.passes)
      ]

  -- each component still stands
  components_stand : (y : Geom Config) → Contains u.geoms y → HasItsComponents (granted_in w) u y
  components_stand y here used =
      let o = less.geoms y here in
      let before = used_before o.item y o.fact used in
      let old = All-contains (HasItsComponents (granted_in w) w.topology) w.topology.geoms o.item
      firm.demand.components o.stands before in
      all_of (λ c. IsSomeAnd (consumer_at u c) (IsPart y)) (components y.config) (λ c among.
      let among_before : Contains (components o.item.config) c =
      subst (λ (z : Geom Config). Contains (components z.config) c) o.fact.same among in
      let d = found-with (consumer_at w.topology c) (IsPart o.item)
      (All-contains (λ c. IsSomeAnd (consumer_at w.topology c) (IsPart o.item))
      (components o.item.config) c old among_before) in
      elim (stays_or_spent w u firm less c d.item d.is) [
        | inl stays ↦
            some-with (consumer_at u c) (IsPart y) stays.now stays.found (
              ap (λ (z : Consumer). z.geom) stays.is.same ∙ d.fact.0 ∙ sym (geom-number o.item y o.fact),
              subst (λ (z : Consumer). IsSome z.provider) (sym stays.is.same) d.fact.1,
            )
        | inr spent ↦ absurd (spent_unused o.item o.stands before (components-below o.item.config c among_before)
            d.item d.fact.0 spent)
      ])

  -- an assembly with a free place has no provider
  less-partial : All (WaitsForPlaces u) u.geoms
  less-partial = each_geom (WaitsForPlaces w.topology) (WaitsForPlaces u) (λ x b n old free.
      let none = ap (λ (ps : List Provider). length ps) (old free) in
      nil_from_length (providers_of u x.number) (omega (arith, less.fewer x.number, none))) firm.graph.partial

  -- geoms 1 and 2 aren't automatic
  less-made : AreMade u
  less-made =
      each_geom (λ (g : Geom Config). (g.number ≡ 1) ⊎ (g.number ≡ 2) → g.automatic ≡ false)
      (λ (g : Geom Config). (g.number ≡ 1) ⊎ (g.number ≡ 2) → g.automatic ≡ false) (λ x b n fact. fact) firm.graph.made

  -- consumers are attached
  less-attached : AreAttached u
  less-attached =
      all_of (λ (c : Consumer). IsSome (option_and_then (provider_at u) c.provider)) u.consumers attached_one

  -- geoms have their components
  less-components : All (HasItsComponents (granted_in w) u) u.geoms
  less-components = all_of (HasItsComponents (granted_in w) u) u.geoms components_stand

  -- a provider below was so before
  below_before : (o : Option ℕ) (q : Provider) → option_and_then (provider_at u) o ≡ Some q → BelowBefore w.topology o q
  below_before None q found = absurd (let no : ⊥ = cc in no)
  below_before (Some n) q found = let x = provider_from w u firm less n q found in
      record { before = x.item; was = x.found; is = x.is }

  -- It is fitting

  -- configurations fit the sectors below
  fits_below : (x : Consumer) (b : Bool) → FitsBelow w.topology x → FitsBelow u (record x { spoiled = b })
  fits_below x b old =
      if-found (geom_at u x.geom) (λ g. IfSome (option_and_then (provider_at u) x.provider)
      (λ q. IsWholeIn g.config q.sector)) (λ g found.
      if-found (option_and_then (provider_at u) x.provider) (λ q. IsWholeIn g.config q.sector) (λ q under.
      let h = geom_from w u firm less x.geom g found in
      let before = below_before x.provider q under in
      subst (λ (z : Geom Config). IsWholeIn z.config q.sector) (sym h.is.same)
      (subst (λ (z : Provider). IsWholeIn h.item.config z.sector) (sym before.is.same)
      (at-found (option_and_then (provider_at w.topology) x.provider) (λ q. IsWholeIn h.item.config q.sector)
      before.before before.was (at-found (geom_at w.topology x.geom)
      (λ g. IfSome (option_and_then (provider_at w.topology) x.provider) (λ q. IsWholeIn g.config q.sector))
      h.item h.found old)))))

  -- a place still fits
  fits_place : (n : ℕ) (place : Option ℕ) (size : ℕ) → FitsPlace w.topology n place size → FitsPlace u n place size
  fits_place n None size fact = tt
  fits_place n (Some k) size fact =
      if-found (consumer_at u k) (FitsOver u n size) (λ c found own.
      if-found (option_and_then (provider_at u) c.provider) (λ q. (size ≤ q.size) × (size % q.sector ≡ 0)) (λ q under.
      let d = consumer_from w u firm less k c found in
      let b = below_before c.provider q under in
      subst (λ (z : Provider). (size ≤ z.size) × (size % z.sector ≡ 0)) (sym b.is.same)
      (at-found (option_and_then (provider_at w.topology) d.item.provider)
      (λ q. (size ≤ q.size) × (size % q.sector ≡ 0)) b.before
      (subst (λ (z : Consumer). option_and_then (provider_at w.topology) z.provider ≡ Some b.before) d.is.same b.was)
      (at-found (consumer_at w.topology k) (FitsOver w.topology n size)
      d.item d.found fact (sym (ap (λ (z : Consumer). z.geom) d.is.same) ∙ own)))))

  -- the taste asks in order
  asks : (s : Taste) → IfSome (provider_at w.topology s.provider) (λ p. IsAskedInOrder w.topology p s.asked)
      → IfSome (provider_at u s.provider) (λ p. IsAskedInOrder u p s.asked)
  asks s old =
      if-found (provider_at u s.provider) (λ p. IsAskedInOrder u p s.asked) (λ p found.
      let still = stands-still w u firm less s.provider (some-there (provider_at u s.provider) p found) in
      let same : still.provider ≡ p = one-found (provider_at u s.provider) still.provider p still.found found in
      subst (λ z. IsAskedInOrder u z s.asked) same (asked_still w.topology u still.before still.provider
      (same_facts w.topology u still.before still.provider still.is.same still.geom_before still.geom still.was_of
      still.of still.geom_is.same)
      still.is.same s.asked
      (at-found (provider_at w.topology s.provider) (λ p. IsAskedInOrder w.topology p s.asked) still.before still.was
      old)))

  -- whatever taste there is
  asks_all : (o : Option Taste) → IfSome o (λ s. IfSome (provider_at w.topology s.provider)
      (λ p. IsAskedInOrder w.topology p s.asked))
      → IfSome o (λ s. IfSome (provider_at u s.provider) (λ p. IsAskedInOrder u p s.asked))
  asks_all None old = tt
  asks_all (Some s) old = asks s old

  -- sizes fit
  less-sizes : SizesHold u w.disks
  less-sizes = record {
    disks = firm.sizes.disks;
    sectors = each_provider (λ (p : Provider). IsSectorSize p.sector) (λ x b fact. fact) firm.sizes.sectors;
    wholes = all_of (FitsBelow u) u.consumers (λ y here.
        let o = less.consumers y here in
        subst (FitsBelow u) (sym o.fact.same)
        (fits_below o.item y.spoiled
        (All-contains (FitsBelow w.topology) w.topology.consumers o.item firm.sizes.wholes o.stands)));
    places = each_geom (FitsPlaces w.topology) (FitsPlaces u) (λ x b n.
        zip_members (FitsPlace w.topology x.number) (FitsPlace u x.number) (places_of x.config) (sizes_of x.config)
        (λ a c here. fits_place x.number a c)) firm.sizes.places;
    one = each_geom (HasOneProvider w.topology) (HasOneProvider u)
        (λ x b n old concat. omega (arith, old concat, less.fewer x.number)) firm.sizes.one;
    apart = each_geom PlacesHold PlacesHold (λ x b n old. record { apart = old.apart; few = old.few }) firm.sizes.apart;
    sums = each_geom (HasItsSum w.topology) (HasItsSum u) (λ x b n old joined.
        all_of (λ p. p.size ≡ joined_size x.config) (providers_of u x.number) (λ p own.
        let q = of_geom w u firm less x.number p own in
        ap (λ (z : Provider). z.size) q.fact.same
        ∙ All-contains (λ (p : Provider). p.size ≡ joined_size x.config) (providers_of w.topology x.number) q.item
        (old joined) q.stands)) firm.sizes.sums;
  }

  -- the taste's read is of one sector
  less-read : TasteReadHolds u w.bios
  less-read = record {
    one = firm.bios.read.one;
    sector = all_of (λ x. IsTrue (is_taste_root x.owner)
        → IsSomeAnd (provider_at u x.target) (λ p. x.len ≡ p.sector)) w.bios (λ x here root.
        let s = (bio-stands w u firm less x here).target in
        let old = at-some (provider_at w.topology x.target) (λ p. x.len ≡ p.sector) s.before s.was
        (All-contains (λ x. IsTrue (is_taste_root x.owner)
        → IsSomeAnd (provider_at w.topology x.target) (λ p. x.len ≡ p.sector)) w.bios x firm.bios.read.sector
        here root) in
        some-with (provider_at u x.target) (λ p. x.len ≡ p.sector) s.provider s.found
        (old ∙ sym (ap (λ (z : Provider). z.sector) s.is.same)));
  }

  -- a firm world with a graph that has come to less is firm, where providers of geoms that wither carry errors, no
  -- consumer of DEV is marked, and the events are of providers that live
  pub less-firm : (queue : List Event) → All (λ x. IsTrue (is_withering u x.geom) → x.errored ≡ true) u.providers
      → All (λ c. c.spoiled ≡ false) (consumers_of u 1) → All (λ e. IsSome (provider_at u (provider_of_event e))) queue
      → Firm (remade w u queue)
  less-firm queue withering unmarked living = record {
    graph = record {
      ranks = less.ranks;
      providers = less-providers withering;
      numbers = less-numbers;
      made = less-made;
      parts = record { providers = less.live.offerers; consumers = less.live.geoms };
      attached = less-attached;
      partial = less-partial;
      unmarked = unmarked;
    };
    demand = record {
      counts = less-counts;
      places = less-places;
      components = less-components;
    };
    sizes = less-sizes;
    handles = less-handles;
    taste = record { living = living; order = less-taste; asked = asks_all w.taste firm.taste.asked };
    bios = record {
      numbers = firm.bios.numbers;
      order = less-bios w u firm less;
      families = less-families w u firm less;
      disks = less-disks w u firm less;
      read_out = firm.bios.read_out;
      owners = firm.bios.owners;
      results = firm.bios.results;
      read = less-read;
    };
    commands = firm.commands;
  }

-- a graph that has come to less keeps a firm world firm
pub less_is_firm : LessIsFirm
less_is_firm = record {
  itself = less-self;
  firm = λ w u queue firm less withering unmarked living. less-firm w u firm less queue withering unmarked living;
}
