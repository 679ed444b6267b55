-- The providers of a new geom, which are offered for taste one after another: what they leave as it is.
use Rattle.std.specs.Prelude.{◌≡◌, ◌≢◌, ◌⊎◌, ℕ, ◌+◌, ◌==◌, Bool, true, false, not, ◌&&◌, List, [], ◌∷◌, length, fold, Option, Some, None, All, AllPairs, Contains, IsSome, IfSome, IsTrue}
use Rattle.std.specs.List.{AllByRecursion}
use Rattle.std.proofs.Common.{inl, inr, refl, sym, ◌∙◌, ap, arith, get_or}
use Rattle.std.proofs.lemmas.Bool.{or_from}
use Rattle.std.proofs.lemmas.List.{length-append}
use Rattle.std.proofs.lemmas.List.Elements.{All-contains, All-push, All-weaker, Contains-push_cases, Contains-get_or}
use Rattle.std.proofs.lemmas.List.Quantifiers.{all_pairs_push}
use Rattle.geo_base.specs.declared.request.Counts.{Counts}
use Rattle.geo_model.specs.declared.step.Event.TheVariants as events
use Rattle.geo_model.specs.Words.{names_number, same_name}
use Rattle.geo_model.specs.Topology.{Topology, Provider, Consumer, geom_at, provider_at, providers_of, attached_to, is_name_taken, add_provider}
use Rattle.geo_model.specs.Rank.{rank}
use Rattle.geo_model.specs.Events.{QueuedTopology, provider_of_event, offer}
use Rattle.geo_model.specs.World.{Config}
use Rattle.geo_model.specs.Acceptance.{NewSlice}
use Rattle.geo_model.specs.Graph.{IsInOrder, PartsLive}
use Rattle.geo_model.specs.Sound.{RanksHold, DifferInName}
use Rattle.geo_model.proofs.DemandLemmas.{no_items}
use Rattle.geo_laws_graph.proofs.Members.{Contains-here, Contains-there, filter-Contains, All-from_contained}
use Rattle.geo_laws_graph.proofs.Lists.{found_fresh}
use Rattle.geo_laws_graph.proofs.Numbered.{any-contained}
use Rattle.geo_laws_graph.proofs.Found.{added-provider}
use Rattle.geo_laws_graph.proofs.Living.{found-before, parts-alive}
use Rattle.geo_laws_graph.proofs.RankChanges.{adding-stay}
use Rattle.geo_laws_graph.proofs.Holding.{sound-ranks}
use Rattle.geo_laws_counts.specs.CountWords.{DemandStays, AnyConsumer}
use Rattle.geo_laws_counts.proofs.Stays.{provider_came}
use Rattle.geo_laws_counts.proofs.Upward.{names_some}
use Rattle.geo_laws_life.proofs.Found.{some-there, none-there, at-found}
use Rattle.geo_laws_life.proofs.Less.{demand-trans}
use Rattle.geo_laws_life.proofs.Standers.{PairsByRecursion}
use Rattle.geo_laws_making.proofs.Over.{stays}

-- the graph and the queue with these providers of a geom, each offered
abbrev pub offered : ℕ → ℕ → QueuedTopology Config → List NewSlice → QueuedTopology Config
offered n sector q xs = fold (λ v (x : NewSlice). offer v n x.name x.size sector) q xs

-- a new provider is one of these
pub record IsOffered (n sector_size : ℕ) (xs : List NewSlice) (y : Provider) : Type 0 where
  pub slice : NewSlice
  pub here : Contains xs slice
  pub geom : y.geom ≡ n
  pub name : y.name ≡ slice.name
  pub size : y.size ≡ slice.size
  pub sector : y.sector ≡ sector_size
  pub errored : y.errored ≡ false

-- nothing is attached to the next provider, where what consumers are attached to lives
pub nothing_attached : (t : Topology Config) → IsInOrder t → PartsLive t → attached_to t t.next_provider ≡ []
nothing_attached t order live =
    no_items (attached_to t t.next_provider) (All-from_contained (λ c. ⊥) (attached_to t t.next_provider) (λ c here.
    let kept = filter-Contains (λ (x : Consumer). names_number x.provider t.next_provider) t.consumers c here in
    none-there (provider_at t t.next_provider)
    (found_fresh (λ (x : Provider). x.number) t.next_provider t.next_provider t.providers order.providers
    (omega arith))
    (at-found c.provider (λ p. IsSome (provider_at t p)) t.next_provider
    (names_some c.provider t.next_provider kept.1)
    (All-contains (λ (x : Consumer). IfSome x.provider (λ p. IsSome (provider_at t p))) t.consumers c live.providers
    kept.0))))

-- the graph is in order, its parts live, ranks are the same and hold, and demand stays
pub record KeepsGraph (granted : ℕ → Counts) (t u : Topology Config) : Type 0 where
  pub order : IsInOrder u
  pub live : PartsLive u
  pub ranks : RanksHold u
  pub same : (g : ℕ) → rank u g ≡ rank t g
  pub demand : DemandStays granted t granted u AnyConsumer

module _ (n sector : ℕ) where
  -- geoms stay
  pub offered-geoms : (xs : List NewSlice) (q : QueuedTopology Config) → (offered n sector q xs).topology.geoms
      ≡ q.topology.geoms
  offered-geoms [] q = refl
  offered-geoms (x ∷ xs) q = offered-geoms xs (offer q n x.name x.size sector)

  -- so the consumers
  pub offered-consumers : (xs : List NewSlice) (q : QueuedTopology Config)
      → (offered n sector q xs).topology.consumers ≡ q.topology.consumers
  offered-consumers [] q = refl
  offered-consumers (x ∷ xs) q = offered-consumers xs (offer q n x.name x.size sector)

  -- a provider that was found is found
  pub offered-found : (xs : List NewSlice) (q : QueuedTopology Config) (p : ℕ) (y : Provider)
      → provider_at q.topology p ≡ Some y → provider_at (offered n sector q xs).topology p ≡ Some y
  offered-found [] q p y e = e
  offered-found (x ∷ xs) q p y e =
      offered-found xs (offer q n x.name x.size sector) p y
      (found-before (λ (z : Provider). z.number == p) q.topology.providers _ y e)

  -- a provider was there before, or is a new one
  pub offered-cases : (xs : List NewSlice) (q : QueuedTopology Config) (y : Provider)
      → Contains (offered n sector q xs).topology.providers y → Contains q.topology.providers y
      ⊎ IsOffered n sector xs y
  offered-cases [] q y here = inl here
  offered-cases (x ∷ xs) q y here =
      elim (offered-cases xs (offer q n x.name x.size sector) y here) [
        | inl old ↦
            elim (Contains-push_cases q.topology.providers _ y old) [
              | inl before ↦ inl before
              | inr first ↦
                  inr (record {
                    slice = x;
                    here = Contains-here x xs;
                    geom = ap (λ (z : Provider). z.geom) (sym first);
                    name = ap (λ (z : Provider). z.name) (sym first);
                    size = ap (λ (z : Provider). z.size) (sym first);
                    sector = ap (λ (z : Provider). z.sector) (sym first);
                    errored = ap (λ (z : Provider). z.errored) (sym first);
                  })
            ]
        | inr new ↦
            inr (record {
              slice = new.slice;
              here = Contains-there x new.slice xs new.here;
              geom = new.geom;
              name = new.name;
              size = new.size;
              sector = new.sector;
              errored = new.errored;
            })
      ]

  -- other geoms have the providers that they had
  pub offered-others : (xs : List NewSlice) (q : QueuedTopology Config) (m : ℕ) → m ≢ n
      → providers_of (offered n sector q xs).topology m ≡ providers_of q.topology m
  offered-others [] q m apart = refl
  offered-others (x ∷ xs) q m apart =
      offered-others xs (offer q n x.name x.size sector) m apart
      ∙ added-provider.others_of q.topology n x.name x.size sector m apart

  -- the geom has so many more
  pub offered-number : (xs : List NewSlice) (q : QueuedTopology Config)
      → length (providers_of (offered n sector q xs).topology n) ≡ length (providers_of q.topology n) + length xs
  offered-number [] q = omega arith
  offered-number (x ∷ xs) q =
      let rest : length (providers_of (offered n sector (offer q n x.name x.size sector) xs).topology n)
      ≡ length (providers_of (add_provider q.topology n x.name x.size sector) n) + length xs =
      offered-number xs (offer q n x.name x.size sector) in
      let first : length (providers_of (add_provider q.topology n x.name x.size sector) n)
      ≡ length (providers_of q.topology n) + 1 =
      ap length (added-provider.own q.topology n x.name x.size sector)
      ∙ length-append (providers_of q.topology n) _ in
      omega arith

  -- the events are of providers that live
  pub offered-living : (xs : List NewSlice) (q : QueuedTopology Config) → IsInOrder q.topology
      → All (λ e. IsSome (provider_at q.topology (provider_of_event e))) q.events
      → All (λ e. IsSome (provider_at (offered n sector q xs).topology (provider_of_event e)))
      (offered n sector q xs).events
  offered-living [] q order living = living
  offered-living (x ∷ xs) q order living =
      let u : Topology Config = add_provider q.topology n x.name x.size sector in
      offered-living xs (offer q n x.name x.size sector)
      (added-provider.order q.topology n x.name x.size sector order)
      (All-push (λ e. IsSome (provider_at u (provider_of_event e))) q.events
      (events.NewProvider q.topology.next_provider)
      (All-weaker (λ e. IsSome (provider_at q.topology (provider_of_event e)))
      (λ e. IsSome (provider_at u (provider_of_event e)))
      (λ e. still (provider_of_event e)) q.events living)
      (some-there (provider_at u q.topology.next_provider) _
      (added-provider.new q.topology n x.name x.size sector order)))
    where
      -- one that lives does so still
      still : (p : ℕ) → IsSome (provider_at q.topology p)
          → IsSome (provider_at (add_provider q.topology n x.name x.size sector) p)
      still p = by (provider_at q.topology p) refl where
        -- by what is found
        by : (o : Option Provider) → provider_at q.topology p ≡ o → IsSome o
            → IsSome (provider_at (add_provider q.topology n x.name x.size sector) p)
        by None e there = absurd (let no : ⊥ = cc in no)
        by (Some y) e there =
            some-there (provider_at (add_provider q.topology n x.name x.size sector) p) y
            (found-before (λ (z : Provider). z.number == p) q.topology.providers _ y e)

  -- the graph keeps what it has
  pub offered-keeps : (granted : ℕ → Counts) (xs : List NewSlice) (q : QueuedTopology Config) → n ≢ 1 → n ≢ 2
      → IsSome (geom_at q.topology n) → IsInOrder q.topology → PartsLive q.topology → RanksHold q.topology
      → KeepsGraph granted q.topology (offered n sector q xs).topology
  offered-keeps granted [] q dev taste there order live ranks =
      record { order = order; live = live; ranks = ranks; same = λ g. refl; demand = stays granted q.topology }
  offered-keeps granted (x ∷ xs) q dev taste there order live ranks =
      let u : Topology Config = add_provider q.topology n x.name x.size sector in
      let rest = offered-keeps granted xs (offer q n x.name x.size sector) dev taste there
      (added-provider.order q.topology n x.name x.size sector order)
      (parts-alive.provider_added q.topology n x.name x.size sector there live)
      (sound-ranks.provider_added q.topology n x.name x.size sector (dev, taste) ranks live.geoms) in
      record {
        order = rest.order;
        live = rest.live;
        ranks = rest.ranks;
        same = λ g. rest.same g
            ∙ (adding-stay.provider q.topology n x.name x.size sector ranks.ranked live.geoms).same g;
        demand = demand-trans granted q.topology u (offered n sector (offer q n x.name x.size sector) xs).topology
            (provider_came granted q.topology n x.name x.size sector (nothing_attached q.topology order live))
            rest.demand;
      }

  -- a provider differs in name from a new one whose name is free
  free_differs : (q : QueuedTopology Config) (x : NewSlice) → is_name_taken q.topology x.name ≡ false
      → (p : Provider) → Contains q.topology.providers p
      → IsTrue (not (not p.errored && same_name p.name x.name))
  free_differs q x free p here = by (not p.errored && same_name p.name x.name) refl where
    -- it hasn't the name, or carries an error
    by : (b : Bool) → (not p.errored && same_name p.name x.name) ≡ b
        → IsTrue (not (not p.errored && same_name p.name x.name))
    by true e =
        let taken : is_name_taken q.topology x.name ≡ true =
        any-contained (λ (z : Provider). not z.errored && same_name z.name x.name) q.topology.providers p here e in
        absurd (let no : ⊥ = cc in no)
    by false e = ap not e

  -- providers with new names all differ
  pub offered-names : (xs : List NewSlice) (q : QueuedTopology Config)
      → AllByRecursion (λ (x : NewSlice). is_name_taken q.topology x.name ≡ false) xs
      → PairsByRecursion (λ (x y : NewSlice). same_name x.name y.name ≡ false) xs
      → AllPairs DifferInName q.topology.providers
      → AllPairs DifferInName (offered n sector q xs).topology.providers
  offered-names [] q free apart differ = differ
  offered-names (x ∷ xs) q free apart differ =
      offered-names xs (offer q n x.name x.size sector) (still_free xs free.1 apart.0) apart.1
      (all_pairs_push DifferInName q.topology.providers _ differ (λ k d short.
      free_differs q x free.0 (get_or q.topology.providers k d) (Contains-get_or q.topology.providers k d short)))
    where
      -- the other names are free still
      still_free : (ys : List NewSlice) → AllByRecursion (λ (y : NewSlice). is_name_taken q.topology y.name
          ≡ false) ys
          → AllByRecursion (λ (y : NewSlice). same_name x.name y.name ≡ false) ys
          → AllByRecursion (λ (y : NewSlice). is_name_taken (add_provider q.topology n x.name x.size sector)
          y.name ≡ false) ys
      still_free [] free apart = tt
      still_free (y ∷ ys) free apart = (
        added-provider.taken q.topology n x.name x.size sector y.name
            ∙ or_from (is_name_taken q.topology y.name) (same_name x.name y.name) free.0 apart.0,
        still_free ys free.1 apart.1,
      )
