-- What a wash finds can go, and the world after it is firm.
use Rattle.std.specs.Prelude.{◌≡◌, ◌≢◌, ◌⊎◌, ℕ, ◌≤◌, ◌==◌, Bool, true, false, not, List, [], length, map, Option, Some, None, All, Contains, IsSome, IsTrue, ◌&&◌, ◌∷◌, filter, find, if◌then◌else◌, Ok, Err}
use Rattle.std.specs.Option.{option_map_or, option_map, option_or, option_and_then}
use Rattle.std.proofs.Common.{inl, inr, refl, sym, ◌∙◌, ap, subst, arith, le_refl}
use Rattle.std.proofs.lemmas.Bool.{eqb-true, eq-eqb, ne_eqb, cases_eq, and_parts, and_from}
use Rattle.std.proofs.lemmas.List.Elements.{All-contains, All-filter}
use Rattle.std.specs.List.{AllByRecursion}
use Rattle.std.proofs.lemmas.List.{nil_from_length}
use Rattle.geo_model.specs.declared.step.Event.{Event}
use Rattle.geo_model.specs.Words.{is_granted_kind, is_read}
use Rattle.geo_model.specs.Topology.{Topology, Geom, Provider, Consumer, geom_at, provider_at, consumer_at, attached_to, providers_of, consumers_of, is_withering, remove_geom, remove_provider, remove_consumer, geom_of_provider, geom_of_consumer}
use Rattle.geo_model.specs.Demand.{have, want, want_of_kind, no_counts, is_zero}
use Rattle.geo_model.specs.Events.{provider_of_event, without_events_of}
use Rattle.geo_model.specs.World.{World, Config, granted_in, Bio, is_active}
use Rattle.geo_model.specs.Graph.{IsInOrder, PartsLive}
use Rattle.geo_model.specs.Sound.{IsOfItsClass, StandsBare}
use Rattle.geo_model.specs.Fitting.{Firm}
use Rattle.geo_model.proofs.Options.{some_and_of}
use Rattle.geo_model.proofs.FindLists.{some-passes}
use Rattle.geo_model.specs.declared.step.Entry.{Entry}
use Rattle.geo_model.specs.declared.step.Step.TheVariants as steps
use Rattle.geo_model.specs.declared.step.WashWork.{WashWork}
use Rattle.geo_model.specs.declared.step.WashWork.TheVariants as washes
use Rattle.geo_model.specs.Freeing.{free_provider, free_consumer, free_geom, is_idle, wash_work_of, first_wash, wash_work, wash, is_of_geom, Free}
use Rattle.geo_model.specs.declared.step.Found.TheVariants as refusals
use Rattle.geo_model.specs.declared.step.Outcome.TheVariants as outcomes
use Rattle.geo_model.specs.Log.{after_entry, world_after}
use Rattle.geo_model.specs.Step.{Answer, step, wash_next}
use Rattle.geo_model.specs.SoundBios.{IsBioInOrder, HasCountFor}
use Rattle.geo_model.proofs.DemandLemmas.{find_passes}
use Rattle.geo_laws_graph.proofs.Classes.{not_granted}
use Rattle.geo_laws_graph.proofs.Members.{find-Contains, All-from_contained, Contains-filter, filter-Contains, nothing_in, has}
use Rattle.geo_laws_graph.proofs.Lists.{found_itself}
use Rattle.geo_laws_graph.proofs.Numbered.{number_found, any-contained}
use Rattle.geo_laws_graph.proofs.Found.{removed-geom, removed-provider, removed-consumer}
use Rattle.geo_laws_graph.proofs.Living.{sound-order, steady-parts, parts-alive, remove_consumer-geoms, remove_consumer-providers}
use Rattle.geo_laws_graph.specs.RankLaws.{RanksStay}
use Rattle.geo_laws_graph.proofs.EdgeRanks.{ranked-live, fewer-edges}
use Rattle.geo_laws_graph.proofs.Attaching.{removed-edges}
use Rattle.geo_laws_graph.proofs.RankChanges.{removing-stay}
use Rattle.geo_laws_graph.proofs.Holding.{sound-ranks}
use Rattle.geo_laws_counts.specs.CountWords.{DemandStays, AnyConsumer}
use Rattle.geo_laws_counts.proofs.BareParts.{length-kept}
use Rattle.geo_laws_counts.proofs.Counters.{nothing_above}
use Rattle.geo_laws_counts.proofs.LimitFacts.{all_of}
use Rattle.geo_laws_counts.proofs.Numbers.{numbers_lead}
use Rattle.geo_laws_counts.proofs.Stays.{want_from, geom_went, provider_went, consumers_went}
use Rattle.geo_laws_counts.proofs.Sums.{zero-test}
use Rattle.geo_laws_life.proofs.Found.{some-there, one-found, keeps_all, passes_apart, FoundWith, found-with}
use Rattle.geo_laws_life.specs.LessLaws.{IsGeomOf, IsProviderOf, IsConsumerOf, IsSpent, IsLess}
use Rattle.geo_laws_life.proofs.Less.{same_tasting, tasting_stays, kept-from, geom-self, provider-self, consumer-self, less-self, bio-stands, no_count}
use Rattle.geo_laws_life.proofs.LessFitting.{never_spent, less-firm}
use Rattle.geo_laws_life.specs.WashLaws.{FreesIdle, WashesKeepFirm, WashStepKeepsFirm}

-- a bare geom that withers
pub record IsBareGeom (w : World) (g : ℕ) : Type 0 where
  pub geom : Geom Config
  pub found : geom_at w.topology g ≡ Some geom
  pub withering : geom.withering ≡ true
  pub no_provider : providers_of w.topology g ≡ []
  pub no_consumer : consumers_of w.topology g ≡ []

module _ (w : World) (firm : Firm w) where
  -- the graph before
  abbrev t : Topology Config
  t = w.topology

  -- it stands in order
  order : IsInOrder t
  order = sound-order w firm.graph.numbers

  -- and what its parts name lives
  live : PartsLive t
  live = steady-parts t firm.graph.parts firm.graph.attached

  -- a consumer that stands is found
  consumer_there : (x : Consumer) → Contains t.consumers x → IsSome (consumer_at t x.number)
  consumer_there x here = some-there (consumer_at t x.number) x
      (found_itself (λ (y : Consumer). y.number) t.next_consumer t.consumers x order.consumers here)

  -- A provider

  -- without a provider to which nothing is attached
  less-without_provider : (p : ℕ) → attached_to t p ≡ [] → IsLess w (remove_provider t p)
  less-without_provider p none = record {
    order = removed-provider.order t p order;
    ranks = sound-ranks.provider_removed t p firm.graph.ranks live.geoms none;
    lower = λ g. omega (arith, (removing-stay.provider t p firm.graph.ranks.ranked live.geoms none).same g);
    demand = provider_went (granted_in w) t p none;
    live = parts-alive.provider_removed t p none live;
    geoms = λ y here. record { item = y; stands = here; fact = geom-self y };
    providers = kept-from IsProviderOf provider-self (λ (x : Provider). not (x.number == p)) t.providers;
    consumers = λ y here. record { item = y; stands = here; fact = consumer-self y };
    fewer = λ g. subst (λ (ps : List Provider). length ps ≤ length (providers_of t g)) (sym (removed-provider.of t p g))
        (length-kept (λ (x : Provider). not (x.number == p)) (providers_of t g));
    stay = λ x here. inl (consumer_there x here);
    tasting = same_tasting t (remove_provider t p) refl w.taste firm.handles.taste;
  }

  -- so the world is firm, without the events of that provider
  without_provider-firm : (p : ℕ) → attached_to t p ≡ []
      → Firm (record w { topology = remove_provider t p; events = without_events_of w.events p })
  without_provider-firm p none =
      less-firm w (remove_provider t p) firm (less-without_provider p none) (without_events_of w.events p)
      (All-filter (λ (x : Provider). not (x.number == p))
      (λ (x : Provider). IsTrue (is_withering t x.geom) → x.errored ≡ true) t.providers
      firm.graph.providers.withering)
      firm.graph.unmarked (all_of (λ (e : Event). IsSome (provider_at (remove_provider t p) (provider_of_event e)))
      (without_events_of w.events p) (λ e here.
      let kept = filter-Contains (λ (e : Event). not (provider_of_event e == p)) w.events e here in
      subst (λ o. IsSome o) (sym (removed-provider.others t p (provider_of_event e)
      (passes_apart (provider_of_event e) p kept.1)))
      (All-contains (λ (e : Event). IsSome (provider_at t (provider_of_event e))) w.events e firm.taste.living
      kept.0)))

  -- A consumer

  module _ (c : ℕ) (x : Consumer) (found : consumer_at t c ≡ Some x) (spent : IsSpent w x) where
    -- the one of that number is it
    is_it : (y : Consumer) → Contains t.consumers y → y.number ≡ c → y ≡ x
    is_it y here same =
        one-found (consumer_at t c) y x (subst (λ n. consumer_at t n ≡ Some y) same
        (found_itself (λ (z : Consumer). z.number) t.next_consumer t.consumers y order.consumers here)) found

    -- who goes wants nothing
    quiet : (y : Consumer) → Contains t.consumers y → not (y.number == c) ≡ false → want (granted_in w) t y ≡ no_counts
    quiet y here gone = ap (want (granted_in w) t) (is_it y here (its_number (y.number == c) refl)) ∙ spent.idle where
      -- its number is the one
      its_number : (b : Bool) → (y.number == c) ≡ b → y.number ≡ c
      its_number true e = eqb-true y.number c e
      its_number false e = let no : true ≡ false = sym (ap not e) ∙ gone in absurd (let bad : ⊥ = cc in bad)

    -- the consumer isn't of a geom that stands bare
    not_bare : (n : ℕ) → StandsBare t n → x.geom ≢ n
    not_bare n bare own = never_spent w t firm (less-self w firm) n bare x own spent

    -- each other consumer stays
    others_stay : (y : Consumer) → Contains t.consumers y → (y.number ≡ c) ⊎ (y.number ≢ c)
        → IsSome (consumer_at (remove_consumer t c) y.number) ⊎ IsSpent w y
    others_stay y here (inl same) = inr (subst (IsSpent w) (sym (is_it y here same)) spent)
    others_stay y here (inr other) = inl (subst (λ o. IsSome o) (sym (removed-consumer.others t c y.number other))
        (consumer_there y here))

    -- TASTE has the consumers that it had
    taste_stays : consumers_of (remove_consumer t c) 2 ≡ consumers_of t 2
    taste_stays =
        removed-consumer.of t c 2 ∙ keeps_all (λ (y : Consumer). not (y.number == c)) (consumers_of t 2)
        (All-from_contained (λ (y : Consumer). not (y.number == c) ≡ true) (consumers_of t 2) (λ y here.
        let kept = filter-Contains (λ (z : Consumer). z.geom == 2) t.consumers y here in
        ap not (ne_eqb y.number c (λ same. not_bare 2 firm.graph.ranks.taste
        (sym (ap (λ (z : Consumer). z.geom) (is_it y kept.0 same)) ∙ eqb-true y.geom 2 kept.1)))))

    -- without a consumer of a geom that withers, which holds no count
    less-without_consumer : IsLess w (remove_consumer t c)
    less-without_consumer =
        let fewer = fewer-edges t (remove_consumer t c) firm.graph.ranks.ranked (remove_consumer-geoms t c live.geoms)
        (remove_consumer-providers t c (ranked-live t firm.graph.ranks.ranked)) (removed-edges t c) in
        record {
          order = removed-consumer.order t c order;
          ranks = sound-ranks.consumer_removed t c firm.graph.ranks live.geoms;
          lower = fewer.1;
          demand = consumers_went (granted_in w) t (λ (y : Consumer). not (y.number == c))
              (all_of (λ (y : Consumer). not (y.number == c) ≡ false → want (granted_in w) t y ≡ no_counts)
              t.consumers quiet);
          live = parts-alive.consumer_removed t c live;
          geoms = λ y here. record { item = y; stands = here; fact = geom-self y };
          providers = λ y here. record { item = y; stands = here; fact = provider-self y };
          consumers = kept-from IsConsumerOf consumer-self (λ (z : Consumer). not (z.number == c)) t.consumers;
          fewer = λ g. le_refl (length (providers_of t g));
          stay = λ y here. others_stay y here (cases_eq y.number c);
          tasting = tasting_stays t (remove_consumer t c) taste_stays w.taste firm.handles.taste;
        }

    -- so the world is firm
    without_consumer-firm : Firm (record w { topology = remove_consumer t c })
    without_consumer-firm =
        less-firm w (remove_consumer t c) firm less-without_consumer w.events firm.graph.providers.withering
        (subst (All (λ (y : Consumer). y.spoiled ≡ false)) (sym (removed-consumer.of t c 1))
        (All-filter (λ (y : Consumer). not (y.number == c)) (λ (y : Consumer). y.spoiled ≡ false) (consumers_of t 1)
        firm.graph.unmarked))
        firm.taste.living

  -- A geom

  module _ (g : ℕ) (bare : IsBareGeom w g) where
    -- a geom that withers isn't one that stands upright
    not_upright : (n : ℕ) → StandsBare t n → g ≢ n
    not_upright n stands same =
        let upright = some_and_of (λ (x : Geom Config). x.withering ≡ false) (geom_at t n) stands.stands in
        let one : bare.geom ≡ upright.0 = one-found (geom_at t n) bare.geom upright.0
        (subst (λ m. geom_at t m ≡ Some bare.geom) same bare.found) upright.1 in
        let no : true ≡ false = sym bare.withering ∙ ap (λ (z : Geom Config). z.withering) one ∙ upright.2 in
        cc

    -- no consumer is of it
    no_consumer : (y : Consumer) → Contains t.consumers y → y.geom ≢ g
    no_consumer y here own =
        nothing_in y (subst (λ ys. Contains ys y) bare.no_consumer
        (Contains-filter (λ (z : Consumer). z.geom == g) t.consumers y here (eq-eqb y.geom g own)))

    -- nor is a provider
    no_provider : (y : Provider) → Contains t.providers y → y.geom ≢ g
    no_provider y here own =
        nothing_in y (subst (λ ys. Contains ys y) bare.no_provider
        (Contains-filter (λ (z : Provider). z.geom == g) t.providers y here (eq-eqb y.geom g own)))

    -- ranks stay
    ranks_stay : RanksStay t (remove_geom t g)
    ranks_stay = removing-stay.geom t g firm.graph.ranks.ranked live.geoms bare.no_consumer

    -- its class isn't DEV's or TASTE's
    middle : is_granted_kind bare.geom.kind ≡ false
    middle =
        let class : IsOfItsClass bare.geom = All-contains IsOfItsClass t.geoms bare.geom firm.graph.numbers.classes
        (find-Contains (λ (z : Geom Config). z.number == g) t.geoms bare.geom bare.found) in
        let number : bare.geom.number ≡ g = number_found (λ (z : Geom Config). z.number) t.geoms g bare.geom
        bare.found in
        not_granted bare.geom class
        (λ same. not_upright 1 firm.graph.ranks.dev (sym number ∙ same))
        (λ same. not_upright 2 firm.graph.ranks.taste (sym number ∙ same))

    -- all demand stays
    demand_stays : DemandStays (granted_in w) t (granted_in w) (remove_geom t g) AnyConsumer
    demand_stays =
        let went = geom_went (granted_in w) t g ranks_stay.ranked (numbers_lead t order.providers.0)
        (all_of (λ (y : Consumer). y.geom ≢ g) t.consumers no_consumer) in
        record {
          haves = went.haves;
          wants = λ c any. wants went.haves c (cases_eq c.geom g);
          exclusive = went.exclusive;
          limit = went.limit;
        }
      where
        -- what a consumer would want
        wants : ((p : ℕ) → have (granted_in w) (remove_geom t g) p ≡ have (granted_in w) t p) → (c : Consumer)
            → (c.geom ≡ g) ⊎ (c.geom ≢ g) → want (granted_in w) (remove_geom t g) c ≡ want (granted_in w) t c
        wants haves c (inl own) =
            let gone : geom_at (remove_geom t g) c.geom ≡ None =
            subst (λ n. geom_at (remove_geom t g) n ≡ None) (sym own) (removed-geom.gone t g) in
            let number : bare.geom.number ≡ g =
            number_found (λ (z : Geom Config). z.number) t.geoms g bare.geom bare.found in
            ap (λ (o : Option (Geom Config)). option_map_or
            (λ x. want_of_kind x.kind (map (λ (y : Provider). have (granted_in w) (remove_geom t g) y.number)
            (providers_of t x.number)) (granted_in w c.number)) o no_counts) gone
            ∙ sym (nothing_above (granted_in w) t c bare.geom
            (subst (λ n. geom_at t n ≡ Some bare.geom) (sym own) bare.found) middle
            (subst (All (λ (y : Provider). have (granted_in w) t y.number ≡ no_counts))
            (sym (ap (providers_of t) number ∙ bare.no_provider)) (λ k d short. absurd (omega (arith, short)))))
        wants haves c (inr other) =
            want_from (granted_in w) t (granted_in w) (remove_geom t g) haves c
            (ap (λ (o : Option (Geom Config)). option_map_or
            (λ x. want_of_kind x.kind (map (λ (y : Provider). have (granted_in w) t y.number)
            (providers_of t x.number)) (granted_in w c.number)) o no_counts) (removed-geom.others t g c.geom other))

    -- without a geom that has nothing
    less-without_geom : IsLess w (remove_geom t g)
    less-without_geom = record {
      order = removed-geom.order t g order;
      ranks = sound-ranks.geom_removed t g (not_upright 1 firm.graph.ranks.dev, not_upright 2 firm.graph.ranks.taste)
          firm.graph.ranks live.geoms bare.no_consumer;
      lower = λ h. omega (arith, ranks_stay.same h);
      demand = demand_stays;
      live = parts-alive.geom_removed t g bare.no_provider bare.no_consumer live;
      geoms = kept-from IsGeomOf geom-self (λ (z : Geom Config). not (z.number == g)) t.geoms;
      providers = λ y here. record { item = y; stands = here; fact = provider-self y };
      consumers = λ y here. record { item = y; stands = here; fact = consumer-self y };
      fewer = λ h. le_refl (length (providers_of t h));
      stay = λ x here. inl (consumer_there x here);
      tasting = same_tasting t (remove_geom t g) refl w.taste firm.handles.taste;
    }

    -- so the world is firm
    without_geom-firm : Firm (record w { topology = remove_geom t g })
    without_geom-firm =
        less-firm w (remove_geom t g) firm less-without_geom w.events
        (all_of (λ (x : Provider). IsTrue (is_withering (remove_geom t g) x.geom) → x.errored ≡ true) t.providers
        (λ x here withers.
        All-contains (λ (x : Provider). IsTrue (is_withering t x.geom) → x.errored ≡ true) t.providers x
        firm.graph.providers.withering here (sym (removed-geom.withering t g x.geom (no_provider x here)) ∙ withers)))
        firm.graph.unmarked firm.taste.living

-- What a wash finds can go, and the world after it is firm.

-- what can go: a provider with nothing attached, a consumer that is spent, a geom that is bare
abbrev pub CanWash : World → WashWork → Type 0
CanWash w (washes.Provider p) = attached_to w.topology p ≡ []
CanWash w (washes.Consumer c) = FoundWith (consumer_at w.topology c) (IsSpent w)
CanWash w (washes.Geom g) = IsBareGeom w g

-- the world after it is firm
pub washed-firm : (w : World) (work : WashWork) → CanWash w work → Firm w → Firm (wash w work)
unfolding wash
washed-firm w (washes.Provider p) can firm = without_provider-firm w firm p can
washed-firm w (washes.Consumer c) can firm = without_consumer-firm w firm c can.item can.is can.fact
washed-firm w (washes.Geom g) can firm = without_geom-firm w firm g can

-- What a wash finds

-- one of two that is there
either_of : {X : Type 0} (a b : Option X) (x : X) → option_or a b ≡ Some x → (a ≡ Some x) ⊎ (b ≡ Some x)
either_of None b x e = inr e
either_of (Some y) b x e = inl e

-- what is made of a thing that is found
made_of : {X Y : Type 0} (f : X → Y) (o : Option X) (y : Y) → option_map f o ≡ Some y → (x : X) × (o ≡ Some x)
    × (f x ≡ y)
made_of f None y e = absurd (let no : ⊥ = cc in no)
made_of f (Some x) y e = (x, refl, (let same : f x ≡ y = cc in same))

module _ (w : World) (firm : Firm w) where
  -- the graph
  abbrev u : Topology Config
  u = w.topology

  module _ (g : Geom Config) (here : Contains u.geoms g) (withers : g.withering ≡ true) where
    -- the geom is found
    found_here : geom_at u g.number ≡ Some g
    found_here = found_itself (λ (z : Geom Config). z.number) u.next_geom u.geoms g firm.graph.numbers.geoms here

    -- a provider that is found has nothing attached
    provider_can : (work : WashWork) → free_provider (granted_in w) (is_active w) u g ≡ Some work → CanWash w work
    provider_can work e =
        let p = made_of (λ (p : Provider). washes.Provider p.number)
        (find (λ (p : Provider). length (attached_to u p.number) == 0) (providers_of u g.number)) work e in
        subst (CanWash w) p.2
        (nil_from_length (attached_to u p.0.number)
        (eqb-true (length (attached_to u p.0.number)) 0
        (find_passes (λ (p : Provider). length (attached_to u p.number) == 0) (providers_of u g.number) p.0 p.1)))

    -- a consumer that is found is spent
    consumer_can : (work : WashWork) → free_consumer (granted_in w) (is_active w) u g ≡ Some work → CanWash w work
    consumer_can work e =
        let c = made_of (λ (c : Consumer). washes.Consumer c.number)
        (find (is_idle (granted_in w) (is_active w) u) (consumers_of u g.number)) work e in
        let kept = filter-Contains (λ (z : Consumer). z.geom == g.number) u.consumers c.0
        (find-Contains (is_idle (granted_in w) (is_active w) u) (consumers_of u g.number) c.0 c.1) in
        let idle : is_zero (want (granted_in w) u c.0) ≡ true =
        (and_parts (is_zero (want (granted_in w) u c.0)) (not (is_active w c.0.number))
        (find_passes (is_idle (granted_in w) (is_active w) u) (consumers_of u g.number) c.0 c.1)).0 in
        subst (CanWash w) c.2 (record {
          item = c.0;
          is = found_itself (λ (z : Consumer). z.number) u.next_consumer u.consumers c.0 firm.graph.numbers.consumers
              kept.0;
          fact = record {
            geom = g;
            found = subst (λ n. geom_at u n ≡ Some g) (sym (eqb-true c.0.geom g.number kept.1)) found_here;
            withering = withers;
            idle = zero-test (want (granted_in w) u c.0) idle;
          };
        })

    -- a geom that is found is bare
    geom_can_if : (b : Bool) (work : WashWork)
        → ((length (providers_of u g.number) == 0) && (length (consumers_of u g.number) == 0)) ≡ b
        → (if b then Some (washes.Geom g.number) else None) ≡ Some work → CanWash w work
    geom_can_if false work test e = absurd (let no : ⊥ = cc in no)
    geom_can_if true work test e =
        let same : washes.Geom g.number ≡ work = cc in
        let both = and_parts (length (providers_of u g.number) == 0) (length (consumers_of u g.number) == 0) test in
        subst (CanWash w) same (record {
          geom = g;
          found = found_here;
          withering = withers;
          no_provider =
              nil_from_length (providers_of u g.number) (eqb-true (length (providers_of u g.number)) 0 both.0);
          no_consumer =
              nil_from_length (consumers_of u g.number) (eqb-true (length (consumers_of u g.number)) 0 both.1);
        })

    -- so for the geom's test
    geom_can : (work : WashWork) → free_geom (granted_in w) (is_active w) u g ≡ Some work → CanWash w work
    geom_can work e = geom_can_if ((length (providers_of u g.number) == 0) && (length (consumers_of u g.number) == 0))
        work refl e

    -- what is found of the geom first
    work_can : (work : WashWork) → wash_work_of (granted_in w) (is_active w) u g ≡ Some work → CanWash w work
    work_can work e =
        elim (either_of (free_provider (granted_in w) (is_active w) u g) _ work e) [
          | inl p ↦ provider_can work p
          | inr rest ↦
              elim (either_of (free_consumer (granted_in w) (is_active w) u g) _ work rest) [
                | inl c ↦ consumer_can work c
                | inr last ↦
                    elim (either_of (free_geom (granted_in w) (is_active w) u g) None work last) [
                      | inl geom ↦ geom_can work geom
                      | inr none ↦ absurd (let no : ⊥ = cc in no)
                    ]
              ]
        ]

  -- the first that is found in some geoms that wither
  first_can : (gs : List (Geom Config)) (work : WashWork)
      → AllByRecursion (λ (g : Geom Config). Contains u.geoms g × (g.withering ≡ true)) gs
      → first_wash (granted_in w) (is_active w) u gs ≡ Some work → CanWash w work
  first_can [] work facts e = absurd (let no : ⊥ = cc in no)
  first_can (g ∷ gs) work facts e =
      elim (either_of (wash_work_of (granted_in w) (is_active w) u g) (first_wash (granted_in w) (is_active w) u gs)
      work e) [
        | inl first ↦ work_can g facts.0.0 facts.0.1 work first
        | inr rest ↦ first_can gs work facts.1 rest
      ]

  -- what a wash finds can go
  pub found-can : (work : WashWork) → wash_work w ≡ Some work → CanWash w work
  unfolding wash_work
  found-can work e =
      first_can (filter (λ (g : Geom Config). g.withering) u.geoms) work
      (All-from_contained (λ (g : Geom Config). Contains u.geoms g × (g.withering ≡ true))
      (filter (λ (g : Geom Config). g.withering) u.geoms)
      (λ g here. filter-Contains (λ (g : Geom Config). g.withering) u.geoms g here)) e

  -- What goes was idle

  -- what is there isn't gone
  not_gone : {X : Type 0} {A : Type 0} (o : Option X) → IsSome o → o ≡ None → A
  not_gone o there gone = let no : false ≡ true = subst (λ z. IsSome z) gone there in absurd (let bad : ⊥ = cc in bad)

  -- each part that stands is found
  provider_there : (p : Provider) → Contains u.providers p → IsSome (provider_at u p.number)
  provider_there p here = some-there (provider_at u p.number) p
      (found_itself (λ (z : Provider). z.number) u.next_provider u.providers p firm.graph.numbers.providers here)

  -- no bio is from a spent consumer
  no_bio_from : (c : ℕ) (d : Consumer) → consumer_at u c ≡ Some d → IsSpent w d → (x : Bio) → Contains w.bios x
      → x.source ≢ c
  no_bio_from c d found spent x here same =
      let s = found-with (consumer_at u x.source) (λ z. (z.provider ≡ Some x.target) × HasCountFor (granted_in w) u x z)
      (All-contains (IsBioInOrder (granted_in w) u) w.bios x firm.bios.order here).source in
      let one : s.item ≡ d = one-found (consumer_at u c) s.item d
      (subst (λ n. consumer_at u n ≡ Some s.item) same s.is) found in
      let idle : want (granted_in w) u s.item ≡ no_counts = ap (want (granted_in w) u) one ∙ spent.idle in
      no_count (is_read x.cmd) (want (granted_in w) u s.item).r (want (granted_in w) u s.item).w (ap (λ a. a.r) idle)
      (ap (λ a. a.w) idle) s.fact.1

  -- no bio is to or from a part of a bare geom
  no_bio_at : (g : ℕ) → IsBareGeom w g → (x : Bio) → Contains w.bios x
      → IsTrue (not (is_of_geom (geom_of_consumer u x.source) g) && not (is_of_geom (geom_of_provider u x.target) g))
  no_bio_at g bare x here =
      let s = bio-stands w u firm (less-self w firm) x here in
      let in_graph : Contains u.consumers s.source =
      find-Contains (λ (z : Consumer). z.number == x.source) u.consumers s.source s.found in
      let its = has (geom_at u s.source.geom)
      (All-contains (λ (z : Consumer). IsSome (geom_at u z.geom)) u.consumers s.source firm.graph.parts.consumers
      in_graph) in
      let of_source : geom_of_consumer u x.source ≡ Some its.item =
      ap (option_and_then (λ (z : Consumer). geom_at u z.geom)) s.found ∙ its.is in
      let of_target : geom_of_provider u x.target ≡ Some s.target.geom =
      ap (option_and_then (λ (z : Provider). geom_at u z.geom)) s.target.found ∙ s.target.of in
      and_from (not (is_of_geom (geom_of_consumer u x.source) g)) (not (is_of_geom (geom_of_provider u x.target) g))
      (ap (λ o. not (is_of_geom o g)) of_source
      ∙ ap not (ne_eqb its.item.number g (λ same. no_consumer w firm g bare s.source in_graph
      (sym (number_found (λ (z : Geom Config). z.number) u.geoms s.source.geom its.item its.is) ∙ same))))
      (ap (λ o. not (is_of_geom o g)) of_target
      ∙ ap not (ne_eqb s.target.geom.number g (λ same. no_provider w firm g bare s.target.provider
      (find-Contains (λ (z : Provider). z.number == x.target) u.providers s.target.provider s.target.found)
      (sym (number_found (λ (z : Geom Config). z.number) u.geoms s.target.provider.geom s.target.geom s.target.of)
      ∙ same))))

  -- a bare geom is free
  bare_free : (g : ℕ) → IsBareGeom w g → Free w g
  bare_free g bare = record {
    not_dev = not_upright w firm g bare 1 firm.graph.ranks.dev;
    not_taste = not_upright w firm g bare 2 firm.graph.ranks.taste;
    withering = any-contained (λ (z : Geom Config). (z.number == g) && z.withering) u.geoms bare.geom
        (find-Contains (λ (z : Geom Config). z.number == g) u.geoms bare.geom bare.found)
        (and_from (bare.geom.number == g) bare.geom.withering
        (find_passes (λ (z : Geom Config). z.number == g) u.geoms bare.geom bare.found) bare.withering);
    no_provider = bare.no_provider;
    no_consumer = bare.no_consumer;
    no_bio = all_of (λ x. IsTrue (not (is_of_geom (geom_of_consumer u x.source) g) && not
        (is_of_geom (geom_of_provider u x.target) g))) w.bios (no_bio_at g bare);
  }

  -- what a wash destroys was idle
  washed-idle : (work : WashWork) → CanWash w work → FreesIdle w (wash w work)
  unfolding wash
  washed-idle (washes.Provider p) can = record {
    consumers = λ c here gone. not_gone (consumer_at u c.number) (consumer_there w firm c here) gone;
    providers = λ q here gone. provider_idle q here gone (cases_eq q.number p);
    geoms = λ g there gone. not_gone (geom_at u g) there gone;
  }
    where
      -- only that provider goes
      provider_idle : (q : Provider) → Contains u.providers q → provider_at (remove_provider u p) q.number ≡ None
          → (q.number ≡ p) ⊎ (q.number ≢ p) → attached_to u q.number ≡ []
      provider_idle q here gone (inl same) = ap (attached_to u) same ∙ can
      provider_idle q here gone (inr other) =
          not_gone (provider_at u q.number) (provider_there q here)
          (sym (removed-provider.others u p q.number other) ∙ gone)
  washed-idle (washes.Consumer c) can = record {
    consumers = λ d here gone. consumer_idle d here gone (cases_eq d.number c);
    providers = λ q here gone. not_gone (provider_at u q.number) (provider_there q here) gone;
    geoms = λ g there gone. not_gone (geom_at u g) there gone;
  }
    where
      -- only that consumer goes
      consumer_idle : (d : Consumer) → Contains u.consumers d → consumer_at (remove_consumer u c) d.number ≡ None
          → (d.number ≡ c) ⊎ (d.number ≢ c)
          → All (λ x. x.source ≢ d.number) w.bios × IsTrue (is_zero (want (granted_in w) u d))
      consumer_idle d here gone (inl same) =
          let found : consumer_at u d.number ≡ Some d =
          found_itself (λ (z : Consumer). z.number) u.next_consumer u.consumers d firm.graph.numbers.consumers
          here in
          let one : can.item ≡ d = one-found (consumer_at u d.number) can.item d
          (subst (λ n. consumer_at u n ≡ Some can.item) (sym same) can.is) found in
          let spent : IsSpent w d = subst (IsSpent w) one can.fact in
          (all_of (λ x. x.source ≢ d.number) w.bios (no_bio_from d.number d found spent), ap is_zero spent.idle)
      consumer_idle d here gone (inr other) =
          not_gone (consumer_at u d.number) (consumer_there w firm d here)
          (sym (removed-consumer.others u c d.number other) ∙ gone)
  washed-idle (washes.Geom g) can = record {
    consumers = λ c here gone. not_gone (consumer_at u c.number) (consumer_there w firm c here) gone;
    providers = λ q here gone. not_gone (provider_at u q.number) (provider_there q here) gone;
    geoms = λ h there gone. geom_idle h there gone (cases_eq h g);
  }
    where
      -- only that geom goes
      geom_idle : (h : ℕ) → IsSome (geom_at u h) → geom_at (remove_geom u g) h ≡ None → (h ≡ g) ⊎ (h ≢ g) → Free w h
      geom_idle h there gone (inl same) = subst (Free w) (sym same) (bare_free g can)
      geom_idle h there gone (inr other) = not_gone (geom_at u h) there (sym (removed-geom.others u g h other) ∙ gone)

-- a geom that withers is found so
withering_there : (w : World) → Firm w → (n : ℕ) → is_withering w.topology n ≡ true → (g : Geom Config)
    × (geom_at w.topology n ≡ Some g) × (g.withering ≡ true)
withering_there w firm n withers =
    let p = some-passes (λ (z : Geom Config). (z.number == n) && z.withering) w.topology.geoms withers in
    let both = and_parts (p.item.number == n) p.item.withering p.passes in (
      p.item,
      subst (λ m. geom_at w.topology m ≡ Some p.item) (eqb-true p.item.number n both.0)
          (found_itself (λ (z : Geom Config). z.number) w.topology.next_geom w.topology.geoms p.item
          firm.graph.numbers.geoms p.here),
      both.1,
    )

-- a free geom is bare
free_bare : (w : World) (g : ℕ) → Firm w → Free w g → IsBareGeom w g
free_bare w g firm free =
    let x = withering_there w firm g free.withering in
    record { geom = x.0; found = x.1; withering = x.2; no_provider = free.no_provider; no_consumer = free.no_consumer }

-- an idle consumer of a geom that withers is spent
idle_spent : (w : World) (c : Consumer) → Firm w → Contains w.topology.consumers c
    → is_withering w.topology c.geom ≡ true
    → is_zero (want (granted_in w) w.topology c) ≡ true → CanWash w (washes.Consumer c.number)
idle_spent w c firm here withers idle =
    let x = withering_there w firm c.geom withers in
    record {
      item = c;
      is = found_itself (λ (z : Consumer). z.number) w.topology.next_consumer w.topology.consumers c
          firm.graph.numbers.consumers here;
      fact = record {
        geom = x.0;
        found = x.1;
        withering = x.2;
        idle = zero-test (want (granted_in w) w.topology c) idle;
      };
    }

-- washes keep a firm world firm
pub washes_keep : WashesKeepFirm
washes_keep = record {
  provider = λ w p none firm. washed-firm w (washes.Provider p) none firm;
  consumer = λ w c here withers idle firm. washed-firm w (washes.Consumer c.number)
      (idle_spent w c firm here withers idle) firm;
  geom = λ w g free firm. washed-firm w (washes.Geom g) (free_bare w g firm free) firm;
  found = λ w work found firm. washed-firm w work (found-can w firm work found) firm;
  idle = λ w work found firm. washed-idle w firm work (found-can w firm work found);
}

-- The step

-- the answer of a wash, by what it finds
abbrev answer_of : World → Option WashWork → Answer
answer_of w o = option_map_or (λ work. Ok (wash w work, outcomes.Ran)) o (Err refusals.NothingToWash)

-- it is the step's
wash_step : (w : World) (seat : ℕ) → step w seat steps.Wash ≡ answer_of w (wash_work w)
unfolding step wash_next
wash_step w seat = refl

-- the world after the answer is firm
answer-firm : (w : World) (o : Option WashWork) → ((work : WashWork) → o ≡ Some work → CanWash w work) → Firm w
    → Firm (world_after w (answer_of w o))
answer-firm w None can firm = firm
answer-firm w (Some work) can firm = washed-firm w work (can work refl) firm

-- what stands in a world isn't gone from it
nothing_gone : (w : World) → Firm w → FreesIdle w w
nothing_gone w firm = record {
  consumers = λ c here gone. not_gone w firm (consumer_at w.topology c.number) (consumer_there w firm c here) gone;
  providers = λ p here gone. not_gone w firm (provider_at w.topology p.number) (provider_there w firm p here) gone;
  geoms = λ g there gone. not_gone w firm (geom_at w.topology g) there gone;
}

-- and what the answer destroys was idle
answer-idle : (w : World) (o : Option WashWork) → ((work : WashWork) → o ≡ Some work → CanWash w work) → Firm w
    → FreesIdle w (world_after w (answer_of w o))
answer-idle w None can firm = nothing_gone w firm
answer-idle w (Some work) can firm = washed-idle w firm work (can work refl)

-- so after the step of an entry
entry-idle : (w : World) (e : Entry) → e.step ≡ steps.Wash → Firm w → FreesIdle w (after_entry w e)
entry-idle w e is firm =
    subst (λ a. FreesIdle w (world_after w a)) (sym (ap (step w e.seat) is ∙ wash_step w e.seat))
    (answer-idle w (wash_work w) (λ work f. found-can w firm work f) firm)

-- the step of a wash keeps a firm world firm, and what it destroys was idle
pub wash_step_keeps : WashStepKeepsFirm
wash_step_keeps = record {
  firm = λ w seat firm.
      subst (λ a. Firm (world_after w a)) (sym (wash_step w seat))
      (answer-firm w (wash_work w) (λ work f. found-can w firm work f) firm);
  idle = λ w e is firm.
      let idle = entry-idle w e is firm in
      record {
        consumers = λ c here gone. let f = idle.consumers c here gone in record { no_bio = f.0; closed = inl f.1 };
        providers = idle.providers;
        geoms = idle.geoms;
      };
}
