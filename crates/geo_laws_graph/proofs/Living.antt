-- What lives goes on living through each change of one thing.
use Rattle.std.specs.Prelude.{◌≡◌, ◌≢◌, ℕ, ◌+◌, ◌==◌, Bool, true, not, List, [], find, Option, Some, None, All, Contains, IfSome, IsSome, option_and_then}
use Rattle.std.proofs.Common.{refl, sym, ◌∙◌, ap, subst}
use Rattle.std.proofs.lemmas.Bool.{eqb-true, eq-eqb, ne_eqb}
use Rattle.std.proofs.lemmas.List.Elements.{recursion_from_All, All-from_recursion, All-push, All-filter, All-weaker}
use Rattle.geo_model.specs.Kind.{Kind}
use Rattle.geo_model.specs.Words.{change_where, names_number}
use Rattle.geo_model.specs.Topology.{Topology, Geom, Provider, Consumer, geom_at, provider_at, providers_of, consumers_of, attached_to, add_geom, add_provider, add_consumer, remove_geom, remove_provider, remove_consumer, attach, set_error, set_size, set_marks}
use Rattle.geo_model.specs.Graph.{OfferersLive, GeomsLive, ProvidersLive, PartsLive}
use Rattle.geo_laws_graph.specs.LookupLaws.{PartsStayAlive, SoundIsInOrder, SteadyPartsLive}
use Rattle.geo_laws_graph.proofs.Members.{has, Contains-filter, All-from_contained, at_contained, nothing_in}
use Rattle.geo_laws_graph.proofs.Lists.{changed, find-changed, all-changed, find-kept, find-gone}
pub use Rattle.geo_model.proofs.FindLists.{found-before}
pub use Rattle.geo_model.proofs.Options.{if_some_weaker, map_there}

-- a fact of each member that follows from another
pub all_members : {X : Type 0} (P Q : X → Type 0) (xs : List X) → ((x : X) → Contains xs x → P x → Q x)
    → All P xs → All Q xs
all_members P Q xs so facts =
    All-from_recursion Q xs
    (All-from_contained Q xs (λ x here. so x here (at_contained P xs x (recursion_from_All P xs facts) here)))

module _ {C : Type 0} (t : Topology C) where
  module _ (geom : ℕ) (name : List ℕ) (size sector : ℕ) where
    -- a provider that lives is found as before where one is added
    pub provider_stays : (p : ℕ) (y : Provider) → provider_at t p ≡ Some y
        → provider_at (add_provider t geom name size sector) p ≡ Some y
    provider_stays p y e = found-before (λ (x : Provider). x.number == p) t.providers _ y e

    -- each attached consumer's provider lives where one is added
    pub add_provider-providers : ProvidersLive t → ProvidersLive (add_provider t geom name size sector)
    add_provider-providers live =
        All-weaker (λ (c : Consumer). IfSome c.provider (λ p. IsSome (provider_at t p)))
        (λ (c : Consumer). IfSome c.provider (λ p. IsSome (provider_at (add_provider t geom name size sector) p)))
        (λ c. if_some_weaker (λ p. IsSome (provider_at t p))
        (λ p. IsSome (provider_at (add_provider t geom name size sector) p))
        (λ p there. let x = has (provider_at t p) there in let still = provider_stays p x.item x.is in
        rw still refl) c.provider)
        t.consumers live

  module _ (p : ℕ) where
    -- another provider is found as before
    pub provider_at-removed : (q : ℕ) → q ≢ p → provider_at (remove_provider t p) q ≡ provider_at t q
    provider_at-removed q other =
        find-kept (λ (x : Provider). not (x.number == p)) (λ (x : Provider). x.number == q)
        (λ x e. let is = eqb-true x.number q e in
        rw (ne_eqb x.number p (λ same. other (sym is ∙ same))) refl) t.providers

    -- the one that is removed isn't found any more
    pub provider_at-gone : provider_at (remove_provider t p) p ≡ None
    provider_at-gone =
        find-gone (λ (x : Provider). not (x.number == p)) (λ (x : Provider). x.number == p)
        (λ x e. rw e refl) t.providers

    -- nobody is attached to it
    pub not_there : (x : Consumer) (q : ℕ) → attached_to t p ≡ [] → Contains t.consumers x → x.provider ≡ Some q → q ≢ p
    not_there x q none here to same =
        let names : names_number x.provider p ≡ true = rw to (eq-eqb q p same) in
        let member : Contains (attached_to t p) x =
        Contains-filter (λ (y : Consumer). names_number y.provider p) t.consumers x here names in
        nothing_in x (subst (λ (cs : List Consumer). Contains cs x) none member)

    -- what a consumer is attached to, if anything, lives without that provider
    live_at : (x : Consumer) → attached_to t p ≡ [] → Contains t.consumers x → (o : Option ℕ) → x.provider ≡ o
        → IfSome o (λ q. IsSome (provider_at t q)) → IfSome o (λ q. IsSome (provider_at (remove_provider t p) q))
    live_at x none here None to live = live
    live_at x none here (Some q) to live = rw (provider_at-removed q (not_there x q none here to)) live

    -- each attached consumer's provider lives where one goes to which nobody is attached
    pub remove_provider-providers : attached_to t p ≡ [] → ProvidersLive t → ProvidersLive (remove_provider t p)
    remove_provider-providers none live =
        All-from_recursion
        (λ (x : Consumer). IfSome x.provider (λ q. IsSome (provider_at (remove_provider t p) q))) t.consumers
        (All-from_contained
        (λ (x : Consumer). IfSome x.provider (λ q. IsSome (provider_at (remove_provider t p) q))) t.consumers
        (λ x here. live_at x none here x.provider refl
        (at_contained (λ (c : Consumer). IfSome c.provider (λ q. IsSome (provider_at t q))) t.consumers x
        (recursion_from_All (λ (c : Consumer). IfSome c.provider (λ q. IsSome (provider_at t q))) t.consumers
        live) here)))

  -- each consumer's geom lives where a geom is added
  pub add_geom-geoms : (kind : Kind) (name : List ℕ) (config : C) (automatic : Bool) → GeomsLive t
      → GeomsLive (add_geom t kind name config automatic)
  add_geom-geoms kind name config automatic live =
      All-weaker (λ (c : Consumer). IsSome (geom_at t c.geom))
      (λ (c : Consumer). IsSome (geom_at (add_geom t kind name config automatic) c.geom))
      (λ c there.
      let x = has (geom_at t c.geom) there in
      let still : geom_at (add_geom t kind name config automatic) c.geom ≡ Some x.item =
      found-before (λ (y : Geom C). y.number == c.geom) t.geoms _ x.item x.is in
      rw still refl)
      t.consumers live

  -- and where one without consumers goes
  pub remove_geom-geoms : (g : ℕ) → consumers_of t g ≡ [] → GeomsLive t → GeomsLive (remove_geom t g)
  remove_geom-geoms g none live =
      All-from_recursion (λ (c : Consumer). IsSome (geom_at (remove_geom t g) c.geom)) t.consumers
      (All-from_contained (λ (c : Consumer). IsSome (geom_at (remove_geom t g) c.geom)) t.consumers
      (λ c here.
      let other = not_of c here in
      let same : geom_at (remove_geom t g) c.geom ≡ geom_at t c.geom =
      find-kept (λ (x : Geom C). not (x.number == g)) (λ (x : Geom C). x.number == c.geom)
      (λ x e. let is = eqb-true x.number c.geom e in
      rw (ne_eqb x.number g (λ same. other (sym is ∙ same))) refl) t.geoms in
      rw same
      (at_contained (λ (y : Consumer). IsSome (geom_at t y.geom)) t.consumers c
      (recursion_from_All (λ (y : Consumer). IsSome (geom_at t y.geom)) t.consumers live) here)))
    where
      -- no consumer is of the geom that goes
      not_of : (c : Consumer) → Contains t.consumers c → c.geom ≢ g
      not_of c here same =
          nothing_in c
          (subst (λ (cs : List Consumer). Contains cs c) none
          (Contains-filter (λ (y : Consumer). y.geom == g) t.consumers c here (eq-eqb c.geom g same)))

  -- a consumer more, of a geom that lives
  pub add_consumer-geoms : (g : ℕ) (o : Option ℕ) → IsSome (geom_at t g) → GeomsLive t → GeomsLive (add_consumer t g o)
  add_consumer-geoms g o there live = All-push (λ (c : Consumer). IsSome (geom_at t c.geom)) t.consumers _ live there

  -- attached to nothing, or to a provider that lives
  pub add_consumer-providers : (g : ℕ) (o : Option ℕ) → IfSome o (λ p. IsSome (provider_at t p)) → ProvidersLive t
      → ProvidersLive (add_consumer t g o)
  add_consumer-providers g o there live =
      All-push (λ (c : Consumer). IfSome c.provider (λ p. IsSome (provider_at t p))) t.consumers _ live there

  -- a consumer less
  pub remove_consumer-geoms : (c : ℕ) → GeomsLive t → GeomsLive (remove_consumer t c)
  remove_consumer-geoms c live =
      All-filter (λ (x : Consumer). not (x.number == c)) (λ (x : Consumer). IsSome (geom_at t x.geom)) t.consumers live

  -- so each attached consumer's provider lives too
  pub remove_consumer-providers : (c : ℕ) → ProvidersLive t → ProvidersLive (remove_consumer t c)
  remove_consumer-providers c live =
      All-filter (λ (x : Consumer). not (x.number == c))
      (λ (x : Consumer). IfSome x.provider (λ p. IsSome (provider_at t p))) t.consumers live

  -- providers changed, but not their geoms
  pub changed-providers : (P : Provider → Type 0) (hit : Provider → Bool) (change : Provider → Provider)
      → ((x : Provider) → hit x ≡ true → P x → P (change x))
      → All P t.providers → All P (change_where hit change t.providers)
  changed-providers P hit change so facts =
      All-from_recursion P (change_where hit change t.providers)
      (all-changed hit change P so t.providers (recursion_from_All P t.providers facts))

  -- consumers changed, but not their geoms and providers
  pub changed-consumers : (P : Consumer → Type 0) (hit : Consumer → Bool) (change : Consumer → Consumer)
      → ((x : Consumer) → hit x ≡ true → P x → P (change x))
      → All P t.consumers → All P (change_where hit change t.consumers)
  changed-consumers P hit change so facts =
      All-from_recursion P (change_where hit change t.consumers)
      (all-changed hit change P so t.consumers (recursion_from_All P t.consumers facts))

  module _ (c p : ℕ) where
    -- each attached consumer's provider still lives, and each consumer's geom
    pub attach-providers : IsSome (provider_at t p) → ProvidersLive t → ProvidersLive (attach t c p)
    attach-providers there live =
        All-from_recursion (λ (x : Consumer). IfSome x.provider (λ q. IsSome (provider_at t q)))
        (attach t c p).consumers
        (all-changed (λ (y : Consumer). y.number == c) (λ y. record y { provider = Some p })
        (λ (x : Consumer). IfSome x.provider (λ q. IsSome (provider_at t q)))
        (λ x e fact. there)
        t.consumers
        (recursion_from_All (λ (x : Consumer). IfSome x.provider (λ q. IsSome (provider_at t q))) t.consumers live))

    -- each consumer's geom lives where a consumer is attached
    pub attach-geoms : GeomsLive t → GeomsLive (attach t c p)
    attach-geoms live =
        All-from_recursion (λ (x : Consumer). IsSome (geom_at t x.geom)) (attach t c p).consumers
        (all-changed (λ (y : Consumer). y.number == c) (λ y. record y { provider = Some p })
        (λ (x : Consumer). IsSome (geom_at t x.geom)) (λ x e fact. fact) t.consumers
        (recursion_from_All (λ (x : Consumer). IsSome (geom_at t x.geom)) t.consumers live))

module _ {C : Type 0} where
  -- a provider that is changed but keeps its number lives on
  changed_provider : (t : Topology C) (p : ℕ) (change : Provider → Provider)
      → ((x : Provider) → (change x).number ≡ x.number)
      → (q : ℕ) → IsSome (provider_at t q)
      → IsSome (find (λ (x : Provider). x.number == q) (change_where (λ x. x.number == p) change t.providers))
  changed_provider t p change same q there =
      subst (λ (o : Option Provider). IsSome o)
      (sym (find-changed (λ (x : Provider). x.number == p) change (λ (x : Provider). x.number == q)
      (λ x e. ap (λ n. n == q) (same x)) t.providers))
      (map_there (changed (λ (x : Provider). x.number == p) change) (provider_at t q) there)

  -- so each attached consumer's provider lives where one is changed but keeps its number
  changed_provider-providers : (t : Topology C) (p : ℕ) (change : Provider → Provider)
      → ((x : Provider) → (change x).number ≡ x.number)
      → ProvidersLive t → ProvidersLive (record t { providers = change_where (λ x. x.number == p) change t.providers })
  changed_provider-providers t p change same live =
      let after : Topology C = record t { providers = change_where (λ x. x.number == p) change t.providers } in
      All-weaker (λ (c : Consumer). IfSome c.provider (λ q. IsSome (provider_at t q)))
      (λ (c : Consumer). IfSome c.provider (λ q. IsSome (provider_at after q)))
      (λ c. if_some_weaker (λ q. IsSome (provider_at t q)) (λ q. IsSome (provider_at after q))
      (changed_provider t p change same) c.provider)
      t.consumers live

  -- where one gets an error
  pub set_error-providers : (t : Topology C) (p : ℕ) → ProvidersLive t → ProvidersLive (set_error t p)
  set_error-providers t p = changed_provider-providers t p (λ x. record x { errored = true }) (λ x. refl)

  -- and where one gets another media size
  pub set_size-providers : (t : Topology C) (p size : ℕ) → ProvidersLive t → ProvidersLive (set_size t p size)
  set_size-providers t p size = changed_provider-providers t p (λ x. record x { size = size }) (λ x. refl)

  -- each attached consumer's provider lives where consumers are marked
  pub set_marks-providers : (t : Topology C) (test : Consumer → Bool) (mark : Bool) → ProvidersLive t
      → ProvidersLive (set_marks t test mark)
  set_marks-providers t test mark live =
      changed-consumers t (λ c. IfSome c.provider (λ q. IsSome (provider_at t q))) test
      (λ x. record x { spoiled = mark }) (λ x e fact. fact) live

  -- so what the parts name lives where a provider is changed but keeps its number and its geom
  pub changed_provider-parts : (t : Topology C) (p : ℕ) (change : Provider → Provider)
      → ((x : Provider) → (change x).number ≡ x.number)
      → ((x : Provider) → (change x).geom ≡ x.geom) → PartsLive t
      → PartsLive (record t { providers = change_where (λ x. x.number == p) change t.providers })
  changed_provider-parts t p change number geom live = record {
    offerers = changed-providers t (λ x. IsSome (geom_at t x.geom)) (λ x. x.number == p) change
        (λ x e there. subst (λ g. IsSome (geom_at t g)) (sym (geom x)) there) live.offerers;
    geoms = live.geoms;
    providers = changed_provider-providers t p change number live.providers;
  }

  -- geoms that are changed but keep their numbers live on
  changed_geom : (t : Topology C) (hit : Geom C → Bool) (change : Geom C → Geom C)
      → ((x : Geom C) → (change x).number ≡ x.number)
      → (g : ℕ) → IsSome (geom_at t g) → IsSome (find (λ (x : Geom C). x.number == g) (change_where hit change t.geoms))
  changed_geom t hit change same g there =
      subst (λ (o : Option (Geom C)). IsSome o)
      (sym (find-changed hit change (λ (x : Geom C). x.number == g) (λ x e. ap (λ n. n == g) (same x)) t.geoms))
      (map_there (changed hit change) (geom_at t g) there)

  -- so what the parts name lives where geoms are changed but keep their numbers
  pub changed_parts : (t : Topology C) (hit : Geom C → Bool) (change : Geom C → Geom C)
      → ((x : Geom C) → (change x).number ≡ x.number)
      → PartsLive t → PartsLive (record t { geoms = change_where hit change t.geoms })
  changed_parts t hit change same live = record {
    offerers = All-weaker (λ (p : Provider). IsSome (geom_at t p.geom))
        (λ (p : Provider). IsSome (find (λ (x : Geom C). x.number == p.geom) (change_where hit change t.geoms)))
        (λ p. changed_geom t hit change same p.geom) t.providers live.offerers;
    geoms = All-weaker (λ (c : Consumer). IsSome (geom_at t c.geom))
        (λ (c : Consumer). IsSome (find (λ (x : Geom C). x.number == c.geom) (change_where hit change t.geoms)))
        (λ c. changed_geom t hit change same c.geom) t.consumers live.geoms;
    providers = live.providers;
  }

  -- each provider's geom lives where a geom is added
  added_offerers : (t : Topology C) (kind : Kind) (name : List ℕ) (config : C) (automatic : Bool) → OfferersLive t
      → OfferersLive (add_geom t kind name config automatic)
  added_offerers t kind name config automatic live =
      All-weaker (λ (p : Provider). IsSome (geom_at t p.geom))
      (λ (p : Provider). IsSome (geom_at (add_geom t kind name config automatic) p.geom))
      (λ p there.
      let x = has (geom_at t p.geom) there in
      let still : geom_at (add_geom t kind name config automatic) p.geom ≡ Some x.item =
      found-before (λ (y : Geom C). y.number == p.geom) t.geoms _ x.item x.is in
      rw still refl)
      t.providers live

  -- and where one without providers goes
  removed_offerers : (t : Topology C) (g : ℕ) → providers_of t g ≡ [] → OfferersLive t → OfferersLive (remove_geom t g)
  removed_offerers t g none live =
      all_members (λ (p : Provider). IsSome (geom_at t p.geom))
      (λ (p : Provider). IsSome (geom_at (remove_geom t g) p.geom)) t.providers
      (λ p here there.
      let same : geom_at (remove_geom t g) p.geom ≡ geom_at t p.geom =
      find-kept (λ (x : Geom C). not (x.number == g)) (λ (x : Geom C). x.number == p.geom)
      (λ x e. let is = eqb-true x.number p.geom e in
      rw (ne_eqb x.number g (λ k. not_of p here (sym is ∙ k))) refl) t.geoms in
      rw same there)
      live
    where
      -- no provider is of the geom that goes
      not_of : (p : Provider) → Contains t.providers p → p.geom ≢ g
      not_of p here same =
          nothing_in p
          (subst (λ (ps : List Provider). Contains ps p) none
          (Contains-filter (λ (y : Provider). y.geom == g) t.providers p here (eq-eqb p.geom g same)))

  -- what lives goes on living
  pub parts-alive : PartsStayAlive C
  parts-alive = record {
    geom_added = λ t kind name config automatic live. record {
      offerers = added_offerers t kind name config automatic live.offerers;
      geoms = add_geom-geoms t kind name config automatic live.geoms;
      providers = live.providers;
    };
    provider_added = λ t geom name size sector there live. record {
      offerers = All-push (λ (p : Provider). IsSome (geom_at t p.geom)) t.providers _ live.offerers there;
      geoms = live.geoms;
      providers = add_provider-providers t geom name size sector live.providers;
    };
    consumer_added = λ t geom o there offered live. record {
      offerers = live.offerers;
      geoms = add_consumer-geoms t geom o there live.geoms;
      providers = add_consumer-providers t geom o offered live.providers;
    };
    geom_removed = λ t g no_provider no_consumer live. record {
      offerers = removed_offerers t g no_provider live.offerers;
      geoms = remove_geom-geoms t g no_consumer live.geoms;
      providers = live.providers;
    };
    provider_removed = λ t p none live. record {
      offerers = All-filter (λ (x : Provider). not (x.number == p)) (λ (x : Provider). IsSome (geom_at t x.geom))
          t.providers live.offerers;
      geoms = live.geoms;
      providers = remove_provider-providers t p none live.providers;
    };
    consumer_removed = λ t c live. record {
      offerers = live.offerers;
      geoms = remove_consumer-geoms t c live.geoms;
      providers = remove_consumer-providers t c live.providers;
    };
    attached = λ t c p there live. record {
      offerers = live.offerers;
      geoms = attach-geoms t c p live.geoms;
      providers = attach-providers t c p there live.providers;
    };
    detached = λ t c live. record {
      offerers = live.offerers;
      geoms = changed-consumers t (λ x. IsSome (geom_at t x.geom)) (λ x. x.number == c)
          (λ x. record x { provider = None }) (λ x e fact. fact) live.geoms;
      providers = changed-consumers t (λ x. IfSome x.provider (λ q. IsSome (provider_at t q))) (λ x. x.number == c)
          (λ x. record x { provider = None }) (λ x e fact. tt) live.providers;
    };
    errored = λ t p live. changed_provider-parts t p (λ x. record x { errored = true }) (λ x. refl) (λ x. refl) live;
    sized = λ t p size live. changed_provider-parts t p (λ x. record x { size = size }) (λ x. refl) (λ x. refl) live;
    marked = λ t test mark live. record {
      offerers = live.offerers;
      geoms = changed-consumers t (λ x. IsSome (geom_at t x.geom)) test (λ x. record x { spoiled = mark })
          (λ x e fact. fact) live.geoms;
      providers = set_marks-providers t test mark live.providers;
    };
    withering = λ t g live. changed_parts t (λ x. x.number == g) (λ x. record x { withering = true }) (λ x. refl) live;
    config = λ t g config live. changed_parts t (λ x. x.number == g) (λ x. record x { config = config })
        (λ x. refl) live;
    started = λ t g live. changed_parts t (λ x. x.number == g) (λ x. record x { started = x.started + 1 })
        (λ x. refl) live;
  }

-- a number that leads to a provider is that of one that lives
attached_there : {C : Type 0} (t : Topology C) (o : Option ℕ) → IsSome (option_and_then (provider_at t) o)
    → IfSome o (λ p. IsSome (provider_at t p))
attached_there t None there = tt
attached_there t (Some p) there = there

-- a sound world's lists are in order, and what a steady one's parts name lives
pub sound-order : SoundIsInOrder
sound-order w numbers = record { geoms = numbers.geoms; providers = numbers.providers; consumers = numbers.consumers }

-- what the parts of a steady world name lives
pub steady-parts : SteadyPartsLive
steady-parts t parts attached = record {
  offerers = parts.providers;
  geoms = parts.consumers;
  providers = All-weaker (λ (c : Consumer). IsSome (option_and_then (provider_at t) c.provider))
      (λ (c : Consumer). IfSome c.provider (λ p. IsSome (provider_at t p)))
      (λ c. attached_there t c.provider) t.consumers attached;
}
