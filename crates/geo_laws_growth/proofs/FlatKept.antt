-- Each offset lies in the end where it lay, where each part stands as far as the way down goes.
use Rattle.std.specs.Prelude.{◌≡◌, ◌⊎◌, ℕ, zero, suc, ◌/◌, ◌<◌, ◌==◌, Option, Some, None, All, Contains, IsSome, IsSomeAnd, length}
use Rattle.std.specs.Option.{option_and_then}
use Rattle.std.proofs.Common.{refl, sym, ◌∙◌, ap, subst, inl, inr}
use Rattle.std.proofs.lemmas.Bool.{eqb-true}
use Rattle.std.proofs.lemmas.List.Elements.{All-contains}
use Rattle.geo_model.specs.Words.{◌>>=◌}
use Rattle.geo_model.specs.Topology.{Topology, Geom, Provider, Consumer, geom_at, provider_at, consumer_at}
use Rattle.geo_model.specs.Rank.{Ranked}
use Rattle.geo_model.specs.Opens.{below}
use Rattle.geo_model.specs.World.{Config, Nothing, Disk}
use Rattle.geo_model.specs.Place.{Spot, DiskSector, place, component, disk_of, provider_below, flat_step, flat_within, flat}
use Rattle.geo_model.specs.Sound.{IsPlaceInside, IsPlaced}
use Rattle.geo_model.proofs.DemandLemmas.{find_passes}
use Rattle.geo_laws_graph.proofs.Classes.{is_disk}
use Rattle.geo_laws_graph.proofs.Members.{has, find-Contains}
use Rattle.geo_laws_counts.proofs.Reach.{below_self, below_closed}
use Rattle.geo_laws_growth.specs.GrowthLaws.{KeepsWays, IsLaid}

-- A provider and its geom

-- the two as a pair
abbrev pub with_geom : Provider → Geom Config → Provider × Geom Config
with_geom y g = (y, g)

-- a provider that stands with its geom, of which a fact holds
pub record StandsWith (t : Topology Config) (r : ℕ) (P : Provider × Geom Config → Type 0) : Type 0 where
  pub provider : Provider
  pub found : provider_at t r ≡ Some provider
  pub geom : Geom Config
  pub of : geom_at t provider.geom ≡ Some geom
  pub fact : P (provider, geom)

-- it is so where the geom is found
with_found : (t : Topology Config) (r : ℕ) (P : Provider × Geom Config → Type 0) (y : Provider) → provider_at t r
    ≡ Some y
    → (o : Option (Geom Config)) → geom_at t y.geom ≡ o → IsSomeAnd (o >>= (λ g. Some (with_geom y g))) P
    → StandsWith t r P
with_found t r P y found None of fact = absurd fact
with_found t r P y found (Some g) of fact = record { provider = y; found = found; geom = g; of = of; fact = fact }

-- and the provider
with_provider : (t : Topology Config) (r : ℕ) (P : Provider × Geom Config → Type 0) (o : Option Provider)
    → provider_at t r ≡ o
    → IsSomeAnd (o >>= (λ x. geom_at t x.geom >>= (λ g. Some (with_geom x g)))) P → StandsWith t r P
with_provider t r P None found fact = absurd fact
with_provider t r P (Some y) found fact = with_found t r P y found (geom_at t y.geom) refl fact

-- One level of the way down

-- at a disk it ends
step_disk : (F : ℕ → ℕ → Option DiskSector) (v : Topology Config) (config : Config) (x : Provider) (o d : ℕ)
    → disk_of config ≡ Some d
    → flat_step F v config x o ≡ Some (record { disk = d; sector = o / x.sector })
step_disk F v config x o d e = rw (is_disk config d e) refl

module _ (F : ℕ → ℕ → Option DiskSector) (v : Topology Config) where
  -- from a spot it goes on at the provider below
  down_from : (config : Config) (s : Option Spot) (spot : Spot) → s ≡ Some spot
      → (s >>= (λ z. provider_below v config z >>= (λ n. F n z.offset)))
      ≡ (provider_below v config spot >>= (λ n. F n spot.offset))
  down_from config s spot e = ap (λ o. o >>= (λ z. provider_below v config z >>= (λ n. F n z.offset))) e

  -- so at a geom that isn't of a disk
  step_down : (config : Config) (x : Provider) (o : ℕ) (spot : Spot) → place config x.name o ≡ Some spot
      → flat_step F v config x o ≡ (provider_below v config spot >>= (λ n. F n spot.offset))
  step_down Nothing x o spot e = absurd (let no : ⊥ = cc in no)
  step_down (Disk disk) x o spot e = absurd (let no : ⊥ = cc in no)
  step_down config x o spot e = down_from config (place config x.name o) spot e

  -- to which the component's consumer is attached
  step_to : (config : Config) (x : Provider) (o : ℕ) (spot : Spot) (c : ℕ) (d : Consumer) (n : ℕ)
      → place config x.name o ≡ Some spot
      → component config spot.component ≡ Some c → consumer_at v c ≡ Some d → d.provider ≡ Some n
      → flat_step F v config x o ≡ F n spot.offset
  step_to config x o spot c d n at is stands attached =
      step_down config x o spot at
      ∙ ap (λ k. option_and_then (λ m. option_and_then (λ y. y.provider) (consumer_at v m)) k >>=
      (λ m. F m spot.offset)) is
      ∙ ap (λ k. option_and_then (λ (y : Consumer). y.provider) k >>= (λ m. F m spot.offset)) stands
      ∙ ap (λ k. k >>= (λ m. F m spot.offset)) attached

-- the first level from a provider that stands with its geom
first_level : (v : Topology Config) (k r o : ℕ) (y : Provider) (g : Geom Config) → provider_at v r ≡ Some y
    → geom_at v y.geom ≡ Some g
    → flat_within (suc k) v r o ≡ flat_step (flat_within k v) v g.config y o
first_level v k r o y g found of =
    ap (λ z. (z >>= (λ x. geom_at v x.geom >>= (λ h. Some (with_geom x h)))) >>=
    (λ here. flat_step (flat_within k v) v here.1.config here.0 o)) found
    ∙ ap (λ z. (z >>= (λ h. Some (with_geom y h))) >>= (λ here. flat_step (flat_within k v) v here.1.config here.0 o))
    of

-- What is inside

-- a place inside a provider below, with its consumer
pub record LeadsTo (t : Topology Config) (g : Geom Config) (spot : Spot) : Type 0 where
  pub number : ℕ
  pub component_is : component g.config spot.component ≡ Some number
  pub consumer : Consumer
  pub stands : consumer_at t number ≡ Some consumer
  pub own : consumer.geom ≡ g.number
  pub under : ℕ
  pub attached : consumer.provider ≡ Some under
  pub inside : IsSomeAnd (provider_at t under) (λ z. spot.offset < z.size)

-- that a fact and another hold of a found provider, without the other
first_fact : (P Q : Provider → Type 0) (o : Option Provider) → IsSomeAnd o (λ z. P z × Q z) → IsSomeAnd o P
first_fact P Q None both = both
first_fact P Q (Some z) both = both.0

-- from the provider to which the consumer is attached
leads_attached : (t : Topology Config) (g : Geom Config) (p : Provider) (spot : Spot) (c : ℕ)
    → component g.config spot.component ≡ Some c
    → (d : Consumer) → consumer_at t c ≡ Some d → d.geom ≡ g.number → (o : Option ℕ) → d.provider ≡ o
    → IsSomeAnd (option_and_then (provider_at t) o) (λ q. (spot.offset < q.size) × (q.sector ≡ p.sector))
    → LeadsTo t g spot
leads_attached t g p spot c is d stands own None attached fact = absurd fact
leads_attached t g p spot c is d stands own (Some n) attached fact = record {
  number = c;
  component_is = is;
  consumer = d;
  stands = stands;
  own = own;
  under = n;
  attached = attached;
  inside = first_fact (λ (q : Provider). spot.offset < q.size) (λ (q : Provider). q.sector ≡ p.sector)
      (provider_at t n) fact;
}

-- from the consumer
leads_consumer : (t : Topology Config) (g : Geom Config) (p : Provider) (spot : Spot) (c : ℕ)
    → component g.config spot.component ≡ Some c
    → (o : Option Consumer) → consumer_at t c ≡ o
    → IsSomeAnd o (λ d. (d.geom ≡ g.number)
    × IsSomeAnd (option_and_then (provider_at t) d.provider) (λ q. (spot.offset < q.size) × (q.sector ≡ p.sector)))
    → LeadsTo t g spot
leads_consumer t g p spot c is None stands fact = absurd fact
leads_consumer t g p spot c is (Some d) stands fact =
    leads_attached t g p spot c is d stands fact.0 d.provider refl fact.1

-- from the component
leads_component : (t : Topology Config) (g : Geom Config) (p : Provider) (spot : Spot) (o : Option ℕ)
    → component g.config spot.component ≡ o
    → IsSomeAnd (option_and_then (consumer_at t) o)
    (λ d. (d.geom ≡ g.number) × IsSomeAnd (option_and_then (provider_at t) d.provider)
    (λ q. (spot.offset < q.size) × (q.sector ≡ p.sector)))
    → LeadsTo t g spot
leads_component t g p spot None is fact = absurd fact
leads_component t g p spot (Some c) is fact = leads_consumer t g p spot c is (consumer_at t c) refl fact

-- a place, and that it is inside
pub record PlacedAt (t : Topology Config) (g : Geom Config) (y : Provider) (o : ℕ) : Type 0 where
  pub spot : Spot
  pub at : place g.config y.name o ≡ Some spot
  pub leads : LeadsTo t g spot

-- from the place that is found
placed_at : (t : Topology Config) (g : Geom Config) (y : Provider) (o : ℕ) (s : Option Spot) → place g.config y.name o
    ≡ s
    → IsSomeAnd s (IsPlaceInside t g y) → PlacedAt t g y o
placed_at t g y o None at inside = absurd inside
placed_at t g y o (Some spot) at inside =
    record { spot = spot; at = at; leads = leads_component t g y spot (component g.config spot.component) refl inside }

-- The whole way

module _ (t u : Topology Config) (ways : KeepsWays t u) (ranked : Ranked t) (p : ℕ)
    (laid : All (IsLaid t) (below t p)) where
  -- the way down from each provider that is reached, over so many levels
  abbrev AreKept : ℕ → Type 0
  AreKept k = (r o : ℕ) → Contains (below t p) r → IsSomeAnd (provider_at t r) (λ y. o < y.size) → flat_within k u r o
      ≡ flat_within k t r o

  module _ (k r o : ℕ) (more : AreKept k) (there : Contains (below t p) r) (y : Provider)
      (found : provider_at t r ≡ Some y)
      (g : Geom Config) (of : geom_at t y.geom ≡ Some g) where
    -- the geom has the number that the provider names
    its_geom : g.number ≡ y.geom
    its_geom = eqb-true g.number y.geom (find_passes (λ (z : Geom Config). z.number == y.geom) t.geoms g of)

    -- a level more at a disk
    kept_at_disk : (d : ℕ) → disk_of g.config ≡ Some d → flat_within (suc k) u r o ≡ flat_within (suc k) t r o
    kept_at_disk d disk =
        let now = ways.providers r y found in
        let of_now = ways.geoms y.geom g of in
        first_level u k r o now.now of_now.now now.found
        (subst (λ n. geom_at u n ≡ Some of_now.now) (sym now.geom) of_now.found)
        ∙ step_disk (flat_within k u) u of_now.now.config now.now o d (of_now.places.disk ∙ disk)
        ∙ ap (λ s. Some (record { disk = d; sector = o / s })) now.sector
        ∙ sym (step_disk (flat_within k t) t g.config y o d disk)
        ∙ sym (first_level t k r o y g found of)

    -- a level more at another geom
    kept_at_place : PlacedAt t g y o → flat_within (suc k) u r o ≡ flat_within (suc k) t r o
    kept_at_place placed =
        let now = ways.providers r y found in
        let of_now = ways.geoms y.geom g of in
        let spot : Spot = placed.spot in
        let leads : LeadsTo t g spot = placed.leads in
        let above : IsSomeAnd (provider_at t r) (λ x. x.geom ≡ leads.consumer.geom) =
        subst (λ z. IsSomeAnd z (λ (x : Provider). x.geom ≡ leads.consumer.geom)) (sym found)
        (sym (leads.own ∙ its_geom)) in
        let reached : Contains (below t p) leads.under =
        below_closed t ranked p r leads.under leads.consumer
        (find-Contains (λ (z : Consumer). z.number == leads.number) t.consumers leads.consumer leads.stands)
        leads.attached above there in
        first_level u k r o now.now of_now.now now.found
        (subst (λ n. geom_at u n ≡ Some of_now.now) (sym now.geom) of_now.found)
        ∙ step_to (flat_within k u) u of_now.now.config now.now o spot leads.number leads.consumer leads.under
        (ap (λ name. place of_now.now.config name o) now.name ∙ of_now.places.places y.name o spot placed.at)
        (of_now.places.components spot.component leads.number leads.component_is)
        (ways.consumers leads.number leads.consumer leads.stands) leads.attached
        ∙ more leads.under spot.offset reached leads.inside
        ∙ sym (step_to (flat_within k t) t g.config y o spot leads.number leads.consumer leads.under placed.at
        leads.component_is leads.stands leads.attached)
        ∙ sym (first_level t k r o y g found of)

    -- so at each that is laid
    kept_there : o < y.size → IsSome (disk_of g.config) ⊎ IsPlaced t g y → flat_within (suc k) u r o
        ≡ flat_within (suc k) t r o
    kept_there inside fact =
        elim fact [
          | inl disk ↦ (let d = has (disk_of g.config) disk in kept_at_disk d.item d.is)
          | inr placed ↦ kept_at_place (placed_at t g y o (place g.config y.name o) refl (placed o inside))
        ]

  -- a level more
  kept_more : (k : ℕ) → AreKept k → AreKept (suc k)
  kept_more k more r o there inside =
      let fact : IsLaid t r = All-contains (IsLaid t) (below t p) r laid there in
      let stands = with_provider t r (λ here. IsSome (disk_of here.1.config) ⊎ IsPlaced t here.1 here.0)
      (provider_at t r) refl fact in
      let here : o < stands.provider.size =
      subst (λ z. IsSomeAnd z (λ (y : Provider). o < y.size)) stands.found inside in
      kept_there k r o more there stands.provider stands.found stands.geom stands.of here stands.fact

  -- over so many levels each offset lies where it lay
  kept_within : (k : ℕ) → AreKept k
  kept_within zero = λ r o there inside. refl
  kept_within (suc k) = kept_more k (kept_within k)

  -- and in the end
  pub flat_kept : (o : ℕ) → IsSomeAnd (provider_at t p) (λ y. o < y.size) → flat u p o ≡ flat t p o
  flat_kept o inside =
      ap (λ k. flat_within k u p o) ways.levels
      ∙ kept_within (length t.geoms) p o (below_self (length t.geoms) t p) inside
