-- A graph that has come to more: one geom is new or has changed, and it has more consumers and providers; all else
-- stands as it stood, but that a provider may have grown. With such a graph a firm world stays firm: one that is
-- sound,
-- steady and fitting (g_new_geomf, g_new_providerf, g_new_consumer).
use Rattle.std.specs.Prelude.{◌≡◌, ◌≢◌, ◌⊎◌, ℕ, ◌<◌, ◌≤◌, false, List, [], Option, Some, Contains, IsSome, IsSomeAnd, IfSome, IsTrue, All, AllPairs, option_and_then}
use Rattle.geo_base.specs.Sectors.{IsSectorSize}
use Rattle.geo_base.specs.declared.limits.TheConstants.{UNTASTED_RANK}
use Rattle.geo_model.specs.declared.step.Event.{Event}
use Rattle.geo_model.specs.Topology.{Topology, Geom, Provider, Consumer, geom_at, provider_at, consumer_at, geom_of_provider, providers_of, consumers_of}
use Rattle.geo_model.specs.Graph.{IsInOrder, PartsLive}
use Rattle.geo_model.specs.Rank.{rank}
use Rattle.geo_model.specs.Demand.{have, want, is_zero, is_exclusive, fits_limit}
use Rattle.geo_model.specs.World.{World, Config, Bio, granted_in}
use Rattle.geo_model.specs.Place.{components, disk_of}
use Rattle.geo_model.specs.Events.{provider_of_event}
use Rattle.geo_model.specs.Sound.{RanksHold, DifferInName, DifferInDisk, IsMediaSize, IsOfItsClass, HasDiskSizes, IsPlaced}
use Rattle.geo_model.specs.Steady.{has_free_place}
use Rattle.geo_model.specs.Fitting.{IsWholeIn, FitsPlaces, HasOneProvider, PlacesHold, HasItsSum, Firm}
use Rattle.geo_laws_counts.specs.CountWords.{IsAtMost}

-- the provider stays what it is but that it may have grown
pub record IsGrownFrom (x y : Provider) : Type 0 where
  pub same : y ≡ record x { size = y.size }
  pub larger : x.size ≤ y.size

-- the provider is found, and has grown or not
pub record StandsGrown (x : Provider) (o : Option Provider) : Type 0 where
  pub now : Provider
  pub found : o ≡ Some now
  pub is : IsGrownFrom x now

-- a provider of the number stands as it stood, and isn't of this geom
abbrev pub IsUntouched : Topology Config → Topology Config → Geom Config → ℕ → Type 0
IsUntouched t u g p = (x : Provider) → provider_at t p ≡ Some x → (provider_at u p ≡ Some x) × (x.geom ≢ g.number)

-- the geom that is new or has changed: another one than DEV and TASTE, of its class, with its components, places
-- and sizes
pub record GeomFits (w : World) (u : Topology Config) (g : Geom Config) : Type 0 where
  pub dev : g.number ≢ 1
  pub taste : g.number ≢ 2
  pub class : IsOfItsClass g
  pub upright : g.withering ≡ false
  pub disk_sizes : HasDiskSizes u w.disks g
  pub components : All (λ c. IsSomeAnd (consumer_at u c) (λ x. (x.geom ≡ g.number) × IsSome x.provider))
      (components g.config)
  pub partial : IsTrue (has_free_place g) → providers_of u g.number ≡ []
  pub places : FitsPlaces u g
  pub one : HasOneProvider u g
  pub apart : PlacesHold g
  pub sums : HasItsSum u g

-- a provider of it, which is that of a disk or leads down
pub record ProviderFits (u : Topology Config) (g : Geom Config) (x : Provider) : Type 0 where
  pub geom : x.geom ≡ g.number
  pub sector : IsSectorSize x.sector
  pub size : IsMediaSize x.size x.sector
  pub leads : IsSome (disk_of g.config) ⊎ IsPlaced u g x

-- a new consumer of it, which is attached to a provider that lives
pub record ConsumerFits (u : Topology Config) (g : Geom Config) (x : Consumer) : Type 0 where
  pub geom : x.geom ≡ g.number
  pub attached : IsSome (option_and_then (provider_at u) x.provider)

-- the graph of a world that has come to more by a geom
pub record IsMore (w : World) (u : Topology Config) (g : Geom Config) : Type 0 where
  -- it is in order, what its parts name lives, and ranks and counts hold
  pub order : IsInOrder u
  pub live : PartsLive u
  pub ranks : RanksHold u
  pub exclusive : IsTrue (is_exclusive (granted_in w) u)
  pub limited : IsTrue (fits_limit (granted_in w) u)
  -- the old parts stand
  pub old_geoms : (n : ℕ) (x : Geom Config) → n ≢ g.number → geom_at w.topology n ≡ Some x → geom_at u n ≡ Some x
  pub old_providers : (n : ℕ) (x : Provider) → provider_at w.topology n ≡ Some x → StandsGrown x (provider_at u n)
  pub old_consumers : (n : ℕ) (x : Consumer) → consumer_at w.topology n ≡ Some x → consumer_at u n ≡ Some x
  -- and nothing else is new but the geom and its parts
  pub stands : geom_at u g.number ≡ Some g
  pub geoms : (y : Geom Config) → Contains u.geoms y → (Contains w.topology.geoms y × (y.number ≢ g.number))
      ⊎ (y ≡ g)
  pub providers : (y : Provider) → Contains u.providers y
      → (Contains w.topology.providers y × (y.geom ≢ g.number)) ⊎ ProviderFits u g y
  pub consumers : (y : Consumer) → Contains u.consumers y → Contains w.topology.consumers y ⊎ ConsumerFits u g y
  pub others : (n : ℕ) → n ≢ g.number → providers_of u n ≡ providers_of w.topology n
  pub dev : consumers_of u 1 ≡ consumers_of w.topology 1
  pub tasting : consumers_of u 2 ≡ consumers_of w.topology 2
  -- names and disks differ, and the geom and its parts fit
  pub names : AllPairs DifferInName u.providers
  pub disks : AllPairs DifferInDisk u.geoms
  pub wholes : (c : Consumer) → Contains u.consumers c → c.geom ≡ g.number
      → IfSome (option_and_then (provider_at u) c.provider) (λ q. IsWholeIn g.config q.sector)
  pub fits : GeomFits w u g
  -- no want falls, and what comes to be open is of a geom that doesn't wither
  pub wants : (c : Consumer) → Contains w.topology.consumers c
      → IsAtMost (want (granted_in w) w.topology c) (want (granted_in w) u c)
  pub opened : (y : Provider) → Contains w.topology.providers y → is_zero (have (granted_in w) u y.number) ≡ false
      → (is_zero (have (granted_in w) w.topology y.number) ≡ false)
      ⊎ IsSomeAnd (geom_at w.topology y.geom) (λ h. h.withering ≡ false)
  -- no bio and no taste is at it or its providers, and what is tasted isn't too high
  pub bios : (x : Bio) → Contains w.bios x → IsUntouched w.topology u g x.target
  pub tasted : IfSome w.taste (λ s. IsUntouched w.topology u g s.provider)
  pub rank : IfSome w.taste (λ s. IsSomeAnd (geom_of_provider u s.provider) (λ h. rank u h.number < UNTASTED_RANK))

-- with a graph that has come to more a firm world is firm, where the events are of providers that live
pub record MoreIsFirm : Type 0 where
  pub firm : (w : World) (u : Topology Config) (g : Geom Config) (queue : List Event) → Firm w → IsMore w u g
      → All (λ e. IsSome (provider_at u (provider_of_event e))) queue
      → Firm (record w { topology = u; events = queue })
