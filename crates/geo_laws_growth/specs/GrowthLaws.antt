-- What a provider keeps that grows: each old offset lies where it lay (geom(4), g_resize_provider(9)).
use Rattle.std.specs.Prelude.{◌≡◌, ◌≢◌, ◌⊎◌, ℕ, ◌+◌, ◌<◌, ◌≤◌, false, List, [], ◌∷◌, ◌++◌, length, sum, Option, Some, None, All, IsSome, IsSomeAnd, IsTrue}
use Rattle.geo_model.specs.Counts.{Counts}
use Rattle.geo_model.specs.Topology.{Topology, Geom, Provider, Consumer, geom_at, provider_at, consumer_at, provider_with_geom, add_consumer}
use Rattle.geo_model.specs.Rank.{Ranked}
use Rattle.geo_model.specs.Opens.{below, has_error_below}
use Rattle.geo_model.specs.World.{World, Config, Concat, granted_in}
use Rattle.geo_model.specs.Demand.{is_exclusive, fits_limit}
use Rattle.geo_model.specs.Place.{Spot, place, component, components, disk_of, flat}
use Rattle.geo_model.specs.Acceptance.{add_place, joined_size}
use Rattle.geo_model.specs.Append.{Growing, growing_concat, component_refusal, with_component}
use Rattle.geo_model.specs.Sound.{Sound, IsPlaced, RanksHold}
use Rattle.geo_model.specs.Steady.{Steady}
use Rattle.geo_model.specs.Graph.{IsInOrder}
use Rattle.geo_laws_graph.specs.RankLaws.{AllRanksStay}
use Rattle.geo_laws_counts.specs.CountWords.{DemandStays, AnyConsumer}
use Rattle.geo_laws_growth.specs.JoinLaws.{Joins}

-- The configuration

-- each place and each component of the one configuration is one of the other, and both are of one disk or of none
pub record KeepsPlaces (a b : Config) : Type 0 where
  pub disk : disk_of b ≡ disk_of a
  pub places : (name : List ℕ) (o : ℕ) (spot : Spot) → place a name o ≡ Some spot → place b name o ≡ Some spot
  pub components : (k c : ℕ) → component a k ≡ Some c → component b k ≡ Some c

-- a concat with one more component: each old offset lies where it lay, the new ones lie in the new component in order,
-- and nothing lies behind them; the old components stay, and the new one is the last; no configuration loses a place
pub record GrownConcat : Type 0 where
  pub old : (id : Option ℕ) (places : List (Option ℕ)) (sizes : List ℕ) (c size : ℕ) (name : List ℕ) (o : ℕ)
      → o < sum sizes
      → place (add_place (Concat id places sizes) c size) name o ≡ place (Concat id places sizes) name o
  pub new : (id : Option ℕ) (places : List (Option ℕ)) (sizes : List ℕ) (c size : ℕ) (name : List ℕ) (o : ℕ) → o < size
      → place (add_place (Concat id places sizes) c size) name (sum sizes + o)
      ≡ Some (record { component = length sizes; offset = o })
  pub behind : (id : Option ℕ) (places : List (Option ℕ)) (sizes : List ℕ) (c size : ℕ) (name : List ℕ) (o : ℕ)
      → sum sizes + size ≤ o
      → place (add_place (Concat id places sizes) c size) name o ≡ None
  pub old_components : (id : Option ℕ) (places : List (Option ℕ)) (sizes : List ℕ) (c size k : ℕ) → k < length places
      → component (add_place (Concat id places sizes) c size) k ≡ component (Concat id places sizes) k
  pub new_component : (id : Option ℕ) (places : List (Option ℕ)) (sizes : List ℕ) (c size : ℕ)
      → component (add_place (Concat id places sizes) c size) (length places) ≡ Some c
  pub all_components : (id : Option ℕ) (places : List (Option ℕ)) (sizes : List ℕ) (c size : ℕ)
      → components (add_place (Concat id places sizes) c size) ≡ components (Concat id places sizes) ++ c ∷ []
  pub size : (id : Option ℕ) (places : List (Option ℕ)) (sizes : List ℕ) (c size : ℕ)
      → joined_size (add_place (Concat id places sizes) c size) ≡ joined_size (Concat id places sizes) + size
  pub any : (config : Config) (c size : ℕ) → KeepsPlaces config (add_place config c size)

-- The graph

-- the provider stands, of the same geom, name and sector size
pub record IsKept (y : Provider) (o : Option Provider) : Type 0 where
  pub now : Provider
  pub found : o ≡ Some now
  pub geom : now.geom ≡ y.geom
  pub name : now.name ≡ y.name
  pub sector : now.sector ≡ y.sector

-- the geom stands, with its places
pub record IsKeptGeom (g : Geom Config) (o : Option (Geom Config)) : Type 0 where
  pub now : Geom Config
  pub found : o ≡ Some now
  pub places : KeepsPlaces g.config now.config

-- from the one graph to the other each part stands as far as the way down to the disks goes
pub record KeepsWays (t u : Topology Config) : Type 0 where
  pub providers : (r : ℕ) (y : Provider) → provider_at t r ≡ Some y → IsKept y (provider_at u r)
  pub geoms : (n : ℕ) (g : Geom Config) → geom_at t n ≡ Some g → IsKeptGeom g (geom_at u n)
  pub consumers : (c : ℕ) (d : Consumer) → consumer_at t c ≡ Some d → consumer_at u c ≡ Some d
  pub levels : length u.geoms ≡ length t.geoms

-- the provider is that of a disk, or each of its offsets has its place inside a provider below
abbrev pub IsLaid : Topology Config → ℕ → Type 0
IsLaid t r = IsSomeAnd (provider_with_geom t r) (λ here. IsSome (disk_of here.1.config) ⊎ IsPlaced t here.1 here.0)

-- An append

-- the geom of a concat and its provider are found by their numbers
pub record IsFoundGrowing (t : Topology Config) (x : Growing) : Type 0 where
  pub geom : geom_at t x.geom.number ≡ Some x.geom
  pub provider : provider_at t x.provider.number ≡ Some x.provider
  pub own : x.provider.geom ≡ x.geom.number

-- the graph after an append
abbrev pub grown : World → Growing → Provider → Topology Config
grown w x q = (with_component w x q).topology

-- the concat that an append names is found by its numbers; after the append the geom is found with one more place, the
-- provider with its new size, the new consumer, and all else as it was
pub record GrownIsFound : Type 0 where
  pub named : (t : Topology Config) (name : List ℕ) (x : Growing) → IsInOrder t → growing_concat t name ≡ Some x
      → IsFoundGrowing t x
  pub geom : (w : World) (x : Growing) (q : Provider) → IsFoundGrowing w.topology x
      → geom_at (grown w x q) x.geom.number
      ≡ Some (record x.geom { config = add_place x.geom.config w.topology.next_consumer q.size })
  pub other_geoms : (w : World) (x : Growing) (q : Provider) (n : ℕ) → n ≢ x.geom.number
      → geom_at (grown w x q) n ≡ geom_at w.topology n
  pub provider : (w : World) (x : Growing) (q : Provider) → IsFoundGrowing w.topology x
      → provider_at (grown w x q) x.provider.number ≡ Some (record x.provider { size = x.provider.size + q.size })
  pub other_providers : (w : World) (x : Growing) (q : Provider) (n : ℕ) → n ≢ x.provider.number
      → provider_at (grown w x q) n ≡ provider_at w.topology n
  pub consumer : (w : World) (x : Growing) (q : Provider) → IsInOrder w.topology
      → consumer_at (grown w x q) w.topology.next_consumer
      ≡ Some (record {
        number = w.topology.next_consumer;
        geom = x.geom.number;
        provider = Some q.number;
        spoiled = false;
      })
  pub other_consumers : (w : World) (x : Growing) (q : Provider) (n : ℕ) → n ≢ w.topology.next_consumer
      → consumer_at (grown w x q) n ≡ consumer_at w.topology n
  pub order : (w : World) (x : Growing) (q : Provider) → IsInOrder w.topology → IsInOrder (grown w x q)

-- ranks and counts after an append are those of the graph with the new consumer alone
pub record GrowthIsNotSeen : Type 0 where
  pub ranks : (w : World) (x : Growing) (q : Provider)
      → AllRanksStay (add_consumer w.topology x.geom.number (Some q.number)) (grown w x q)
  pub counts : (w : World) (x : Growing) (q : Provider) (granted : ℕ → Counts)
      → DemandStays granted (add_consumer w.topology x.geom.number (Some q.number)) granted (grown w x q) AnyConsumer

-- each offset lies in the end where it lay: from the one graph to the other where each part stands as far as the way
-- down goes, and across an append, for each provider with no error below
pub record FlatStays : Type 0 where
  pub kept : (t u : Topology Config) → KeepsWays t u → Ranked t → (p o : ℕ) → All (IsLaid t) (below t p)
      → IsSomeAnd (provider_at t p) (λ y. o < y.size) → flat u p o ≡ flat t p o
  pub grown : (w : World) (x : Growing) (q : Provider) → Sound w → IsFoundGrowing w.topology x
      → (p o : ℕ) → has_error_below w.topology p ≡ false → IsSomeAnd (provider_at w.topology p) (λ y. o < y.size)
      → flat (grown w x q) p o ≡ flat w.topology p o

-- an append that isn't refused: the new consumer joins, the ranks hold, none comes to stand in another's way, and no
-- count comes above the limit
pub record AppendsHold : Type 0 where
  pub joins : (w : World) (x : Growing) (q : Provider) → Sound w → Steady w → IsFoundGrowing w.topology x
      → provider_at w.topology q.number ≡ Some q → component_refusal w x q ≡ None
      → Joins (add_consumer w.topology x.geom.number None) w.topology.next_consumer q.number
  pub ranks : (w : World) (x : Growing) (q : Provider) → Sound w → Steady w → IsFoundGrowing w.topology x
      → provider_at w.topology q.number ≡ Some q → component_refusal w x q ≡ None → RanksHold (grown w x q)
  pub exclusive : (w : World) (x : Growing) (q : Provider) → Sound w → component_refusal w x q ≡ None
      → IsTrue (is_exclusive (granted_in w) (grown w x q))
  pub limit : (w : World) (x : Growing) (q : Provider) → Sound w → component_refusal w x q ≡ None
      → IsTrue (fits_limit (granted_in w) (grown w x q))
