-- A graph that has come to less: some parts are gone, more is in error or withers, marks are others, and nothing else
-- is new. With such a graph a firm world stays firm: one that is sound, steady and fitting (g_event(9),
-- g_wither_geom(9)).
use Rattle.std.specs.Prelude.{◌≡◌, ◌⊎◌, ℕ, ◌≤◌, true, false, List, length, Some, Contains, IsSome, IsTrue, All}
use Rattle.geo_model.specs.declared.step.Event.{Event}
use Rattle.geo_model.specs.Topology.{Topology, Geom, Provider, Consumer, geom_at, provider_at, consumer_at, providers_of, consumers_of, is_withering}
use Rattle.geo_model.specs.Rank.{rank}
use Rattle.geo_model.specs.Demand.{want, no_counts}
use Rattle.geo_model.specs.Events.{provider_of_event}
use Rattle.geo_model.specs.World.{World, Config, granted_in}
use Rattle.geo_model.specs.Graph.{IsInOrder, PartsLive}
use Rattle.geo_model.specs.Sound.{RanksHold, HasTasteConsumer}
use Rattle.geo_model.specs.Fitting.{Firm}
use Rattle.geo_laws_counts.specs.CountWords.{DemandStays, AnyConsumer}

-- the member of a list from which an item of another list comes
pub record ComesFrom {X : Type 0} (R : X → X → Type 0) (xs : List X) (y : X) : Type 0 where
  pub item : X
  pub stands : Contains xs item
  pub fact : R item y

-- the geom stays what it is but that it may wither, and for its started requests
pub record IsGeomOf (x y : Geom Config) : Type 0 where
  pub same : y ≡ record x { withering = y.withering; started = y.started }
  pub withering : x.withering ≡ true → y.withering ≡ true

-- the provider stays what it is but that it may have an error
pub record IsProviderOf (x y : Provider) : Type 0 where
  pub same : y ≡ record x { errored = y.errored }
  pub errored : x.errored ≡ true → y.errored ≡ true

-- the consumer stays what it is but for its mark
pub record IsConsumerOf (x y : Consumer) : Type 0 where
  pub same : y ≡ record x { spoiled = y.spoiled }

-- the consumer's geom withers, and it holds no count
pub record IsSpent (w : World) (x : Consumer) : Type 0 where
  pub geom : Geom Config
  pub found : geom_at w.topology x.geom ≡ Some geom
  pub withering : geom.withering ≡ true
  pub idle : want (granted_in w) w.topology x ≡ no_counts

-- the graph of a world that has come to less: it is in order, and what its parts name lives; each part was there
-- before; ranks and counts are no greater; and the consumers that are gone were spent
pub record IsLess (w : World) (u : Topology Config) : Type 0 where
  pub order : IsInOrder u
  pub ranks : RanksHold u
  pub lower : (g : ℕ) → rank u g ≤ rank w.topology g
  pub demand : DemandStays (granted_in w) w.topology (granted_in w) u AnyConsumer
  pub live : PartsLive u
  pub geoms : (y : Geom Config) → Contains u.geoms y → ComesFrom IsGeomOf w.topology.geoms y
  pub providers : (y : Provider) → Contains u.providers y → ComesFrom IsProviderOf w.topology.providers y
  pub consumers : (y : Consumer) → Contains u.consumers y → ComesFrom IsConsumerOf w.topology.consumers y
  pub fewer : (g : ℕ) → length (providers_of u g) ≤ length (providers_of w.topology g)
  pub stay : (x : Consumer) → Contains w.topology.consumers x → IsSome (consumer_at u x.number) ⊎ IsSpent w x
  pub tasting : HasTasteConsumer u w.taste

-- a firm world's graph has come to less by nothing; and with a graph that has come to less a firm world is firm,
-- where each provider of a geom that withers carries an error, no consumer of DEV is marked, and the events are of
-- providers that live
pub record LessIsFirm : Type 0 where
  pub itself : (w : World) → Firm w → IsLess w w.topology
  pub firm : (w : World) (u : Topology Config) (queue : List Event) → Firm w → IsLess w u
      → All (λ x. IsTrue (is_withering u x.geom) → x.errored ≡ true) u.providers
      → All (λ c. c.spoiled ≡ false) (consumers_of u 1)
      → All (λ e. IsSome (provider_at u (provider_of_event e))) queue
      → Firm (record w { topology = u; events = queue })
