-- A place of a standing assembly that a provider takes: the geom has one more consumer, and a firm mesh stays firm
-- (g_attach(9), geom(4)).
use Rattle.std.specs.Prelude.{◌≡◌, ℕ, ◌-◌, ◌<◌, false, [], Some, ⊤}
use Rattle.geo_base.specs.declared.limits.TheConstants.{MAX_RANK}
use Rattle.geo_model.specs.Topology.{Geom, Provider, geom_at, provider_at, providers_of}
use Rattle.geo_model.specs.Rank.{rank}
use Rattle.geo_model.specs.World.{World, Config, Concat, Stripe}
use Rattle.geo_model.specs.WorldEvents.{queued_of, with_queued}
use Rattle.geo_model.specs.Acceptance.{fill_place, with_place}
use Rattle.geo_model.specs.Fitting.{IsWholeIn, Firm}

-- a provider can take a place: it stands, and a geom over it isn't too high
pub record CanTakePlace (w : World) (p : Provider) : Type 0 where
  pub found : provider_at w.topology p.number ≡ Some p
  pub low : rank w.topology p.geom < MAX_RANK

-- the configuration of an assembly
abbrev pub IsAssembly : Config → Type 0
IsAssembly (Concat id places sizes) = ⊤
IsAssembly (Stripe id stripe places sizes) = ⊤
IsAssembly _ = ⊥

-- a standing geom is an assembly without providers
pub record IsOpenAssembly (w : World) (g : Geom Config) : Type 0 where
  pub stands : geom_at w.topology g.number ≡ Some g
  pub upright : g.withering ≡ false
  pub assembly : IsAssembly g.config
  pub offers_none : providers_of w.topology g.number ≡ []

-- with a place that is taken a firm mesh is firm
pub record TakesStayFirm : Type 0 where
  pub take : (w : World) (p : Provider) (g : Geom Config) (k : ℕ) → Firm w → CanTakePlace w p → IsOpenAssembly w g
      → IsWholeIn g.config p.sector
      → Firm (with_queued w (with_place (queued_of w) p g.number
      (fill_place g.config k w.topology.next_consumer (p.size - p.sector))))
