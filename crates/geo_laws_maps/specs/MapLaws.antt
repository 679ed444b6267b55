-- Laws of the address maps of one mesh (geom(4)).
use Rattle.std.specs.Prelude.{◌≡◌, ℕ, Some, Contains}
use Rattle.geo_model.specs.Topology.{Geom, Provider, geom_at, provider_at}
use Rattle.geo_model.specs.World.{World, Config, Bio}
use Rattle.geo_model.specs.Place.{flat, flat_step, ends, ends_step}
use Rattle.geo_model.specs.Fitting.{Firm}
use Rattle.geo_laws_maps.specs.Ways.{IsWays, IsOpen, Used}

-- in a firm mesh a provider to which a bio goes is open
abbrev pub LiveIsOpen : Type 0
LiveIsOpen = (w : World) (x : Bio) → Firm w → Contains w.bios x → IsOpen w x.target

-- an open provider stands with its geom, and each component of the geom is a consumer of it at an open provider
abbrev pub OpenGoesDown : Type 0
OpenGoesDown = (w : World) → Firm w → IsWays w.topology (IsOpen w)

-- all that bios use is open, and closed downwards
pub record UsedGoesDown : Type 0 where
  pub opened : (w : World) (p : ℕ) → Firm w → Used w p → IsOpen w p
  pub ways : (w : World) → Firm w → IsWays w.topology (Used w)

-- the map of an open provider is made of those of the providers below: where each offset lies, and which disks are
-- reached
pub record MapGoesDown : Type 0 where
  pub flat : (w : World) (p : ℕ) (x : Provider) (g : Geom Config) → Firm w → IsOpen w p
      → provider_at w.topology p ≡ Some x → geom_at w.topology x.geom ≡ Some g
      → (o : ℕ) → flat w.topology p o ≡ flat_step (flat w.topology) w.topology g.config x o
  pub ends : (w : World) (p : ℕ) (x : Provider) (g : Geom Config) → Firm w → IsOpen w p
      → provider_at w.topology p ≡ Some x → geom_at w.topology x.geom ≡ Some g
      → ends w.topology p ≡ ends_step (ends w.topology) w.topology g.config
