-- What is made here is what the model makes.
use Rattle.std.specs.Prelude.{◌≡◌, ℕ, List, map, option_map}
use Rattle.geo_base.specs.declared.kind.Kind.{Kind}
use Rattle.geo_model.specs.declared.class.Shape.{Shape}
use Rattle.geo_model.specs.Topology.{Provider}
use Rattle.geo_model.specs.World.{Config, HeaderDisk}
use Rattle.geo_model.specs.Acceptance.{accept}
use Rattle.geo_model.specs.GeomCommands.{build, stand_disk}
use Rattle.geo_taste.specs.Making.{QueuedMesh, queued, with_built, with_disk}
use Rattle.geo_taste.specs.Accepting.{accepted}

-- the graph with the events is that of the model: with the geom of a command, with that of a disk, and with what a
-- class makes of a shape that it accepts
pub record MakesAsTheModel : Type 0 where
  pub build : (m : QueuedMesh) (kind : Kind) (geom_name : List ℕ) (config : Config) (ps : List Provider)
      (name : List ℕ) (size sector : ℕ)
      → queued (with_built m kind geom_name config (map (λ p. p.number) ps) name size sector)
      ≡ build (queued m) kind geom_name config ps name size sector
  pub disk : (m : QueuedMesh) (disk : ℕ) (item : HeaderDisk)
      → queued (with_disk m disk item.name item.size item.sector) ≡ stand_disk (queued m) (disk, item)
  pub accept : (m : QueuedMesh) (p : Provider) (shape : Shape)
      → option_map queued (accepted m p shape) ≡ accept (queued m) p shape
