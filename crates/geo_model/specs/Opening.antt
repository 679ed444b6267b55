-- The world with which a plan begins.
use Rattle.std.specs.Prelude.{ℕ, ◌*◌, false, not, List, [], length, map, fold, filter, zip, None}
use Rattle.std.specs.List.{enumerate_from, range_with_len}
use Rattle.geo_base.specs.declared.kind.Kind.TheVariants as kinds
use Rattle.geo_model.specs.declared.command.DiskDecl.{DiskDecl}
use Rattle.geo_model.specs.Names.{dev_name, taste_name}
use Rattle.geo_model.specs.Topology.{Topology, add_geom}
use Rattle.geo_model.specs.World.{World, Config, Nothing, Plan, HeaderDisk, commands_of}
use Rattle.geo_model.specs.GeomCommands.{stand}

-- the topology with DEV, geom 1, and TASTE, geom 2
abbrev pub first_topology : Topology Config
first_topology =
    add_geom
    (add_geom (record {
      geoms = [];
      providers = [];
      consumers = [];
      next_geom = 1;
      next_provider = 1;
      next_consumer = 1;
    })
    kinds.Dev dev_name Nothing false)
    kinds.Taste taste_name Nothing false

-- a disk of the header in the size that it has: facts are its sector size and its sectors
abbrev pub disk_in_size : DiskDecl × (ℕ × ℕ) → HeaderDisk
disk_in_size item = record { name = item.0.name; sector = item.1.0; size = item.1.0 * item.1.1 }

-- the world before any disk stands
abbrev pub bare_world : Plan → List (ℕ × ℕ) → World
bare_world plan facts = record {
  topology = first_topology;
  handles = [];
  bios = [];
  events = [];
  taste = None;
  actors = map (commands_of plan) (range_with_len 0 (length plan.actors));
  disks = map disk_in_size (zip plan.disks facts);
  next_handle = 1;
  next_bio = 1;
}

-- the world of the opening: each disk without `later` stands, in header order
unfoldable pub opening : Plan → List (ℕ × ℕ) → World
opening plan facts =
    fold (λ w item. stand w (item.0, disk_in_size item.1))
    (bare_world plan facts)
    (filter (λ item. not item.1.0.later) (enumerate_from 0 (zip plan.disks facts)))
