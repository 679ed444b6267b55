-- Worlds that are sound and steady but not fitting, and a step after which they aren't sound.
use Rattle.std.specs.Prelude.{ℕ, ◌+◌, ◌==◌, true, false, not, ◌&&◌, Bool, List, [], ◌∷◌, ◌++◌, replicate, Some, None, codes, Ok, Err, map, if◌then◌else◌}
use Rattle.geo_base.specs.declared.kind.Kind.{Kind}
use Rattle.geo_base.specs.declared.kind.Kind.TheVariants as kinds
use Rattle.geo_base.specs.declared.request.BioCmd.{BioCmd}
use Rattle.geo_base.specs.declared.request.BioCmd.TheVariants as cmds
use Rattle.geo_base.specs.declared.request.Counts.{Counts}
use Rattle.geo_model.specs.declared.command.Command.{Command}
use Rattle.geo_model.specs.declared.command.Command.TheVariants as commands
use Rattle.geo_model.specs.declared.step.BioResult.TheVariants as results
use Rattle.geo_model.specs.declared.step.Owner.{Owner}
use Rattle.geo_model.specs.declared.step.Owner.TheVariants as owners
use Rattle.geo_model.specs.declared.step.Phase.{Phase}
use Rattle.geo_model.specs.declared.step.Phase.TheVariants as phases
use Rattle.geo_model.specs.declared.step.Step.{Step}
use Rattle.geo_model.specs.Chain.{no_links}
use Rattle.geo_model.specs.Topology.{Topology, Geom, Provider, Consumer}
use Rattle.geo_model.specs.World.{World, Config, Disk, Ebr, Concat, Stripe, Nop, Handle, Bio, Asked, NoClass, NextSector, ReadOut, ReadBack, HeaderDisk}
use Rattle.geo_model.specs.Opening.{first_topology}
use Rattle.geo_model.specs.Records.{concat_sector}
use Rattle.geo_model.specs.Step.{Answer, step}
use Rattle.geo_rows.specs.Rows.{counts, command}
use Rattle.geo_rows.specs.WorkedChains.{link}
use Rattle.geo_rows.specs.WorkedFitting.{is_fitting_world}
use Rattle.geo_rows.specs.WorkedSound.{is_sound}
use Rattle.geo_rows.specs.WorkedSteady.{is_steady}

-- whether the step is enabled, and the world after it isn't sound
abbrev pub breaks_by : Answer → Bool
breaks_by (Ok made) = not (is_sound made.0)
breaks_by (Err found) = false

-- whether the world is sound and steady, isn't fitting, and isn't sound after the step
abbrev pub is_loose : World → Step → Bool
is_loose w s = is_sound w && (is_steady w && (not (is_fitting_world w) && breaks_by (step w 0 s)))

-- whether the world is sound and steady, and isn't fitting
abbrev pub is_unfit : World → Bool
is_unfit w = is_sound w && (is_steady w && not (is_fitting_world w))

-- Parts of such worlds

abbrev pub geom : ℕ → Kind → List ℕ → Config → Bool → Geom Config
geom number kind name config automatic = record {
  number = number;
  kind = kind;
  name = name;
  config = config;
  automatic = automatic;
  withering = false;
  started = 0;
}

abbrev pub disk_geom : ℕ → List ℕ → ℕ → Geom Config
disk_geom number name disk = geom number kinds.Disk name (Disk disk) false

abbrev pub provider : ℕ → ℕ → List ℕ → ℕ → ℕ → Provider
provider number geom name size sector =
    record { number = number; geom = geom; name = name; size = size; sector = sector; errored = false }

abbrev pub consumer : ℕ → ℕ → ℕ → Consumer
consumer number geom p = record { number = number; geom = geom; provider = Some p; spoiled = false }

-- the geoms beside DEV and TASTE, the providers and the consumers, with numbers below 9
abbrev pub topology : List (Geom Config) → List Provider → List Consumer → Topology Config
topology gs ps cs = record first_topology {
  geoms = first_topology.geoms ++ gs;
  providers = ps;
  consumers = cs;
  next_geom = 9;
  next_provider = 9;
  next_consumer = 9;
}

abbrev pub loose_world : Topology Config → List HeaderDisk → World
loose_world t disks = record {
  topology = t;
  handles = [];
  bios = [];
  events = [];
  taste = None;
  actors = [];
  disks = disks;
  next_handle = 9;
  next_bio = 9;
}

abbrev pub loose_disk : List ℕ → ℕ → ℕ → HeaderDisk
loose_disk name sector size = record { name = name; sector = sector; size = size }

-- disks of four sectors of 512 bytes
abbrev pub small_disk : List ℕ → HeaderDisk
small_disk name = loose_disk name 512 2048

abbrev pub one_disk : World
one_disk =
    loose_world (topology (disk_geom 3 (codes "md0") 0 ∷ []) (provider 1 3 (codes "md0") 2048 512 ∷ []) [])
    (small_disk (codes "md0") ∷ [])

-- a taste of a provider is under way, by consumer 8
abbrev pub tasting : World → ℕ → List Kind → Asked → World
tasting w p classes asked = record w {
  topology = record w.topology { consumers = w.topology.consumers ++ consumer 8 2 p ∷ [] };
  taste = Some (record { provider = p; consumer = 8; classes = classes; asked = asked; reads = 1; chain = no_links });
}

abbrev pub commanded : World → Command → World
commanded w c = record w { actors = (command 3 0 c ∷ []) ∷ [] }

-- handle 1 of actor 0
abbrev pub handle : ℕ → Counts → Handle
handle c grant = record { number = 1; actor = 0; name = codes "h"; consumer = Some c; grant = grant; dead = false }

abbrev pub bio : ℕ → BioCmd → ℕ → ℕ → ℕ → Owner → Phase → Bio
bio number cmd len source target owner phase = record {
  number = number;
  cmd = cmd;
  offset = 0;
  len = len;
  bytes = [];
  source = source;
  target = target;
  owner = owner;
  phase = phase;
  result = None;
}

-- The worlds

-- a nop whose window doesn't begin at a sector: the child of a read doesn't either
abbrev pub crooked_nop : World
crooked_nop = record (loose_world (topology
    (disk_geom 3 (codes "md0") 0 ∷ geom 4 kinds.Nop (codes "md0.nop") (Nop (Some 1) 100 0) false ∷ [])
    (provider 1 3 (codes "md0") 2048 512 ∷ provider 2 4 (codes "md0.nop") 512 512 ∷ [])
    (consumer 1 4 1 ∷ consumer 2 1 2 ∷ []))
    (small_disk (codes "md0") ∷ [])) {
      handles = handle 2 (counts 1 0 0) ∷ [];
      bios = bio 1 cmds.Read 512 2 2 (owners.Line 1 3) phases.Down ∷ [];
    }

-- two disks, and a concat with these consumers and sizes
abbrev pub two_disks_with : Geom Config → List Provider → List Consumer → World
two_disks_with g ps cs =
    loose_world (topology
    (disk_geom 3 (codes "md0") 0 ∷ disk_geom 4 (codes "md1") 1 ∷ g ∷ [])
    (provider 1 3 (codes "md0") 2048 512 ∷ provider 2 4 (codes "md1") 2048 512 ∷ ps)
    cs)
    (small_disk (codes "md0") ∷ small_disk (codes "md1") ∷ [])

-- an assembly of which the kept size of the first component is larger than the component
abbrev pub large_component : World
large_component =
    tasting
    (two_disks_with (geom 5 kinds.Concat (codes "v") (Concat (Some 7) (Some 1 ∷ None ∷ []) (4096 ∷ 0 ∷ [])) true) []
    (consumer 1 5 1 ∷ []))
    2 []
    (ReadBack kinds.Concat
    (results.Bytes (concat_sector 512 (record { name = codes "v"; id = 7; place = 1; count = 2 }))))

-- a partition table is judged on a disk of large sectors
abbrev pub large_sectors : World
large_sectors =
    tasting
    (loose_world (topology (disk_geom 3 (codes "md0") 0 ∷ []) (provider 1 3 (codes "md0") 16384 4096 ∷ []) [])
    (loose_disk (codes "md0") 4096 16384 ∷ []))
    1 []
    (ReadBack kinds.Mbr
    (results.Bytes (replicate 450 0 ++ 165 ∷ 0 ∷ 0 ∷ 0 ∷ 1 ∷ 0 ∷ 0 ∷ 0 ∷ 1 ∷ replicate 51 0 ++ 85 ∷ 170 ∷ [])))

-- the next sector of a class is past the end
abbrev pub far_sector : World
far_sector = tasting one_disk 1 [] (NextSector kinds.Label 1000)

-- a disk of the header that doesn't stand has no byte
abbrev pub empty_disk : World
empty_disk =
    commanded (loose_world (topology [] [] []) (loose_disk (codes "md0") 512 0 ∷ [])) (commands.Insert (codes "md0"))

-- a command that no plan has
abbrev pub strange_command : World
strange_command = commanded one_disk (commands.Destroy kinds.Dev (codes "dev"))

-- two reads of one taste are on their way up
abbrev pub root : ℕ → Bio
root number = record (bio number cmds.Read 512 8 1 owners.Taste phases.Up) {
  result = Some (results.Bytes (replicate 512 0));
}

abbrev pub two_roots : World
two_roots = record (tasting one_disk 1 [] (ReadOut kinds.Mbr)) { bios = root 1 ∷ root 2 ∷ [] }

-- a disk with sectors that no disk has
abbrev pub huge_sector : World
huge_sector =
    let w : World =
    tasting
    (loose_world (topology (disk_geom 3 (codes "md0") 0 ∷ []) (provider 1 3 (codes "md0") 131072 65536 ∷ []) [])
    (loose_disk (codes "md0") 65536 131072 ∷ []))
    1 (kinds.Label ∷ []) NoClass
    in record w {
      taste = Some (record {
        provider = 1;
        consumer = 8;
        classes = kinds.Label ∷ [];
        asked = NoClass;
        reads = 0;
        chain = no_links;
      });
    }

-- a concat with two providers: a flush waits at the second while the first grows
abbrev pub two_providers : World
two_providers = record (commanded (two_disks_with
    (geom 5 kinds.Concat (codes "v") (Concat None (Some 1 ∷ []) (2048 ∷ [])) false)
    (provider 3 5 (codes "concat/v") 2048 512 ∷ provider 4 5 (codes "concat/z") 2048 512 ∷ [])
    (consumer 1 5 1 ∷ consumer 2 1 4 ∷ []))
    (commands.Append (codes "v") (codes "md1"))) {
      handles = handle 2 (counts 1 1 0) ∷ [];
      bios = bio 1 cmds.Flush 0 2 4 (owners.Line 1 3) phases.Waiting
          ∷ bio 2 cmds.Flush 0 1 1 (owners.Child 1 0) phases.Sent ∷ [];
    }

-- a concat keeps a larger size than its component has, and grows
abbrev pub large_concat : World
large_concat =
    commanded (two_disks_with
    (geom 5 kinds.Concat (codes "v") (Concat None (Some 1 ∷ []) (4096 ∷ [])) false)
    (provider 3 5 (codes "concat/v") 2048 512 ∷ [])
    (consumer 1 5 1 ∷ []))
    (commands.Append (codes "v") (codes "md1"))

-- a stripe whose provider is shorter than its components make it: what counts its strips by the size loses some
abbrev pub short_stripe : World
short_stripe =
    two_disks_with
    (geom 5 kinds.Stripe (codes "v") (Stripe None 512 (Some 1 ∷ Some 2 ∷ []) (2048 ∷ 2048 ∷ [])) false)
    (provider 3 5 (codes "stripe/v") 2048 512 ∷ [])
    (consumer 1 5 1 ∷ consumer 2 5 2 ∷ [])

-- two providers again: a taste of the second is under way while the first grows by the top of a tower of nops
abbrev pub nop_at : ℕ → Geom Config
nop_at k = geom (k + 5) kinds.Nop (codes "n") (Nop (Some (k + 1)) 0 0) false

-- nop k is geom k + 5, has consumer k + 1 and provider k + 4
abbrev pub tower : List ℕ
tower = 1 ∷ 2 ∷ 3 ∷ 4 ∷ 5 ∷ 6 ∷ []

abbrev pub nop_provider : ℕ → Provider
nop_provider k = provider (k + 4) (k + 5) (codes "n" ++ (k + 48) ∷ []) 2048 512

abbrev pub nop_consumer : ℕ → Consumer
nop_consumer k = consumer (k + 1) (k + 5) (if k == 1 then 2 else k + 3)

abbrev pub tasted_twin : World
tasted_twin =
    let t : Topology Config =
    topology
    (disk_geom 3 (codes "md0") 0 ∷ disk_geom 4 (codes "md1") 1
    ∷ geom 5 kinds.Concat (codes "v") (Concat None (Some 1 ∷ []) (2048 ∷ [])) false ∷ map nop_at tower)
    (provider 1 3 (codes "md0") 2048 512 ∷ provider 2 4 (codes "md1") 2048 512
    ∷ provider 3 5 (codes "concat/v") 2048 512 ∷ provider 4 5 (codes "concat/z") 2048 512 ∷ map nop_provider tower)
    (consumer 1 5 1 ∷ map nop_consumer tower)
    in commanded
    (tasting
    (loose_world (record t { next_geom = 12; next_provider = 11 })
    (small_disk (codes "md0") ∷ small_disk (codes "md1") ∷ []))
    4 [] (ReadBack kinds.Label results.Done))
    (commands.Append (codes "v") (codes "n6"))

-- a disk of four sectors of 4,096 bytes
abbrev pub large_disk : HeaderDisk
large_disk = loose_disk (codes "md0") 4096 16384

-- a partition that doesn't begin at a sector of the disk below: the child of a read doesn't either
abbrev pub crooked_part : World
crooked_part = record (loose_world (topology
    (disk_geom 3 (codes "md0") 0
    ∷ geom 4 kinds.Ebr (codes "md0") (Ebr (Some 1) (Some (record { first = 1; count = 8 }) ∷ [])) true ∷ [])
    (provider 1 3 (codes "md0") 16384 4096 ∷ provider 2 4 (codes "md0l1") 4096 4096 ∷ [])
    (consumer 1 4 1 ∷ consumer 2 1 2 ∷ []))
    (large_disk ∷ [])) {
      handles = handle 2 (counts 1 0 0) ∷ [];
      bios = bio 1 cmds.Read 4096 2 2 (owners.Line 1 3) phases.Down ∷ [];
    }

-- a link of a chain is judged on a disk of large sectors
abbrev pub large_link : World
large_link =
    tasting
    (loose_world (topology (disk_geom 3 (codes "md0") 0 ∷ []) (provider 1 3 (codes "md0") 16384 4096 ∷ []) [])
    (large_disk ∷ []))
    1 [] (ReadBack kinds.Ebr (results.Bytes (link 165 1 1 0 0)))

-- a writer labels by a name that is longer than a sector has room for
abbrev pub long_label : World
long_label = record (commanded (loose_world (topology
    (disk_geom 3 (codes "md0") 0 ∷ [])
    (provider 1 3 (codes "md0") 2048 512 ∷ [])
    (consumer 2 1 1 ∷ []))
    (small_disk (codes "md0") ∷ []))
    (commands.Relabel (codes "h") (replicate 493 97))) {
      handles = handle 2 (counts 0 1 0) ∷ [];
    }
