-- What each step keeps of names: those of providers and of the disks of the header, and the commands that are left.
use Rattle.std.specs.Prelude.{◌≡◌, ℕ, true, List, Option, Some, None}
use Rattle.std.specs.List.{AllByRecursion}
use Rattle.std.specs.Option.{option_map_or}
use Rattle.std.proofs.Common.{sym, subst}
use Rattle.geo_base.specs.Name.{is_name}
use Rattle.geo_model.specs.declared.command.LineCommand.{LineCommand}
use Rattle.geo_model.specs.Plans.{IsCommand}
use Rattle.geo_model.specs.Topology.{Topology, remove_consumer}
use Rattle.geo_model.specs.Demand.{risen, fallen}
use Rattle.geo_model.specs.World.{World, Config, HeaderDisk, granted_in}
use Rattle.geo_model.specs.Events.{QueuedTopology}
use Rattle.geo_model.specs.WorldEvents.{queued_of, with_queued, after_open, after_close}
use Rattle.geo_laws_texts.proofs.Graphs.{Named, risen_named, fallen_named}

-- a disk of the header has a name that is one
abbrev pub IsNamedDisk : HeaderDisk → Type 0
IsNamedDisk d = is_name d.name ≡ true

-- all commands are of a plan
abbrev pub AreCommands : List LineCommand → Type 0
AreCommands cs = AllByRecursion (λ c. IsCommand c.command) cs

-- all of it
pub record KeepsNames (w : World) : Type 0 where
  pub graph : Named w.topology
  pub disks : AllByRecursion IsNamedDisk w.disks
  pub left : AllByRecursion AreCommands w.actors

-- with another graph, in which the providers have names
pub with_graph : (w v : World) → KeepsNames w → v.disks ≡ w.disks → v.actors ≡ w.actors → Named v.topology
    → KeepsNames v
with_graph w v keeps disks actors graph = record {
  graph = graph;
  disks = subst (AllByRecursion IsNamedDisk) (sym disks) keeps.disks;
  left = subst (AllByRecursion AreCommands) (sym actors) keeps.left;
}

pub with_queue : (w : World) (q : QueuedTopology Config) → KeepsNames w → Named q.topology
    → KeepsNames (with_queued w q)
with_queue w q keeps graph = record { graph = graph; disks = keeps.disks; left = keeps.left }

-- what follows an open and a close
pub opened_keeps : (w v : World) → KeepsNames v → KeepsNames (after_open w v)
opened_keeps w v keeps =
    with_queue v _ keeps
    (risen_named (granted_in v) (risen (granted_in w) w.topology (granted_in v) v.topology) (queued_of v) keeps.graph)

pub closed_keeps : (w v : World) → KeepsNames v → KeepsNames (after_close w v)
closed_keeps w v keeps =
    with_queue v _ keeps
    (fallen_named (fallen (granted_in w) w.topology (granted_in v) v.topology) (queued_of v) keeps.graph)

-- a consumer is gone, if there is one
pub removed_named : (t : Topology Config) (o : Option ℕ) → Named t → Named (option_map_or (remove_consumer t) o t)
removed_named t None named = named
removed_named t (Some c) named = named
