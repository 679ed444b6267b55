-- Which plans there are, and which sizes of disks fit them.
use Rattle.std.specs.Prelude.{◌≡◌, ◌≢◌, ◌⊎◌, ℕ, ◌*◌, ◌^◌, ◌<◌, ◌≤◌, not, List, length, map, All, AllPairs, IsTrue, ⊤}
use Rattle.std.specs.List.{AllZip, list_any}
use Rattle.std.specs.List.Sorted.{IsStrictlyIncreasing}
use Rattle.geo_base.specs.Kind.{adds_exclusive}
use Rattle.geo_base.specs.Name.{is_short_name, is_name}
use Rattle.geo_base.specs.Sectors.{IsSectorSize}
use Rattle.geo_base.specs.declared.request.Counts.{Counts}
use Rattle.geo_base.specs.declared.kind.Kind.{Kind}
use Rattle.geo_base.specs.declared.kind.Kind.TheVariants as kinds
use Rattle.geo_base.specs.declared.limits.TheConstants.{MAX_ACTORS, MAX_COMPONENTS, MAX_DISKS, MAX_IMAGE_BYTES, MAX_MEMORY_DISK_BYTES, MAX_RUNS_BYTES, MAX_SCRIPT_LINES}
use Rattle.geo_model.specs.declared.command.Command.{Command}
use Rattle.geo_model.specs.declared.command.Command.TheVariants as commands
use Rattle.geo_model.specs.declared.command.DiskDecl.{DiskDecl}
use Rattle.geo_model.specs.declared.command.DiskKind.{DiskKind}
use Rattle.geo_model.specs.declared.command.DiskKind.TheVariants as disk_kinds
use Rattle.geo_model.specs.declared.command.LineCommand.{LineCommand}
use Rattle.geo_model.specs.Words.{same_name}
use Rattle.geo_model.specs.Script.{header_words}
use Rattle.geo_model.specs.World.{Plan}

abbrev pub IsShortName : List ℕ → Type 0
IsShortName name = IsTrue (is_short_name name)

abbrev pub IsProviderName : List ℕ → Type 0
IsProviderName name = IsTrue (is_name name)

abbrev pub IsWord64 : ℕ → Type 0
IsWord64 n = n < 2 ^ 64

-- counts of one digit each, not all zero
pub record IsGrant (a : Counts) : Type 0 where
  pub r : a.r ≤ 9
  pub w : a.w ≤ 9
  pub e : a.e ≤ 9
  pub some : (a.r ≢ 0) ⊎ (a.w ≢ 0) ⊎ (a.e ≢ 0)

-- some bytes, and no more than a text of runs may stand for
pub record IsRunsBytes (bytes : List ℕ) : Type 0 where
  pub some : 1 ≤ length bytes
  pub not_long : length bytes ≤ MAX_RUNS_BYTES
  pub each : All (λ b. b < 256) bytes

-- some names of providers, and no more than a geom may have components
pub record AreComponents (names : List (List ℕ)) : Type 0 where
  pub some : 1 ≤ length names
  pub not_many : length names ≤ MAX_COMPONENTS
  pub each : All IsProviderName names

-- the numbers of a record
pub record IsMark (id place count : ℕ) : Type 0 where
  pub id_fits : id < 2 ^ 32
  pub place_fits : place < 2 ^ 16
  pub some_place : 1 ≤ count
  pub few_places : count ≤ MAX_COMPONENTS

pub record IsStripe (stripe : ℕ) : Type 0 where
  pub some : 1 ≤ stripe
  pub limited : stripe < 2 ^ 32

-- a class that a command can name
abbrev pub IsNamedClass : Kind → Type 0
IsNamedClass kind = IsTrue (adds_exclusive kind) ⊎ (kind ≡ kinds.Nop)

-- a command whose words have their forms
abbrev pub IsCommand : Command → Type 0
IsCommand (commands.Open h p grant) = IsShortName h × IsProviderName p × IsGrant grant
IsCommand (commands.Close h) = IsShortName h
IsCommand (commands.Read h offset len) = IsShortName h × IsWord64 offset × IsWord64 len
IsCommand (commands.Write h offset bytes) = IsShortName h × IsWord64 offset × IsRunsBytes bytes
IsCommand (commands.Delete h offset len) = IsShortName h × IsWord64 offset × IsWord64 len
IsCommand (commands.Flush h) = IsShortName h
IsCommand commands.Sync = ⊤
IsCommand commands.Settle = ⊤
IsCommand (commands.Insert disk) = IsShortName disk
IsCommand (commands.Pull disk) = IsShortName disk
IsCommand (commands.Nop p offset size fail) = IsProviderName p × IsWord64 offset × IsWord64 size × IsWord64 fail
IsCommand (commands.Concat name ps) = IsShortName name × AreComponents ps
IsCommand (commands.Stripe name stripe ps) = IsShortName name × IsStripe stripe × AreComponents ps
IsCommand (commands.Append name p) = IsShortName name × IsProviderName p
IsCommand (commands.Destroy kind geom) = IsNamedClass kind × IsProviderName geom
IsCommand (commands.Label h name) = IsShortName h × IsShortName name
IsCommand (commands.Relabel h name) = IsShortName h × IsShortName name
IsCommand (commands.MarkConcat h name id place count) = IsShortName h × IsShortName name × IsMark id place count
IsCommand (commands.MarkStripe h name id place count stripe) = IsShortName h × IsShortName name
    × IsMark id place count × IsStripe stripe
IsCommand commands.Mesh = ⊤

-- a command of one of so many actors
pub record IsCommandOf (actors : ℕ) (c : LineCommand) : Type 0 where
  pub actor : c.actor < actors
  pub command : IsCommand c.command

-- the number of a line of a script
pub record IsLineNumber (line : ℕ) : Type 0 where
  pub some : 1 ≤ line
  pub few : line ≤ MAX_SCRIPT_LINES

-- the sectors of a disk as the header gives them
abbrev pub HasSectors : DiskKind → ℕ → ℕ → Type 0
HasSectors disk_kinds.Ram sector sectors = (1 ≤ sectors) × (sectors * sector ≤ MAX_MEMORY_DISK_BYTES)
HasSectors disk_kinds.Shelf sector sectors = sectors ≡ 0

pub record IsDiskDecl (d : DiskDecl) : Type 0 where
  pub name : IsShortName d.name
  pub sector : IsSectorSize d.sector
  pub sectors : HasSectors d.kind d.sector d.sectors

-- a name of an actor that isn't a word of the header
pub record IsActor (name : List ℕ) : Type 0 where
  pub short : IsShortName name
  pub no_header_word : IsTrue (not (list_any (same_name name) header_words))

abbrev pub Differ : List ℕ → List ℕ → Type 0
Differ a b = IsTrue (not (same_name a b))

-- a mesh can begin with the plan: its disks, actors and commands have their forms, however many commands there are and
-- whatever their lines
pub record MayBegin (plan : Plan) : Type 0 where
  pub few_disks : length plan.disks ≤ MAX_DISKS
  pub disks : All IsDiskDecl plan.disks
  pub disk_names : AllPairs Differ (map (λ d. d.name) plan.disks)
  pub few_actors : length plan.actors ≤ MAX_ACTORS
  pub actors : All IsActor plan.actors
  pub actor_names : AllPairs Differ plan.actors
  pub commands : All (IsCommandOf (length plan.actors)) plan.commands

-- what the header and the lines of each script keep: a mesh can begin with it, and its lines rise up to the limit
pub record IsPlan (plan : Plan) : Type 0 where
  pub begins : MayBegin plan
  pub numbered : All IsLineNumber (map (λ c. c.line) plan.commands)
  pub lines : IsStrictlyIncreasing (map (λ c. c.line) plan.commands)

-- a memory disk has the plan's sectors
abbrev pub HasPlanSectors : DiskKind → ℕ → ℕ → Type 0
HasPlanSectors disk_kinds.Ram sectors found = found ≡ sectors
HasPlanSectors disk_kinds.Shelf sectors found = ⊤

-- the sector size and the sectors of a disk are as the plan says, and the disk is no larger than MAX_IMAGE_BYTES
pub record IsFact (d : DiskDecl) (fact : ℕ × ℕ) : Type 0 where
  pub sector : fact.0 ≡ d.sector
  pub sectors : HasPlanSectors d.kind d.sectors fact.1
  pub some : 1 ≤ fact.1
  pub limited : fact.1 * fact.0 ≤ MAX_IMAGE_BYTES

-- one pair for each disk of the plan
abbrev pub FactsFit : Plan → List (ℕ × ℕ) → Type 0
FactsFit plan facts = AllZip IsFact plan.disks facts
