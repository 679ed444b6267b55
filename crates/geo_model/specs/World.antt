-- The state of the mesh: everything that steps read and change.
use Rattle.std.specs.Prelude.{ℕ, ◌==◌, Bool, true, false, not, ◌&&◌, List, Option, Some, None, find, filter, if◌then◌else◌}
use Rattle.std.specs.List.{list_any}
use Rattle.std.specs.Option.{option_map_or}
use Rattle.geo_base.specs.declared.request.BioCmd.{BioCmd}
use Rattle.geo_base.specs.declared.request.Counts.{Counts}
use Rattle.geo_base.specs.declared.kind.Kind.{Kind}
use Rattle.geo_model.specs.declared.class.EbrPart.{EbrPart}
use Rattle.geo_model.specs.declared.class.Slice.{Slice}
use Rattle.geo_model.specs.declared.command.DiskDecl.{DiskDecl}
use Rattle.geo_model.specs.declared.command.LineCommand.{LineCommand}
use Rattle.geo_model.specs.declared.step.BioResult.{BioResult}
use Rattle.geo_model.specs.declared.step.Event.{Event}
use Rattle.geo_model.specs.declared.step.Owner.{Owner}
use Rattle.geo_model.specs.declared.step.Owner.TheVariants as owners
use Rattle.geo_model.specs.declared.step.Phase.{Phase}
use Rattle.geo_model.specs.declared.step.Phase.TheVariants as phases
use Rattle.geo_model.specs.Words.{same_name, names_number, change_where}
use Rattle.geo_model.specs.Topology.{Topology}
use Rattle.geo_model.specs.Demand.{no_counts, one_read}
use Rattle.geo_model.specs.Chain.{Chain}

-- what a geom needs to place an offset, by its class
pub data Config : Type 0 where
  -- of DEV and TASTE
  Nothing : Config
  -- the disk's number in header order
  Disk : (disk : ℕ) → Config
  -- below is the consumer at place 0; the slices are in the order of the table
  Mbr : (below : Option ℕ) (slices : List (Option Slice)) → Config
  -- the parts are those of the links, in their order
  Ebr : (below : Option ℕ) (parts : List (Option EbrPart)) → Config
  Label : (below : Option ℕ) → Config
  -- the consumer that fills each place, and the bytes of its component, 0 before; id is None for a geom of a command
  Concat : (id : Option ℕ) (places : List (Option ℕ)) (sizes : List ℕ) → Config
  Stripe : (id : Option ℕ) (stripe : ℕ) (places : List (Option ℕ)) (sizes : List ℕ) → Config
  -- the window begins at offset; fail says which of its requests fail
  Nop : (below : Option ℕ) (offset : ℕ) (fail : ℕ) → Config

-- an open handle of an actor; it has no consumer once it is reaped
pub record Handle : Type 0 where
  pub number : ℕ
  pub actor : ℕ
  pub name : List ℕ
  pub consumer : Option ℕ
  pub grant : Counts
  pub dead : Bool

-- a request on its way (g_bio(9)), with results of a type R; offset and len are in bytes, and bytes are those of a
-- WRITE
pub record BioOf (R : Type 0) : Type 0 where
  pub number : ℕ
  pub cmd : BioCmd
  pub offset : ℕ
  pub len : ℕ
  pub bytes : List ℕ
  pub source : ℕ
  pub target : ℕ
  pub owner : Owner
  pub phase : Phase
  pub result : Option R

abbrev pub Bio : Type 0
Bio = BioOf BioResult

-- how far a class has been asked
pub data Asked : Type 0 where
  NoClass : Asked
  NextSector : (kind : Kind) (sector : ℕ) → Asked
  ReadOut : (kind : Kind) → Asked
  ReadBack : (kind : Kind) (got : BioResult) → Asked

-- a taste under way: the classes that are left, the one that is asked, the reads made for it, and the chain read by EBR
pub record Taste : Type 0 where
  pub provider : ℕ
  pub consumer : ℕ
  pub classes : List Kind
  pub asked : Asked
  pub reads : ℕ
  pub chain : Chain

-- a disk of the header; size is in bytes
pub record HeaderDisk : Type 0 where
  pub name : List ℕ
  pub sector : ℕ
  pub size : ℕ

-- actors has the commands that each actor has left
pub record World : Type 0 where
  pub topology : Topology Config
  pub handles : List Handle
  pub bios : List Bio
  pub events : List Event
  pub taste : Option Taste
  pub actors : List (List LineCommand)
  pub disks : List HeaderDisk
  pub next_handle : ℕ
  pub next_bio : ℕ

-- what a script says
pub record Plan : Type 0 where
  pub disks : List DiskDecl
  pub actors : List (List ℕ)
  pub commands : List LineCommand

-- whether the taste's read is out
abbrev pub is_read_out : Asked → Bool
is_read_out (ReadOut kind) = true
is_read_out _ = false

-- what the taste has granted to a consumer: one read while its read is out
abbrev pub taste_grant : Option Taste → ℕ → Counts
taste_grant None c = no_counts
taste_grant (Some t) c = if (t.consumer == c) && is_read_out t.asked then one_read else no_counts

-- what was granted to a consumer of DEV or TASTE: the grant of its handle, or the taste's
abbrev pub granted_of : List Handle → Option Taste → ℕ → Counts
granted_of handles taste c =
    option_map_or (λ h. h.grant) (find (λ h. names_number h.consumer c) handles) (taste_grant taste c)

abbrev pub granted_in : World → ℕ → Counts
granted_in w = granted_of w.handles w.taste

-- the handle of the actor with the name
abbrev pub handle_of : World → ℕ → List ℕ → Option Handle
handle_of w actor name = find (λ h. (h.actor == actor) && same_name h.name name) w.handles

-- the bio of a number
abbrev pub bio_among : {R : Type 0} → List (BioOf R) → ℕ → Option (BioOf R)
bio_among bios b = find (λ x. x.number == b) bios

abbrev pub bio_at : World → ℕ → Option Bio
bio_at w b = bio_among w.bios b

-- tests of a phase and of an owner

abbrev pub is_down : Phase → Bool
is_down phases.Down = true
is_down _ = false

abbrev pub is_sent : Phase → Bool
is_sent phases.Sent = true
is_sent _ = false

abbrev pub is_busy : Phase → Bool
is_busy (phases.Busy seat) = true
is_busy _ = false

abbrev pub is_waiting : Phase → Bool
is_waiting phases.Waiting = true
is_waiting _ = false

abbrev pub is_up : Phase → Bool
is_up phases.Up = true
is_up _ = false

abbrev pub is_done : Phase → Bool
is_done phases.Done = true
is_done _ = false

abbrev pub is_taste_root : Owner → Bool
is_taste_root owners.Taste = true
is_taste_root _ = false

abbrev pub is_child_of : Owner → ℕ → Bool
is_child_of (owners.Child parent index) b = parent == b
is_child_of _ b = false

abbrev pub is_root : Owner → Bool
is_root (owners.Child parent index) = false
is_root _ = true

abbrev pub is_of_handle : Owner → ℕ → Bool
is_of_handle (owners.Line handle line) h = handle == h
is_of_handle _ h = false

-- the children of a bio, in order
abbrev pub children_among : {R : Type 0} → List (BioOf R) → ℕ → List (BioOf R)
children_among bios b = filter (λ x. is_child_of x.owner b) bios

abbrev pub children_of : World → ℕ → List Bio
children_of w b = children_among w.bios b

-- whether the consumer has a request that hasn't come back
abbrev pub is_active : World → ℕ → Bool
is_active w c = list_any (λ x. (x.source == c) && not (is_done x.phase)) w.bios

-- the bios with the one of a number changed
abbrev pub change_number : {R : Type 0} → ℕ → (BioOf R → BioOf R) → List (BioOf R) → List (BioOf R)
change_number b change bios = change_where (λ x. x.number == b) change bios

-- the world with a bio changed
abbrev pub change_bio : World → ℕ → (Bio → Bio) → World
change_bio w b change = record w { bios = change_number b change w.bios }

-- the commands of an actor, in order
abbrev pub commands_of : Plan → ℕ → List LineCommand
commands_of plan actor = filter (λ c. c.actor == actor) plan.commands
