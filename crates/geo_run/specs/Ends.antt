-- How the run of a plan over a shelf ends.
use Rattle.std.specs.Prelude.{◌≡◌, ℕ, List, [], map, Option, Some, None, slice_get, zip, All, IsSome, IsSomeAnd, IfSome, IfNone, Result, Ok, Err, ⊤}
use Rattle.std.specs.Option.{option_map}
use Rattle.geo_base.specs.Faults.{Rose}
use Rattle.geo_log.specs.Room.{Room}
use Rattle.geo_model.specs.declared.command.DiskDecl.{DiskDecl}
use Rattle.geo_model.specs.declared.step.Entry.{Entry}
use Rattle.geo_model.specs.World.{World, Plan}
use Rattle.geo_model.specs.Opening.{opening}
use Rattle.geo_model.specs.Plans.{FactsFit}
use Rattle.geo_model.specs.Log.{Fits}
use Rattle.geo_model.specs.History.{KeepsHistory, RanToItsEnd}
use Rattle.geo_headline.specs.Outside.{ShelfView, IsShelf, IsThere, IsMissing, IsBadSize, HasToldSize, kept_back, DisksAreKept, OthersStay, ImagesStay, ImagesStand}
use Rattle.geo_headline.specs.Endings.{Ending, Reported, ReportedButFault, ShelfFault, NoDisk, BadSize, OutOfMemory, LogFull, IsWhole, HasLog, LogRanFull, StopsAt, first_kept_back, reported}
use Rattle.geo_headline.specs.Headline.{CallsAreTold, CallsInOrder, FollowsMode, HaveFactSectors, LentAfter, NoneAsked}
use Rattle.geo_headline.specs.Modes.{Mode}
use Rattle.geo_elev.specs.Meshes.{MeshView}
use Rattle.geo_elev.specs.DrainRefusal.{DrainRefusal}
use Rattle.geo_elev.specs.DrainRefusal.TheVariants as refusals
use Rattle.geo_run.specs.declared.due.Due.{Due}
use Rattle.geo_run.specs.declared.due.Due.TheVariants as dues
use Rattle.geo_run.specs.declared.stop.Stop.TheVariants as stops
use Rattle.geo_run.specs.Drives.{DriveView, ServeAll, size_of}
use Rattle.geo_run.specs.Lending.{GivesBack}

-- the entries of a log that may be there
abbrev pub entries_in : Option (Room Entry) → Option (List Entry)
entries_in log = option_map (λ (l : Room Entry). l.items) log

-- Over drives that are out

-- what a mesh of a plan did, as far as it came before the run ended so
pub record MeshRan (mode : Mode) (plan : Plan) (facts : List (ℕ × ℕ)) (ending : Ending)
    (log : List Entry) : Type 0 where
  pub history : KeepsHistory (opening plan facts) log
  pub fits : Fits (opening plan facts) log
  pub follows : FollowsMode mode plan (opening plan facts) ending log
  pub to_its_end : IsWhole ending → RanToItsEnd (opening plan facts) log

-- why a run over drives ends so, where these names were kept back
abbrev pub LentCause : Mode → Plan → World → Option (List Entry) → List (List ℕ) → Ending → Type 0
LentCause mode plan opened log kept Reported = IsSome log × (kept ≡ [])
LentCause mode plan opened log kept (ReportedButFault name) = IsSome log × (slice_get kept 0 ≡ Some name)
LentCause mode plan opened log kept OutOfMemory = ⊤
LentCause mode plan opened log kept LogFull = IsSomeAnd log (LogRanFull mode plan opened)
LentCause mode plan opened log kept _ = ⊥

-- the drives did what the log says; where there is none they did nothing
abbrev pub Served : Option (List Entry) → List DriveView → List DriveView → Type 0
Served None before after = after ≡ before
Served (Some log) before after = ServeAll log 0 before after

-- drives that were out served a mesh of the plan, as far as it came, and were given back
pub record RunsDrives (mode : Mode) (plan : Plan) (names : List (List ℕ)) (drives : List DriveView)
    (facts : List (ℕ × ℕ)) (log : Option (List Entry)) (ending : Ending) (before after : ShelfView) : Type 0 where
  pub served : List DriveView
  pub kept : List (List ℕ)
  pub serves : Served log drives served
  pub given : GivesBack before names served kept after
  pub sizes : IsSome log → facts ≡ map size_of drives
  pub mesh : IfSome log (MeshRan mode plan facts ending)
  pub cause : LentCause mode plan (opening plan facts) log kept ending

-- Over a shelf

-- the disks of the plan were there, and the mesh opened with their sizes
pub record Opens (plan : Plan) (facts : List (ℕ × ℕ)) (before : ShelfView) : Type 0 where
  pub there : All (IsThere before) plan.disks
  pub facts_fit : FactsFit plan facts
  pub told_sizes : All (HasToldSize before) (zip plan.disks facts)

-- why the run of a plan ends so
abbrev pub PlanCause : Mode → Plan → World → Option (List Entry) → ShelfView → ShelfView → Ending → Type 0
PlanCause mode plan opened log before after Reported = IsSome log × (kept_back before after ≡ [])
PlanCause mode plan opened log before after (ReportedButFault name) =
    IsSome log
    × IsSomeAnd (first_kept_back plan before after) (λ d. d.name ≡ name)
    × Rose (before.give_faults name) (after.give_faults name)
PlanCause mode plan opened log before after (ShelfFault name) =
    StopsAt before plan name (λ d images. ⊤) × Rose (before.take_faults name) (after.take_faults name)
PlanCause mode plan opened log before after (NoDisk name) = StopsAt before plan name IsMissing
PlanCause mode plan opened log before after (BadSize name) = StopsAt before plan name IsBadSize
PlanCause mode plan opened log before after OutOfMemory = ⊤
PlanCause mode plan opened log before after LogFull = IsSomeAnd log (LogRanFull mode plan opened)
PlanCause mode plan opened log before after _ = ⊥

-- no disk of the plan is of the shelf
abbrev pub HasNoShelfDisk : Plan → Type 0
HasNoShelfDisk plan = All (λ (d : DiskDecl). IsShelf d.kind → ⊥) plan.disks

-- what the run of a plan keeps
pub record RunsPlan (mode : Mode) (plan : Plan) (facts : List (ℕ × ℕ)) (log : Option (List Entry)) (ending : Ending)
    (before after : ShelfView) : Type 0 where
  pub cause : PlanCause mode plan (opening plan facts) log before after ending
  pub has_log : HasLog ending log
  pub opens : IsSome log → Opens plan facts before
  pub mesh : IfSome log (MeshRan mode plan facts ending)
  pub disks : IfSome log (DisksAreKept plan before after)
  pub lent : LentAfter ending before after
  pub calls : CallsAreTold ending before after
  pub in_order : CallsInOrder plan ending log before after
  pub others : OthersStay plan before after
  pub unasked : IfNone log (NoneAsked before after)
  pub sizes : IsSome log → HaveFactSectors plan facts after
  pub images : IfNone log (ImagesStay before after)
  pub images_stand : ImagesStand before after
  pub untouched : HasNoShelfDisk plan → after ≡ before

-- what is due of a mesh that came of a text, after it went to rest or was refused: its report, or why there is none
abbrev pub IsDueOf : Mode → List ℕ → MeshView → Result (Unit {0}) DrainRefusal → Option (List ℕ) → Due → Type 0
IsDueOf mode read m (Ok _) kept (dues.Report text back) =
    (text ≡ reported mode read m.plan m.facts (Some m.log)) × (back ≡ kept)
IsDueOf mode read m (Ok _) kept (dues.Stopped stop) = stop ≡ stops.NoMemory
IsDueOf mode read m (Err refusals.LogFull) kept due = due ≡ dues.Stopped stops.LogFull
IsDueOf mode read m (Err refusals.NoMemory) kept due = due ≡ dues.Stopped stops.NoMemory
