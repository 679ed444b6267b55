-- How a mesh is run over its drives, by one thread or by many.
use Rattle.std.specs.Prelude.{◌≡◌, ℕ, List, [], map, Option, Some, None, Result, Ok, Err, OnOk, IsErrOf}
use Rattle.geo_model.specs.Log.{Fits}
use Rattle.geo_model.specs.FixedOrder.{FollowsOrder, StepOrder, fixed_order}
use Rattle.geo_model.specs.History.{KeepsHistory, RanToItsEnd}
use Rattle.geo_model.specs.Order.{Rest}
use Rattle.geo_headline.specs.Endings.{Ending, Reported, OutOfMemory, LogFull, LogRanFull, reported}
use Rattle.geo_headline.specs.Headline.{FollowsMode}
use Rattle.geo_headline.specs.Modes.{Mode}
use Rattle.geo_elev.specs.Meshes.{IsHistory, MeshView, opened, world_of}
use Rattle.geo_elev.specs.Drain as drain
use Rattle.geo_elev.specs.DrainRefusal.{DrainRefusal}
use Rattle.geo_elev.specs.DrainRefusal.TheVariants as refusals
use Rattle.geo_jobs.specs.declared.left.JobsEnd.{JobsEnd}
use Rattle.geo_jobs.specs.declared.left.JobsEnd.TheVariants as ends
use Rattle.geo_headline.specs.Outside.{ShelfView}
use Rattle.geo_run.specs.declared.finish.Finish.{Finish}
use Rattle.geo_run.specs.Drives.{DriveView, ServeAll, size_of}
use Rattle.geo_run.specs.Ends.{RunsDrives, entries_in}
use Rattle.geo_run.specs.Rest.{RanFull}
use Rattle.geo_run.specs.Stops.{IsDue, ending_by}

-- how a call ends as far as its mesh tells: it is at rest, or it isn't, for this reason
abbrev pub ending_after : Result (Unit {0}) DrainRefusal → Ending
ending_after (Ok _) = Reported
ending_after (Err refusals.LogFull) = LogFull
ending_after (Err refusals.NoMemory) = OutOfMemory

-- one thread made the steps of a mesh that had none in an order, as far as the answer tells, and the drives did what
-- its log says
pub record RanAlone (order : StepOrder) (old : MeshView) (left : Option MeshView) (before after : List DriveView)
    (answer : Result (Unit {0}) DrainRefusal) : Type 0 where
  pub new : MeshView
  pub left_is : left ≡ Some new
  pub plan : new.plan ≡ old.plan
  pub facts : new.facts ≡ old.facts
  pub history : KeepsHistory (opened new) new.log
  pub fits : Fits (opened new) new.log
  pub follows : FollowsOrder order (opened new) [] new.log
  pub served : ServeAll new.log 0 before after
  pub rest : OnOk answer (RanToItsEnd (opened new) new.log)
  pub full : IsErrOf answer refusals.LogFull → RanFull order (opened new) new.log

-- the steps of a mesh that had none were made as the mode has them, as far as the answer tells, and the drives did
-- what its log says
pub record Ran (mode : Mode) (old new : MeshView) (before after : List DriveView)
    (answer : Result (Unit {0}) DrainRefusal) : Type 0 where
  pub plan : new.plan ≡ old.plan
  pub facts : new.facts ≡ old.facts
  pub history : KeepsHistory (opened new) new.log
  pub fits : Fits (opened new) new.log
  pub follows : FollowsMode mode new.plan (opened new) (ending_after answer) new.log
  pub served : ServeAll new.log 0 before after
  pub rest : OnOk answer (RanToItsEnd (opened new) new.log)
  pub full : IsErrOf answer refusals.LogFull → LogRanFull mode new.plan (opened new) new.log

-- so it is, or memory was wanting before the first step, and the drives are as they were
abbrev pub RanOrNot : Mode → MeshView → Option MeshView → List DriveView → List DriveView
    → Result (Unit {0}) DrainRefusal → Type 0
RanOrNot mode old None before after answer = (after ≡ before) × (answer ≡ Err refusals.NoMemory)
RanOrNot mode old (Some new) before after answer = Ran mode old new before after answer

-- a mesh that was run is done so: its drives, which are out, were given back, and what is due of it is due
pub record FinishesRun (mode : Mode) (read : List ℕ) (names : List (List ℕ)) (left : Option MeshView)
    (facts : List (ℕ × ℕ)) (drives : List DriveView) (answer : Result (Unit {0}) DrainRefusal) (finish : Finish)
    (before after : ShelfView) : Type 0 where
  pub runs : (old : MeshView) (xs : List DriveView) → RanOrNot mode old left xs drives answer → facts ≡ old.facts
      → old.facts ≡ map size_of xs
      → RunsDrives mode old.plan names xs finish.facts.items (entries_in finish.log) (ending_by finish.due) before after
  pub due : (old : MeshView) (xs : List DriveView) → RanOrNot mode old left xs drives answer → facts ≡ old.facts
      → old.facts ≡ map size_of xs
      → IsDue finish.due (reported mode read old.plan finish.facts.items (entries_in finish.log))

-- what was made after threads that ended so: what they left, in the fixed order, if they ended idle, else nothing
abbrev pub AfterThreads : JobsEnd → MeshView → MeshView → List DriveView → List DriveView
    → Result (Unit {0}) DrainRefusal → Type 0
AfterThreads ends.Idle old new before after answer =
    drain.Runs fixed_order old new before after × OnOk answer (Rest (world_of new))
    × (IsErrOf answer refusals.LogFull → drain.RanFull fixed_order new) × IsHistory new
AfterThreads ends.LogFull old new before after answer =
    (new ≡ old) × (after ≡ before) × (answer ≡ Err refusals.LogFull)
AfterThreads ends.NoMemory old new before after answer =
    (new ≡ old) × (after ≡ before) × (answer ≡ Err refusals.NoMemory)
