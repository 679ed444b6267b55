-- The run of a mesh over drives that are out.
use Rattle.std.proofs.Common.{◌≡◌, ℕ, List, map, Option, Some, None, Result, Ok, Err, OnOk, IsErrOf, refl, sym, ◌∙◌, subst, slice_get, rules}
use Rattle.geo_log.specs.Room.{Room}
use Rattle.geo_model.specs.declared.step.Entry.{Entry}
use Rattle.geo_model.specs.World.{World, Plan}
use Rattle.geo_model.specs.History.{RanToItsEnd}
use Rattle.geo_headline.specs.Modes.{Mode}
use Rattle.geo_headline.specs.Outside.{ShelfView}
use Rattle.geo_headline.specs.Endings.{Ending, IsWhole, LogRanFull, reported}
use Rattle.geo_headline.specs.Headline.{FollowsMode}
use Rattle.geo_elev.specs.Meshes.{MeshView, opened}
use Rattle.geo_elev.specs.DrainRefusal.{DrainRefusal}
use Rattle.geo_elev.specs.DrainRefusal.TheVariants as refusals
use Rattle.geo_run.specs.Drives.{DriveView, size_of}
use Rattle.geo_run.specs.declared.due.Due.{Due}
use Rattle.geo_run.specs.declared.due.Due.TheVariants as dues
use Rattle.geo_run.specs.Ends.{IsDueOf, LentCause, RunsDrives, entries_in}
use Rattle.geo_run.specs.Lending.{AreOut, GivesBack}
use Rattle.geo_run.specs.Runners.{RanOrNot, ending_after}
use Rattle.geo_run.specs.Stops.{IsDue, ending_by, ending_with}
use Rattle.geo_run.proofs.Loops.{none_kept, out_served}

-- A mesh that ran

-- what is due tells how the run ended
ran_to_end : (mode : Mode) (read : List ℕ) (m : MeshView) (answer : Result (Unit {0}) DrainRefusal)
    (kept : Option (List ℕ)) (due : Due) → IsDueOf mode read m answer kept due
    → OnOk answer (RanToItsEnd (opened m) m.log) → IsWhole (ending_by due) → RanToItsEnd (opened m) m.log
ran_to_end mode read m (Ok u) kept due is rest whole = rest
ran_to_end mode read m (Err refusals.LogFull) kept due is rest whole = search rules
ran_to_end mode read m (Err refusals.NoMemory) kept due is rest whole = search rules

-- an order of a call that ends otherwise, unless that reports and this doesn't
pub follows_at : (mode : Mode) (plan : Plan) (w : World) (a b : Ending) (log : List Entry) → (IsWhole b → IsWhole a)
    → FollowsMode mode plan w a log → FollowsMode mode plan w b log
follows_at mode plan w a b log whole = search rules

-- a run that is due to report is at rest
whole_after : (mode : Mode) (read : List ℕ) (m : MeshView) (answer : Result (Unit {0}) DrainRefusal)
    (kept : Option (List ℕ)) (due : Due) → IsDueOf mode read m answer kept due → IsWhole (ending_by due)
    → IsWhole (ending_after answer)
whole_after mode read m (Ok u) kept due is whole = tt
whole_after mode read m (Err refusals.LogFull) kept due is whole = subst (λ (d : Due). IsWhole (ending_by d)) is whole
whole_after mode read m (Err refusals.NoMemory) kept due is whole = subst (λ (d : Due). IsWhole (ending_by d)) is whole

report_cause : (mode : Mode) (plan : Plan) (w : World) (log : List Entry) (names : List (List ℕ))
    (kept : Option (List ℕ)) → kept ≡ slice_get names 0
    → LentCause mode plan w (Some log) names (ending_with kept)
report_cause mode plan w log names None e = (refl, none_kept names (sym e))
report_cause mode plan w log names (Some name) e = (refl, sym e)

cause_of : (mode : Mode) (read : List ℕ) (m : MeshView) (answer : Result (Unit {0}) DrainRefusal)
    (kept : Option (List ℕ)) (names : List (List ℕ)) (due : Due) → IsDueOf mode read m answer kept due
    → kept ≡ slice_get names 0 → (IsErrOf answer refusals.LogFull → LogRanFull mode m.plan (opened m) m.log)
    → LentCause mode m.plan (opened m) (Some m.log) names (ending_by due)
cause_of mode read m (Ok u) kept names (dues.Report text back) is first full =
    report_cause mode m.plan (opened m) m.log names back (is.1 ∙ first)
cause_of mode read m (Ok u) kept names (dues.Stopped stop) is first full = search rules
cause_of mode read m (Err refusals.LogFull) kept names due is first full = search rules
cause_of mode read m (Err refusals.NoMemory) kept names due is first full = search rules

-- the text that is due is that of the mesh
due_is : (mode : Mode) (read : List ℕ) (m : MeshView) (answer : Result (Unit {0}) DrainRefusal)
    (kept : Option (List ℕ)) (due : Due) → IsDueOf mode read m answer kept due
    → IsDue due (reported mode read m.plan m.facts (Some m.log))
due_is mode read m (Ok u) kept (dues.Report text back) is = is.0
due_is mode read m (Ok u) kept (dues.Stopped stop) is = tt
due_is mode read m (Err refusals.LogFull) kept due is = search rules
due_is mode read m (Err refusals.NoMemory) kept due is = search rules

-- the drives are out after they were run
pub still_out : (mode : Mode) (s : ShelfView) (old : MeshView) (left : Option MeshView) (names : List (List ℕ))
    (xs ys : List DriveView) (answer : Result (Unit {0}) DrainRefusal) → AreOut s names xs
    → RanOrNot mode old left xs ys answer → AreOut s names ys
still_out mode s old None names xs ys answer out ran = search rules
still_out mode s old (Some new) names xs ys answer out ran = out_served s new.log 0 names xs ys out ran.served

-- a run over drives
pub ran_drives : (mode : Mode) (read : List ℕ) (old new : MeshView) (left : Option MeshView) (xs ys : List DriveView)
    (answer : Result (Unit {0}) DrainRefusal) (first : Option (List ℕ)) (due : Due) (names : List (List ℕ))
    (facts : List (ℕ × ℕ)) (log : Option (Room Entry)) (entries : Room Entry) (a b : ShelfView)
    → left ≡ Some new → RanOrNot mode old left xs ys answer → IsDueOf mode read new answer first due
    → (kept : List (List ℕ)) × (first ≡ slice_get kept 0) × GivesBack a names ys kept b
    → facts ≡ old.facts → old.facts ≡ map size_of xs → log ≡ Some entries → entries.items ≡ new.log
    → RunsDrives mode old.plan names xs facts (entries_in log) (ending_by due) a b
ran_drives mode read old new left xs ys answer first due names facts log entries a b some ran is given same_facts sizes
    log_is items =
    search (
      rules,
      follows_at mode new.plan (opened new) (ending_after answer) (ending_by due) new.log
          (whole_after mode read new answer first due is),
      ran_to_end mode read new answer first due is,
      cause_of mode read new answer first given.0 due is given.1,
    )

-- and what is due of it
pub ran_due : (mode : Mode) (read : List ℕ) (old new : MeshView) (left : Option MeshView) (xs ys : List DriveView)
    (answer : Result (Unit {0}) DrainRefusal) (first : Option (List ℕ)) (due : Due) (facts : List (ℕ × ℕ))
    (log : Option (Room Entry)) (entries : Room Entry) → left ≡ Some new → RanOrNot mode old left xs ys answer
    → IsDueOf mode read new answer first due → facts ≡ old.facts → log ≡ Some entries → entries.items ≡ new.log
    → IsDue due (reported mode read old.plan facts (entries_in log))
ran_due mode read old new left xs ys answer first due facts log entries some ran is same_facts log_is items =
    search rules
