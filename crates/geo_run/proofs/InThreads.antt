-- What threads made of a mesh, and what was made after them.
use Rattle.std.proofs.Common.{◌≡◌, List, [], ◌++◌, Option, Some, None, Result, Err, OnOk, IsErrOf, refl, sym, subst, inl, inr, rules}
use Rattle.std.proofs.lemmas.List.{append-nil}
use Rattle.geo_base.specs.declared.limits.TheConstants.{MAX_SCRIPT_BYTES}
use Rattle.geo_model.specs.declared.step.Entry.{Entry}
use Rattle.geo_model.specs.World.{World, Plan}
use Rattle.geo_model.specs.FixedOrder.{FollowsOrder, fixed_order}
use Rattle.geo_model.specs.Order.{Rest}
use Rattle.geo_headline.specs.Modes.{Mode, RunMode, WatchMode, TraceMode, OpensMesh, source_limit}
use Rattle.geo_headline.specs.Endings.{DueIsFull, Ending, IsWhole, LogRanFull}
use Rattle.geo_headline.specs.Headline.{FollowsMode, IsGen}
use Rattle.geo_serve.specs.Served.{AreServed}
use Rattle.geo_laws_disks.specs.DriveLaws.{AreTaken}
use Rattle.geo_laws_disks.proofs.Seats.{parts_serve}
use Rattle.geo_laws_disks.proofs.Requests.{none_in}
use Rattle.geo_elev.specs.Meshes.{IsHistory, MeshView, opened, world_of}
use Rattle.geo_elev.specs.Drain as drain
use Rattle.geo_elev.specs.Drain.{with_entries}
use Rattle.geo_elev.specs.DrainRefusal.{DrainRefusal}
use Rattle.geo_elev.specs.DrainRefusal.TheVariants as refusals
use Rattle.geo_jobs.specs.Left.{ThreadsRan}
use Rattle.geo_jobs.specs.declared.left.JobsEnd.{JobsEnd}
use Rattle.geo_jobs.specs.declared.left.JobsEnd.TheVariants as ends
use Rattle.geo_run.specs.Drives.{DriveView}
use Rattle.geo_run.specs.Runners.{AfterThreads, Ran, RanOrNot, ending_after}
use Rattle.geo_run.specs.Work.{mode_threaded}
use Rattle.geo_run.specs.declared.words.Threaded.{Threaded}
use Rattle.geo_run.specs.declared.words.Threaded.TheVariants as threads
use Rattle.geo_run.proofs.Asked.{ran_to_rest, served_all}

-- drives that served what threads did, and then what was made after them, served both
parts_served : (m : MeshView) (added : List Entry) (xs zs ys : List DriveView) → IsHistory (with_entries m added)
    → AreTaken added added → AreServed m.log xs zs → AreServed added zs ys → AreServed (m.log ++ added) xs ys
parts_served m added xs zs ys h taken first second disk =
    search (rules, parts_serve m.plan m.facts h.plan.begins h.facts (m.log ++ added) h.lawful.0 m.log added disk)

-- no step was made after the threads
none_after : (m : MeshView) → FollowsOrder fixed_order (opened m) m.log []
none_after m earlier e split = absurd (none_in earlier e split.0 split.1)

-- threads that ended idle, and what they left was made
idle_ran : (old mid : MeshView) (xs zs ys : List DriveView) (answer : Result (Unit {0}) DrainRefusal)
    (added : List Entry) → ThreadsRan old mid xs zs ends.Idle → IsHistory (with_entries mid added)
    → FollowsOrder fixed_order (opened mid) mid.log added → AreTaken added added → AreServed added zs ys
    → OnOk answer (Rest (world_of (with_entries mid added)))
    → (IsErrOf answer refusals.LogFull → drain.RanFull fixed_order (with_entries mid added))
    → Ran RunMode old (with_entries mid added) xs ys answer
idle_ran old mid xs zs ys answer added t h follows taken served rest full =
    search (
      rules,
      served_all (mid.log ++ added) xs ys (parts_served mid added xs zs ys h taken t.served served),
      ran_to_rest answer (with_entries mid added) h rest,
    )

-- threads of which a job found the log full, or lacked memory
stopped_ran : (old mid : MeshView) (xs zs : List DriveView) (ended : JobsEnd) (refusal : DrainRefusal)
    → ThreadsRan old mid xs zs ended
    → (refusal ≡ refusals.LogFull → LogRanFull RunMode mid.plan (opened mid) mid.log)
    → (IsWhole (ending_after (Err refusal)) → ⊥) → Ran RunMode old mid xs zs (Err refusal)
stopped_ran old mid xs zs ended refusal t full not_whole =
    search (rules, append-nil mid.log, none_after mid, served_all mid.log xs zs t.served)

-- what threads made of a mesh, and what was made after them
pub threads_ran : (old mid new : MeshView) (xs zs ys : List DriveView) (ended : JobsEnd)
    (answer : Result (Unit {0}) DrainRefusal) → ThreadsRan old mid xs zs ended
    → AfterThreads ended mid new zs ys answer → Ran RunMode old new xs ys answer
threads_ran old mid new xs zs ys ends.Idle answer t (runs, rest, full, history) =
    subst (λ (m : MeshView). Ran RunMode old m xs ys answer) (sym runs.grown)
    (idle_ran old mid xs zs ys answer runs.added t (subst IsHistory runs.grown history) runs.follows runs.taken
    runs.served (subst (λ (m : MeshView). OnOk answer (Rest (world_of m))) runs.grown rest)
    (λ e. subst (λ (m : MeshView). drain.RanFull fixed_order m) runs.grown (full e)))
threads_ran old mid new xs zs ys ends.LogFull answer t (same, drives, is) =
    subst (λ (m : MeshView). Ran RunMode old m xs ys answer) (sym same)
    (subst (λ (ds : List DriveView). Ran RunMode old mid xs ds answer) (sym drives)
    (subst (λ (r : Result (Unit {0}) DrainRefusal). Ran RunMode old mid xs zs r) (sym is)
    (stopped_ran old mid xs zs ends.LogFull refusals.LogFull t
    (λ e. record { due = inr (refl, t.tells.job); nearly = t.tells.nearly }) (λ whole. whole))))
threads_ran old mid new xs zs ys ends.NoMemory answer t (same, drives, is) =
    search (rules, stopped_ran old mid xs zs ends.NoMemory refusals.NoMemory t (λ e. cc) (λ whole. whole))

-- a run in threads is one of each mode with threads
in_mode : (mode : Mode)
    → ((plan : Plan) (w : World) (ending : Ending) (log : List Entry)
    → FollowsMode RunMode plan w ending log → FollowsMode mode plan w ending log)
    → ((plan : Plan) (w : World) (log : List Entry) → DueIsFull RunMode plan w log → DueIsFull mode plan w log)
    → (old : MeshView) (left : Option MeshView) (xs ys : List DriveView) (answer : Result (Unit {0}) DrainRefusal)
    → RanOrNot RunMode old left xs ys answer → RanOrNot mode old left xs ys answer
in_mode mode follows due old None xs ys answer ran = ran
in_mode mode follows due old (Some new) xs ys answer ran = search rules

due_of_watch : (plan : Plan) (w : World) (log : List Entry) → DueIsFull RunMode plan w log
    → DueIsFull WatchMode plan w log
due_of_watch plan w log (inl due) = inl due
due_of_watch plan w log (inr job) = inr (refl, job.1)

due_of_trace : (plan : Plan) (w : World) (log : List Entry) → DueIsFull RunMode plan w log
    → DueIsFull TraceMode plan w log
due_of_trace plan w log (inl due) = inl due
due_of_trace plan w log (inr job) = inr (refl, job.1)

pub ran_as : (work : Threaded) (old : MeshView) (left : Option MeshView) (xs ys : List DriveView)
    (answer : Result (Unit {0}) DrainRefusal) → RanOrNot RunMode old left xs ys answer
    → RanOrNot (mode_threaded work) old left xs ys answer
ran_as threads.Run old left xs ys answer ran = ran
ran_as threads.Watch old left xs ys answer ran = search rules
ran_as threads.Trace old left xs ys answer ran = search rules

-- What the works of threads ask for

pub script_limit : (work : Threaded) → MAX_SCRIPT_BYTES ≡ source_limit (mode_threaded work)
script_limit threads.Run = refl
script_limit threads.Watch = refl
script_limit threads.Trace = refl

pub opens_mesh : (work : Threaded) → OpensMesh (mode_threaded work)
opens_mesh threads.Run = tt
opens_mesh threads.Watch = tt
opens_mesh threads.Trace = tt

pub makes_no_script : (work : Threaded) → IsGen (mode_threaded work) → ⊥
makes_no_script threads.Run gen = gen
makes_no_script threads.Watch gen = gen
makes_no_script threads.Trace gen = gen
