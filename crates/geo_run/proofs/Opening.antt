-- A mesh that is opened for a script, and the run of that mesh.
use Rattle.std.proofs.Common.{◌≡◌, ℕ, true, false, List, [], map, Option, None, Result, Ok, Err, IfErr, refl, sym, ◌∙◌, ap, subst, slice_get, rules}
use Rattle.geo_log.specs.Room.{Room}
use Rattle.geo_model.specs.declared.command.DiskDecl.{DiskDecl}
use Rattle.geo_model.specs.declared.step.Entry.{Entry}
use Rattle.geo_model.specs.Plans.{IsPlan}
use Rattle.geo_model.specs.Script.{script}
use Rattle.geo_model.specs.World.{Plan}
use Rattle.geo_headline.specs.Endings.{OutOfMemory, reported}
use Rattle.geo_headline.specs.Modes.{Mode}
use Rattle.geo_headline.specs.Outside.{ShelfView}
use Rattle.geo_elev.specs.Meshes.{IsHistory, MeshView}
use Rattle.geo_elev.specs.DrainRefusal.{DrainRefusal}
use Rattle.geo_run.specs.declared.due.Due.{Due}
use Rattle.geo_run.specs.declared.finish.Finish.{Finish}
use Rattle.geo_run.specs.declared.stop.Stop.{Stop}
use Rattle.geo_run.specs.declared.stop.Stop.TheVariants as stops
use Rattle.geo_run.specs.Calls.{FinishesText}
use Rattle.geo_run.specs.Drives.{DriveView, size_of}
use Rattle.geo_run.specs.Ends.{RunsDrives, RunsPlan, entries_in}
use Rattle.geo_run.specs.Lending.{GivesBack, OpensDrives, TakesBack, names_of}
use Rattle.geo_run.specs.Opened.{OpensPlan, OpensScript, StopsPlan, StopsScript}
use Rattle.geo_run.specs.Runners.{FinishesRun, RanOrNot}
use Rattle.geo_run.specs.Stops.{IsDue, ending_by, ending_of}
use Rattle.geo_run.proofs.Endings.{runs_plan, runs_stopped}
use Rattle.geo_run.proofs.Plans.{drives_out}
use Rattle.geo_run.proofs.Reading.{text_ran}

-- Where a mesh began

pub plan_opened : (plan : Plan) (ds : List DiskDecl) (names : List (List ℕ)) (xs seen : List DriveView)
    (mesh : MeshView) (facts : List (ℕ × ℕ)) (a m : ShelfView) → IsPlan plan → ds ≡ plan.disks → names ≡ names_of ds
    → OpensDrives a ds xs m → seen ≡ xs → mesh ≡ record { plan = plan; facts = map size_of seen; log = [] }
    → IsHistory mesh → facts ≡ map size_of seen → OpensPlan plan a mesh facts names xs m
plan_opened plan ds names xs seen mesh facts a m is e named opens same began history sizes =
    search (rules, drives_out plan ds names xs a m is e named opens)

-- Where none began

-- the disks couldn't be had
pub plan_stops : (plan : Plan) (ds : List DiskDecl) (stop : Stop) (a b : ShelfView) → IsPlan plan → ds ≡ plan.disks
    → TakesBack a ds stop b → StopsPlan plan a stop b
plan_stops plan ds stop a b is e takes mode facts =
    runs_stopped mode plan facts stop a b is (subst (λ (es : List DiskDecl). TakesBack a es stop b) e takes)

-- memory was wanting for the mesh
pub plan_lost : (plan : Plan) (ds : List DiskDecl) (names : List (List ℕ)) (xs : List DriveView) (a m b : ShelfView)
    → IsPlan plan → ds ≡ plan.disks → names ≡ names_of ds → OpensDrives a ds xs m → (first : Option (List ℕ))
    → (kept : List (List ℕ)) × (first ≡ slice_get kept 0) × GivesBack m names xs kept b
    → StopsPlan plan a stops.NoMemory b
plan_lost plan ds names xs a m b is e named opens first given mode facts =
    search (
      rules,
      runs_plan mode plan facts None OutOfMemory xs a m b is
          (subst (λ (es : List DiskDecl). OpensDrives a es xs m) e opens)
          (record {
            served = xs;
            kept = given.0;
            serves = refl;
            given =
                subst (λ (ns : List (List ℕ)). GivesBack m ns xs given.0 b)
                (named ∙ ap (λ (es : List DiskDecl). names_of es) e) given.2;
            sizes = λ some. absurd (let bad : false ≡ true = some in cc);
            mesh = tt;
            cause = tt;
          }),
    )

-- its plan couldn't be opened
pub script_stops : (text : List ℕ) (plan : Plan) (stop : Stop) (a b : ShelfView) → script text ≡ Ok plan
    → StopsPlan plan a stop b → StopsScript text a stop b
script_stops text plan stop a b is stops mode finish due log =
    text_ran text mode finish plan a b is
    (subst (λ (d : Due). RunsPlan mode plan finish.facts.items (entries_in finish.log) (ending_by d) a b) (sym due)
    (subst (λ (l : Option (Room Entry)). RunsPlan mode plan finish.facts.items (entries_in l) (ending_of stop) a b)
    (sym log) (stops mode finish.facts.items)))
    (subst (λ (d : Due). IsDue d (reported mode text plan finish.facts.items (entries_in finish.log))) (sym due) tt)

pub script_stops_if : {T : Type 0} (r : Result T Stop) (text : List ℕ) (plan : Plan) (a b : ShelfView)
    → script text ≡ Ok plan → IfErr r (λ stop. StopsPlan plan a stop b) → IfErr r (λ stop. StopsScript text a stop b)
script_stops_if (Ok x) text plan a b is h = tt
script_stops_if (Err stop) text plan a b is h = script_stops text plan stop a b is h

-- Where the mesh was run

-- what was run of a script that was opened is the run of the text
pub script_ran : (text : List ℕ) (mode : Mode) (mesh : MeshView) (left : Option MeshView) (facts : List (ℕ × ℕ))
    (names : List (List ℕ)) (xs ys : List DriveView) (answer : Result (Unit {0}) DrainRefusal) (finish : Finish)
    (a m b : ShelfView) → OpensScript text a mesh facts names xs m → RanOrNot mode mesh left xs ys answer
    → FinishesRun mode text names left facts ys answer finish m b → FinishesText text mode finish a b
script_ran text mode mesh left facts names xs ys answer finish a m b (is, o) ran closes =
    text_ran text mode finish mesh.plan a b is
    (runs_plan mode mesh.plan finish.facts.items (entries_in finish.log) (ending_by finish.due) xs a m b o.is_plan
    o.opens
    (subst (λ (ns : List (List ℕ)). RunsDrives mode mesh.plan ns xs finish.facts.items (entries_in finish.log)
    (ending_by finish.due) m b) o.named (closes.runs mesh xs ran o.facts_are o.sizes)))
    (closes.due mesh xs ran o.facts_are o.sizes)

-- the same where what is reported has this mode
pub script_ran_as : (text : List ℕ) (mode told : Mode) (mesh : MeshView) (left : Option MeshView)
    (facts : List (ℕ × ℕ)) (names : List (List ℕ)) (xs ys : List DriveView)
    (answer : Result (Unit {0}) DrainRefusal) (finish : Finish) (a m b : ShelfView)
    → OpensScript text a mesh facts names xs m → RanOrNot mode mesh left xs ys answer → told ≡ mode
    → FinishesRun told text names left facts ys answer finish m b → FinishesText text mode finish a b
script_ran_as text mode told mesh left facts names xs ys answer finish a m b opens ran is closes =
    script_ran text mode mesh left facts names xs ys answer finish a m b opens ran
    (subst (λ (z : Mode). FinishesRun z text names left facts ys answer finish m b) is closes)
