-- A mesh that is opened for a script, or why it isn't.
use Rattle.std.specs.Prelude.{◌≡◌, ℕ, List, [], map, None, Ok}
use Rattle.geo_model.specs.Plans.{IsPlan}
use Rattle.geo_model.specs.Script.{script}
use Rattle.geo_model.specs.World.{Plan}
use Rattle.geo_headline.specs.Modes.{Mode}
use Rattle.geo_headline.specs.Outside.{ShelfView}
use Rattle.geo_elev.specs.Meshes.{IsHistory, MeshView}
use Rattle.geo_run.specs.declared.due.Due.TheVariants as dues
use Rattle.geo_run.specs.declared.finish.Finish.{Finish}
use Rattle.geo_run.specs.declared.stop.Stop.{Stop}
use Rattle.geo_run.specs.Calls.{FinishesText}
use Rattle.geo_run.specs.Drives.{DriveView, size_of}
use Rattle.geo_run.specs.Ends.{RunsPlan}
use Rattle.geo_run.specs.Lending.{AreOut, OpensDrives, names_of}
use Rattle.geo_run.specs.Stops.{ending_of}

-- the disks of a plan were had, their drives are out, and a mesh of the plan began with the sizes of these
pub record OpensPlan (plan : Plan) (before : ShelfView) (mesh : MeshView) (facts : List (ℕ × ℕ))
    (names : List (List ℕ)) (drives : List DriveView) (after : ShelfView) : Type 0 where
  pub is_plan : IsPlan plan
  pub plan_is : mesh.plan ≡ plan
  pub new : mesh.log ≡ []
  pub history : IsHistory mesh
  pub facts_are : facts ≡ mesh.facts
  pub sizes : mesh.facts ≡ map size_of drives
  pub opens : OpensDrives before plan.disks drives after
  pub named : names ≡ names_of plan.disks
  pub out : AreOut after names drives

-- a text is a script, and a mesh of its plan began
abbrev pub OpensScript : List ℕ → ShelfView → MeshView → List (ℕ × ℕ) → List (List ℕ) → List DriveView → ShelfView
    → Type 0
OpensScript text before mesh facts names drives after =
    (script text ≡ Ok mesh.plan) × OpensPlan mesh.plan before mesh facts names drives after

-- no mesh of the plan began: whatever runs it, the run of the plan ends so
abbrev pub StopsPlan : Plan → ShelfView → Stop → ShelfView → Type 0
StopsPlan plan before stop after =
    (mode : Mode) (facts : List (ℕ × ℕ)) → RunsPlan mode plan facts None (ending_of stop) before after

-- no mesh of the text began: whatever runs it, the text is done so
abbrev pub StopsScript : List ℕ → ShelfView → Stop → ShelfView → Type 0
StopsScript text before stop after =
    (mode : Mode) (finish : Finish) → finish.due ≡ dues.Stopped stop → finish.log ≡ None
    → FinishesText text mode finish before after
