-- One turn: a step, and after a Take its Deliver.
use Rattle.std.specs.Prelude.{◌≡◌, ℕ, List, [], ◌∷◌, ◌++◌, Some, slice_get, slice_set}
use Rattle.geo_model.specs.declared.step.DeviceResult.{DeviceResult}
use Rattle.geo_model.specs.declared.step.Entry.{Entry}
use Rattle.geo_model.specs.declared.step.Outcome.{Outcome}
use Rattle.geo_model.specs.declared.step.Outcome.TheVariants as outcomes
use Rattle.geo_model.specs.declared.step.Request.{Request}
use Rattle.geo_model.specs.declared.step.Step.{Step}
use Rattle.geo_model.specs.declared.step.Step.TheVariants as steps
use Rattle.geo_serve.specs.Drives.{DriveView}
use Rattle.geo_serve.specs.Serve.{Serves}
use Rattle.geo_core.specs.Mesh.{MeshView, Made}

-- the last entry of the log asked for the request
pub record EndsWithRequest (log : List Entry) (q : Request) : Type 0 where
  pub front : List Entry
  pub last : Entry
  pub is : log ≡ front ++ last ∷ []
  pub asked : last.outcome ≡ outcomes.Asked q

-- the drive of the request's disk served it, and the others weren't asked
pub record AnswersRequest (q : Request) (before after : List DriveView) (got : DeviceResult) : Type 0 where
  pub old : DriveView
  pub is_its : slice_get before q.disk ≡ Some old
  pub new : DriveView
  pub serves : Serves q old new got
  pub drives : after ≡ slice_set before q.disk new

-- a step of seat 0 was made, and no drive was asked
pub record MakesStep (old new : MeshView) (before after : List DriveView) (s : Step) : Type 0 where
  pub outcome : Outcome
  pub made : Made old new 0 s outcome
  pub drives : after ≡ before

-- a bio was taken, the drive of its disk served the request, and the answer was delivered
pub record ServesTake (old new : MeshView) (before after : List DriveView) (disk bio : ℕ) : Type 0 where
  pub taken : MeshView
  pub request : Request
  pub take : Made old taken 0 (steps.Take disk bio) (outcomes.Asked request)
  pub got : DeviceResult
  pub answers : AnswersRequest request before after got
  pub outcome : Outcome
  pub deliver : Made taken new 0 (steps.Deliver bio got) outcome

-- a turn of a step
abbrev pub MakesTurn : MeshView → MeshView → List DriveView → List DriveView → Step → Type 0
MakesTurn old new before after (steps.Take disk bio) = ServesTake old new before after disk bio
MakesTurn old new before after s = MakesStep old new before after s
