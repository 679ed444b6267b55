-- The steps of a trace, as a mesh makes them.
use Rattle.std.specs.Prelude.{◌≡◌, ℕ, ◌+◌, nat_lt, Bool, true, false, List, length, Option, Some, None, Ok, IsErr, if◌then◌else◌}
use Rattle.geo_model.specs.declared.step.Entry.{Entry}
use Rattle.geo_model.specs.declared.step.Outcome.{Outcome}
use Rattle.geo_model.specs.declared.step.Step.{Step}
use Rattle.geo_model.specs.Log.{made}
use Rattle.geo_model.specs.Step.{step}
use Rattle.geo_headline.specs.Traces.{marked, seat_and_step}
use Rattle.geo_core.specs.Mesh.{MeshView, opened, world_of, Made}
use Rattle.geo_verify.specs.declared.place.Place.{Place}
use Rattle.geo_verify.specs.Forms.{IsBehind, IsLeft, IsOfForm, steps_from}

-- a step was made, or it isn't enabled and nothing changed
abbrev pub Tries : Bool → MeshView → MeshView → ℕ → Step → Type 0
Tries true old new seat s = (outcome : Outcome) × Made old new seat s outcome
Tries false old new seat s = IsErr (step (world_of old) seat s) × (new ≡ old)

-- the same of the step of a line
abbrev pub TriesLine : Bool → MeshView → MeshView → List ℕ → Type 0
TriesLine was old new line =
    (item : ℕ × Step) × ((marked seat_and_step line ≡ Ok item) × Tries was old new item.0 item.1)

-- the line at which steps stop, of which a log was made
abbrev pub stop_of : ℕ → List Entry → List (ℕ × Step) → Option ℕ
stop_of line log items = if nat_lt (length log) (length items) then Some (line + length log) else None

-- the steps that stand at a place were made of an opened mesh, up to the first that isn't enabled
pub record MakesSteps (old new : MeshView) (place : Place) (stopped : Option ℕ) : Type 0 where
  pub plan : new.plan ≡ old.plan
  pub facts : new.facts ≡ old.facts
  pub items : List (ℕ × Step)
  pub report : List ℕ
  pub read : steps_from place ≡ Ok (items, report)
  pub log : new.log ≡ made (opened old) items
  pub stops : stopped ≡ stop_of place.line (made (opened old) items) items

-- the steps that stand from one place on up to another were read and made: what is read is they and what is left there,
-- and if all is of the form, steps were made up to the first that isn't enabled
pub record MakesFront (old new : MeshView) (place : Place) (stopped : Option ℕ) (left : Place) : Type 0 where
  pub read : IsLeft (steps_from place) (steps_from left)
  pub made : (report : List ℕ) → IsOfForm place report → MakesSteps old new place stopped
  pub behind : IsBehind left place
