-- What the script made from a number says.
use Rattle.std.specs.Prelude.{◌≡◌, ℕ, ◌+◌, length}
use Rattle.geo_model.specs.World.{Plan}
use Rattle.geo_model.specs.Generator.{CanBeGenerated, generated}
use Rattle.geo_model.specs.Script.{IsScript}
use Rattle.geo_model.specs.FormatLaws.{GeneratedTextsAreScripts}

-- a generated text has a plan: four disks, four actors, the six commands that come first and COUNT more
pub record SaysWhatIsAsked (start count : ℕ) (plan : Plan) : Type 0 where
  pub is : IsScript (generated start count) plan
  pub disks : length plan.disks ≡ 4
  pub actors : length plan.actors ≡ 4
  pub commands : length plan.commands ≡ 6 + count

-- each generated text is a script, with that many disks, actors and commands
pub record GeneratedPlans : Type 0 where
  pub scripts : GeneratedTextsAreScripts
  pub says : (start count : ℕ) → CanBeGenerated start count → (plan : Plan) × SaysWhatIsAsked start count plan
