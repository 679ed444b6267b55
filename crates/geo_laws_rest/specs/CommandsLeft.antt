-- What an actor has left to do changes by its own Goes alone.
use Rattle.std.specs.Prelude.{◌≡◌, ◌≢◌, ℕ, List, slice_get, All}
use Rattle.geo_model.specs.declared.step.Entry.{Entry}
use Rattle.geo_model.specs.declared.step.Step.TheVariants as steps
use Rattle.geo_model.specs.World.{World}
use Rattle.geo_model.specs.Log.{replay}

-- entries that are no Go of an actor leave its commands as they are
abbrev pub OthersLeaveCommands : Type 0
OthersLeaveCommands =
    (w : World) (log : List Entry) (actor : ℕ) → All (λ e. e.step ≢ steps.Go actor) log
    → slice_get (replay w log).actors actor ≡ slice_get w.actors actor
