-- What the elevator order has due before each Take, and behind.
use Rattle.std.specs.Prelude.{List, [], ◌∷◌, Option, option_map}
use Rattle.geo_model.specs.declared.step.Step.{Step}
use Rattle.geo_model.specs.declared.step.Step.TheVariants as steps
use Rattle.geo_model.specs.Order.{first_bio, if_enabled, earliest, ready_actors}
use Rattle.geo_model.specs.Words.{first_some}
use Rattle.geo_model.specs.World.{World, is_up, is_down}

-- the steps that come before a Take: Up and Start of the smallest bio, Judge, Event, Go of the smallest line
abbrev pub steps_before : World → List (Option Step)
steps_before w =
    first_bio w (λ x. is_up x.phase) (λ x. steps.Up x.number)
    ∷ first_bio w (λ x. is_down x.phase) (λ x. steps.Start x.number)
    ∷ if_enabled w steps.Judge
    ∷ if_enabled w steps.Event
    ∷ option_map (λ actor. steps.Go actor) (earliest (ready_actors w))
    ∷ []

-- and those that come behind: Reap, Wash
abbrev pub steps_behind : World → List (Option Step)
steps_behind w = if_enabled w steps.Reap ∷ if_enabled w steps.Wash ∷ []

-- the first enabled one of either
unfoldable pub before_takes : World → Option Step
before_takes w = first_some (steps_before w)

unfoldable pub behind_takes : World → Option Step
behind_takes w = first_some (steps_behind w)
