-- Of actors with their next lines, the one whose line is the smallest, with that line.
use Rattle.std.specs.Prelude.{ℕ, nat_le, List, [], ◌∷◌, Option, Some, None, option_and_then, if◌then◌else◌}
use Rattle.geo_model.specs.declared.step.Step.TheVariants as steps
use Rattle.geo_model.specs.World.{World}
use Rattle.geo_model.specs.Step.{is_enabled}
use Rattle.geo_model.specs.History.{next_command}

-- an actor with the line of its next command, if that is enabled
abbrev pub ready_at : World → ℕ → Option (ℕ × ℕ)
ready_at w actor =
    option_and_then (λ c. if is_enabled w 0 (steps.Go actor) then Some (actor, c.line) else None) (next_command w actor)

-- of two the one with the smaller line, and the first if both have the same
abbrev pub earlier_of : Option (ℕ × ℕ) → Option (ℕ × ℕ) → Option (ℕ × ℕ)
earlier_of None rest = rest
earlier_of (Some item) None = Some item
earlier_of (Some item) (Some other) = if nat_le item.1 other.1 then Some item else Some other

-- the earliest of all
abbrev pub earliest_item : List (ℕ × ℕ) → Option (ℕ × ℕ)
earliest_item [] = None
earliest_item (item ∷ rest) = earlier_of (Some item) (earliest_item rest)
