-- Whose steps are whose.
use Rattle.std.specs.Prelude.{◌≡◌, ℕ, List, [], ◌∷◌, ⊤}
use Rattle.geo_model.specs.declared.step.Step.{Step}
use Rattle.geo_model.specs.declared.step.Step.TheVariants as steps

-- a client makes the steps of its actor
abbrev pub IsOfClient : ℕ → Step → Type 0
IsOfClient actor (steps.Go other) = other ≡ actor
IsOfClient actor _ = ⊥

-- the event worker tries these, in this order
abbrev pub event_steps : List Step
event_steps = steps.Judge ∷ steps.Event ∷ steps.Reap ∷ steps.Wash ∷ []

abbrev pub IsOfEvents : Step → Type 0
IsOfEvents steps.Judge = ⊤
IsOfEvents steps.Event = ⊤
IsOfEvents steps.Reap = ⊤
IsOfEvents steps.Wash = ⊤
IsOfEvents _ = ⊥

-- the down worker starts bios, and the up worker gives their results up
abbrev pub IsOfDown : Step → Type 0
IsOfDown (steps.Start bio) = ⊤
IsOfDown _ = ⊥

abbrev pub IsOfUp : Step → Type 0
IsOfUp (steps.Up bio) = ⊤
IsOfUp _ = ⊥
