-- The queue of events, as contracts see it.
use Rattle.std.specs.Prelude.{ℕ, List}
use Rattle.geo_model.specs.declared.step.Event.{Event}

-- the events that wait, whose head is done first, and how many more have room
pub record Queued : Type 0 where
  pub events : List Event
  pub spare : ℕ
