-- What steps of events, tastes and washes ask of a state, and what is against them.
use Rattle.std.specs.Prelude.{◌≡◌, ℕ, Bool, List, [], ◌∷◌, drop, Option, Some, None, slice_get, if◌then◌else◌}
use Rattle.std.specs.Option.{unwrap_or}
use Rattle.geo_model.specs.declared.command.LineCommand.{LineCommand}
use Rattle.geo_model.specs.declared.step.Entry.{Entry}
use Rattle.geo_model.specs.declared.step.Event.{Event}
use Rattle.geo_model.specs.declared.step.Found.{Found}
use Rattle.geo_model.specs.declared.step.Found.TheVariants as found
use Rattle.geo_model.specs.World.{World, Taste, is_read_out}
use Rattle.geo_model.specs.WorldEvents.{do_event}
use Rattle.geo_state.specs.declared.state.State.{State}
use Rattle.geo_state.specs.World.{world}

-- Events

-- what is against doing the head of a queue
abbrev pub queue_against : List Event → Option Found
queue_against [] = Some found.QueueEmpty
queue_against (e ∷ rest) = None

-- what is against an Event, where a taste is under way or not
abbrev pub event_against : Bool → List Event → Option Found
event_against tasting events = if tasting then Some found.TasteUnderWay else queue_against events

-- it is the event that is done next
abbrev pub IsHead : State → Event → Type 0
IsHead s e = slice_get s.queue.events 0 ≡ Some e

-- the world without the head of its queue
abbrev pub without_head : World → World
without_head w = record w { events = drop 1 w.events }

-- the head of the queue was taken away and done
abbrev pub HasDone : State → State → Event → Type 0
HasDone old new e =
    (actors : List (List LineCommand)) (log : List Entry)
    → world actors log new ≡ do_event (without_head (world actors log old)) e

-- Tastes

-- what is against a Judge, by the taste, if there is one, and by the number of its read
abbrev pub taste_against : Option ℕ → Option Taste → Option Found
taste_against read None = Some found.NoTaste
taste_against read (Some s) =
    if is_read_out s.asked then Some (found.ReadOut (unwrap_or read 0)) else None
