-- The nine steps: when each is enabled, else what was found, and what it does.
use Rattle.std.specs.Prelude.{ℕ, ◌==◌, Bool, not, ◌&&◌, ◌||◌, List, [], ◌∷◌, length, find, slice_get, slice_set, Option, Some, None, Result, Ok, Err, is_some, is_ok, option_map, if◌then◌else◌}
use Rattle.std.specs.List.{list_any}
use Rattle.std.specs.Option.{option_map_or}
use Rattle.geo_model.specs.declared.command.Command.{Command}
use Rattle.geo_model.specs.declared.command.Command.TheVariants as commands
use Rattle.geo_model.specs.declared.command.LineCommand.{LineCommand}
use Rattle.geo_model.specs.declared.step.DeviceResult.{DeviceResult}
use Rattle.geo_model.specs.declared.step.Found.{Found}
use Rattle.geo_model.specs.declared.step.Found.TheVariants as found
use Rattle.geo_model.specs.declared.step.Outcome.{Outcome}
use Rattle.geo_model.specs.declared.step.Outcome.TheVariants as outcomes
use Rattle.geo_model.specs.declared.step.Phase.{Phase}
use Rattle.geo_model.specs.declared.step.Phase.TheVariants as phases
use Rattle.geo_model.specs.declared.step.Event.{Event}
use Rattle.geo_model.specs.declared.step.Step.{Step}
use Rattle.geo_model.specs.declared.step.Step.TheVariants as steps
use Rattle.geo_model.specs.World.{World, Bio, Taste, bio_at, is_down, is_sent, is_up, is_read_out, is_of_handle, is_taste_root}
use Rattle.geo_model.specs.Bios.{start, take_bio, deliver, up, disk_of_bio, busy_bio, is_fitting}
use Rattle.geo_model.specs.WorldEvents.{do_event}
use Rattle.geo_model.specs.Tasting.{judge_step}
use Rattle.geo_model.specs.Freeing.{reap_work, reap, wash_work, wash}
use Rattle.geo_model.specs.Commands.{do_command}

-- a step that isn't enabled says what was found; else it leads to a world and has an outcome
abbrev pub Answer : Type 0
Answer = Result (World × Outcome) Found

-- the effect, unless there is something against it
abbrev pub unless_found : Option Found → World × Outcome → Answer
unless_found None made = Ok made
unless_found (Some f) made = Err f

-- Go

-- whether the bio is of a line of the actor
abbrev pub is_of_actor : World → ℕ → Bio → Bool
is_of_actor w actor x = list_any (λ h. (h.actor == actor) && is_of_handle x.owner h.number) w.handles

-- the smallest bio of a line of the actor that is out
abbrev pub own_bio : World → ℕ → Option Bio
own_bio w actor = find (is_of_actor w actor) w.bios

-- whether an event, a taste, a bio, a reap or a wash is due
abbrev pub is_unsettled : World → Bool
is_unsettled w =
    not (length w.events == 0)
    || (is_some w.taste || (not (length w.bios == 0) || (is_some (reap_work w) || is_some (wash_work w))))

-- what a sync and a settle wait for
abbrev pub waits_for : World → ℕ → Command → Option Found
waits_for w actor commands.Sync = option_map (λ x. found.OwnBiosOut x.number) (own_bio w actor)
waits_for w actor commands.Settle = if is_unsettled w then Some found.Unsettled else None
waits_for w actor _ = None

-- the world in which the actor has these commands left
abbrev pub with_commands : World → ℕ → List LineCommand → World
with_commands w actor rest = record w { actors = slice_set w.actors actor rest }

abbrev pub go_of : World → ℕ → Option (List LineCommand) → Answer
go_of w actor None = Err found.NoSuchActor
go_of w actor (Some []) = Err found.NoCommand
go_of w actor (Some (c ∷ rest)) =
    let after : World × Outcome = do_command (with_commands w actor rest) c.line actor c.command
    in unless_found (waits_for w actor c.command) after

-- the actor's next command
unfoldable pub go : World → ℕ → Answer
go w actor = go_of w actor (slice_get w.actors actor)

-- Event, Judge, Reap, Wash

-- the head of the queue is done
abbrev pub event_of : World → List Event → Answer
event_of w [] = Err found.QueueEmpty
event_of w (e ∷ rest) = Ok (do_event (record w { events = rest }) e, outcomes.Ran)

unfoldable pub event : World → Answer
event w = if is_some w.taste then Err found.TasteUnderWay else event_of w w.events

-- the root of the taste that is out; 0 where there is none, which a sound world rules out while the read is out
abbrev pub taste_bio : World → ℕ
taste_bio w = option_map_or (λ x. x.number) (find (λ x. is_taste_root x.owner) w.bios) 0

abbrev pub judge_of : World → Option Taste → Answer
judge_of w None = Err found.NoTaste
judge_of w (Some t) = if is_read_out t.asked then Err (found.ReadOut (taste_bio w)) else Ok (judge_step w t)

unfoldable pub judge_next : World → Answer
judge_next w = judge_of w w.taste

unfoldable pub reap_next : World → Answer
reap_next w = option_map_or (λ h. Ok (reap w h, outcomes.Ran)) (reap_work w) (Err found.NothingToReap)

unfoldable pub wash_next : World → Answer
wash_next w = option_map_or (λ work. Ok (wash w work, outcomes.Ran)) (wash_work w) (Err found.NothingToWash)

-- Start, Take, Deliver, Up

abbrev pub start_of : World → Option Bio → Answer
start_of w None = Err found.NoSuchBio
start_of w (Some x) = if is_down x.phase then Ok (start w x) else Err (found.InPhase x.phase)

-- what is against a Take of a bio that is Sent: another disk, or a Busy bio of the disk
abbrev pub disk_found : World → ℕ → Bio → Option ℕ → Option Found
disk_found w disk x None = Some (found.InPhase x.phase)
disk_found w disk x (Some d) =
    if d == disk then option_map (λ y. found.DiskBusy y.number) (busy_bio w disk) else Some (found.OtherDisk d)

-- what is against a Take: the phase, and then the disk
abbrev pub take_found : World → ℕ → Bio → Option Found
take_found w disk x =
    if is_sent x.phase then disk_found w disk x (disk_of_bio w x) else Some (found.InPhase x.phase)

abbrev pub take_of : World → ℕ → ℕ → Option Bio → Answer
take_of w seat disk None = Err found.NoSuchBio
take_of w seat disk (Some x) = unless_found (take_found w disk x) (take_bio w seat disk x)

-- what is against a Deliver: the phase, another seat, or an answer that doesn't fit
abbrev pub deliver_found : World → ℕ → Bio → DeviceResult → Phase → Option Found
deliver_found w seat x got (phases.Busy holder) =
    if holder == seat then (if is_fitting w x got then None else Some found.Unfit) else Some (found.OtherSeat holder)
deliver_found w seat x got phase = Some (found.InPhase phase)

abbrev pub deliver_of : World → ℕ → DeviceResult → Option Bio → Answer
deliver_of w seat got None = Err found.NoSuchBio
deliver_of w seat got (Some x) = unless_found (deliver_found w seat x got x.phase) (deliver w x got)

abbrev pub up_of : World → Option Bio → Answer
up_of w None = Err found.NoSuchBio
up_of w (Some x) = if is_up x.phase then Ok (up w x) else Err (found.InPhase x.phase)

-- Each step

-- a step made by a seat
unfoldable pub step : World → ℕ → Step → Answer
step w seat (steps.Go actor) = go w actor
step w seat steps.Event = event w
step w seat steps.Judge = judge_next w
step w seat steps.Reap = reap_next w
step w seat steps.Wash = wash_next w
step w seat (steps.Start b) = start_of w (bio_at w b)
step w seat (steps.Take disk b) = take_of w seat disk (bio_at w b)
step w seat (steps.Deliver b got) = deliver_of w seat got (bio_at w b)
step w seat (steps.Up b) = up_of w (bio_at w b)

-- whether a step is enabled for a seat
abbrev pub is_enabled : World → ℕ → Step → Bool
is_enabled w seat s = is_ok (step w seat s)
