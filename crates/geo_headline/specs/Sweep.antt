-- The elevator order: each disk takes its requests by rising place, and none passes a FLUSH.
use Rattle.std.specs.Prelude.{ℕ, ◌/◌, ◌==◌, nat_le, Bool, false, not, ◌&&◌, List, [], ◌∷◌, length, filter, fold, map, Option, Some, None, option_map, if◌then◌else◌}
use Rattle.std.specs.List.{list_all, range_with_len}
use Rattle.std.specs.Option.{option_map_or, option_or}
use Rattle.geo_model.specs.declared.step.Entry.{Entry}
use Rattle.geo_model.specs.declared.step.Outcome.{Outcome}
use Rattle.geo_model.specs.declared.step.Outcome.TheVariants as outcomes
use Rattle.geo_model.specs.declared.step.Step.{Step}
use Rattle.geo_model.specs.declared.step.Step.TheVariants as steps
use Rattle.geo_model.specs.Words.{is_flush, first_some}
use Rattle.geo_model.specs.World.{World, Bio, is_up, is_sent, is_down}
use Rattle.geo_model.specs.Bios.{disk_of_bio, sector_of_bio}
use Rattle.geo_model.specs.Order.{first_bio, if_enabled, earliest, ready_actors}
use Rattle.geo_model.specs.FixedOrder.{StepOrder}

-- The head of a disk

-- after an outcome: the first sector that the disk was asked for, unless that was a FLUSH
abbrev pub head_after : ℕ → ℕ → Outcome → ℕ
head_after disk head (outcomes.Asked q) = if (q.disk == disk) && not (is_flush q.cmd) then q.first else head
head_after disk head _ = head

-- after a log: where the last request of the disk that isn't a FLUSH began, 0 where there was none
abbrev pub head_of : List Entry → ℕ → ℕ
head_of log disk = fold (λ head e. head_after disk head e.outcome) 0 log

-- What waits for a disk

-- a bio that waits for its disk: its number, whether it is a FLUSH, and the sector at which it begins
pub record Waiting : Type 0 where
  pub bio : ℕ
  pub flush : Bool
  pub first : ℕ

abbrev pub waiting_of : World → Bio → Waiting
waiting_of w x = record { bio = x.number; flush = is_flush x.cmd; first = x.offset / sector_of_bio w x }

-- whether the bio waits for the disk
abbrev pub is_sent_to : World → ℕ → Bio → Bool
is_sent_to w disk x = is_sent x.phase && option_map_or (λ d. d == disk) (disk_of_bio w x) false

-- what waits for a disk, in order of numbers
abbrev pub waiting_for : World → ℕ → List Waiting
waiting_for w disk = map (waiting_of w) (filter (is_sent_to w disk) w.bios)

-- what stands before the first FLUSH
abbrev pub before_flush : List Waiting → List Waiting
before_flush [] = []
before_flush (x ∷ xs) = if x.flush then [] else x ∷ before_flush xs

-- what the disk may take next: a FLUSH that stands in front, alone; else what stands before the first one
abbrev pub candidates : List Waiting → List Waiting
candidates [] = []
candidates (x ∷ xs) = if x.flush then x ∷ [] else x ∷ before_flush xs

-- Which is next

-- the one with the smallest place, of several the first
abbrev pub least_place : List Waiting → Option Waiting
least_place [] = None
least_place (x ∷ xs) = if list_all (λ y. nat_le x.first y.first) xs then Some x else least_place xs

-- those that aren't behind the head
abbrev pub ahead_of : ℕ → List Waiting → List Waiting
ahead_of head xs = filter (λ x. nat_le head x.first) xs

-- the smallest place that isn't behind the head; where all are behind it, the smallest
abbrev pub next_of : ℕ → List Waiting → Option Waiting
next_of head xs = option_or (least_place (ahead_of head xs)) (least_place xs)

-- the Take that is next at a disk
abbrev pub next_take : World → List Entry → ℕ → Option Step
next_take w log disk =
    option_map (λ x. steps.Take disk x.bio) (next_of (head_of log disk) (candidates (waiting_for w disk)))

-- The order

-- the Take of the first disk, in header order, for which something waits
abbrev pub first_take : World → List Entry → Option Step
first_take w log = first_some (map (next_take w log) (range_with_len 0 (length w.disks)))

-- the step, if there is one and it is enabled
abbrev pub enabled_one : World → Option Step → Option Step
enabled_one w None = None
enabled_one w (Some s) = if_enabled w s

-- the first enabled of: Up and Start of the smallest bio, Judge, Event, Go of the smallest line, the Take, Reap, Wash
unfoldable pub pick_sweep : World → List Entry → Option Step
pick_sweep w log =
    first_some
    (first_bio w (λ x. is_up x.phase) (λ x. steps.Up x.number)
    ∷ first_bio w (λ x. is_down x.phase) (λ x. steps.Start x.number)
    ∷ if_enabled w steps.Judge
    ∷ if_enabled w steps.Event
    ∷ option_map (λ actor. steps.Go actor) (earliest (ready_actors w))
    ∷ enabled_one w (first_take w log)
    ∷ if_enabled w steps.Reap
    ∷ if_enabled w steps.Wash
    ∷ [])

-- the elevator order, which reads the heads off the log
abbrev pub sweep_order : StepOrder
sweep_order w log = pick_sweep w log
