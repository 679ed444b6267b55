-- Rest, the fixed order of steps, and the measure that falls along it. The headline rests on `is_at_rest` and `pick`
-- alone: the measure, at the end, is what shows that an order comes to rest.
use Rattle.std.specs.Prelude.{ℕ, zero, suc, ◌+◌, ◌-◌, ◌*◌, ◌==◌, nat_lt, nat_le, Bool, true, false, not, ◌&&◌, ◌||◌, List, [], ◌∷◌, length, find, flat_map, sum_by, count_by, Option, Some, None, is_some, is_none, option_map, IsTrue, if◌then◌else◌}
use Rattle.std.specs.List.{list_all, enumerate_from}
use Rattle.std.specs.Option.{option_map_or}
use Rattle.geo_model.specs.Words.{first_some}
use Rattle.geo_base.specs.declared.kind.Kind.{Kind}
use Rattle.geo_base.specs.declared.kind.Kind.TheVariants as kinds
use Rattle.geo_base.specs.declared.limits.TheConstants.{MAX_LINKS, MAX_TASTE_READS, UNTASTED_RANK}
use Rattle.geo_model.specs.declared.command.LineCommand.{LineCommand}
use Rattle.geo_model.specs.declared.step.Event.{Event}
use Rattle.geo_model.specs.declared.step.Event.TheVariants as events
use Rattle.geo_model.specs.declared.step.Phase.{Phase}
use Rattle.geo_model.specs.declared.step.Phase.TheVariants as phases
use Rattle.geo_model.specs.declared.step.Step.{Step}
use Rattle.geo_model.specs.declared.step.Step.TheVariants as steps
use Rattle.geo_model.specs.Topology.{geom_of_provider, provider_with_geom, Provider}
use Rattle.geo_model.specs.Rank.{rank}
use Rattle.geo_model.specs.World.{World, Bio, Taste, Asked, NoClass, NextSector, ReadOut, ReadBack, is_up, is_sent, is_down, Config, Disk}
use Rattle.geo_model.specs.Bios.{piece_targets, piece_child, busy_bio, disk_of_bio}
use Rattle.geo_model.specs.Events.{tasting_classes}
use Rattle.geo_model.specs.Freeing.{reap_work, wash_work}
use Rattle.geo_model.specs.Step.{is_enabled}

-- Rest

-- no command, bio, event or taste is left, and no reap or wash is possible
unfoldable pub is_at_rest : World → Bool
is_at_rest w =
    list_all (λ rest. length rest == 0) w.actors
    && ((length w.bios == 0)
    && ((length w.events == 0)
    && (is_none w.taste && (is_none (reap_work w) && is_none (wash_work w)))))

abbrev pub Rest : World → Type 0
Rest w = IsTrue (is_at_rest w)

-- Pick

-- the first bio with a phase as the test wants, as a step
abbrev pub first_bio : World → (Bio → Bool) → (Bio → Step) → Option Step
first_bio w test step_of = option_map step_of (find test w.bios)

-- whether the bio can be taken: it is Sent, and no bio of its disk is Busy
abbrev pub is_to_take : World → Bio → Bool
is_to_take w x = is_sent x.phase && option_map_or (λ d. is_none (busy_bio w d)) (disk_of_bio w x) false

abbrev pub take_step : World → Bio → Step
take_step w x = steps.Take (option_map_or (λ d. d) (disk_of_bio w x) 0) x.number

-- a step, where it is enabled
abbrev pub if_enabled : World → Step → Option Step
if_enabled w s = if is_enabled w 0 s then Some s else None

-- the line of an actor's next command
abbrev pub next_line : List LineCommand → Option ℕ
next_line [] = None
next_line (c ∷ rest) = Some c.line

-- of actors with their next lines, the one whose line is the smallest
abbrev pub earliest : List (ℕ × ℕ) → Option ℕ
earliest [] = None
earliest (item ∷ rest) = if list_all (λ other. nat_le item.1 other.1) rest then Some item.0 else earliest rest

-- an actor with the line of its next command, where that is enabled
abbrev pub ready_actor : World → ℕ × List LineCommand → List (ℕ × ℕ)
ready_actor w item =
    option_map_or (λ line. if is_enabled w 0 (steps.Go item.0) then (item.0, line) ∷ [] else []) (next_line item.1) []

-- the actors whose next command is enabled, each with its line
abbrev pub ready_actors : World → List (ℕ × ℕ)
ready_actors w = flat_map (ready_actor w) (enumerate_from 0 w.actors)

-- the first enabled of: Up, Take and Start of the smallest bio, Judge, Event, Reap, Wash, Go of the smallest line
unfoldable pub pick : World → Option Step
pick w =
    first_some
    (first_bio w (λ x. is_up x.phase) (λ x. steps.Up x.number)
    ∷ first_bio w (is_to_take w) (take_step w)
    ∷ first_bio w (λ x. is_down x.phase) (λ x. steps.Start x.number)
    ∷ if_enabled w steps.Judge
    ∷ if_enabled w steps.Event
    ∷ if_enabled w steps.Reap
    ∷ if_enabled w steps.Wash
    ∷ option_map (λ actor. steps.Go actor) (earliest (ready_actors w))
    ∷ [])

-- Measure

-- the reads that a class may make in a taste, and the Judge steps for them: one submits a read, one judges what is back
abbrev pub reads_limit : ℕ
reads_limit = MAX_TASTE_READS

abbrev pub judges_of_class : ℕ
judges_of_class = 2 * reads_limit

-- the providers that a class can make
abbrev pub can_make : Kind → ℕ
can_make kinds.Mbr = 4
can_make kinds.Ebr = MAX_LINKS
can_make _ = 1

-- the Judge steps that a taste can make, the last of which ends it: 1 + 5 * 66 = 331
abbrev pub judges_of_taste : ℕ
judges_of_taste = 1 + judges_of_class * length tasting_classes

-- the providers that a taste can make: 4 + 32 + 1 + 1 + 1 = 39
abbrev pub makes_of_taste : ℕ
makes_of_taste = sum_by can_make tasting_classes

-- what the taste itself counts for in the cost of an offer: more than its Judge steps
abbrev pub taste_cost : ℕ
taste_cost = 400

-- what an offered provider can cost, by so many levels below the limit of tasting: its taste, and the offers of all
-- that the taste can make
abbrev pub taste_weight_below : ℕ → ℕ
taste_weight_below zero = 1
taste_weight_below (suc levels) = taste_cost + makes_of_taste * taste_weight_below levels

-- the same by the rank of the provider's geom; 1 from the limit on
abbrev pub taste_weight : ℕ → ℕ
taste_weight r = taste_weight_below (UNTASTED_RANK - r)

abbrev pub rank_of_provider : World → ℕ → ℕ
rank_of_provider w p = option_map_or (λ g. rank w.topology g.number) (geom_of_provider w.topology p) UNTASTED_RANK

-- two Judge steps for each read that a class may still make
abbrev pub judges_for : ℕ → ℕ
judges_for reads = 2 * (reads_limit - reads)

-- the Judge steps that a class asked still needs: one more for a read that is out or back
abbrev pub judges_left : Asked → ℕ → ℕ
judges_left NoClass reads = 0
judges_left (NextSector kind sector) reads = judges_for reads
judges_left (ReadOut kind) reads = 1 + judges_for reads
judges_left (ReadBack kind got) reads = 1 + judges_for reads

-- the providers that it can make
abbrev pub makes_left : Asked → ℕ
makes_left NoClass = 0
makes_left (NextSector kind sector) = can_make kind
makes_left (ReadOut kind) = can_make kind
makes_left (ReadBack kind got) = can_make kind

-- what the taste under way still needs: Judge steps, the last of which ends it, and the tastes of what it makes
abbrev pub taste_left : World → Option Taste → ℕ
taste_left w None = 0
taste_left w (Some t) =
    1 + judges_left t.asked t.reads + judges_of_class * length t.classes
    + (makes_left t.asked + sum_by can_make t.classes) * taste_weight (rank_of_provider w t.provider + 1)

-- what a pending event costs in tasting: an offer, or one that will follow
abbrev pub event_weight : World → Event → ℕ
event_weight w (events.NewProvider p) = taste_weight (rank_of_provider w p)
event_weight w (events.Resize p) = 1 + taste_weight (rank_of_provider w p)
event_weight w _ = 0

-- whether it is a Spoil or an Orphan
abbrev pub is_loss : Event → Bool
is_loss (events.Spoil p) = true
is_loss (events.Orphan p) = true
is_loss _ = false

-- one level of the way down: at a disk Start, Take, Deliver and Up, else Start, Up and the steps of each child
abbrev pub down_step : (Bio → ℕ) → World → Bio → Config → Provider → ℕ
down_step below w x (Disk disk) p = 4
down_step below w x config p =
    2 + sum_by (λ target. below (piece_child w.topology w.next_bio x 0 target)) (piece_targets config p x)

-- the steps that a bio that goes down needs over so many levels, with all of its children
abbrev pub down_steps_within : ℕ → World → Bio → ℕ
down_steps_within zero w x = 2
down_steps_within (suc levels) w x =
    option_map_or
    (λ here. down_step (down_steps_within levels w) w x here.1.config here.0)
    (provider_with_geom w.topology x.target)
    2

-- the steps that a bio still needs, without its children that are there already
abbrev pub steps_left : World → Bio → Phase → ℕ
steps_left w x phases.Down = down_steps_within (length w.topology.geoms) w x
steps_left w x phases.Sent = 3
steps_left w x (phases.Busy seat) = 2
steps_left w x phases.Waiting = 1
steps_left w x phases.Up = 1
steps_left w x phases.Done = 0

-- six numbers, compared from the first on
pub record Measure : Type 0 where
  pub commands : ℕ
  pub open_handles : ℕ
  pub tasting : ℕ
  pub losses : ℕ
  pub bio_steps : ℕ
  pub parts : ℕ

unfoldable pub measure : World → Measure
measure w = record {
  commands = sum_by (λ rest. length rest) w.actors;
  open_handles = count_by (λ h. is_some h.consumer) w.handles;
  tasting = sum_by (event_weight w) w.events + taste_left w w.taste;
  losses = 2 * count_by (λ p. not p.errored) w.topology.providers + count_by is_loss w.events;
  bio_steps = sum_by (λ x. steps_left w x x.phase) w.bios;
  parts = length w.topology.geoms + length w.topology.providers + length w.topology.consumers;
}

abbrev pub numbers_of : Measure → List ℕ
numbers_of m = m.commands ∷ m.open_handles ∷ m.tasting ∷ m.losses ∷ m.bio_steps ∷ m.parts ∷ []

-- whether the numbers come before the others at the first that differs
abbrev pub comes_before : List ℕ → List ℕ → Bool
comes_before (m ∷ ms) (n ∷ ns) = nat_lt m n || ((m == n) && comes_before ms ns)
comes_before _ _ = false

abbrev pub IsLess : Measure → Measure → Type 0
IsLess a b = IsTrue (comes_before (numbers_of a) (numbers_of b))
