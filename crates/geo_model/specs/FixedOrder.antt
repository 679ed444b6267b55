-- Whose step stands where in a log: the order of one thread, and the jobs of many.
use Rattle.std.specs.Prelude.{◌≡◌, ◌≢◌, ◌⊎◌, ℕ, ◌+◌, ◌%◌, false, List, [], ◌∷◌, ◌++◌, length, Option, Some, None, IsSome, IsSomeAnd, IsTrue, All, ⊤}
use Rattle.geo_model.specs.declared.command.Command.{Command}
use Rattle.geo_model.specs.declared.command.Command.TheVariants as commands
use Rattle.geo_model.specs.declared.step.Entry.{Entry}
use Rattle.geo_model.specs.declared.step.Step.{Step}
use Rattle.geo_model.specs.declared.step.Step.TheVariants as steps
use Rattle.geo_model.specs.World.{World, Plan}
use Rattle.geo_model.specs.Step.{is_enabled}
use Rattle.geo_model.specs.Order.{pick}
use Rattle.geo_model.specs.Log.{replay, IsSplitBy, IsPrefixOf, is_full}
use Rattle.geo_model.specs.Passes.{entries_of_seat}
use Rattle.geo_model.specs.History.{next_command}

-- One thread

-- an order in which one thread makes the steps: the step that is due in a world after its log, if there is one
abbrev pub StepOrder : Type 0
StepOrder = World → List Entry → Option Step

-- the fixed order, which looks at the world alone
abbrev pub fixed_order : StepOrder
fixed_order w log = pick w

-- the bio that a step takes, and the one that it delivers
abbrev pub taken_in : Step → Option ℕ
taken_in (steps.Take disk b) = Some b
taken_in _ = None

abbrev pub delivered_in : Step → Option ℕ
delivered_in (steps.Deliver b got) = Some b
delivered_in _ = None

-- the step is the Deliver of the bio that the last entry took
abbrev pub FollowsTake : List Entry → Step → Type 0
FollowsTake earlier s =
    (start : List Entry) × (e : Entry) × (earlier ≡ start ++ e ∷ [])
    × IsSome (taken_in e.step) × (taken_in e.step ≡ delivered_in s)

-- the entry is of seat 0, and its step is the one that was due or the Deliver after its Take
pub record IsOfOrder (order : StepOrder) (opened : World) (earlier : List Entry) (e : Entry) : Type 0 where
  pub seat : e.seat ≡ 0
  pub was_due : (order (replay opened earlier) earlier ≡ Some e.step) ⊎ FollowsTake earlier e.step

-- after the first part come only such entries
abbrev pub FollowsOrder : StepOrder → World → List Entry → List Entry → Type 0
FollowsOrder order opened first_part log =
    (earlier : List Entry) (e : Entry) → IsSplitBy log earlier e → IsOfOrder order opened (first_part ++ earlier) e

-- Jobs

-- the seat of the event worker, which comes after one for each client; the down worker and the up worker follow
abbrev pub event_seat : Plan → ℕ
event_seat plan = length plan.actors + 1

-- the seat of the disk worker to which a disk belongs: there are two, and the disks go to them in turn
abbrev pub disk_seat : Plan → ℕ → ℕ
disk_seat plan disk = event_seat plan + 3 + disk % 2

-- the step is of the kind of the job whose pass has the seat
abbrev pub IsOfItsJob : Plan → ℕ → Step → Type 0
IsOfItsJob plan seat (steps.Go actor) = seat ≡ actor + 1
IsOfItsJob plan seat steps.Event = seat ≡ event_seat plan
IsOfItsJob plan seat steps.Judge = seat ≡ event_seat plan
IsOfItsJob plan seat steps.Reap = seat ≡ event_seat plan
IsOfItsJob plan seat steps.Wash = seat ≡ event_seat plan
IsOfItsJob plan seat (steps.Start b) = seat ≡ event_seat plan + 1
IsOfItsJob plan seat (steps.Up b) = seat ≡ event_seat plan + 2
IsOfItsJob plan seat (steps.Take disk b) = seat ≡ disk_seat plan disk
IsOfItsJob plan seat (steps.Deliver b got) = (seat ≡ disk_seat plan 0) ⊎ (seat ≡ disk_seat plan 1)

-- a job that tried a step was idle: the step isn't enabled in the world that it had seen
abbrev pub WasIdle : World → List Entry → ℕ → Step → Type 0
WasIdle opened seen seat s = is_enabled (replay opened seen) seat s ≡ false

-- a client has finished: its actor has no command left in the world that it had seen; one that isn't there has none
abbrev pub HasFinished : World → List Entry → ℕ → Type 0
HasFinished opened seen actor = next_command (replay opened seen) actor ≡ None

-- a job found the log full: the step that it tried has no place in the log that it had seen
abbrev pub FoundFull : World → List Entry → ℕ → Step → Type 0
FoundFull opened seen seat s = IsTrue (is_full seen (replay opened seen) seat s)

-- the event worker tried the step in the turn that it began with `first` seen and ended with `last`, and was idle at it
pub record TriedInVain (opened : World) (plan : Plan) (first last : List Entry) (s : Step) : Type 0 where
  pub seen : List Entry
  pub behind_first : IsPrefixOf first seen
  pub before_last : IsPrefixOf seen last
  pub was_idle : WasIdle opened seen (event_seat plan) s

-- the event worker was idle in a turn: none of its four steps was enabled, each at its own try
pub record EventWorkerIdle (opened : World) (plan : Plan) (first last : List Entry) : Type 0 where
  pub at_judge : TriedInVain opened plan first last steps.Judge
  pub at_event : TriedInVain opened plan first last steps.Event
  pub at_reap : TriedInVain opened plan first last steps.Reap
  pub at_wash : TriedInVain opened plan first last steps.Wash

-- a seat was idle at the step after all of its own entries
abbrev pub EndedIdle : World → List Entry → ℕ → Step → Type 0
EndedIdle opened threads seat s =
    (seen : List Entry) × IsPrefixOf seen threads × (entries_of_seat seat seen ≡ entries_of_seat seat threads)
    × WasIdle opened seen seat s

abbrev pub IsWait : Command → Type 0
IsWait commands.Sync = ⊤
IsWait commands.Settle = ⊤
IsWait _ = ⊥

-- e is the first Go of the actor in a log, and this is what comes before it
pub record IsFirstGo (log : List Entry) (actor : ℕ) (earlier : List Entry) (e : Entry) : Type 0 where
  pub split : IsSplitBy log earlier e
  pub go : e.step ≡ steps.Go actor
  pub first : All (λ x. x.step ≢ steps.Go actor) earlier

-- a client left its next command to the last part: it is a sync or a settle, at which the client was idle
pub record ClientStopped (opened : World) (threads earlier : List Entry) (actor : ℕ) : Type 0 where
  pub waits : IsSomeAnd (next_command (replay opened (threads ++ earlier)) actor) (λ c. IsWait c.command)
  pub was_idle : EndedIdle opened threads (actor + 1) (steps.Go actor)

-- the log of threads: what the jobs did, and then what was left in an order
pub record FollowsJobs (order : StepOrder) (plan : Plan) (opened : World) (threads rest : List Entry) : Type 0 where
  pub own_kind : All (λ e. (e.seat ≢ 0) × IsOfItsJob plan e.seat e.step) threads
  pub in_order : FollowsOrder order opened threads rest

-- why the jobs ended: clients with commands left were waiting, and the event worker was idle at each of its steps
pub record JobsEndedIdle (plan : Plan) (opened : World) (threads rest : List Entry) : Type 0 where
  pub clients : (actor : ℕ) (earlier : List Entry) (e : Entry) → IsFirstGo rest actor earlier e
      → ClientStopped opened threads earlier actor
  pub judge : EndedIdle opened threads (event_seat plan) steps.Judge
  pub event : EndedIdle opened threads (event_seat plan) steps.Event
  pub reap : EndedIdle opened threads (event_seat plan) steps.Reap
  pub wash : EndedIdle opened threads (event_seat plan) steps.Wash
