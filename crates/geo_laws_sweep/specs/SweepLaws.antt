-- What the elevator order keeps.
use Rattle.std.specs.Prelude.{◌≡◌, ℕ, ◌+◌, ◌≤◌, ◌==◌, nat_lt, Bool, false, not, ◌&&◌, List, ◌∷◌, ◌++◌, filter, filter_map, Option, Some, None, Ok, IsTrue, All, Contains, if◌then◌else◌}
use Rattle.geo_model.specs.declared.step.Entry.{Entry}
use Rattle.geo_model.specs.declared.step.Outcome.{Outcome}
use Rattle.geo_model.specs.declared.step.Outcome.TheVariants as outcomes
use Rattle.geo_model.specs.declared.step.Step.{Step}
use Rattle.geo_model.specs.declared.step.Step.TheVariants as steps
use Rattle.geo_model.specs.Words.{is_flush}
use Rattle.geo_model.specs.World.{World, Plan}
use Rattle.geo_model.specs.Opening.{opening}
use Rattle.geo_model.specs.Plans.{MayBegin, FactsFit}
use Rattle.geo_model.specs.Step.{step}
use Rattle.geo_model.specs.Log.{Legal, replay}
use Rattle.geo_model.specs.Fitting.{Firm}
use Rattle.geo_model.specs.History.{AtEachEntry}
use Rattle.geo_model.specs.FixedOrder.{FollowsOrder}
use Rattle.geo_model.specs.Laws.{OrderGoesOn, OrderEnds}
use Rattle.geo_headline.specs.Sweep.{Waiting, waiting_for, sweep_order}

-- it goes on until rest, and each of its steps lowers the measure; a Wash, which comes last, is never early
abbrev pub SweepGoesOn : Type 0
SweepGoesOn = OrderGoesOn sweep_order

-- at rest it gives none
abbrev pub SweepEnds : Type 0
SweepEnds = OrderEnds sweep_order

-- What waits, step by step

-- whether the step brings a disk a request, or takes one from what waits for it
abbrev pub is_queued : ℕ → Outcome → Bool
is_queued disk (outcomes.Queued d) = d == disk
is_queued disk _ = false

-- whether it is a request that was taken for the disk
abbrev pub is_asked : ℕ → Outcome → Bool
is_asked disk (outcomes.Asked q) = q.disk == disk
is_asked disk _ = false

-- one more waits, at the place of its number
pub record OneMore (b : ℕ) (before after : List Waiting) : Type 0 where
  pub front : List Waiting
  pub one : Waiting
  pub back : List Waiting
  pub was : before ≡ front ++ back
  pub is : after ≡ front ++ one ∷ back
  pub number : one.bio ≡ b
  pub below : All (λ x. x.bio ≤ b) front
  pub above : All (λ x. b ≤ x.bio) back

-- by a Start that queues to the disk one more waits, by a Take of it one less, and by each other step the same; only a
-- Start queues, and only a Take asks
pub record WaitingChanges (disk : ℕ) (s : Step) (o : Outcome) (before after : List Waiting) : Type 0 where
  pub queued : (b : ℕ) → s ≡ steps.Start b → IsTrue (is_queued disk o) → OneMore b before after
  pub taken : (b : ℕ) → s ≡ steps.Take disk b → after ≡ filter (λ x. not (x.bio == b)) before
  pub queued_by_start : IsTrue (is_queued disk o) → (b : ℕ) × (s ≡ steps.Start b)
  pub asked_by_take : IsTrue (is_asked disk o) → (b : ℕ) × (s ≡ steps.Take disk b)
  pub stays : is_queued disk o ≡ false → is_asked disk o ≡ false → after ≡ before

-- so by each step of a firm mesh, by any seat
abbrev pub StepsChangeWaiting : Type 0
StepsChangeWaiting =
    (w v : World) (seat disk : ℕ) (s : Step) (o : Outcome) → Firm w → step w seat s ≡ Ok (v, o)
    → WaitingChanges disk s o (waiting_for w disk) (waiting_for v disk)

-- a Take asks for what the bio waited for
abbrev pub Asks : Waiting → Outcome → Type 0
Asks x (outcomes.Asked q) = (q.first ≡ x.first) × (is_flush q.cmd ≡ x.flush)
Asks x _ = ⊥

-- so does each Take of a firm mesh
abbrev pub TakesAskWaiting : Type 0
TakesAskWaiting =
    (w v : World) (seat disk b : ℕ) (o : Outcome) → Firm w → step w seat (steps.Take disk b) ≡ Ok (v, o)
    → (x : Waiting) × Contains (waiting_for w disk) x × (x.bio ≡ b) × Asks x o

-- Along a log in this order

-- the first sector of a request of the disk that isn't a FLUSH
abbrev pub place_asked : ℕ → Outcome → Option ℕ
place_asked disk (outcomes.Asked q) = if (q.disk == disk) && not (is_flush q.cmd) then Some q.first else None
place_asked disk _ = None

-- where the requests of the disk began, in the order in which they were taken
abbrev pub places_asked : ℕ → List Entry → List ℕ
places_asked disk log = filter_map (λ e. place_asked disk e.outcome) log

-- how often a number is followed by a smaller one
abbrev pub falls : List ℕ → ℕ
falls (m ∷ n ∷ rest) = (if nat_lt n m then 1 else 0) + falls (n ∷ rest)
falls _ = 0

-- whether the entry brings the disk a request, or is the Take of a FLUSH by it
abbrev pub breaks_run : ℕ → Outcome → Bool
breaks_run disk (outcomes.Queued d) = d == disk
breaks_run disk (outcomes.Asked q) = (q.disk == disk) && is_flush q.cmd
breaks_run disk _ = false

-- between entries that bring the disk a request, or are its FLUSH, the first sector falls at most once
abbrev pub FallsOnce : List Entry → Type 0
FallsOnce log =
    (disk : ℕ) (earlier run later : List Entry) → log ≡ earlier ++ run ++ later
    → All (λ e. breaks_run disk e.outcome ≡ false) run → falls (places_asked disk run) ≤ 1

-- no bio is taken before a FLUSH that waits for the same disk and has a smaller number
abbrev pub NonePassesFlush : World → List Entry → Type 0
NonePassesFlush began log =
    AtEachEntry began log (λ w e.
    (disk b : ℕ) → e.step ≡ steps.Take disk b → All (λ x. IsTrue x.flush → b ≤ x.bio) (waiting_for w disk))

-- so of a log from a mesh on
pub record KeepsPlaces (began : World) (log : List Entry) : Type 0 where
  pub falls_once : FallsOnce log
  pub none_passes : NonePassesFlush began log

-- so in each legal log, for what comes in this order after a first part
abbrev pub SweepsKeepPlaces : Type 0
SweepsKeepPlaces =
    (plan : Plan) (facts : List (ℕ × ℕ)) → MayBegin plan → FactsFit plan facts
    → (first_part log : List Entry) → Legal (opening plan facts) (first_part ++ log)
    → FollowsOrder sweep_order (opening plan facts) first_part log
    → KeepsPlaces (replay (opening plan facts) first_part) log
