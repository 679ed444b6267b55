-- The ledger of requests: what ties a history to the world that it leads to, bio by bio (g_bio(9)).
use Rattle.std.specs.Prelude.{◌++◌, Ok, ◌≡◌, ℕ, ◌<◌, ◌≤◌, false, List, count_by, ◌∷◌, [], map, Some, IsSomeAnd, MatchOption, All}
use Rattle.std.specs.List.{range_with_len}
use Rattle.geo_model.specs.declared.step.BioResult.{BioResult}
use Rattle.geo_model.specs.declared.step.DeviceResult.{DeviceResult}
use Rattle.geo_model.specs.declared.step.Outcome.{Outcome}
use Rattle.geo_model.specs.declared.step.Outcome.TheVariants as outcomes
use Rattle.geo_model.specs.declared.step.Owner.TheVariants as owners
use Rattle.geo_model.specs.declared.step.Phase.{Phase}
use Rattle.geo_model.specs.declared.step.Phase.TheVariants as phases
use Rattle.geo_model.specs.World.{World, Bio, bio_at, children_of}
use Rattle.geo_model.specs.declared.step.Step.{Step}
use Rattle.geo_model.specs.Fitting.{Firm}
use Rattle.geo_model.specs.Step.{step}
use Rattle.geo_model.specs.Log.{Moment, after_entry}
use Rattle.geo_model.specs.Results.{cmd_before, entries_of, is_deliver_of, is_start_of, is_take_of, leaves, request_of, result_of, start_moment}
use Rattle.geo_model.specs.History.{Acceptance, CompletesOnce, IsSuccess, is_reply_to}
use Rattle.geo_laws_requests.specs.Histories.{names_bio, Never, AnsweredAreTaken}
use Rattle.geo_laws_steps.specs.WayLaws.{SameMap}
use Rattle.geo_laws_requests.specs.Covering.{CoversThere, SameMaps}

-- the bio has no Start, no Take, no Deliver so far
abbrev pub NotStarted : List Moment → ℕ → Type 0
NotStarted history b = Never (is_start_of b) history

-- it has no Take so far
abbrev pub NotTaken : List Moment → ℕ → Type 0
NotTaken history b = Never (is_take_of b) history

-- it has no Deliver so far
abbrev pub NotDelivered : List Moment → ℕ → Type 0
NotDelivered history b = Never (is_deliver_of b) history

-- the Start of the bio sent it to a disk
abbrev pub WasQueued : List Moment → ℕ → Type 0
WasQueued history b =
    IsSomeAnd (start_moment history b) (λ m. (disk : ℕ) × (m.entry.outcome ≡ outcomes.Queued disk))

-- the Start of the bio split it into the children that the world has
pub record WasSplit (history : List Moment) (w : World) (x : Bio) : Type 0 where
  pub moment : Moment
  pub first : ℕ
  pub count : ℕ
  pub is : start_moment history x.number ≡ Some moment
  pub outcome : moment.entry.outcome ≡ outcomes.Split first count
  pub children : map (λ y. y.number) (children_of w x.number) ≡ range_with_len first count
  pub cmd : cmd_before moment.before x.number ≡ Some x.cmd

-- a Busy bio was sent to its disk and taken, and what its Take asked covers it
pub record WasAsked (history : List Moment) (w : World) (x : Bio) : Type 0 where
  pub queued : WasQueued history x.number
  pub undelivered : NotDelivered history x.number
  pub asked : IsSomeAnd (request_of (entries_of history) x.number)
      (λ q. (got : DeviceResult) → CoversThere w x (record { bio = x.number; request = q; got = got } ∷ []))

-- the result of a bio is the one that the history tells, and if it is a success, the leaves cover the bio
pub record HasResult (history : List Moment) (w : World) (x : Bio) (r : BioResult) : Type 0 where
  pub is : result_of history x.number ≡ Some r
  pub covers : IsSuccess r → CoversThere w x (leaves history x.number)

-- what the history tells of a bio, by its phase
abbrev pub SoFar : List Moment → World → Bio → Phase → Type 0
SoFar history w x phases.Down =
    NotStarted history x.number × NotTaken history x.number × NotDelivered history x.number
SoFar history w x phases.Sent = WasQueued history x.number × NotTaken history x.number × NotDelivered history x.number
SoFar history w x (phases.Busy seat) = WasAsked history w x
SoFar history w x phases.Waiting = WasSplit history w x
SoFar history w x phases.Up = IsSomeAnd x.result (HasResult history w x)
SoFar history w x phases.Done = IsSomeAnd x.result (HasResult history w x)

-- a bio of the world has no reply so far, and the history tells its phase
pub record IsLogged (history : List Moment) (w : World) (x : Bio) : Type 0 where
  pub unreplied : All (λ m. is_reply_to x.number m.entry ≡ false) history
  pub so_far : SoFar history w x x.phase

-- a bio is the one that was accepted, but for how far it has come
pub record IsSameRequest (y x : Bio) : Type 0 where
  pub cmd : x.cmd ≡ y.cmd
  pub offset : x.offset ≡ y.offset
  pub len : x.len ≡ y.len
  pub bytes : x.bytes ≡ y.bytes
  pub target : x.target ≡ y.target

-- an accepted bio that is on its way: it is of the line, the one that was accepted, and its provider's map is what it
-- was
pub record IsOnItsWay (w : World) (accepted : Acceptance) (x : Bio) : Type 0 where
  pub handle : ℕ
  pub owner : x.owner ≡ owners.Line handle accepted.line
  pub same : IsSomeAnd (bio_at accepted.world accepted.bio) (λ y. IsSameRequest y x)
  pub its_map : SameMap accepted.world.topology w.topology x.target

-- an accepted bio that is gone is complete: it has its one reply
pub record IsCompleted (history : List Moment) (accepted : Acceptance) : Type 0 where
  pub completes : CompletesOnce (entries_of history) history accepted
  pub replied : count_by (is_reply_to accepted.bio) (entries_of history) ≡ 1

-- an accepted bio was made before, and is gone and complete or on its way
pub record IsAccounted (history : List Moment) (w : World) (accepted : Acceptance) : Type 0 where
  pub made : accepted.bio < w.next_bio
  pub stands : MatchOption (bio_at w accepted.bio) (IsCompleted history accepted) (IsOnItsWay w accepted)

-- each acceptance of the history is accounted for
abbrev pub AcceptsAreAccounted : List Moment → World → Moment → Type 0
AcceptsAreAccounted history w m =
    (line b : ℕ) → m.entry.outcome ≡ outcomes.Accepted line b
    → IsAccounted history w (record { world = after_entry m.before m.entry; line = line; bio = b })

-- all of it: numbers to come aren't named yet, what was answered was taken, each bio is logged, and each acceptance is
-- accounted for
pub record Ledger (history : List Moment) (w : World) : Type 0 where
  pub fresh : (b : ℕ) → w.next_bio ≤ b → Never (names_bio b) history
  pub taken : AnsweredAreTaken history
  pub live : All (IsLogged history w) w.bios
  pub accepted : All (AcceptsAreAccounted history w) history

-- each enabled step of a firm mesh keeps the ledger, where the provider of each bio keeps its map
abbrev pub StepsKeepLedger : Type 0
StepsKeepLedger =
    (history : List Moment) (w v : World) (seat : ℕ) (s : Step) (o : Outcome)
    → Ledger history w → Firm w → SameMaps w v → step w seat s ≡ Ok (v, o)
    → Ledger (history ++ record { before = w; entry = record { seat = seat; step = s; outcome = o } } ∷ []) v
