-- A turn of the down worker.
use Rattle.std.specs.Prelude.{◌≡◌, ◌⊎◌, ℕ, List, Option, Some, None, IfSome, IsSomeAnd}
use Rattle.geo_model.specs.declared.step.Entry.{Entry}
use Rattle.geo_model.specs.declared.step.Outcome.{Outcome}
use Rattle.geo_model.specs.declared.step.Step.TheVariants as steps
use Rattle.geo_model.specs.World.{World}
use Rattle.geo_model.specs.FixedOrder.{FoundFull, WasIdle}
use Rattle.geo_lane.specs.declared.ticket.Ticket.{Ticket}
use Rattle.geo_lane.specs.declared.ticket.TicketStep.{TicketStep}
use Rattle.geo_lane.specs.declared.ticket.TicketStep.TheVariants as hints
use Rattle.geo_jobs.specs.declared.lanes.Lanes.{Lanes}
use Rattle.geo_jobs.specs.declared.turn.Turn.{Turn}
use Rattle.geo_jobs.specs.declared.turn.Turn.TheVariants as turns
use Rattle.geo_jobs.specs.Passes.{MeshPass}
use Rattle.geo_jobs.specs.Putting.{PutsAll}
use Rattle.geo_jobs.specs.declared.down.DownJob.{DownJob}
use Rattle.geo_jobs.specs.Hints.{bounced_hint, queued_hint, split_hints}
use Rattle.geo_jobs.specs.LanePasses.{AreFew, CanPut, IsPassTo, MadeOneStep, Rests, WasEmpty, with_taken}

-- it takes from the down lane, and puts into all four
pub record IsDownJob (lanes : Lanes) (entries : List Entry) (j : DownJob) : Type 0 where
  pub takes : j.down.sender ≡ 0
  pub down : IsPassTo lanes.down entries j.down
  pub up : IsPassTo lanes.up entries j.up
  pub disk0 : IsPassTo lanes.disk0 entries j.disk0
  pub disk1 : IsPassTo lanes.disk1 entries j.disk1

-- its passes are of the lanes, with room for the tickets of a turn
pub record CanPutDown (lanes : Lanes) (j : DownJob) : Type 0 where
  pub down : CanPut lanes.down j.down
  pub up : CanPut lanes.up j.up
  pub disk0 : CanPut lanes.disk0 j.disk0
  pub disk1 : CanPut lanes.disk1 j.disk1

-- the bio of a ticket to start one
abbrev pub start_in : TicketStep → Option ℕ
start_in (hints.Start bio) = Some bio
start_in _ = None

-- the worker that took one ticket more
abbrev pub down_with : DownJob → Ticket → DownJob
down_with j t = record j { down = with_taken j.down t }

-- the tickets that the outcome of a Start names were put
pub record PutsOfStart (bio : ℕ) (outcome : Outcome) (a b : DownJob) : Type 0 where
  pub down : PutsAll a.down (split_hints outcome) b.down
  pub up : PutsAll a.up (bounced_hint bio outcome) b.up
  pub disk0 : PutsAll a.disk0 (queued_hint 0 bio outcome) b.disk0
  pub disk1 : PutsAll a.disk1 (queued_hint 1 bio outcome) b.disk1

-- which are few
pub record AreFewOfStart (bio : ℕ) (outcome : Outcome) : Type 0 where
  pub down : AreFew (split_hints outcome)
  pub up : AreFew (bounced_hint bio outcome)
  pub disk0 : AreFew (queued_hint 0 bio outcome)
  pub disk1 : AreFew (queued_hint 1 bio outcome)

-- a bio was started
pub record Starts (bio : ℕ) (p q : MeshPass) (a b : DownJob) : Type 0 where
  pub outcome : Outcome
  pub adds : MadeOneStep p q (steps.Start bio) outcome
  pub puts : PutsOfStart bio outcome a b

-- what became of a bio that was tried to be started
abbrev pub DidStart : World → ℕ → MeshPass → MeshPass → DownJob → DownJob → Turn → Type 0
DidStart opened bio p q a b turns.Worked = Starts bio p q a b
DidStart opened bio p q a b turns.Idle = Rests p q a b × WasIdle opened q.seen q.number (steps.Start bio)
DidStart opened bio p q a b turns.Finished = ⊥
DidStart opened bio p q a b turns.LogFull = Rests p q a b × FoundFull opened q.seen q.number (steps.Start bio)
DidStart opened bio p q a b turns.NoMemory = Rests p q a b

-- a ticket was passed over: it isn't one to start a bio, or its Start isn't enabled at what the pass has seen
abbrev pub IsNoStart : World → MeshPass → TicketStep → Type 0
IsNoStart opened q t = IfSome (start_in t) (λ bio. WasIdle opened q.seen q.number (steps.Start bio))

-- what a turn did, by its answer
abbrev pub DidDown : World → MeshPass → MeshPass → DownJob → DownJob → Turn → Type 0
DidDown opened p q a b turns.Worked =
    (t : Ticket) × IsSomeAnd (start_in t.step) (λ bio. Starts bio p q (down_with a t) b)
DidDown opened p q a b turns.Idle =
    (Rests p q a b × WasEmpty a.down) ⊎ ((t : Ticket) × Rests p q (down_with a t) b × IsNoStart opened q t.step)
DidDown opened p q a b turns.Finished = ⊥
DidDown opened p q a b turns.LogFull =
    (t : Ticket) × Rests p q (down_with a t) b
    × IsSomeAnd (start_in t.step) (λ bio. FoundFull opened q.seen q.number (steps.Start bio))
DidDown opened p q a b turns.NoMemory = (t : Ticket) × Rests p q (down_with a t) b
