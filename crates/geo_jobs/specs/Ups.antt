-- A turn of the up worker.
use Rattle.std.specs.Prelude.{◌≡◌, ◌⊎◌, ℕ, List, Option, Some, None, IfSome, IsSomeAnd}
use Rattle.geo_model.specs.declared.step.Entry.{Entry}
use Rattle.geo_model.specs.declared.step.Outcome.{Outcome}
use Rattle.geo_model.specs.declared.step.Step.TheVariants as steps
use Rattle.geo_model.specs.World.{World}
use Rattle.geo_model.specs.FixedOrder.{FoundFull, WasIdle}
use Rattle.geo_lane.specs.declared.ticket.Ticket.{Ticket}
use Rattle.geo_lane.specs.declared.ticket.TicketStep.{TicketStep}
use Rattle.geo_lane.specs.declared.ticket.TicketStep.TheVariants as hints
use Rattle.geo_jobs.specs.declared.lanes.Lanes.{Lanes}
use Rattle.geo_jobs.specs.declared.turn.Turn.{Turn}
use Rattle.geo_jobs.specs.declared.turn.Turn.TheVariants as turns
use Rattle.geo_jobs.specs.Passes.{MeshPass}
use Rattle.geo_jobs.specs.Putting.{PutsAll}
use Rattle.geo_jobs.specs.declared.up.UpJob.{UpJob}
use Rattle.geo_jobs.specs.Hints.{up_hints}
use Rattle.geo_jobs.specs.LanePasses.{IsPassTo, MadeOneStep, Rests, WasEmpty, with_taken}

-- it takes from the up lane, and puts into it
pub record IsUpJob (lanes : Lanes) (entries : List Entry) (j : UpJob) : Type 0 where
  pub takes : j.up.sender ≡ 0
  pub up : IsPassTo lanes.up entries j.up

-- the bio of a ticket to give one up
abbrev pub up_in : TicketStep → Option ℕ
up_in (hints.Up bio) = Some bio
up_in _ = None

-- the worker that took one ticket more
abbrev pub with_ticket_taken : UpJob → Ticket → UpJob
with_ticket_taken j t = record j { up = with_taken j.up t }

-- a bio went up, and the tickets that this outcome names were put
pub record GivesUp (bio : ℕ) (p q : MeshPass) (a b : UpJob) : Type 0 where
  pub outcome : Outcome
  pub adds : MadeOneStep p q (steps.Up bio) outcome
  pub puts : PutsAll a.up (up_hints outcome) b.up

-- what became of a bio that was tried to be given up
abbrev pub DidGiveUp : World → ℕ → MeshPass → MeshPass → UpJob → UpJob → Turn → Type 0
DidGiveUp opened bio p q a b turns.Worked = GivesUp bio p q a b
DidGiveUp opened bio p q a b turns.Idle = Rests p q a b × WasIdle opened q.seen q.number (steps.Up bio)
DidGiveUp opened bio p q a b turns.Finished = ⊥
DidGiveUp opened bio p q a b turns.LogFull = Rests p q a b × FoundFull opened q.seen q.number (steps.Up bio)
DidGiveUp opened bio p q a b turns.NoMemory = Rests p q a b

-- a ticket was passed over: it isn't one to give a bio up, or its Up isn't enabled at what the pass has seen
abbrev pub IsNoUp : World → MeshPass → TicketStep → Type 0
IsNoUp opened q t = IfSome (up_in t) (λ bio. WasIdle opened q.seen q.number (steps.Up bio))

-- what a turn did, by its answer
abbrev pub DidUp : World → MeshPass → MeshPass → UpJob → UpJob → Turn → Type 0
DidUp opened p q a b turns.Worked = (t : Ticket)
    × IsSomeAnd (up_in t.step) (λ bio. GivesUp bio p q (with_ticket_taken a t) b)
DidUp opened p q a b turns.Idle =
    (Rests p q a b × WasEmpty a.up) ⊎ ((t : Ticket) × Rests p q (with_ticket_taken a t) b × IsNoUp opened q t.step)
DidUp opened p q a b turns.Finished = ⊥
DidUp opened p q a b turns.LogFull =
    (t : Ticket) × Rests p q (with_ticket_taken a t) b
    × IsSomeAnd (up_in t.step) (λ bio. FoundFull opened q.seen q.number (steps.Up bio))
DidUp opened p q a b turns.NoMemory = (t : Ticket) × Rests p q (with_ticket_taken a t) b
