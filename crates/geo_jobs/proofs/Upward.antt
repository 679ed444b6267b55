-- A turn of the up worker, from what became of its ticket.
use Rattle.std.specs.Prelude.{◌≡◌, ℕ, [], ◌∷◌, Option, Some, IfSome, IsSomeAnd}
use Rattle.std.proofs.Common.{ap, inr, subst, sym, ◌∙◌}
use Rattle.geo_model.specs.declared.step.Entry.{Entry}
use Rattle.geo_model.specs.declared.step.Outcome.{Outcome}
use Rattle.geo_lane.specs.declared.ticket.Ticket.{Ticket}
use Rattle.geo_model.specs.declared.step.Step.TheVariants as steps
use Rattle.geo_model.specs.World.{World}
use Rattle.geo_model.specs.FixedOrder.{FoundFull, WasIdle}
use Rattle.geo_jobs.specs.declared.lanes.Lanes.{Lanes}
use Rattle.geo_jobs.specs.declared.turn.Turn.{Turn}
use Rattle.geo_jobs.specs.declared.turn.Turn.TheVariants as turns
use Rattle.geo_jobs.specs.Passes.{Goes, MeshPass}
use Rattle.geo_jobs.specs.Putting.{PutsAll}
use Rattle.geo_jobs.proofs.Tickets.{puts_same}
use Rattle.geo_lane.specs.LanePass.{LanePassView}
use Rattle.geo_jobs.specs.declared.up.UpJob.{UpJob}
use Rattle.geo_jobs.specs.Hints.{up_hints}
use Rattle.geo_jobs.specs.LanePasses.{AreFew}
use Rattle.geo_jobs.specs.Ups.{DidGiveUp, DidUp, GivesUp, IsUpJob, up_in, with_ticket_taken}
use Rattle.geo_jobs.proofs.Joining.{pass_worked}

pub at_some : (o : Option ℕ) (bio : ℕ) (P : ℕ → Type 0) → o ≡ Some bio → P bio → IsSomeAnd o P
at_some o bio P is given = subst (λ x. IsSomeAnd x P) (sym is) given

pub if_some : (o : Option ℕ) (bio : ℕ) (P : ℕ → Type 0) → o ≡ Some bio → P bio → IfSome o P
if_some o bio P is given = subst (λ x. IfSome x P) (sym is) given

-- a worker took the ticket of a bio, and this became of it
pub did_up : (opened : World) (p q : MeshPass) (a b : UpJob) (t : Ticket) (bio : ℕ) (r : Turn)
    → up_in t.step ≡ Some bio → DidGiveUp opened bio p q (with_ticket_taken a t) b r → DidUp opened p q a b r
did_up opened p q a b t bio turns.Worked is did =
    (t, at_some (up_in t.step) bio (λ n. GivesUp n p q (with_ticket_taken a t) b) is did)
did_up opened p q a b t bio turns.Idle is did =
    inr (t, did.0, if_some (up_in t.step) bio (λ n. WasIdle opened q.seen q.number (steps.Up n)) is did.1)
did_up opened p q a b t bio turns.Finished is did = absurd did
did_up opened p q a b t bio turns.LogFull is did =
    (t, did.0, at_some (up_in t.step) bio (λ n. FoundFull opened q.seen q.number (steps.Up n)) is did.1)
did_up opened p q a b t bio turns.NoMemory is did = (t, did)

-- a worker that gave a bio up keeps to its budget
pub up_worked : (lanes : Lanes) (p q : MeshPass) (e : Entry) (a b : UpJob) (o : Outcome) → Goes p q (e ∷ [])
    → IsUpJob lanes p.own a → PutsAll a.up (up_hints o) b.up → AreFew (up_hints o) → IsUpJob lanes q.own b
up_worked lanes p q e a b o goes job puts few = record {
  takes = ap (λ (l : LanePassView). l.sender) (puts_same a.up (up_hints o) b.up puts) ∙ job.takes;
  up = pass_worked p q e lanes.up a.up b.up (up_hints o) goes job.up puts few;
}
