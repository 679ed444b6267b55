-- A turn of the down worker, from what became of its ticket.
use Rattle.std.specs.Prelude.{◌≡◌, ℕ, [], ◌∷◌, Some}
use Rattle.std.proofs.Common.{ap, inr, ◌∙◌}
use Rattle.geo_model.specs.declared.step.Entry.{Entry}
use Rattle.geo_model.specs.declared.step.Outcome.{Outcome}
use Rattle.geo_lane.specs.declared.ticket.Ticket.{Ticket}
use Rattle.geo_lane.specs.LanePass.{LanePassView}
use Rattle.geo_lock.specs.Yard.{IsPassOf, YardView}
use Rattle.geo_model.specs.declared.step.Step.TheVariants as steps
use Rattle.geo_model.specs.World.{World}
use Rattle.geo_model.specs.FixedOrder.{FoundFull, WasIdle}
use Rattle.geo_jobs.specs.declared.lanes.Lanes.{Lanes}
use Rattle.geo_jobs.specs.declared.turn.Turn.{Turn}
use Rattle.geo_jobs.specs.declared.turn.Turn.TheVariants as turns
use Rattle.geo_jobs.specs.Passes.{Goes, IsGoodPass, MeshPass}
use Rattle.geo_jobs.proofs.Tickets.{puts_same}
use Rattle.geo_jobs.specs.declared.down.DownJob.{DownJob}
use Rattle.geo_jobs.specs.Downs.{AreFewOfStart, CanPutDown, DidDown, DidStart, IsDownJob, PutsOfStart, Starts, down_with, start_in}
use Rattle.geo_jobs.specs.Hints.{bounced_hint, queued_hint, split_hints}
use Rattle.geo_jobs.proofs.Joining.{can_put, pass_worked}
use Rattle.geo_jobs.proofs.Upward.{at_some, if_some}

-- a worker took the ticket of a bio, and this became of it
pub did_down : (opened : World) (p q : MeshPass) (a b : DownJob) (t : Ticket) (bio : ℕ) (r : Turn)
    → start_in t.step ≡ Some bio → DidStart opened bio p q (down_with a t) b r → DidDown opened p q a b r
did_down opened p q a b t bio turns.Worked is did =
    (t, at_some (start_in t.step) bio (λ n. Starts n p q (down_with a t) b) is did)
did_down opened p q a b t bio turns.Idle is did =
    inr (t, did.0, if_some (start_in t.step) bio (λ n. WasIdle opened q.seen q.number (steps.Start n)) is did.1)
did_down opened p q a b t bio turns.Finished is did = absurd did
did_down opened p q a b t bio turns.LogFull is did =
    (t, did.0, at_some (start_in t.step) bio (λ n. FoundFull opened q.seen q.number (steps.Start n)) is did.1)
did_down opened p q a b t bio turns.NoMemory is did = (t, did)

-- a worker that made its step can put its tickets
pub can_put_down : (y : YardView _) (lanes : Lanes) (p q : MeshPass) (e : Entry) (j : DownJob)
    → IsPassOf y p → IsGoodPass q → Goes p q (e ∷ []) → IsDownJob lanes p.own j → CanPutDown lanes j
can_put_down y lanes p q e j of good goes job = record {
  down = can_put y p q e lanes.down j.down of good goes job.down;
  up = can_put y p q e lanes.up j.up of good goes job.up;
  disk0 = can_put y p q e lanes.disk0 j.disk0 of good goes job.disk0;
  disk1 = can_put y p q e lanes.disk1 j.disk1 of good goes job.disk1;
}

-- and keeps to its budget when it has put them
pub down_worked : (lanes : Lanes) (p q : MeshPass) (e : Entry) (a b : DownJob) (bio : ℕ) (o : Outcome)
    → Goes p q (e ∷ []) → IsDownJob lanes p.own a → PutsOfStart bio o a b → AreFewOfStart bio o
    → IsDownJob lanes q.own b
down_worked lanes p q e a b bio o goes job puts few = record {
  takes = ap (λ (l : LanePassView). l.sender) (puts_same a.down (split_hints o) b.down puts.down) ∙ job.takes;
  down = pass_worked p q e lanes.down a.down b.down (split_hints o) goes job.down puts.down few.down;
  up = pass_worked p q e lanes.up a.up b.up (bounced_hint bio o) goes job.up puts.up few.up;
  disk0 = pass_worked p q e lanes.disk0 a.disk0 b.disk0 (queued_hint 0 bio o) goes job.disk0 puts.disk0 few.disk0;
  disk1 = pass_worked p q e lanes.disk1 a.disk1 b.disk1 (queued_hint 1 bio o) goes job.disk1 puts.disk1 few.disk1;
}
