-- The lane passes of a job, and a job that only took a ticket or did nothing.
use Rattle.std.specs.Prelude.{◌≡◌, ◌+◌, ◌<◌, ◌≤◌, ◌^◌, List, [], ◌∷◌, ◌++◌, length}
use Rattle.atomic_table.specs.Seated.{TableId}
use Rattle.crossbeam_queue.specs.Fifo.{Held}
use Rattle.geo_model.specs.declared.step.Entry.{Entry}
use Rattle.geo_model.specs.declared.step.Outcome.{Outcome}
use Rattle.geo_model.specs.declared.step.Step.{Step}
use Rattle.geo_lane.specs.declared.ticket.Ticket.{Ticket}
use Rattle.geo_lane.specs.declared.ticket.TicketStep.{TicketStep}
use Rattle.geo_lane.specs.Delivery.{Tells}
use Rattle.geo_lane.specs.LanePass.{LanePassView, view_of}
use Rattle.geo_jobs.specs.Passes.{Goes, MeshPass}
use Rattle.geo_jobs.specs.Putting.{IsWithin}

-- a pass of the lane, which put few tickets for each own entry of its job
pub record IsPassTo (lane : TableId) (entries : List Entry) (p : LanePassView) : Type 0 where
  pub lane_is : p.lane ≡ lane
  pub within : IsWithin p entries

-- no more tickets than a turn puts into a lane
abbrev pub AreFew : List TicketStep → Type 0
AreFew ss = length ss ≤ 4294967295

-- a pass of the lane, with room for those
pub record CanPut (lane : TableId) (p : LanePassView) : Type 0 where
  pub lane_is : p.lane ≡ lane
  pub room : length p.put + 4294967295 < 2 ^ 64

-- the pass with one ticket more taken from its lane
abbrev pub with_taken : LanePassView → Ticket → LanePassView
with_taken p t = record p { taken = p.taken ++ t ∷ [] }

-- the lane of the pass was empty at one moment of the call
abbrev pub WasEmpty : LanePassView → Type 0
WasEmpty p = Held 0 (Tells (view_of p))

-- the pass made one step, with this outcome
abbrev pub MadeOneStep : MeshPass → MeshPass → Step → Outcome → Type 0
MadeOneStep p q step outcome = Goes p q (record { seat = p.number; step = step; outcome = outcome } ∷ [])

-- nothing was added to the log, and the job is as it was
pub record Rests {J : Type 0} (p q : MeshPass) (a b : J) : Type 0 where
  pub goes : Goes p q []
  pub same : b ≡ a
