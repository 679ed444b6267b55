-- Tickets that a pass puts into its lane.
use Rattle.std.specs.Prelude.{◌≡◌, ◌⊎◌, ◌*◌, ◌≤◌, List, [], ◌∷◌, ◌++◌, length}
use Rattle.geo_base.specs.declared.limits.TheConstants.{LANE_TICKETS}
use Rattle.crossbeam_queue.specs.Fifo.{Held}
use Rattle.geo_lane.specs.declared.ticket.Ticket.{Ticket}
use Rattle.geo_lane.specs.declared.ticket.TicketStep.{TicketStep}
use Rattle.geo_lane.specs.Delivery.{Tells}
use Rattle.geo_lane.specs.LanePass.{LanePassView, view_of}
use Rattle.geo_model.specs.declared.step.Entry.{Entry}

-- the next ticket of a pass
abbrev pub ticket_of : LanePassView → TicketStep → Ticket
ticket_of p s = record { sender = p.sender; number = length p.put; step = s }

-- the pass put the ticket
abbrev pub PutIt : LanePassView → TicketStep → LanePassView → Type 0
PutIt p s q = q ≡ record p { put = p.put ++ ticket_of p s ∷ [] }

-- the pass put nothing, for its lane held 1,024 at one moment of the call
abbrev pub WasFull : LanePassView → LanePassView → Type 0
WasFull p q = (q ≡ p) × Held LANE_TICKETS (Tells (view_of p))

-- the pass put the ticket, or its lane held 1,024 at one moment of the call
abbrev pub PutsOne : LanePassView → TicketStep → LanePassView → Type 0
PutsOne p s q = PutIt p s q ⊎ WasFull p q

-- so with each of these, in order
abbrev pub PutsAll : LanePassView → List TicketStep → LanePassView → Type 0
PutsAll p [] q = q ≡ p
PutsAll p (s ∷ ss) q = (m : LanePassView) × PutsOne p s m × PutsAll m ss q

-- a pass of a lane has put at most 4,294,967,295 tickets for each own entry of its job
abbrev pub IsWithin : LanePassView → List Entry → Type 0
IsWithin p own = length p.put ≤ 4294967295 * length own
