-- What contracts see of a pass of a lane.
use Rattle.std.specs.Prelude.{◌≡◌, ℕ, ◌+◌, List, [], length, true}
use Rattle.atomic_table.specs.Seated.{TableId}
use Rattle.crossbeam_queue.specs.Passes.{Pass}
use Rattle.geo_lane.specs.declared.ticket.Ticket.{Ticket}
use Rattle.geo_lane.specs.declared.sent.Sent.{Sent}
use Rattle.geo_lane.specs.declared.view.View.{View}
use Rattle.geo_lane.specs.View.{a_view}
use Rattle.geo_lane.specs.Delivery.{IsInOrder}

-- the lane, the pass's number, how many passes were made of it, what it has put, what it has taken, and what the
-- passes that it took in had put
pub record LanePassView : Type 0 where
  pub lane : TableId
  pub sender : ℕ
  pub split : ℕ
  pub put : List Ticket
  pub taken : List Ticket
  pub ended : List Sent

-- the pass 0 of an empty lane
abbrev pub first_pass : TableId → LanePassView
first_pass lane = record { lane = lane; sender = 0; split = 0; put = []; taken = []; ended = [] }

-- the pass that is made of this one: it has the next number, and has put nothing
abbrev pub next_pass : LanePassView → LanePassView
next_pass p = record { lane = p.lane; sender = p.split + 1; split = 0; put = []; taken = []; ended = [] }

-- the view of a queue's pass
abbrev pub queue_view : Pass Ticket View → View
queue_view p = p.me.0.client

-- what the pass knows
abbrev pub view_of : LanePassView → View
view_of p = a_view true p.sender p.split p.put p.taken p.ended

-- all that the pass has put
abbrev pub sent_of : LanePassView → Sent
sent_of p = record { sender = p.sender; put = p.put }

-- the same pass of the same lane, before and after a call
pub record IsSamePass (p q : LanePassView) : Type 0 where
  pub lane : q.lane ≡ p.lane
  pub sender : q.sender ≡ p.sender

-- what a pass keeps of its view
pub record IsSound (sender split put_so_far : ℕ) (v : View) : Type 0 where
  pub live : v.live ≡ true
  pub number : v.number ≡ sender
  pub split_is : v.split ≡ split
  pub count : put_so_far ≡ length v.put
  pub order : IsInOrder v
