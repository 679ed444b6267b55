-- Roles of jobs that made no step yet.
use Rattle.std.specs.Prelude.{◌≡◌, ℕ, ◌*◌, ◌≤◌, List, [], length}
use Rattle.std.proofs.Common.{arith, subst, sym}
use Rattle.atomic_table.specs.Seated.{TableId}
use Rattle.geo_model.specs.declared.step.Entry.{Entry}
use Rattle.geo_lane.specs.declared.ticket.Ticket.{Ticket}
use Rattle.geo_lane.specs.LanePass.{LanePassView}
use Rattle.geo_jobs.specs.LanePasses.{IsPassTo}
use Rattle.geo_jobs.specs.Putting.{IsWithin}
use Rattle.geo_tests_jobs.specs.Benches.{IsTaker}

-- a pass that put nothing has put few tickets
pub within_none : (p : LanePassView) (own : List Entry) → p.put ≡ [] → IsWithin p own
within_none p own none =
    subst (λ (l : List Ticket). length l ≤ 4294967295 * length own) (sym none) (omega arith)

pub puts_none : (lane : TableId) (p : LanePassView) (own : List Entry) → p.lane ≡ lane → p.put ≡ []
    → IsPassTo lane own p
puts_none lane p own is none = record { lane_is = is; within = within_none p own none }

-- the pass 0 of a lane, with as many passes made as were made
pub taker_own : (lane : TableId) (most : ℕ) (p : LanePassView) → IsTaker lane most p → IsTaker lane p.split p
taker_own lane most p is =
    record { lane_is = is.lane_is; first = is.first; put = is.put; few = omega arith }
