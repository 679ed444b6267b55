-- The budget of a job over a step, and what a step that isn't made tells of its pass.
use Rattle.std.specs.Prelude.{◌≡◌, List, [], ◌∷◌, length, Err, is_ok}
use Rattle.std.proofs.Common.{ap, arith, ◌∙◌, sym, subst}
use Rattle.std.proofs.lemmas.List.{length-append}
use Rattle.atomic_table.specs.Seated.{TableId}
use Rattle.geo_model.specs.declared.step.Entry.{Entry}
use Rattle.geo_model.specs.declared.step.Found.{Found}
use Rattle.geo_model.specs.declared.step.Step.{Step}
use Rattle.geo_model.specs.World.{World}
use Rattle.geo_model.specs.Step.{Answer, step}
use Rattle.geo_model.specs.Log.{replay}
use Rattle.geo_model.specs.FixedOrder.{FoundFull, WasIdle}
use Rattle.geo_lane.specs.declared.ticket.TicketStep.{TicketStep}
use Rattle.geo_lane.specs.LanePass.{LanePassView}
use Rattle.geo_lock.specs.Yard.{IsPassOf, YardView}
use Rattle.geo_jobs.specs.Passes.{Goes, IsGoodPass, MeshPass}
use Rattle.geo_jobs.specs.Putting.{PutsAll}
use Rattle.geo_jobs.proofs.Budgets.{few_own, within_worked}
use Rattle.geo_jobs.proofs.Joins.{still_of}
use Rattle.geo_jobs.proofs.Tickets.{puts_same}
use Rattle.geo_jobs.specs.LanePasses.{AreFew, CanPut, IsPassTo}

-- once a step is made, each lane pass has room for the tickets of its turn
pub can_put : (y : YardView _) (p q : MeshPass) (e : Entry) (lane : TableId) (l : LanePassView)
    → IsPassOf y p → IsGoodPass q → Goes p q (e ∷ []) → IsPassTo lane p.own l → CanPut lane l
can_put y p q e lane l of good goes to = record {
  lane_is = to.lane_is;
  room =
      omega (
        arith,
        few_own y q (still_of y p q (e ∷ []) of goes) good,
        ap (λ (own : List Entry). length own) goes.own,
        length-append p.own (e ∷ []),
        to.within,
      );
}

-- and keeps to its budget when it has put them
pub pass_worked : (p q : MeshPass) (e : Entry) (lane : TableId) (l m : LanePassView) (ss : List TicketStep)
    → Goes p q (e ∷ []) → IsPassTo lane p.own l → PutsAll l ss m → AreFew ss → IsPassTo lane q.own m
pass_worked p q e lane l m ss goes to puts few = record {
  lane_is = ap (λ (x : LanePassView). x.lane) (puts_same l ss m puts) ∙ to.lane_is;
  within = within_worked p q e [] l m ss goes to.within puts few;
}

-- a step that isn't enabled, or has no place, at what the pass has seen
pub was_idle : (opened : World) (p q : MeshPass) (st : Step) (found : Found) → Goes p q []
    → step (replay opened q.seen) p.number st ≡ Err found → WasIdle opened q.seen q.number st
was_idle opened p q st found goes is =
    subst (λ n. WasIdle opened q.seen n st) (sym goes.same.number) (ap (λ (a : Answer). is_ok a) is)

pub was_full : (opened : World) (p q : MeshPass) (st : Step) → Goes p q []
    → FoundFull opened q.seen p.number st → FoundFull opened q.seen q.number st
was_full opened p q st goes is = subst (λ n. FoundFull opened q.seen n st) (sym goes.same.number) is
