-- A pass that put few enough tickets has room for the next one.
use Rattle.std.specs.Prelude.{◌+◌, ◌-◌, ◌^◌, ◌<◌, ◌≤◌, List, ◌∷◌, length, eqb}
use Rattle.std.proofs.Common.{ap, arith}
use Rattle.std.proofs.lemmas.List.{length-append}
use Rattle.geo_base.proofs.FilterLists.{length-kept}
use Rattle.geo_base.specs.declared.limits.TheConstants.{MAX_LOG_ENTRIES}
use Rattle.geo_model.specs.declared.step.Entry.{Entry}
use Rattle.geo_lane.specs.declared.ticket.TicketStep.{TicketStep}
use Rattle.geo_lane.specs.LanePass.{LanePassView}
use Rattle.geo_lock.specs.Yard.{IsPassOf, YardView}
use Rattle.geo_core.specs.declared.logged.MeshStart.{MeshStart}
use Rattle.geo_core.specs.Mesh.{IsHistory}
use Rattle.geo_core.specs.Logged.{mesh_of}
use Rattle.geo_jobs.specs.Passes.{Goes, IsGoodPass, MeshPass}
use Rattle.geo_jobs.specs.Putting.{IsWithin, PutsAll}
use Rattle.geo_jobs.proofs.Joins.{history_of}
use Rattle.geo_jobs.proofs.Tickets.{puts_length}

-- a pass has at most as many own entries as a log has entries
pub few_own : (y : YardView MeshStart) (p : MeshPass) → IsPassOf y p → IsGoodPass p → length p.own ≤ MAX_LOG_ENTRIES
few_own y p of good =
    let history : IsHistory (mesh_of y.start p.seen) = history_of y p of good in
    omega (
      arith,
      history.lawful.1,
      length-kept (λ (e : Entry). eqb e.seat p.number) p.seen,
      ap (λ (own : List Entry). length own) good.good.own_seen,
    )

-- a job whose turn made one step at least
added_some : (p q : MeshPass) (e : Entry) (added : List Entry) → Goes p q (e ∷ added)
    → length p.own + 1 ≤ length q.own
added_some p q e added goes =
    omega (arith, ap (λ (own : List Entry). length own) goes.own, length-append p.own (e ∷ added))

-- where a job's turn made a step, after fewer than 4,294,967,295 tickets there is room for one more
pub has_room : (y : YardView MeshStart) (p q : MeshPass) (e : Entry) (added : List Entry) (l m : LanePassView)
    (ss : List TicketStep) → IsPassOf y q → IsGoodPass q → Goes p q (e ∷ added) → IsWithin l p.own → PutsAll l ss m
    → length ss < 4294967295 → length m.put < 2 ^ 64 - 1
has_room y p q e added l m ss of good goes within puts few =
    omega (arith, few_own y q of good, added_some p q e added goes, within, puts_length l ss m puts, few)

-- and after as many it has put few enough for what it has made
pub within_worked : (p q : MeshPass) (e : Entry) (added : List Entry) (l m : LanePassView) (ss : List TicketStep)
    → Goes p q (e ∷ added) → IsWithin l p.own → PutsAll l ss m → length ss ≤ 4294967295 → IsWithin m q.own
within_worked p q e added l m ss goes within puts few =
    omega (arith, added_some p q e added goes, within, puts_length l ss m puts, few)
