use Rattle.std.proofs.Common.{◌∙◌, ◌+◌, Bool, sym, ap, arith}
use Rattle.geo_model.specs.World.{BioOf}
use Rattle.geo_bio.specs.declared.bio.Held.{Held}
use Rattle.geo_state.proofs.OrderLemmas.{table_rises}
use Rattle.geo_state.specs.Trips.{trip_of, is_own}
use Rattle.geo_state.specs.Oldest.{first_passing}
use Rattle.geo_state.proofs.Walks.{walk_ends, walk_hits, walk_goes_on}
use Rattle.geo_state.proofs.TrafficLemmas.{next_reached}
use Rattle.geo_state.proofs.oldest.first_own.Goals as goal

-- the bios stand in order, so the first that is met of the actor's is the least
pub returns-then-is_own : goal.returns-then-is_own
returns-then-is_own c =
    let t = c.args.traffic.now in
    let test : BioOf Held → Bool = λ x. is_own c.args.handles.now.handles c.args.actor (trip_of x) in
    sym (walk_hits test c.loop-bio.from c.in-Some.bio t.bios (table_rises t c.next_from.ensures.in_order)
    (sym c.next_from.ensures.first ∙ c.in-Some.is)
    (sym c.is_own.ensures.own ∙ c.if-is_own.true))
    ∙ c.loop-bio.invariant

pub overflow_add-from : goal.overflow_add-from
overflow_add-from c =
    let reached = next_reached c.args.traffic.now c.loop-bio.from c.in-Some.bio c.next_from.ensures.in_order
    c.next_from.ensures.first c.in-Some.is in
    omega (arith, reached.1, c.is_own.ensures.bound, c.number-from.ensures)

pub loop-bio-smaller : goal.loop-bio-smaller
loop-bio-smaller c =
    let reached = next_reached c.args.traffic.now c.loop-bio.from c.in-Some.bio c.next_from.ensures.in_order
    c.next_from.ensures.first c.in-Some.is in
    omega (arith, reached.0, reached.1, c.number-from.ensures)

-- the bio that was met isn't the actor's, so the search goes on behind it
pub loop-bio-preserved : goal.loop-bio-preserved
loop-bio-preserved c =
    let t = c.args.traffic.now in
    let test : BioOf Held → Bool = λ x. is_own c.args.handles.now.handles c.args.actor (trip_of x) in
    ap (λ n. first_passing test t.bios (n + 1)) c.number-from.ensures
    ∙ walk_goes_on test c.loop-bio.from c.in-Some.bio t.bios (table_rises t c.next_from.ensures.in_order)
    (sym c.next_from.ensures.first ∙ c.in-Some.is)
    (sym c.is_own.ensures.own ∙ c.if-is_own.false)
    ∙ c.loop-bio.invariant

pub returns : goal.returns
returns c =
    let test : BioOf Held → Bool = λ x. is_own c.args.handles.now.handles c.args.actor (trip_of x) in
    sym (walk_ends test c.loop-bio.from c.args.traffic.now.bios (sym c.next_from.ensures.first ∙ c.in_default.is))
    ∙ c.loop-bio.invariant
