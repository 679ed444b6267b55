use Rattle.std.proofs.Common.{◌∙◌, sym, arith}
use Rattle.geo_state.proofs.Walks.{walk_ends}
use Rattle.geo_moves.specs.Above.{has_number}
use Rattle.geo_moves.proofs.Reaching.{none-passes, walk-between, walk-fails, walk-passes}
use Rattle.geo_moves.proofs.above.is_asked.Goals as goal

-- the bio that was met goes to one of them, so one does
pub returns-then-is_to : goal.returns-then-is_to
returns-then-is_to c =
    walk-passes c.next_from.ensures.in_order c.loop-bio.from (sym c.next_from.ensures.first ∙ c.in-Some.is)
    (λ x. has_number c.args.above.now x.target) c.loop-bio.invariant (sym c.is_to.ensures.goes ∙ c.if-is_to.true)

-- a bio's number is below the next new one, which 64 bits hold
pub overflow_add-from : goal.overflow_add-from
overflow_add-from c =
    let between = walk-between c.next_from.ensures.in_order c.loop-bio.from
    (sym c.next_from.ensures.first ∙ c.in-Some.is) in
    omega (arith, between.1, c.is_to.ensures.bound, c.number-from.ensures)

pub loop-bio-smaller : goal.loop-bio-smaller
loop-bio-smaller c =
    let between = walk-between c.next_from.ensures.in_order c.loop-bio.from
    (sym c.next_from.ensures.first ∙ c.in-Some.is) in
    omega (arith, between.0, between.1, c.number-from.ensures)

-- this bio goes to none of them, so the first that does is behind it
pub loop-bio-preserved : goal.loop-bio-preserved
loop-bio-preserved c =
    walk-fails c.next_from.ensures.in_order c.loop-bio.from (sym c.next_from.ensures.first ∙ c.in-Some.is)
    (λ x. has_number c.args.above.now x.target) c.loop-bio.invariant (sym c.is_to.ensures.goes ∙ c.if-is_to.false)
    c.number-from.result c.number-from.ensures

-- no bio is left, so none goes to one of them
pub returns : goal.returns
returns c =
    none-passes (λ x. has_number c.args.above.now x.target) c.args.traffic.now.bios
    (sym c.loop-bio.invariant
    ∙ walk_ends (λ x. has_number c.args.above.now x.target) c.loop-bio.from c.args.traffic.now.bios
    (sym c.next_from.ensures.first ∙ c.in_default.is))
