use Rattle.std.proofs.Common.{◌∙◌, ◌+◌, Some, sym, ap, arith}
use Rattle.geo_state.specs.Cursors.{is_due, first_from}
use Rattle.geo_state.proofs.OrderLemmas.{table_rises}
use Rattle.geo_state.proofs.Walks.{walk_ends, walk_hits, walk_goes_on}
use Rattle.geo_state.proofs.TrafficLemmas.{next_reached}
use Rattle.geo_state.proofs.cursor.next_due.Goals as goal

-- the bios stand in order, so the first that is met and waits is the least that does
pub returns-then-waits : goal.returns-then-waits
returns-then-waits c =
    ap Some c.number.ensures
    ∙ sym (walk_hits (λ x. is_due c.args.due x.phase) c.loop-bio.from c.in-Some.bio c.args.bios.now.bios
    (table_rises c.args.bios.now c.next_from.ensures.in_order) (sym c.next_from.ensures.first ∙ c.in-Some.is)
    (sym c.waits.ensures.waits ∙ c.if-waits.true))
    ∙ c.loop-bio.invariant

-- the bio is one of the table, so its number is below the next one, which is in range
pub overflow_add-from : goal.overflow_add-from
overflow_add-from c =
    let reached = next_reached c.args.bios.now c.loop-bio.from c.in-Some.bio c.next_from.ensures.in_order
    c.next_from.ensures.first c.in-Some.is in
    omega (arith, reached.1, c.waits.ensures.bound, c.number-from.ensures)

pub loop-bio-smaller : goal.loop-bio-smaller
loop-bio-smaller c =
    let reached = next_reached c.args.bios.now c.loop-bio.from c.in-Some.bio c.next_from.ensures.in_order
    c.next_from.ensures.first c.in-Some.is in
    omega (arith, reached.0, reached.1, c.number-from.ensures)

-- the bio that was met doesn't wait, so the search goes on behind it
pub loop-bio-preserved : goal.loop-bio-preserved
loop-bio-preserved c =
    ap (λ n. first_from (is_due c.args.due) c.args.bios.now.bios (n + 1)) c.number-from.ensures
    ∙ walk_goes_on (λ x. is_due c.args.due x.phase) c.loop-bio.from c.in-Some.bio c.args.bios.now.bios
    (table_rises c.args.bios.now c.next_from.ensures.in_order) (sym c.next_from.ensures.first ∙ c.in-Some.is)
    (sym c.waits.ensures.waits ∙ c.if-waits.false)
    ∙ c.loop-bio.invariant

pub returns : goal.returns
returns c =
    sym (walk_ends (λ x. is_due c.args.due x.phase) c.loop-bio.from c.args.bios.now.bios
    (sym c.next_from.ensures.first ∙ c.in_default.is))
    ∙ c.loop-bio.invariant
