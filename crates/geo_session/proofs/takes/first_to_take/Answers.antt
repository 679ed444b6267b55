use Rattle.std.proofs.Common.{ℕ, ◌+◌, ◌∙◌, sym, subst, arith}
use Rattle.geo_session.proofs.FirstTaken.{NoneBefore, ends, goes_on, not_before, taken, was_given}
use Rattle.geo_session.proofs.takes.first_to_take.Goals as goal

-- the first that can be taken
pub returns-in-Some-free_disk : goal.returns-in-Some-free_disk
returns-in-Some-free_disk c =
    taken c.args.state.now c.free_disk.ensures.in_order c.loop-bio.from c.in-Some.bio c.in-Some.ensures.first
    c.in-Some-free_disk.disk c.loop-bio.invariant c.in-Some-free_disk.ensures.disk

-- the number of the bio was given out, so it is below the next one, which 64 bits hold
pub overflow_add-from : goal.overflow_add-from
overflow_add-from c =
    let given =
    was_given c.args.state.now c.free_disk.ensures.in_order c.loop-bio.from c.in-Some.bio c.in-Some.ensures.first in
    let bound = c.free_disk.ensures.bound in
    let number = c.number-from.ensures in
    omega (arith, given, bound, number)

pub loop-bio-smaller : goal.loop-bio-smaller
loop-bio-smaller c =
    let given =
    was_given c.args.state.now c.free_disk.ensures.in_order c.loop-bio.from c.in-Some.bio c.in-Some.ensures.first in
    let least =
    not_before c.args.state.now c.free_disk.ensures.in_order c.loop-bio.from c.in-Some.bio c.in-Some.ensures.first in
    let number = c.number-from.ensures in
    omega (arith, given, least, number)

-- it can't be taken, so none before the next number can
pub loop-bio-preserved : goal.loop-bio-preserved
loop-bio-preserved c =
    subst (λ (k : ℕ). NoneBefore c.args.state.now (k + 1)) (sym c.number-from.ensures)
    (goes_on c.args.state.now c.free_disk.ensures.in_order c.loop-bio.from c.in-Some.bio c.in-Some.ensures.first
    c.loop-bio.invariant c.in_default-free_disk.ensures.disk)

-- no bio is left
pub returns : goal.returns
returns c =
    ends c.args.state.now c.loop-bio.from c.loop-bio.invariant (sym c.in_default.is ∙ c.next_from.ensures.first)
