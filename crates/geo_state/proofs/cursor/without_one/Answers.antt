use Rattle.std.proofs.Common.{◌∙◌, ◌+◌, ◌-◌, sym, ap, subst, arith}
use Rattle.geo_state.specs.Cursors.{is_due, others, first_from, IsCursor}
use Rattle.geo_state.proofs.OrderLemmas.{table_rises, number_below, bio_in}
use Rattle.geo_state.proofs.CursorLemmas.{count_left, left_other, left_none, left_first, is_other, is_same}
use Rattle.geo_state.proofs.cursor.without_one.Goals as goal

-- the bio waits, so it was counted
pub overflow_sub-count : goal.overflow_sub-count
overflow_sub-count c =
    let t = c.args.bios.now in
    let x = bio_in (is_due c.args.due) t.bios c.args.bio c.requires.waits in
    let less = count_left (is_due c.args.due) t.bios c.args.bio x.0 (table_rises t c.requires.in_order)
    x.1 x.2 c.args.cursor c.requires.cursor in
    omega (arith, less)

-- another bio was the first, so it is still
pub returns-then-ne : goal.returns-then-ne
returns-then-ne c =
    let t = c.args.bios.now in
    let x = bio_in (is_due c.args.due) t.bios c.args.bio c.requires.waits in
    left_other (is_due c.args.due) t.bios c.args.bio x.0 (table_rises t c.requires.in_order) x.1 x.2
    c.args.cursor c.requires.cursor
    (is_other c.args.cursor.first c.number-number.result c.args.bio c.number-number.ensures
    (sym c.ne.ensures ∙ c.if-ne.true))

-- none is left, so there is no first one
pub returns-then-count-eq0 : goal.returns-then-count-eq0
returns-then-count-eq0 c =
    let t = c.args.bios.now in
    let x = bio_in (is_due c.args.due) t.bios c.args.bio c.requires.waits in
    left_none (is_due c.args.due) t.bios c.args.bio x.0 (table_rises t c.requires.in_order) x.1 x.2
    c.args.cursor c.requires.cursor
    c.if-count-eq0.true

pub overflow_add-number : goal.overflow_add-number
overflow_add-number c =
    let t = c.args.bios.now in
    let x = bio_in (is_due c.args.due) t.bios c.args.bio c.requires.waits in
    let below = number_below t c.requires.in_order c.args.bio x.0 x.1 in
    omega (arith, below, c.requires.bound, c.number-number.ensures)

-- it was the first, so the next that waits is the least behind it
pub returns : goal.returns
returns c =
    let t = c.args.bios.now in
    let x = bio_in (is_due c.args.due) t.bios c.args.bio c.requires.waits in
    let left = left_first (is_due c.args.due) t.bios c.args.bio x.0 (table_rises t c.requires.in_order)
    x.1 x.2 c.args.cursor c.requires.cursor
    (is_same c.args.cursor.first c.number-number.result c.args.bio c.number-number.ensures
    (sym c.ne.ensures ∙ c.if-ne.false)) in
    let first = c.next_due.ensures ∙ ap (λ n. first_from (is_due c.args.due) t.bios (n + 1)) c.number-number.ensures in
    subst (λ o. IsCursor (is_due c.args.due) (others c.args.bio t.bios)
    (record { count = c.args.cursor.count - 1; first = o })) (sym first) left
