use Rattle.std.proofs.Common.{sym, ◌∙◌}
use Rattle.geo_verify.proofs.NumbersRead.{number_front}
use Rattle.geo_verify.proofs.number.number_in_front.Goals as goal

-- the digits so far are a number, and the rest stands behind them
pub returns-then-is_number : goal.returns-then-is_number
returns-then-is_number c =
    let so_far = c.loop-at.invariant in
    number_front c.args.text.now c.loop-at.at c.loop-at.value so_far.inside so_far.digits so_far.value so_far.small
    (sym c.is_number.ensures ∙ c.if-is_number.true)
