use Rattle.std.specs.Prelude.{true, false}
use Rattle.std.specs.Option.{option_map_or}
use Rattle.std.proofs.Common.{refl, sym, ◌∙◌}
use Rattle.geo_moves.specs.Above.{has_number}
use Rattle.geo_moves.proofs.Reaching.{busy-is}
use Rattle.geo_moves.proofs.above.is_busy.Goals as goal

-- Either way: a bio that goes to one of them is enough, and where none does the taste decides
pub returns-then-is_asked : goal.returns-then-is_asked
returns-then-is_asked c = λ p reached actors log.
    busy-is c.args.state.now p c.args.above.now reached true
    (option_map_or (λ x. has_number c.args.above.now x.provider) c.args.state.now.taste false)
    (sym c.if-is_asked.true ∙ c.is_asked.ensures) refl actors log

pub returns : goal.returns
returns c = λ p reached actors log.
    busy-is c.args.state.now p c.args.above.now reached false c.is_tasted.result
    (sym c.if-is_asked.false ∙ c.is_asked.ensures) c.is_tasted.ensures actors log
