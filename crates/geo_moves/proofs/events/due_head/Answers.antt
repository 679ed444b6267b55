use Rattle.std.proofs.Common.{sym, ◌∙◌}
use Rattle.geo_moves.proofs.Deciding.{some-waits, none-tasted}
use Rattle.geo_moves.proofs.events.due_head.Goals as goal

-- an Event is due, so an event waits
pub unreachable-requires : goal.unreachable-requires
unreachable-requires c =
    absurd (some-waits c.args.state.now c.requires.due (sym c.head.ensures ∙ c.in_default.is))

pub returns-clause-none : goal.returns-clause-none
returns-clause-none c = none-tasted c.args.state.now c.requires.due
