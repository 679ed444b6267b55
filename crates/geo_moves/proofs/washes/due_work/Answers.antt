use Rattle.geo_moves.proofs.Deciding.{some-work}
use Rattle.geo_moves.proofs.washes.due_work.Goals as goal

-- a Wash is due, so something can go
pub unreachable-requires : goal.unreachable-requires
unreachable-requires c =
    absurd (some-work c.args.state.now c.requires.stands c.wash_where.result
    c.wash_where.ensures.found c.requires.due c.in_default.is)
