use Rattle.geo_moves.proofs.Doing.{freed_reaped, freed_washed}
use Rattle.geo_moves.proofs.waits.can_be_freed.Goals as goal

-- Either way: a handle that is ready is one that the world reaps, and where none is the wash decides
pub returns-then-is_some : goal.returns-then-is_some
returns-then-is_some c =
    freed_reaped c.args.state.now c.requires.stands c.is_some.result c.first_ready.result
    c.is_some.ensures c.first_ready.ensures c.if-is_some.true

pub returns-else-is_some : goal.returns-else-is_some
returns-else-is_some c =
    freed_washed c.args.state.now c.requires.stands c.is_some.result c.first_ready.result
    c.is_some.ensures c.first_ready.ensures c.if-is_some.false c.is_some-else-is_some.result c.wash_where.result
    c.is_some-else-is_some.ensures c.wash_where.ensures.found
