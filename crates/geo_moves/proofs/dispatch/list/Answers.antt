use Rattle.geo_moves.proofs.Doing.{lists}
use Rattle.geo_moves.proofs.dispatch.list.Goals as goal

pub returns : goal.returns
returns c log = lists c.args.state.now c.args.line log c.in_ok-lines.lines c.in_ok-lines.ensures
