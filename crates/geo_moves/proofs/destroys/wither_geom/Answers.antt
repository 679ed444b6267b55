use Rattle.geo_moves.proofs.Finding.{orphan-room, withered-kept, withered-world}
use Rattle.geo_moves.proofs.destroys.wither_geom.Goals as goal

-- the queue keeps a place free for the Orphan of each provider without an error
pub wither-requires-clause-room : goal.wither-requires-clause-room
wither-requires-clause-room c = orphan-room c.args.state.now c.requires.kept

pub returns-clause-withered : goal.returns-clause-withered
returns-clause-withered c =
    withered-world c.args.state.now c.requires.kept c.args.geom c.wither.new.topo c.wither.new.queue
    c.wither.ensures.withered

-- each Orphan took the place that its provider was owed, and counts stayed
pub returns-clause-kept : goal.returns-clause-kept
returns-clause-kept c =
    withered-kept c.args.state.now c.requires.kept c.args.geom c.wither.new.topo c.wither.new.queue
    c.wither.ensures.withered c.wither.ensures.rest c.wither.ensures.kept c.wither.ensures.owed
