use Rattle.geo_moves.proofs.Holding.{dev_stands}
use Rattle.geo_moves.proofs.Admitting.{next-unknown, refuse-kept}
use Rattle.geo_moves.proofs.opens.refuse.Goals as goal

pub use_number-requires-clause-unknown : goal.use_number-requires-clause-unknown
use_number-requires-clause-unknown c = next-unknown c.args.state.now c.requires.kept
    c.find.ensures.sound.orderly.order

pub use_number-requires-clause-dev : goal.use_number-requires-clause-dev
use_number-requires-clause-dev c = dev_stands c.args.state.now.topo.topology c.find.ensures.sound

-- a number that is used up is no part of what is kept
pub returns-clause-kept : goal.returns-clause-kept
returns-clause-kept c =
    refuse-kept c.args.state.now c.requires.kept c.use_number.new.topo c.use_number.result
    c.use_number.ensures.used c.use_number.ensures.same
