use Rattle.geo_moves.proofs.Stepping.{forget-made, forget-kept}
use Rattle.geo_moves.proofs.closes.forget_reaped.Goals as goal

-- a handle without a consumer holds nothing, so nothing falls and the handle alone goes
pub returns-clause-made : goal.returns-clause-made
returns-clause-made c =
    forget-made c.args.state.now c.requires.stands c.args.id c.requires.reaped c.remove.new.self
    c.remove.ensures.removed

pub returns-clause-kept : goal.returns-clause-kept
returns-clause-kept c =
    forget-kept c.args.state.now c.requires.stands c.args.id c.requires.reaped c.remove.new.self
    c.remove.ensures.removed
