use Rattle.std.proofs.Common.{◌∙◌, None}
use Rattle.geo_moves.proofs.Doing.{closed_at}
use Rattle.geo_moves.proofs.decisions.is_closed.Goals as goal

-- requests out through a consumer are counted where it is kept, and the model counts as many
pub returns-in-Some : goal.returns-in-Some
returns-in-Some c actors log =
    c.is_idle.ensures
    ∙ closed_at c.args.state.now c.requires.stands c.args.actor c.args.name.now _
    c.in-Some.ensures.handle actors log

pub returns-in-None : goal.returns-in-None
returns-in-None c actors log =
    closed_at c.args.state.now c.requires.stands c.args.actor c.args.name.now None
    c.in-None.ensures.handle actors log
