use Rattle.std.proofs.Common.{sym, ◌∙◌, Some, None}
use Rattle.geo_moves.proofs.Doing.{sync_waits}
use Rattle.geo_moves.proofs.waits.sync_found.Goals as goal

-- the first bio of the actor's lines by the table is the first of the world
pub returns-in-Some : goal.returns-in-Some
returns-in-Some c =
    sync_waits c.args.state.now c.requires.stands (Some c.in-Some.bio) c.args.actor
    (sym c.in-Some.is ∙ c.own_bio.ensures)

pub returns-in-None : goal.returns-in-None
returns-in-None c =
    sync_waits c.args.state.now c.requires.stands None c.args.actor
    (sym c.in-None.is ∙ c.own_bio.ensures)
