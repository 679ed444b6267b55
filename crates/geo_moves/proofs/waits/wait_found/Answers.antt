use Rattle.std.proofs.Common.{sym, ◌∙◌, ap}
use Rattle.geo_model.specs.Step.{waits_for}
use Rattle.geo_state.specs.World.{world}
use Rattle.geo_moves.proofs.Doing.{no_wait}
use Rattle.geo_moves.proofs.waits.wait_found.Goals as goal

pub returns-in-Sync : goal.returns-in-Sync
returns-in-Sync c actors log =
    c.sync_found.ensures actors log
    ∙ ap (waits_for (world actors log c.args.state.now) c.args.actor) (sym c.in-Sync.is)

pub returns-in-Settle : goal.returns-in-Settle
returns-in-Settle c actors log =
    c.settle_found.ensures actors log c.args.actor
    ∙ ap (waits_for (world actors log c.args.state.now) c.args.actor) (sym c.in-Settle.is)

pub returns-in_default : goal.returns-in_default
returns-in_default c actors log =
    no_wait (world actors log c.args.state.now) c.args.actor c.args.command.now c.in_default.not-Sync
    c.in_default.not-Settle
