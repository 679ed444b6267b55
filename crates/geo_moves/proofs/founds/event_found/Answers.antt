use Rattle.std.proofs.Common.{sym, ap, ◌∙◌}
use Rattle.geo_moves.specs.Steps.{event_against}
use Rattle.geo_moves.proofs.Deciding.{event-found}
use Rattle.geo_moves.proofs.founds.event_found.Goals as goal

-- the model asks the same: whether a taste is under way, and whether an event waits
pub returns : goal.returns
returns c actors log =
    event-found c.args.state.now actors log
    ∙ ap (λ b. event_against b c.args.state.now.queue.events) (sym c.is_some.ensures)
    ∙ sym c.queue_found.ensures
