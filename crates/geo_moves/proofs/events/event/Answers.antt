use Rattle.geo_moves.proofs.Deciding.{event-made}
use Rattle.geo_moves.proofs.events.event.Goals as goal

-- an Event is due, so no taste is under way, and the model does the same head
pub returns-clause-made : goal.returns-clause-made
returns-clause-made c =
    event-made c.args.state.now c.do_head.new.state c.due_head-head.result c.do_head.result c.requires.due
    c.due_head-head.ensures.head c.do_head.ensures.made
