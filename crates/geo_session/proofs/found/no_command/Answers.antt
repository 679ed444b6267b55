use Rattle.geo_session.proofs.Answered.{no_actor, no_command}
use Rattle.geo_session.proofs.found.no_command.Goals as goal

pub returns-then-actor-actors : goal.returns-then-actor-actors
returns-then-actor-actors c = λ state. no_command c.args.actors c.args.actor state c.if-actor-actors.true

pub returns-else-actor-actors : goal.returns-else-actor-actors
returns-else-actor-actors c = λ state. no_actor c.args.actors c.args.actor state c.if-actor-actors.false
