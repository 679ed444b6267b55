use Rattle.std.specs.Prelude.{IfOk}
use Rattle.std.proofs.Common.{subst}
use Rattle.geo_model.specs.Commands.{asking, request}
use Rattle.geo_state.specs.Steps.{Does}
use Rattle.geo_moves.proofs.asked.ask.Goals as goal

pub returns-clause-does : goal.returns-clause-does
returns-clause-does c log =
    subst
    (λ bs. IfOk c.request.result (λ o. Does
    (λ w. request w c.args.line c.args.actor c.args.name.now (asking c.args.cmd c.args.offset c.args.len bs)) log
    c.args.state.now c.request.new.state o))
    c.none-nothing.ensures (c.request.ensures.does log)
