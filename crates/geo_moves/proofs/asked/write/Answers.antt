use Rattle.std.specs.Prelude.{IfOk, length}
use Rattle.std.proofs.Common.{sym, ap, ◌∙◌, subst}
use Rattle.geo_base.specs.declared.request.BioCmd.TheVariants as cmds
use Rattle.geo_model.specs.Commands.{asking, request}
use Rattle.geo_state.specs.Steps.{Does}
use Rattle.geo_moves.proofs.asked.write.Goals as goal

pub request-requires-clause-bytes_fit : goal.request-requires-clause-bytes_fit
request-requires-clause-bytes_fit c = λ is_write. ap length c.in_ok-copied.ensures ∙ sym c.len.ensures

-- the copy holds the same bytes, and the length of the request is their number
pub returns-clause-does : goal.returns-clause-does
returns-clause-does c log =
    subst
    (λ bs. IfOk c.request.result (λ o. Does
    (λ w. request w c.args.line c.args.actor c.args.name.now
    (asking cmds.Write c.args.offset (length c.args.bytes.now) bs)) log
    c.args.state.now c.request.new.state o))
    c.in_ok-copied.ensures
    (subst
    (λ n. IfOk c.request.result (λ o. Does
    (λ w. request w c.args.line c.args.actor c.args.name.now (asking cmds.Write c.args.offset n c.in_ok-copied.copied))
    log c.args.state.now c.request.new.state o))
    c.len.ensures (c.request.ensures.does log))
