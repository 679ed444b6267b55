use Rattle.std.proofs.Common.{sym, None}
use Rattle.geo_base.specs.declared.request.BioCmd.TheVariants as cmds
use Rattle.geo_model.specs.Commands.{asking}
use Rattle.geo_moves.proofs.Asking.{record_does}
use Rattle.geo_moves.proofs.requests.write_nowhere.Goals as goal

-- without a provider the model asks for a WRITE of no bytes at offset 0 too
pub returns-clause-does : goal.returns-clause-does
returns-clause-does c log =
    let nothing = sym c.none-nothing.ensures in
    record_does c.args.state.now c.request.new.state c.args.line c.args.actor c.args.name.now c.args.mark.now
    None c.requires.media _ (λ i. asking cmds.Write 0 0 (nothing i)) c.request.result log
    (c.request.ensures.does log)
