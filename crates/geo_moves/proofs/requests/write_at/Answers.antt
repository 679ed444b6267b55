use Rattle.std.proofs.Common.{◌∙◌, length, sym, ap, Some}
use Rattle.geo_base.specs.declared.request.BioCmd.TheVariants as cmds
use Rattle.geo_model.specs.declared.span.Span.{Span}
use Rattle.geo_model.specs.Commands.{asking}
use Rattle.geo_moves.proofs.Asking.{record_does}
use Rattle.geo_moves.proofs.requests.write_at.Goals as goal

pub request-requires-clause-bytes_fit : goal.request-requires-clause-bytes_fit
request-requires-clause-bytes_fit c write =
    ap length c.from_block-bytes.ensures ∙ c.in_ok-block.ensures.len
    ∙ sym (ap (λ (z : Span). z.len) c.last_sector-span.ensures)

-- the model writes the record too: the same bytes in the last sector of the handle's provider
pub returns-clause-does : goal.returns-clause-does
returns-clause-does c log =
    let span = sym c.last_sector-span.ensures in
    let bytes = sym (c.from_block-bytes.ensures ∙ c.in_ok-block.ensures.block) in
    record_does c.args.state.now c.request.new.state c.args.line c.args.actor c.args.name.now c.args.mark.now
    (Some (c.args.size, c.args.sector)) c.requires.media _
    (λ i. asking cmds.Write ((span i).offset) ((span i).len) (bytes i)) c.request.result log
    (c.request.ensures.does log)
