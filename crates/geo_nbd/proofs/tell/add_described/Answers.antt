use Rattle.std.proofs.Common.{◌++◌, ap, ◌∙◌}
use Rattle.geo_nbd.specs.Handshake.{ack, block_info, export_info, reply}
use Rattle.geo_nbd.specs.declared.numbers.TheConstants.{REPLY_INFO}
use Rattle.geo_nbd.proofs.Appends.{three_parts}
use Rattle.geo_nbd.proofs.tell.add_described.Goals as goal

-- both infos, and that this is all
pub returns : goal.returns
returns c =
    three_parts c.add_reply-3.result c.args.sent.now
    (reply c.args.option REPLY_INFO (export_info c.args.export.now))
    (reply c.args.option REPLY_INFO (block_info c.args.export.now)) (ack c.args.option)
    c.add_reply.new.sent c.add_reply-2.new.sent c.add_reply-3.new.sent
    (c.in_ok-add_reply.ensures
    ∙ ap (λ told. c.args.sent.now ++ reply c.args.option REPLY_INFO told) c.export_info.ensures)
    (c.in_ok-add_reply-2.ensures
    ∙ ap (λ told. c.add_reply.new.sent ++ reply c.args.option REPLY_INFO told) c.block_info.ensures)
    c.add_reply-3.ensures
