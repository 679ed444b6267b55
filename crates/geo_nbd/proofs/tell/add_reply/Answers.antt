use Rattle.std.proofs.Common.{◌++◌, length, ap, ◌∙◌}
use Rattle.geo_nbd.specs.Messages.{option_reply_bytes}
use Rattle.geo_nbd.proofs.Appends.{two_parts}
use Rattle.geo_nbd.proofs.tell.add_reply.Goals as goal

-- head and data
pub returns : goal.returns
returns c =
    two_parts c.add-2.result c.args.sent.now
    (option_reply_bytes (record { option = c.args.option; kind = c.args.kind; len = length c.args.bytes.now }))
    c.args.bytes.now c.add.new.self c.add-2.new.self
    (c.in_ok-add.ensures ∙ ap (λ head. c.args.sent.now ++ head) c.bytes.ensures) c.add-2.ensures
