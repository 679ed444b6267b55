use Rattle.std.proofs.Common.{◌≡◌, ◌+◌, ◌++◌, ℕ, List, length, ap, ◌∙◌, arith}
use Rattle.byteorder.specs.Endian.{big_bytes}
use Rattle.geo_nbd.specs.Messages.{option_reply_bytes}
use Rattle.geo_nbd.specs.declared.numbers.TheConstants.{OPTION_LIST, REPLY_SERVER}
use Rattle.geo_nbd.proofs.Appends.{three_parts}
use Rattle.geo_nbd.proofs.tell.add_export.Goals as goal

-- the head in front of so many bytes
abbrev head : ℕ → List ℕ
head n = option_reply_bytes (record { option = OPTION_LIST; kind = REPLY_SERVER; len = n })

-- the data is the length of the name and the name
same_length : (name : List ℕ) → 4 + length name ≡ length (big_bytes 4 (length name) ++ name)
same_length name = omega arith

-- head, length and name
pub returns : goal.returns
returns c =
    let name = c.args.export.now.name in
    let same = c.bytes-name.ensures.bytes in
    three_parts c.add-3.result c.args.sent.now (head (length (big_bytes 4 (length name) ++ name)))
    (big_bytes 4 (length name)) name c.add.new.self c.add-2.new.self c.add-3.new.self
    (c.in_ok-add.ensures
    ∙ ap (λ part. c.args.sent.now ++ part)
    (c.bytes.ensures ∙ ap (λ n. head (4 + length n)) same ∙ ap head (same_length name)))
    (c.in_ok-add-2.ensures
    ∙ ap (λ part. c.add.new.self ++ part) (c.to_be_bytes.ensures ∙ ap (λ n. big_bytes 4 (length n)) same))
    (rw (← same) c.add-3.ensures)
