use Rattle.std.proofs.Common.{length, refl, sym, ap, ◌∙◌, arith}
use Rattle.std.specs.Int.{to_le_bytes, w64}
use Rattle.geo_model.specs.Records.{padded, label_head, label_magic, record_head}
use Rattle.geo_class.proofs.FieldLemmas.{free-behind, holds-behind}
use Rattle.geo_class.proofs.RecordLemmas.{length-head}
use Rattle.geo_class.proofs.label.record.encode.Goals as goal

-- the head has 36 bytes, and zeros stand behind it
pub put_u64-requires-clause-free : goal.put_u64-requires-clause-free
put_u64-requires-clause-free c =
    free-behind (length c.args.out.now) 36 (record_head label_magic 2 c.args.part.now.name)
    c.encode_head-in-Some.new.sector
    c.encode_head-in-Some.ensures (length-head label_magic 2 c.args.part.now.name refl c.requires.short)
    (omega (arith, c.requires.room))

-- the media size stands behind the head
pub returns-in-Some : goal.returns-in-Some
returns-in-Some c =
    holds-behind (length c.args.out.now) 36 (record_head label_magic 2 c.args.part.now.name)
    (to_le_bytes w64 c.in-Some.size)
    c.encode_head-in-Some.new.sector c.put_u64.new.sector c.encode_head-in-Some.ensures
    (length-head label_magic 2 c.args.part.now.name refl c.requires.short)
    (omega (arith, c.requires.room)) c.put_u64.ensures
    ∙ ap (λ said. padded (length c.args.out.now) (label_head c.args.part.now.name said)) (sym c.in-Some.is)
