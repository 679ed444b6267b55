use Rattle.std.proofs.Common.{◌++◌, length, refl, arith}
use Rattle.std.specs.Int.{to_le_bytes, w16, w32}
use Rattle.geo_model.specs.Records.{concat_magic, record_head}
use Rattle.geo_class.proofs.FieldLemmas.{free-behind, holds-behind}
use Rattle.geo_class.proofs.RecordLemmas.{length-head}
use Rattle.geo_class.proofs.concat.record.encode.Goals as goal

-- the head has 36 bytes, and zeros stand behind it
pub put_component-requires-clause-free : goal.put_component-requires-clause-free
put_component-requires-clause-free c =
    free-behind (length c.args.out.now) 36 (record_head concat_magic 1 c.args.part.now.name) c.encode_head.new.sector
    c.encode_head.ensures
    (length-head concat_magic 1 c.args.part.now.name refl c.requires.short) (omega (arith, c.requires.room))

-- the component stands behind the head
pub returns : goal.returns
returns c =
    holds-behind (length c.args.out.now) 36 (record_head concat_magic 1 c.args.part.now.name)
    (to_le_bytes w32 c.args.part.now.id ++
    (to_le_bytes w16 c.args.part.now.place ++ to_le_bytes w16 c.args.part.now.count))
    c.encode_head.new.sector c.put_component.new.sector c.encode_head.ensures
    (length-head concat_magic 1 c.args.part.now.name refl c.requires.short)
    (omega (arith, c.requires.room)) c.put_component.ensures
