use Rattle.std.proofs.Common.{◌≡◌, ◌++◌, length, take, replicate, ap, ◌∙◌, arith, rules, append_assoc}
use Rattle.std.specs.Int.{to_le_bytes, w32}
use Rattle.geo_model.specs.Records.{padded}
use Rattle.geo_class.proofs.FieldLemmas.{free-behind, holds-behind, holds_first, padded-padded}
use Rattle.geo_class.proofs.RecordLemmas.{holds_version, length-version}
use Rattle.geo_class.proofs.HeadLemmas.{short_name}
use Rattle.geo_class.proofs.head.encode_head.Goals as goal

-- the sector was blanked, and the magic takes its first 16 bytes
pub put_u32-requires-clause-free : goal.put_u32-requires-clause-free
put_u32-requires-clause-free c =
    let blank : c.fill.new.self ≡ replicate (length c.args.sector.now) 0 = search rules in
    free-behind (length c.args.sector.now) 16 c.args.magic.now c.put_bytes.new.sector
    (holds_first (length c.args.sector.now) c.args.magic.now c.fill.new.self c.put_bytes.new.sector blank
    c.put_bytes.ensures)
    c.told-magic (omega (arith, c.requires.room))

-- magic and version take the first 20 bytes, and zeros stand behind them
pub put_bytes-requires-2-clause-free : goal.put_bytes-requires-2-clause-free
put_bytes-requires-2-clause-free c =
    let blank : c.fill.new.self ≡ replicate (length c.args.sector.now) 0 = search rules in
    free-behind (length c.args.sector.now) 20 (c.args.magic.now ++ to_le_bytes w32 c.args.version) c.put_u32.new.sector
    (holds_version (length c.args.sector.now) c.args.version c.args.magic.now c.fill.new.self c.put_bytes.new.sector
    c.put_u32.new.sector c.told-magic c.requires.room blank c.put_bytes.ensures c.put_u32.ensures)
    (length-version c.args.magic.now c.args.version c.told-magic) (omega (arith, c.requires.room))

-- the name has at most 16 bytes, so the zeros behind it fill its field
pub returns : goal.returns
returns c =
    let blank : c.fill.new.self ≡ replicate (length c.args.sector.now) 0 = search rules in
    let long = length-version c.args.magic.now c.args.version c.told-magic in
    holds-behind (length c.args.sector.now) 20 (c.args.magic.now ++ to_le_bytes w32 c.args.version) c.args.name.now
    c.put_u32.new.sector c.put_bytes-2.new.sector
    (holds_version (length c.args.sector.now) c.args.version c.args.magic.now c.fill.new.self c.put_bytes.new.sector
    c.put_u32.new.sector c.told-magic c.requires.room blank c.put_bytes.ensures c.put_u32.ensures)
    long (omega (arith, c.requires.room))
    (c.put_bytes-2.ensures ∙ ap (λ field. padded (length c.put_u32.new.sector)
    (take 20 c.put_u32.new.sector ++ field)) c.bytes.ensures.bytes)
    ∙ padded-padded (length c.args.sector.now) 16 (c.args.magic.now ++ to_le_bytes w32 c.args.version) c.args.name.now
    (short_name c.args.name.now c.requires.short).few (omega (arith, long, c.requires.room))
    ∙ ap (padded (length c.args.sector.now))
    (append_assoc c.args.magic.now (to_le_bytes w32 c.args.version) (padded 16 c.args.name.now))
