use Rattle.std.proofs.Common.{◌≡◌, ◌+◌, ◌-◌, length, refl, arith}
use Rattle.geo_class.proofs.FieldLemmas.{put-zeros}
use Rattle.geo_class.proofs.field.put_bytes.Goals as goal

-- bytes over zeros, which still stand behind them
pub returns : goal.returns
returns c =
    let same : c.copy_from_slice.new.self ≡ c.args.bytes.now = c.copy_from_slice.ensures.after in
    let size : c.args.offset + length c.args.bytes.now - c.args.offset ≡ length c.args.bytes.now = omega arith in
    rw (same, size)
    (put-zeros c.args.sector.now c.args.bytes.now c.args.offset (length c.args.bytes.now) refl c.requires.room
    c.requires.free)
