use Rattle.std.proofs.Common.{drop, arith}
use Rattle.std.proofs.lemmas.List.{take_rest}
use Rattle.geo_file.proofs.Places.{puts_next}
use Rattle.geo_file.proofs.file_disk.write_bytes.Goals as goal

-- the bytes that were written last stand behind the first ones
pub loop-done-preserved : goal.loop-done-preserved
loop-done-preserved c = record {
  few = omega (arith, c.write_at-count.ensures.few);
  puts = puts_next c.args.at c.loop-done.done c.write_at-count.result c.args.bytes.now _ c.args.file.now
      c.loop-done.file c.write_at-count.new.self (take_rest c.args.bytes.now c.loop-done.done) c.loop-done.invariant.few
      c.loop-done.invariant.puts c.write_at-count.ensures.told;
}
