use Rattle.std.proofs.Common.{◌≤◌, ℕ, arith}
use Rattle.geo_file.proofs.Places.{few_of, puts_zeros, zeros_of}
use Rattle.geo_file.proofs.file_disk.write_zeros.Goals as goal

-- Here and below: the zeros that were written last stand behind those before them
pub returns-then-written-piece-clause-puts : goal.returns-then-written-piece-clause-puts
returns-then-written-piece-clause-puts c =
    puts_zeros c.args.at c.loop-done.done c.write_bytes-written.result _ c.args.file.now c.loop-done.file
    c.write_bytes-written.new.file
    (zeros_of c.write_bytes-written.result c.min-piece.result 4096 c.write_bytes-written.ensures.few (omega arith))
    c.loop-done.invariant.puts c.write_bytes-written.ensures.puts

pub loop-done-preserved : goal.loop-done-preserved
loop-done-preserved c =
    let few : c.write_bytes-written.result ≤ c.min-piece.result =
    few_of c.write_bytes-written.result c.min-piece.result 4096 c.write_bytes-written.ensures.few (omega arith) in
    record {
      few = omega arith;
      puts = puts_zeros c.args.at c.loop-done.done c.write_bytes-written.result _ c.args.file.now c.loop-done.file
          c.write_bytes-written.new.file
          (zeros_of c.write_bytes-written.result c.min-piece.result 4096 c.write_bytes-written.ensures.few
          (omega arith)) c.loop-done.invariant.puts c.write_bytes-written.ensures.puts;
    }
