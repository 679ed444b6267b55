use Rattle.std.proofs.Common.{◌≡◌, ◌≤◌, ◌-◌, length, take}
use Rattle.geo_io.specs.Sink.{Takes}
use Rattle.geo_io.proofs.writing.write_out.Given as goal

-- the sink took just the first `done` bytes, and no write failed
abbrev pub invariant-loop-done : goal.invariant-loop-done
invariant-loop-done g l = record {
  grown : Takes (g.K.Sink.view l.fn.sink) (take l.done l.bytes) (g.K.Sink.view l.sink);
  inside : l.done ≤ length l.bytes;
  told : (g.K.Sink.view l.sink).faults ≡ (g.K.Sink.view l.fn.sink).faults;
}

abbrev pub decreases-loop-done : goal.decreases-loop-done
decreases-loop-done g l = length l.bytes - l.done
