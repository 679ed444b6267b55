use Rattle.std.proofs.Common.{◌≡◌, ◌≤◌, ◌-◌, length, take}
use Rattle.geo_io.specs.Source.{Gives}
use Rattle.geo_serving.proofs.streams.read_full.Given as goal

-- what was read so far; no read failed
abbrev pub invariant-loop-done : goal.invariant-loop-done
invariant-loop-done g l = record {
  len : length l.out ≡ length l.initial.out;
  inside : l.done ≤ length l.out;
  gives : Gives (g.S.Source.view l.fn.source) (take l.done l.out) (g.S.Source.view l.source);
  told : (g.S.Source.view l.source).faults ≡ (g.S.Source.view l.fn.source).faults;
}

abbrev pub decreases-loop-done : goal.decreases-loop-done
decreases-loop-done g l = length l.initial.out - l.done
