-- The lines of the entries so far were added, and each can be read again, if it delivers not too many bytes.
use Rattle.std.proofs.Common.{◌≡◌, ◌++◌, take, flat_map}
use Rattle.std.specs.List.{AllByRecursion}
use Rattle.geo_headline.specs.Traces.{step_line}
use Rattle.geo_verify.proofs.WrittenOut.{FitsLine}
use Rattle.geo_verify.proofs.write.add_lines.Given as goal

abbrev pub invariant-loop-entry : goal.invariant-loop-entry
invariant-loop-entry l =
    (l.text ≡ l.fn.text ++ flat_map (λ e. step_line (e.seat, e.step)) (take l.entry-index l.entries))
    × AllByRecursion FitsLine (take l.entry-index l.entries)
