-- What was written, then the run under way with the bytes that are left, is the text of all bytes.
use Rattle.std.proofs.Common.{◌≡◌, ◌++◌, ◌≤◌, drop}
use Rattle.geo_base.specs.Runs.{runs_text}
use Rattle.geo_base.proofs.RunsLemmas.{text_after}
use Rattle.geo_report.proofs.runs.add_some_runs.Given as goal

abbrev pub invariant-loop-next : goal.invariant-loop-next
invariant-loop-next l = record {
  counted : l.times ≤ l.next-index;
  whole : l.text ++ text_after l.byte l.times (drop l.next-index l.bytes) ≡ l.fn.text ++ runs_text l.bytes;
}
