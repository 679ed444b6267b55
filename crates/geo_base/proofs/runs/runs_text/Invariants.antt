use Rattle.std.proofs.Common.{◌≡◌, ◌++◌, ◌≤◌, drop}
use Rattle.geo_base.specs.Runs.{runs_text}
use Rattle.geo_base.proofs.RunsLemmas.{text_after}
use Rattle.geo_base.proofs.runs.runs_text.Given as goal

-- the text so far, the run that is counted and the bytes that are left make the text of all
abbrev pub invariant-loop-next : goal.invariant-loop-next
invariant-loop-next l = record {
  counted : l.times ≤ l.next-index;
  whole : l.text.items ++ text_after l.byte l.times (drop l.next-index l.bytes) ≡ runs_text l.bytes;
}
