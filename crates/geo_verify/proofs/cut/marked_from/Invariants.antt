-- No line so far has the mark, so all so far is of the script.
use Rattle.std.proofs.Common.{length, ◌-◌, ◌≡◌, ◌≤◌, ◌++◌, take, drop}
use Rattle.geo_headline.specs.Traces.{script_part, marked_part, front_from, back_from}
use Rattle.geo_verify.proofs.cut.marked_from.Given as goal

abbrev pub invariant-loop-at : goal.invariant-loop-at
invariant-loop-at l = record {
  inside : l.at ≤ length l.text;
  script : script_part l.text ≡ take l.at l.text ++ front_from l.begins (drop l.at l.text);
  marked : marked_part l.text ≡ back_from l.begins (drop l.at l.text);
}

abbrev pub decreases-loop-at : goal.decreases-loop-at
decreases-loop-at l = length l.text - l.at
