-- All so far are digits, and the value is theirs.
use Rattle.std.proofs.Common.{length, ◌-◌, ◌≡◌, ◌≤◌, true, take}
use Rattle.std.specs.List.{list_all}
use Rattle.geo_model.specs.Script.{is_digit, value_of}
use Rattle.geo_verify.proofs.number.number_in_front.Given as goal

abbrev pub invariant-loop-at : goal.invariant-loop-at
invariant-loop-at l = record {
  inside : l.at ≤ length l.text;
  digits : list_all is_digit (take l.at l.text) ≡ true;
  value : value_of (take l.at l.text) ≡ l.value;
  small : l.value ≤ 1000000000000000000;
}

abbrev pub decreases-loop-at : goal.decreases-loop-at
decreases-loop-at l = length l.text - l.at
