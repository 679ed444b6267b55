use Rattle.std.proofs.Common.{◌≡◌, ◌<◌, ◌^◌, drop}
use Rattle.geo_model.specs.Script.{value_of}
use Rattle.geo_script.proofs.NumberLemmas.{value_behind}
use Rattle.geo_script.proofs.number.value_of.Given as goal

-- the value of the digits so far fits, and with those that are left it gives that of all
abbrev pub invariant-loop-b : goal.invariant-loop-b
invariant-loop-b l = record {
  fits : l.value < 2 ^ 64;
  whole : value_behind l.value (drop l.b-index l.digits) ≡ value_of l.digits;
}
