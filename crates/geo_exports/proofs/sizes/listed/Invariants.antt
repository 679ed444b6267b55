use Rattle.std.proofs.Common.{◌≡◌, ◌+◌, ◌≤◌, length, map, take}
use Rattle.geo_exports.specs.Opening.{fact_of}
use Rattle.geo_exports.proofs.sizes.listed.Given as goal

-- the sizes so far, and room for the rest
abbrev pub invariant-loop-size : goal.invariant-loop-size
invariant-loop-size l = record {
  facts : l.facts.items ≡ map fact_of (take l.size-index l.sizes);
  room : length l.sizes ≤ l.size-index + l.facts.spare;
}
