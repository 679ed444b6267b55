use Rattle.std.proofs.Common.{◌+◌, ◌≤◌, length, take}
use Rattle.std.specs.List.{AllZip}
use Rattle.geo_model.specs.Plans.{IsFact}
use Rattle.geomnbd.proofs.setup.fitted.Given as goal

-- the sizes so far, and room for the rest
abbrev pub invariant-loop-decl : goal.invariant-loop-decl
invariant-loop-decl g l = record {
  fit : AllZip IsFact (take l.decl-index l.decl-items) l.facts.items;
  room : length l.decl-items ≤ l.decl-index + l.facts.spare;
}
