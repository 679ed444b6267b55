use Rattle.std.proofs.Common.{◌≡◌, ◌++◌, drop}
use Rattle.geo_bio.specs.Split.{children_for}
use Rattle.geo_bio.proofs.split.make_children.Given as goal

-- the children so far, with those of the pieces that are left, are those of all
abbrev pub invariant-loop-index : goal.invariant-loop-index
invariant-loop-index l =
    l.children.items ++ children_for l.parent l.bio l.index (drop l.index l.pieces) (drop l.index l.targets)
    ≡ children_for l.parent l.bio 0 l.pieces l.targets
