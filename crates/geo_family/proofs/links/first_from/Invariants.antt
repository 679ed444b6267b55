use Rattle.std.proofs.Common.{◌+◌, ◌-◌}
use Rattle.std.specs.Option.{option_map_or}
use Rattle.geo_family.specs.Nearest.{IsOnWayUp}
use Rattle.geo_family.specs.Links.{part_at, parent_of}
use Rattle.geo_family.proofs.links.first_from.Given as goal

-- where the walk stands is a child that no child from the number on is below; at its end there is none of these
abbrev pub invariant-loop-at : goal.invariant-loop-at
invariant-loop-at l = IsOnWayUp (part_at parent_of l.links.rows) l.parent l.number l.at

abbrev pub decreases-loop-at : goal.decreases-loop-at
decreases-loop-at l = option_map_or (λ b. l.number + 1 - b) l.at 0
