use Rattle.std.proofs.Common.{◌+◌, ◌-◌}
use Rattle.std.specs.Option.{option_map_or}
use Rattle.geo_family.specs.Nearest.{IsBetween}
use Rattle.geo_family.specs.Links.{part_at, parent_of}
use Rattle.geo_family.proofs.links.last_below.Given as goal

-- as far as they are met, `low` is a child below the number and `high` one that isn't
abbrev pub invariant-inwards : goal.invariant-inwards
invariant-inwards l = IsBetween (part_at parent_of l.links.rows) l.parent l.number l.low l.high

-- each round `low` is a greater child, still below the number
abbrev pub decreases-inwards : goal.decreases-inwards
decreases-inwards l = option_map_or (λ c. l.number - c) l.low (l.number + 1)
