use Rattle.std.proofs.Common.{◌-◌}
use Rattle.geo_slots.specs.Pages.{HaveRoom}
use Rattle.geo_slots.proofs.index.reserve.Given as goal

-- more room alone was made
abbrev pub invariant-loop-index : goal.invariant-loop-index
invariant-loop-index l = HaveRoom l.fn.index.pages.items l.fn.index.end l.index.pages.items l.index.end

abbrev pub decreases-loop-index : goal.decreases-loop-index
decreases-loop-index l = l.end - l.index.end
