-- The first that is left and goes there is the first of all.
use Rattle.std.proofs.Common.{◌≡◌, ◌-◌}
use Rattle.geo_state.specs.Oldest.{first_passing}
use Rattle.geo_moves.specs.Above.{has_number}
use Rattle.geo_moves.proofs.above.is_asked.Given as goal

abbrev pub invariant-loop-bio : goal.invariant-loop-bio
invariant-loop-bio l =
    first_passing (λ x. has_number l.above x.target) l.traffic.bios l.from
    ≡ first_passing (λ x. has_number l.above x.target) l.traffic.bios 0

abbrev pub decreases-loop-bio : goal.decreases-loop-bio
decreases-loop-bio l = l.traffic.next - l.from
