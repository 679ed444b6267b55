-- The least bio of the actor from here on is the least from the number on that the search began with.
use Rattle.std.proofs.Common.{◌≡◌, ◌-◌}
use Rattle.geo_state.specs.Trips.{trip_of, is_own}
use Rattle.geo_state.specs.Oldest.{first_passing}
use Rattle.geo_state.proofs.oldest.first_own.Given as goal

abbrev pub invariant-loop-bio : goal.invariant-loop-bio
invariant-loop-bio l =
    first_passing (λ x. is_own l.handles.handles l.actor (trip_of x)) l.traffic.bios l.from
    ≡ first_passing (λ x. is_own l.handles.handles l.actor (trip_of x)) l.traffic.bios l.low

abbrev pub decreases-loop-bio : goal.decreases-loop-bio
decreases-loop-bio l = l.traffic.next - l.from
