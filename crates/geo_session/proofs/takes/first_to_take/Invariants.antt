-- None that was passed can be taken.
use Rattle.std.proofs.Common.{◌-◌}
use Rattle.geo_session.proofs.FirstTaken.{NoneBefore}
use Rattle.geo_session.proofs.takes.first_to_take.Given as goal

abbrev pub invariant-loop-bio : goal.invariant-loop-bio
invariant-loop-bio l = NoneBefore l.state l.from

abbrev pub decreases-loop-bio : goal.decreases-loop-bio
decreases-loop-bio l = l.state.traffic.next - l.from
