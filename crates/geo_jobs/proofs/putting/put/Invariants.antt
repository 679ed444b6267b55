-- While the lane was full the pass stayed as it was.
use Rattle.std.proofs.Common.{◌≡◌}
use Rattle.geo_jobs.proofs.putting.put.Given as goal

abbrev pub invariant-loop : goal.invariant-loop
invariant-loop g l = l.pass ≡ l.initial.pass
