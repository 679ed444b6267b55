use Rattle.geo_lock.specs.Pass.{IsSamePass}
use Rattle.geo_lock.specs.Yard.{IsPassOf}
use Rattle.geo_tests_threads.proofs.mesh.run.Given as goal

abbrev pub invariant-loop : goal.invariant-loop
invariant-loop g l = IsPassOf l.yard l.job.pass × IsSamePass l.initial.job.pass l.job.pass
