use Rattle.geo_lock.specs.Pass.{IsSamePass}
use Rattle.geo_lock.specs.Yard.{IsPassOf}
use Rattle.geo_tests_threads.proofs.lock.add_all.Given as goal

abbrev pub invariant-loop-i : goal.invariant-loop-i
invariant-loop-i g l = IsPassOf l.yard l.pass × IsSamePass l.initial.pass l.pass
