use Rattle.std.proofs.Common.{◌≡◌}
use Rattle.geo_lock.specs.Yard.{IsPassOf}
use Rattle.geo_jobs.specs.Ends.{CanShow}
use Rattle.geo_tests_threads.proofs.view.go_all.Given as goal

abbrev pub invariant-loop : goal.invariant-loop
invariant-loop g l = IsPassOf l.yard l.showing.pass
    × (l.showing.publisher.view ≡ l.initial.showing.publisher.view) × CanShow l.showing.publisher l.showing.pass
