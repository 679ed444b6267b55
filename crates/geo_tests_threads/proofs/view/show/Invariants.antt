use Rattle.std.proofs.Common.{◌≡◌}
use Rattle.geo_jobs.specs.Ends.{CanShow}
use Rattle.geo_tests_threads.proofs.view.show.Given as goal

abbrev pub invariant-loop : goal.invariant-loop
invariant-loop g l = (l.showing.pass ≡ l.fn.showing.pass)
    × (l.showing.publisher.view ≡ l.fn.showing.publisher.view) × CanShow l.showing.publisher l.showing.pass
