use Rattle.std.proofs.Common.{◌≡◌}
use Rattle.geo_tests_threads.proofs.view.look_all.Given as goal

abbrev pub invariant-loop : goal.invariant-loop
invariant-loop l = l.watcher.view ≡ l.initial.watcher.view
