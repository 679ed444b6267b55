-- A look leaves the watcher with the view that it looks at, and the pass with which that began.
use Rattle.std.proofs.Common.{◌≡◌}
use Rattle.geo_jobs.proofs.watch.look_on.Given as goal

abbrev pub invariant-loop : goal.invariant-loop
invariant-loop l = (l.watcher.view ≡ l.fn.watcher.view) × (l.watcher.of ≡ l.fn.watcher.of)
