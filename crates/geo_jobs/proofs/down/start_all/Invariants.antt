-- A ticket was put for each child so far whose number a ticket can have.
use Rattle.geo_jobs.specs.Putting.{PutsAll}
use Rattle.geo_jobs.specs.Hints.{start_hints}
use Rattle.geo_jobs.proofs.down.start_all.Given as goal

abbrev pub invariant-loop-k : goal.invariant-loop-k
invariant-loop-k g l = PutsAll l.fn.pass (start_hints l.first l.k) l.pass
