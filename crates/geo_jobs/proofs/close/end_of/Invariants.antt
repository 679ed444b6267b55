-- The end so far is that of so many workers.
use Rattle.std.proofs.Common.{take}
use Rattle.geo_jobs.specs.Closing.{IsEndOf}
use Rattle.geo_jobs.proofs.close.end_of.Given as goal

abbrev pub invariant-loop-k : goal.invariant-loop-k
invariant-loop-k g l = IsEndOf (take l.k l.workers) l.ended
