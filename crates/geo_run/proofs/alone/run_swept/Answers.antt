-- A mesh with an empty log goes to rest in the elevator order.
use Rattle.std.proofs.Common.{refl}
use Rattle.geo_headline.specs.Sweep.{sweep_order}
use Rattle.geo_run.proofs.Idle.{idle_mesh}
use Rattle.geo_run.proofs.OneThread.{ran_alone}
use Rattle.geo_run.proofs.alone.run_swept.Goals as goal

pub swept_over-answer-requires-clause-idle : goal.swept_over-answer-requires-clause-idle
swept_over-answer-requires-clause-idle g c = idle_mesh c.args.mesh c.requires.new

pub returns : goal.returns
returns g c =
    ran_alone sweep_order c.args.mesh c.swept_over-answer.new.mesh _ _ _ _ c.requires.new refl
    c.swept_over-answer.ensures.added
    c.swept_over-answer.ensures.history c.swept_over-answer.ensures.fits c.swept_over-answer.ensures.rest
    c.swept_over-answer.ensures.full
