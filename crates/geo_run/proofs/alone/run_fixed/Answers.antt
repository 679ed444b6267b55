-- A mesh with an empty log goes to rest in the fixed order.
use Rattle.std.proofs.Common.{refl}
use Rattle.geo_model.specs.FixedOrder.{fixed_order}
use Rattle.geo_run.proofs.Idle.{idle_mesh}
use Rattle.geo_run.proofs.OneThread.{ran_alone}
use Rattle.geo_run.proofs.alone.run_fixed.Goals as goal

-- a mesh without a step has taken no bio
pub fixed_over-answer-requires-clause-idle : goal.fixed_over-answer-requires-clause-idle
fixed_over-answer-requires-clause-idle g c = idle_mesh c.args.mesh c.requires.new

pub returns : goal.returns
returns g c =
    ran_alone fixed_order c.args.mesh c.fixed_over-answer.new.mesh _ _ _ _ c.requires.new refl
    c.fixed_over-answer.ensures.added
    c.fixed_over-answer.ensures.history c.fixed_over-answer.ensures.fits c.fixed_over-answer.ensures.rest
    c.fixed_over-answer.ensures.full
