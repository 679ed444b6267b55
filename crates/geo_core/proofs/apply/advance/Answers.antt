use Rattle.std.proofs.Common.{sym, subst}
use Rattle.geo_model.specs.declared.step.Outcome.{Outcome}
use Rattle.geo_core.specs.declared.refusal.ApplyRefusal.TheVariants as refusals
use Rattle.geo_core.specs.Mesh.{MeshView, world_of, Made, IsSure}
use Rattle.geo_core.specs.Running.{seen}
use Rattle.geo_core.proofs.Admits.{not_ok}
use Rattle.geo_core.proofs.Applying.{sure_pays, refused_memory, advances_refusal}
use Rattle.geo_core.proofs.apply.advance.Goals as goal

-- a step that is never refused pays off, so it is admitted
pub returns-in_err-decision-clause-sure : goal.returns-in_err-decision-clause-sure
returns-in_err-decision-clause-sure g c = λ sure.
    let ok = c.admit.ensures.sure (sure_pays c.args.running.now c.requires.mesh c.args.seat c.args.step sure) in
    absurd (not_ok _ _ c.in_err-decision.was ok)

-- the step was admitted, so the only thing that can refuse it now is want of memory
pub returns-in_err-carry-clause-answer : goal.returns-in_err-carry-clause-answer
returns-in_err-carry-clause-answer g c =
    advances_refusal c.from_residual-in_err-carry.result refusals.NoMemory (seen c.args.running.now)
    (seen c.carry.new.running) c.args.seat c.args.step c.from_residual-in_err-carry.ensures.1
    (refused_memory (seen c.args.running.now) c.admit.new.running (seen c.carry.new.running) c.args.seat c.args.step
    c.in_ok-decision.decision c.admit.ensures.mesh c.admit.ensures.same c.in_ok-decision.ensures.admitted
    c.in_err-carry.ensures.same)

-- a step that is never refused takes no memory
pub returns-in_err-carry-clause-sure : goal.returns-in_err-carry-clause-sure
returns-in_err-carry-clause-sure g c = λ sure.
    let ok =
    c.carry.ensures.sure
    (subst (λ (v : MeshView). IsSure (world_of v) c.args.seat c.args.step) (sym c.admit.ensures.same) sure) in
    absurd (not_ok _ _ c.in_err-carry.was ok)

-- the mesh that made the step shows the same log and plan as the one before it was admitted
pub returns-clause-answer : goal.returns-clause-answer
returns-clause-answer g c =
    subst (λ (v : MeshView). (o : Outcome) × Made v (seen c.carry.new.running) c.args.seat c.args.step o)
    c.admit.ensures.same c.in_ok-carry.ensures.made
