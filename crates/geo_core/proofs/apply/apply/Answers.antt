use Rattle.std.proofs.Common.{refl, sym, subst}
use Rattle.geo_core.specs.declared.refusal.ApplyRefusal.TheVariants as refusals
use Rattle.geo_core.specs.Mesh.{MeshView, world_of, Made, IsSure}
use Rattle.geo_core.specs.Running.{seen}
use Rattle.geo_core.proofs.Admits.{not_ok}
use Rattle.geo_core.proofs.Applying.{sure_pays, refused_memory, applies_refusal, ends_with, last_is}
use Rattle.geo_core.proofs.apply.apply.Goals as goal

-- a step that is never refused pays off, so it is admitted
pub returns-in_err-decision-clause-sure : goal.returns-in_err-decision-clause-sure
returns-in_err-decision-clause-sure g c = λ sure.
    let ok = c.admit.ensures.sure (sure_pays c.args.running.now c.requires.mesh c.args.seat c.args.step sure) in
    absurd (not_ok _ _ c.in_err-decision.was ok)

-- the step was admitted, and memory for what its outcome has was wanting: nothing is made yet
pub returns-in_err-spare-clause-answer : goal.returns-in_err-spare-clause-answer
returns-in_err-spare-clause-answer g c =
    applies_refusal c.from_residual-in_err-spare.result refusals.NoMemory (seen c.args.running.now)
    (seen c.admit.new.running) c.args.seat c.args.step c.from_residual-in_err-spare.ensures.1
    (refused_memory (seen c.args.running.now) c.admit.new.running (seen c.admit.new.running) c.args.seat c.args.step
    c.in_ok-decision.decision c.admit.ensures.mesh c.admit.ensures.same c.in_ok-decision.ensures.admitted refl)

-- a step that is never refused has an outcome of which nothing is copied
pub returns-in_err-spare-clause-sure : goal.returns-in_err-spare-clause-sure
returns-in_err-spare-clause-sure g c = λ sure.
    let ok =
    c.spare_of.ensures.sure c.args.seat
    (subst (λ (v : MeshView). IsSure (world_of v) c.args.seat c.args.step) (sym c.admit.ensures.same) sure) in
    absurd (not_ok _ _ c.in_err-spare.was ok)

-- the step was admitted, and memory was wanting, which leaves all as it was
pub returns-in_err-carry-clause-answer : goal.returns-in_err-carry-clause-answer
returns-in_err-carry-clause-answer g c =
    applies_refusal c.from_residual-in_err-carry.result refusals.NoMemory (seen c.args.running.now)
    (seen c.carry.new.running) c.args.seat c.args.step c.from_residual-in_err-carry.ensures.1
    (refused_memory (seen c.args.running.now) c.admit.new.running (seen c.carry.new.running) c.args.seat c.args.step
    c.in_ok-decision.decision c.admit.ensures.mesh c.admit.ensures.same c.in_ok-decision.ensures.admitted
    c.in_err-carry.ensures.same)

-- a step that is never refused takes no memory
pub returns-in_err-carry-clause-sure : goal.returns-in_err-carry-clause-sure
returns-in_err-carry-clause-sure g c = λ sure.
    let ok =
    c.carry.ensures.sure
    (subst (λ (v : MeshView). IsSure (world_of v) c.args.seat c.args.step) (sym c.admit.ensures.same) sure) in
    absurd (not_ok _ _ c.in_err-carry.was ok)

-- the last entry is that of this step, and what its outcome has was copied
pub last_outcome-requires : goal.last_outcome-requires
last_outcome-requires g c =
    let made = c.in_ok-carry.ensures.made in
    ends_with c.admit.new.running c.carry.new.running c.args.seat c.args.step made.0 c.in_ok-spare.spare made.1
    c.in_ok-spare.ensures.outcome

-- the outcome of the last entry is that of the step
pub returns-clause-answer : goal.returns-clause-answer
returns-clause-answer g c =
    let made = c.in_ok-carry.ensures.made in
    subst (λ (v : MeshView). Made v (seen c.carry.new.running) c.args.seat c.args.step c.last_outcome.result)
    c.admit.ensures.same
    (last_is c.admit.new.running c.carry.new.running c.args.seat c.args.step made.0 c.last_outcome.result made.1
    c.last_outcome.ensures)
