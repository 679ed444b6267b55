use Rattle.std.proofs.lemmas.Result.{err_from_is_err_and}
use Rattle.geo_verify.specs.Forms.{steps_from}
use Rattle.geo_verify.proofs.StepsRead.{fault_left, form_left}
use Rattle.geo_verify.proofs.TracesRead.{fault_first, steps_replayed}
use Rattle.geo_verify.proofs.replaying.replay_steps.Goals as goal

-- a fault among the lines whose steps are made is the first of the trace
pub returns-in_err-stopped : goal.returns-in_err-stopped
returns-in_err-stopped c =
    let p = err_from_is_err_and c.from_residual-in_err-stopped.result c.from_residual-in_err-stopped.ensures.1 in
    rw (p.1, p.2) (fault_first (steps_from c.args.place) _ c.in_err-stopped.field-0.0 c.in_err-stopped.ensures.made)

-- and so is the first behind them
pub returns-in_err-behind : goal.returns-in_err-behind
returns-in_err-behind c =
    let p = err_from_is_err_and c.from_residual-in_err-behind.result c.from_residual-in_err-behind.ensures.1 in
    rw (p.1, p.2)
    (fault_first (steps_from c.args.place) _ c.in_err-behind.field-0.0
    (fault_left (steps_from c.args.place) (steps_from c.in_ok-stopped.left) c.in_err-behind.field-0.0
    c.in_ok-stopped.ensures.made.read c.in_err-behind.ensures))

-- the mesh began with the plan and the sizes, all lines are of the form, and their steps were made up to the end
pub returns : goal.returns
returns c =
    let form = form_left (steps_from c.args.place) (steps_from c.in_ok-stopped.left) c.in_ok-behind.ensures.0
    c.in_ok-behind.behind.now c.in_ok-stopped.ensures.made.read c.in_ok-behind.ensures.1 in
    steps_replayed c.args.plan c.args.facts.now.items c.args.place c.in_ok-mesh.mesh
    (record { mesh = c.make_steps.new.mesh; stopped = c.in_ok-stopped.stopped; report = c.in_ok-report.report })
    c.in_ok-behind.behind.now c.in_ok-mesh.ensures.began _ form c.in_ok-report.ensures
    (c.in_ok-stopped.ensures.made.made c.in_ok-behind.behind.now (_, form))
