-- A mesh was opened and run, or not opened.
use Rattle.geo_elev.specs.Meshes.{opened}
use Rattle.geo_run.proofs.Opening.{script_ran}
use Rattle.geo_run.proofs.Running.{still_out}
use Rattle.geo_run.proofs.Watching.{holds_if_there}
use Rattle.geo_run.proofs.script_run.run_script.Goals as goal

-- a run takes nothing from the shelf and gives nothing, so the disks of the script are out still
pub finish_run-requires-clause-out : goal.finish_run-requires-clause-out
finish_run-requires-clause-out g c =
    still_out _ _ c.in-Ok.opened.mesh _ c.in-Ok.opened.lent.names.items _ _ _ c.in-Ok.ensures.opened.1.out
    c.run-driven.ensures

pub finish_run-requires-clause-known : goal.finish_run-requires-clause-known
finish_run-requires-clause-known g c = holds_if_there _ _ (λ m. g.met.C.Runner.knows_all c.args.runner.now (opened m))

-- the mesh that was opened for the script was run, and its end is that of the run
pub returns-in-Ok : goal.returns-in-Ok
returns-in-Ok g c =
    script_ran _ _ c.in-Ok.opened.mesh _ _ c.in-Ok.opened.lent.names.items _ _ _ _ _ _ _ c.in-Ok.ensures.opened
    c.run-driven.ensures c.finish_run.ensures

pub returns-in-Err : goal.returns-in-Err
returns-in-Err g c = c.in-Err.ensures.stopped _ _ c.unopened.ensures.due c.unopened.ensures.log
