-- A mesh was opened and run in threads, or not opened.
use Rattle.geo_run.proofs.Opening.{script_ran_as}
use Rattle.geo_run.proofs.Running.{still_out}
use Rattle.geo_run.proofs.threaded.run_script_in_threads.Goals as goal

-- threads take nothing from the shelf and give nothing, so the disks of the script are out still
pub finish_run-requires-clause-out : goal.finish_run-requires-clause-out
finish_run-requires-clause-out g c =
    still_out _ _ c.in-Ok.opened.mesh _ c.in-Ok.opened.lent.names.items _ _ _ c.in-Ok.ensures.opened.1.out
    c.run_as-driven.ensures.ran

-- the mesh that was opened for the script was run, and the report is the one that the words ask for
pub returns-in-Ok : goal.returns-in-Ok
returns-in-Ok g c =
    script_ran_as _ _ _ c.in-Ok.opened.mesh _ _ c.in-Ok.opened.lent.names.items _ _ _ _ _ _ _ c.in-Ok.ensures.opened
    c.run_as-driven.ensures.ran c.run_as-driven.ensures.mode c.finish_run.ensures

pub returns-in-Err : goal.returns-in-Err
returns-in-Err g c = c.in-Err.ensures.stopped _ _ c.unopened.ensures.due c.unopened.ensures.log
