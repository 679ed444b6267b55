-- The source was read to its end, or not.
use Rattle.std.proofs.Common.{inr}
use Rattle.geo_base.specs.declared.limits.TheConstants.{MAX_SCRIPT_BYTES}
use Rattle.geo_run.proofs.InThreads.{script_limit}
use Rattle.geo_run.proofs.Reading.{source_ran, source_unread}
use Rattle.geo_run.proofs.threaded.run_source_in_threads.Goals as goal

pub returns-in-Ok : goal.returns-in-Ok
returns-in-Ok g c =
    source_ran _ MAX_SCRIPT_BYTES _ _ c.in-Ok.text _ _ _ _ (script_limit c.args.work) c.in-Ok.ensures.whole
    c.bytes.ensures c.run_script_in_threads.ensures

-- the source wasn't read to its end, so nothing was opened
pub returns-in-Err : goal.returns-in-Err
returns-in-Err g c =
    inr (source_unread _ MAX_SCRIPT_BYTES _ _ c.unopened.result c.in-Err.stop _ (script_limit c.args.work)
    c.in-Err.ensures.part c.unopened.ensures.due c.unopened.ensures.log)
