-- The source was read to its end, or not.
use Rattle.std.proofs.Common.{inr, sym}
use Rattle.geo_base.specs.declared.limits.TheConstants.{MAX_SCRIPT_BYTES}
use Rattle.geo_run.proofs.Reading.{source_ran, source_unread}
use Rattle.geo_run.proofs.source_run.run_source.Goals as goal

-- the text is all that the source gives, and what the run of it does
pub returns-in-Ok : goal.returns-in-Ok
returns-in-Ok g c =
    source_ran _ MAX_SCRIPT_BYTES _ _ c.in-Ok.text _ _ _ _ (sym c.requires.limit) c.in-Ok.ensures.whole c.bytes.ensures
    c.run_script.ensures

-- the source wasn't read to its end, so nothing was opened
pub returns-in-Err : goal.returns-in-Err
returns-in-Err g c =
    inr
    (source_unread _ MAX_SCRIPT_BYTES _ _ c.unopened.result c.in-Err.stop _ (sym c.requires.limit) c.in-Err.ensures.part
    c.unopened.ensures.due c.unopened.ensures.log)
