-- The source was read to its end, or not.
use Rattle.std.proofs.Common.{inr, refl}
use Rattle.geo_base.specs.declared.limits.TheConstants.{MAX_TRACE_BYTES}
use Rattle.geo_headline.specs.Modes.{VerifyMode}
use Rattle.geo_run.proofs.Reading.{source_found, source_unread, trace_within}
use Rattle.geo_run.proofs.verify_run.run_verify.Goals as goal

-- the source gave at most as many bytes as a trace may have
pub found_in-requires : goal.found_in-requires
found_in-requires g c =
    trace_within MAX_TRACE_BYTES c.bytes.result.now c.in-Ok.text refl c.bytes.ensures
    c.in-Ok.ensures.whole.few

-- the text is all that the source gives, and what is found is found in it
pub returns-in-Ok : goal.returns-in-Ok
returns-in-Ok g c = λ shelf.
    source_found MAX_TRACE_BYTES _ _ c.in-Ok.text _ c.unopened.result c.found_in.result shelf
    refl c.in-Ok.ensures.whole c.bytes.ensures c.found_in.ensures c.unopened.ensures.due
    c.unopened.ensures.log

pub returns-in-Err : goal.returns-in-Err
returns-in-Err g c = λ shelf.
    inr (source_unread VerifyMode MAX_TRACE_BYTES _ _ c.unopened-in-Err.result c.in-Err.stop shelf
    refl c.in-Err.ensures.part c.unopened-in-Err.ensures.due c.unopened-in-Err.ensures.log)
