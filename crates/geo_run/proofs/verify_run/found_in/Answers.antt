-- What was found, or what was refused.
use Rattle.geo_run.proofs.Reading.{script_refused, trace_refused}
use Rattle.geo_run.proofs.verify_run.found_in.Goals as goal

pub returns-in-Ok : goal.returns-in-Ok
returns-in-Ok c = c.in-Ok.ensures

pub returns-in-Err-Script : goal.returns-in-Err-Script
returns-in-Err-Script c =
    script_refused _ c.in-Err-Script.field-0 c.in-Err-Script.line c.in-Err-Script.cause c.in-Err-Script.field-0-is
    c.in-Err-Script.ensures

pub returns-in-Err-Trace : goal.returns-in-Err-Trace
returns-in-Err-Trace c =
    trace_refused _ c.in-Err-Trace.field-0 c.in-Err-Trace.line c.in-Err-Trace.field-0-is c.in-Err-Trace.ensures
