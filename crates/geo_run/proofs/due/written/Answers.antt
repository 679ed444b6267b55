-- The sink failed.
use Rattle.geo_run.proofs.Writing.{cut_off}
use Rattle.geo_run.proofs.due.written.Goals as goal

pub returns-in-Err : goal.returns-in-Err
returns-in-Err g c =
    cut_off _ _ _ _ _ c.in-Err.ensures.some_left c.in-Err.ensures.err.taken c.in-Err.ensures.one
