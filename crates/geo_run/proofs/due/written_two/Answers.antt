-- The sink takes the first text, or fails in it.
use Rattle.geo_run.proofs.Writing.{behind, cut_off_first}
use Rattle.geo_run.proofs.due.written_two.Goals as goal

pub returns-in-Ok : goal.returns-in-Ok
returns-in-Ok g c =
    behind _ _ _ _ _ _ _ c.in-Ok.ensures.ok.taken c.in-Ok.ensures.told c.written.ensures

pub returns-in-Err : goal.returns-in-Err
returns-in-Err g c =
    cut_off_first _ _ _ _ _ _ c.in-Err.ensures.some_left c.in-Err.ensures.err.taken c.in-Err.ensures.one
