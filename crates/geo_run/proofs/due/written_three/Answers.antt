-- The sink takes the first text, or fails in it.
use Rattle.geo_run.proofs.Writing.{behind, cut_off_first, three}
use Rattle.geo_run.proofs.due.written_three.Goals as goal

pub returns-in-Ok : goal.returns-in-Ok
returns-in-Ok g c =
    three _ _ c.args.first.now c.args.middle.now c.args.last.now _ _
    (behind _ _ _ _ _ _ _ c.in-Ok.ensures.ok.taken c.in-Ok.ensures.told c.written_two.ensures)

pub returns-in-Err : goal.returns-in-Err
returns-in-Err g c =
    three _ _ c.args.first.now c.args.middle.now c.args.last.now _ _
    (cut_off_first _ _ _ _ _ _ c.in-Err.ensures.some_left c.in-Err.ensures.err.taken c.in-Err.ensures.one)
