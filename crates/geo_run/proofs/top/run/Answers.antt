-- The words ask for threads, or for one thread.
use Rattle.geo_run.proofs.Topping.{call_completes, call_keeps}
use Rattle.geo_run.proofs.top.run.Goals as goal

-- the run in threads finishes as its words ask, and what is due is written with its status
pub returns-in-Some-clause-keeps : goal.returns-in-Some-clause-keeps
returns-in-Some-clause-keeps g c =
    call_keeps _ _ _ _ _ _ _ _ _ c.run_threaded-finish.ensures c.write_finish.ensures.log c.write_finish.ensures.facts
    c.write_finish.ensures.writes

pub returns-in-Some-clause-complete : goal.returns-in-Some-clause-complete
returns-in-Some-clause-complete g c =
    call_completes _ _ _ _ _ _ _ _ _ c.run_threaded-finish.ensures c.write_finish.ensures.log
    c.write_finish.ensures.facts c.write_finish.ensures.writes
