-- The run finishes, and what is due is written.
use Rattle.geo_run.proofs.Topping.{call_completes, call_keeps}
use Rattle.geo_run.proofs.top.run_alone.Goals as goal

pub returns-clause-keeps : goal.returns-clause-keeps
returns-clause-keeps g c =
    call_keeps _ _ _ _ _ _ _ _ _ c.run_words-finish.ensures c.write_finish.ensures.log c.write_finish.ensures.facts
    c.write_finish.ensures.writes

pub returns-clause-complete : goal.returns-clause-complete
returns-clause-complete g c =
    call_completes _ _ _ _ _ _ _ _ _ c.run_words-finish.ensures c.write_finish.ensures.log c.write_finish.ensures.facts
    c.write_finish.ensures.writes
