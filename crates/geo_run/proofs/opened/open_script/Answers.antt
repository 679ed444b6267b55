-- The text is a script whose plan couldn't be opened.
use Rattle.geo_run.proofs.Opening.{script_stops_if}
use Rattle.geo_run.proofs.opened.open_script.Goals as goal

pub returns-in-Ok-clause-stopped : goal.returns-in-Ok-clause-stopped
returns-in-Ok-clause-stopped g c =
    script_stops_if _ c.args.text.now c.in-Ok.plan _ _ c.in-Ok.ensures.answer c.open_plan.ensures.stopped
