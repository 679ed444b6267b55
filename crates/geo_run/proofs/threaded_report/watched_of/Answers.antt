-- The report of what the mesh lists, and listed as it opened.
use Rattle.geo_run.proofs.Watching.{watched_is}
use Rattle.geo_run.proofs.threaded_report.watched_of.Goals as goal

pub returns : goal.returns
returns c =
    watched_is c.args.mesh.now _ _ _ _ _ c.log.ensures.history c.plan.ensures.plan c.log.ensures.log
    c.in_ok-lines.ensures c.requires c.watched_report.ensures
