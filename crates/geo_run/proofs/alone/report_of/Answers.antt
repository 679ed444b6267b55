-- The report of what the mesh lists.
use Rattle.geo_run.proofs.OneThread.{report_is}
use Rattle.geo_run.proofs.alone.report_of.Goals as goal

pub returns : goal.returns
returns c =
    report_is c.args.mesh.now _ _ _ _ c.plan.ensures.plan c.log.ensures.log c.in_ok-lines.ensures
    c.report.ensures.report
