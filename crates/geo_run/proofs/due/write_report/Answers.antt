-- The line of a disk that couldn't be given back stands behind the report.
use Rattle.std.proofs.Common.{ap, codes}
use Rattle.geo_model.specs.Report.{end_line}
use Rattle.geo_headline.specs.Endings.{ReportedButFault}
use Rattle.geo_run.specs.Stops.{ending_with}
use Rattle.geo_run.proofs.Writing.{behind, cut_off_first, four, same_ends}
use Rattle.geo_run.proofs.due.write_report.Goals as goal

pub returns-in-Ok : goal.returns-in-Ok
returns-in-Ok g c =
    same_ends c.args.text.now (ReportedButFault c.in-Some.name) _ _ _ _ (ap ending_with c.in-Some.is)
    (four _ 5 c.args.text.now (codes "shelf fault ") c.in-Some.name end_line _ _
    (behind _ _ _ _ _ _ _ c.in-Ok.ensures.ok.taken c.in-Ok.ensures.told c.written_name.ensures))

pub returns-in-Err : goal.returns-in-Err
returns-in-Err g c =
    same_ends c.args.text.now (ReportedButFault c.in-Some.name) _ _ _ _ (ap ending_with c.in-Some.is)
    (four _ 5 c.args.text.now (codes "shelf fault ") c.in-Some.name end_line _ _
    (cut_off_first _ _ _ _ _ _ c.in-Err.ensures.some_left c.in-Err.ensures.err.taken c.in-Err.ensures.one))
