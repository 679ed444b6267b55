-- A report is due, or why there is none.
use Rattle.std.proofs.Common.{ap, subst, ◌≡◌, ◌∙◌}
use Rattle.geo_run.specs.declared.due.Due.{Due}
use Rattle.geo_run.specs.Stops.{IsDue, ending_by, ending_of, ending_with}
use Rattle.geo_run.proofs.Writing.{reported_ends, same_ends, stop_ends}
use Rattle.geo_run.proofs.due.write_due.Goals as goal

-- the ending is that of a report, whose text is the one that is due
pub returns-in-Report : goal.returns-in-Report
returns-in-Report g c = λ reported e.
    let due : c.in-Report.text ≡ reported = subst (λ (d : Due). IsDue d reported) c.in-Report.is e in
    same_ends _ (ending_with c.in-Report.kept) _ _ _ _ (ap ending_by c.in-Report.is)
    (reported_ends _ _ (ending_with c.in-Report.kept) _ _ _ (c.bytes.ensures ∙ due) c.write_report.ensures)

-- nothing is reported, so it ends as why there is none says
pub returns-in-Stopped : goal.returns-in-Stopped
returns-in-Stopped g c = λ reported e.
    same_ends _ (ending_of c.in-Stopped.stop) _ _ _ _ (ap ending_by c.in-Stopped.is)
    (stop_ends _ c.in-Stopped.stop _ _ _ c.write_stop.ensures)
