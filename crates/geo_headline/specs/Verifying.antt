-- What is found of a trace: whether its steps can be made, end at rest, and give its report.
use Rattle.std.specs.Prelude.{◌≡◌, ℕ, ◌+◌, nat_lt, not, List, length, bytes_eq, Option, Some, None, Result, Ok, Err, if◌then◌else◌}
use Rattle.geo_model.specs.declared.step.Entry.{Entry}
use Rattle.geo_model.specs.declared.step.Step.{Step}
use Rattle.geo_model.specs.World.{World}
use Rattle.geo_model.specs.Opening.{opening}
use Rattle.geo_model.specs.Log.{made, replay, Legal}
use Rattle.geo_model.specs.Order.{Rest, is_at_rest}
use Rattle.geo_model.specs.Report.{report}
use Rattle.geo_headline.specs.declared.verified.Verified.{Verified}
use Rattle.geo_headline.specs.declared.verified.Verified.TheVariants as found
use Rattle.geo_headline.specs.Traces.{Trace, ReadTrace, TraceFault, read_trace, steps_of}

-- the opening of a trace, and the log that its steps make
abbrev pub opened_of : Trace → World
opened_of t = opening t.plan t.facts

abbrev pub log_of : Trace → List Entry
log_of t = made (opened_of t) t.steps

-- the line of the first step that isn't enabled, where there is one
abbrev pub stopped_at : ℕ → Trace → Option ℕ
stopped_at line t =
    if nat_lt (length (log_of t)) (length t.steps) then Some (line + length (log_of t)) else None

-- of a log that has all steps
abbrev pub found_of_log : Trace → List Entry → Verified
found_of_log t log =
    if not (is_at_rest (replay (opened_of t) log))
    then found.NotAtRest
    else if bytes_eq (report t.plan (opened_of t) log) t.report then found.Yes else found.OtherReport

abbrev pub found_unless : Option ℕ → Verified → Verified
found_unless None answer = answer
found_unless (Some line) answer = found.NotEnabled line

-- what is found of a trace whose steps begin at a line
abbrev pub found_of : ReadTrace → Verified
found_of r = found_unless (stopped_at r.line r.trace) (found_of_log r.trace (log_of r.trace))

abbrev pub found_read : Result ReadTrace TraceFault → Result Verified TraceFault
found_read (Ok r) = Ok (found_of r)
found_read (Err fault) = Err fault

-- the answer of a text, or its first fault
unfoldable pub verified : List ℕ → Result Verified TraceFault
verified text = found_read (read_trace text)

-- Laws

-- the steps of a legal log make the log again: who made which steps determines the outcomes
abbrev pub MadeAgain : Type 0
MadeAgain = (w : World) (log : List Entry) → Legal w log → made w (steps_of log) ≡ log

-- and what steps make is legal
abbrev pub MadeIsLegal : Type 0
MadeIsLegal = (w : World) (items : List (ℕ × Step)) → Legal w (made w items)

-- Yes is said exactly where the steps make a whole log that ends at rest, and its report is the trace's
pub record IsVerified (t : Trace) : Type 0 where
  pub whole : length (log_of t) ≡ length t.steps
  pub rest : Rest (replay (opened_of t) (log_of t))
  pub same : report t.plan (opened_of t) (log_of t) ≡ t.report
