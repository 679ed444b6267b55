-- What is written as a trace.
use Rattle.std.specs.Prelude.{ℕ, ◌==◌, ◌≤◌, Bool, true, List, [], ◌∷◌, ◌++◌, length, flat_map, zip, ⊤}
use Rattle.geo_base.specs.declared.limits.TheConstants.{MAX_REQUEST_BYTES}
use Rattle.geo_model.specs.declared.step.DeviceResult.{DeviceResult}
use Rattle.geo_model.specs.declared.step.DeviceResult.TheVariants as devices
use Rattle.geo_model.specs.declared.step.Entry.{Entry}
use Rattle.geo_model.specs.World.{Plan}
use Rattle.geo_model.specs.Report.{end_line}
use Rattle.geo_headline.specs.Traces.{Trace, steps_of, ended_script, size_line, step_line, report_mark}

-- the trace of a log with a report
abbrev pub trace_of : Plan → List (ℕ × ℕ) → List Entry → List ℕ → Trace
trace_of plan facts log report = record { plan = plan; facts = facts; steps = steps_of log; report = report }

-- an answer whose bytes are some, and no more than a request can ask for
abbrev pub IsShortAnswer : DeviceResult → Type 0
IsShortAnswer (devices.Bytes bytes) = (1 ≤ length bytes) × (length bytes ≤ MAX_REQUEST_BYTES)
IsShortAnswer _ = ⊤

-- whether the last line of a script is ended, if it has one
abbrev pub is_last_line_ended : List ℕ → Bool
is_last_line_ended [] = true
is_last_line_ended (b ∷ []) = b == 10
is_last_line_ended (b ∷ bs) = is_last_line_ended bs

-- the parts of a trace in their order, with the lines of the entries of its log
abbrev pub written_of : List ℕ → Plan → List (ℕ × ℕ) → List Entry → List ℕ → List ℕ
written_of script plan facts log report =
    ended_script script ++ flat_map size_line (zip plan.disks facts)
    ++ flat_map (λ e. step_line (e.seat, e.step)) log ++ report_mark ++ end_line ++ report
