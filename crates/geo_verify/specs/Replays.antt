-- What is found where the steps of a trace are made again.
use Rattle.std.specs.Prelude.{◌≡◌, ℕ, List, not, Result, Ok, Err, MatchResult, bytes_eq, if◌then◌else◌}
use Rattle.geo_model.specs.World.{Plan}
use Rattle.geo_model.specs.Order.{is_at_rest}
use Rattle.geo_model.specs.Report.{report}
use Rattle.geo_headline.specs.declared.verified.Verified.{Verified}
use Rattle.geo_headline.specs.declared.verified.Verified.TheVariants as found
use Rattle.geo_headline.specs.Traces.{Trace, ReadTrace, TraceFault, InScript, InTrace, Reading, then_read}
use Rattle.geo_headline.specs.Verifying.{log_of, stopped_at, found_unless}
use Rattle.geo_core.specs.Mesh.{MeshView, opened, world_of}
use Rattle.geo_verify.specs.declared.place.Place.{Place}
use Rattle.geo_verify.specs.declared.refusal.VerifyRefusal.{VerifyRefusal}
use Rattle.geo_verify.specs.declared.refusal.VerifyRefusal.TheVariants as refusals
use Rattle.geo_verify.specs.declared.replaying.Replayed.{Replayed}
use Rattle.geo_verify.specs.Forms.{IsFormFault, steps_from}

-- a refusal names the first fault of what is read or found of a text, unless memory ran out
abbrev pub IsVerifyRefusal : {A : Type 0} → Result A TraceFault → VerifyRefusal → Type 0
IsVerifyRefusal read (refusals.Script line cause) = read ≡ Err (InScript line cause)
IsVerifyRefusal read (refusals.Trace line) = read ≡ Err (InTrace line)
IsVerifyRefusal read refusals.NoMemory = Unit {0}

-- the mesh of a trace whose steps were made
abbrev pub replayed_mesh : Trace → MeshView
replayed_mesh t = record { plan = t.plan; facts = t.facts; log = log_of t }

-- the steps of a trace were made, up to the first that isn't enabled
pub record Replays (t : ReadTrace) (r : Replayed) : Type 0 where
  pub mesh : r.mesh ≡ replayed_mesh t.trace
  pub stopped : r.stopped ≡ stopped_at t.line t.trace
  pub report : r.report ≡ t.trace.report

-- the same of what is read
abbrev pub IsReplayOf : {F : Type 0} → Result ReadTrace F → Replayed → Type 0
IsReplayOf read r = (t : ReadTrace) × ((read ≡ Ok t) × Replays t r)

abbrev pub ReplaysRead : Reading ReadTrace → Result Replayed VerifyRefusal → Type 0
ReplaysRead read result = MatchResult result (λ r. IsReplayOf read r) (IsFormFault read)

-- the trace of a plan with sizes, whose steps stand from a place on
abbrev pub trace_from : Plan → List (ℕ × ℕ) → Place → Reading ReadTrace
trace_from plan facts place =
    then_read (steps_from place) (λ more.
    Ok (record { trace = record { plan = plan; facts = facts; steps = more.0; report = more.1 }; line = place.line }))

-- what is found of a mesh, with the report that it should have
abbrev pub found_from : MeshView → List ℕ → Verified
found_from m expected =
    if not (is_at_rest (world_of m))
    then found.NotAtRest
    else if bytes_eq (report m.plan (opened m) m.log) expected then found.Yes else found.OtherReport

-- the same where steps may have stopped
abbrev pub found_with : Replayed → Verified
found_with r = found_unless r.stopped (found_from r.mesh r.report)
