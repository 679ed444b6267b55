-- A trace that is read and replayed.
use Rattle.std.specs.Prelude.{◌≡◌, ℕ, ◌+◌, List, [], length, Result, Ok, Err, MatchResult}
use Rattle.std.specs.List.{AllByRecursion}
use Rattle.std.proofs.Common.{refl, sym, ◌∙◌, ap, subst, rules}
use Rattle.geo_model.specs.declared.step.Step.{Step}
use Rattle.geo_model.specs.World.{Plan}
use Rattle.geo_model.specs.Log.{made}
use Rattle.geo_model.specs.Plans.{IsDiskDecl, FactsFit}
use Rattle.geo_model.specs.Script.{Fault, script, lines_of}
use Rattle.geo_headline.specs.declared.verified.Verified.{Verified}
use Rattle.geo_headline.specs.Traces.{ReadTrace, TraceFault, InScript, Reading, then_read, Sized, read_sizes, read_steps, read_behind, read_after, read_trace, told_line, script_part, marked_part, parts_of}
use Rattle.geo_headline.specs.Verifying.{found_of, found_read, verified, log_of}
use Rattle.geo_laws_traces.proofs.Lines.{some_part}
use Rattle.geo_laws_traces.proofs.Sizes.{sizes_tell}
use Rattle.geo_core.specs.Mesh.{MeshView, opened}
use Rattle.geo_verify.specs.declared.place.Place.{Place}
use Rattle.geo_verify.specs.declared.refusal.VerifyRefusal.{VerifyRefusal}
use Rattle.geo_verify.specs.declared.refusal.VerifyRefusal.TheVariants as refusals
use Rattle.geo_verify.specs.declared.replaying.Replayed.{Replayed}
use Rattle.geo_verify.specs.Forms.{IsFormFault, steps_from}
use Rattle.geo_verify.specs.Making.{MakesSteps, stop_of}
use Rattle.geo_verify.specs.Replays.{IsVerifyRefusal, Replays, IsReplayOf, ReplaysRead, trace_from, found_with}

-- Faults

-- a fault of what is read first is a fault of all
pub fault_first : {A B : Type 0} (r : Reading A) (f : A → Reading B) (refusal : VerifyRefusal) → IsFormFault r refusal
    → IsFormFault (then_read r f) refusal
fault_first r f (refusals.Script line cause) fault = fault
fault_first r f (refusals.Trace line) fault = ap (λ x. then_read x f) fault
fault_first r f refusals.NoMemory fault = tt

-- The steps

-- what is made of a mesh that begins, with the report behind the steps
pub steps_replayed : (plan : Plan) (facts : List (ℕ × ℕ)) (place : Place) (old : MeshView) (r : Replayed)
    (report : List ℕ) → old ≡ record { plan = plan; facts = facts; log = [] }
    → (items : List (ℕ × Step)) → steps_from place ≡ Ok (items, report) → r.report ≡ report
    → MakesSteps old r.mesh place r.stopped → IsReplayOf (trace_from plan facts place) r
steps_replayed plan facts place old r report began items read is makes =
    let more : List (ℕ × Step) × List ℕ = (makes.items, makes.report) in
    let same : (makes.items, makes.report) ≡ (items, report) =
    (let a = makes.read in let b = read in cc) in
    let t : ReadTrace =
    record {
      trace = record { plan = plan; facts = facts; steps = makes.items; report = makes.report };
      line = place.line;
    } in
    let begins : opened old ≡ opened (record { plan = plan; facts = facts; log = [] }) = ap opened began in (
      t,
      (
        ap (λ (x : Reading (List (ℕ × Step) × List ℕ)). then_read x (λ more.
            Ok (record {
              trace = record { plan = plan; facts = facts; steps = more.0; report = more.1 };
              line = place.line;
            })))
            makes.read,
        record {
          mesh =
              mesh_same r.mesh plan facts (log_of t.trace)
              (makes.plan ∙ ap (λ (m : MeshView). m.plan) began)
              (makes.facts ∙ ap (λ (m : MeshView). m.facts) began)
              (makes.log ∙ ap (λ w. made w makes.items) begins);
          stopped = makes.stops ∙ ap (λ w. stop_of place.line (made w makes.items) makes.items) begins;
          report = is ∙ sym (ap (λ (x : List (ℕ × Step) × List ℕ). x.1) same);
        },
      ),
    )
  where
    mesh_same : (m : MeshView) (plan : Plan) (facts : List (ℕ × ℕ)) (log : List _) → m.plan ≡ plan → m.facts ≡ facts
        → m.log ≡ log → m ≡ record { plan = plan; facts = facts; log = log }
    mesh_same m plan facts log p f l = rw (sym p, sym f, sym l) refl

-- Behind the script

-- sizes that are read fit
pub sizes_fit : (plan : Plan) (place : Place) (s : Sized) → AllByRecursion IsDiskDecl plan.disks
    → read_sizes place.line plan.disks (parts_of place.text.now) ≡ Ok s → FactsFit plan s.facts
sizes_fit plan place s decls read =
    (sizes_tell place.line plan.disks (parts_of place.text.now) s decls (some_part place.text.now) read).fit

-- what stands behind sizes is read as the rest
pub behind_is : (plan : Plan) (place steps : Place) (facts : List (ℕ × ℕ))
    → read_sizes place.line plan.disks (parts_of place.text.now)
    ≡ Ok (record { facts = facts; line = steps.line; rest = parts_of steps.text.now })
    → read_behind place.line plan (parts_of place.text.now) ≡ trace_from plan facts steps
behind_is plan place steps facts read =
    ap (λ (x : Reading Sized). then_read x (λ s.
    then_read (read_steps s.line s.rest) (λ more.
    Ok (record { trace = record { plan = plan; facts = s.facts; steps = more.0; report = more.1 }; line = s.line }))))
    read

pub as_read : (whole r : Reading ReadTrace) (result : Result Replayed VerifyRefusal) → whole ≡ r
    → ReplaysRead r result → ReplaysRead whole result
as_read whole r result is replays = subst (λ (x : Reading ReadTrace). ReplaysRead x result) (sym is) replays

-- The text

-- what is read of a text whose script is one
text_is : (text : List ℕ) (plan : Plan) → script (script_part text) ≡ Ok plan
    → read_trace text
    ≡ told_line (read_behind (1 + length (lines_of (script_part text))) plan (parts_of (marked_part text)))
unfolding read_trace
text_is text plan is = ap (read_after text) is

told_refusal : (r : Reading ReadTrace) (refusal : VerifyRefusal) → IsFormFault r refusal
    → IsVerifyRefusal (told_line r) refusal
told_refusal r (refusals.Script line cause) fault = absurd fault
told_refusal r (refusals.Trace line) fault = ap told_line fault
told_refusal r refusals.NoMemory fault = tt

pub text_replayed : (text : List ℕ) (plan : Plan) (r : Replayed) (n : ℕ) → script (script_part text) ≡ Ok plan
    → n ≡ 1 + length (lines_of (script_part text))
    → IsReplayOf (read_behind n plan (parts_of (marked_part text))) r → IsReplayOf (read_trace text) r
text_replayed text plan r n is line replays = (
  replays.0,
  (
    text_is text plan is
        ∙ ap (λ (m : ℕ). told_line (read_behind m plan (parts_of (marked_part text)))) (sym line)
        ∙ ap told_line replays.1.0,
    replays.1.1,
  ),
)

pub text_refused : (text : List ℕ) (plan : Plan) (refusal : VerifyRefusal) (n : ℕ)
    → script (script_part text) ≡ Ok plan → n ≡ 1 + length (lines_of (script_part text))
    → IsFormFault (read_behind n plan (parts_of (marked_part text))) refusal
    → IsVerifyRefusal (read_trace text) refusal
text_refused text plan refusal n is line fault =
    subst (λ (x : Result ReadTrace TraceFault). IsVerifyRefusal x refusal)
    (sym (text_is text plan is
    ∙ ap (λ (m : ℕ). told_line (read_behind m plan (parts_of (marked_part text)))) (sym line)))
    (told_refusal (read_behind n plan (parts_of (marked_part text))) refusal fault)

-- both
pub text_both : (text : List ℕ) (plan : Plan) (result : Result Replayed VerifyRefusal) (n : ℕ)
    → script (script_part text) ≡ Ok plan → n ≡ 1 + length (lines_of (script_part text))
    → ReplaysRead (read_behind n plan (parts_of (marked_part text))) result
    → MatchResult result (λ r. IsReplayOf (read_trace text) r) (IsVerifyRefusal (read_trace text))
text_both text plan (Ok r) n is line replays = text_replayed text plan r n is line replays
text_both text plan (Err refusal) n is line fault = text_refused text plan refusal n is line fault

-- a text whose script has a fault
pub text_faulty : (text : List ℕ) (fault : Fault) → script (script_part text) ≡ Err fault
    → read_trace text ≡ Err (InScript fault.line fault.cause)
unfolding read_trace
text_faulty text fault is = ap (read_after text) is

-- What is found

pub found_is : (t : ReadTrace) (r : Replayed) → Replays t r → found_with r ≡ found_of t
found_is t r replays = search rules

pub text_found : (text : List ℕ) (r : Replayed) (found : Verified) → IsReplayOf (read_trace text) r
    → found ≡ found_with r → verified text ≡ Ok found
unfolding verified
text_found text r found replays is =
    ap found_read replays.1.0 ∙ ap Ok (sym (is ∙ found_is replays.0 r replays.1.1))

-- what is refused when it is read is refused of what is found
fault_found : (read : Result ReadTrace TraceFault) (refusal : VerifyRefusal) → IsVerifyRefusal read refusal
    → IsVerifyRefusal (found_read read) refusal
fault_found read (refusals.Script line cause) fault = ap found_read fault
fault_found read (refusals.Trace line) fault = ap found_read fault
fault_found read refusals.NoMemory fault = tt

pub text_unfound : (text : List ℕ) (refusal : VerifyRefusal) → IsVerifyRefusal (read_trace text) refusal
    → IsVerifyRefusal (verified text) refusal
unfolding verified
text_unfound text refusal fault = fault_found (read_trace text) refusal fault

-- what is found of a text by what was made of it, or want of memory
pub text_judged : (text : List ℕ) (r : Replayed) (result : Result Verified VerifyRefusal)
    → IsReplayOf (read_trace text) r
    → MatchResult result (λ answer. answer ≡ found_with r) (λ refusal. refusal ≡ refusals.NoMemory)
    → MatchResult result (λ answer. verified text ≡ Ok answer) (IsVerifyRefusal (verified text))
text_judged text r (Ok answer) replays is = text_found text r answer replays is
text_judged text r (Err refusal) replays is = subst (IsVerifyRefusal (verified text)) (sym is) tt
