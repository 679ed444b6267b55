-- What is read as a trace was written as it, and fits its plan.
use Rattle.std.proofs.Common.{◌≡◌, ℕ, ◌+◌, ◌≤◌, Bool, true, false, List, [], ◌∷◌, ◌++◌, length, flat_map, All, Result, Ok, Err, refl, sym, ◌∙◌, ap, arith, subst, if◌then◌else◌, append_assoc}
use Rattle.std.specs.List.{AllByRecursion}
use Rattle.std.proofs.lemmas.List.Elements.{All-nil, All-cons, recursion_from_All}
use Rattle.std.proofs.lemmas.Slice.Eq.{bytes_eq-Decides}
use Rattle.geo_model.specs.declared.step.Step.{Step}
use Rattle.geo_model.specs.Words.{same_name}
use Rattle.geo_model.specs.World.{Plan}
use Rattle.geo_model.specs.Plans.{IsDiskDecl, FactsFit}
use Rattle.geo_model.specs.Script.{Fault, lines_of, script}
use Rattle.geo_script.proofs.PlanLaw.{scripts-are-plans}
use Rattle.geo_laws_traces.specs.TraceLaws.{AreWritable, FitsItsScript, ReadIsWritten, ReadFits}
use Rattle.geo_headline.specs.Traces.{Trace, ReadTrace, step_line, report_mark, parts_of, joined_parts, script_part, marked_part, seat_and_step, marked, Reading, then_read, line_says, read_steps, Sized, read_sizes, told_line, read_behind, read_after, read_trace, IsTrace}
use Rattle.geo_laws_traces.proofs.Lines.{some_part, joined_back, cut, marked_behind, ended_same}
use Rattle.geo_laws_traces.proofs.Steps.{IsWritableItem, IsStepLine, item_tells}
use Rattle.geo_laws_traces.proofs.Sizes.{sizes_before, AreSizes, sizes_tell, joined_more, read_tells, line_tells}
use Rattle.geo_laws_traces.proofs.Written.{steps_before, report_part, marked_text, begins_marked, text_is}

-- Steps

-- parts that are read as steps and a report are their lines
record AreSteps (parts : List (List ℕ)) (more : List (ℕ × Step) × List ℕ) : Type 0 where
  spelled : joined_parts parts ≡ steps_before more.0 (report_part more.1)
  fits : All IsWritableItem more.0

-- the report, behind its mark
report_told : (line : List ℕ) (parts : List (List ℕ)) (more : List (ℕ × Step) × List ℕ) → 1 ≤ length parts
    → same_name line report_mark ≡ true → ([], joined_parts parts) ≡ more → AreSteps (line ∷ parts) more
report_told line parts more some mark same =
    subst (λ (m : List (ℕ × Step) × List ℕ). AreSteps (line ∷ parts) m) same
    (record {
      spelled = joined_more line parts some
          ∙ ap (λ xs. xs ++ 10 ∷ joined_parts parts) ((bytes_eq-Decides line report_mark).0 mark);
      fits = All-nil IsWritableItem;
    })

-- a step, and what stands behind it
step_told : (n : ℕ) (line : List ℕ) (parts : List (List ℕ)) (more : List (ℕ × Step) × List ℕ) → 1 ≤ length parts
    → line_says n (marked seat_and_step line) (λ item.
    then_read (read_steps (n + 1) parts) (λ rest. Ok (item ∷ rest.0, rest.1))) ≡ Ok more
    → ((rest : List (ℕ × Step) × List ℕ) → read_steps (n + 1) parts ≡ Ok rest → AreSteps parts rest)
    → AreSteps (line ∷ parts) more
step_told n line parts more some e rest =
    let said = line_tells n (marked seat_and_step line) _ more e in
    let item : ℕ × Step = said.value in
    let found = read_tells (read_steps (n + 1) parts) _ more said.rest in
    let inner : AreSteps parts found.value = rest found.value found.read in
    let is : IsStepLine line item = item_tells line item said.read in
    let same : (item ∷ found.value.0, found.value.1) ≡ more = let e = found.rest in cc in
    let text : List ℕ = steps_before found.value.0 (report_part found.value.1) in
    subst (λ (m : List (ℕ × Step) × List ℕ). AreSteps (line ∷ parts) m) same
    (record {
      spelled =
          joined_more line parts some
          ∙ ap (λ xs. line ++ 10 ∷ xs) inner.spelled
          ∙ sym (append_assoc line (10 ∷ []) text)
          ∙ ap (λ xs. xs ++ text) is.spelled
          ∙ sym (append_assoc (step_line item) (flat_map step_line found.value.0) (report_part found.value.1));
      fits = All-cons IsWritableItem item found.value.0 is.fits inner.fits;
    })

steps_tell : (n : ℕ) (parts : List (List ℕ)) (more : List (ℕ × Step) × List ℕ) → read_steps n parts ≡ Ok more
    → AreSteps parts more
steps_tell n [] more e = absurd (let bad : ⊥ = cc in bad)
steps_tell n (last ∷ []) more e = absurd (let bad : ⊥ = cc in bad)
steps_tell n (line ∷ next ∷ parts) more e =
    by (same_name line report_mark) refl e (λ rest is. steps_tell (n + 1) (next ∷ parts) rest is)
  where
    by : (t : Bool) → same_name line report_mark ≡ t
        → (if t
        then Ok ([], joined_parts (next ∷ parts))
        else line_says n (marked seat_and_step line) (λ item.
        then_read (read_steps (n + 1) (next ∷ parts)) (λ rest. Ok (item ∷ rest.0, rest.1)))) ≡ Ok more
        → ((rest : List (ℕ × Step) × List ℕ) → read_steps (n + 1) (next ∷ parts) ≡ Ok rest
        → AreSteps (next ∷ parts) rest)
        → AreSteps (line ∷ next ∷ parts) more
    by true mark e rest = report_told line (next ∷ parts) more (omega arith) mark cc
    by false mark e rest = step_told n line (next ∷ parts) more (omega arith) e rest

-- Traces

-- what stands behind a script that is read as the rest of a trace
record IsBehind (plan : Plan) (parts : List (List ℕ)) (r : ReadTrace) : Type 0 where
  plan_is : r.trace.plan ≡ plan
  spelled : joined_parts parts ≡ marked_text r.trace
  fit : FactsFit r.trace.plan r.trace.facts
  fits : AreWritable r.trace.steps

behind_tells : (n : ℕ) (plan : Plan) (parts : List (List ℕ)) (r : ReadTrace) → AllByRecursion IsDiskDecl plan.disks
    → 1 ≤ length parts → read_behind n plan parts ≡ Ok r → IsBehind plan parts r
behind_tells n plan parts r decls some e =
    let first = read_tells (read_sizes n plan.disks parts) _ r e in
    let s : Sized = first.value in
    let sizes : AreSizes plan.disks parts s = sizes_tell n plan.disks parts s decls some first.read in
    let second = read_tells (read_steps s.line s.rest) _ r first.rest in
    let more : List (ℕ × Step) × List ℕ = second.value in
    let steps : AreSteps s.rest more = steps_tell s.line s.rest more second.read in
    let same : record {
      trace = record { plan = plan; facts = s.facts; steps = more.0; report = more.1 };
      line = s.line;
    } ≡ r = let e = second.rest in cc in
    subst (λ (x : ReadTrace). IsBehind plan parts x) same
    (record {
      plan_is = refl;
      spelled = sizes.spelled ∙ ap (sizes_before plan.disks s.facts) steps.spelled;
      fit = sizes.fit;
      fits = steps.fits;
    })

-- a text that is read as a trace is a script, and then what is read behind it
record IsTold (text : List ℕ) (t : Trace) : Type 0 where
  spelled : marked_part text ≡ marked_text t
  fits : FitsItsScript text t

-- a line that is told is where something was read
told_tells : {A : Type 0} (r : Reading A) (x : A) → told_line r ≡ Ok x → r ≡ Ok x
told_tells (Ok y) x e = let same : y ≡ x = cc in ap Ok same
told_tells (Err n) x e = absurd (let bad : ⊥ = cc in bad)

after_tells : (text : List ℕ) (r : ReadTrace) (read : Result Plan Fault) → script (script_part text) ≡ read
    → read_after text read ≡ Ok r → IsTold text r.trace
after_tells text r (Err fault) is e = absurd (let bad : ⊥ = cc in bad)
after_tells text r (Ok plan) is e =
    let behind =
    behind_tells (1 + length (lines_of (script_part text))) plan (parts_of (marked_part text)) r
    (recursion_from_All IsDiskDecl plan.disks (scripts-are-plans (script_part text) plan is).begins.disks)
    (some_part (marked_part text))
    (told_tells (read_behind (1 + length (lines_of (script_part text))) plan (parts_of (marked_part text))) r e) in
    record {
      spelled = sym (joined_back (marked_part text)) ∙ behind.spelled;
      fits = record { reads = is ∙ ap Ok (sym behind.plan_is); facts = behind.fit; steps = behind.fits };
    }

trace_tells : (text : List ℕ) (t : Trace) → IsTrace text t → IsTold text t
unfolding read_trace
trace_tells text t is =
    after_tells text (record { trace = t; line = is.0 }) (script (script_part text)) refl is.1

pub read_is_written : ReadIsWritten
read_is_written text t is =
    let told : IsTold text t = trace_tells text t is in
    let begins = begins_marked t in
    let marked = marked_behind true text 37 begins.rest (told.spelled ∙ begins.is) in
    cut true text
    ∙ ap (λ xs. script_part text ++ xs) told.spelled
    ∙ ap (λ xs. xs ++ marked_text t) (sym (ended_same true (script_part text) marked.begins))
    ∙ sym (text_is (script_part text) t)

pub read_fits : ReadFits
read_fits text t is = (trace_tells text t is).fits
