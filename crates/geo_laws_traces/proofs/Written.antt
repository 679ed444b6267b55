-- What is written as a trace is read as it.
use Rattle.std.proofs.Common.{◌≡◌, ℕ, ◌+◌, ◌≤◌, ◌==◌, Bool, true, false, List, [], ◌∷◌, ◌++◌, length, flat_map, fold, zip, Ok, codes, decimal, if◌then◌else◌, refl, sym, ◌∙◌, ap, arith, append_assoc}
use Rattle.std.specs.List.{AllByRecursion, AllZip, enumerate_from}
use Rattle.std.proofs.lemmas.List.Elements.{All-from_recursion, recursion_from_All}
use Rattle.std.proofs.lemmas.Slice.Eq.{bytes_eq-Decides}
use Rattle.geo_model.specs.declared.command.DiskDecl.{DiskDecl}
use Rattle.geo_model.specs.declared.step.Step.{Step}
use Rattle.geo_model.specs.Words.{same_name}
use Rattle.geo_model.specs.Report.{end_line}
use Rattle.geo_model.specs.Plans.{IsDiskDecl, IsFact}
use Rattle.geo_model.specs.Script.{lines_of, empty_plan, next_line, script, IsScript}
use Rattle.geo_script.proofs.PlanLaw.{scripts-are-plans}
use Rattle.geo_laws_traces.specs.TraceLaws.{WrittenIsRead}
use Rattle.geo_headline.specs.Outside.{is_shelf}
use Rattle.geo_headline.specs.Traces.{Trace, ended_script, step_line, size_line, report_mark, trace_text, back_from, parts_of, joined_parts, script_part, marked_part, seat_and_step, marked, then_read, read_steps, told_line, read_behind, read_after, read_trace, IsTrace}
use Rattle.geo_laws_traces.proofs.Lines.{some_part, first_part, joined_back, script_ends, ended_script_lines, mark_kept, unmarked}
use Rattle.geo_laws_traces.proofs.Words.{line_of}
use Rattle.geo_laws_traces.proofs.Steps.{item_words, line_spelled, IsWritableItem, item_back, item_unended}
use Rattle.geo_laws_traces.proofs.Sizes.{sizes_before, sizes_back}

-- Steps

-- the lines of steps before a text
abbrev pub steps_before : List (ℕ × Step) → List ℕ → List ℕ
steps_before items text = flat_map step_line items ++ text

-- the mark, and a report behind it
abbrev pub report_part : List ℕ → List ℕ
report_part report = report_mark ++ 10 ∷ report

-- one step more
step_before : (item : ℕ × Step) (items : List (ℕ × Step)) (text : List ℕ)
    → steps_before (item ∷ items) text ≡ line_of (item_words item) ++ 10 ∷ steps_before items text
step_before item items text =
    append_assoc (step_line item) (flat_map step_line items) text
    ∙ ap (λ xs. xs ++ steps_before items text) (line_spelled item)
    ∙ append_assoc (line_of (item_words item)) (10 ∷ []) (steps_before items text)

-- the mark of the report is no step
mark_is_none : (item : ℕ × Step) → marked seat_and_step report_mark ≡ Ok item → ⊥
mark_is_none item e = cc

-- a line that is a step is read as it
step_read : (n : ℕ) (line : List ℕ) (parts : List (List ℕ)) (item : ℕ × Step) → 1 ≤ length parts
    → marked seat_and_step line ≡ Ok item
    → read_steps n (line ∷ parts) ≡ then_read (read_steps (n + 1) parts) (λ more. Ok (item ∷ more.0, more.1))
step_read n line [] item some is = absurd (omega arith)
step_read n line (next ∷ parts) item some is = by (same_name line report_mark) refl
  where
    by : (t : Bool) → same_name line report_mark ≡ t
        → read_steps n (line ∷ next ∷ parts)
        ≡ then_read (read_steps (n + 1) (next ∷ parts)) (λ more. Ok (item ∷ more.0, more.1))
    by true e =
        let same : line ≡ report_mark = (bytes_eq-Decides line report_mark).0 e in
        absurd (mark_is_none item (ap (marked seat_and_step) (sym same) ∙ is))
    by false e = rw (e, is) refl

-- the report is read behind its mark
report_read : (n : ℕ) (report : List ℕ) → read_steps n (parts_of (report_part report)) ≡ Ok ([], report)
report_read n report = by (parts_of report) (some_part report) (joined_back report)
  where
    by : (parts : List (List ℕ)) → 1 ≤ length parts → joined_parts parts ≡ report
        → read_steps n (report_mark ∷ parts) ≡ Ok ([], report)
    by [] some is = absurd (omega arith)
    by (part ∷ parts) some is = ap (λ xs. Ok ([], xs)) is

-- the steps that are written are read, and the report behind them
steps_read : (n : ℕ) (items : List (ℕ × Step)) (report : List ℕ) → AllByRecursion IsWritableItem items
    → read_steps n (parts_of (steps_before items (report_part report))) ≡ Ok (items, report)
steps_read n [] report fits = report_read n report
steps_read n (item ∷ items) report fits =
    let line : List ℕ = line_of (item_words item) in
    let rest : List ℕ = steps_before items (report_part report) in
    ap (λ xs. read_steps n (parts_of xs)) (step_before item items (report_part report))
    ∙ ap (read_steps n)
    (first_part line rest (All-from_recursion (λ b. (b == 10) ≡ false) line (item_unended item fits.0)))
    ∙ step_read n line (parts_of rest) item (some_part rest) (item_back item fits.0)
    ∙ ap (λ r. then_read r (λ more. Ok (item ∷ more.0, more.1))) (steps_read (n + 1) items report fits.1)

-- The mark

-- a text begins with the mark
pub record IsMarked (text : List ℕ) : Type 0 where
  pub rest : List ℕ
  pub is : text ≡ 37 ∷ rest

-- steps before such a text do
steps_marked : (items : List (ℕ × Step)) (text : List ℕ) → IsMarked text → IsMarked (steps_before items text)
steps_marked [] text is = is
steps_marked (item ∷ items) text is = record { rest = _; is = refl }

-- so do sizes
sizes_marked : (ds : List DiskDecl) (facts : List (ℕ × ℕ)) (text : List ℕ) → IsMarked text
    → IsMarked (sizes_before ds facts text)
sizes_marked [] facts text is = is
sizes_marked (d ∷ ds) [] text is = is
sizes_marked (d ∷ ds) (fact ∷ facts) text is = by (is_shelf d.kind) (sizes_marked ds facts text is)
  where
    by : (t : Bool) → IsMarked (sizes_before ds facts text)
        → IsMarked
        ((if t then codes "% disk " ++ decimal fact.1 ++ end_line else []) ++ flat_map size_line (zip ds facts) ++ text)
    by true more = record { rest = _; is = refl }
    by false more = more

-- what stands behind the script of a trace
abbrev pub marked_text : Trace → List ℕ
marked_text t = sizes_before t.plan.disks t.facts (steps_before t.steps (report_part t.report))

pub begins_marked : (t : Trace) → IsMarked (marked_text t)
begins_marked t =
    sizes_marked t.plan.disks t.facts (steps_before t.steps (report_part t.report))
    (steps_marked t.steps (report_part t.report) (record { rest = _; is = refl }))

-- Traces

-- the text of a trace is its script and this
pub text_is : (text : List ℕ) (t : Trace) → trace_text text t ≡ ended_script text ++ marked_text t
unfolding trace_text
text_is text t =
    regroup (ended_script text) (flat_map size_line (zip t.plan.disks t.facts)) (flat_map step_line t.steps) report_mark
    (10 ∷ []) t.report
  where
    regroup : (a b c d e f : List ℕ) → a ++ b ++ c ++ d ++ e ++ f ≡ a ++ (b ++ (c ++ (d ++ (e ++ f))))
    regroup a b c d e f = simp append_assoc

-- a script with its last line ended is the same
same_script : (text : List ℕ) → script (ended_script text) ≡ script text
unfolding script
same_script text = ap (λ ls. fold next_line (Ok empty_plan) (enumerate_from 1 ls)) (ended_script_lines text)

-- what is read behind a script
behind_read : (n : ℕ) (t : Trace) → AllByRecursion IsDiskDecl t.plan.disks → AllZip IsFact t.plan.disks t.facts
    → AllByRecursion IsWritableItem t.steps
    → (line : ℕ) × (read_behind n t.plan (parts_of (marked_text t)) ≡ Ok (record { trace = t; line = line }))
behind_read n t decls fit fits =
    let steps_text : List ℕ = steps_before t.steps (report_part t.report) in
    let sizes = sizes_back n t.plan.disks t.facts steps_text decls fit in (
      sizes.line,
      ap (λ r. then_read r (λ s.
          then_read (read_steps s.line s.rest) (λ more.
          Ok (record {
            trace = record { plan = t.plan; facts = s.facts; steps = more.0; report = more.1 };
            line = s.line;
          })))) sizes.read
          ∙ ap (λ r. then_read r (λ more.
          Ok (record {
            trace = record { plan = t.plan; facts = t.facts; steps = more.0; report = more.1 };
            line = sizes.line;
          }))) (steps_read sizes.line t.steps t.report fits),
    )

-- a text of a script with its last line ended, and what stands behind it
cut_read : (front text rest : List ℕ) (t : Trace) → text ≡ front ++ 37 ∷ rest → marked_text t ≡ 37 ∷ rest
    → script_part text ≡ front → marked_part text ≡ 37 ∷ rest → IsScript front t.plan
    → AllByRecursion IsDiskDecl t.plan.disks → AllZip IsFact t.plan.disks t.facts
    → AllByRecursion IsWritableItem t.steps → IsTrace text t
unfolding read_trace
cut_read front text rest t is marked first second read decls fit fits =
    let behind = behind_read (1 + length (lines_of (script_part text))) t decls fit fits in (
      behind.0,
      ap (read_after text) (ap script first ∙ read)
          ∙ ap (λ xs. told_line (read_behind (1 + length (lines_of (script_part text))) t.plan (parts_of xs)))
          (second ∙ sym marked)
          ∙ ap told_line behind.1,
    )

pub written_is_read : WrittenIsRead
written_is_read text t is fit fits =
    let front : List ℕ = ended_script text in
    let begins = begins_marked t in
    let whole : trace_text text t ≡ front ++ 37 ∷ begins.rest = text_is text t ∙ ap (λ xs. front ++ xs) begins.is in
    let read : IsScript front t.plan = same_script text ∙ is in
    let none : back_from true front ≡ [] = unmarked front t.plan read in
    let kept = mark_kept true front begins.rest none (script_ends text) in
    let plan = scripts-are-plans text t.plan is in
    cut_read front (trace_text text t) begins.rest t whole begins.is
    (ap script_part whole ∙ kept.0) (ap marked_part whole ∙ kept.1)
    read (recursion_from_All IsDiskDecl t.plan.disks plan.begins.disks) fit
    (recursion_from_All IsWritableItem t.steps fits)
