-- Steps that are made one after the other.
use Rattle.std.specs.Prelude.{◌≡◌, ℕ, ◌+◌, ◌≤◌, nat_lt, true, false, List, [], ◌∷◌, ◌++◌, length, Some, None, Result, Ok, Err, IsErr, IsTrue}
use Rattle.std.proofs.Common.{refl, sym, ◌∙◌, ap, arith, subst, rules}
use Rattle.std.proofs.lemmas.Bool.{le-ltb}
use Rattle.std.proofs.lemmas.List.{append_assoc, append-nil, length-append}
use Rattle.geo_base.specs.declared.limits.TheConstants.{MAX_LOG_ENTRIES, MAX_TRACE_BYTES}
use Rattle.geo_model.specs.declared.step.Entry.{Entry}
use Rattle.geo_model.specs.declared.step.Outcome.{Outcome}
use Rattle.geo_model.specs.declared.step.Step.{Step}
use Rattle.geo_model.specs.Words.{same_name}
use Rattle.geo_model.specs.World.{World}
use Rattle.geo_model.specs.Log.{made, entry_by, world_after, owed, is_full, is_full_after}
use Rattle.geo_model.specs.Step.{Answer, step}
use Rattle.geo_model.specs.Fitting.{Firm}
use Rattle.geo_laws_traces.proofs.Owes.{firm_after, owes_one_more, owes_few}
use Rattle.geo_headline.specs.Traces.{read_steps, report_mark, parts_of, marked, seat_and_step, then_read}
use Rattle.geo_core.specs.Mesh.{MeshView, opened, world_of, IsHistory, Advances, entry_of}
use Rattle.geo_core.specs.declared.refusal.ApplyRefusal.{ApplyRefusal}
use Rattle.geo_core.specs.declared.refusal.ApplyRefusal.TheVariants as refusals
use Rattle.geo_verify.specs.declared.place.Place.{Place}
use Rattle.geo_verify.specs.Forms.{StepsAndReport, steps_from}
use Rattle.geo_verify.specs.Making.{MakesSteps, TriesLine}
use Rattle.geo_verify.proofs.StepsRead.{line_read}

-- a log of few entries has a place for each step
room_by : (n : ℕ) (w : World) (a : Answer) → n + 1 + owed (world_after w a) ≤ MAX_LOG_ENTRIES
    → is_full_after n a ≡ false
room_by n w (Ok m) fits = le-ltb MAX_LOG_ENTRIES (n + 1 + owed m.0) fits
room_by n w (Err found) fits = refl

pub never_full : (m : MeshView) (seat : ℕ) (s : Step) → IsHistory m → length m.log ≤ MAX_TRACE_BYTES + 1
    → is_full m.log (world_of m) seat s ≡ false
unfolding is_full
never_full m seat s history few =
    let w : World = world_of m in
    let firm : Firm w = firm_after m.plan m.facts history.plan.begins history.facts m.log in
    let all : owed w ≤ length m.log =
    owes_few m.plan m.facts history.plan.begins history.facts m.log history.lawful.0 in
    let one : owed (world_after w (step w seat s)) ≤ owed w + 1 = owes_one_more w seat s firm in
    room_by (length m.log) w (step w seat s) (omega (arith, few, all, one))

-- so no step of it is refused for want of one
pub full_never : (result : Result (Unit {0}) ApplyRefusal) (old new : MeshView) (seat : ℕ) (s : Step) → IsHistory old
    → length old.log ≤ MAX_TRACE_BYTES + 1 → result ≡ Err refusals.LogFull → Advances result old new seat s → ⊥
full_never result old new seat s history few is advances =
    let refuses : IsTrue (is_full old.log (world_of old) seat s) × (new ≡ old) =
    subst (λ (x : Result (Unit {0}) ApplyRefusal). Advances x old new seat s) is advances in
    let full : is_full old.log (world_of old) seat s ≡ true = refuses.0 in
    let room = never_full old seat s history few in
    let bad : true ≡ false = sym full ∙ room in
    absurd (let none : ⊥ = cc in none)

-- where a mesh stands that has made some of the steps of a trace, and what is left of them
pub record Going (old now : MeshView) (start : Place) (number : ℕ) (rest : List ℕ) : Type 0 where
  pub plan : now.plan ≡ old.plan
  pub facts : now.facts ≡ old.facts
  pub items : List (ℕ × Step)
  pub left : List (ℕ × Step)
  pub report : List ℕ
  pub read : steps_from start ≡ Ok (items, report)
  pub reads : read_steps number (parts_of rest) ≡ Ok (left, report)
  pub makes : made (opened old) items ≡ now.log ++ made (world_of now) left
  pub long : length items ≡ length now.log + length left
  pub line : number ≡ start.line + length now.log

-- none yet
pub begins : (old : MeshView) (start : Place) (report : List ℕ) (items : List (ℕ × Step)) → old.log ≡ []
    → steps_from start ≡ Ok (items, report) → Going old old start start.line start.text.now
begins old start report items empty read = record {
  plan = refl;
  facts = refl;
  items = items;
  left = items;
  report = report;
  read = read;
  reads = read;
  makes = rw empty refl;
  long = rw empty (omega arith);
  line = rw empty (omega arith);
}

-- the steps that are read, and the report
abbrev left_of : Result StepsAndReport ℕ → List (ℕ × Step)
left_of (Ok more) = more.0
left_of (Err n) = []

abbrev report_of : Result StepsAndReport ℕ → List ℕ
report_of (Ok more) = more.1
report_of (Err n) = []

-- behind the mark no step is left
no_more : (left : List (ℕ × Step)) (report behind : List ℕ) (r : Result StepsAndReport ℕ) → r ≡ Ok (left, report)
    → r ≡ Ok ([], behind) → left ≡ []
no_more left report behind r is mark = ap left_of (sym is ∙ mark)

pub ends : (old now : MeshView) (start : Place) (number : ℕ) (text line behind : List ℕ)
    → Going old now start number text → parts_of text ≡ line ∷ parts_of behind → same_name line report_mark ≡ true
    → MakesSteps old now start None
ends old now start number text line behind going parts mark =
    let none : going.left ≡ [] =
    search rules in
    let log : made (opened old) going.items ≡ now.log =
    going.makes ∙ ap (λ (l : List (ℕ × Step)). now.log ++ made (world_of now) l) none ∙ append-nil now.log in
    let long : length going.items ≡ length (made (opened old) going.items) =
    going.long ∙ ap (λ (l : List (ℕ × Step)). length now.log + length l) none
    ∙ (let same : length now.log + 0 ≡ length now.log = omega arith in same) ∙ ap length (sym log) in
    record {
      plan = going.plan;
      facts = going.facts;
      items = going.items;
      report = going.report;
      read = going.read;
      log = sym log;
      stops =
          let all : nat_lt (length (made (opened old) going.items)) (length going.items) ≡ false =
          le-ltb (length (made (opened old) going.items)) (length going.items) (omega (arith, long)) in
          rw all refl;
    }

-- the step of the next line is the first that is left
record IsNext (left : List (ℕ × Step)) (report : List ℕ) (item : ℕ × Step)
    (rest : Result StepsAndReport ℕ) : Type 0 where
  further : List (ℕ × Step)
  left_is : left ≡ item ∷ further
  reads : rest ≡ Ok (further, report)

next_is : (left : List (ℕ × Step)) (report : List ℕ) (item : ℕ × Step) (rest : Result StepsAndReport ℕ)
    → then_read {A = StepsAndReport} {B = StepsAndReport} rest (λ more. Ok (item ∷ more.0, more.1)) ≡ Ok (left, report)
    → IsNext left report item rest
next_is left report item (Ok more) is = search rules
next_is left report item (Err n) is = absurd (let bad : ⊥ = cc in bad)

next_step : (old now : MeshView) (start : Place) (number : ℕ) (text line behind : List ℕ) (item : ℕ × Step)
    → (going : Going old now start number text) → parts_of text ≡ line ∷ parts_of behind
    → same_name line report_mark ≡ false → marked seat_and_step line ≡ Ok item
    → IsNext going.left going.report item (read_steps (number + 1) (parts_of behind))
next_step old now start number text line behind item going parts other is =
    next_is going.left going.report item (read_steps (number + 1) (parts_of behind))
    (sym (line_read number text line behind item parts other is) ∙ going.reads)

-- what a step that isn't enabled makes
none_made : (item : ℕ × Step) (a : Answer) (log : List Entry) → IsErr a → entry_by item a log ≡ []
none_made item (Ok m) log is = absurd (let bad : ⊥ = cc in bad)
none_made item (Err found) log is = refl

pub stops : (old now new : MeshView) (start : Place) (number : ℕ) (text line behind : List ℕ)
    → Going old now start number text → parts_of text ≡ line ∷ parts_of behind → same_name line report_mark ≡ false
    → TriesLine false now new line → MakesSteps old new start (Some number)
stops old now new start number text line behind going parts other tries = search rules

-- a step was made
entry_made : (item : ℕ × Step) (a : Answer) (w : World) (outcome : Outcome) (log : List Entry) → a ≡ Ok (w, outcome)
    → entry_by item a log ≡ entry_of item.0 item.1 outcome ∷ log
entry_made item a w outcome log is = rw is refl

pub goes_on : (old now new : MeshView) (start : Place) (number : ℕ) (text line behind : List ℕ)
    → Going old now start number text → parts_of text ≡ line ∷ parts_of behind → same_name line report_mark ≡ false
    → TriesLine true now new line → Going old new start (number + 1) behind
goes_on old now new start number text line behind going parts other tries =
    let item : ℕ × Step = tries.0 in
    search (
      rules,
      next_step old now start number text line behind item going parts other tries.1.0,
      length-append now.log,
      append_assoc now.log,
    )

-- the log has its entry
pub log_longer : (now new : MeshView) (line : List ℕ) → TriesLine true now new line
    → length new.log ≡ length now.log + 1
log_longer now new line tries = search (rules, length-append now.log)
