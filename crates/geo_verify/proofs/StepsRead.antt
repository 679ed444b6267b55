-- Steps that are read one after the other.
use Rattle.std.specs.Prelude.{◌≡◌, ℕ, ◌+◌, ◌≤◌, true, false, List, [], ◌∷◌, ◌++◌, length, Result, Ok, Err, IsErr}
use Rattle.std.proofs.Common.{refl, sym, ◌∙◌, ap, arith, rules}
use Rattle.std.proofs.lemmas.List.{append_assoc}
use Rattle.geo_model.specs.declared.command.Cause.{Cause}
use Rattle.geo_model.specs.declared.step.Step.{Step}
use Rattle.geo_model.specs.Words.{same_name}
use Rattle.geo_headline.specs.Traces.{Reading, then_read, line_says, read_steps, report_mark, parts_of, joined_parts, marked, seat_and_step}
use Rattle.geo_laws_traces.proofs.Lines.{some_part, joined_back}
use Rattle.geo_verify.specs.declared.refusal.VerifyRefusal.{VerifyRefusal}
use Rattle.geo_verify.specs.declared.refusal.VerifyRefusal.TheVariants as refusals
use Rattle.geo_verify.specs.Forms.{IsFormFault, IsLeft, StepsAndReport, add_steps}

-- none before them
pub all_left : (r : Reading StepsAndReport) → IsLeft r r
all_left (Ok more) = ([], refl)
all_left (Err n) = ([], refl)

-- a line that isn't the mark
line_step : (n : ℕ) (line : List ℕ) (parts : List (List ℕ)) → 1 ≤ length parts
    → same_name line report_mark ≡ false
    → read_steps n (line ∷ parts) ≡ line_says n (marked seat_and_step line) (λ item.
    then_read (read_steps (n + 1) parts) (λ more. Ok (item ∷ more.0, more.1)))
line_step n line [] some other = absurd (omega arith)
line_step n line (next ∷ parts) some other = rw other refl

-- the line that is the mark
mark_step : (n : ℕ) (line : List ℕ) (parts : List (List ℕ)) → 1 ≤ length parts
    → same_name line report_mark ≡ true → read_steps n (line ∷ parts) ≡ Ok ([], joined_parts parts)
mark_step n line [] some mark = absurd (omega arith)
mark_step n line (next ∷ parts) some mark = rw mark refl

-- a step before others
one_before : (r : Reading StepsAndReport) (item : ℕ × Step) (done : List (ℕ × Step))
    → then_read (then_read r (λ more. Ok (item ∷ more.0, more.1))) (add_steps done)
    ≡ then_read r (add_steps (done ++ item ∷ []))
one_before (Ok more) item done =
    ap (λ (items : List (ℕ × Step)). Ok (items, more.1)) (sym (append_assoc done (item ∷ []) more.0))
one_before (Err n) item done = refl

-- the line of a step is read: the rest is left
pub line_read : (n : ℕ) (text line behind : List ℕ) (item : ℕ × Step)
    → parts_of text ≡ line ∷ parts_of behind → same_name line report_mark ≡ false
    → marked seat_and_step line ≡ Ok item
    → read_steps n (parts_of text)
    ≡ then_read (read_steps (n + 1) (parts_of behind)) (λ more. Ok (item ∷ more.0, more.1))
line_read n text line behind item parts other is =
    ap (read_steps n) parts
    ∙ line_step n line (parts_of behind) (some_part behind) other
    ∙ ap (λ (said : Result (ℕ × Step) Cause). line_says n said (λ item.
    then_read (read_steps (n + 1) (parts_of behind)) (λ more. Ok (item ∷ more.0, more.1)))) is

pub left_behind : (whole : Reading StepsAndReport) (n : ℕ) (text line behind : List ℕ) (item : ℕ × Step)
    → IsLeft whole (read_steps n (parts_of text)) → parts_of text ≡ line ∷ parts_of behind
    → same_name line report_mark ≡ false → marked seat_and_step line ≡ Ok item
    → IsLeft whole (read_steps (n + 1) (parts_of behind))
left_behind whole n text line behind item left parts other is = (
  left.0 ++ item ∷ [],
  left.1
      ∙ ap (λ (r : Reading StepsAndReport). then_read r (add_steps left.0))
      (line_read n text line behind item parts other is)
      ∙ one_before (read_steps (n + 1) (parts_of behind)) item left.0,
)

-- the line that is the mark: the report stands behind it
pub mark_read : (n : ℕ) (text line behind : List ℕ) → parts_of text ≡ line ∷ parts_of behind
    → same_name line report_mark ≡ true → read_steps n (parts_of text) ≡ Ok ([], behind)
mark_read n text line behind parts mark =
    ap (read_steps n) parts ∙ mark_step n line (parts_of behind) (some_part behind) mark
    ∙ ap (λ (report : List ℕ). Ok ([], report)) (joined_back behind)

pub report_behind : (whole : Reading StepsAndReport) (n : ℕ) (text line behind : List ℕ)
    → IsLeft whole (read_steps n (parts_of text)) → parts_of text ≡ line ∷ parts_of behind
    → same_name line report_mark ≡ true → (items : List (ℕ × Step)) × (whole ≡ Ok (items, behind))
report_behind whole n text line behind left parts mark = search (rules, mark_read n text line behind parts mark)

-- a fault behind some steps is a fault of all
fault_of_line : (n : ℕ) (said : Result (ℕ × Step) Cause) (next : ℕ × Step → Reading StepsAndReport) → IsErr said
    → line_says n said next ≡ Err n
fault_of_line n (Ok item) next is = absurd (let bad : ⊥ = cc in bad)
fault_of_line n (Err cause) next is = refl

pub fault_behind : (whole : Reading StepsAndReport) (n : ℕ) (text line behind : List ℕ)
    → IsLeft whole (read_steps n (parts_of text)) → parts_of text ≡ line ∷ parts_of behind
    → same_name line report_mark ≡ false → IsErr (marked seat_and_step line) → whole ≡ Err n
fault_behind whole n text line behind left parts other is = search rules

-- and so is a line that isn't ended
pub last_fault : (whole : Reading StepsAndReport) (n : ℕ) (text : List ℕ) → IsLeft whole (read_steps n (parts_of text))
    → parts_of text ≡ text ∷ [] → whole ≡ Err n
last_fault whole n text left parts = search rules

-- what is left is a fault, and so is all
pub fault_left : (whole r : Reading StepsAndReport) (refusal : VerifyRefusal) → IsLeft whole r → IsFormFault r refusal
    → IsFormFault whole refusal
fault_left whole r (refusals.Script line cause) left fault = fault
fault_left whole r (refusals.Trace line) left fault =
    left.1 ∙ ap (λ (x : Reading StepsAndReport). then_read x (add_steps left.0)) fault
fault_left whole r refusals.NoMemory left fault = tt

-- what is left is of the form, and so is all
pub form_left : (whole r : Reading StepsAndReport) (items : List (ℕ × Step)) (report : List ℕ) → (left : IsLeft whole r)
    → r ≡ Ok (items, report) → whole ≡ Ok (left.0 ++ items, report)
form_left whole r items report left is =
    left.1 ∙ ap (λ (x : Reading StepsAndReport). then_read x (add_steps left.0)) is
