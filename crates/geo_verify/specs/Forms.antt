-- What the readers of lines give beside their definitions.
use Rattle.std.specs.Prelude.{◌≡◌, ℕ, ◌+◌, ◌≤◌, ◌∷◌, ◌++◌, List, Result, Ok, Err, length, MatchResult, IsErr}
use Rattle.geo_model.specs.declared.command.DiskDecl.{DiskDecl}
use Rattle.geo_model.specs.declared.step.Step.{Step}
use Rattle.geo_headline.specs.Traces.{parts_of, Reading, then_read, Sized, add_fact, read_sizes, read_steps, marked, seat_and_step}
use Rattle.geo_verify.specs.declared.place.Place.{Place}
use Rattle.geo_verify.specs.declared.refusal.VerifyRefusal.{VerifyRefusal}
use Rattle.geo_verify.specs.declared.refusal.VerifyRefusal.TheVariants as refusals

-- a refusal names the line that isn't of the form, unless memory ran out
abbrev pub IsFormFault : {A : Type 0} → Reading A → VerifyRefusal → Type 0
IsFormFault read (refusals.Script line cause) = ⊥
IsFormFault read (refusals.Trace line) = read ≡ Err line
IsFormFault read refusals.NoMemory = Unit {0}

-- the sizes of disks from a place on
abbrev pub sizes_from : Place → List DiskDecl → Reading Sized
sizes_from place disks = read_sizes place.line disks (parts_of place.text.now)

-- the sectors of a disk, and the place from which those of the further disks are read
abbrev pub ReadsSize : Result (ℕ × Place) VerifyRefusal → DiskDecl → Place → Type 0
ReadsSize result d place =
    MatchResult result
    (λ x. (ds : List DiskDecl)
    → sizes_from place (d ∷ ds) ≡ then_read (sizes_from x.1 ds) (add_fact (d.sector, x.0)))
    (λ refusal. (ds : List DiskDecl) → IsFormFault (sizes_from place (d ∷ ds)) refusal)

-- no more lines begin from one place on than from another, so that the numbers of all of them are small
abbrev pub IsBehind : Place → Place → Type 0
IsBehind place before = place.line + length place.text.now ≤ before.line + length before.text.now

-- the steps and the report from a place on
abbrev pub steps_from : Place → Reading (List (ℕ × Step) × List ℕ)
steps_from place = read_steps place.line (parts_of place.text.now)

-- some steps are read from a place on, and this report
abbrev pub IsOfForm : Place → List ℕ → Type 0
IsOfForm place report = (items : List (ℕ × Step)) × (steps_from place ≡ Ok (items, report))

-- steps before others that are read
abbrev pub StepsAndReport : Type 0
StepsAndReport = List (ℕ × Step) × List ℕ

abbrev pub add_steps : List (ℕ × Step) → StepsAndReport → Reading StepsAndReport
add_steps done more = Ok (done ++ more.0, more.1)

-- what is read is what is left to read, behind some steps
abbrev pub IsLeft : Reading StepsAndReport → Reading StepsAndReport → Type 0
IsLeft whole r = (done : List (ℕ × Step)) × (whole ≡ then_read r (add_steps done))

-- the line of a number isn't that of a step, unless memory ran out
abbrev pub IsLineFault : ℕ → List ℕ → VerifyRefusal → Type 0
IsLineFault number line (refusals.Script n cause) = ⊥
IsLineFault number line (refusals.Trace n) = (n ≡ number) × IsErr (marked seat_and_step line)
IsLineFault number line refusals.NoMemory = Unit {0}

-- the step of a line, or that it isn't of the form
abbrev pub ReadsStep : Result (ℕ × Step) VerifyRefusal → ℕ → List ℕ → Type 0
ReadsStep result number line =
    MatchResult result (λ item. marked seat_and_step line ≡ Ok item) (IsLineFault number line)

-- whether the line is that of a step, or that it isn't
abbrev pub JudgesStep : Result (Unit {0}) VerifyRefusal → ℕ → List ℕ → Type 0
JudgesStep result number line =
    MatchResult result (λ done. (item : ℕ × Step) × (marked seat_and_step line ≡ Ok item)) (IsLineFault number line)
