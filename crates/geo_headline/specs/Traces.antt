-- The grammar of traces: a script, the sizes of its disks of the shelf, the steps of each entry of a log, and a report.
use Rattle.std.specs.Prelude.{◌≡◌, ℕ, ◌+◌, ◌*◌, ◌^◌, ◌==◌, nat_lt, nat_le, Bool, true, ◌&&◌, List, [], ◌∷◌, ◌++◌, length, map, flat_map, zip, Result, Ok, Err, codes, decimal, if◌then◌else◌}
use Rattle.std.specs.List.{slice_split}
use Rattle.geo_base.specs.Runs.{runs_text}
use Rattle.geo_base.specs.declared.limits.TheConstants.{MAX_IMAGE_BYTES}
use Rattle.geo_model.specs.declared.command.Cause.{Cause}
use Rattle.geo_model.specs.declared.command.DiskDecl.{DiskDecl}
use Rattle.geo_model.specs.declared.step.DeviceResult.{DeviceResult}
use Rattle.geo_model.specs.declared.step.DeviceResult.TheVariants as devices
use Rattle.geo_model.specs.declared.step.Entry.{Entry}
use Rattle.geo_model.specs.declared.step.Step.{Step}
use Rattle.geo_model.specs.declared.step.Step.TheVariants as steps
use Rattle.geo_model.specs.Words.{same_name}
use Rattle.geo_model.specs.Report.{end_line}
use Rattle.geo_model.specs.World.{Plan}
use Rattle.geo_headline.specs.Outside.{is_shelf}
use Rattle.geo_model.specs.Script.{◌>>=◌, Words, any_number, ranged, runs_words, at_end, by_word, words_of, lines_of, script, Fault}

-- What a trace stands for

-- a plan, the sizes of its disks, who made which steps, and what was reported
pub record Trace : Type 0 where
  pub plan : Plan
  pub facts : List (ℕ × ℕ)
  pub steps : List (ℕ × Step)
  pub report : List ℕ

-- Written

-- a device's answer
abbrev pub answer_text : DeviceResult → List ℕ
answer_text devices.Done = codes "done"
answer_text (devices.Failed done) = codes "failed " ++ decimal done
answer_text (devices.Bytes bytes) = codes "bytes " ++ runs_text bytes

abbrev pub step_text : Step → List ℕ
step_text (steps.Go actor) = codes "go " ++ decimal actor
step_text steps.Event = codes "event"
step_text steps.Judge = codes "judge"
step_text steps.Reap = codes "reap"
step_text steps.Wash = codes "wash"
step_text (steps.Start b) = codes "start " ++ decimal b
step_text (steps.Take disk b) = codes "take " ++ decimal disk ++ codes " " ++ decimal b
step_text (steps.Deliver b got) = codes "deliver " ++ decimal b ++ codes " " ++ answer_text got
step_text (steps.Up b) = codes "up " ++ decimal b

-- the line of an entry: its seat and its step
abbrev pub step_line : ℕ × Step → List ℕ
step_line item = codes "% " ++ decimal item.0 ++ codes " " ++ step_text item.1 ++ end_line

-- the line of a disk of the shelf, with its sectors; a memory disk has none
abbrev pub size_line : DiskDecl × (ℕ × ℕ) → List ℕ
size_line item = if is_shelf item.0.kind then codes "% disk " ++ decimal item.1.1 ++ end_line else []

abbrev pub report_mark : List ℕ
report_mark = codes "% report"

-- a script with its last line ended
abbrev pub ended_script : List ℕ → List ℕ
ended_script [] = []
ended_script (b ∷ []) = if b == 10 then b ∷ [] else b ∷ end_line
ended_script (b ∷ bs) = b ∷ ended_script bs

-- who made the steps of a log
abbrev pub steps_of : List Entry → List (ℕ × Step)
steps_of log = map (λ e. (e.seat, e.step)) log

-- the text of a trace whose script is this one
unfoldable pub trace_text : List ℕ → Trace → List ℕ
trace_text script t =
    ended_script script ++ flat_map size_line (zip t.plan.disks t.facts) ++ flat_map step_line t.steps
    ++ report_mark ++ end_line ++ t.report

-- Read

-- the text before the first line that begins with `%`, and the text from there on; the flag tells that a line begins
abbrev pub front_from : Bool → List ℕ → List ℕ
front_from start [] = []
front_from start (b ∷ bs) = if start && (b == 37) then [] else b ∷ front_from (b == 10) bs

abbrev pub back_from : Bool → List ℕ → List ℕ
back_from start [] = []
back_from start (b ∷ bs) = if start && (b == 37) then b ∷ bs else back_from (b == 10) bs

-- the script of a trace, and what follows it
abbrev pub script_part : List ℕ → List ℕ
script_part text = front_from true text

abbrev pub marked_part : List ℕ → List ℕ
marked_part text = back_from true text

-- what the lines of a trace are in parts: between line feeds; the last part isn't ended
abbrev pub parts_of : List ℕ → List (List ℕ)
parts_of text = slice_split (λ b. b == 10) text

-- parts with their line feeds between them again
abbrev pub joined_parts : List (List ℕ) → List ℕ
joined_parts [] = []
joined_parts (part ∷ []) = part
joined_parts (part ∷ parts) = part ++ 10 ∷ joined_parts parts

-- a number below 2 ^ 32
abbrev pub small_number : Words → Result (ℕ × Words) Cause
small_number words = ranged (λ n. nat_lt n (2 ^ 32)) words

-- a step that names an actor, a bio, a disk and a bio
abbrev pub go_words : Words → Result Step Cause
go_words ws = do
  a ← small_number ws
  at_end (steps.Go a.0) a.1

abbrev pub bio_words : (ℕ → Step) → Words → Result Step Cause
bio_words make ws = do
  b ← any_number ws
  at_end (make b.0) b.1

abbrev pub take_words : Words → Result Step Cause
take_words ws = do
  d ← small_number ws
  b ← any_number d.1
  at_end (steps.Take d.0 b.0) b.1

-- a device's answer
abbrev pub failed_words : Words → Result DeviceResult Cause
failed_words ws = do
  n ← small_number ws
  at_end (devices.Failed n.0) n.1

abbrev pub bytes_words : Words → Result DeviceResult Cause
bytes_words ws = do
  bytes ← runs_words ws
  at_end (devices.Bytes bytes.0) bytes.1

abbrev pub answer_table : List (List ℕ × (Words → Result DeviceResult Cause))
answer_table =
    (codes "done", λ ws. at_end devices.Done ws)
    ∷ (codes "failed", failed_words)
    ∷ (codes "bytes", bytes_words)
    ∷ []

abbrev pub deliver_words : Words → Result Step Cause
deliver_words ws = do
  b ← any_number ws
  got ← by_word answer_table b.1
  Ok (steps.Deliver b.0 got)

abbrev pub step_table : List (List ℕ × (Words → Result Step Cause))
step_table =
    (codes "go", go_words)
    ∷ (codes "event", λ ws. at_end steps.Event ws)
    ∷ (codes "judge", λ ws. at_end steps.Judge ws)
    ∷ (codes "reap", λ ws. at_end steps.Reap ws)
    ∷ (codes "wash", λ ws. at_end steps.Wash ws)
    ∷ (codes "start", λ ws. bio_words (λ b. steps.Start b) ws)
    ∷ (codes "take", take_words)
    ∷ (codes "deliver", deliver_words)
    ∷ (codes "up", λ ws. bio_words (λ b. steps.Up b) ws)
    ∷ []

abbrev pub seat_and_step : Words → Result (ℕ × Step) Cause
seat_and_step ws = do
  seat ← small_number ws
  s ← by_word step_table seat.1
  Ok (seat.0, s)

-- the words behind the mark of a line
abbrev pub marked : {A : Type 0} → (Words → Result A Cause) → List ℕ → Result A Cause
marked read line = by_word ((codes "%", read) ∷ []) (words_of line)

-- the sectors of a disk of the shelf: 1 or more, and no more bytes than MAX_IMAGE_BYTES
abbrev pub size_words : ℕ → Words → Result ℕ Cause
size_words sector ws = do
  n ← ranged (λ n. nat_le 1 n && nat_le (n * sector) MAX_IMAGE_BYTES) ws
  at_end n.0 n.1

abbrev pub size_of_line : ℕ → List ℕ → Result ℕ Cause
size_of_line sector line = marked (by_word ((codes "disk", size_words sector) ∷ [])) line

-- what stands at a place, or the number of the line that isn't of the form
abbrev pub Reading : Type 0 → Type 0
Reading A = Result A ℕ

abbrev pub then_read : {A B : Type 0} → Reading A → (A → Reading B) → Reading B
then_read (Ok x) f = f x
then_read (Err n) f = Err n

-- what a line says, where it is of its form
abbrev pub line_says : {A B : Type 0} → ℕ → Result A Cause → (A → Reading B) → Reading B
line_says n (Ok x) f = f x
line_says n (Err cause) f = Err n

-- the steps, and the report behind them; the last part of all has no line feed behind it
abbrev pub read_steps : ℕ → List (List ℕ) → Reading (List (ℕ × Step) × List ℕ)
read_steps n [] = Err n
read_steps n (last ∷ []) = Err n
read_steps n (line ∷ rest) =
    if same_name line report_mark
    then Ok ([], joined_parts rest)
    else line_says n (marked seat_and_step line) (λ item.
    then_read (read_steps (n + 1) rest) (λ more. Ok (item ∷ more.0, more.1)))

-- what stands behind the sizes, with the line at which it begins
pub record Sized : Type 0 where
  pub facts : List (ℕ × ℕ)
  pub line : ℕ
  pub rest : List (List ℕ)

abbrev pub add_fact : ℕ × ℕ → Sized → Reading Sized
add_fact fact s = Ok (record s { facts = fact ∷ s.facts })

-- the sizes of the disks in header order: a memory disk has that of the plan, for one of the shelf a line gives it
abbrev pub read_sizes : ℕ → List DiskDecl → List (List ℕ) → Reading Sized
read_sizes n [] parts = Ok (record { facts = []; line = n; rest = parts })
read_sizes n (d ∷ ds) [] = Err n
read_sizes n (d ∷ ds) (last ∷ []) =
    if is_shelf d.kind then Err n else then_read (read_sizes n ds (last ∷ [])) (add_fact (d.sector, d.sectors))
read_sizes n (d ∷ ds) (line ∷ rest) =
    if is_shelf d.kind
    then line_says n (size_of_line d.sector line) (λ sectors.
    then_read (read_sizes (n + 1) ds rest) (add_fact (d.sector, sectors)))
    else then_read (read_sizes n ds (line ∷ rest)) (add_fact (d.sector, d.sectors))

-- the first fault of a trace: of its script, or a line that isn't of the form
pub data TraceFault : Type 0 where
  InScript : (line : ℕ) (cause : Cause) → TraceFault
  InTrace : (line : ℕ) → TraceFault

-- a trace that was read, with the line of its first step
pub record ReadTrace : Type 0 where
  pub trace : Trace
  pub line : ℕ

abbrev pub told_line : {A : Type 0} → Reading A → Result A TraceFault
told_line (Ok x) = Ok x
told_line (Err n) = Err (InTrace n)

abbrev pub read_behind : ℕ → Plan → List (List ℕ) → Reading ReadTrace
read_behind n plan parts =
    then_read (read_sizes n plan.disks parts) (λ s.
    then_read (read_steps s.line s.rest) (λ more.
    Ok (record { trace = record { plan = plan; facts = s.facts; steps = more.0; report = more.1 }; line = s.line })))

abbrev pub read_after : List ℕ → Result Plan Fault → Result ReadTrace TraceFault
read_after text (Err fault) = Err (InScript fault.line fault.cause)
read_after text (Ok plan) =
    told_line (read_behind (1 + length (lines_of (script_part text))) plan (parts_of (marked_part text)))

-- the trace of a text, or its first fault; a fault of the script comes first
unfoldable pub read_trace : List ℕ → Result ReadTrace TraceFault
read_trace text = read_after text (script (script_part text))

-- the text is this trace
abbrev pub IsTrace : List ℕ → Trace → Type 0
IsTrace text t = (n : ℕ) × (read_trace text ≡ Ok (record { trace = t; line = n }))
