-- The grammar of scripts: the plan of a text, or its first fault.
use Rattle.std.specs.Prelude.{◌≡◌, ℕ, ◌==◌, nat_lt, nat_le, Bool, true, false, not, ◌&&◌, ◌||◌, List, [], ◌∷◌, ◌++◌, length, fold, Option, Some, None, Result, Ok, Err, slice_get, position, codes, if◌then◌else◌}
use Rattle.std.specs.List.{list_all, list_any, slice_split, enumerate_from}
use Rattle.std.specs.Option.{option_map_or}
use Rattle.geo_base.specs.declared.limits.TheConstants.{MAX_ACTORS, MAX_DISKS, MAX_LINE_BYTES, MAX_SCRIPT_LINES, MAX_WRITE_LINE_BYTES}
use Rattle.geo_model.specs.declared.command.Cause.{Cause}
use Rattle.geo_model.specs.declared.command.Cause.TheVariants as causes
use Rattle.geo_model.specs.declared.command.Command.{Command}
use Rattle.geo_model.specs.declared.command.DiskDecl.{DiskDecl}
use Rattle.geo_model.specs.declared.command.DiskKind.TheVariants as disk_kinds
use Rattle.geo_model.specs.Words.{same_name, unless, first_error}
pub use Rattle.geo_model.specs.ScriptWords.{◌>>=◌, is_digit, value_of, is_decimal, number_of, hex_value, run_of, add_run, runs_in, bytes_of_runs, fitting_bytes, Words, next_word, found_or, tested, short_name, long_name, in_range, ranged, any_number, sector_size, sector_count, record_id, record_count, record_place, stripe_size, counts_of, counts_word, runs_words, class_names, beside, class_word, names_within, long_names, at_end, by_word}
pub use Rattle.geo_model.specs.ScriptCommands.{open_words, close_words, read_words, write_words, delete_words, flush_words, insert_words, pull_words, nop_words, concat_words, stripe_words, append_words, destroy_words, label_words, relabel_words, mark_concat_words, mark_stripe_words, mark_words, command_table}
use Rattle.geo_model.specs.World.{Plan}

-- Header lines

-- nothing more, or the word `later`
abbrev pub later_word : Words → Result (Bool × Words) Cause
later_word [] = Ok (false, [])
later_word (word ∷ words) = if same_name word (codes "later") then Ok (true, words) else Err causes.Word

abbrev pub ram_words : Words → Result DiskDecl Cause
ram_words ws = do
  name ← short_name ws
  sector ← sector_size name.1
  sectors ← sector_count sector.0 sector.1
  later ← later_word sectors.1
  at_end (record {
    kind = disk_kinds.Ram;
    name = name.0;
    sector = sector.0;
    sectors = sectors.0;
    later =
        later.0;
  }) later.1

abbrev pub disk_words : Words → Result DiskDecl Cause
disk_words ws = do
  name ← short_name ws
  sector ← sector_size name.1
  later ← later_word sector.1
  at_end (record { kind = disk_kinds.Shelf; name = name.0; sector = sector.0; sectors = 0; later = later.0 }) later.1

abbrev pub actor_words : Words → Result (List ℕ) Cause
actor_words ws = do
  name ← short_name ws
  at_end name.0 name.1

-- the words with which a header line begins
abbrev pub header_words : List (List ℕ)
header_words = codes "ram" ∷ codes "disk" ∷ codes "actor" ∷ []

-- Lines

-- no plan yet
abbrev pub empty_plan : Plan
empty_plan = record { disks = []; actors = []; commands = [] }

-- a disk more, unless an earlier one has its name or sixteen are there
abbrev pub disk_tests : Plan → DiskDecl → List (Bool × Cause)
disk_tests plan d =
    (list_any (λ x. same_name x.name d.name) plan.disks, causes.Twice)
    ∷ (nat_le MAX_DISKS (length plan.disks), causes.Many) ∷ []

abbrev pub add_disk : Plan → DiskDecl → Result Plan Cause
add_disk plan d = unless (first_error (disk_tests plan d)) (record plan { disks = plan.disks ++ d ∷ [] })

-- an actor more, unless an earlier one has its name, it is a word of the header, or sixteen are there
abbrev pub actor_tests : Plan → List ℕ → List (Bool × Cause)
actor_tests plan name =
    (list_any (same_name name) plan.actors || list_any (same_name name) header_words, causes.Twice)
    ∷ (nat_le MAX_ACTORS (length plan.actors), causes.Many)
    ∷ []

abbrev pub add_actor : Plan → List ℕ → Result Plan Cause
add_actor plan name = unless (first_error (actor_tests plan name)) (record plan { actors = plan.actors ++ name ∷ [] })

-- a command line more
abbrev pub add_command : Plan → ℕ → ℕ → Command → Result Plan Cause
add_command plan line actor c =
    Ok (record plan { commands = plan.commands ++ record { line = line; actor = actor; command = c } ∷ [] })

-- a header line stands before all command lines
abbrev pub before_commands : {A : Type 0} → Plan → Result A Cause → Result A Cause
before_commands plan read = if length plan.commands == 0 then read else Err causes.Header

-- a line of an actor, if the actor was declared
abbrev pub actor_line : Plan → ℕ → Option ℕ → Words → Result Plan Cause
actor_line plan line None words = Err causes.Actor
actor_line plan line (Some actor) words = by_word command_table words >>= add_command plan line actor

-- the header lines, by their first words
abbrev pub header_table : Plan → List (List ℕ × (Words → Result Plan Cause))
header_table plan =
    (codes "ram", λ ws. ram_words ws >>= add_disk plan)
    ∷ (codes "disk", λ ws. disk_words ws >>= add_disk plan)
    ∷ (codes "actor", λ ws. actor_words ws >>= add_actor plan)
    ∷ []

-- a line by its first word: a header line, or else a line of an actor
abbrev pub line_by : Plan → ℕ → List ℕ → Words → Option (Words → Result Plan Cause) → Result Plan Cause
line_by plan line word words (Some read) = before_commands plan (read words)
line_by plan line word words None = actor_line plan line (position (same_name word) plan.actors) words

abbrev pub words_line : Plan → ℕ → Words → Result Plan Cause
words_line plan line [] = Err causes.Words
words_line plan line (word ∷ words) = line_by plan line word words (beside (header_table plan) word)

abbrev pub words_of : List ℕ → Words
words_of line = slice_split (λ b. b == 32) line

-- a line is longer than it may be
abbrev pub is_long : List ℕ → Bool
is_long line =
    nat_lt MAX_WRITE_LINE_BYTES (length line)
    || (nat_lt MAX_LINE_BYTES (length line)
    && not (option_map_or (same_name (codes "write")) (slice_get (words_of line) 1) false))

-- what is against a line before its words are read
abbrev pub line_tests : ℕ → List ℕ → List (Bool × Cause)
line_tests n line =
    (nat_lt MAX_SCRIPT_LINES n, causes.Lines)
    ∷ (is_long line, causes.Long)
    ∷ (not (list_all (λ b. nat_le 32 b && nat_le b 126) line), causes.Byte)
    ∷ (list_any (λ word. length word == 0) (words_of line), causes.Space)
    ∷ []

-- a line that isn't skipped, after the plan of those before it
abbrev pub plan_with_line : Plan → ℕ → List ℕ → Result Plan Cause
plan_with_line plan n line = unless (first_error (line_tests n line)) (words_of line) >>= words_line plan n

-- an empty line, or one that begins with `#`
abbrev pub is_skipped : List ℕ → Bool
is_skipped [] = true
is_skipped (b ∷ bs) = b == 35

-- Texts

-- the lines of a text; what stands behind the last line feed is a line only where it isn't empty
abbrev pub drop_empty_end : List (List ℕ) → List (List ℕ)
drop_empty_end [] = []
drop_empty_end ([] ∷ []) = []
drop_empty_end (line ∷ lines) = line ∷ drop_empty_end lines

abbrev pub lines_of : List ℕ → List (List ℕ)
lines_of text = drop_empty_end (slice_split (λ b. b == 10) text)

-- the first fault of a text: its line and its cause
pub record Fault : Type 0 where
  pub line : ℕ
  pub cause : Cause

abbrev pub at_line : ℕ → Result Plan Cause → Result Plan Fault
at_line n (Ok plan) = Ok plan
at_line n (Err cause) = Err (record { line = n; cause = cause })

abbrev pub next_line : Result Plan Fault → ℕ × List ℕ → Result Plan Fault
next_line (Err fault) item = Err fault
next_line (Ok plan) item = if is_skipped item.1 then Ok plan else at_line item.0 (plan_with_line plan item.0 item.1)

-- the plan of a text, or its first fault
unfoldable pub script : List ℕ → Result Plan Fault
script text = fold next_line (Ok empty_plan) (enumerate_from 1 (lines_of text))

-- the text is a script with this plan
abbrev pub IsScript : List ℕ → Plan → Type 0
IsScript text plan = script text ≡ Ok plan

-- the text isn't a script, and this is its first fault
abbrev pub IsFault : List ℕ → ℕ → Cause → Type 0
IsFault text line cause = script text ≡ Err (record { line = line; cause = cause })

-- a cause as it is printed
abbrev pub cause_text : Cause → List ℕ
cause_text causes.Lines = codes "lines"
cause_text causes.Long = codes "long"
cause_text causes.Byte = codes "byte"
cause_text causes.Space = codes "space"
cause_text causes.Header = codes "header"
cause_text causes.Actor = codes "actor"
cause_text causes.Words = codes "words"
cause_text causes.Name = codes "name"
cause_text causes.Number = codes "number"
cause_text causes.Range = codes "range"
cause_text causes.Counts = codes "counts"
cause_text causes.Runs = codes "runs"
cause_text causes.Word = codes "word"
cause_text causes.Twice = codes "twice"
cause_text causes.Many = codes "many"
