-- A plan that is read from its text has room in it.
use Rattle.std.specs.Prelude.{◌≡◌, ℕ, ◌+◌, ◌-◌, ◌<◌, ◌≤◌, ◌==◌, ◌&&◌, nat_lt, Bool, true, false, not, List, [], ◌∷◌, ◌++◌, length, fold, position, slice_get, codes, Option, Some, None, Result, Ok, Err, All, AllPairs, if◌then◌else◌, ⊤}
use Rattle.std.specs.List.{AllByRecursion, enumerate_from}
use Rattle.std.specs.Option.{option_map_or}
use Rattle.std.proofs.Common.{refl, sym, ◌∙◌, ap, arith, inl, inr, map, subst}
use Rattle.std.proofs.lemmas.Bool.{ltb-false, ltb-true, ne_eqb, or_parts}
use Rattle.std.proofs.lemmas.List.Elements.{All-from_recursion, recursion_from_All}
use Rattle.std.proofs.lemmas.Slice.Eq.{bytes_eq-Decides}
use Rattle.geo_base.specs.declared.limits.TheConstants.{MAX_LINE_BYTES, MAX_SCRIPT_LINES, MAX_WRITE_LINE_BYTES}
use Rattle.geo_model.specs.declared.command.Cause.{Cause}
use Rattle.geo_model.specs.declared.command.Cause.TheVariants as causes
use Rattle.geo_model.specs.declared.command.Command.{Command}
use Rattle.geo_model.specs.declared.command.Command.TheVariants as commands
use Rattle.geo_model.specs.declared.command.DiskDecl.{DiskDecl}
use Rattle.geo_model.specs.declared.command.LineCommand.{LineCommand}
use Rattle.geo_model.specs.Generator.{entry_at}
use Rattle.geo_model.specs.Plans.{Differ, IsActor, IsCommandOf, IsLineNumber, MayBegin}
use Rattle.geo_model.specs.Words.{first_error, same_name, unless}
use Rattle.geo_model.specs.World.{Plan}
use Rattle.geo_model.specs.Script.{◌>>=◌, Fault, Words, actor_line, add_command, at_line, beside, by_word, command_table, header_table, is_long, is_skipped, line_by, line_tests, next_line, plan_with_line, words_line, words_of}
use Rattle.geo_laws_texts.proofs.Clean.{line_of, words_back}
use Rattle.geo_laws_scripts.specs.PlanTexts.{command_in_words, command_line, command_lines, spaced}
use Rattle.geo_laws_scripts.specs.ScriptLaws.{HeaderFits, LineHasRoom, ReadPlansHaveRoom, StandsBehind}
use Rattle.geo_laws_scripts.proofs.WordForms.{short_within}
use Rattle.geo_laws_scripts.proofs.CommandWords.{AreCommandWords, IsLength, command_words}
use Rattle.geo_laws_scripts.proofs.LinesRead.{name_shown, with_command}
use Rattle.geo_laws_scripts.proofs.PlansRead.{IsWritable, Rising, actor_named, behind, blank, first_line, header_read, of_header, step_read}

-- A line that is read isn't too long

-- a fault stays
fault_stays : (fault : Fault) (items : List (ℕ × List ℕ)) → fold next_line (Err fault) items ≡ Err fault
fault_stays fault [] = refl
fault_stays fault (item ∷ items) = fault_stays fault items

-- a line that adds to a plan isn't too long
not_long : (plan next : Plan) (n : ℕ) (line : List ℕ) → is_skipped line ≡ false
    → next_line (Ok plan) (n, line) ≡ Ok next
    → is_long line ≡ false
not_long plan next n line shown read = by (nat_lt MAX_SCRIPT_LINES n) refl (is_long line) refl
  where
    by : (a : Bool) → nat_lt MAX_SCRIPT_LINES n ≡ a → (b : Bool) → is_long line ≡ b → b ≡ false
    by a many false long = refl
    by true many true long =
        let wrong : next_line (Ok plan) (n, line) ≡ Err (record { line = n; cause = causes.Lines }) =
        rw (shown, many) refl in
        absurd (let bad : ⊥ = cc in bad)
    by false many true long =
        let wrong : next_line (Ok plan) (n, line) ≡ Err (record { line = n; cause = causes.Long }) =
        rw (shown, many, long) refl in
        absurd (let bad : ⊥ = cc in bad)

-- so it has one of the two lengths
has_length : (line first second : List ℕ) (others : Words) → words_of line ≡ first ∷ second ∷ others
    → is_long line ≡ false → IsLength second (length line)
has_length line first second others words short =
    let parts = or_parts (nat_lt MAX_WRITE_LINE_BYTES (length line)) _ short in
    let write : option_map_or (same_name (codes "write")) (slice_get (words_of line) 1) false
    ≡ same_name (codes "write") second =
    ap (λ (ws : Words). option_map_or (same_name (codes "write")) (slice_get ws 1) false) words in
    by (nat_lt MAX_LINE_BYTES (length line)) refl (same_name (codes "write") second) refl
    (ap (λ t. nat_lt MAX_LINE_BYTES (length line) && not t) (sym write) ∙ parts.1)
    (ltb-false MAX_WRITE_LINE_BYTES (length line) parts.0)
  where
    by : (a : Bool) → nat_lt MAX_LINE_BYTES (length line) ≡ a → (b : Bool) → same_name (codes "write") second ≡ b
        → (nat_lt MAX_LINE_BYTES (length line) && not (same_name (codes "write") second)) ≡ false
        → length line ≤ MAX_WRITE_LINE_BYTES
        → IsLength second (length line)
    by false wide b write none limit = inl (ltb-false MAX_LINE_BYTES (length line) wide)
    by true wide true write none limit = inr (limit, sym ((bytes_eq-Decides (codes "write") second).0 write))
    by true wide false write none limit =
        let wrong : (nat_lt MAX_LINE_BYTES (length line) && not (same_name (codes "write") second)) ≡ true =
        rw (wide, write) refl in
        absurd (let bad : ⊥ = cc in bad)

-- the first word
abbrev first_of_words : Words → List ℕ
first_of_words [] = []
first_of_words (word ∷ words) = word

-- a word that isn't `write`
not_write : (word : List ℕ) → same_name word (codes "write") ≡ false → word ≡ codes "write" → ⊥
not_write word other same =
    let is : same_name word (codes "write") ≡ true = (bytes_eq-Decides word (codes "write")).1 same in cc

-- and so room for its command
has_room : (c : Command) (n : ℕ) → IsLength (first_of_words (command_in_words c)) n → LineHasRoom c n
has_room (commands.Write h off bytes) n (inl short) = omega (arith, short)
has_room (commands.Write h off bytes) n (inr both) = both.0
has_room (commands.Concat name provs) n (inl short) = short
has_room (commands.Concat name provs) n (inr both) = absurd (not_write (codes "concat") refl both.1)
has_room (commands.Stripe name stripe provs) n (inl short) = short
has_room (commands.Stripe name stripe provs) n (inr both) = absurd (not_write (codes "stripe") refl both.1)
has_room _ n fits = tt

-- a command whose line is read has room in it
command_fits : (plan next : Plan) (n : ℕ) (name : List ℕ) (c : Command) → IsActor name
    → AreCommandWords c (command_in_words c)
    → next_line (Ok plan) (n, spaced (name ∷ command_in_words c)) ≡ Ok next
    → LineHasRoom c (length (spaced (name ∷ command_in_words c)))
command_fits plan next n name c is are read =
    has_room c (length (spaced (name ∷ command_in_words c)))
    (subst (λ (ws : Words). IsLength (first_of_words ws) (length (line_of (name ∷ ws)))) (sym are.are)
    (has_length line name are.first are.others
    (words_back name (are.first ∷ are.others) ((short_within name is.short).clean, are.clean))
    (not_long plan next n line (name_shown name (are.first ∷ are.others) is.short)
    (ap (λ (ws : Words). next_line (Ok plan) (n, line_of (name ∷ ws))) (sym are.are) ∙ read))))
  where
    line : List ℕ
    line = line_of (name ∷ are.first ∷ are.others)

-- The lines of commands

-- a command that can be written, as its line is read
written : (plan next : Plan) (n : ℕ) (c : LineCommand) → All IsActor plan.actors → IsCommandOf (length plan.actors) c
    → next_line (Ok plan) (n, command_line plan.actors c) ≡ Ok next → IsWritable plan.actors c
written plan next n c are is read = record {
  is = is;
  fits = command_fits plan next n (entry_at plan.actors c.actor) c.command
      (actor_named plan.actors c.actor are is.actor) (command_words c.command is.command) read;
}

-- what is read of a line's answer and the lines behind it
pub record Reads (r : Result Plan Fault) (items : List (ℕ × List ℕ)) (found : Plan) : Type 0 where
  pub next : Plan
  pub first : r ≡ Ok next
  pub rest : fold next_line (Ok next) items ≡ Ok found

reads : (r : Result Plan Fault) (items : List (ℕ × List ℕ)) (found : Plan) → fold next_line r items ≡ Ok found
    → Reads r items found
reads (Ok next) items found e = record { next = next; first = refl; rest = e }
reads (Err fault) items found e =
    let wrong = fault_stays fault items in absurd (let bad : ⊥ = cc in bad)

-- each line that rises has room
lines_fit : (disks : List DiskDecl) (actors : List (List ℕ)) (done rest : List LineCommand) (n : ℕ) (found : Plan)
    → All IsActor actors → AllPairs Differ actors → AllByRecursion (IsCommandOf (length actors)) rest
    → AllByRecursion IsLineNumber (map (λ c. c.line) rest) → Rising n rest
    → fold next_line (Ok (record { disks = disks; actors = actors; commands = done }))
    (enumerate_from n (command_lines actors n rest)) ≡ Ok found
    → AllByRecursion (λ c. LineHasRoom c.command (length (command_line actors c))) rest
lines_fit disks actors done [] n found are apart all numbered up e = tt
lines_fit disks actors done (c ∷ cs) n found are apart all numbered up e =
    let plan : Plan = record { disks = disks; actors = actors; commands = done } in
    let first = up.0 in
    let reached : n + (c.line - n) ≡ c.line = omega (arith, first) in
    let whole : fold next_line (next_line (Ok plan) (c.line, command_line actors c))
    (enumerate_from (c.line + 1) (command_lines actors (c.line + 1) cs)) ≡ Ok found =
    ap (λ k. fold next_line (Ok plan) (enumerate_from k (command_line actors c ∷ command_lines actors (c.line + 1) cs)))
    (sym reached)
    ∙ sym (blank plan (c.line - n) n (command_line actors c ∷ command_lines actors (c.line + 1) cs)) ∙ e in
    let are_read = reads (next_line (Ok plan) (c.line, command_line actors c))
    (enumerate_from (c.line + 1) (command_lines actors (c.line + 1) cs)) found whole in
    let is = written plan are_read.next c.line c are all.0 are_read.first in
    let step = step_read plan c.line c numbered.0.few are apart is in (
      is.fits,
      lines_fit disks actors (done ++ c ∷ []) cs (c.line + 1) found are apart all.1 numbered.1 up.1
          (ap (λ r. fold next_line r (enumerate_from (c.line + 1) (command_lines actors (c.line + 1) cs))) (sym step)
          ∙ whole),
    )

-- The first command

-- the first command stands at a line
abbrev BeginsAt : ℕ → List LineCommand → Type 0
BeginsAt n [] = ⊥
BeginsAt n (c ∷ cs) = c.line ≡ n

-- so it does in a plan that is found
abbrev GivesAt : {E : Type 0} → ℕ → Result Plan E → Type 0
GivesAt n (Ok plan) = BeginsAt n plan.commands
GivesAt n (Err e) = ⊤

-- a command more leaves the first
added_begins : (n : ℕ) (cs : List LineCommand) (c : LineCommand) → BeginsAt n cs → BeginsAt n (cs ++ c ∷ [])
added_begins n [] c begins = absurd begins
added_begins n (x ∷ xs) c begins = begins

-- a plan with a first command has some
some_command : (n : ℕ) (cs : List LineCommand) → BeginsAt n cs → (length cs == 0) ≡ false
some_command n [] begins = absurd begins
some_command n (x ∷ xs) begins = ne_eqb (length (x ∷ xs)) 0 (λ e. absurd (omega (arith, e)))

-- a line of an actor leaves it
actor_begins : (n : ℕ) (plan : Plan) (k : ℕ) (actor : Option ℕ) (words : Words) → BeginsAt n plan.commands
    → GivesAt n (actor_line plan k actor words)
actor_begins n plan k None words begins = tt
actor_begins n plan k (Some actor) words begins = by (by_word command_table words)
  where
    by : (r : Result Command Cause) → GivesAt n (r >>= add_command plan k actor)
    by (Ok c) = added_begins n plan.commands (record { line = k; actor = actor; command = c }) begins
    by (Err cause) = tt

-- so does any line, by its words
words_begins : (n : ℕ) (plan : Plan) (k : ℕ) (words : Words) → BeginsAt n plan.commands
    → GivesAt n (words_line plan k words)
words_begins n plan k [] begins = tt
words_begins n plan k (word ∷ words) begins = by (beside (header_table plan) word)
  where
    by : (o : Option (Words → Result Plan Cause)) → GivesAt n (line_by plan k word words o)
    by (Some read) = rw (some_command n plan.commands begins) tt
    by None = actor_begins n plan k (position (same_name word) plan.actors) words begins

-- so does any line
line_begins : (n : ℕ) (r : Result Plan Fault) (item : ℕ × List ℕ) → GivesAt n r → GivesAt n (next_line r item)
line_begins n (Err fault) item begins = tt
line_begins n (Ok plan) item begins = by (is_skipped item.1)
  where
    told : (r : Result Plan Cause) → GivesAt n r → GivesAt n (at_line item.0 r)
    told (Ok next) gives = gives
    told (Err cause) gives = tt

    tested : (o : Option Cause) → GivesAt n (unless o (words_of item.1) >>= words_line plan item.0)
    tested None = words_begins n plan item.0 (words_of item.1) begins
    tested (Some cause) = tt

    by : (t : Bool) → GivesAt n (if t then Ok plan else at_line item.0 (plan_with_line plan item.0 item.1))
    by true = begins
    by false = told (plan_with_line plan item.0 item.1) (tested (first_error (line_tests item.0 item.1)))

-- so do all
lines_begin : (n : ℕ) (r : Result Plan Fault) (items : List (ℕ × List ℕ)) → GivesAt n r
    → GivesAt n (fold next_line r items)
lines_begin n r [] begins = begins
lines_begin n r (item ∷ items) begins = lines_begin n (next_line r item) items (line_begins n r item begins)

-- a first command that stands no further than its header is read at the line behind it
stands_behind : (plan : Plan) → MayBegin plan → (c : LineCommand) (cs : List LineCommand) → plan.commands ≡ c ∷ cs
    → fold next_line (Ok (of_header plan.disks plan.actors))
    (enumerate_from (first_line plan) (command_lines plan.actors (first_line plan) (c ∷ cs))) ≡ Ok plan
    → length plan.disks + length plan.actors < c.line
stands_behind plan is c cs same e = by (nat_lt (length plan.disks + length plan.actors) c.line) refl
  where
    header : Plan
    header = of_header plan.disks plan.actors

    few : first_line plan ≤ MAX_SCRIPT_LINES
    few = let disks = is.few_disks in let actors = is.few_actors in omega (arith, disks, actors)

    items : List (ℕ × List ℕ)
    items = enumerate_from (first_line plan + 1) (command_lines plan.actors (c.line + 1) cs)

    line : IsCommandOf (length plan.actors) c
    line =
        (subst (λ (xs : List LineCommand). AllByRecursion (IsCommandOf (length plan.actors)) xs) same
        (recursion_from_All (IsCommandOf (length plan.actors)) plan.commands is.commands)).0

    by : (t : Bool) → nat_lt (length plan.disks + length plan.actors) c.line ≡ t
        → length plan.disks + length plan.actors < c.line
    by true above = ltb-true (length plan.disks + length plan.actors) c.line above
    by false above =
        let below : c.line ≤ length plan.disks + length plan.actors =
        ltb-false (length plan.disks + length plan.actors) c.line above in
        let none : first_line plan + (c.line - first_line plan) ≡ first_line plan = omega (arith, below) in
        let whole : fold next_line (next_line (Ok header) (first_line plan, command_line plan.actors c)) items
        ≡ Ok plan =
        ap (λ k. fold next_line (Ok header)
        (enumerate_from k (command_line plan.actors c ∷ command_lines plan.actors (c.line + 1) cs))) (sym none)
        ∙ sym (blank header (c.line - first_line plan) (first_line plan)
        (command_line plan.actors c ∷ command_lines plan.actors (c.line + 1) cs)) ∙ e in
        let are_read = reads (next_line (Ok header) (first_line plan, command_line plan.actors c)) items plan whole in
        let writable = written header are_read.next (first_line plan) c is.actors line are_read.first in
        let step = step_read header (first_line plan) c few is.actors is.actor_names writable in
        let begins : BeginsAt (first_line plan) plan.commands =
        subst (λ (r : Result Plan Fault). GivesAt (first_line plan) r)
        (ap (λ r. fold next_line r items) (sym step) ∙ whole)
        (lines_begin (first_line plan) (Ok (with_command header (first_line plan) c.actor c.command)) items refl) in
        let at : c.line ≡ first_line plan = subst (BeginsAt (first_line plan)) same begins in
        absurd (omega (arith, at, below))

-- Plans

-- the commands stand behind the header
header_fits : (plan : Plan) → MayBegin plan → (cs : List LineCommand) → plan.commands ≡ cs
    → fold next_line (Ok (of_header plan.disks plan.actors))
    (enumerate_from (first_line plan) (command_lines plan.actors (first_line plan) cs)) ≡ Ok plan
    → StandsBehind (length plan.disks + length plan.actors) cs
header_fits plan is [] same e = tt
header_fits plan is (c ∷ cs) same e = stands_behind plan is c cs same e

pub read_plans_have_room : ReadPlansHaveRoom
read_plans_have_room plan is e =
    let whole = sym (header_read plan is.begins) ∙ e in
    let header : HeaderFits plan = header_fits plan is.begins plan.commands refl whole in (
      header,
      All-from_recursion (λ c. LineHasRoom c.command (length (command_line plan.actors c))) plan.commands
          (lines_fit plan.disks plan.actors [] plan.commands (first_line plan) plan is.begins.actors
          is.begins.actor_names
          (recursion_from_All (IsCommandOf (length plan.actors)) plan.commands is.begins.commands)
          (recursion_from_All IsLineNumber (map (λ c. c.line) plan.commands) is.numbered)
          (behind (length plan.disks + length plan.actors) plan.commands header is.lines) whole),
    )
