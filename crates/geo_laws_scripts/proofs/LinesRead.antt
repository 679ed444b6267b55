-- Each line that is written adds to the plan what it was written for.
use Rattle.std.specs.Prelude.{◌≡◌, ℕ, ◌+◌, ◌*◌, ◌≤◌, ◌==◌, ◌&&◌, ◌||◌, nat_le, nat_lt, Bool, true, false, not, List, [], ◌∷◌, ◌++◌, length, codes, decimal, position, slice_get, None, Some, Ok, All}
use Rattle.std.specs.List.{AllByRecursion, list_all, list_any}
use Rattle.std.specs.Option.{option_map_or}
use Rattle.std.proofs.Common.{refl, sym, ◌∙◌, ap, arith, inl, inr, subst}
use Rattle.std.proofs.lemmas.Bool.{and_parts, le-leb, not-true, or_parts}
use Rattle.std.proofs.lemmas.Bool.Decides.{nat_tests}
use Rattle.std.proofs.lemmas.List.{length-append}
use Rattle.std.proofs.lemmas.List.Elements.{All-nil}
use Rattle.std.proofs.lemmas.Slice.Eq.{bytes_eq-Decides}
use Rattle.geo_base.specs.Name.{is_short_name, is_word_byte}
use Rattle.geo_base.specs.Sectors.{IsSectorSize}
use Rattle.geo_base.specs.declared.limits.TheConstants.{MAX_LINE_BYTES, MAX_MEMORY_DISK_BYTES, MAX_SCRIPT_LINES, MAX_WRITE_LINE_BYTES}
use Rattle.geo_model.specs.declared.command.Command.{Command}
use Rattle.geo_model.specs.declared.command.DiskDecl.{DiskDecl}
use Rattle.geo_model.specs.declared.command.DiskKind.{DiskKind}
use Rattle.geo_model.specs.declared.command.DiskKind.TheVariants as disk_kinds
use Rattle.geo_model.specs.Plans.{HasSectors, IsActor, IsCommand, IsDiskDecl}
use Rattle.geo_model.specs.Words.{first_error, same_name}
use Rattle.geo_model.specs.World.{Plan}
use Rattle.geo_model.specs.Script.{Words, add_actor, add_disk, beside, header_table, header_words, is_long, is_skipped, later_word, line_tests, next_line, sector_count, sector_size, words_line, words_of}
use Rattle.geo_laws_texts.proofs.Clean.{IsClean, line_in_range, line_no_feed, line_of, none_empty, words_back}
use Rattle.geo_laws_scripts.specs.PlanTexts.{actor_in_words, command_in_words, disk_in_words, disk_line, later_in_words, spaced}
use Rattle.geo_laws_scripts.specs.ScriptLaws.{LineHasRoom}
use Rattle.geo_laws_scripts.proofs.WordForms.{IsWordWithin, number_within, short_within}
use Rattle.geo_laws_scripts.proofs.CommandWords.{AreCommandWords, AreWithin, IsLength, command_words, line_within, literal, ranged_read, room, words_clean}

-- Any line

-- the second word of a line decides how long it may be
is_not_long : (line first second : List ℕ) (others : Words) → words_of line ≡ first ∷ second ∷ others
    → IsLength second (length line) → is_long line ≡ false
is_not_long line first second others words (inl short) =
    let wide : nat_lt MAX_WRITE_LINE_BYTES (length line) ≡ false = grind (arith, nat_tests) in
    let wider : nat_lt MAX_LINE_BYTES (length line) ≡ false = grind (arith, nat_tests) in
    rw (wide, wider) refl
is_not_long line first second others words (inr both) =
    let limit : length line ≤ MAX_WRITE_LINE_BYTES = both.0 in
    let wide : nat_lt MAX_WRITE_LINE_BYTES (length line) ≡ false = grind (arith, nat_tests) in
    let write : option_map_or (same_name (codes "write")) (slice_get (words_of line) 1) false ≡ true =
    ap (λ (ws : Words). option_map_or (same_name (codes "write")) (slice_get ws 1) false) words
    ∙ ap (λ w. same_name (codes "write") w) both.1 in
    by (nat_lt MAX_WRITE_LINE_BYTES (length line)) (nat_lt MAX_LINE_BYTES (length line))
    (option_map_or (same_name (codes "write")) (slice_get (words_of line) 1) false) wide write
  where
    by : (a b c : Bool) → a ≡ false → c ≡ true → (a || (b && not c)) ≡ false
    by false true true e f = refl
    by false false true e f = refl
    by true b c e f = absurd (let bad : ⊥ = cc in bad)
    by false b false e f = absurd (let bad : ⊥ = cc in bad)

-- a line of clean words is read by its words
line_read : (plan next : Plan) (n : ℕ) (word second : List ℕ) (others : Words) → n ≤ MAX_SCRIPT_LINES
    → AllByRecursion IsClean (word ∷ second ∷ others)
    → IsLength second (length (line_of (word ∷ second ∷ others)))
    → is_skipped (line_of (word ∷ second ∷ others)) ≡ false
    → words_line plan n (word ∷ second ∷ others) ≡ Ok next
    → next_line (Ok plan) (n, line_of (word ∷ second ∷ others)) ≡ Ok next
line_read plan next n word second others limit clean short shown reads =
    by (line_of (word ∷ second ∷ others)) (words_back word (second ∷ others) clean)
    (line_in_range word (second ∷ others) clean) short shown
  where
    by : (line : List ℕ) → words_of line ≡ word ∷ second ∷ others
        → list_all (λ b. nat_le 32 b && nat_le b 126) line ≡ true → IsLength second (length line)
        → is_skipped line ≡ false → next_line (Ok plan) (n, line) ≡ Ok next
    by line words bytes short shown =
        let few : nat_lt MAX_SCRIPT_LINES n ≡ false = grind (arith, nat_tests) in
        let not_long : is_long line ≡ false = is_not_long line word second others words short in
        let some : list_any (λ w. length w == 0) (words_of line) ≡ false =
        ap (λ (ws : Words). list_any (λ w. length w == 0) ws) words ∙ none_empty (word ∷ second ∷ others) clean in
        let tests : first_error (line_tests n line) ≡ None = rw (few, not_long, bytes, some) refl in
        rw (shown, tests, words, reads) refl

-- Header lines

-- a sector size is read
size_read : (n : ℕ) (words : Words) → IsSectorSize n → sector_size (decimal n ∷ words) ≡ Ok (n, words)
size_read n words (inl e) = ranged_read (λ k. (k == 512) || (k == 4096)) n words (omega (arith, e)) (rw e refl)
size_read n words (inr e) = ranged_read (λ k. (k == 512) || (k == 4096)) n words (omega (arith, e)) (rw e refl)

size_within : (n : ℕ) → IsSectorSize n → IsWordWithin 20 (decimal n)
size_within n (inl e) = number_within n (omega (arith, e))
size_within n (inr e) = number_within n (omega (arith, e))

-- sectors of at least a byte each are no more than their bytes
few_sectors : (n sector : ℕ) → IsSectorSize sector → n * sector ≤ MAX_MEMORY_DISK_BYTES → n ≤ MAX_MEMORY_DISK_BYTES
few_sectors n sector (inl e) limit = let fits : n * 512 ≤ MAX_MEMORY_DISK_BYTES = rw (← e) limit in omega (arith, fits)
few_sectors n sector (inr e) limit = let fits : n * 4096 ≤ MAX_MEMORY_DISK_BYTES = rw (← e) limit in omega (arith, fits)

-- the sectors of a disk in memory are read
sectors_read : (n sector : ℕ) (words : Words) → IsSectorSize sector → 1 ≤ n → n * sector ≤ MAX_MEMORY_DISK_BYTES
    → sector_count sector (decimal n ∷ words) ≡ Ok (n, words)
sectors_read n sector words size some limit =
    let few = few_sectors n sector size limit in
    ranged_read (λ k. nat_le 1 k && nat_le (k * sector) MAX_MEMORY_DISK_BYTES) n words (omega (arith, few))
    (rw (le-leb 1 n some, le-leb (n * sector) MAX_MEMORY_DISK_BYTES limit) refl)

-- `later` is read
later_read : (later : Bool) → later_word (later_in_words later) ≡ Ok (later, [])
later_read true = refl
later_read false = refl

-- the lengths of the last words
abbrev later_lengths : Bool → List ℕ
later_lengths true = 8 ∷ []
later_lengths false = []

-- and they fit
later_within : (later : Bool) → AreWithin (later_lengths later) (later_in_words later)
later_within true = (literal (codes "later") refl, tt)
later_within false = tt

later_room : (later : Bool) → room (later_lengths later) ≤ 9
later_room true = omega arith
later_room false = omega arith

-- a header line is read by its words, if no command stands before it
abbrev AddsHeader : List ℕ → (Plan → Plan → Type 0) → Type 0
AddsHeader line Next =
    (plan next : Plan) (n : ℕ) → n ≤ MAX_SCRIPT_LINES → (length plan.commands == 0) ≡ true → Next plan next
    → next_line (Ok plan) (n, line) ≡ Ok next

-- a short header line
short_line : (ns : List ℕ) (words : Words) (second : List ℕ) → AreWithin ns words → room ns ≤ MAX_LINE_BYTES
    → IsLength second (length (line_of words))
short_line ns words second within small = let line = line_within ns words within in inl (omega (arith, line, small))

-- the words of a disk in memory, of one of the shelf, and of an actor
abbrev ram_line_words : List ℕ → ℕ → ℕ → Bool → Words
ram_line_words name sector sectors later =
    codes "ram" ∷ name ∷ decimal sector ∷ decimal sectors ∷ later_in_words later

abbrev shelf_line_words : List ℕ → ℕ → Bool → Words
shelf_line_words name sector later = codes "disk" ∷ name ∷ decimal sector ∷ later_in_words later

abbrev actor_line_words : List ℕ → Words
actor_line_words name = codes "actor" ∷ name ∷ []

-- how long they are
abbrev ram_lengths : Bool → List ℕ
ram_lengths later = 8 ∷ 16 ∷ 20 ∷ 20 ∷ later_lengths later

abbrev shelf_lengths : Bool → List ℕ
shelf_lengths later = 8 ∷ 16 ∷ 20 ∷ later_lengths later

abbrev actor_lengths : List ℕ
actor_lengths = 8 ∷ 16 ∷ []

ram_within : (name : List ℕ) (sector sectors : ℕ) (later : Bool) → is_short_name name ≡ true → IsSectorSize sector
    → sectors * sector ≤ MAX_MEMORY_DISK_BYTES
    → AreWithin (ram_lengths later) (ram_line_words name sector sectors later)
ram_within name sector sectors later short size limit =
    let count = few_sectors sectors sector size limit in (
      literal (codes "ram") refl,
      (
        short_within name short,
        (
          size_within sector size,
          (number_within sectors (omega (arith, count)), later_within later),
        ),
      ),
    )

shelf_within : (name : List ℕ) (sector : ℕ) (later : Bool) → is_short_name name ≡ true → IsSectorSize sector
    → AreWithin (shelf_lengths later) (shelf_line_words name sector later)
shelf_within name sector later short size =
    (literal (codes "disk") refl, (short_within name short, (size_within sector size, later_within later)))

actor_within : (name : List ℕ) → is_short_name name ≡ true → AreWithin actor_lengths (actor_line_words name)
actor_within name short = (literal (codes "actor") refl, (short_within name short, tt))

-- such lines are read
ram_read : (name : List ℕ) (sector sectors : ℕ) (later : Bool) → is_short_name name ≡ true → IsSectorSize sector
    → 1 ≤ sectors → sectors * sector ≤ MAX_MEMORY_DISK_BYTES
    → AddsHeader (line_of (ram_line_words name sector sectors later))
    (λ plan next. add_disk plan
    (record { kind = disk_kinds.Ram; name = name; sector = sector; sectors = sectors; later = later }) ≡ Ok next)
ram_read name sector sectors later short size some limit plan next n few none adds =
    let room_left = later_room later in
    let within = ram_within name sector sectors later short size limit in
    line_read plan next n (codes "ram") name (decimal sector ∷ decimal sectors ∷ later_in_words later) few
    (words_clean (ram_lengths later) (ram_line_words name sector sectors later) within)
    (short_line (ram_lengths later) (ram_line_words name sector sectors later) name within (omega (arith, room_left)))
    refl
    (by (decimal sector ∷ decimal sectors ∷ later_in_words later) (decimal sectors ∷ later_in_words later)
    (later_in_words later) (size_read sector _ size) (sectors_read sectors sector _ size some limit) (later_read later))
  where
    by : (words more last : Words) → sector_size words ≡ Ok (sector, more)
        → sector_count sector more ≡ Ok (sectors, last)
        → later_word last ≡ Ok (later, []) → words_line plan n (codes "ram" ∷ name ∷ words) ≡ Ok next
    by words more last first second third = rw (none, short, first, second, third) adds

shelf_read : (name : List ℕ) (sector : ℕ) (later : Bool) → is_short_name name ≡ true → IsSectorSize sector
    → AddsHeader (line_of (shelf_line_words name sector later))
    (λ plan next. add_disk plan
    (record { kind = disk_kinds.Shelf; name = name; sector = sector; sectors = 0; later = later }) ≡ Ok next)
shelf_read name sector later short size plan next n few none adds =
    let room_left = later_room later in
    let within = shelf_within name sector later short size in
    line_read plan next n (codes "disk") name (decimal sector ∷ later_in_words later) few
    (words_clean (shelf_lengths later) (shelf_line_words name sector later) within)
    (short_line (shelf_lengths later) (shelf_line_words name sector later) name within (omega (arith, room_left))) refl
    (by (decimal sector ∷ later_in_words later) (later_in_words later) (size_read sector _ size) (later_read later))
  where
    by : (words more : Words) → sector_size words ≡ Ok (sector, more) → later_word more ≡ Ok (later, [])
        → words_line plan n (codes "disk" ∷ name ∷ words) ≡ Ok next
    by words more first second = rw (none, short, first, second) adds

-- the line of a disk adds it
pub disk_read : (d : DiskDecl) → IsDiskDecl d → AddsHeader (disk_line d) (λ plan next. add_disk plan d ≡ Ok next)
disk_read d is plan next n few none adds = by d.kind refl is.sectors
  where
    by : (kind : DiskKind) → d.kind ≡ kind → HasSectors kind d.sector d.sectors
        → next_line (Ok plan) (n, spaced (disk_in_words kind d)) ≡ Ok next
    by disk_kinds.Ram e has =
        let same :
        record { kind = disk_kinds.Ram; name = d.name; sector = d.sector; sectors = d.sectors; later = d.later } ≡ d =
        ap (λ (k : DiskKind). record d { kind = k }) (sym e) in
        ram_read d.name d.sector d.sectors d.later is.name is.sector has.0 has.1 plan next n few none
        (ap (add_disk plan) same ∙ adds)
    by disk_kinds.Shelf e has =
        let same : record { kind = disk_kinds.Shelf; name = d.name; sector = d.sector; sectors = 0; later = d.later }
        ≡ d =
        ap (λ (k : DiskKind). record d { kind = k; sectors = 0 }) (sym e)
        ∙ ap (λ (k : ℕ). record d { sectors = k }) (sym has) in
        shelf_read d.name d.sector d.later is.name is.sector plan next n few none (ap (add_disk plan) same ∙ adds)

-- the line of an actor adds it
pub actor_read : (name : List ℕ) → is_short_name name ≡ true
    → AddsHeader (actor_in_words name) (λ plan next. add_actor plan name ≡ Ok next)
actor_read name short plan next n few none adds =
    let within = actor_within name short in
    line_read plan next n (codes "actor") name [] few (words_clean actor_lengths (actor_line_words name) within)
    (short_line actor_lengths (actor_line_words name) name within (omega arith)) refl (rw (none, short) adds)

-- Command lines

-- a byte of a name doesn't begin a comment
no_comment : (b : ℕ) → is_word_byte b ≡ true → (b == 35) ≡ false
no_comment b e = grind (arith, nat_tests)

-- a line that begins with a short name isn't skipped
pub name_shown : (name : List ℕ) (words : Words) → is_short_name name ≡ true
    → is_skipped (line_of (name ∷ words)) ≡ false
name_shown [] words is = absurd (let bad : ⊥ = cc in bad)
name_shown (b ∷ bs) [] is =
    let all =
    (and_parts (nat_le 1 (length (b ∷ bs)) && nat_le (length (b ∷ bs)) 16) (list_all is_word_byte (b ∷ bs)) is).1 in
    no_comment b (and_parts (is_word_byte b) (list_all is_word_byte bs) all).0
name_shown (b ∷ bs) (word ∷ words) is =
    let all =
    (and_parts (nat_le 1 (length (b ∷ bs)) && nat_le (length (b ∷ bs)) 16) (list_all is_word_byte (b ∷ bs)) is).1 in
    no_comment b (and_parts (is_word_byte b) (list_all is_word_byte bs) all).0

-- names that differ, the other way round
pub turned : (a b : List ℕ) → same_name a b ≡ false → same_name b a ≡ false
turned a b e = by (same_name b a) refl
  where
    by : (t : Bool) → same_name b a ≡ t → t ≡ false
    by false t = refl
    by true t =
        let back : same_name a b ≡ true = (bytes_eq-Decides a b).1 (sym ((bytes_eq-Decides b a).0 t)) in
        absurd (let bad : ⊥ = cc in bad)

-- a name of an actor begins no header line
no_header : (plan : Plan) (name : List ℕ) → list_any (same_name name) header_words ≡ false
    → beside (header_table plan) name ≡ None
no_header plan name none =
    let first = or_parts (same_name name (codes "ram")) _ none in
    let second = or_parts (same_name name (codes "disk")) _ first.1 in
    let third = or_parts (same_name name (codes "actor")) false second.1 in
    rw (turned name (codes "ram") first.0, turned name (codes "disk") second.0, turned name (codes "actor") third.0)
    refl

-- a plan with a command line more
abbrev pub with_command : Plan → ℕ → ℕ → Command → Plan
with_command plan n actor c =
    record plan { commands = plan.commands ++ record { line = n; actor = actor; command = c } ∷ [] }

-- the line of a command adds it
pub command_read : (plan : Plan) (n actor : ℕ) (name : List ℕ) (c : Command) → n ≤ MAX_SCRIPT_LINES → IsActor name
    → position (same_name name) plan.actors ≡ Some actor → IsCommand c
    → LineHasRoom c (length (spaced (name ∷ command_in_words c)))
    → next_line (Ok plan) (n, spaced (name ∷ command_in_words c)) ≡ Ok (with_command plan n actor c)
command_read plan n actor name c few is place command fits =
    by (command_in_words c) (command_words c command) fits
  where
    by : (words : Words) → AreCommandWords c words → LineHasRoom c (length (line_of (name ∷ words)))
        → next_line (Ok plan) (n, line_of (name ∷ words)) ≡ Ok (with_command plan n actor c)
    by words are fits =
        let within = short_within name is.short in
        let short = within.short in
        let same : line_of (name ∷ words) ≡ line_of (name ∷ are.first ∷ are.others) =
        ap (λ (ws : Words). line_of (name ∷ ws)) are.are in
        let long : length (line_of (name ∷ are.first ∷ are.others))
        ≡ length name + length (32 ∷ line_of (are.first ∷ are.others)) =
        length-append name (32 ∷ line_of (are.first ∷ are.others)) in
        let room_for : LineHasRoom c (length (line_of (name ∷ are.first ∷ are.others))) =
        subst (λ (l : List ℕ). LineHasRoom c (length l)) same fits in
        let none : beside (header_table plan) name ≡ None =
        no_header plan name (not-true (list_any (same_name name) header_words) is.no_header_word) in
        ap (λ l. next_line (Ok plan) (n, l)) same
        ∙ line_read plan (with_command plan n actor c) n name are.first are.others few (within.clean, are.clean)
        (are.long (length (line_of (name ∷ are.first ∷ are.others))) room_for (omega (arith, long, short)))
        (name_shown name (are.first ∷ are.others) is.short) (rw (none, place, are.reads) refl)

-- Line feeds

-- no byte of a line is a line feed
abbrev pub IsUnended : List ℕ → Type 0
IsUnended line = All (λ b. (b == 10) ≡ false) line

-- a line of words within their lengths
unended : (ns : List ℕ) (words : Words) → AreWithin ns words → IsUnended (line_of words)
unended ns [] within = All-nil (λ b. (b == 10) ≡ false)
unended ns (word ∷ words) within = line_no_feed word words (words_clean ns (word ∷ words) within)

-- so are the lines of a plan
pub disk_unended : (d : DiskDecl) → IsDiskDecl d → IsUnended (disk_line d)
disk_unended d is = by d.kind is.sectors
  where
    by : (kind : DiskKind) → HasSectors kind d.sector d.sectors → IsUnended (spaced (disk_in_words kind d))
    by disk_kinds.Ram has =
        unended (ram_lengths d.later) (ram_line_words d.name d.sector d.sectors d.later)
        (ram_within d.name d.sector d.sectors d.later is.name is.sector has.1)
    by disk_kinds.Shelf has =
        unended (shelf_lengths d.later) (shelf_line_words d.name d.sector d.later)
        (shelf_within d.name d.sector d.later is.name is.sector)

pub actor_unended : (name : List ℕ) → is_short_name name ≡ true → IsUnended (actor_in_words name)
actor_unended name short = unended actor_lengths (actor_line_words name) (actor_within name short)

pub command_unended : (name : List ℕ) (c : Command) → is_short_name name ≡ true → IsCommand c
    → IsUnended (spaced (name ∷ command_in_words c))
command_unended name c short command = by (command_in_words c) (command_words c command)
  where
    by : (words : Words) → AreCommandWords c words → IsUnended (line_of (name ∷ words))
    by words are =
        subst (λ (ws : Words). IsUnended (line_of (name ∷ ws))) (sym are.are)
        (line_no_feed name (are.first ∷ are.others) ((short_within name short).clean, are.clean))
