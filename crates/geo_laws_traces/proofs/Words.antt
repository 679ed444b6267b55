-- The words of lines: what is written word by word is read so, and the other way round; so are runs at the end of a
-- line. No line feed stands in them.
use Rattle.std.proofs.Common.{◌≡◌, ℕ, ◌+◌, ◌-◌, ◌*◌, ◌^◌, ◌<◌, ◌≤◌, ◌==◌, nat_lt, Bool, true, false, not, ◌&&◌, ◌||◌, List, [], ◌∷◌, ◌++◌, length, fold, Option, Some, None, Result, Ok, Err, decimal, if◌then◌else◌, refl, sym, ◌∙◌, ap, arith, subst, rules, ltb-true, option_and_then}
use Rattle.std.specs.List.{AllByRecursion, list_all, onto_first, join_with_byte}
use Rattle.std.specs.Option.{option_map_or}
use Rattle.std.proofs.lemmas.Bool.{and_parts}
use Rattle.std.proofs.lemmas.Bool.Decides.{nat_tests}
use Rattle.std.proofs.lemmas.Fmt.{decimal-digits_value}
use Rattle.std.proofs.lemmas.List.Elements.{All-from_recursion}
use Rattle.std.proofs.lemmas.List.Splits.{length-slice_split, slice_split_at, slice_split_none, join_with_byte-slice_split}
use Rattle.std.proofs.lemmas.Slice.Eq.{bytes_eq-Decides}
use Rattle.std.proofs.lemmas.Str.Parse.{IsNumeralModel, numerals_by_fold}
use Rattle.geo_base.specs.Runs.{ByteRun, runs_text, IsRuns}
use Rattle.geo_model.specs.declared.command.Cause.{Cause}
use Rattle.geo_model.specs.declared.command.Cause.TheVariants as causes
use Rattle.geo_model.specs.Words.{same_name}
use Rattle.geo_model.specs.Script.{◌>>=◌, Words, is_digit, is_decimal, value_of, number_of, in_range, ranged, at_end, beside, by_word, words_of, hex_value, run_of, add_run, runs_in, fitting_bytes, found_or, runs_words}
use Rattle.geo_model.specs.Plans.{IsRunsBytes}
use Rattle.geo_script.proofs.FormLemmas.{runs_words-some}
use Rattle.geo_script.proofs.RunsAgree.{runs-agree}
use Rattle.geo_laws_texts.proofs.Numbers.{written_digits, number_read}

-- Words

-- no byte of a word is a space
abbrev pub IsWord : List ℕ → Type 0
IsWord word = AllByRecursion (λ b. (b == 32) ≡ false) word

abbrev pub AreWords : Words → Type 0
AreWords words = AllByRecursion IsWord words

-- the line of some words
abbrev pub line_of : Words → List ℕ
line_of words = join_with_byte 32 words

-- there is a first word
pub some_word : (line : List ℕ) → 1 ≤ length (words_of line)
some_word line = let more = length-slice_split (λ b. b == 32) line in omega (arith, more)

-- the words of a line are such words
pub are_words : (line : List ℕ) → AreWords (words_of line)
are_words [] = (tt, tt)
are_words (b ∷ bs) = by (b == 32) refl (words_of bs) (are_words bs)
  where
    by : (t : Bool) → (b == 32) ≡ t → (parts : List (List ℕ)) → AreWords parts
        → AreWords (if t then [] ∷ parts else onto_first b parts)
    by true e parts words = (tt, words)
    by false e [] words = ((e, tt), tt)
    by false e (part ∷ parts) words = ((e, words.0), words.1)

-- a word before others
pub word_before : (word : List ℕ) (words : Words) → IsWord word
    → words_of (word ++ 32 ∷ line_of words) ≡ word ∷ words_of (line_of words)
word_before word words is =
    slice_split_at (λ b. b == 32) word 32 (line_of words) (All-from_recursion (λ b. (b == 32) ≡ false) word is) refl

-- the words of the line of some words are these
pub words_back : (word : List ℕ) (words : Words) → AreWords (word ∷ words)
    → words_of (line_of (word ∷ words)) ≡ word ∷ words
words_back word [] are =
    slice_split_none (λ b. b == 32) word (All-from_recursion (λ b. (b == 32) ≡ false) word are.0)
words_back word (next ∷ words) are =
    word_before word (next ∷ words) are.0 ∙ ap (λ ws. word ∷ ws) (words_back next words are.1)

-- a line is that of its words
pub line_back : (line : List ℕ) → line_of (words_of line) ≡ line
line_back line = join_with_byte-slice_split 32 line

-- Numbers

-- each byte is a decimal digit
abbrev AreDigits : List ℕ → Type 0
AreDigits digits = list_all is_digit digits ≡ true

-- the value of digits behind a number
abbrev value_behind : ℕ → List ℕ → ℕ
value_behind value digits = fold (λ n b. 10 * n + (b - 48)) value digits

-- these are the digits and the value of what is printed
own : IsNumeralModel AreDigits (value_behind 0)
own = numerals_by_fold _ (search rules) value_behind (search rules)

-- of each byte of some digits
pub each_digit : (P : ℕ → Type 0) → ((b : ℕ) → is_digit b ≡ true → P b) → (digits : List ℕ) → AreDigits digits
    → AllByRecursion P digits
each_digit P so [] all = tt
each_digit P so (b ∷ bs) all =
    let both = and_parts (is_digit b) (list_all is_digit bs) all in (so b both.0, each_digit P so bs both.1)

-- a number is a word
pub number_word : (n : ℕ) → n < 2 ^ 64 → IsWord (decimal n)
number_word n fits =
    each_digit (λ b. (b == 32) ≡ false) (λ b e. grind (arith, nat_tests)) (decimal n) (written_digits n fits)

-- without a line feed
pub number_unended : (n : ℕ) → n < 2 ^ 64 → AllByRecursion (λ b. (b == 10) ≡ false) (decimal n)
number_unended n fits =
    each_digit (λ b. (b == 10) ≡ false) (λ b e. grind (arith, nat_tests)) (decimal n) (written_digits n fits)

-- a zero in front stands alone, by its test
alone : (b n : ℕ) → (not (b == 48) || (n == 0)) ≡ true → b ≡ 48 → n ≡ 0
alone b n e is = grind (arith, nat_tests)

-- digits that are a number are written for their value
written_so : (digits : List ℕ) → is_decimal digits ≡ true → value_of digits < 2 ^ 64
    → decimal (value_of digits) ≡ digits
written_so [] e fits = absurd (let bad : ⊥ = cc in bad)
written_so (b ∷ bs) e fits =
    let both = and_parts (list_all is_digit (b ∷ bs)) (not (b == 48) || (length bs == 0)) e in
    decimal-digits_value own (b ∷ bs) both.0 (omega arith)
    (λ first. let none : length bs ≡ 0 = alone b (length bs) both.1 first in omega (arith, none)) fits

-- a word that is read as a number is written for it
pub record IsWritten (word : List ℕ) (n : ℕ) : Type 0 where
  pub spelled : word ≡ decimal n
  pub fits : n < 2 ^ 64

-- what is there by a test
some_if : {A : Type 0} (t : Bool) (x y : A) → (if t then Some x else None) ≡ Some y → (t ≡ true) × (x ≡ y)
some_if true x y e = (refl, cc)
some_if false x y e = absurd (let bad : ⊥ = cc in bad)

pub number_written : (word : List ℕ) (n : ℕ) → number_of word ≡ Some n → IsWritten word n
number_written word n e =
    let found = some_if (is_decimal word && nat_lt (value_of word) (2 ^ 64)) (value_of word) n e in
    let tests = and_parts (is_decimal word) (nat_lt (value_of word) (2 ^ 64)) found.0 in
    let below : value_of word < 2 ^ 64 = ltb-true (value_of word) (2 ^ 64) tests.1 in
    record {
      spelled = sym (written_so word tests.0 below) ∙ ap (λ k. decimal k) found.1;
      fits = subst (λ (k : ℕ). k < 2 ^ 64) found.1 below;
    }

-- Readers

-- a number within its range, and the words behind it
pub ranged_back : (test : ℕ → Bool) (n : ℕ) (words : Words) → n < 2 ^ 64 → test n ≡ true
    → ranged test (decimal n ∷ words) ≡ Ok (n, words)
ranged_back test n words fits passes =
    ap (in_range test words) (number_read n fits) ∙ ap (λ t. if t then Ok (n, words) else Err causes.Range) passes

-- what is so of words that begin with a number within its range, is so of words of which one is read
pub ranged_tells : {B : Type 0} (P : Words → Type 0) (test : ℕ → Bool) (next : ℕ × Words → Result B Cause) (found : B)
    → ((n : ℕ) (rest : Words) → n < 2 ^ 64 → test n ≡ true → next (n, rest) ≡ Ok found → P (decimal n ∷ rest))
    → (words : Words) → (ranged test words >>= next) ≡ Ok found → P words
ranged_tells P test next found so [] e = absurd (let bad : ⊥ = cc in bad)
ranged_tells P test next found so (word ∷ words) e = by (number_of word) refl e
  where
    by : (o : Option ℕ) → number_of word ≡ o → (in_range test words o >>= next) ≡ Ok found → P (word ∷ words)
    by None is e = absurd (let bad : ⊥ = cc in bad)
    by (Some n) is e =
        let written = number_written word n is in
        let passes : test n ≡ true = grind (arith, e) in
        let rest : next (n, words) ≡ Ok found = rw passes at e in
        subst (λ (w : List ℕ). P (w ∷ words)) (sym written.spelled) (so n words written.fits passes rest)

-- what is so of no words, is so of those that end with a value
pub end_tells : {A : Type 0} (P : Words → A → Type 0) (value : A) → P [] value → (words : Words) (found : A)
    → at_end value words ≡ Ok found → P words found
end_tells P value here [] found e = subst (P []) (let same : value ≡ found = cc in same) here
end_tells P value here (word ∷ words) found e = absurd (let bad : ⊥ = cc in bad)

-- a word, and a number at the end
pub number_tells : {A : Type 0} (P : Words → A → Type 0) (name : List ℕ) (test : ℕ → Bool) (make : ℕ → A)
    → ((n : ℕ) → n < 2 ^ 64 → test n ≡ true → P (name ∷ decimal n ∷ []) (make n)) → (words : Words) (found : A)
    → (ranged test words >>= λ n. at_end (make n.0) n.1) ≡ Ok found → P (name ∷ words) found
number_tells P name test make so words found =
    ranged_tells (λ ws. P (name ∷ ws) found) test (λ n. at_end (make n.0) n.1) found
    (λ n rest fits passes. end_tells (λ ws x. P (name ∷ decimal n ∷ ws) x) (make n) (so n fits passes) rest found) words

-- what is read, and then what the rest gives
pub record AreRead {A B E F : Type 0} (first : Result A E) (next : A → Result B F) (found : B) : Type 0 where
  pub value : A
  pub read : first ≡ Ok value
  pub rest : next value ≡ Ok found

pub then_tells : {A B : Type 0} (first : Result A Cause) (next : A → Result B Cause) (found : B)
    → (first >>= next) ≡ Ok found → AreRead first next found
then_tells (Ok value) next found e = record { value = value; read = refl; rest = e }
then_tells (Err cause) next found e = absurd (let bad : ⊥ = cc in bad)

-- what holds of the words behind that of a row of a table
abbrev pub EachRow : {A : Type 0} → (Words → A → Type 0) → List (List ℕ × (Words → Result A Cause)) → Type 0
EachRow P [] = Unit {0}
EachRow {A = A} P (row ∷ rows) =
    ((words : Words) (found : A) → row.1 words ≡ Ok found → P (row.0 ∷ words) found) × EachRow P rows

-- holds of words that are read by the table
pub by_word_tells : {A : Type 0} (P : Words → A → Type 0) (table : List (List ℕ × (Words → Result A Cause)))
    → EachRow P table → (words : Words) (found : A) → by_word table words ≡ Ok found → P words found
by_word_tells P table rows [] found e = absurd (let bad : ⊥ = cc in bad)
by_word_tells {A = A} P table rows (word ∷ words) found e = walk table rows e
  where
    named : (row : List ℕ × (Words → Result A Cause)) (rows : List (List ℕ × (Words → Result A Cause)))
        → ((words : Words) (found : A) → row.1 words ≡ Ok found → P (row.0 ∷ words) found)
        → (by_word rows (word ∷ words) ≡ Ok found → P (word ∷ words) found)
        → (t : Bool) → same_name row.0 word ≡ t
        → option_map_or (λ read. read words) (if t then Some row.1 else beside rows word) (Err causes.Word) ≡ Ok found
        → P (word ∷ words) found
    named row rows here more true is e =
        let same : row.0 ≡ word = (bytes_eq-Decides row.0 word).0 is in
        subst (λ (w : List ℕ). P (w ∷ words) found) same (here words found e)
    named row rows here more false is e = more e

    walk : (table : List (List ℕ × (Words → Result A Cause))) → EachRow P table
        → by_word table (word ∷ words) ≡ Ok found → P (word ∷ words) found
    walk [] rows e = absurd (let bad : ⊥ = cc in bad)
    walk (row ∷ table) rows e = named row table rows.0 (walk table rows.1) (same_name row.0 word) refl e

-- a word, a number, and words that are read by the table
pub pair_tells : {A B : Type 0} (P : Words → B → Type 0) (Q : Words → A → Type 0) (name : List ℕ) (test : ℕ → Bool)
    (table : List (List ℕ × (Words → Result A Cause))) (make : ℕ → A → B) → EachRow Q table
    → ((n : ℕ) (rest : Words) (x : A) → n < 2 ^ 64 → test n ≡ true → Q rest x → P (name ∷ decimal n ∷ rest) (make n x))
    → (words : Words) (found : B)
    → (ranged test words >>= λ n. by_word table n.1 >>= λ x. Ok (make n.0 x)) ≡ Ok found → P (name ∷ words) found
pair_tells P Q name test table make rows so words found =
    ranged_tells (λ ws. P (name ∷ ws) found) test (λ n. by_word table n.1 >>= λ x. Ok (make n.0 x)) found
    (λ n rest fits passes e.
    let more = then_tells (by_word table rest) (λ x. Ok (make n x)) found e in
    let same : make n more.value ≡ found = let e = more.rest in cc in
    subst (P (name ∷ decimal n ∷ rest)) same
    (so n rest more.value fits passes (by_word_tells Q table rows rest more.value more.read))) words

-- Runs

-- the one text of some bytes is one of runs
is_runs : (bytes : List ℕ) → IsRunsBytes bytes → IsRuns (runs_text bytes) bytes
is_runs bytes are = record { spelled = refl; some_byte = are.some; not_long = are.not_long; are_bytes = are.each }

-- the words of that text are read as the bytes
pub runs_back : (bytes : List ℕ) → IsRunsBytes bytes → runs_words (words_of (runs_text bytes)) ≡ Ok (bytes, [])
runs_back bytes are = runs_words-some (runs_text bytes) bytes (is_runs bytes are)

-- words that are read as bytes are those of their text
pub record IsRead (words : Words) (found : List ℕ × Words) : Type 0 where
  pub stands : words ≡ words_of (runs_text found.0)
  pub none : found.1 ≡ []
  pub fits : IsRunsBytes found.0

pub runs_tell : (words : Words) (found : List ℕ × Words) → AreWords words → runs_words words ≡ Ok found
    → IsRead words found
runs_tell [] found are e = absurd (let bad : ⊥ = cc in bad)
runs_tell (word ∷ words) found are e = by (option_and_then fitting_bytes (runs_in (word ∷ words))) refl e
  where
    by : (o : Option (List ℕ)) → option_and_then fitting_bytes (runs_in (word ∷ words)) ≡ o
        → found_or causes.Runs [] o ≡ Ok found → IsRead (word ∷ words) found
    by None is e = absurd (let bad : ⊥ = cc in bad)
    by (Some bytes) is e =
        let same : (bytes, []) ≡ found = cc in
        let back : words_of (line_of (word ∷ words)) ≡ word ∷ words = words_back word words are in
        let told : IsRuns (line_of (word ∷ words)) bytes =
        (runs-agree (line_of (word ∷ words)) bytes).0
        (ap (λ (ws : Words). option_and_then fitting_bytes (runs_in ws)) back ∙ is) in
        let here : IsRead (word ∷ words) (bytes, []) = record {
          stands = sym back ∙ ap words_of told.spelled;
          none = refl;
          fits = record { some = told.some_byte; not_long = told.not_long; each = told.are_bytes };
        } in
        subst (λ (f : List ℕ × Words). IsRead (word ∷ words) f) same here

-- Line feeds

-- no byte of a text is a line feed
abbrev pub IsUnended : List ℕ → Type 0
IsUnended text = AllByRecursion (λ b. (b == 10) ≡ false) text

-- so it is with two texts
pub unended_both : (text rest : List ℕ) → IsUnended text → IsUnended rest → IsUnended (text ++ rest)
unended_both [] rest first second = second
unended_both (b ∷ bs) rest first second = (first.0, unended_both bs rest first.1 second)

-- and with the line of such words
pub line_unended : (words : Words) → AllByRecursion IsUnended words → IsUnended (line_of words)
line_unended [] all = tt
line_unended (word ∷ []) all = all.0
line_unended (word ∷ next ∷ words) all =
    unended_both word (32 ∷ line_of (next ∷ words)) all.0 (refl, line_unended (next ∷ words) all.1)

-- a number has none
pub digits_unended : (digits : List ℕ) → is_decimal digits ≡ true → IsUnended digits
digits_unended [] is = tt
digits_unended (b ∷ bs) is =
    each_digit (λ b. (b == 10) ≡ false) (λ b e. grind (arith, nat_tests)) (b ∷ bs)
    (and_parts (list_all is_digit (b ∷ bs)) _ is).0

-- nor has a word that is read as a run
run_unended : (word : List ℕ) (x : ByteRun) → run_of word ≡ Some x → IsUnended word
run_unended (high ∷ low ∷ star ∷ digits) x e =
    let run : ByteRun = record { byte = 16 * hex_value high + hex_value low; times = value_of digits } in
    let tests = (some_if _ run x e).0 in
    let one = and_parts (nat_lt (hex_value high) 16) _ tests in
    let two = and_parts (nat_lt (hex_value low) 16) _ one.1 in
    let three = and_parts (star == 42) _ two.1 in
    let four = and_parts (is_decimal digits) _ three.1 in
    (hex high one.0, (hex low two.0, (times star three.0, digits_unended digits four.0)))
  where
    hex : (b : ℕ) → nat_lt (hex_value b) 16 ≡ true → (b == 10) ≡ false
    hex b e = grind (arith, nat_tests)

    times : (b : ℕ) → (b == 42) ≡ true → (b == 10) ≡ false
    times b e = grind (arith, nat_tests)
run_unended word x e = absurd (let bad : ⊥ = cc in bad)

-- nor have words that are read as runs
runs_unended : (words : Words) (xs : List ByteRun) → runs_in words ≡ Some xs → AllByRecursion IsUnended words
runs_unended [] xs e = tt
runs_unended (word ∷ words) xs e =
    by (run_of word) refl (runs_in words) e (λ ys is. runs_unended words ys is)
  where
    by : (o : Option ByteRun) → run_of word ≡ o → (more : Option (List ByteRun))
        → option_and_then (λ x. option_and_then (add_run x) more) o ≡ Some xs
        → ((ys : List ByteRun) → more ≡ Some ys → AllByRecursion IsUnended words)
        → AllByRecursion IsUnended (word ∷ words)
    by None is more e rest = absurd (let bad : ⊥ = cc in bad)
    by (Some x) is None e rest = absurd (let bad : ⊥ = cc in bad)
    by (Some x) is (Some ys) e rest = (run_unended word x is, rest ys refl)

-- so the text of some bytes has none
pub text_unended : (bytes : List ℕ) → IsRunsBytes bytes → AllByRecursion IsUnended (words_of (runs_text bytes))
text_unended bytes are =
    by (runs_in (words_of (runs_text bytes))) refl ((runs-agree (runs_text bytes) bytes).1 (is_runs bytes are))
  where
    by : (o : Option (List ByteRun)) → runs_in (words_of (runs_text bytes)) ≡ o
        → option_and_then fitting_bytes o ≡ Some bytes → AllByRecursion IsUnended (words_of (runs_text bytes))
    by None is e = absurd (let bad : ⊥ = cc in bad)
    by (Some xs) is e = runs_unended (words_of (runs_text bytes)) xs is
