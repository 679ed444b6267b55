-- The lines of steps: those that are written are read, and what is read as a step was written as it, in the one way
-- that there is.
use Rattle.std.proofs.Common.{◌≡◌, ℕ, ◌^◌, ◌<◌, ◌≤◌, nat_lt, Bool, true, List, [], ◌∷◌, ◌++◌, length, Ok, codes, decimal, refl, sym, ◌∙◌, ap, arith, rules, lt-ltb, append_assoc, ltb-true}
use Rattle.std.specs.List.{AllByRecursion}
use Rattle.geo_base.specs.Runs.{runs_text}
use Rattle.geo_model.specs.declared.step.DeviceResult.{DeviceResult}
use Rattle.geo_model.specs.declared.step.DeviceResult.TheVariants as devices
use Rattle.geo_model.specs.declared.step.Step.{Step}
use Rattle.geo_model.specs.declared.step.Step.TheVariants as steps
use Rattle.geo_model.specs.Script.{◌>>=◌, Words, any_number, at_end, by_word, words_of, runs_words}
use Rattle.geo_laws_traces.specs.TraceLaws.{IsWritable, IsWritableAnswer}
use Rattle.geo_headline.specs.Traces.{answer_text, step_text, step_line, small_number, answer_table, step_table, seat_and_step, marked, take_words, failed_words, bytes_words}
use Rattle.geo_laws_traces.proofs.Words.{IsWord, AreWords, line_of, some_word, are_words, words_back, line_back, number_word, number_unended, ranged_back, ranged_tells, end_tells, number_tells, then_tells, EachRow, by_word_tells, pair_tells, IsUnended, runs_back, text_unended, line_unended, runs_tell}

-- The words that are written

-- the words of a device's answer
abbrev pub answer_words : DeviceResult → Words
answer_words devices.Done = codes "done" ∷ []
answer_words (devices.Failed done) = codes "failed" ∷ decimal done ∷ []
answer_words (devices.Bytes bytes) = codes "bytes" ∷ words_of (runs_text bytes)

-- those of a step
abbrev pub step_words : Step → Words
step_words (steps.Go actor) = codes "go" ∷ decimal actor ∷ []
step_words steps.Event = codes "event" ∷ []
step_words steps.Judge = codes "judge" ∷ []
step_words steps.Reap = codes "reap" ∷ []
step_words steps.Wash = codes "wash" ∷ []
step_words (steps.Start b) = codes "start" ∷ decimal b ∷ []
step_words (steps.Take disk b) = codes "take" ∷ decimal disk ∷ decimal b ∷ []
step_words (steps.Deliver b got) = codes "deliver" ∷ decimal b ∷ answer_words got
step_words (steps.Up b) = codes "up" ∷ decimal b ∷ []

-- those of a seat and its step, behind the mark
abbrev pub item_words : ℕ × Step → Words
item_words item = codes "%" ∷ decimal item.0 ∷ step_words item.1

-- a word before others in a line
pub line_more : (word : List ℕ) (words : Words) → 1 ≤ length words → line_of (word ∷ words) ≡ word ++ 32 ∷ line_of words
line_more word [] some = absurd (omega arith)
line_more word (next ∷ words) some = refl

-- an answer's text is the line of its words
answer_spelled : (got : DeviceResult) → answer_text got ≡ line_of (answer_words got)
answer_spelled devices.Done = refl
answer_spelled (devices.Failed done) = refl
answer_spelled (devices.Bytes bytes) =
    sym (line_more (codes "bytes") (words_of (runs_text bytes)) (some_word (runs_text bytes))
    ∙ ap (λ (xs : List ℕ). codes "bytes" ++ 32 ∷ xs) (line_back (runs_text bytes)))

-- an answer has a word
some_answer : (got : DeviceResult) → 1 ≤ length (answer_words got)
some_answer (devices.Bytes bytes) = omega arith
some_answer got = omega arith

-- a step's text is the line of its words
step_spelled : (s : Step) → step_text s ≡ line_of (step_words s)
step_spelled (steps.Take disk b) =
    ap (λ (xs : List ℕ). codes "take " ++ xs) (append_assoc (decimal disk) (32 ∷ []) (decimal b))
step_spelled (steps.Deliver b got) =
    ap (λ (xs : List ℕ). codes "deliver " ++ xs)
    (append_assoc (decimal b) (32 ∷ []) (answer_text got)
    ∙ ap (λ (xs : List ℕ). decimal b ++ 32 ∷ xs) (answer_spelled got)
    ∙ sym (line_more (decimal b) (answer_words got) (some_answer got)))
step_spelled s = refl

-- a step has a word
some_step : (s : Step) → 1 ≤ length (step_words s)
some_step (steps.Up b) = omega arith
some_step s = omega arith

-- the line of a step is that of its words
pub line_spelled : (item : ℕ × Step) → step_line item ≡ line_of (item_words item) ++ 10 ∷ []
line_spelled item =
    ap (λ (xs : List ℕ). codes "% " ++ xs ++ 10 ∷ [])
    (append_assoc (decimal item.0) (32 ∷ []) (step_text item.1)
    ∙ ap (λ (xs : List ℕ). decimal item.0 ++ 32 ∷ xs) (step_spelled item.1)
    ∙ sym (line_more (decimal item.0) (step_words item.1) (some_step item.1)))

-- Each is a word, with no line feed in it

-- words of which none has a space or a line feed
pub record AreClean (words : Words) : Type 0 where
  pub spaceless : AreWords words
  pub unended : AllByRecursion IsUnended words

-- words behind a word that is known
clean_behind : (word : List ℕ) (words : Words) → IsWord word → IsUnended word → AreClean words → AreClean (word ∷ words)
clean_behind word words is unended are = record { spaceless = (is, are.spaceless); unended = (unended, are.unended) }

-- words behind a number
clean_number : (n : ℕ) (words : Words) → n < 2 ^ 64 → AreClean words → AreClean (decimal n ∷ words)
clean_number n words fits are = clean_behind (decimal n) words (number_word n fits) (number_unended n fits) are

-- no words
clean_none : AreClean []
clean_none = record { spaceless = tt; unended = tt }

-- those of an answer
clean_answer : (got : DeviceResult) → IsWritableAnswer got → AreClean (answer_words got)
clean_answer devices.Done fits = record { spaceless = search rules; unended = search rules }
clean_answer (devices.Failed done) fits =
    clean_behind (codes "failed") (decimal done ∷ []) (search rules) (search rules)
    (clean_number done [] (omega (arith, fits)) clean_none)
clean_answer (devices.Bytes bytes) fits =
    clean_behind (codes "bytes") (words_of (runs_text bytes)) (search rules) (search rules)
    (record { spaceless = are_words (runs_text bytes); unended = text_unended bytes fits })

-- those of a step
clean_step : (s : Step) → IsWritable s → AreClean (step_words s)
clean_step (steps.Go actor) fits =
    clean_behind (codes "go") (decimal actor ∷ []) (search rules) (search rules)
    (clean_number actor [] (omega (arith, fits)) clean_none)
clean_step (steps.Start b) fits =
    clean_behind (codes "start") (decimal b ∷ []) (search rules) (search rules) (clean_number b [] fits clean_none)
clean_step (steps.Take disk b) fits =
    clean_behind (codes "take") (decimal disk ∷ decimal b ∷ []) (search rules) (search rules)
    (clean_number disk (decimal b ∷ []) (omega (arith, fits.0)) (clean_number b [] fits.1 clean_none))
clean_step (steps.Deliver b got) fits =
    clean_behind (codes "deliver") (decimal b ∷ answer_words got) (search rules) (search rules)
    (clean_number b (answer_words got) fits.0 (clean_answer got fits.1))
clean_step (steps.Up b) fits =
    clean_behind (codes "up") (decimal b ∷ []) (search rules) (search rules) (clean_number b [] fits clean_none)
clean_step s fits = record { spaceless = search rules; unended = search rules }

-- a seat and a step that can be written
abbrev pub IsWritableItem : ℕ × Step → Type 0
IsWritableItem item = (item.0 < 2 ^ 32) × IsWritable item.1

-- those of a seat and its step
pub clean_item : (item : ℕ × Step) → IsWritableItem item → AreClean (item_words item)
clean_item item fits =
    clean_behind (codes "%") (decimal item.0 ∷ step_words item.1) (search rules) (search rules)
    (clean_number item.0 (step_words item.1) (omega (arith, fits.0)) (clean_step item.1 fits.1))

-- What is written is read

-- a small number
small_back : (n : ℕ) (words : Words) → n < 2 ^ 32 → small_number (decimal n ∷ words) ≡ Ok (n, words)
small_back n words fits = ranged_back (λ n. nat_lt n (2 ^ 32)) n words (omega (arith, fits)) (lt-ltb n (2 ^ 32) fits)

-- any number
any_back : (n : ℕ) (words : Words) → n < 2 ^ 64 → any_number (decimal n ∷ words) ≡ Ok (n, words)
any_back n words fits = ranged_back (λ n. true) n words fits refl

-- a device's answer
answer_back : (got : DeviceResult) → IsWritableAnswer got → by_word answer_table (answer_words got) ≡ Ok got
answer_back devices.Done fits = refl
answer_back (devices.Failed done) fits = ap (λ r. r >>= λ n. at_end (devices.Failed n.0) n.1) (small_back done [] fits)
answer_back (devices.Bytes bytes) fits = ap (λ r. r >>= λ b. at_end (devices.Bytes b.0) b.1) (runs_back bytes fits)

-- a step
step_back : (s : Step) → IsWritable s → by_word step_table (step_words s) ≡ Ok s
step_back (steps.Go actor) fits = ap (λ r. r >>= λ a. at_end (steps.Go a.0) a.1) (small_back actor [] fits)
step_back (steps.Start b) fits = ap (λ r. r >>= λ n. at_end (steps.Start n.0) n.1) (any_back b [] fits)
step_back (steps.Take disk b) fits =
    ap (λ r. r >>= λ d. any_number d.1 >>= λ n. at_end (steps.Take d.0 n.0) n.1)
    (small_back disk (decimal b ∷ []) fits.0)
    ∙ ap (λ r. r >>= λ n. at_end (steps.Take disk n.0) n.1) (any_back b [] fits.1)
step_back (steps.Deliver b got) fits =
    ap (λ r. r >>= λ n. by_word answer_table n.1 >>= λ x. Ok (steps.Deliver n.0 x))
    (any_back b (answer_words got) fits.0)
    ∙ ap (λ r. r >>= λ x. Ok (steps.Deliver b x)) (answer_back got fits.1)
step_back (steps.Up b) fits = ap (λ r. r >>= λ n. at_end (steps.Up n.0) n.1) (any_back b [] fits)
step_back s fits = refl

-- the line of a seat and its step, without its line feed
pub item_back : (item : ℕ × Step) → IsWritableItem item → marked seat_and_step (line_of (item_words item)) ≡ Ok item
item_back item fits =
    ap (λ ws. by_word ((codes "%", seat_and_step) ∷ []) ws)
    (words_back (codes "%") (decimal item.0 ∷ step_words item.1) (clean_item item fits).spaceless)
    ∙ ap (λ r. r >>= λ n. by_word step_table n.1 >>= λ s. Ok (n.0, s)) (small_back item.0 (step_words item.1) fits.0)
    ∙ ap (λ r. r >>= λ s. Ok (item.0, s)) (step_back item.1 fits.1)

-- it has no line feed
pub item_unended : (item : ℕ × Step) → IsWritableItem item → IsUnended (line_of (item_words item))
item_unended item fits = line_unended (item_words item) (clean_item item fits).unended

-- what the reader asks of a small number
abbrev small : ℕ → Bool
small n = nat_lt n (2 ^ 32)

-- words are those of an answer
record IsAnswer (words : Words) (got : DeviceResult) : Type 0 where
  stands : words ≡ answer_words got
  fits : IsWritableAnswer got

abbrev TellsAnswer : Words → DeviceResult → Type 0
TellsAnswer words got = AreWords words → IsAnswer words got

-- words are those of a step
record IsStep (words : Words) (s : Step) : Type 0 where
  stands : words ≡ step_words s
  fits : IsWritable s

abbrev TellsStep : Words → Step → Type 0
TellsStep words s = AreWords words → IsStep words s

-- Answers

failed_tells : (words : Words) (got : DeviceResult) → failed_words words ≡ Ok got
    → TellsAnswer (codes "failed" ∷ words) got
failed_tells =
    number_tells TellsAnswer (codes "failed") small (λ n. devices.Failed n)
    (λ n fits passes are. record { stands = refl; fits = ltb-true n (2 ^ 32) passes })

bytes_tell : (words : Words) (got : DeviceResult) → bytes_words words ≡ Ok got
    → TellsAnswer (codes "bytes" ∷ words) got
bytes_tell words got e are =
    let first = then_tells (runs_words words) (λ b. at_end (devices.Bytes b.0) b.1) got e in
    let read = runs_tell words first.value are.1 first.read in
    end_tells (λ ws x. IsAnswer (codes "bytes" ∷ words) x) (devices.Bytes first.value.0)
    (record { stands = ap (λ (ws : Words). codes "bytes" ∷ ws) read.stands; fits = read.fits }) first.value.1 got
    first.rest

answer_rows : EachRow TellsAnswer answer_table
answer_rows = (
  end_tells (λ ws x. TellsAnswer (codes "done" ∷ ws) x) devices.Done (λ are. record { stands = refl; fits = tt }),
  (failed_tells, (bytes_tell, tt)),
)

-- Steps

-- a step without numbers
bare_tells : (name : List ℕ) (value : Step) → IsStep (name ∷ []) value → (words : Words) (s : Step)
    → at_end value words ≡ Ok s → TellsStep (name ∷ words) s
bare_tells name value is = end_tells (λ ws x. TellsStep (name ∷ ws) x) value (λ are. is)

take_tells : (words : Words) (s : Step) → take_words words ≡ Ok s → TellsStep (codes "take" ∷ words) s
take_tells words s =
    ranged_tells (λ ws. TellsStep (codes "take" ∷ ws) s) small
    (λ d. any_number d.1 >>= λ b. at_end (steps.Take d.0 b.0) b.1) s
    (λ disk rest fits passes.
    number_tells (λ ws x. TellsStep (codes "take" ∷ ws) x) (decimal disk) (λ n. true) (λ b. steps.Take disk b)
    (λ b below always are. record { stands = refl; fits = (ltb-true disk (2 ^ 32) passes, below) }) rest s)
    words

step_rows : EachRow TellsStep step_table
step_rows = (
  number_tells TellsStep (codes "go") small (λ n. steps.Go n)
      (λ n fits passes are. record { stands = refl; fits = ltb-true n (2 ^ 32) passes }),
  (
    bare_tells (codes "event") steps.Event (record { stands = refl; fits = tt }),
    (
      bare_tells (codes "judge") steps.Judge (record { stands = refl; fits = tt }),
      (
        bare_tells (codes "reap") steps.Reap (record { stands = refl; fits = tt }),
        (
          bare_tells (codes "wash") steps.Wash (record { stands = refl; fits = tt }),
          (
            number_tells TellsStep (codes "start") (λ n. true) (λ b. steps.Start b)
                (λ b fits always are. record { stands = refl; fits = fits }),
            (
              take_tells,
              (
                pair_tells TellsStep TellsAnswer (codes "deliver") (λ n. true) answer_table
                    (λ b got. steps.Deliver b got) answer_rows
                    (λ b rest got fits always told are.
                    let is = told are.1.1 in
                    record {
                      stands = ap (λ (ws : Words). codes "deliver" ∷ decimal b ∷ ws) is.stands;
                      fits = (fits, is.fits);
                    }),
                (
                  number_tells TellsStep (codes "up") (λ n. true) (λ b. steps.Up b)
                      (λ b fits always are. record { stands = refl; fits = fits }),
                  tt,
                ),
              ),
            ),
          ),
        ),
      ),
    ),
  ),
)

-- Lines

-- words are those of a seat and its step, behind the mark
record IsItem (words : Words) (item : ℕ × Step) : Type 0 where
  stands : words ≡ item_words item
  fits : IsWritableItem item

abbrev TellsItem : Words → ℕ × Step → Type 0
TellsItem words item = AreWords words → IsItem words item

seat_tells : (words : Words) (item : ℕ × Step) → seat_and_step words ≡ Ok item → TellsItem (codes "%" ∷ words) item
seat_tells =
    pair_tells TellsItem TellsStep (codes "%") small step_table (λ seat s. (seat, s)) step_rows
    (λ seat rest s fits passes told are.
    let is = told are.1.1 in
    record {
      stands = ap (λ (ws : Words). codes "%" ∷ decimal seat ∷ ws) is.stands;
      fits = (ltb-true seat (2 ^ 32) passes, is.fits);
    })

-- a line that is read as a seat and its step is written for them
pub record IsStepLine (line : List ℕ) (item : ℕ × Step) : Type 0 where
  pub spelled : line ++ 10 ∷ [] ≡ step_line item
  pub fits : IsWritableItem item

pub item_tells : (line : List ℕ) (item : ℕ × Step) → marked seat_and_step line ≡ Ok item → IsStepLine line item
item_tells line item e =
    let is = by_word_tells TellsItem ((codes "%", seat_and_step) ∷ []) (seat_tells, tt) (words_of line) item e
    (are_words line) in
    record {
      spelled =
          ap (λ (xs : List ℕ). xs ++ 10 ∷ []) (sym (line_back line) ∙ ap line_of is.stands)
          ∙ sym (line_spelled item);
      fits = is.fits;
    }
