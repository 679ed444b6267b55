-- The forms of lines whose words are read in turn.
use Rattle.std.proofs.Common.{◌≡◌, ℕ, suc, ◌+◌, ◌-◌, ◌<◌, ◌≤◌, Bool, true, false, List, [], ◌∷◌, ◌++◌, length, Option, Some, None, option_and_then, Result, Ok, Err, refl, sym, ◌∙◌, ap, arith, if◌then◌else◌, codes, append_assoc, length-append}
use Rattle.geo_base.specs.Name.{is_name}
use Rattle.geo_base.specs.Runs.{IsRuns}
use Rattle.geo_base.specs.declared.limits.TheConstants.{MAX_COMPONENTS}
use Rattle.geo_model.specs.declared.command.Cause.{Cause}
use Rattle.geo_model.specs.declared.command.Cause.TheVariants as causes
use Rattle.geo_model.specs.Script.{◌>>=◌, Words, words_of, next_word, short_name, long_name, by_word, mark_words, mark_concat_words, mark_stripe_words, runs_words, runs_in, fitting_bytes, found_or, names_within, long_names, line_tests, plan_with_line, words_line}
use Rattle.geo_model.specs.Words.{unless, first_error}
use Rattle.geo_model.specs.World.{Plan}
use Rattle.geo_script.proofs.RunsAgree.{runs-agree}
use Rattle.geo_script.proofs.WordsLemmas.{next_word-cons, parts-some, word_in, rest_in}

-- the words behind `mark`'s handle, by the next of them
pub mark_words-next : (ws : Words) (handle : List ℕ) (rest : Words) (word : List ℕ) (words : Words)
    → short_name ws ≡ Ok (handle, rest) → next_word rest ≡ Ok (word, words) →
    mark_words ws
    ≡ by_word ((codes "concat", mark_concat_words handle) ∷ (codes "stripe", mark_stripe_words handle) ∷ [])
    (word ∷ words)
mark_words-next ws handle rest word words e f =
    ap (λ r. r >>= λ h. by_word ((codes "concat", mark_concat_words h.0) ∷ (codes "stripe", mark_stripe_words h.0)
    ∷ []) h.1) e
    ∙ ap (λ ws. by_word ((codes "concat", mark_concat_words handle) ∷ (codes "stripe", mark_stripe_words handle)
    ∷ []) ws) (next_word-cons rest word words f)

-- the words of a line that are read as runs, if these are the bytes of its text
pub runs_words-some : (text bytes : List ℕ) → IsRuns text bytes → runs_words (words_of text) ≡ Ok (bytes, [])
runs_words-some text bytes is = split (words_of text) (parts-some 32 text) bytes ((runs-agree text bytes).1 is)
  where
    split : (ws : Words) → 1 ≤ length ws → (bytes : List ℕ)
        → option_and_then fitting_bytes (runs_in ws) ≡ Some bytes → runs_words ws ≡ Ok (bytes, [])
    split [] h bytes e = absurd (omega arith)
    split (word ∷ words) h bytes e = ap (λ o. found_or causes.Runs [] o) e

-- words of a text that is none of runs are refused
pub runs_words-none : (text : List ℕ) → ((bytes : List ℕ) → IsRuns text bytes → ⊥)
    → runs_words (words_of text) ≡ Err causes.Runs
runs_words-none text not_runs =
    split (words_of text) (parts-some 32 text) (λ bytes e. not_runs bytes ((runs-agree text bytes).0 e))
  where
    none : (o : Option (List ℕ)) → ((bytes : List ℕ) → o ≡ Some bytes → ⊥) → found_or causes.Runs [] o ≡ Err causes.Runs
    none None not_some = refl
    none (Some bytes) not_some = absurd (not_some bytes refl)

    split : (ws : Words) → 1 ≤ length ws
        → ((bytes : List ℕ) → option_and_then fitting_bytes (runs_in ws) ≡ Some bytes → ⊥)
        → runs_words ws ≡ Err causes.Runs
    split [] h not_some = absurd (omega arith)
    split (word ∷ words) h not_some = none (option_and_then fitting_bytes (runs_in (word ∷ words))) not_some

-- names before those of a reader
abbrev pub after : List (List ℕ) → Result (List (List ℕ)) Cause → Result (List (List ℕ)) Cause
after xs (Ok ys) = Ok (xs ++ ys)
after xs (Err cause) = Err cause

-- the cause of a refusal
abbrev cause_of : {A : Type 0} → Result A Cause → Cause
cause_of (Ok x) = causes.Words
cause_of (Err cause) = cause

-- a word by whether it is a name
abbrev named_word : Bool → List ℕ → Words → Result (List ℕ × Words) Cause
named_word t word words = if t then Ok (word, words) else Err causes.Name

-- a name of a component that is read stands first
record IsFirst (ws : Words) (name : List ℕ) (rest : Words) : Type 0 where
  stands : ws ≡ name ∷ rest
  named : is_name name ≡ true

-- what is read as a name stands first and is one
is_first : (ws : Words) (name : List ℕ) (rest : Words) → long_name ws ≡ Ok (name, rest) → IsFirst ws name rest
is_first [] name rest e = absurd (cc)
is_first (word ∷ words) name rest e = into (is_name word) refl e
  where
    into : (t : Bool) → is_name word ≡ t → named_word t word words ≡ Ok (name, rest) → IsFirst (word ∷ words) name rest
    into false t e = absurd (cc)
    into true t e =
        let same : word ≡ name = ap word_in e in
        record {
          stands = ap (λ w. w ∷ words) same ∙ ap (λ ws. name ∷ ws) (ap rest_in e);
          named =
              ap is_name (sym same) ∙ t;
        }

-- names within a number, by the first of them
within-next : (n : ℕ) (word : List ℕ) (words : Words) → is_name word ≡ true
    → names_within (suc n) (word ∷ words) ≡ (names_within n words >>= λ names. Ok (word ∷ names))
within-next n word words named =
    ap (λ t. if t then (names_within n words >>= λ names. Ok (word ∷ names)) else Err causes.Name) named

-- a name before the others moves behind those so far
after-next : (xs : List (List ℕ)) (name : List ℕ) (r : Result (List (List ℕ)) Cause)
    → after xs (r >>= λ names. Ok (name ∷ names)) ≡ after (xs ++ name ∷ []) r
after-next xs name (Ok ys) = ap Ok (sym (append_assoc xs (name ∷ []) ys))
after-next xs name (Err cause) = refl

-- so many names may still stand
abbrev pub room : List (List ℕ) → ℕ
room xs = MAX_COMPONENTS - length xs

-- a name more
pub names_on : (xs : List (List ℕ)) (ws : Words) (name : List ℕ) (rest : Words)
    (all : Result (List (List ℕ)) Cause) → length xs < MAX_COMPONENTS → long_name ws ≡ Ok (name, rest) →
    after xs (names_within (room xs) ws) ≡ all
    → after (xs ++ name ∷ []) (names_within (room (xs ++ name ∷ [])) rest) ≡ all
names_on xs ws name rest all few e whole =
    let is = is_first ws name rest e in
    let less : room xs ≡ suc (room (xs ++ name ∷ [])) = one_less (length xs) _ (length-append xs (name ∷ [])) few in
    sym (ap (λ n. after xs (names_within n ws)) less
    ∙ ap (λ ws. after xs (names_within (suc (room (xs ++ name ∷ []))) ws)) is.stands
    ∙ ap (after xs) (within-next (room (xs ++ name ∷ [])) name rest is.named)
    ∙ after-next xs name (names_within (room (xs ++ name ∷ [])) rest)) ∙ whole
  where
    one_less : (a b : ℕ) → b ≡ a + 1 → a < MAX_COMPONENTS → MAX_COMPONENTS - a ≡ suc (MAX_COMPONENTS - b)
    one_less a b e h = omega arith

-- so many names may stand behind the first
abbrev more_names : ℕ
more_names = MAX_COMPONENTS - 1

-- a word that is no name
within-fault : (n : ℕ) (ws : Words) (cause : Cause) → 1 ≤ length ws → long_name ws ≡ Err cause
    → names_within (suc n) ws ≡ Err cause
within-fault n [] cause some e = absurd (omega arith)
within-fault n (word ∷ words) cause some e = into (is_name word) e
  where
    into : (t : Bool) → named_word t word words ≡ Err cause
        → (if t then (names_within n words >>= λ names. Ok (word ∷ names)) else Err causes.Name) ≡ Err cause
    into true e = absurd (cc)
    into false e = ap Err (ap cause_of e)

-- names of components, where a word stands
long_names-some : (ws : Words) → 1 ≤ length ws
    → long_names ws ≡ (names_within MAX_COMPONENTS ws >>= λ names. Ok (names, []))
long_names-some [] some = absurd (omega arith)
long_names-some (word ∷ words) some = refl

-- a later word is no name
pub names_fault : (xs : List (List ℕ)) (ws all : Words) (cause : Cause) → length xs < MAX_COMPONENTS → 1 ≤ length ws
    → 1 ≤ length all → long_name ws ≡ Err cause →
    after xs (names_within (room xs) ws) ≡ names_within MAX_COMPONENTS all → long_names all ≡ Err cause
names_fault xs ws all cause few some any e whole =
    let more : room xs ≡ suc (more_names - length xs) = omega arith in
    let fault : after xs (names_within (room xs) ws) ≡ Err cause = ap (λ n. after xs (names_within n ws)) more
    ∙ ap (after xs) (within-fault (more_names - length xs) ws cause some e) in
    long_names-some all any ∙ ap (λ r. r >>= λ names. Ok (names, [])) (sym whole ∙ fault)

-- a line that isn't skipped, by its first word
pub plan_with_line-by : (plan : Plan) (n : ℕ) (line word : List ℕ) (words : Words)
    → first_error (line_tests n line) ≡ None → words_of line ≡ word ∷ words
    → plan_with_line plan n line ≡ words_line plan n (word ∷ words)
plan_with_line-by plan n line word words e f = ap (λ o. unless o (words_of line) >>= words_line plan n) e
    ∙ ap (words_line plan n) f
