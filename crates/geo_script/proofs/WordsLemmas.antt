-- The words of a line, from the first on.
use Rattle.std.proofs.Common.{◌≡◌, ℕ, ◌+◌, ◌<◌, ◌≤◌, ◌==◌, ◌-◌, nat_lt, Bool, true, false, not, List, [], ◌∷◌, length, get_or, take, drop, Option, Some, None, Result, Ok, Err, refl, sym, ◌∙◌, ap, arith, cond, length-drop, if◌then◌else◌}
use Rattle.std.specs.List.{slice_split, position, position_or_len, onto_first}
use Rattle.std.proofs.lemmas.List.Splits.{slice_split_first}
use Rattle.std.proofs.lemmas.List.{take_all}
use Rattle.std.proofs.lemmas.List.Sums.{position_or_len_is}
use Rattle.std.proofs.lemmas.Bool.{false_from_ne_true}
use Rattle.std.proofs.lemmas.Bool.Decides.{nat_tests}
use Rattle.memchr.specs.Find.{IsFirstByte, is_byte}
use Rattle.geo_base.proofs.Tests.{short_name-named}
use Rattle.geo_base.specs.Name.{name_of, is_name, is_short_name}
use Rattle.std.specs.Option.{is_some}
use Rattle.std.specs.Borrow.{Bor}
use Rattle.geo_script.specs.WordsLeft.{words_left}
use Rattle.geo_model.specs.declared.command.Cause.{Cause}
use Rattle.geo_model.specs.declared.command.Cause.TheVariants as causes
use Rattle.geo_model.specs.ScriptWords.{Words, next_word, short_name, at_end, class_word, class_names, beside, found_or}

-- the first place of a byte, told as a list's first place that passes
pub first_place : (b : ℕ) (xs : List ℕ) (found : Option ℕ) → IsFirstByte (is_byte b) xs found
    → found ≡ position (λ x. x == b) xs
first_place b xs None nowhere =
    let whole : position_or_len (λ x. x == b) xs ≡ length xs =
    position_or_len_is (λ x. x == b) xs (length xs) 0 (omega arith)
    (λ k lt. false_from_ne_true (get_or xs k 0 == b) (nowhere k (omega arith) lt)) (λ lt. absurd (omega arith)) in
    let outside : nat_lt (length xs) (length xs) ≡ false = grind (arith, nat_tests) in
    rw (whole, outside) refl
first_place b xs (Some at) first =
    let lt : at < length xs = first.0.high in
    let same : position_or_len (λ x. x == b) xs ≡ at =
    position_or_len_is (λ x. x == b) xs at 0 (omega arith)
    (λ k below. false_from_ne_true (get_or xs k 0 == b) (first.0.before k (omega arith) below)) (λ lt. first.1) in
    let inside : nat_lt at (length xs) ≡ true = grind (arith, nat_tests) in
    rw (same, inside) refl

-- a byte that stands there ends the first part
pub split_at : (b : ℕ) (xs : List ℕ) (at : ℕ) → position (λ x. x == b) xs ≡ Some at
    → slice_split (λ x. x == b) xs ≡ take at xs ∷ slice_split (λ x. x == b) (drop (at + 1) xs)
split_at b xs at e = into (nat_lt (position_or_len (λ x. x == b) xs) (length xs)) refl e
  where
    into : (t : Bool) → nat_lt (position_or_len (λ x. x == b) xs) (length xs) ≡ t
        → (if t then Some (position_or_len (λ x. x == b) xs) else None) ≡ Some at
        → slice_split (λ x. x == b) xs ≡ take at xs ∷ slice_split (λ x. x == b) (drop (at + 1) xs)
    into true inside e =
        let lt : position_or_len (λ x. x == b) xs < length xs = grind (arith, nat_tests) in
        let same : position_or_len (λ x. x == b) xs ≡ at = cc in
        slice_split_first (λ x. x == b) xs 0 lt ∙ ap (λ n. take n xs ∷ slice_split (λ x. x == b) (drop (n + 1) xs)) same
    into false inside e = absurd (cc)

-- no part but one, up to the end
split_whole : (b : ℕ) (xs : List ℕ) → length xs ≤ position_or_len (λ x. x == b) xs
    → slice_split (λ x. x == b) xs ≡ xs ∷ []
split_whole b [] h = refl
split_whole b (x ∷ xs) h = into (x == b) h (split_whole b xs)
  where
    into : (t : Bool) → length (x ∷ xs) ≤ cond (not t) (1 + position_or_len (λ x. x == b) xs) 0
        → (length xs ≤ position_or_len (λ x. x == b) xs → slice_split (λ x. x == b) xs ≡ xs ∷ [])
        → cond t ([] ∷ slice_split (λ x. x == b) xs) (onto_first x (slice_split (λ x. x == b) xs)) ≡ (x ∷ xs) ∷ []
    into true h more = absurd (omega arith)
    into false h more = ap (onto_first x) (more (omega arith))

-- no part but one, where no such byte stands
pub split_none : (b : ℕ) (xs : List ℕ) → position (λ x. x == b) xs ≡ None → slice_split (λ x. x == b) xs ≡ xs ∷ []
split_none b xs e = into (nat_lt (position_or_len (λ x. x == b) xs) (length xs)) refl e
  where
    into : (t : Bool) → nat_lt (position_or_len (λ x. x == b) xs) (length xs) ≡ t
        → (if t then Some (position_or_len (λ x. x == b) xs) else None) ≡ None → slice_split (λ x. x == b) xs ≡ xs ∷ []
    into true inside e = absurd (cc)
    into false inside e = split_whole b xs (grind (arith, nat_tests))

-- a line has a first word
pub at_end-words : {A : Type 0} (value : A) (rest : List ℕ)
    → at_end value (slice_split (λ x. x == 32) rest) ≡ Err causes.Words
at_end-words value [] = refl
at_end-words value (x ∷ xs) = into (x == 32) (slice_split (λ x. x == 32) xs)
  where
    into : (t : Bool) (parts : List (List ℕ))
        → at_end value (if t then [] ∷ parts else onto_first x parts) ≡ Err causes.Words
    into true parts = refl
    into false [] = refl
    into false (part ∷ parts) = refl

-- what is no name is no short name
pub no_name-no_short_name : (word : List ℕ) → name_of word ≡ None → is_short_name word ≡ false
no_name-no_short_name word e = into (is_short_name word) refl
  where
    into : (t : Bool) → is_short_name word ≡ t → t ≡ false
    into false short = refl
    into true short =
        let named : is_name word ≡ true = short_name-named word short in
        let none : Some word ≡ None = sym (ap (λ t. if t then Some word else None) named) ∙ e in
        absurd (cc)

-- what stands behind a byte of a line, as a slice gives it
pub behind : (at : ℕ) (xs : List ℕ) → take (length xs - (at + 1)) (drop (at + 1) xs) ≡ drop (at + 1) xs
behind at xs = take_all (length xs - (at + 1)) (drop (at + 1) xs) (omega (arith, length-drop (at + 1) xs))

-- the word that was read
abbrev pub word_in : Result (List ℕ × Words) Cause → List ℕ
word_in (Ok x) = x.0
word_in (Err cause) = []

-- a word that is no name is no short one
pub short_name-refused : (ws : Words) (word : List ℕ) (rest : Words) → next_word ws ≡ Ok (word, rest)
    → name_of word ≡ None → Err causes.Name ≡ short_name ws
short_name-refused [] word rest e none = absurd (cc)
short_name-refused (x ∷ xs) word rest e none =
    let same : x ≡ word = ap word_in e in
    let refused : is_short_name x ≡ false = ap is_short_name same ∙ no_name-no_short_name word none in
    rw refused refl

-- the words behind it
abbrev pub rest_in : Result (List ℕ × Words) Cause → Words
rest_in (Ok x) = x.1
rest_in (Err cause) = []

-- a class is read from the next word
pub class_word-next : (ws : Words) (word : List ℕ) (rest : Words) → next_word ws ≡ Ok (word, rest)
    → class_word ws ≡ found_or causes.Word rest (beside class_names word)
class_word-next [] word rest e = absurd (cc)
class_word-next (x ∷ xs) word rest e = ap (λ r. found_or causes.Word (rest_in r) (beside class_names (word_in r))) e

-- there is a first part
pub parts-some : (b : ℕ) (xs : List ℕ) → 1 ≤ length (slice_split (λ x. x == b) xs)
parts-some b [] = omega arith
parts-some b (x ∷ xs) = into (x == b) (slice_split (λ y. y == b) xs)
  where
    into : (t : Bool) (parts : List (List ℕ)) → 1 ≤ length (if t then [] ∷ parts else onto_first x parts)
    into true parts = omega arith
    into false [] = omega arith
    into false (part ∷ parts) = omega arith

-- a number above 0 is not 0
not_none : (n : ℕ) → 1 ≤ n → (n == 0) ≡ false
not_none n some = grind (arith, nat_tests)

-- no word is left only behind the last one
pub none-left : (rest : Option (Bor (List ℕ))) → not (is_some rest) ≡ (length (words_left rest) == 0)
none-left None = refl
none-left (Some rest) = sym (not_none (length (slice_split (λ x. x == 32) rest.now)) (parts-some 32 rest.now))

-- the next word stands first
pub next_word-cons : (ws : Words) (word : List ℕ) (rest : Words) → next_word ws ≡ Ok (word, rest) → ws ≡ word ∷ rest
next_word-cons [] word rest e = absurd (cc)
next_word-cons (x ∷ xs) word rest e = ap (λ r. word_in r ∷ rest_in r) e

-- a test that is the other's opposite
pub from_not : (a b : Bool) → a ≡ not b → b ≡ not a
from_not true true e = absurd (cc)
from_not true false e = refl
from_not false true e = refl
from_not false false e = absurd (cc)
