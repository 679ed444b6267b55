-- Words that are written as numbers, and lists of words.
use Rattle.std.proofs.Common.{◌≡◌, ◌↔◌, ℕ, zero, suc, ◌^◌, ◌<◌, ◌≤◌, true, false, List, [], ◌∷◌, length, Option, Some, None, Ok, Err, sym, ◌∙◌, ap, subst, arith, get_or, decimal, codes, bytes_eq, lit≤, Bool, IsTrue, rules}
use Rattle.std.specs.Fmt.{digits}
use Rattle.std.specs.Str.{all_ascii_digits}
use Rattle.std.specs.Str.Parse.{ParsesUnsigned, digits_value}
use Rattle.std.specs.Prelude.{string_bytes}
use Rattle.std.specs.declared.string.String.{String}
use Rattle.std.specs.declared.alloc.Global.{Global}
use Rattle.std.proofs.lemmas.Fmt.{digits_decimal, digits_value-decimal, decimal-digits_value, decimal_nonempty, first_decimal}
use Rattle.std.proofs.lemmas.Str.Parse.{IsNumeralModel, numerals_by_value, tells_all_ascii_digits, not_in_digits, parse_plain}
use Rattle.geo_base.specs.declared.limits.TheConstants.{MAX_DRAWN_LINES, MAX_START}
use Rattle.geo_headline.specs.Modes.{Accepts, IsMode, Mode, words_for}
use Rattle.geo_run.specs.Numbers.{IsNumberWithin, IsPlain}
use Rattle.geo_run.specs.declared.words.Threaded.TheVariants as threads
use Rattle.geo_run.specs.declared.words.Work.{Work}
use Rattle.geo_run.specs.Work.{AsksCount, AsksFor, AsksThreaded, word_bytes}

-- texts of digits
abbrev pub AreDigits : List ℕ → Type 0
AreDigits ds = all_ascii_digits ds ≡ true

pub own : IsNumeralModel AreDigits (digits_value 10)
own = numerals_by_value AreDigits tells_all_ascii_digits

-- what is written for a number is plain
pub plain_decimal : (n : ℕ) → n < 2 ^ 64 → IsPlain (decimal n)
unfolding digits
plain_decimal n fits = record {
  no_plus = not_in_digits own (decimal n) 43 (digits_decimal own n fits) (λ range. absurd (omega (arith, range.0))) 0
      (decimal_nonempty n fits);
  no_zero = λ e. by n fits e;
}
  where
    by : (k : ℕ) → k < 2 ^ 64 → get_or (decimal k) 0 0 ≡ 48 → length (decimal k) ≤ 1
    by zero small e = lit≤ tt
    by (suc k) small e = search (rules, first_decimal (suc k) (omega arith) small)

-- a plain word that is read is written so
pub read_plain : (word : List ℕ) (n : ℕ) → IsPlain word → ParsesUnsigned {E = Unit {0}} 32 10 word (Ok n)
    → word ≡ decimal n
read_plain word n plain read = search (rules, decimal-digits_value own word, own)

-- what is written for a number of 32 bits is read
pub unread_plain : (word : List ℕ) (n : ℕ) → n < 2 ^ 32 → word ≡ decimal n
    → ParsesUnsigned {E = Unit {0}} 32 10 word (Err tt) → ⊥
unread_plain word n small is unread =
    let fits : n < 2 ^ 64 = omega (arith, small) in
    let plain : IsPlain word = subst IsPlain (sym is) (plain_decimal n fits) in
    parse_plain own {E = Unit {0}} 32 word (Err tt) unread plain.no_plus (
      subst AreDigits (sym is) (digits_decimal own n fits),
      subst (λ (w : List ℕ). 0 < length w) (sym is) (decimal_nonempty n fits),
      (let value : digits_value 10 word ≡ n = ap (λ w. digits_value 10 w) is ∙ digits_value-decimal own n fits in
          omega (arith, value, small)),
    )

-- what is read is a number of 32 bits
pub read_small : (word : List ℕ) (n : ℕ) → ParsesUnsigned {E = Unit {0}} 32 10 word (Ok n) → n < 2 ^ 32
read_small word n read = search rules

-- the first of two lists that are the same, and the others; and no list that has one is empty
pub first_same : (x y : List ℕ) (xs ys : List (List ℕ)) → x ∷ xs ≡ y ∷ ys → x ≡ y
first_same x y xs ys e = cc

pub rest_same : (x y : List ℕ) (xs ys : List (List ℕ)) → x ∷ xs ≡ y ∷ ys → xs ≡ ys
rest_same x y xs ys e = cc

pub none_is_some : (x : List ℕ) (xs : List (List ℕ)) → x ∷ xs ≡ [] → ⊥
none_is_some x xs e = cc

-- three words are accepted for no mode, if no numbers are written so
not_generated : (first start count : List ℕ)
    → ((s c : ℕ) → s ≤ MAX_START → c ≤ MAX_DRAWN_LINES → start ≡ decimal s → count ≡ decimal c → ⊥)
    → AsksFor (first ∷ start ∷ count ∷ []) None
not_generated first start count h = search rules

-- START isn't a number
pub no_start : (start count : List ℕ) → IsNumberWithin MAX_START start None
    → AsksFor (codes "gen" ∷ start ∷ count ∷ []) None
no_start start count none = not_generated (codes "gen") start count (λ s c few less is other. none s few is)

-- START is a number, and COUNT is one or isn't
pub with_start : (start count : List ℕ) (n : ℕ) (r : Option Work) → IsNumberWithin MAX_START start (Some n)
    → AsksCount n count r → AsksFor (codes "gen" ∷ start ∷ count ∷ []) r
with_start start count n None is none = search rules
with_start start count n (Some work) is counted = search rules

-- the words by their items
pub one_word : (words : List (String Global)) (w : String Global) → 1 ≤ length words → length words < 2
    → w ≡ get_or words 0 w → word_bytes words ≡ string_bytes w ∷ []
one_word [] w some few at = absurd (omega (arith, some))
one_word (x ∷ []) w some few at = ap (λ (v : String Global). string_bytes v ∷ []) (sym at)
one_word (x ∷ y ∷ zs) w some few at = absurd (omega (arith, few))

pub three_words : (words : List (String Global)) (f s c : String Global) → 3 ≤ length words → length words < 4
    → f ≡ get_or words 0 f → s ≡ get_or words 1 s → c ≡ get_or words 2 c
    → word_bytes words ≡ string_bytes f ∷ string_bytes s ∷ string_bytes c ∷ []
three_words [] f s c some few a b d = absurd (omega (arith, some))
three_words (x ∷ []) f s c some few a b d = absurd (omega (arith, some))
three_words (x ∷ y ∷ []) f s c some few a b d = absurd (omega (arith, some))
three_words (x ∷ y ∷ z ∷ []) f s c some few a b d = search rules
three_words (x ∷ y ∷ z ∷ u ∷ us) f s c some few a b d = absurd (omega (arith, few))

-- a word that asks for a mode of one word
pub asks_word : (mode : Mode) (word only : List ℕ) → words_for mode ≡ only ∷ [] → IsMode mode → word ≡ only
    → Accepts (word ∷ []) mode
asks_word mode word only e range same = record { spelled = ap (λ w. w ∷ []) same ∙ sym e; in_range = range }

-- the word `gen` and two others
pub asks_generation : (first text start count : List ℕ) (r : Option Work) → text ≡ first
    → true ≡ bytes_eq text (codes "gen")
    → AsksFor (codes "gen" ∷ start ∷ count ∷ []) r → AsksFor (first ∷ start ∷ count ∷ []) r
asks_generation first text start count r is e asks = search rules

-- another word asks for no work
pub asks_nothing : (word : List ℕ) → (word ≡ codes "step" → ⊥) → (word ≡ codes "sweep" → ⊥)
    → (word ≡ codes "verify" → ⊥) → AsksFor (word ∷ []) None
asks_nothing word no_step no_sweep no_verify = search rules

-- the words are one word, or they aren't
pub is_word : (words : List (String Global)) (w : String Global) (text only : List ℕ) (b : Bool) → 1 ≤ length words
    → length words < 2 → w ≡ get_or words 0 w → text ≡ string_bytes w → b ≡ bytes_eq text only
    → (IsTrue b → word_bytes words ≡ only ∷ []) × (word_bytes words ≡ only ∷ [] → IsTrue b)
is_word [] w text only b some few at is e = absurd (omega (arith, some))
is_word (x ∷ []) w text only b some few at is e = search rules
is_word (x ∷ y ∷ zs) w text only b some few at is e = absurd (omega (arith, few))

-- the one word `run`, `watch` or `trace` starts threads
pub asks_run : (words : List (List ℕ)) (is : Bool) → is ≡ true → IsTrue is ↔ (words ≡ codes "run" ∷ [])
    → AsksThreaded words (Some threads.Run)
asks_run words is e word = record { spelled = word.0 e; in_range = tt }

pub asks_watch : (words : List (List ℕ)) (is : Bool) → is ≡ true → IsTrue is ↔ (words ≡ codes "watch" ∷ [])
    → AsksThreaded words (Some threads.Watch)
asks_watch words is e word = record { spelled = word.0 e; in_range = tt }

pub asks_trace : (words : List (List ℕ)) (is : Bool) → is ≡ true → IsTrue is ↔ (words ≡ codes "trace" ∷ [])
    → AsksThreaded words (Some threads.Trace)
asks_trace words is e word = record { spelled = word.0 e; in_range = tt }

-- other words start none
pub asks_alone : (words : List (List ℕ)) (run watch trace : Bool) → run ≡ false → watch ≡ false → trace ≡ false
    → IsTrue run ↔ (words ≡ codes "run" ∷ []) → IsTrue watch ↔ (words ≡ codes "watch" ∷ [])
    → IsTrue trace ↔ (words ≡ codes "trace" ∷ []) → AsksThreaded words None
asks_alone words run watch trace no_run no_watch no_trace is_run is_watch is_trace = search rules
