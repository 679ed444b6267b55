-- Numbers that are read digit by digit, and the words that they are.
use Rattle.std.proofs.Common.{◌≡◌, ℕ, zero, suc, ◌-◌, ◌^◌, ◌≤◌, ◌==◌, nat_lt, Bool, true, false, not, ◌&&◌, ◌||◌, List, [], ◌∷◌, ◌++◌, length, take, drop, Some, None, refl, sym, ◌∙◌, ap, arith, if◌then◌else◌, length-take}
use Rattle.std.specs.List.{All, list_all}
use Rattle.std.proofs.lemmas.Bool.{lt-ltb}
use Rattle.std.proofs.lemmas.Bool.Decides.{nat_tests}
use Rattle.std.proofs.lemmas.List.{take_rest, take-append-drop, nil_from_length, append-nil}
use Rattle.std.proofs.lemmas.List.Elements.{All-from_recursion}
use Rattle.std.proofs.lemmas.List.Splits.{slice_split_at, slice_split_none}
use Rattle.geo_model.specs.Script.{is_digit, is_decimal, value_of, number_of, words_of}
use Rattle.geo_laws_traces.proofs.Words.{each_digit}
use Rattle.geo_verify.specs.Numbers.{StartsWith, has_form}

-- a zero in front stands alone
alone : (b n count : ℕ) → count ≤ n → ((suc n == 1) || (nat_lt 1 (suc n) && not (b == 48))) ≡ true
    → (not (b == 48) || (count == 0)) ≡ true
alone b n count few form = grind (arith, nat_tests)

-- so many first digits are written as a number is
decimal_front : (text : List ℕ) (count : ℕ) → count ≤ length text → list_all is_digit (take count text) ≡ true
    → has_form count text ≡ true → is_decimal (take count text) ≡ true
decimal_front [] count within digits form = absurd (let one : count ≡ 1 = grind (arith, nat_tests) in omega arith)
decimal_front (b ∷ bs) zero within digits form = absurd (let bad : ⊥ = cc in bad)
decimal_front (b ∷ bs) (suc n) within digits form =
    let few : length (take n bs) ≤ n = omega (arith, length-take n bs) in
    let is : (not (b == 48) || (length (take n bs) == 0)) ≡ true = alone b n (length (take n bs)) few form in
    rw (digits, is) refl

-- so many first digits are a number
digits_read : (text : List ℕ) (count value : ℕ) → count ≤ length text → list_all is_digit (take count text) ≡ true
    → value_of (take count text) ≡ value → value ≤ 1000000000000000000 → has_form count text ≡ true
    → number_of (take count text) ≡ Some value
digits_read text count value within digits is small form =
    by (take count text) value (decimal_front text count within digits form) is
    (lt-ltb value (2 ^ 64) (omega arith))
  where
    by : (word : List ℕ) (n : ℕ) → is_decimal word ≡ true → value_of word ≡ n → nat_lt n (2 ^ 64) ≡ true
        → number_of word ≡ Some n
    by word n is value fits = rw (is, value, fits) refl

-- they stand in front of the rest
pub number_front : (text : List ℕ) (count value : ℕ) → count ≤ length text → list_all is_digit (take count text) ≡ true
    → value_of (take count text) ≡ value → value ≤ 1000000000000000000 → has_form count text ≡ true
    → (word : List ℕ) × ((text ≡ word ++ take (length text - count) (drop count text)) × (number_of word ≡ Some value))
number_front text count value within digits is small form = (
  take count text,
  (
    sym (take-append-drop count text) ∙ ap (λ rest. take count text ++ rest) (sym (take_rest text count)),
    digits_read text count value within digits is small form,
  ),
)

-- a number is of digits
digits_of : (word : List ℕ) (n : ℕ) → number_of word ≡ Some n → list_all is_digit word ≡ true
digits_of [] n is = absurd (let bad : ⊥ = cc in bad)
digits_of (b ∷ bs) n is =
    by (list_all is_digit (b ∷ bs)) (not (b == 48) || (length bs == 0)) (nat_lt (value_of (b ∷ bs)) (2 ^ 64))
    (value_of (b ∷ bs)) is
  where
    by : (digits form small : Bool) (value : ℕ)
        → (if (digits && form) && small then Some value else None) ≡ Some n → digits ≡ true
    by true form small value is = refl
    by false form small value is = absurd (let bad : ⊥ = cc in bad)

-- no byte of a number is a space
no_spaces : (word : List ℕ) (n : ℕ) → number_of word ≡ Some n → All (λ b. (b == 32) ≡ false) word
no_spaces word n is =
    All-from_recursion (λ b. (b == 32) ≡ false) word
    (each_digit (λ b. (b == 32) ≡ false) (λ b e. grind (arith, nat_tests)) word (digits_of word n is))

-- a number with nothing behind it is the only word
pub only_word : (text word rest : List ℕ) (n : ℕ) → text ≡ word ++ rest → number_of word ≡ Some n → length rest ≡ 0
    → StartsWith (words_of text) n []
only_word text word rest n parts is none = (
  word,
  (
    ap words_of (parts ∙ ap (λ more. word ++ more) (nil_from_length rest none) ∙ append-nil word)
        ∙ slice_split_none (λ b. b == 32) word (no_spaces word n is),
    is,
  ),
)

-- a number with a space behind it is the first word
pub first_word : (text word rest behind : List ℕ) (n : ℕ) → text ≡ word ++ rest → number_of word ≡ Some n
    → rest ≡ 32 ∷ behind → StartsWith (words_of text) n (words_of behind)
first_word text word rest behind n parts is space = (
  word,
  (
    ap words_of (parts ∙ ap (λ more. word ++ more) space)
        ∙ slice_split_at (λ b. b == 32) word 32 behind (no_spaces word n is) refl,
    is,
  ),
)
