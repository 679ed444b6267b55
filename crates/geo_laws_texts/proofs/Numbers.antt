-- A number that is written is read.
use Rattle.std.proofs.Common.{◌||◌, ◌≡◌, ℕ, ◌+◌, ◌-◌, ◌*◌, ◌^◌, ◌<◌, zero, suc, ◌==◌, ◌&&◌, nat_lt, Bool, true, false, not, List, [], ◌∷◌, length, fold, Some, refl, ap, ◌∙◌, arith, get_or, rules, decimal}
use Rattle.std.specs.Fmt.{digits}
use Rattle.std.specs.List.{list_all}
use Rattle.std.proofs.lemmas.Bool.{lt-ltb}
use Rattle.std.proofs.lemmas.Bool.Decides.{nat_tests}
use Rattle.std.proofs.lemmas.Fmt.{digits_decimal, digits_value-decimal, decimal_nonempty, first_decimal}
use Rattle.std.proofs.lemmas.Str.Parse.{IsNumeralModel, numerals_by_fold}
use Rattle.geo_model.specs.Script.{is_digit, is_decimal, value_of, number_of}

-- the value of digits behind a number
abbrev value_behind : ℕ → List ℕ → ℕ
value_behind value digits = fold (λ n b. 10 * n + (b - 48)) value digits

-- each byte is a decimal digit
abbrev pub AreDigits : List ℕ → Type 0
AreDigits ds = list_all is_digit ds ≡ true

-- these are the digits and the value of what is printed
own : IsNumeralModel AreDigits (value_behind 0)
own = numerals_by_fold _ (search rules) value_behind (search rules)

-- digits that don't begin with a zero
unless_zero : (p q r : Bool) → p ≡ true → q ≡ false → (p && (not q || r)) ≡ true
unless_zero p q r e f = ap (λ t. t && (not q || r)) e ∙ ap (λ t. not t || r) f

-- digits that begin above zero are a number
decimal_from_digits : (ds : List ℕ) → AreDigits ds → 0 < length ds → 48 < get_or ds 0 0 → is_decimal ds ≡ true
decimal_from_digits [] digits some first = absurd (omega arith)
decimal_from_digits (b ∷ bs) digits some first =
    let other : (b == 48) ≡ false = above b first in
    unless_zero (list_all is_digit (b ∷ bs)) (b == 48) (length bs == 0) digits other
  where
    above : (b : ℕ) → 48 < b → (b == 48) ≡ false
    above b h = grind (arith, nat_tests)

-- what is written for a number is digits
pub written_digits : (n : ℕ) → n < 2 ^ 64 → AreDigits (decimal n)
written_digits n fits = digits_decimal own n fits

-- it is read as decimal
pub decimal_read : (n : ℕ) → n < 2 ^ 64 → is_decimal (decimal n) ≡ true
unfolding digits
decimal_read zero fits = refl
decimal_read (suc n) fits =
    decimal_from_digits (decimal (suc n)) (digits_decimal own (suc n) fits) (decimal_nonempty (suc n) fits)
    (first_decimal (suc n) (omega arith) fits)

-- with its value
pub value_read : (n : ℕ) → n < 2 ^ 64 → value_of (decimal n) ≡ n
value_read n fits = digits_value-decimal own n fits

-- a number that is written is read
pub number_read : (n : ℕ) → n < 2 ^ 64 → number_of (decimal n) ≡ Some n
number_read n fits =
    by (decimal n) n (decimal_read n fits) (value_read n fits) (lt-ltb n (2 ^ 64) fits)
  where
    by : (ds : List ℕ) (n : ℕ) → is_decimal ds ≡ true → value_of ds ≡ n → nat_lt n (2 ^ 64) ≡ true
        → number_of ds ≡ Some n
    by ds n is value fits = rw (is, value, fits) refl
