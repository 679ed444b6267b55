-- Which words are accepted.
use Rattle.std.specs.Fmt.{digits}
use Rattle.std.specs.Prelude.{◌≡◌, ◌≢◌, ◌⊎◌, ℕ, zero, suc, ◌+◌, ◌<◌, ◌≤◌, List, [], ◌∷◌, length, get_or, codes, decimal}
use Rattle.std.proofs.Common.{refl, sym, ◌∙◌, ap, arith, inl, inr}
use Rattle.std.proofs.lemmas.Fmt.{decimal_digit, first_decimal, decimal_injective}
use Rattle.geo_base.specs.declared.limits.TheConstants.{MAX_START}
use Rattle.geo_headline.specs.Modes.{Mode, StepMode, GenMode, Accepts, words_for}
use Rattle.geo_rows.specs.WorkedWords.{AskNothing, gen_words}

-- each mode but `gen` is asked for by one word, and `gen` by three
one_or_three : (mode : Mode) → (length (words_for mode) ≡ 1) ⊎ (length (words_for mode) ≡ 3)
one_or_three (GenMode s c) = inr refl
one_or_three _ = inl refl

-- so no other number of words is accepted
other_number : (words : List (List ℕ)) → length words ≢ 1 → length words ≢ 3 → AskNothing words
other_number words not_one not_three mode a =
    elim (one_or_three mode) [
      | inl one ↦ not_one (ap (λ ws. length ws) a.spelled ∙ one)
      | inr three ↦ not_three (ap (λ ws. length ws) a.spelled ∙ three)
    ]

pub no_word-refused : AskNothing []
no_word-refused = other_number [] (λ e. omega (arith, e)) (λ e. omega (arith, e))

pub two_words-refused : AskNothing (codes "step" ∷ codes "step" ∷ [])
two_words-refused =
    other_number (codes "step" ∷ codes "step" ∷ []) (λ e. omega (arith, e)) (λ e. omega (arith, e))

-- the first letter of the first word, which is a small letter in each mode
letter : List (List ℕ) → ℕ
letter ((c ∷ cs) ∷ words) = c
letter words = 0

small_letter : (mode : Mode) → 97 ≤ letter (words_for mode)
unfolding letter
small_letter StepMode = omega arith
small_letter _ = omega arith

pub dash-refused : AskNothing (codes "--help" ∷ [])
unfolding letter
dash-refused mode a =
    let dash : 45 ≡ letter (words_for mode) = ap letter a.spelled in
    let small : 97 ≤ letter (words_for mode) = small_letter mode in
    omega (arith, dash, small)

-- three words are those of `gen`
only_gen : (words : List (List ℕ)) (mode : Mode) → length words ≡ 3 → Accepts words mode
    → (s : ℕ) × (c : ℕ) × Accepts words (GenMode s c)
only_gen words (GenMode s c) three a = (s, c, a)
only_gen words _ three a = absurd (omega (arith, three, ap (λ ws. length ws) a.spelled))

second : List (List ℕ) → List ℕ
second (a ∷ b ∷ rest) = b
second words = []

third : List (List ℕ) → List ℕ
third (a ∷ b ∷ c ∷ rest) = c
third words = []

zero_in_front : (s : ℕ) → s ≤ MAX_START → codes "01" ≡ decimal s → ⊥
zero_in_front zero low e = let both : codes "01" ≡ (48 + 0) ∷ [] = e ∙ decimal_digit 0 (omega arith) in
    let bad : ⊥ = cc in bad
zero_in_front (suc s) low e =
    let first : 48 < get_or (decimal (suc s)) 0 0 = first_decimal (suc s) (omega arith) (omega (arith, low)) in
    let same : 48 < get_or (codes "01") 0 0 = rw (sym e) at first in
    omega (arith, same)

pub zero_in_front-refused : AskNothing (gen_words (codes "01") (codes "3"))
unfolding second
zero_in_front-refused mode a =
    let gen = only_gen (gen_words (codes "01") (codes "3")) mode refl a in
    zero_in_front gen.0 gen.2.in_range.0 (ap second gen.2.spelled)

large : decimal 4001 ≡ codes "4001"
unfolding digits
large = refl

pub too_many-refused : AskNothing (gen_words (codes "1") (codes "4001"))
unfolding third
too_many-refused mode a =
    let gen = only_gen (gen_words (codes "1") (codes "4001")) mode refl a in
    let few : gen.1 ≤ 4000 = gen.2.in_range.1 in
    let same : 4001 ≡ gen.1 =
    decimal_injective 4001 gen.1 (omega arith) (omega (arith, few)) (large ∙ ap third gen.2.spelled) in
    omega (arith, same, few)

-- what `worked_words` says
pub ruleset worked_words = (
  no_word-refused,
  two_words-refused,
  dash-refused,
  zero_in_front-refused,
  too_many-refused,
)
