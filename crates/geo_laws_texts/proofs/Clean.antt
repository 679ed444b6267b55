-- A line of clean words is read word by word.
use Rattle.std.specs.Prelude.{◌≡◌, ℕ, ◌<◌, ◌==◌, ◌&&◌, nat_le, Bool, true, false, List, [], ◌∷◌, ◌++◌, length, All}
use Rattle.std.specs.List.{AllByRecursion, join_with_byte, list_all, list_any}
use Rattle.std.proofs.Common.{refl, ◌∙◌, ap, arith}
use Rattle.std.proofs.lemmas.Bool.{ne_eqb}
use Rattle.std.proofs.lemmas.Bool.Decides.{nat_tests}
use Rattle.std.proofs.lemmas.List.Elements.{All-from_recursion, recursion_from_All}
use Rattle.std.proofs.lemmas.List.Folds.{list_all-append}
use Rattle.std.proofs.lemmas.List.Splits.{slice_split_at, slice_split_none}
use Rattle.std.proofs.lemmas.List.Sums.{AllPass-from_list_all, list_all-from_AllPass}
use Rattle.geo_base.proofs.AllLists.{all_weaker}
use Rattle.geo_model.specs.Script.{Words, words_of}

-- a byte that isn't a space, and that may stand in a line
abbrev pub is_clean_byte : ℕ → Bool
is_clean_byte b = nat_le 33 b && nat_le b 126

-- a word of such bytes, at least one
pub record IsClean (word : List ℕ) : Type 0 where
  pub some_byte : 0 < length word
  pub bytes : list_all is_clean_byte word ≡ true

-- the line of some words
abbrev pub line_of : Words → List ℕ
line_of words = join_with_byte 32 words

-- a clean byte is no space, no line feed, and in range
no_space : (b : ℕ) → is_clean_byte b ≡ true → (b == 32) ≡ false
no_space b clean = grind (arith, nat_tests)

-- nor a line feed
no_feed : (b : ℕ) → is_clean_byte b ≡ true → (b == 10) ≡ false
no_feed b clean = grind (arith, nat_tests)

-- and it may stand in a line
in_range : (b : ℕ) → is_clean_byte b ≡ true → (nat_le 32 b && nat_le b 126) ≡ true
in_range b clean = grind (arith, nat_tests)

-- of each byte of a word
each_byte : (P : ℕ → Type 0) → ((b : ℕ) → is_clean_byte b ≡ true → P b) → (bs : List ℕ)
    → list_all is_clean_byte bs ≡ true → AllByRecursion P bs
each_byte P so bs all =
    all_weaker (λ b. is_clean_byte b ≡ true) P so bs
    (recursion_from_All (λ b. is_clean_byte b ≡ true) bs (AllPass-from_list_all is_clean_byte bs all))

-- the words of a line of clean words are these
pub words_back : (w : List ℕ) (ws : Words) → AllByRecursion IsClean (w ∷ ws) → words_of (line_of (w ∷ ws)) ≡ w ∷ ws
words_back w [] all =
    slice_split_none (λ b. b == 32) w
    (All-from_recursion (λ b. (b == 32) ≡ false) w (each_byte (λ b. (b == 32) ≡ false) no_space w all.0.bytes))
words_back w (v ∷ ws) all =
    slice_split_at (λ b. b == 32) w 32 (line_of (v ∷ ws))
    (All-from_recursion (λ b. (b == 32) ≡ false) w (each_byte (λ b. (b == 32) ≡ false) no_space w all.0.bytes)) refl
    ∙ ap (λ xs. w ∷ xs) (words_back v ws all.1)

-- a test of all bytes of two texts
all_both : (test : ℕ → Bool) (xs ys : List ℕ) → list_all test xs ≡ true → list_all test ys ≡ true
    → list_all test (xs ++ ys) ≡ true
all_both test xs ys first second = list_all-append test xs ys ∙ (rw (first, second) refl)

-- from each to all
all_bytes : (test : ℕ → Bool) (bs : List ℕ) → AllByRecursion (λ b. test b ≡ true) bs → list_all test bs ≡ true
all_bytes test bs all = list_all-from_AllPass test bs (All-from_recursion (λ b. test b ≡ true) bs all)

-- each byte of the line is in range
pub line_in_range : (w : List ℕ) (ws : Words) → AllByRecursion IsClean (w ∷ ws)
    → list_all (λ b. nat_le 32 b && nat_le b 126) (line_of (w ∷ ws)) ≡ true
line_in_range w [] all =
    all_bytes (λ b. nat_le 32 b && nat_le b 126) w
    (each_byte (λ b. (nat_le 32 b && nat_le b 126) ≡ true) in_range w all.0.bytes)
line_in_range w (v ∷ ws) all =
    all_both (λ b. nat_le 32 b && nat_le b 126) w (32 ∷ line_of (v ∷ ws))
    (all_bytes (λ b. nat_le 32 b && nat_le b 126) w
    (each_byte (λ b. (nat_le 32 b && nat_le b 126) ≡ true) in_range w all.0.bytes))
    (line_in_range v ws all.1)

-- no byte of the line is a line feed
pub line_no_feed : (w : List ℕ) (ws : Words) → AllByRecursion IsClean (w ∷ ws)
    → All (λ b. (b == 10) ≡ false) (line_of (w ∷ ws))
line_no_feed w ws all =
    All-from_recursion (λ b. (b == 10) ≡ false) (line_of (w ∷ ws)) (by w ws all)
  where
    joined : (xs ys : List ℕ) → AllByRecursion (λ (b : ℕ). (b == 10) ≡ false) xs
        → AllByRecursion (λ (b : ℕ). (b == 10) ≡ false) ys
        → AllByRecursion (λ (b : ℕ). (b == 10) ≡ false) (xs ++ ys)
    joined [] ys first second = second
    joined (x ∷ xs) ys first second = (first.0, joined xs ys first.1 second)

    by : (w : List ℕ) (ws : Words) → AllByRecursion IsClean (w ∷ ws)
        → AllByRecursion (λ (b : ℕ). (b == 10) ≡ false) (line_of (w ∷ ws))
    by w [] all = each_byte (λ b. (b == 10) ≡ false) no_feed w all.0.bytes
    by w (v ∷ ws) all =
        joined w (32 ∷ line_of (v ∷ ws)) (each_byte (λ b. (b == 10) ≡ false) no_feed w all.0.bytes)
        (refl, by v ws all.1)

-- no word is empty
pub none_empty : (ws : Words) → AllByRecursion IsClean ws → list_any (λ word. length word == 0) ws ≡ false
none_empty [] all = refl
none_empty (w ∷ ws) all = rw (some w all.0.some_byte) (none_empty ws all.1)
  where
    some : (w : List ℕ) → 0 < length w → (length w == 0) ≡ false
    some [] h = absurd (omega (arith, h))
    some (b ∷ bs) h = ne_eqb (length (b ∷ bs)) 0 (λ e. absurd (omega (arith, e, h)))
