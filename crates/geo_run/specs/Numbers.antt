-- Words that are written as numbers.
use Rattle.std.specs.Prelude.{◌≡◌, ◌≢◌, ◌≤◌, ℕ, List, length, Option, Some, None, decimal, slice_index}

-- neither a plus nor a zero stands before other bytes
pub record IsPlain (word : List ℕ) : Type 0 where
  pub no_plus : slice_index word 0 ≢ 43
  pub no_zero : slice_index word 0 ≡ 48 → length word ≤ 1

-- the word is written as a number that isn't above a limit, or as none
abbrev pub IsNumberWithin : ℕ → List ℕ → Option ℕ → Type 0
IsNumberWithin limit word (Some n) = (word ≡ decimal n) × (n ≤ limit)
IsNumberWithin limit word None = (n : ℕ) → n ≤ limit → word ≢ decimal n
