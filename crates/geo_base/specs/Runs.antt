-- Texts of bytes: runs `BB*N`, one for each stretch of equal bytes.
use Rattle.std.specs.Prelude.{◌≡◌, ℕ, ◌+◌, ◌/◌, ◌%◌, ◌<◌, ◌≤◌, ◌==◌, nat_lt, List, [], ◌∷◌, ◌++◌, length, map, take, All, codes, decimal, if◌then◌else◌}
use Rattle.std.specs.List.{join_with_byte}
use Rattle.geo_base.specs.declared.runs.RunsRefusal.{RunsRefusal}
use Rattle.geo_base.specs.declared.runs.RunsRefusal.TheVariants.{At, NoMemory}
use Rattle.geo_base.specs.declared.limits.TheConstants.{MAX_RUNS_BYTES}

-- a run: a byte, and how many times it stands
pub record ByteRun : Type 0 where
  pub byte : ℕ
  pub times : ℕ

-- one more byte before the runs
abbrev pub add_byte : ℕ → List ByteRun → List ByteRun
add_byte b [] = record { byte = b; times = 1 } ∷ []
add_byte b (x ∷ xs) =
    if b == x.byte
    then record { byte = b; times = x.times + 1 } ∷ xs
    else record { byte = b; times = 1 } ∷ (x ∷ xs)

-- the bytes as runs, of which neighbours have different bytes
abbrev pub runs_of : List ℕ → List ByteRun
runs_of [] = []
runs_of (b ∷ bs) = add_byte b (runs_of bs)

-- a digit below 16, in lower case
abbrev pub hex_digit : ℕ → ℕ
hex_digit n = if nat_lt n 10 then 48 + n else 87 + n

-- a run as `BB*N`: two hexadecimal digits, and a decimal number
abbrev pub run_text : ByteRun → List ℕ
run_text x = hex_digit (x.byte / 16) ∷ (hex_digit (x.byte % 16) ∷ (codes "*" ++ decimal x.times))

-- the one text of a list of bytes: its runs, with a space between
unfoldable pub runs_text : List ℕ → List ℕ
runs_text bytes = join_with_byte 32 (map run_text (runs_of bytes))

-- the text is that of these bytes, some and no more than the limit
pub record IsRuns (text bytes : List ℕ) : Type 0 where
  pub spelled : text ≡ runs_text bytes
  pub some_byte : 1 ≤ length bytes
  pub not_long : length bytes ≤ MAX_RUNS_BYTES
  pub are_bytes : All (λ b. b < 256) bytes

-- the text begins a text of runs
abbrev pub BeginsRuns : List ℕ → Type 0
BeginsRuns text = (rest bytes : List ℕ) × IsRuns (text ++ rest) bytes

-- the text isn't one of runs, and its longest prefix that begins one has this length
pub record IsRunsFault (text : List ℕ) (place : ℕ) : Type 0 where
  pub not_runs : (bytes : List ℕ) → IsRuns text bytes → ⊥
  pub inside : place ≤ length text
  pub begins : BeginsRuns (take place text)
  pub longest : (n : ℕ) → place < n → n ≤ length text → BeginsRuns (take n text) → ⊥

-- a refusal names the fault, but for want of memory
abbrev pub IsRunsRefusal : List ℕ → RunsRefusal → Type 0
IsRunsRefusal text (At place) = IsRunsFault text place
IsRunsRefusal text NoMemory = Unit {0}
