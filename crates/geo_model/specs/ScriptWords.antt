-- Readers of the words of a script's line: each gives its value and the words that are left, or the cause of the fault.
use Rattle.std.specs.Prelude.{ℕ, zero, suc, ◌+◌, ◌-◌, ◌*◌, ◌^◌, ◌==◌, nat_lt, nat_le, Bool, true, false, not, ◌&&◌, ◌||◌, List, [], ◌∷◌, length, fold, flat_map, replicate, sum_by, Option, Some, None, Result, Ok, Err, codes, option_and_then, if◌then◌else◌}
use Rattle.std.specs.List.{list_all}
use Rattle.std.specs.Option.{option_map_or}
use Rattle.geo_base.specs.Name.{is_short_name, is_name}
use Rattle.geo_base.specs.Runs.{ByteRun}
use Rattle.geo_base.specs.declared.request.Counts.{Counts}
use Rattle.geo_base.specs.declared.kind.Kind.{Kind}
use Rattle.geo_base.specs.declared.kind.Kind.TheVariants as kinds
use Rattle.geo_base.specs.declared.limits.TheConstants.{MAX_COMPONENTS, MAX_MEMORY_DISK_BYTES, MAX_RUNS_BYTES}
use Rattle.geo_model.specs.declared.command.Cause.{Cause}
use Rattle.geo_model.specs.declared.command.Cause.TheVariants as causes
use Rattle.geo_model.specs.Words.{same_name}

infixl 10 ◌>>=◌
abbrev pub ◌>>=◌ : {A B : Type 0} → Result A Cause → (A → Result B Cause) → Result B Cause
(Ok x) >>= f = f x
(Err cause) >>= f = Err cause

-- Numbers and runs

abbrev pub is_digit : ℕ → Bool
is_digit b = nat_le 48 b && nat_le b 57

abbrev pub value_of : List ℕ → ℕ
value_of digits = fold (λ n b. 10 * n + (b - 48)) 0 digits

-- whether the bytes are decimal digits with no zero in front, but for `0` itself
abbrev pub is_decimal : List ℕ → Bool
is_decimal [] = false
is_decimal (b ∷ bs) = list_all is_digit (b ∷ bs) && (not (b == 48) || (length bs == 0))

-- the number that a word of digits stands for, at most 2 ^ 64 - 1
abbrev pub number_of : List ℕ → Option ℕ
number_of word = if is_decimal word && nat_lt (value_of word) (2 ^ 64) then Some (value_of word) else None

-- the value of a lower-case hexadecimal digit; 16 where it is none
abbrev pub hex_value : ℕ → ℕ
hex_value b = if is_digit b then b - 48 else (if nat_le 97 b && nat_le b 102 then b - 87 else 16)

-- a word `BB*N` as a run
abbrev pub run_of : List ℕ → Option ByteRun
run_of (high ∷ low ∷ star ∷ digits) =
    if nat_lt (hex_value high) 16
    && (nat_lt (hex_value low) 16 && ((star == 42) && (is_decimal digits && nat_le 1 (value_of digits))))
    then Some (record { byte = 16 * hex_value high + hex_value low; times = value_of digits })
    else None
run_of _ = None

-- the runs of words, each of which differs from the one before it in its byte
abbrev pub add_run : ByteRun → List ByteRun → Option (List ByteRun)
add_run x [] = Some (x ∷ [])
add_run x (y ∷ ys) = if x.byte == y.byte then None else Some (x ∷ y ∷ ys)

abbrev pub runs_in : List (List ℕ) → Option (List ByteRun)
runs_in [] = Some []
runs_in (word ∷ words) = option_and_then (λ x. option_and_then (add_run x) (runs_in words)) (run_of word)

-- the bytes that runs stand for
abbrev pub bytes_of_runs : List ByteRun → List ℕ
bytes_of_runs xs = flat_map (λ x. replicate x.times x.byte) xs

-- the bytes of a text of runs, if they are no more than it may stand for
abbrev pub fitting_bytes : List ByteRun → Option (List ℕ)
fitting_bytes xs =
    let bytes = bytes_of_runs xs in if nat_le (sum_by (λ x. x.times) xs) MAX_RUNS_BYTES then Some bytes else None

-- Words of a line; each reader gives its value and the words that are left

abbrev pub Words : Type 0
Words = List (List ℕ)

-- the next word
abbrev pub next_word : Words → Result (List ℕ × Words) Cause
next_word [] = Err causes.Words
next_word (word ∷ words) = Ok (word, words)

-- the value, with the words, unless it is missing
abbrev pub found_or : {A : Type 0} → Cause → Words → Option A → Result (A × Words) Cause
found_or cause words None = Err cause
found_or cause words (Some value) = Ok (value, words)

-- the word if it passes the test
abbrev pub tested : (List ℕ → Bool) → Cause → Words → Result (List ℕ × Words) Cause
tested test cause [] = Err causes.Words
tested test cause (word ∷ words) = if test word then Ok (word, words) else Err cause

-- NAME, handles and disks; PROV and geoms
abbrev pub short_name : Words → Result (List ℕ × Words) Cause
short_name words = tested is_short_name causes.Name words

abbrev pub long_name : Words → Result (List ℕ × Words) Cause
long_name words = tested is_name causes.Name words

-- a number, and then its range
abbrev pub in_range : (ℕ → Bool) → Words → Option ℕ → Result (ℕ × Words) Cause
in_range test words None = Err causes.Number
in_range test words (Some n) = if test n then Ok (n, words) else Err causes.Range

abbrev pub ranged : (ℕ → Bool) → Words → Result (ℕ × Words) Cause
ranged test [] = Err causes.Words
ranged test (word ∷ words) = in_range test words (number_of word)

abbrev pub any_number : Words → Result (ℕ × Words) Cause
any_number words = ranged (λ n. true) words

abbrev pub sector_size : Words → Result (ℕ × Words) Cause
sector_size words = ranged (λ n. (n == 512) || (n == 4096)) words

abbrev pub sector_count : ℕ → Words → Result (ℕ × Words) Cause
sector_count sector words = ranged (λ n. nat_le 1 n && nat_le (n * sector) MAX_MEMORY_DISK_BYTES) words

abbrev pub record_id : Words → Result (ℕ × Words) Cause
record_id words = ranged (λ n. nat_lt n (2 ^ 32)) words

abbrev pub record_count : Words → Result (ℕ × Words) Cause
record_count words = ranged (λ n. nat_le 1 n && nat_le n MAX_COMPONENTS) words

abbrev pub record_place : Words → Result (ℕ × Words) Cause
record_place words = ranged (λ n. nat_lt n (2 ^ 16)) words

abbrev pub stripe_size : Words → Result (ℕ × Words) Cause
stripe_size words = ranged (λ n. nat_le 1 n && nat_lt n (2 ^ 32)) words

-- rNwNeN, not all zero
abbrev pub counts_of : List ℕ → Option Counts
counts_of (r ∷ a ∷ w ∷ b ∷ e ∷ c ∷ []) =
    if (r == 114) && ((w == 119) && ((e == 101) && (is_digit a && (is_digit b && (is_digit c
    && not ((a == 48) && ((b == 48) && (c == 48))))))))
    then Some (record { r = a - 48; w = b - 48; e = c - 48 })
    else None
counts_of _ = None

abbrev pub counts_word : Words → Result (Counts × Words) Cause
counts_word [] = Err causes.Words
counts_word (word ∷ words) = found_or causes.Counts words (counts_of word)

-- runs, to the end of the line
abbrev pub runs_words : Words → Result (List ℕ × Words) Cause
runs_words [] = Err causes.Words
runs_words (word ∷ words) = found_or causes.Runs [] (option_and_then fitting_bytes (runs_in (word ∷ words)))

-- the classes that a command can name
abbrev pub class_names : List (List ℕ × Kind)
class_names =
    (codes "mbr", kinds.Mbr) ∷ (codes "ebr", kinds.Ebr) ∷ (codes "label", kinds.Label)
    ∷ (codes "concat", kinds.Concat) ∷ (codes "stripe", kinds.Stripe) ∷ (codes "nop", kinds.Nop) ∷ []

-- what stands beside a word in a table
abbrev pub beside : {A : Type 0} → List (List ℕ × A) → List ℕ → Option A
beside [] word = None
beside (row ∷ rows) word = if same_name row.0 word then Some row.1 else beside rows word

abbrev pub class_word : Words → Result (Kind × Words) Cause
class_word [] = Err causes.Words
class_word (word ∷ words) = found_or causes.Word words (beside class_names word)

-- one to sixteen names, to the end of the line
abbrev pub names_within : ℕ → Words → Result (List (List ℕ)) Cause
names_within n [] = Ok []
names_within zero (word ∷ words) = Err causes.Words
names_within (suc n) (word ∷ words) =
    if is_name word then (names_within n words >>= λ names. Ok (word ∷ names)) else Err causes.Name

abbrev pub long_names : Words → Result (List (List ℕ) × Words) Cause
long_names [] = Err causes.Words
long_names (word ∷ words) = names_within MAX_COMPONENTS (word ∷ words) >>= λ names. Ok (names, [])

-- the value, if no word is left over
abbrev pub at_end : {A : Type 0} → A → Words → Result A Cause
at_end value [] = Ok value
at_end value (word ∷ words) = Err causes.Words

-- the words behind a word of a table, read as the table says
abbrev pub by_word : {A : Type 0} → List (List ℕ × (Words → Result A Cause)) → Words → Result A Cause
by_word table [] = Err causes.Words
by_word table (word ∷ words) = option_map_or (λ read. read words) (beside table word) (Err causes.Word)
