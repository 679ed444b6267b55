-- What a reader of words gives beside its definition.
use Rattle.std.specs.Prelude.{◌≡◌, ℕ, ◌^◌, nat_lt, List, [], Option, Some, None, Result, Ok, Err, MatchResult, if◌then◌else◌}
use Rattle.std.specs.Borrow.{Bor}
use Rattle.geo_model.specs.declared.command.Cause.{Cause}
use Rattle.geo_model.specs.ScriptWords.{Words}
use Rattle.geo_script.specs.declared.refusal.LineRefusal.{LineRefusal}
use Rattle.geo_script.specs.declared.refusal.LineRefusal.TheVariants.{Fault, NoMemory}

-- a word as a slice, and the words behind it
abbrev pub ReadsWord : Result (Bor (List ℕ) × Words) Cause → Result (List ℕ × Words) Cause → Type 0
ReadsWord result read = MatchResult result (λ x. read ≡ Ok (x.0.now, x.1)) (λ cause. read ≡ Err cause)

-- what a reader gives, unless memory ran out
abbrev pub Reads : {A : Type 0} → Result A LineRefusal → Result A Cause → Type 0
Reads (Ok value) read = read ≡ Ok value
Reads (Err (Fault cause)) read = read ≡ Err cause
Reads (Err NoMemory) read = Unit {0}

-- the same for a value that takes all words that are left
abbrev pub ReadsLast : {A : Type 0} → Result A LineRefusal → Result (A × Words) Cause → Type 0
ReadsLast (Ok value) read = read ≡ Ok (value, [])
ReadsLast (Err (Fault cause)) read = read ≡ Err cause
ReadsLast (Err NoMemory) read = Unit {0}

-- a number that has at most 64 bits
abbrev pub fitting : ℕ → Option ℕ
fitting n = if nat_lt n (2 ^ 64) then Some n else None
