-- Counts under names.
use Rattle.std.proofs.Common.{◌≡◌, ◌+◌, ◌-◌, ◌^◌, ◌<◌, ◌≤◌, min, arith, inl, inr, ℕ, zero, suc, Bool, true, false, List, [], ◌∷◌, ◌++◌, Option, Some, None, refl, cond, bytes_eq}
use Rattle.std.specs.Option.{option_map_or, option_or}
use Rattle.std.specs.List.{find}
use Rattle.std.proofs.lemmas.List.Folds.{find-append}
use Rattle.std.proofs.lemmas.Bool.{cases_lt, le-ltb, lt-ltb}
use Rattle.geo_base.specs.Faults.{RoseBy}
use Rattle.geo_disk.specs.Counts.{counted_if, counted_many, counted_on}
use Rattle.geo_disk.specs.Lending.{no_faults, tally_in}
use Rattle.geo_disk.specs.Names.{is_named}
use Rattle.geo_disk.specs.declared.lending.Count.{Count}

-- counts of 0 behind others are as none
tally_of_zero : (found : Option Count) (chosen : Bool) (zero_count : Count) → zero_count.tally ≡ no_faults
    → option_map_or (λ (c : Count). c.tally) (option_or found (cond chosen (Some zero_count) None)) no_faults
    ≡ option_map_or (λ (c : Count). c.tally) found no_faults
tally_of_zero None true zero_count is = is
tally_of_zero None false zero_count is = refl
tally_of_zero (Some c) chosen zero_count is = refl

-- counts of 0 that are added change no count
pub tally_after_push : (counts : List Count) (other name : List ℕ)
    → tally_in (counts ++ (record { name = name; tally = no_faults }) ∷ []) other ≡ tally_in counts other
tally_after_push counts other name =
    rw (find-append (is_named (λ (c : Count). c.name) other) counts ((record { name = name; tally = no_faults }) ∷ []))
    (tally_of_zero (find (is_named (λ (c : Count). c.name) other) counts) (bytes_eq other name)
    (record { name = name; tally = no_faults }) refl)

-- adding 1 up to the end of the type is one more
pub counted_on_saturates : (n : ℕ) → n < 2 ^ 64 → min (n + 1) (2 ^ 64 - 1) ≡ counted_on n
counted_on_saturates n fits = elim (cases_lt n (2 ^ 64 - 1)) [
  | inl below ↦ rw (lt-ltb n (2 ^ 64 - 1) below) (omega arith)
  | inr end ↦ rw (le-ltb n (2 ^ 64 - 1) end) (omega arith)
]

-- a count never falls
pub counted_on_later : (n : ℕ) → n ≤ counted_on n
counted_on_later n = elim (cases_lt n (2 ^ 64 - 1)) [
  | inl below ↦ rw (lt-ltb n (2 ^ 64 - 1) below) (omega arith)
  | inr end ↦ rw (le-ltb n (2 ^ 64 - 1) end) (omega arith)
]

pub counted_if_later : (more : Bool) (n : ℕ) → n ≤ counted_if more n
counted_if_later true n = counted_on_later n
counted_if_later false n = omega arith

pub counted_many_later : (k n : ℕ) → n ≤ counted_many k n
counted_many_later zero n = omega arith
counted_many_later (suc k) n =
    omega (arith, counted_many_later k n, counted_on_later (counted_many k n))

-- it rises by what is counted, or stands at the end of its type
counted_on_rose : (n : ℕ) → min (n + 1) (2 ^ 64 - 1) ≤ counted_on n
counted_on_rose n = elim (cases_lt n (2 ^ 64 - 1)) [
  | inl below ↦ rw (lt-ltb n (2 ^ 64 - 1) below) (omega arith)
  | inr end ↦ rw (le-ltb n (2 ^ 64 - 1) end) (omega arith)
]

pub counted_many_rose : (k n : ℕ) → RoseBy k n (counted_many k n)
counted_many_rose zero n = omega arith
counted_many_rose (suc k) n =
    omega (arith, counted_many_rose k n, counted_on_rose (counted_many k n), counted_on_later (counted_many k n))
