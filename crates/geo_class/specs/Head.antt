-- The head of a record.
use Rattle.std.specs.Prelude.{ℕ, ◌==◌, nat_le, nat_lt, Bool, not, ◌&&◌, List, take_while, bytes_eq, Option, Some, None, Result, Ok, Err, if◌then◌else◌}
use Rattle.geo_model.specs.DeclineCause.{DeclineCause}
use Rattle.geo_model.specs.Declined.{Declined}
use Rattle.geo_model.specs.Name.{is_short_name}
use Rattle.geo_model.specs.TheConstants.{MAX_COMPONENTS}
use Rattle.geo_model.specs.Words.{first_error, unless}
use Rattle.geo_model.specs.Records.{head_tests, padded, record_name}

-- what a decoder answers: the value, or the cause alone
abbrev pub decoder_answer : {A : Type 0} → Result A Declined → Result A DeclineCause
decoder_answer (Ok value) = Ok value
decoder_answer (Err declined) = Err declined.cause

-- the name in a sector whose head has this magic and a version up to the newest, or the first cause to decline it
abbrev pub head_name : List ℕ → ℕ → List ℕ → Result (List ℕ) DeclineCause
head_name magic newest bytes = unless (first_error (head_tests magic newest bytes)) (record_name bytes)

-- the short name in a field, with zeros alone behind it
abbrev pub padded_name : List ℕ → Option (List ℕ)
padded_name field =
    let name = take_while (λ b. not (b == 0)) field in
    if is_short_name name && bytes_eq field (padded 16 name) then Some name else None

-- whether a place is one of 1 to 16 places
abbrev pub is_place : ℕ → ℕ → Bool
is_place place count = nat_le 1 count && (nat_le count MAX_COMPONENTS && nat_lt place count)
