use Rattle.std.proofs.Common.{◌≡◌, ℕ, true, false, List, [], ◌∷◌, ◌++◌, length, refl, sym, ◌∙◌, Ok, Err, Result, Bool}
use Rattle.std.proofs.lemmas.Result.{err_from_is_err_and}
use Rattle.geo_model.specs.DeclineCause.{DeclineCause}
use Rattle.geo_model.specs.DeclineCause.TheVariants.{Size}
use Rattle.geo_model.specs.declared.class.StripeRecord.{StripeRecord}
use Rattle.geo_model.specs.Words.{first_error, unless}
use Rattle.geo_model.specs.Records.{stripe_magic, head_tests, place_test, size_test, is_stripe_size, record_name, u16_at, u32_at}
use Rattle.geo_class.specs.Head.{head_name, is_place}
use Rattle.geo_class.proofs.AnswerLemmas.{head_name-ok, is_place-tested, unless-behind, unless-declined, unless-place_declined, unless-place_passed}
use Rattle.geo_class.proofs.stripe.record.decode.Goals as goal

-- the record of these fields, and that of the fields in a sector
abbrev record_of : List ℕ → ℕ → ℕ → ℕ → ℕ → StripeRecord
record_of name id place count stripe = record { name = name; id = id; place = place; count = count; stripe = stripe }

abbrev read_record : List ℕ → StripeRecord
read_record bytes = record_of (record_name bytes) (u32_at bytes 36) (u16_at bytes 40) (u16_at bytes 42)
    (u32_at bytes 44)

-- what is tested behind a place
abbrev size_tests : List ℕ → List (Bool × DeclineCause)
size_tests bytes = size_test (u32_at bytes 44) (length bytes) ∷ []

same_record : (name n : List ℕ) (id i place p count k stripe s : ℕ) → name ≡ n → i ≡ id → p ≡ place → k ≡ count
    → s ≡ stripe
    → ◌≡◌ {A = Result StripeRecord DeclineCause} (Ok (record_of name id place count stripe)) (Ok (record_of n i p k s))
same_record name n id i place p count k stripe s same_name same_id same_place same_count same_stripe =
    rw (same_name, ← same_id, ← same_place, ← same_count, ← same_stripe) refl

-- the model's answer to the bytes of a sector
abbrev answer_to : List ℕ → Result StripeRecord DeclineCause
answer_to bytes = unless (first_error (head_tests stripe_magic 1 bytes
    ++ (place_test (u16_at bytes 40) (u16_at bytes 42) ∷ size_tests bytes))) (read_record bytes)

-- behind a head that was decoded place and size decide
behind_head : (bytes : List ℕ) {name : List ℕ} → Ok name ≡ head_name stripe_magic 1 bytes
    → answer_to bytes
    ≡ unless (first_error (place_test (u16_at bytes 40) (u16_at bytes 42) ∷ size_tests bytes)) (read_record bytes)
behind_head bytes found =
    unless-behind stripe_magic 1 bytes (place_test (u16_at bytes 40) (u16_at bytes 42) ∷ size_tests bytes)
    (read_record bytes) (head_name-ok stripe_magic 1 bytes _ found).0

-- behind a place that is one the size decides
behind_place : (bytes : List ℕ) {name : List ℕ} {place count : ℕ} {tested : Bool}
    → Ok name ≡ head_name stripe_magic 1 bytes → place ≡ u16_at bytes 40 → count ≡ u16_at bytes 42
    → tested ≡ is_place place count → tested ≡ true
    → answer_to bytes ≡ unless (first_error (size_tests bytes)) (read_record bytes)
behind_place bytes found same_place same_count by_values is =
    behind_head bytes found
    ∙ unless-place_passed (u16_at bytes 40) (u16_at bytes 42) (size_tests bytes) (read_record bytes)
    (is_place-tested _ _ (u16_at bytes 40) (u16_at bytes 42) _ true same_place same_count by_values is)

-- a stripe size that was tested
is_stripe_size-tested : (stripe s sector : ℕ) (tested answer : Bool) → s ≡ stripe → tested ≡ is_stripe_size s sector
    → tested ≡ answer → is_stripe_size stripe sector ≡ answer
is_stripe_size-tested stripe s sector tested answer same by_value is = rw (← same, ← by_value) is

unless-size_declined : (stripe sector : ℕ) (value : StripeRecord) → is_stripe_size stripe sector ≡ false
    → unless (first_error (size_test stripe sector ∷ [])) value ≡ Err Size
unless-size_declined stripe sector value none = rw none refl

unless-size_passed : (stripe sector : ℕ) (value : StripeRecord) → is_stripe_size stripe sector ≡ true
    → unless (first_error (size_test stripe sector ∷ [])) value ≡ Ok value
unless-size_passed stripe sector value one = rw one refl

-- a head that is declined declines the record, for the same cause
pub returns-in_err-name : goal.returns-in_err-name
returns-in_err-name c =
    let same = err_from_is_err_and c.from_residual.result c.from_residual.ensures.1 in
    rw (same.1, same.2)
    (unless-declined stripe_magic 1 c.args.sector.now
    (place_test (u16_at c.args.sector.now 40) (u16_at c.args.sector.now 42) ∷ size_tests c.args.sector.now)
    (read_record c.args.sector.now) c.in_err-name.field-0.0.cause c.in_err-name.ensures)

-- the head is in order, so what the place says is the first cause
pub returns-then-not-is_place : goal.returns-then-not-is_place
returns-then-not-is_place c =
    sym (behind_head c.args.sector.now c.in_ok-name.ensures
    ∙ unless-place_declined (u16_at c.args.sector.now 40) (u16_at c.args.sector.now 42) (size_tests c.args.sector.now)
    (read_record c.args.sector.now)
    (is_place-tested c.u16_at-place.result c.u16_at-count.result (u16_at c.args.sector.now 40)
    (u16_at c.args.sector.now 42) c.is_place.result false c.u16_at-place.ensures c.u16_at-count.ensures
    c.is_place.ensures c.if-not-is_place.true))

-- head and place are in order, so what the stripe size says is the first cause
pub returns-then-not-is_stripe_size : goal.returns-then-not-is_stripe_size
returns-then-not-is_stripe_size c =
    let none = is_stripe_size-tested (u32_at c.args.sector.now 44) c.u32_at-stripe.result
    (length c.args.sector.now) c.is_stripe_size.result false
    c.u32_at-stripe.ensures c.is_stripe_size.ensures c.if-not-is_stripe_size.true in
    sym (behind_place c.args.sector.now c.in_ok-name.ensures c.u16_at-place.ensures c.u16_at-count.ensures
    c.is_place.ensures c.if-not-is_place.false
    ∙ unless-size_declined (u32_at c.args.sector.now 44) (length c.args.sector.now)
    (read_record c.args.sector.now) none)

-- head, place and stripe size pass, and each field is read where it stands
pub returns : goal.returns
returns c =
    let head = head_name-ok stripe_magic 1 c.args.sector.now c.in_ok-name.name c.in_ok-name.ensures in
    let fits = is_stripe_size-tested (u32_at c.args.sector.now 44) c.u32_at-stripe.result
    (length c.args.sector.now) c.is_stripe_size.result true
    c.u32_at-stripe.ensures c.is_stripe_size.ensures c.if-not-is_stripe_size.false in
    sym (behind_place c.args.sector.now c.in_ok-name.ensures c.u16_at-place.ensures c.u16_at-count.ensures
    c.is_place.ensures c.if-not-is_place.false
    ∙ unless-size_passed (u32_at c.args.sector.now 44) (length c.args.sector.now) (read_record c.args.sector.now) fits
    ∙ same_record (record_name c.args.sector.now) c.in_ok-name.name (u32_at c.args.sector.now 36) c.u32_at.result
    (u16_at c.args.sector.now 40) c.u16_at-place.result
    (u16_at c.args.sector.now 42) c.u16_at-count.result (u32_at c.args.sector.now 44) c.u32_at-stripe.result
    head.1 c.u32_at.ensures c.u16_at-place.ensures c.u16_at-count.ensures c.u32_at-stripe.ensures)
