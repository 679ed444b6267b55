use Rattle.std.proofs.Common.{◌≡◌, ℕ, true, false, List, [], ◌∷◌, ◌++◌, refl, sym, ◌∙◌, Ok, Result}
use Rattle.std.proofs.lemmas.Result.{err_from_is_err_and}
use Rattle.geo_model.specs.DeclineCause.{DeclineCause}
use Rattle.geo_model.specs.declared.class.ConcatRecord.{ConcatRecord}
use Rattle.geo_model.specs.Words.{first_error, unless}
use Rattle.geo_model.specs.Records.{concat_magic, head_tests, place_test, record_name, u16_at, u32_at}
use Rattle.geo_class.specs.Head.{head_name}
use Rattle.geo_class.proofs.AnswerLemmas.{head_name-ok, is_place-tested, unless-behind, unless-declined, unless-place_declined, unless-place_passed}
use Rattle.geo_class.proofs.concat.record.decode.Goals as goal

-- the record of these fields, and that of the fields in a sector
abbrev record_of : List ℕ → ℕ → ℕ → ℕ → ConcatRecord
record_of name id place count = record { name = name; id = id; place = place; count = count }

abbrev read_record : List ℕ → ConcatRecord
read_record bytes = record_of (record_name bytes) (u32_at bytes 36) (u16_at bytes 40) (u16_at bytes 42)

same_record : (name n : List ℕ) (id i place p count k : ℕ) → name ≡ n → i ≡ id → p ≡ place → k ≡ count
    → ◌≡◌ {A = Result ConcatRecord DeclineCause} (Ok (record_of name id place count)) (Ok (record_of n i p k))
same_record name n id i place p count k same_name same_id same_place same_count =
    rw (same_name, ← same_id, ← same_place, ← same_count) refl

-- behind a head that was decoded the place decides
behind_head : (bytes : List ℕ) {name : List ℕ} → Ok name ≡ head_name concat_magic 1 bytes
    → unless (first_error (head_tests concat_magic 1 bytes
    ++ (place_test (u16_at bytes 40) (u16_at bytes 42) ∷ []))) (read_record bytes)
    ≡ unless (first_error (place_test (u16_at bytes 40) (u16_at bytes 42) ∷ [])) (read_record bytes)
behind_head bytes found =
    unless-behind concat_magic 1 bytes (place_test (u16_at bytes 40) (u16_at bytes 42) ∷ []) (read_record bytes)
    (head_name-ok concat_magic 1 bytes _ found).0

-- a head that is declined declines the record, for the same cause
pub returns-in_err-name : goal.returns-in_err-name
returns-in_err-name c =
    let same = err_from_is_err_and c.from_residual.result c.from_residual.ensures.1 in
    rw (same.1, same.2)
    (unless-declined concat_magic 1 c.args.sector.now
    (place_test (u16_at c.args.sector.now 40) (u16_at c.args.sector.now 42) ∷ [])
    (read_record c.args.sector.now) c.in_err-name.field-0.0.cause c.in_err-name.ensures)

-- the head is in order, so what the place says is the first cause
pub returns-then-not-is_place : goal.returns-then-not-is_place
returns-then-not-is_place c =
    let none = is_place-tested c.u16_at-place.result c.u16_at-count.result (u16_at c.args.sector.now 40)
    (u16_at c.args.sector.now 42) c.is_place.result false
    c.u16_at-place.ensures c.u16_at-count.ensures c.is_place.ensures c.if-not-is_place.true in
    sym (behind_head c.args.sector.now c.in_ok-name.ensures
    ∙ unless-place_declined (u16_at c.args.sector.now 40) (u16_at c.args.sector.now 42) []
    (read_record c.args.sector.now) none)

-- head and place pass, and each field is read where it stands
pub returns : goal.returns
returns c =
    let head = head_name-ok concat_magic 1 c.args.sector.now c.in_ok-name.name c.in_ok-name.ensures in
    let one = is_place-tested c.u16_at-place.result c.u16_at-count.result (u16_at c.args.sector.now 40)
    (u16_at c.args.sector.now 42) c.is_place.result true
    c.u16_at-place.ensures c.u16_at-count.ensures c.is_place.ensures c.if-not-is_place.false in
    sym (behind_head c.args.sector.now c.in_ok-name.ensures
    ∙ unless-place_passed (u16_at c.args.sector.now 40) (u16_at c.args.sector.now 42) []
    (read_record c.args.sector.now) one
    ∙ same_record (record_name c.args.sector.now) c.in_ok-name.name (u32_at c.args.sector.now 36) c.u32_at.result
    (u16_at c.args.sector.now 40) c.u16_at-place.result
    (u16_at c.args.sector.now 42) c.u16_at-count.result head.1 c.u32_at.ensures c.u16_at-place.ensures
    c.u16_at-count.ensures)
