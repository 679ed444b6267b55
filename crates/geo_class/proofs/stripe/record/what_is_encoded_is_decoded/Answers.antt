use Rattle.std.proofs.Common.{◌≡◌, ℕ, ◌+◌, ◌-◌, ◌++◌, List, [], ◌∷◌, length, replicate, refl, ap, ◌∙◌, None, Result, arith, length-append}
use Rattle.std.specs.Int.{to_le_bytes, w16, w32}
use Rattle.geo_model.specs.DeclineCause.{DeclineCause}
use Rattle.geo_model.specs.declared.class.StripeRecord.{StripeRecord}
use Rattle.geo_model.specs.Words.{first_error, unless}
use Rattle.geo_model.specs.Records.{stripe_magic, stripe_record, stripe_sector, place_test, size_test, record_name, record_head, head_tests, u16_at, u32_at}
use Rattle.geo_class.proofs.AnswerLemmas.{unless-behind}
use Rattle.geo_model.proofs.RecordLemmas.{length-padded}
use Rattle.geo_class.proofs.RecordLemmas.{HasRecord, has_record, first_error-head, record_name-is, drop-head, length-head, ReadsComponent, reads_component, u32_at-there, first_version}
use Rattle.geo_class.proofs.stripe.record.what_is_encoded_is_decoded.Goals as goal

-- what is answered behind a head that is in order, in a sector of so many bytes
abbrev answer : ℕ → List ℕ → ℕ → ℕ → ℕ → ℕ → Result StripeRecord DeclineCause
answer sector name id place count stripe =
    unless (first_error (place_test place count ∷ (size_test stripe sector ∷ [])))
    (record { name = name; id = id; place = place; count = count; stripe = stripe })

-- a head that is in order, with this name, and these fields behind it
decoded : (size : ℕ) (bytes after : List ℕ) (x : StripeRecord) → first_error (head_tests stripe_magic 1 bytes) ≡ None
    → record_name bytes ≡ x.name
    → ReadsComponent bytes after x.id x.place x.count → u32_at bytes 44 ≡ x.stripe → length bytes ≡ size
    → stripe_record bytes ≡ answer size x.name x.id x.place x.count x.stripe
decoded size bytes after x none named reads striped sized =
    unless-behind stripe_magic 1 bytes
    (place_test (u16_at bytes 40) (u16_at bytes 42) ∷ (size_test (u32_at bytes 44) (length bytes) ∷ []))
    (record {
      name = record_name bytes;
      id = u32_at bytes 36;
      place = u16_at bytes 40;
      count = u16_at bytes 42;
      stripe = u32_at bytes 44;
    }) none
    ∙ ap (λ name. answer (length bytes) name (u32_at bytes 36) (u16_at bytes 40) (u16_at bytes 42) (u32_at bytes 44))
    named
    ∙ ap (λ id. answer (length bytes) x.name id (u16_at bytes 40) (u16_at bytes 42) (u32_at bytes 44)) reads.id_is
    ∙ ap (λ place. answer (length bytes) x.name x.id place (u16_at bytes 42) (u32_at bytes 44)) reads.place_is
    ∙ ap (λ count. answer (length bytes) x.name x.id x.place count (u32_at bytes 44)) reads.count_is
    ∙ ap (λ stripe. answer (length bytes) x.name x.id x.place x.count stripe) striped
    ∙ ap (λ sector. answer sector x.name x.id x.place x.count x.stripe) sized

-- the fields behind the head
abbrev fields : StripeRecord → List ℕ
fields x = to_le_bytes w32 x.id ++ (to_le_bytes w16 x.place ++ (to_le_bytes w16 x.count ++ to_le_bytes w32 x.stripe))

-- the head is in order, and each field is read back from where it was written, so place and stripe size alone decide
pub returns : goal.returns
returns c size x room fits =
    let zeros : List ℕ = replicate (size - length (record_head stripe_magic 1 x.name ++ fields x)) 0 in
    let held : HasRecord stripe_magic 1 x.name (fields x ++ zeros) (stripe_sector size x) =
    has_record stripe_magic 1 x.name (fields x) size refl fits.short in
    let reads : ReadsComponent (stripe_sector size x) (to_le_bytes w32 x.stripe ++ zeros) x.id x.place x.count =
    reads_component (stripe_sector size x) (to_le_bytes w32 x.stripe ++ zeros) x.id x.place x.count fits.id fits.place
    fits.count
    (drop-head stripe_magic 1 x.name (fields x ++ zeros) (stripe_sector size x) held) in
    let whole : length (record_head stripe_magic 1 x.name ++ fields x) ≡ 48 =
    length-append (record_head stripe_magic 1 x.name) (fields x)
    ∙ ap (λ k. k + 12) (length-head stripe_magic 1 x.name refl fits.short) in
    decoded size (stripe_sector size x) (to_le_bytes w32 x.stripe ++ zeros) x
    (first_error-head stripe_magic 1 1 x.name (fields x ++ zeros) (stripe_sector size x) held first_version)
    (record_name-is stripe_magic 1 x.name (fields x ++ zeros) (stripe_sector size x) held)
    reads (u32_at-there (stripe_sector size x) zeros 44 x.stripe reads.behind fits.stripe)
    (length-padded size (record_head stripe_magic 1 x.name ++ fields x) (omega (arith, whole, room)))
