use Rattle.std.proofs.Common.{◌≡◌, ℕ, ◌-◌, ◌++◌, List, [], ◌∷◌, length, replicate, refl, ap, ◌∙◌, None, Result}
use Rattle.std.specs.Int.{to_le_bytes, w16, w32}
use Rattle.geo_model.specs.DeclineCause.{DeclineCause}
use Rattle.geo_model.specs.declared.class.ConcatRecord.{ConcatRecord}
use Rattle.geo_model.specs.Words.{first_error, unless}
use Rattle.geo_model.specs.Records.{concat_magic, concat_record, concat_sector, place_test, record_name, record_head, head_tests, u16_at, u32_at}
use Rattle.geo_class.proofs.AnswerLemmas.{unless-behind}
use Rattle.geo_class.proofs.RecordLemmas.{HasRecord, has_record, first_error-head, record_name-is, drop-head, ReadsComponent, reads_component, first_version}
use Rattle.geo_class.proofs.concat.record.what_is_encoded_is_decoded.Goals as goal

-- what is answered behind a head that is in order
abbrev answer : List ℕ → ℕ → ℕ → ℕ → Result ConcatRecord DeclineCause
answer name id place count =
    unless (first_error (place_test place count ∷ [])) (record { name = name; id = id; place = place; count = count })

-- a head that is in order, with this name, and these fields behind it
decoded : (bytes after : List ℕ) (x : ConcatRecord) → first_error (head_tests concat_magic 1 bytes) ≡ None
    → record_name bytes ≡ x.name
    → ReadsComponent bytes after x.id x.place x.count → concat_record bytes ≡ answer x.name x.id x.place x.count
decoded bytes after x none named reads =
    unless-behind concat_magic 1 bytes (place_test (u16_at bytes 40) (u16_at bytes 42) ∷ [])
    (record { name = record_name bytes; id = u32_at bytes 36; place = u16_at bytes 40; count = u16_at bytes 42 }) none
    ∙ ap (λ name. answer name (u32_at bytes 36) (u16_at bytes 40) (u16_at bytes 42)) named
    ∙ ap (λ id. answer x.name id (u16_at bytes 40) (u16_at bytes 42)) reads.id_is
    ∙ ap (λ place. answer x.name x.id place (u16_at bytes 42)) reads.place_is
    ∙ ap (λ count. answer x.name x.id x.place count) reads.count_is

-- the head is in order, and each field is read back from where it was written, so the place alone decides
pub returns : goal.returns
returns c size x room fits =
    let fields : List ℕ = to_le_bytes w32 x.id ++ (to_le_bytes w16 x.place ++ to_le_bytes w16 x.count) in
    let zeros : List ℕ = replicate (size - length (record_head concat_magic 1 x.name ++ fields)) 0 in
    let held : HasRecord concat_magic 1 x.name (fields ++ zeros) (concat_sector size x) =
    has_record concat_magic 1 x.name fields size refl fits.short in
    decoded (concat_sector size x) zeros x
    (first_error-head concat_magic 1 1 x.name (fields ++ zeros) (concat_sector size x) held first_version)
    (record_name-is concat_magic 1 x.name (fields ++ zeros) (concat_sector size x) held)
    (reads_component (concat_sector size x) zeros x.id x.place x.count fits.id fits.place fits.count
    (drop-head concat_magic 1 x.name (fields ++ zeros) (concat_sector size x) held))
