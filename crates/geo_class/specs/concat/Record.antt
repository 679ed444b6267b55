-- What is encoded is decoded.
use Rattle.std.specs.Prelude.{◌≡◌, ℕ, ◌<◌, ◌≤◌, ◌^◌, [], ◌∷◌, IsTrue}
use Rattle.geo_model.specs.Name.{is_short_name}
use Rattle.geo_model.specs.declared.class.ConcatRecord.{ConcatRecord}
use Rattle.geo_model.specs.Words.{first_error, unless}
use Rattle.geo_model.specs.Records.{concat_record, concat_sector, place_test}

-- a record whose numbers fit their fields
pub record Fits (x : ConcatRecord) : Type 0 where
  pub short : IsTrue (is_short_name x.name)
  pub id : x.id < 2 ^ 32
  pub place : x.place < 2 ^ 16
  pub count : x.count < 2 ^ 16

-- a record comes back from a sector with room for it, or is declined with the cause of its own
abbrev pub EncodedIsDecoded : Type 0
EncodedIsDecoded =
    (size : ℕ) (x : ConcatRecord) → 44 ≤ size → Fits x
    → concat_record (concat_sector size x) ≡ unless (first_error (place_test x.place x.count ∷ [])) x
