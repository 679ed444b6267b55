-- What is encoded is decoded.
use Rattle.std.specs.Prelude.{◌≡◌, ℕ, ◌<◌, ◌≤◌, ◌^◌, [], ◌∷◌, IsTrue}
use Rattle.geo_model.specs.Name.{is_short_name}
use Rattle.geo_model.specs.declared.class.StripeRecord.{StripeRecord}
use Rattle.geo_model.specs.Words.{first_error, unless}
use Rattle.geo_model.specs.Records.{stripe_record, stripe_sector, place_test, size_test}

-- a record whose numbers fit their fields
pub record Fits (x : StripeRecord) : Type 0 where
  pub short : IsTrue (is_short_name x.name)
  pub id : x.id < 2 ^ 32
  pub place : x.place < 2 ^ 16
  pub count : x.count < 2 ^ 16
  pub stripe : x.stripe < 2 ^ 32

-- a record comes back from a sector with room for it, or is declined with the first cause of its own
abbrev pub EncodedIsDecoded : Type 0
EncodedIsDecoded =
    (size : ℕ) (x : StripeRecord) → 48 ≤ size → Fits x
    → stripe_record (stripe_sector size x)
    ≡ unless (first_error (place_test x.place x.count ∷ (size_test x.stripe size ∷ []))) x
