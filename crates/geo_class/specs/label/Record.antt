-- What is encoded is decoded.
use Rattle.std.specs.Prelude.{◌≡◌, ℕ, ◌<◌, ◌≤◌, ◌^◌, IsTrue, IfSome, Ok}
use Rattle.geo_model.specs.Name.{is_short_name}
use Rattle.geo_model.specs.declared.class.LabelRecord.{LabelRecord}
use Rattle.geo_model.specs.Records.{label_record, label_sector}

-- a record whose name is short and whose media size, where it has one, fits its field
pub record Fits (x : LabelRecord) : Type 0 where
  pub short : IsTrue (is_short_name x.name)
  pub size : IfSome x.size (λ n. n < 2 ^ 64)

-- each such record comes back from a sector with room for it
abbrev pub EncodedIsDecoded : Type 0
EncodedIsDecoded = (size : ℕ) (x : LabelRecord) → 44 ≤ size → Fits x → label_record (label_sector size x) ≡ Ok x
