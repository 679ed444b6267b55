-- The MBR table and the records LABEL, CONCAT and STRIPE in a sector. All numbers are little-endian.
use Rattle.std.specs.Prelude.{ℕ, ◌+◌, ◌-◌, ◌*◌, ◌%◌, ◌==◌, nat_lt, nat_le, Bool, not, ◌&&◌, ◌||◌, List, [], ◌∷◌, ◌++◌, length, map, take, drop, replicate, take_while, slice_index, bytes_eq, Option, Some, None, Result, is_some, codes, if◌then◌else◌}
use Rattle.std.specs.List.{list_any, range_with_len}
use Rattle.std.specs.Int.{w16, w32, w64, to_le_bytes, from_le_bytes}
use Rattle.geo_base.specs.Name.{is_short_name}
use Rattle.geo_base.specs.declared.decline.DeclineCause.{DeclineCause}
use Rattle.geo_base.specs.declared.decline.DeclineCause.TheVariants as causes
use Rattle.geo_base.specs.declared.limits.TheConstants.{MAX_COMPONENTS, MAX_STRIPE_BYTES}
use Rattle.geo_model.specs.declared.class.ConcatRecord.{ConcatRecord}
use Rattle.geo_model.specs.declared.class.LabelRecord.{LabelRecord}
use Rattle.geo_model.specs.declared.class.MbrTable.{MbrTable}
use Rattle.geo_model.specs.declared.class.Slice.{Slice}
use Rattle.geo_model.specs.declared.class.StripeRecord.{StripeRecord}
use Rattle.geo_model.specs.Words.{first_error, unless}

-- numbers of 2, of 4 and of 8 bytes in a sector
abbrev pub u16_at : List ℕ → ℕ → ℕ
u16_at bytes i = from_le_bytes w16 (take 2 (drop i bytes))

abbrev pub u32_at : List ℕ → ℕ → ℕ
u32_at bytes i = from_le_bytes w32 (take 4 (drop i bytes))

abbrev pub u64_at : List ℕ → ℕ → ℕ
u64_at bytes i = from_le_bytes w64 (take 8 (drop i bytes))

-- MBR

-- where entry k of the table begins
abbrev pub entry_start : ℕ → ℕ
entry_start k = 446 + 16 * k

abbrev pub entry_type : List ℕ → ℕ → ℕ
entry_type bytes k = slice_index bytes (entry_start k + 4)

-- whether the last two bytes are 0x55, 0xAA
abbrev pub has_signature : List ℕ → Bool
has_signature bytes = (slice_index bytes 510 == 0x55) && (slice_index bytes 511 == 0xAA)

-- entry k as a slice, where its type, first sector and size aren't 0 and its end isn't past the media
abbrev pub kept_entry : List ℕ → ℕ → ℕ → Option Slice
kept_entry bytes sectors k =
    let first = u32_at bytes (entry_start k + 8) in
    let count = u32_at bytes (entry_start k + 12) in
    if (entry_type bytes k == 0) || ((first == 0) || ((count == 0) || nat_lt sectors (first + count)))
    then None
    else Some (record { first = first; count = count })

-- the four entries
abbrev pub kept_entries : List ℕ → ℕ → List (Option Slice)
kept_entries bytes sectors = map (kept_entry bytes sectors) (range_with_len 0 4)

-- what is against a table in a sector of a media with so many sectors
abbrev pub mbr_tests : List ℕ → ℕ → List (Bool × DeclineCause)
mbr_tests bytes sectors =
    (not (has_signature bytes), causes.Signature)
    ∷ (list_any (λ k. entry_type bytes k == 0xEE) (range_with_len 0 4), causes.Protective)
    ∷ (not (list_any is_some (kept_entries bytes sectors)), causes.Nothing)
    ∷ []

-- the table in a sector, or the first cause to decline it
abbrev pub mbr_table : List ℕ → ℕ → Result MbrTable DeclineCause
mbr_table bytes sectors =
    unless (first_error (mbr_tests bytes sectors)) (record { slices = kept_entries bytes sectors })

-- Records

-- the bytes with zeros behind them, n in all
abbrev pub padded : ℕ → List ℕ → List ℕ
padded n bytes = bytes ++ replicate (n - length bytes) 0

abbrev pub label_magic : List ℕ
label_magic = padded 16 (codes "RGEOM::LABEL")

abbrev pub concat_magic : List ℕ
concat_magic = padded 16 (codes "RGEOM::CONCAT")

abbrev pub stripe_magic : List ℕ
stripe_magic = padded 16 (codes "RGEOM::STRIPE")

-- the name in a record, up to the first zero
abbrev pub record_name : List ℕ → List ℕ
record_name bytes = take_while (λ b. not (b == 0)) (take 16 (drop 20 bytes))

-- what all records have: the magic, a version from 1 on, and a name with zeros alone behind it
abbrev pub head_tests : List ℕ → ℕ → List ℕ → List (Bool × DeclineCause)
head_tests magic newest bytes =
    (not (bytes_eq (take 16 bytes) magic), causes.Magic)
    ∷ (not (nat_le 1 (u32_at bytes 16) && nat_le (u32_at bytes 16) newest), causes.Version)
    ∷ (
      not (is_short_name (record_name bytes)
          && bytes_eq (take 16 (drop 20 bytes)) (padded 16 (record_name bytes))),
      causes.BadName,
    )
    ∷ []

-- place and count are in order: some places, no more than a geom may have, and the place is one of them
abbrev pub place_test : ℕ → ℕ → Bool × DeclineCause
place_test place count = (not (nat_le 1 count && (nat_le count MAX_COMPONENTS && nat_lt place count)), causes.Place)

-- the stripe size isn't 0, isn't above the limit and is a multiple of the sector size
abbrev pub is_stripe_size : ℕ → ℕ → Bool
is_stripe_size stripe sector = nat_le 1 stripe && (nat_le stripe MAX_STRIPE_BYTES && (stripe % sector == 0))

-- the media size that a label of version 2 has
abbrev pub label_size : List ℕ → Option ℕ
label_size bytes = if u32_at bytes 16 == 2 then Some (u64_at bytes 36) else None

-- the record in a sector, or the first cause to decline it
abbrev pub label_record : List ℕ → Result LabelRecord DeclineCause
label_record bytes =
    unless (first_error (head_tests label_magic 2 bytes)) (record { name = record_name bytes; size = label_size bytes })

abbrev pub concat_tests : List ℕ → List (Bool × DeclineCause)
concat_tests bytes = head_tests concat_magic 1 bytes ++ place_test (u16_at bytes 40) (u16_at bytes 42) ∷ []

abbrev pub concat_record : List ℕ → Result ConcatRecord DeclineCause
concat_record bytes =
    unless (first_error (concat_tests bytes)) (record {
      name = record_name bytes;
      id = u32_at bytes 36;
      place = u16_at bytes 40;
      count = u16_at bytes 42;
    })

abbrev pub size_test : ℕ → ℕ → Bool × DeclineCause
size_test stripe sector = (not (is_stripe_size stripe sector), causes.Size)

abbrev pub stripe_tests : List ℕ → List (Bool × DeclineCause)
stripe_tests bytes =
    head_tests stripe_magic 1 bytes
    ++ (place_test (u16_at bytes 40) (u16_at bytes 42) ∷ size_test (u32_at bytes 44) (length bytes) ∷ [])

abbrev pub stripe_record : List ℕ → Result StripeRecord DeclineCause
stripe_record bytes =
    unless (first_error (stripe_tests bytes)) (record {
      name = record_name bytes;
      id = u32_at bytes 36;
      place = u16_at bytes 40;
      count = u16_at bytes 42;
      stripe = u32_at bytes 44;
    })

-- what all records begin with
abbrev pub record_head : List ℕ → ℕ → List ℕ → List ℕ
record_head magic version name = magic ++ (to_le_bytes w32 version ++ padded 16 name)

-- a label has version 2 where it has a media size, else version 1
abbrev pub label_head : List ℕ → Option ℕ → List ℕ
label_head name None = record_head label_magic 1 name
label_head name (Some size) = record_head label_magic 2 name ++ to_le_bytes w64 size

-- the sector of so many bytes with the record
abbrev pub label_sector : ℕ → LabelRecord → List ℕ
label_sector size x = padded size (label_head x.name x.size)

abbrev pub concat_sector : ℕ → ConcatRecord → List ℕ
concat_sector size x =
    padded size (record_head concat_magic 1 x.name
    ++ (to_le_bytes w32 x.id ++ (to_le_bytes w16 x.place ++ to_le_bytes w16 x.count)))

abbrev pub stripe_sector : ℕ → StripeRecord → List ℕ
stripe_sector size x =
    padded size
    (record_head stripe_magic 1 x.name
    ++ (to_le_bytes w32 x.id ++ (to_le_bytes w16 x.place ++ (to_le_bytes w16 x.count ++ to_le_bytes w32 x.stripe))))
