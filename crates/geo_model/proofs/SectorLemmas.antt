-- Records with short names fill a sector.
use Rattle.std.specs.Prelude.{◌≡◌, ℕ, ◌≤◌, List, ◌++◌, length, Option, Some, None}
use Rattle.std.specs.Int.{w16, w32, w64, to_le_bytes}
use Rattle.std.proofs.Common.{refl, arith, length-append}
use Rattle.geo_base.specs.Sectors.{IsSectorSize}
use Rattle.geo_model.specs.declared.class.ConcatRecord.{ConcatRecord}
use Rattle.geo_model.specs.declared.class.LabelRecord.{LabelRecord}
use Rattle.geo_model.specs.declared.class.StripeRecord.{StripeRecord}
use Rattle.geo_model.specs.Plans.{IsShortName}
use Rattle.geo_model.specs.Records.{record_head, label_magic, label_head, label_sector, concat_magic, concat_sector, stripe_magic, stripe_sector}
use Rattle.geo_model.proofs.RecordLemmas.{length-padded, short-length, bytes_4, head-length, sector-large}

-- a number of 16 bits is written in two bytes
bytes_2 : (n : ℕ) → length (to_le_bytes w16 n) ≡ 2
bytes_2 n = refl

-- a number of 64 bits is written in eight bytes
bytes_8 : (n : ℕ) → length (to_le_bytes w64 n) ≡ 8
bytes_8 n = refl

-- a label's bytes
label-length : (name : List ℕ) (size : Option ℕ) → IsShortName name → length (label_head name size) ≤ 44
label-length name None short =
    let n : length (record_head label_magic 1 name) ≡ 36 =
    head-length label_magic 1 name refl (short-length name short) in
    omega arith
label-length name (Some size) short =
    let n : length (record_head label_magic 2 name) ≡ 36 =
    head-length label_magic 2 name refl (short-length name short) in
    omega (arith, length-append (record_head label_magic 2 name) (to_le_bytes w64 size), bytes_8 size)

-- a concat's bytes
concat-length : (name : List ℕ) (id place count : ℕ) → IsShortName name
    → length (record_head concat_magic 1 name
    ++ (to_le_bytes w32 id ++ (to_le_bytes w16 place ++ to_le_bytes w16 count))) ≤ 48
concat-length name id place count short =
    let n : length (record_head concat_magic 1 name) ≡ 36 =
    head-length concat_magic 1 name refl (short-length name short) in
    omega (
      arith,
      length-append (record_head concat_magic 1 name)
          (to_le_bytes w32 id ++ (to_le_bytes w16 place ++ to_le_bytes w16 count)),
      length-append (to_le_bytes w32 id) (to_le_bytes w16 place ++ to_le_bytes w16 count),
      length-append (to_le_bytes w16 place) (to_le_bytes w16 count),
      bytes_4 id,
      bytes_2 place,
      bytes_2 count,
    )

-- a stripe's bytes
stripe-length : (name : List ℕ) (id place count stripe : ℕ) → IsShortName name
    → length (record_head stripe_magic 1 name
    ++ (to_le_bytes w32 id ++ (to_le_bytes w16 place ++ (to_le_bytes w16 count ++ to_le_bytes w32 stripe)))) ≤ 48
stripe-length name id place count stripe short =
    let n : length (record_head stripe_magic 1 name) ≡ 36 =
    head-length stripe_magic 1 name refl (short-length name short) in
    omega (
      arith,
      length-append (record_head stripe_magic 1 name)
          (to_le_bytes w32 id ++ (to_le_bytes w16 place ++ (to_le_bytes w16 count ++ to_le_bytes w32 stripe))),
      length-append (to_le_bytes w32 id) (to_le_bytes w16 place ++
          (to_le_bytes w16 count ++ to_le_bytes w32 stripe)),
      length-append (to_le_bytes w16 place) (to_le_bytes w16 count ++ to_le_bytes w32 stripe),
      length-append (to_le_bytes w16 count) (to_le_bytes w32 stripe),
      bytes_4 id,
      bytes_2 place,
      bytes_2 count,
      bytes_4 stripe,
    )

-- a label fills a sector
pub label_fills : (size : ℕ) (x : LabelRecord) → IsSectorSize size → IsShortName x.name
    → length (label_sector size x) ≡ size
label_fills size x is short =
    length-padded size (label_head x.name x.size)
    (let few = label-length x.name x.size short in let enough = sector-large size is in omega arith)

-- so does a concat's record
pub concat_fills : (size : ℕ) (x : ConcatRecord) → IsSectorSize size → IsShortName x.name
    → length (concat_sector size x) ≡ size
concat_fills size x is short =
    length-padded size
    (record_head concat_magic 1 x.name
    ++ (to_le_bytes w32 x.id ++ (to_le_bytes w16 x.place ++ to_le_bytes w16 x.count)))
    (let few = concat-length x.name x.id x.place x.count short in let enough = sector-large size is in omega arith)

-- and a stripe's
pub stripe_fills : (size : ℕ) (x : StripeRecord) → IsSectorSize size → IsShortName x.name
    → length (stripe_sector size x) ≡ size
stripe_fills size x is short =
    length-padded size
    (record_head stripe_magic 1 x.name
    ++ (to_le_bytes w32 x.id
    ++ (to_le_bytes w16 x.place ++ (to_le_bytes w16 x.count ++ to_le_bytes w32 x.stripe))))
    (let few = stripe-length x.name x.id x.place x.count x.stripe short in
    let enough = sector-large size is in omega arith)
