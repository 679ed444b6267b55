-- Each record that is written is read again.
use Rattle.std.specs.Prelude.{◌≡◌, ℕ, zero, suc, ◌+◌, ◌-◌, ◌%◌, ◌^◌, ◌<◌, ◌≤◌, ◌==◌, nat_le, Bool, true, false, not, ◌&&◌, List, [], ◌∷◌, ◌++◌, length, take, drop, replicate, take_while, bytes_eq, Option, Some, None, Ok, IfSome}
use Rattle.std.specs.List.{list_all, prefix_len}
use Rattle.std.specs.Int.{w16, w32, w64, to_le_bytes, from_le_bytes}
use Rattle.std.proofs.Common.{refl, ◌∙◌, ap, subst, arith, length-append, inl, inr}
use Rattle.std.proofs.lemmas.Bool.{and_parts, leb-true, le-leb, lt-ltb}
use Rattle.std.proofs.lemmas.List.{length-replicate, append_assoc}
use Rattle.std.proofs.lemmas.Nat.{from_le_bytes-to_le_bytes_2, from_le_bytes-to_le_bytes_4, from_le_bytes-to_le_bytes_8}
use Rattle.std.proofs.Math.Seq.{take-append_seam, drop-append-add}
use Rattle.geo_base.proofs.Tests.{word_byte-not_zero, bytes_eq-same}
use Rattle.geo_base.specs.Name.{is_short_name, is_word_byte}
use Rattle.geo_model.specs.declared.class.ConcatRecord.{ConcatRecord}
use Rattle.geo_model.specs.declared.class.LabelRecord.{LabelRecord}
use Rattle.geo_model.specs.declared.class.StripeRecord.{StripeRecord}
use Rattle.geo_model.specs.Words.{first_error}
use Rattle.geo_model.specs.Records.{padded, record_head, label_magic, label_record, label_sector, record_name, head_tests, place_test, concat_magic, concat_tests, concat_record, concat_sector, stripe_magic, stripe_tests, stripe_record, stripe_sector, size_test, is_stripe_size, u16_at, u32_at, u64_at}
use Rattle.geo_base.specs.Sectors.{IsSectorSize}
use Rattle.geo_base.specs.declared.limits.TheConstants.{MAX_COMPONENTS, MAX_STRIPE_BYTES}
use Rattle.geo_model.specs.FormatLaws.{IsPlaceOf}

-- bytes with zeros behind them are as long as their field
pub length-padded : (size : ℕ) (bytes : List ℕ) → length bytes ≤ size → length (padded size bytes) ≡ size
length-padded size bytes fits =
    length-append bytes (replicate {A = ℕ} (size - length bytes) 0)
    ∙ rw (length-replicate {A = ℕ} (size - length bytes) 0) (omega (arith, fits))

-- a name as its field of 16 bytes
field-take : (name rest : List ℕ) → length name ≤ 16 → take 16 (padded 16 name ++ rest) ≡ padded 16 name
field-take name rest short =
    subst (λ n. take n (padded 16 name ++ rest) ≡ padded 16 name) (length-padded 16 name short)
    (take-append_seam (padded 16 name) rest)

field-drop : (name rest : List ℕ) (n : ℕ) → length name ≤ 16 → drop (16 + n) (padded 16 name ++ rest) ≡ drop n rest
field-drop name rest n short =
    subst (λ k. drop (k + n) (padded 16 name ++ rest) ≡ drop n rest) (length-padded 16 name short)
    (drop-append-add (padded 16 name) rest n)

zeros-prefix : (k : ℕ) → prefix_len (λ (b : ℕ). not (b == 0)) (replicate k 0) ≡ 0
zeros-prefix zero = refl
zeros-prefix (suc k) = refl

name-prefix : (name : List ℕ) (k : ℕ) → list_all is_word_byte name ≡ true
    → prefix_len (λ (b : ℕ). not (b == 0)) (name ++ replicate k 0) ≡ length name
name-prefix [] k all = zeros-prefix k
name-prefix (b ∷ name) k all =
    let parts = and_parts (is_word_byte b) (list_all is_word_byte name) all in
    rw (word_byte-not_zero b parts.0, name-prefix name k parts.1) (omega arith)

name-taken : (name : List ℕ) (k : ℕ) → list_all is_word_byte name ≡ true
    → take_while (λ (b : ℕ). not (b == 0)) (name ++ replicate k 0) ≡ name
name-taken name k all = rw (name-prefix name k all) (take-append_seam name (replicate k 0))

-- the name in its field is read again
name-read : (name rest : List ℕ) → length name ≤ 16 → list_all is_word_byte name ≡ true
    → take_while (λ (b : ℕ). not (b == 0)) (take 16 (padded 16 name ++ rest)) ≡ name
name-read name rest short all = rw (field-take name rest short) (name-taken name (16 - length name) all)

-- what a short name is
pub short-length : (name : List ℕ) → is_short_name name ≡ true → length name ≤ 16
short-length name e =
    let parts = and_parts (nat_le 1 (length name) && nat_le (length name) 16) (list_all is_word_byte name) e in
    leb-true (length name) 16 (and_parts (nat_le 1 (length name)) (nat_le (length name) 16) parts.0).1

short-bytes : (name : List ℕ) → is_short_name name ≡ true → list_all is_word_byte name ≡ true
short-bytes name e = (and_parts (nat_le 1 (length name) && nat_le (length name) 16) (list_all is_word_byte name) e).1

-- a head in order has no cause
head-none : (magic : List ℕ) (newest : ℕ) (bytes name : List ℕ) → bytes_eq (take 16 bytes) magic ≡ true
    → (nat_le 1 (u32_at bytes 16) && nat_le (u32_at bytes 16) newest) ≡ true
    → record_name bytes ≡ name → take 16 (drop 20 bytes) ≡ padded 16 name → is_short_name name ≡ true
    → first_error (head_tests magic newest bytes) ≡ None
head-none magic newest bytes name m v n field short =
    let same : bytes_eq (take 16 (drop 20 bytes)) (padded 16 (record_name bytes)) ≡ true =
    rw (n, field) (bytes_eq-same (padded 16 name)) in
    let named : is_short_name (record_name bytes) ≡ true = rw n short in
    rw (m, v, named, same) refl

-- tests behind others that hold none
row-errors : {E : Type 0} (row : Bool × E) (xs ys : List (Bool × E)) (b : Bool) → row.0 ≡ b
    → first_error (row ∷ xs) ≡ None
    → (first_error xs ≡ None → first_error (xs ++ ys) ≡ first_error ys) → first_error (row ∷ xs ++ ys) ≡ first_error ys
row-errors row xs ys true t e rest = let no : Some row.1 ≡ None = rw t at e in cc
row-errors row xs ys false t e rest = rw t (rest (rw t at e))

-- so for all that stand before them
pub append-errors : {E : Type 0} (xs ys : List (Bool × E)) → first_error xs ≡ None
    → first_error (xs ++ ys) ≡ first_error ys
append-errors [] ys e = refl
append-errors (row ∷ xs) ys e = row-errors row xs ys row.0 refl e (append-errors xs ys)

-- a place that is in order has no cause
place-none : (bytes : List ℕ) (place count : ℕ) → u16_at bytes 40 ≡ place → u16_at bytes 42 ≡ count
    → 1 ≤ count → count ≤ MAX_COMPONENTS → place < count
    → first_error (place_test (u16_at bytes 40) (u16_at bytes 42) ∷ []) ≡ None
place-none bytes place count p c some few inside =
    rw (p, c, le-leb 1 count some, le-leb count MAX_COMPONENTS few, lt-ltb place count inside) refl

-- the fields behind the name of a record
module _ (name fields rest : List ℕ) (short : length name ≤ 16) where
  tail-is : (padded 16 name ++ fields) ++ rest ≡ padded 16 name ++ (fields ++ rest)
  tail-is = append_assoc (padded 16 name) fields rest

  fields-drop : (n : ℕ) → drop (16 + n) ((padded 16 name ++ fields) ++ rest) ≡ drop n (fields ++ rest)
  fields-drop n = ap (λ l. drop (16 + n) l) tail-is ∙ field-drop name (fields ++ rest) n short

  fields-name : list_all is_word_byte name ≡ true
      → take_while (λ (b : ℕ). not (b == 0)) (take 16 ((padded 16 name ++ fields) ++ rest)) ≡ name
  fields-name all = ap (λ l. take_while (λ (b : ℕ). not (b == 0)) (take 16 l)) tail-is
      ∙ name-read name (fields ++ rest) short all

  fields-take : take 16 ((padded 16 name ++ fields) ++ rest) ≡ padded 16 name
  fields-take = ap (λ l. take 16 l) tail-is ∙ field-take name (fields ++ rest) short

-- a label of version 1
label-read_1 : (size : ℕ) (name : List ℕ) → is_short_name name ≡ true
    → label_record (label_sector size (record { name = name; size = None })) ≡ Ok (record { name = name; size = None })
label-read_1 size name short =
    let bytes : List ℕ = label_sector size (record { name = name; size = None }) in
    let rest : List ℕ = replicate (size - length (record_head label_magic 1 name)) 0 in
    let low : length name ≤ 16 = short-length name short in
    let read : record_name bytes ≡ name = name-read name rest low (short-bytes name short) in
    let field : take 16 (drop 20 bytes) ≡ padded 16 name = field-take name rest low in
    let head : first_error (head_tests label_magic 2 bytes) ≡ None =
    head-none label_magic 2 bytes name refl refl read field short in
    rw (head, read) refl

-- a label of version 2
label-read_2 : (size : ℕ) (name : List ℕ) (said : ℕ) → is_short_name name ≡ true → said < 2 ^ 64
    → label_record (label_sector size (record { name = name; size = Some said }))
    ≡ Ok (record { name = name; size = Some said })
label-read_2 size name said short fits =
    let bytes : List ℕ = label_sector size (record { name = name; size = Some said }) in
    let fields : List ℕ = to_le_bytes w64 said in
    let rest : List ℕ = replicate (size - length (record_head label_magic 2 name ++ fields)) 0 in
    let low : length name ≤ 16 = short-length name short in
    let read : record_name bytes ≡ name = fields-name name fields rest low (short-bytes name short) in
    let field : take 16 (drop 20 bytes) ≡ padded 16 name = fields-take name fields rest low in
    let head : first_error (head_tests label_magic 2 bytes) ≡ None =
    head-none label_magic 2 bytes name refl refl read field short in
    let says : u64_at bytes 36 ≡ said =
    ap (λ l. from_le_bytes w64 (take 8 l)) (fields-drop name fields rest low 0)
    ∙ from_le_bytes-to_le_bytes_8 said fits in
    rw (head, read, says) refl

label-read_by : (size : ℕ) (name : List ℕ) (said : Option ℕ) → is_short_name name ≡ true → IfSome said (λ n. n < 2 ^ 64)
    → label_record (label_sector size (record { name = name; size = said })) ≡ Ok (record { name = name; size = said })
label-read_by size name None short fits = label-read_1 size name short
label-read_by size name (Some said) short fits = label-read_2 size name said short fits

pub label-read : (size : ℕ) (x : LabelRecord) → is_short_name x.name ≡ true → IfSome x.size (λ n. n < 2 ^ 64)
    → label_record (label_sector size x) ≡ Ok x
label-read size x short fits = label-read_by size x.name x.size short fits

pub concat-read : (size : ℕ) (x : ConcatRecord) → is_short_name x.name ≡ true → IsPlaceOf x.id x.place x.count
    → concat_record (concat_sector size x) ≡ Ok x
concat-read size x short fits =
    let fields : List ℕ = to_le_bytes w32 x.id ++ (to_le_bytes w16 x.place ++ to_le_bytes w16 x.count) in
    let rest : List ℕ = replicate (size - length (record_head concat_magic 1 x.name ++ fields)) 0 in
    let bytes : List ℕ = concat_sector size x in
    let low : length x.name ≤ 16 = short-length x.name short in
    let name : record_name bytes ≡ x.name = fields-name x.name fields rest low (short-bytes x.name short) in
    let field : take 16 (drop 20 bytes) ≡ padded 16 x.name = fields-take x.name fields rest low in
    let head : first_error (head_tests concat_magic 1 bytes) ≡ None =
    head-none concat_magic 1 bytes x.name refl refl name field short in
    let id : u32_at bytes 36 ≡ x.id =
    ap (λ l. from_le_bytes w32 (take 4 l)) (fields-drop x.name fields rest low 0)
    ∙ from_le_bytes-to_le_bytes_4 x.id fits.id_fits in
    let place : u16_at bytes 40 ≡ x.place =
    ap (λ l. from_le_bytes w16 (take 2 l)) (fields-drop x.name fields rest low 4)
    ∙ from_le_bytes-to_le_bytes_2 x.place (omega (arith, fits.inside, fits.few_places)) in
    let count : u16_at bytes 42 ≡ x.count =
    ap (λ l. from_le_bytes w16 (take 2 l)) (fields-drop x.name fields rest low 6)
    ∙ from_le_bytes-to_le_bytes_2 x.count (omega (arith, fits.few_places)) in
    let tests : first_error (concat_tests bytes) ≡ None =
    append-errors (head_tests concat_magic 1 bytes) (place_test (u16_at bytes 40) (u16_at bytes 42) ∷ []) head
    ∙ place-none bytes x.place x.count place count fits.some_place fits.few_places fits.inside in
    rw (tests, name, id, place, count) refl

-- a number of 32 bits is written in four bytes
pub bytes_4 : (n : ℕ) → length (to_le_bytes w32 n) ≡ 4
bytes_4 n = refl

-- how long the head of a record is, and a record in a sector
pub head-length : (magic : List ℕ) (version : ℕ) (name : List ℕ) → length magic ≡ 16 → length name ≤ 16
    → length (record_head magic version name) ≡ 36
head-length magic version name m short =
    omega (
      arith,
      length-append magic (to_le_bytes w32 version ++ padded 16 name),
      length-append (to_le_bytes w32 version) (padded 16 name),
      m,
      bytes_4 version,
      length-padded 16 name short,
    )

pub sector-large : (size : ℕ) → IsSectorSize size → 512 ≤ size
sector-large size (inl e) = omega (arith, e)
sector-large size (inr e) = omega (arith, e)

-- a stripe size that is in order has no cause
size-none : (bytes : List ℕ) (stripe size : ℕ) → u32_at bytes 44 ≡ stripe → length bytes ≡ size
    → is_stripe_size stripe size ≡ true
    → first_error (size_test (u32_at bytes 44) (length bytes) ∷ []) ≡ None
size-none bytes stripe size s l good = rw (s, l, good) refl

pub stripe-read : (size : ℕ) (x : StripeRecord) → IsSectorSize size → is_short_name x.name ≡ true
    → IsPlaceOf x.id x.place x.count
    → is_stripe_size x.stripe size ≡ true → stripe_record (stripe_sector size x) ≡ Ok x
stripe-read size x sector short fits good =
    let fields : List ℕ =
    to_le_bytes w32 x.id ++ (to_le_bytes w16 x.place ++ (to_le_bytes w16 x.count ++ to_le_bytes w32 x.stripe)) in
    let rest : List ℕ = replicate (size - length (record_head stripe_magic 1 x.name ++ fields)) 0 in
    let bytes : List ℕ = stripe_sector size x in
    let low : length x.name ≤ 16 = short-length x.name short in
    let long : length bytes ≡ size =
    length-padded size (record_head stripe_magic 1 x.name ++ fields)
    (omega (
      arith,
      length-append (record_head stripe_magic 1 x.name) fields,
      head-length stripe_magic 1 x.name refl low,
      sector-large size sector,
    )) in
    let sizes = and_parts (nat_le 1 x.stripe) (nat_le x.stripe MAX_STRIPE_BYTES && (x.stripe % size == 0)) good in
    let limited : x.stripe ≤ MAX_STRIPE_BYTES =
    leb-true x.stripe MAX_STRIPE_BYTES
    (and_parts (nat_le x.stripe MAX_STRIPE_BYTES) (x.stripe % size == 0) sizes.1).0 in
    let name : record_name bytes ≡ x.name = fields-name x.name fields rest low (short-bytes x.name short) in
    let field : take 16 (drop 20 bytes) ≡ padded 16 x.name = fields-take x.name fields rest low in
    let head : first_error (head_tests stripe_magic 1 bytes) ≡ None =
    head-none stripe_magic 1 bytes x.name refl refl name field short in
    let id : u32_at bytes 36 ≡ x.id =
    ap (λ l. from_le_bytes w32 (take 4 l)) (fields-drop x.name fields rest low 0)
    ∙ from_le_bytes-to_le_bytes_4 x.id fits.id_fits in
    let place : u16_at bytes 40 ≡ x.place =
    ap (λ l. from_le_bytes w16 (take 2 l)) (fields-drop x.name fields rest low 4)
    ∙ from_le_bytes-to_le_bytes_2 x.place (omega (arith, fits.inside, fits.few_places)) in
    let count : u16_at bytes 42 ≡ x.count =
    ap (λ l. from_le_bytes w16 (take 2 l)) (fields-drop x.name fields rest low 6)
    ∙ from_le_bytes-to_le_bytes_2 x.count (omega (arith, fits.few_places)) in
    let stripe : u32_at bytes 44 ≡ x.stripe =
    ap (λ l. from_le_bytes w32 (take 4 l)) (fields-drop x.name fields rest low 8)
    ∙ from_le_bytes-to_le_bytes_4 x.stripe (omega (arith, limited)) in
    let tail : first_error (place_test (u16_at bytes 40) (u16_at bytes 42)
    ∷ size_test (u32_at bytes 44) (length bytes) ∷ []) ≡ None =
    append-errors (place_test (u16_at bytes 40) (u16_at bytes 42) ∷ [])
    (size_test (u32_at bytes 44) (length bytes) ∷ [])
    (place-none bytes x.place x.count place count fits.some_place fits.few_places fits.inside)
    ∙ size-none bytes x.stripe size stripe long good in
    let tests : first_error (stripe_tests bytes) ≡ None =
    append-errors (head_tests stripe_magic 1 bytes) (place_test (u16_at bytes 40) (u16_at bytes 42)
    ∷ size_test (u32_at bytes 44) (length bytes) ∷ []) head
    ∙ tail in
    rw (tests, name, id, place, count, stripe) refl
