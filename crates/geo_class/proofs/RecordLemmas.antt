-- What is read in a sector that holds a record.
use Rattle.std.proofs.Common.{◌≡◌, ℕ, zero, suc, ◌+◌, ◌-◌, ◌<◌, ◌≤◌, ◌^◌, true, not, List, [], ◌∷◌, ◌++◌, length, take, drop, replicate, refl, sym, ap, ◌∙◌, arith, append_assoc, length-append, None}
use Rattle.std.proofs.lemmas.Bool.{le-leb, and_parts}
use Rattle.std.proofs.lemmas.List.{take_at, drop_at, drop-drop}
use Rattle.std.proofs.lemmas.List.Sums.{take_while-cons}
use Rattle.std.proofs.lemmas.Nat.{from_le_bytes-to_le_bytes_2, from_le_bytes-to_le_bytes_4}
use Rattle.std.proofs.lemmas.Slice.Eq.{bytes_eq-Decides}
use Rattle.std.specs.Prelude.{◌==◌, bytes_eq, take_while}
use Rattle.std.specs.List.{list_all}
use Rattle.std.specs.Int.{w16, w32, to_le_bytes, from_le_bytes}
use Rattle.geo_model.proofs.Tests.{word_byte-not_zero}
use Rattle.geo_model.specs.Name.{is_word_byte, is_short_name}
use Rattle.geo_model.specs.Words.{first_error}
use Rattle.geo_model.proofs.RecordLemmas.{length-padded}
use Rattle.geo_model.specs.Records.{padded, record_head, record_name, head_tests, u16_at, u32_at}
use Rattle.geo_class.proofs.FieldLemmas.{holds_first, holds-behind}
use Rattle.geo_class.proofs.HeadLemmas.{short_name}

-- a name ends where zeros begin
take_while-name : (name : List ℕ) (n : ℕ) → list_all is_word_byte name ≡ true
    → take_while (λ b. not (b == 0)) (name ++ replicate n 0) ≡ name
take_while-name [] zero words = refl
take_while-name [] (suc n) words = take_while-cons (λ b. not (b == 0)) 0 (replicate n 0)
take_while-name (b ∷ name) n words =
    let parts = and_parts (is_word_byte b) (list_all is_word_byte name) words in
    take_while-cons (λ b. not (b == 0)) b (name ++ replicate n 0)
    ∙ rw (word_byte-not_zero b parts.0, take_while-name name n parts.1) refl

-- parts one behind the other
layout : (a b c d e : List ℕ) → ((a ++ (b ++ c)) ++ d) ++ e ≡ a ++ (b ++ (c ++ (d ++ e)))
layout a b c d e = simp append_assoc

-- the parts from the second, the third and the fourth on, by their lengths
drop-first : (a rest : List ℕ) → length a ≡ 16 → drop 16 (a ++ rest) ≡ rest
drop-first a rest size = drop_at a rest 16 size

drop-third : (a rest : List ℕ) (n : ℕ) → length a ≡ 16 → drop 20 (a ++ (to_le_bytes w32 n ++ rest)) ≡ rest
drop-third a rest n size =
    let split : drop 4 (drop 16 (a ++ (to_le_bytes w32 n ++ rest))) ≡ drop 20 (a ++ (to_le_bytes w32 n ++ rest)) =
    drop-drop 4 16 (a ++ (to_le_bytes w32 n ++ rest)) in
    sym split ∙ ap (drop 4) (drop-first a (to_le_bytes w32 n ++ rest) size)

drop-fourth : (a b rest : List ℕ) (n : ℕ) → length a ≡ 16 → length b ≡ 16
    → drop 36 (a ++ (to_le_bytes w32 n ++ (b ++ rest))) ≡ rest
drop-fourth a b rest n size length_b =
    let split : drop 16 (drop 20 (a ++ (to_le_bytes w32 n ++ (b ++ rest))))
    ≡ drop 36 (a ++ (to_le_bytes w32 n ++ (b ++ rest))) =
    drop-drop 16 20 (a ++ (to_le_bytes w32 n ++ (b ++ rest))) in
    sym split ∙ ap (drop 16) (drop-third a (b ++ rest) n size) ∙ drop_at b rest 16 length_b

-- a sector that holds a record of this magic and name, and this behind its head
pub record HasRecord (magic : List ℕ) (version : ℕ) (name rest bytes : List ℕ) : Type 0 where
  pub magic_size : length magic ≡ 16
  pub short : is_short_name name ≡ true
  pub layout_is : bytes ≡ magic ++ (to_le_bytes w32 version ++ (padded 16 name ++ rest))

-- what an encoder writes
pub has_record : (magic : List ℕ) (version : ℕ) (name fields : List ℕ) (size : ℕ) → length magic ≡ 16
    → is_short_name name ≡ true
    → HasRecord magic version name (fields ++ replicate (size - length (record_head magic version name ++ fields)) 0)
    (padded size (record_head magic version name ++ fields))
has_record magic version name fields size magic_size short = record {
  magic_size = magic_size;
  short = short;
  layout_is = layout magic (to_le_bytes w32 version) (padded 16 name) fields
      (replicate (size - length (record_head magic version name ++ fields)) 0);
}

-- what stands behind the head
pub drop-head : (magic : List ℕ) (version : ℕ) (name rest bytes : List ℕ) → HasRecord magic version name rest bytes
    → drop 36 bytes ≡ rest
drop-head magic version name rest bytes held =
    ap (drop 36) held.layout_is ∙ drop-fourth magic (padded 16 name) rest version held.magic_size
    (length-padded 16 name (short_name name held.short).few)

-- the field of the name
name_field : (magic : List ℕ) (version : ℕ) (name rest bytes : List ℕ) → HasRecord magic version name rest bytes
    → take 16 (drop 20 bytes) ≡ padded 16 name
name_field magic version name rest bytes held =
    ap (λ xs. take 16 (drop 20 xs)) held.layout_is
    ∙ ap (take 16) (drop-third magic (padded 16 name ++ rest) version held.magic_size)
    ∙ take_at (padded 16 name) rest 16 (length-padded 16 name (short_name name held.short).few)

-- its name
pub record_name-is : (magic : List ℕ) (version : ℕ) (name rest bytes : List ℕ)
    → HasRecord magic version name rest bytes → record_name bytes ≡ name
record_name-is magic version name rest bytes held =
    ap (take_while (λ b. not (b == 0))) (name_field magic version name rest bytes held)
    ∙ take_while-name name (16 - length name) (short_name name held.short).words

-- its version
pub version-is : (magic : List ℕ) (version : ℕ) (name rest bytes : List ℕ) → HasRecord magic version name rest bytes
    → version < 2 ^ 32
    → u32_at bytes 16 ≡ version
version-is magic version name rest bytes held fits =
    ap (λ xs. from_le_bytes w32 (take 4 (drop 16 xs))) held.layout_is
    ∙ ap (λ xs. from_le_bytes w32 (take 4 xs))
    (drop-first magic (to_le_bytes w32 version ++ (padded 16 name ++ rest)) held.magic_size)
    ∙ from_le_bytes-to_le_bytes_4 version fits

-- a version from 1 to the newest one
pub record IsVersion (version newest : ℕ) : Type 0 where
  pub some : 1 ≤ version
  pub known : version ≤ newest
  pub fits : version < 2 ^ 32

-- version 1 where it is the newest
pub first_version : IsVersion 1 1
first_version = record { some = omega arith; known = omega arith; fits = omega arith }

-- nothing is against its head
pub first_error-head : (magic : List ℕ) (version newest : ℕ) (name rest bytes : List ℕ)
    → HasRecord magic version name rest bytes
    → IsVersion version newest → first_error (head_tests magic newest bytes) ≡ None
first_error-head magic version newest name rest bytes held known =
    let front : take 16 bytes ≡ magic =
    ap (take 16) held.layout_is ∙ take_at magic (to_le_bytes w32 version ++ (padded 16 name ++ rest)) 16
    held.magic_size in
    let same_magic : bytes_eq magic magic ≡ true = (bytes_eq-Decides magic magic).1 refl in
    let same_field : bytes_eq (padded 16 name) (padded 16 name)
    ≡ true = (bytes_eq-Decides (padded 16 name) (padded 16 name)).1 refl in
    let named : record_name bytes ≡ name = record_name-is magic version name rest bytes held in
    rw (
      front,
      same_magic,
      version-is magic version name rest bytes held known.fits,
      le-leb 1 version known.some,
      le-leb version newest known.known,
      named,
      name_field magic version name rest bytes held,
      held.short,
      same_field,
    ) refl

-- the magic and the version stand in front of zeros
pub length-version : (magic : List ℕ) (version : ℕ) → length magic ≡ 16 → length (magic ++ to_le_bytes w32 version) ≡ 20
length-version magic version size = length-append magic (to_le_bytes w32 version) ∙ ap (λ k. k + 4) size

pub holds_version : (n version : ℕ) (magic zeros first second : List ℕ) → length magic ≡ 16 → 36 ≤ n
    → zeros ≡ replicate n 0
    → first ≡ padded (length zeros) (take 0 zeros ++ magic)
    → second ≡ padded (length first) (take 16 first ++ to_le_bytes w32 version)
    → second ≡ padded n (magic ++ to_le_bytes w32 version)
holds_version n version magic zeros first second size room blank wrote_magic wrote_version =
    holds-behind n 16 magic (to_le_bytes w32 version) first second (holds_first n magic zeros first blank wrote_magic)
    size (omega (arith, room)) wrote_version

-- a number that stands at a place is read there
pub u16_at-there : (bytes after : List ℕ) (i n : ℕ) → drop i bytes ≡ to_le_bytes w16 n ++ after → n < 2 ^ 16
    → u16_at bytes i ≡ n
u16_at-there bytes after i n stands fits = ap (λ xs. from_le_bytes w16 (take 2 xs)) stands
    ∙ from_le_bytes-to_le_bytes_2 n fits

pub u32_at-there : (bytes after : List ℕ) (i n : ℕ) → drop i bytes ≡ to_le_bytes w32 n ++ after → n < 2 ^ 32
    → u32_at bytes i ≡ n
u32_at-there bytes after i n stands fits = ap (λ xs. from_le_bytes w32 (take 4 xs)) stands
    ∙ from_le_bytes-to_le_bytes_4 n fits

-- what stands behind a field
pub drop-field : (bytes field after : List ℕ) (i m : ℕ) → drop i bytes ≡ field ++ after → length field ≡ m
    → drop (i + m) bytes ≡ after
drop-field bytes field after i m stands size = sym (drop-drop m i bytes) ∙ ap (drop m) stands
    ∙ drop_at field after m size

-- the head of a record has 36 bytes
pub length-head : (magic : List ℕ) (version : ℕ) (name : List ℕ) → length magic ≡ 16 → is_short_name name ≡ true
    → length (record_head magic version name) ≡ 36
length-head magic version name size short =
    let field : length (padded 16 name) ≡ 16 = length-padded 16 name (short_name name short).few in
    length-append magic (to_le_bytes w32 version ++ padded 16 name)
    ∙ omega (arith, size, length-append (to_le_bytes w32 version) (padded 16 name), field)

-- the fields of a component, which are read where they stand
pub record ReadsComponent (bytes after : List ℕ) (id place count : ℕ) : Type 0 where
  pub id_is : u32_at bytes 36 ≡ id
  pub place_is : u16_at bytes 40 ≡ place
  pub count_is : u16_at bytes 42 ≡ count
  pub behind : drop 44 bytes ≡ after

pub reads_component : (bytes after : List ℕ) (id place count : ℕ) → id < 2 ^ 32 → place < 2 ^ 16 → count < 2 ^ 16
    → drop 36 bytes ≡ to_le_bytes w32 id ++ (to_le_bytes w16 place ++ (to_le_bytes w16 count ++ after))
    → ReadsComponent bytes after id place count
reads_component bytes after id place count id_fits place_fits count_fits stands =
    let at_place : drop 40 bytes ≡ to_le_bytes w16 place ++ (to_le_bytes w16 count ++ after) =
    drop-field bytes (to_le_bytes w32 id) (to_le_bytes w16 place ++ (to_le_bytes w16 count ++ after)) 36 4 stands
    refl in
    let at_count : drop 42 bytes ≡ to_le_bytes w16 count ++ after =
    drop-field bytes (to_le_bytes w16 place) (to_le_bytes w16 count ++ after) 40 2 at_place refl in
    record {
      id_is = u32_at-there bytes _ 36 id stands id_fits;
      place_is = u16_at-there bytes _ 40 place at_place place_fits;
      count_is = u16_at-there bytes _ 42 count at_count count_fits;
      behind = drop-field bytes (to_le_bytes w16 count) after 42 2 at_count refl;
    }
