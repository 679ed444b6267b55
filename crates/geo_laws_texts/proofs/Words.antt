-- Bytes that are a name.
use Rattle.std.specs.Prelude.{◌≡◌, ℕ, ◌+◌, ◌≤◌, ◌==◌, nat_le, true, ◌&&◌, ◌||◌, List, [], ◌∷◌, ◌++◌, length, codes}
use Rattle.std.specs.List.{list_all}
use Rattle.std.proofs.Common.{refl, ◌∙◌, arith, length-append}
use Rattle.std.proofs.lemmas.Bool.{and_from, and_parts, le-leb, leb-true, or_left}
use Rattle.std.proofs.lemmas.List.Folds.{list_all-append}
use Rattle.geo_base.specs.Name.{is_word_byte, is_name_byte, is_name, is_short_name}
use Rattle.geo_model.specs.Names.{concat_name, stripe_name}

-- a byte of a word is one of a name
byte_is : (b : ℕ) → is_word_byte b ≡ true → is_name_byte b ≡ true
byte_is b word = or_left (is_word_byte b || (b == 46)) (b == 47) (or_left (is_word_byte b) (b == 46) word)

-- so are all
bytes_are : (bs : List ℕ) → list_all is_word_byte bs ≡ true → list_all is_name_byte bs ≡ true
bytes_are [] words = refl
bytes_are (b ∷ bs) words =
    let parts = and_parts (is_word_byte b) (list_all is_word_byte bs) words in
    and_from (is_name_byte b) (list_all is_name_byte bs) (byte_is b parts.0) (bytes_are bs parts.1)

-- a short name: how long it is, and of what bytes
record IsShort (bs : List ℕ) : Type 0 where
  some : 1 ≤ length bs
  short : length bs ≤ 16
  bytes : list_all is_name_byte bs ≡ true

short_is : (bs : List ℕ) → is_short_name bs ≡ true → IsShort bs
short_is bs is =
    let sized = and_parts (nat_le 1 (length bs) && nat_le (length bs) 16) (list_all is_word_byte bs) is in
    let sizes = and_parts (nat_le 1 (length bs)) (nat_le (length bs) 16) sized.0 in
    record {
      some = leb-true 1 (length bs) sizes.0;
      short = leb-true (length bs) 16 sizes.1;
      bytes = bytes_are bs sized.1;
    }

-- bytes of a name that are no more than 63 are one
name_is : (bs : List ℕ) → 1 ≤ length bs → length bs ≤ 63 → list_all is_name_byte bs ≡ true → is_name bs ≡ true
name_is bs some short bytes =
    and_from (nat_le 1 (length bs) && nat_le (length bs) 63) (list_all is_name_byte bs)
    (and_from (nat_le 1 (length bs)) (nat_le (length bs) 63) (le-leb 1 (length bs) some) (le-leb (length bs) 63 short))
    bytes

-- a short name is a name
pub short_name : (bs : List ℕ) → is_short_name bs ≡ true → is_name bs ≡ true
short_name bs is = let s = short_is bs is in name_is bs s.some (omega (arith, s.short)) s.bytes

-- so it is with some bytes of a name before it
prefixed : (front bs : List ℕ) → length front ≤ 47 → list_all is_name_byte front ≡ true → is_short_name bs ≡ true
    → is_name (front ++ bs) ≡ true
prefixed front bs few bytes is =
    let s = short_is bs is in
    let some = s.some in
    let short = s.short in
    let long : length (front ++ bs) ≡ length front + length bs = length-append front bs in
    name_is (front ++ bs) (omega (arith, long, some)) (omega (arith, long, short, few))
    (list_all-append is_name_byte front bs
    ∙ and_from (list_all is_name_byte front) (list_all is_name_byte bs) bytes s.bytes)

-- names of concats and stripes
pub name_of_concat : (bs : List ℕ) → is_short_name bs ≡ true → is_name (concat_name bs) ≡ true
name_of_concat bs is = prefixed (codes "concat/") bs (omega arith) refl is

pub name_of_stripe : (bs : List ℕ) → is_short_name bs ≡ true → is_name (stripe_name bs) ≡ true
name_of_stripe bs is = prefixed (codes "stripe/") bs (omega arith) refl is
