-- What tests tell, where std has no lemma for it: of bytes, of names and of numbers.
use Rattle.std.specs.Prelude.{◌≡◌, ◌≢◌, ◌⊎◌, ◌==◌, ℕ, zero, suc, ◌≤◌, nat_le, Bool, true, false, not, ◌&&◌, List, [], ◌∷◌, length, bytes_eq}
use Rattle.std.specs.Bool.{Decides}
use Rattle.std.specs.List.{list_all}
use Rattle.std.proofs.Common.{inl, inr, refl, sym, ◌∙◌, ap, arith}
use Rattle.std.proofs.lemmas.Bool.{and_parts, eq-eqb, false_from_ne_true, ne_eqb, leb-true, le-leb}
use Rattle.std.proofs.lemmas.Slice.Eq.{bytes_eq-Decides}
use Rattle.geo_base.specs.Name.{is_word_byte, is_name_byte, is_short_name, is_name}
pub use Rattle.geo_base.proofs.FilterLists.{filter_map-same}
pub use Rattle.geo_base.proofs.Options.{is_some-map}

-- Tests

-- two tests that follow from each other are the same
pub same_tests : (a b : Bool) → (a ≡ true → b ≡ true) → (b ≡ true → a ≡ true) → a ≡ b
same_tests true b there back = sym (there refl)
same_tests false true there back = back refl
same_tests false false there back = refl

-- true isn't false
pub from_false_true : {A : Type 0} → false ≡ true → A
from_false_true never = absurd (let no : ⊥ = cc in no)

-- nor is false true
pub from_true_false : {A : Type 0} → true ≡ false → A
from_true_false never = absurd (let no : ⊥ = cc in no)

-- a number that the test tells apart is another one
pub passes_apart : (n p : ℕ) → not (n == p) ≡ true → n ≢ p
passes_apart n p e same = let is : (n == p) ≡ true = eq-eqb n p same in let no : false ≡ true =
    sym (ap not is) ∙ e in cc

-- Bytes

-- bytes are the same as themselves
pub bytes_eq-same : (bytes : List ℕ) → bytes_eq bytes bytes ≡ true
bytes_eq-same bytes = (bytes_eq-Decides bytes bytes).1 refl

-- bytes that the test finds equal are equal
pub same_from_bytes_eq : (a b : List ℕ) → bytes_eq a b ≡ true → a ≡ b
same_from_bytes_eq a b = (bytes_eq-Decides a b).0

-- other bytes are told apart
pub bytes_eq-other : (a b : List ℕ) → a ≢ b → bytes_eq a b ≡ false
bytes_eq-other a b other = false_from_ne_true (bytes_eq a b) (λ e. other (same_from_bytes_eq a b e))

-- what a test decides holds or not
decided : {P : Type 0} (b : Bool) → Decides b P → P ⊎ (P → ⊥)
decided true d = inl (d.0 refl)
decided false d = inr (λ p. let wrong : false ≡ true = d.1 p in cc)

-- two strings of bytes are the same or not
pub same_or_other : (a b : List ℕ) → (a ≡ b) ⊎ (a ≢ b)
same_or_other a b = decided (bytes_eq a b) (bytes_eq-Decides a b)

-- Names

-- a byte of a short name isn't zero
pub word_byte-not_zero : (b : ℕ) → is_word_byte b ≡ true → not (b == 0) ≡ true
word_byte-not_zero zero word = cc
word_byte-not_zero (suc b) word = rw (ne_eqb (suc b) 0 (omega arith)) refl

-- bytes of a short name are bytes of a name
pub word_bytes-name_bytes : (bytes : List ℕ) → list_all is_word_byte bytes ≡ true
    → list_all is_name_byte bytes ≡ true
word_bytes-name_bytes [] words = refl
word_bytes-name_bytes (b ∷ bytes) words =
    let parts = and_parts (is_word_byte b) (list_all is_word_byte bytes) words in
    let first : is_name_byte b ≡ true = rw parts.0 refl in
    rw (first, word_bytes-name_bytes bytes parts.1) refl

-- a short name is a name
pub short_name-named : (bytes : List ℕ) → is_short_name bytes ≡ true → is_name bytes ≡ true
short_name-named bytes short =
    let all = and_parts (nat_le 1 (length bytes) && nat_le (length bytes) 16) (list_all is_word_byte bytes) short in
    let inner = and_parts (nat_le 1 (length bytes)) (nat_le (length bytes) 16) all.0 in
    let few : length bytes ≤ 16 = leb-true (length bytes) 16 inner.1 in
    let fits : nat_le (length bytes) 63 ≡ true = le-leb (length bytes) 63 (omega (arith, few)) in
    rw (inner.0, fits, word_bytes-name_bytes bytes all.1) refl
