-- Names in a field, with zeros behind them.
use Rattle.std.proofs.Common.{◌≡◌, ℕ, zero, suc, ◌-◌, ◌≤◌, Bool, true, false, ◌&&◌, not, List, [], ◌∷◌, ◌++◌, length, take, drop, replicate, refl, sym, ap, ◌∙◌, arith, length-drop, length-take-le, take-append-drop, Some, None, inl, inr}
use Rattle.std.proofs.lemmas.Bool.{eqb-true, leb-true, cases_Bool, and_parts}
use Rattle.std.proofs.lemmas.Slice.Eq.{bytes_eq-Decides}
use Rattle.std.proofs.lemmas.List.Sums.{prefix_len-le-length}
use Rattle.std.specs.Prelude.{◌==◌, nat_le, if◌then◌else◌, bytes_eq}
use Rattle.std.specs.List.{list_all, prefix_len}
use Rattle.std.proofs.Math.Bool.{and-false}
use Rattle.geo_model.proofs.Tests.{same_tests, short_name-named}
use Rattle.geo_model.specs.Name.{is_word_byte, is_short_name, is_name, name_of}
use Rattle.geo_model.specs.Records.{padded}
use Rattle.geo_class.specs.Head.{padded_name}
use Rattle.geo_class.proofs.FieldLemmas.{drop-padded}

list_all-zeros : (n : ℕ) → list_all (λ b. b == 0) (replicate n 0) ≡ true
list_all-zeros zero = refl
list_all-zeros (suc n) = list_all-zeros n

replicate-from_zeros : (xs : List ℕ) → list_all (λ b. b == 0) xs ≡ true → xs ≡ replicate (length xs) 0
replicate-from_zeros [] zeros = refl
replicate-from_zeros (x ∷ xs) zeros =
    let parts = and_parts (x == 0) (list_all (λ b. b == 0) xs) zeros in
    let first : x ≡ 0 = eqb-true x 0 parts.0 in
    let rest : xs ≡ replicate (length xs) 0 = replicate-from_zeros xs parts.1 in
    ap (λ y. y ∷ xs) first ∙ ap (λ ys. 0 ∷ ys) rest

-- a field is its first bytes with zeros behind them where the others are zero
bytes_eq-padded : (field : List ℕ) (len : ℕ) → length field ≡ 16 → len ≤ 16
    → bytes_eq field (padded 16 (take len field)) ≡ list_all (λ b. b == 0) (drop len field)
bytes_eq-padded field len size short =
    let taken : length (take len field) ≡ len = length-take-le len field (omega (arith, size, short)) in
    let left : length (drop len field) ≡ 16 - len = omega (arith, length-drop len field, size) in
    same_tests (bytes_eq field (padded 16 (take len field))) (list_all (λ b. b == 0) (drop len field))
    (λ same.
    let whole : field ≡ padded 16 (take len field) = (bytes_eq-Decides field (padded 16 (take len field))).0 same in
    let rest : drop len field ≡ replicate (16 - len) 0 = ap (drop len) whole
    ∙ drop-padded 16 len (take len field) taken in
    rw rest (list_all-zeros (16 - len)))
    (λ zeros.
    let rest : drop len field ≡ replicate (16 - length (take len field)) 0 =
    replicate-from_zeros (drop len field) zeros ∙ ap (λ n. replicate n 0) (left ∙ ap (λ n. 16 - n) (sym taken)) in
    let whole : field ≡ padded 16 (take len field) = sym (take-append-drop len field)
    ∙ ap (λ ys. take len field ++ ys) rest in
    (bytes_eq-Decides field (padded 16 (take len field))).1 whole)

-- what a short name is
pub record ShortName (bytes : List ℕ) : Type 0 where
  pub few : length bytes ≤ 16
  pub words : list_all is_word_byte bytes ≡ true
  pub named : is_name bytes ≡ true

pub short_name : (bytes : List ℕ) → is_short_name bytes ≡ true → ShortName bytes
short_name bytes short =
    let outer = and_parts (nat_le 1 (length bytes) && nat_le (length bytes) 16) (list_all is_word_byte bytes) short in
    let inner = and_parts (nat_le 1 (length bytes)) (nat_le (length bytes) 16) outer.0 in
    let few : length bytes ≤ 16 = leb-true (length bytes) 16 inner.1 in
    record {
      few = few;
      words = outer.1;
      named = short_name-named bytes short;
    }

-- a name that was made has the bytes that it was made of
name_of-when : (bytes name : List ℕ) (b : Bool) → is_name bytes ≡ b → name_of bytes ≡ Some name → bytes ≡ name
name_of-when bytes name true named found = let h : Some bytes ≡ Some name = rw named at found in cc
name_of-when bytes name false named found = let h : None ≡ Some name = rw named at found in let no : ⊥ = cc in absurd no

name_of-bytes : (bytes name : List ℕ) → name_of bytes ≡ Some name → bytes ≡ name
name_of-bytes bytes name found = name_of-when bytes name (is_name bytes) refl found

-- the tests of a name in a field
module _ (field : List ℕ) (len : ℕ) (size : length field ≡ 16) (before : len ≡ prefix_len (λ b. not (b == 0)) field)
  where
    short_len : len ≤ 16
    short_len = omega (arith, before, size, prefix_len-le-length (λ b. not (b == 0)) field)

    -- the field by its first bytes
    padded_name-is : padded_name field
        ≡ (if is_short_name (take len field) && list_all (λ b. b == 0) (drop len field) then Some
        (take len field) else None)
    padded_name-is = rw (← before, bytes_eq-padded field len size short_len) refl

    -- another byte than zero stands behind it
    pub padded_name-rest : list_all (λ b. b == 0) (drop len field) ≡ false → padded_name field ≡ None
    padded_name-rest rest = padded_name-is ∙ (rw (rest, and-false (is_short_name (take len field))) refl)

    -- it isn't a short name
    pub padded_name-not_short : is_short_name (take len field) ≡ false → padded_name field ≡ None
    padded_name-not_short long = padded_name-is ∙ (rw long refl)

    -- it isn't a name
    pub padded_name-no_name : name_of (take len field) ≡ None → padded_name field ≡ None
    padded_name-no_name none = elim (cases_Bool (is_short_name (take len field))) [
      | inl short ↦
          let named : is_name (take len field) ≡ true = (short_name (take len field) short).named in
          let some : name_of (take len field) ≡ Some (take len field) = rw named refl in
          let no : ⊥ = cc in absurd no
      | inr long ↦ padded_name-not_short long
    ]

    -- it is one, and zeros alone stand behind it
    pub padded_name-some : (name : List ℕ) → name_of (take len field) ≡ Some name → is_short_name name ≡ true
        → list_all (λ b. b == 0) (drop len field) ≡ true → padded_name field ≡ Some name
    padded_name-some name found short rest =
        let same : take len field ≡ name = name_of-bytes (take len field) name found in
        padded_name-is ∙ (rw (same, short, rest) refl)

    pub padded_name-long : (name : List ℕ) → name_of (take len field) ≡ Some name → is_short_name name ≡ false
        → padded_name field ≡ None
    padded_name-long name found long =
        let same : take len field ≡ name = name_of-bytes (take len field) name found in
        padded_name-not_short (rw same long)
