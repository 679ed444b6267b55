-- Names in lists, and items that are found by their names.
use Rattle.std.proofs.Common.{◌≡◌, ◌≢◌, ℕ, ◌<◌, Bool, true, false, List, [], ◌∷◌, ◌++◌, length, get_or, Option, Some, None, refl, ◌∙◌, ap, sym, is_some, bytes_eq, not, nat_lt, cond, slice_get, ◌||◌, ◌&&◌, Contains, set, inl, inr}
use Rattle.std.specs.Option.{option_or}
use Rattle.std.proofs.Math.Bool.{or-false, or_assoc}
use Rattle.std.proofs.lemmas.Bool.{lt-ltb, ltb-true, ltb-false, cases_lt, false≢true}
use Rattle.std.proofs.lemmas.Bool.Decides.{same_from_decides}
use Rattle.std.proofs.lemmas.Option.{slice_get_past, slice_get-get_or}
use Rattle.std.specs.Cmp.{IsEquivalence}
use Rattle.std.specs.List.{position, position_or_len}
use Rattle.std.proofs.lemmas.List.Folds.{find_at, find-set, find_past, find-append}
use Rattle.std.proofs.lemmas.Map.Views.{any-filter_same, Contains-from_any, list_any-from_Contains}
use Rattle.std.proofs.lemmas.Slice.Eq.{bytes_eq-Decides}
use Rattle.geo_base.proofs.Tests.{bytes_eq-same, same_from_bytes_eq, bytes_eq-other, same_or_other}
use Rattle.geo_base.proofs.Options.{or_none}
use Rattle.geo_base.proofs.FindLists.{found_passes}
use Rattle.geo_disk.specs.Names.{is_among, is_named, named, names_without}

-- the test of names is an equivalence
pub names_agree : IsEquivalence bytes_eq
names_agree = record {
  refl = bytes_eq-same;
  symm = λ a b. same_from_decides (bytes_eq a b) (bytes_eq b a) (bytes_eq-Decides a b)
      ((λ e. sym (same_from_bytes_eq b a e)), (λ e. (bytes_eq-Decides b a).1 (sym e)));
  congr = λ a b q e. ap (λ n. bytes_eq n q) (same_from_bytes_eq a b e);
}

-- a name that is among some is one of them
pub Contains-from_among : (name : List ℕ) (names : List (List ℕ)) → is_among name names ≡ true → Contains names name
Contains-from_among name names among = Contains-from_any same_from_bytes_eq name names among

-- one of them is found among them
pub among-from_Contains : (name : List ℕ) (names : List (List ℕ)) → Contains names name → is_among name names ≡ true
among-from_Contains name names one = list_any-from_Contains names_agree name names one

-- a name is among names with one more if it is among them, or is that one
pub among-push : (name last : List ℕ) (names : List (List ℕ))
    → is_among name (names ++ last ∷ []) ≡ (is_among name names || bytes_eq name last)
among-push name last [] = or-false (bytes_eq name last)
among-push name last (first ∷ names) = ap (λ b. bytes_eq name first || b) (among-push name last names)
    ∙ sym (or_assoc (bytes_eq name first) (is_among name names) (bytes_eq name last))

-- a name is among names without one if it is among them, and isn't that one
pub among-without : (name gone : List ℕ) (names : List (List ℕ))
    → is_among name (names_without gone names) ≡ (not (bytes_eq gone name) && is_among name names)
among-without name gone names =
    any-filter_same (bytes_eq name) (λ other. not (bytes_eq gone other)) (not (bytes_eq gone name))
    (λ other same. ap (λ n. not (bytes_eq gone n)) (sym (same_from_bytes_eq name other same))) names

-- the first item of a name stands there
pub record IsPlace {X : Type 0} (name_of : X → List ℕ) (name : List ℕ) (xs : List X) (at : ℕ) : Type 0 where
  pub inside : at < length xs
  pub first : at ≡ position_or_len (is_named name_of name) xs

-- which value a test chose
chosen : {X : Type 0} (b : Bool) (x y : X) → cond b (Some x) None ≡ Some y → (b ≡ true) × (y ≡ x)
chosen true x y e = (refl, cc)
chosen false x y e = cc

-- a test chose none
not_chosen : {X : Type 0} (b : Bool) (x : X) → cond b (Some x) None ≡ None → b ≡ false
not_chosen true x e = cc
not_chosen false x e = refl

-- the place that a search found
pub place_found : {X : Type 0} (name_of : X → List ℕ) (name : List ℕ) (xs : List X) (at : ℕ)
    → position (is_named name_of name) xs ≡ Some at → IsPlace name_of name xs at
place_found name_of name xs at e =
    let first : ℕ = position_or_len (is_named name_of name) xs in
    let chose : (nat_lt first (length xs) ≡ true) × (at ≡ first) = chosen (nat_lt first (length xs)) first at e in
    record { inside = rw chose.1 (ltb-true first (length xs) chose.0); first = chose.1 }

-- a search that found none
pub no_place_found : {X : Type 0} (name_of : X → List ℕ) (name : List ℕ) (xs : List X)
    → position (is_named name_of name) xs ≡ None → named name_of name xs ≡ None
no_place_found name_of name xs e =
    let first : ℕ = position_or_len (is_named name_of name) xs in
    find_at (is_named name_of name) xs
    ∙ slice_get_past xs first (ltb-false first (length xs) (not_chosen (nat_lt first (length xs)) first e))

-- the item at the place is the one of the name
pub named_at : {X : Type 0} (name_of : X → List ℕ) (name : List ℕ) (xs : List X) (at : ℕ) (d : X)
    → IsPlace name_of name xs at → named name_of name xs ≡ Some (get_or xs at d)
named_at name_of name xs at d place =
    find_at (is_named name_of name) xs ∙ ap (slice_get xs) (sym place.first) ∙ slice_get-get_or xs at d place.inside

-- the item at the place has the name
pub has_name : {X : Type 0} (name_of : X → List ℕ) (name : List ℕ) (xs : List X) (at : ℕ) (d : X)
    → IsPlace name_of name xs at → name_of (get_or xs at d) ≡ name
has_name name_of name xs at d place =
    sym (same_from_bytes_eq name (name_of (get_or xs at d))
    (found_passes (is_named name_of name) xs (get_or xs at d) (named_at name_of name xs at d place)))

-- an item set at the place of its name is the one of the name
pub named-set_same : {X : Type 0} (name_of : X → List ℕ) (name : List ℕ) (xs : List X) (at : ℕ) (y : X)
    → IsPlace name_of name xs at → name_of y ≡ name → named name_of name (set xs at y) ≡ Some y
named-set_same name_of name xs at y place is =
    find-set (is_named name_of name) xs at y place.first place.inside (rw is (bytes_eq-same name))

-- the other names have what they had
pub named-set_other : {X : Type 0} (name_of : X → List ℕ) (name other : List ℕ) (xs : List X) (at : ℕ) (y : X)
    → IsPlace name_of name xs at → name_of y ≡ name → other ≢ name
    → named name_of other (set xs at y) ≡ named name_of other xs
named-set_other name_of name other xs at y place is apart =
    find_past (is_named name_of other) xs at y y
    (bytes_eq-other other (name_of (get_or xs at y)) (λ e. apart (e ∙ has_name name_of name xs at y place)))
    (bytes_eq-other other (name_of y) (λ e. apart (e ∙ is)))

-- one of two options is there
pub is_some-or : {X : Type 0} (a b : Option X) → is_some a ≡ true → is_some (option_or a b) ≡ true
is_some-or None b is = cc
is_some-or (Some x) b is = refl

-- a name that has an item keeps having one
pub named-push_some : {X : Type 0} (name_of : X → List ℕ) (name : List ℕ) (xs : List X) (y : X)
    → is_some (named name_of name xs) ≡ true → is_some (named name_of name (xs ++ y ∷ [])) ≡ true
named-push_some name_of name xs y is =
    rw (find-append (is_named name_of name) xs (y ∷ []))
    (is_some-or (named name_of name xs) (named name_of name (y ∷ [])) is)

-- an item that was pushed is that of its name, which had none
pub named-push_same : {X : Type 0} (name_of : X → List ℕ) (name : List ℕ) (xs : List X) (y : X)
    → named name_of name xs ≡ None → name_of y ≡ name → named name_of name (xs ++ y ∷ []) ≡ Some y
named-push_same name_of name xs y none is =
    rw (find-append (is_named name_of name) xs (y ∷ []), none, is, bytes_eq-same name) refl

-- the other names have what they had
pub named-push_other : {X : Type 0} (name_of : X → List ℕ) (other : List ℕ) (xs : List X) (y : X) → other ≢ name_of y
    → named name_of other (xs ++ y ∷ []) ≡ named name_of other xs
named-push_other name_of other xs y apart =
    rw (find-append (is_named name_of other) xs (y ∷ []), bytes_eq-other other (name_of y) apart)
    (or_none (named name_of other xs))

-- a name that has an item has a place
pub found_place : {X : Type 0} (name_of : X → List ℕ) (name : List ℕ) (xs : List X)
    → is_some (named name_of name xs) ≡ true → is_some (position (is_named name_of name) xs) ≡ true
found_place {X} name_of name xs is =
    let first : ℕ = position_or_len (is_named name_of name) xs in
    let at : is_some (slice_get xs first) ≡ true = rw (find_at (is_named name_of name) xs) at is in
    elim (cases_lt first (length xs)) [
      | inl below ↦ rw (lt-ltb first (length xs) below) refl
      | inr above ↦ absurd (false≢true (rw (slice_get_past xs first above) at at))
    ]

-- an item set at the place of its name leaves an item under each name that had one
pub set_keeps : {X : Type 0} (name_of : X → List ℕ) (name other : List ℕ) (xs : List X) (at : ℕ) (y : X)
    → IsPlace name_of name xs at → name_of y ≡ name
    → is_some (named name_of other xs) ≡ true → is_some (named name_of other (set xs at y)) ≡ true
set_keeps name_of name other xs at y place is had =
    elim (same_or_other other name) [
      | inl same ↦ rw (same, named-set_same name_of name xs at y place is) refl
      | inr apart ↦ rw (named-set_other name_of name other xs at y place is apart) had
    ]

-- a place means that there is an item
pub place_has_item : {X : Type 0} (name_of : X → List ℕ) (name : List ℕ) (xs : List X) (at : ℕ)
    → position (is_named name_of name) xs ≡ Some at → is_some (named name_of name xs) ≡ true
place_has_item {X} name_of name [] at e = cc
place_has_item {X} name_of name (x ∷ xs) at e =
    let place : IsPlace name_of name (x ∷ xs) at = place_found name_of name (x ∷ xs) at e in
    rw (named_at name_of name (x ∷ xs) at x place) refl
