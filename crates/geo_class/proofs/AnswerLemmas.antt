-- What a decoder answers behind the head.
use Rattle.std.proofs.Common.{◌≡◌, ℕ, Bool, true, false, List, [], ◌∷◌, ◌++◌, refl, sym, ap, Option, Some, None, Ok, Err}
use Rattle.geo_model.specs.DeclineCause.{DeclineCause}
use Rattle.geo_model.specs.DeclineCause.TheVariants.{Place}
use Rattle.geo_model.specs.Words.{first_error, unless}
use Rattle.geo_model.specs.Records.{head_tests, place_test, record_name}
use Rattle.geo_class.specs.Head.{head_name, is_place}

unless-ok : {A E : Type 0} (error : Option E) (value found : A) → Ok found ≡ unless error value → (error ≡ None)
    × (value ≡ found)
unless-ok None value found e = (refl, cc)
unless-ok (Some x) value found e = let no : ⊥ = cc in absurd no

unless-err : {A E : Type 0} (error : Option E) (value : A) (cause : E) → Err cause ≡ unless error value
    → error ≡ Some cause
unless-err None value cause e = let no : ⊥ = cc in absurd no
unless-err (Some x) value cause e = cc

first_error-when : {E : Type 0} (b : Bool) (row : Bool × E) (xs ys : List (Bool × E)) → row.0 ≡ b
    → ((first_error xs ≡ None → first_error (xs ++ ys) ≡ first_error ys)
    × ((e : E) → first_error xs ≡ Some e → first_error (xs ++ ys) ≡ Some e))
    → (first_error (row ∷ xs) ≡ None → first_error ((row ∷ xs) ++ ys) ≡ first_error ys)
    × ((e : E) → first_error (row ∷ xs) ≡ Some e → first_error ((row ∷ xs) ++ ys) ≡ Some e)
first_error-when true row xs ys is rest = (
  (λ none. let h : Some row.1 ≡ None = rw is at none in let no : ⊥ = cc in absurd no),
  (λ e some. let h : Some row.1 ≡ Some e = rw is at some in rw is h),
)
first_error-when false row xs ys is rest = (
  (λ none. let h : first_error xs ≡ None = rw is at none in rw is (rest.0 h)),
  (λ e some. let h : first_error xs ≡ Some e = rw is at some in rw is (rest.1 e h)),
)

-- tests behind tests count where nothing is against the first ones
first_error-append : {E : Type 0} (xs ys : List (Bool × E))
    → (first_error xs ≡ None → first_error (xs ++ ys) ≡ first_error ys)
    × ((e : E) → first_error xs ≡ Some e → first_error (xs ++ ys) ≡ Some e)
first_error-append [] ys = ((λ none. refl), (λ e some. let no : ⊥ = cc in absurd no))
first_error-append (row ∷ xs) ys = first_error-when row.0 row xs ys refl (first_error-append xs ys)

-- the tests behind the head, where nothing is against it
pub unless-behind : {A : Type 0} (magic : List ℕ) (newest : ℕ) (bytes : List ℕ) (rest : List (Bool × DeclineCause))
    (value : A)
    → first_error (head_tests magic newest bytes) ≡ None
    → unless (first_error (head_tests magic newest bytes ++ rest)) value ≡ unless (first_error rest) value
unless-behind magic newest bytes rest value none =
    ap (λ e. unless e value) ((first_error-append (head_tests magic newest bytes) rest).0 none)

-- a head that was decoded
pub head_name-ok : (magic : List ℕ) (newest : ℕ) (bytes name : List ℕ) → Ok name ≡ head_name magic newest bytes
    → (first_error (head_tests magic newest bytes) ≡ None) × (record_name bytes ≡ name)
head_name-ok magic newest bytes name found =
    unless-ok (first_error (head_tests magic newest bytes)) (record_name bytes) name found

-- a head that was declined
pub unless-declined : {A : Type 0} (magic : List ℕ) (newest : ℕ) (bytes : List ℕ) (rest : List (Bool × DeclineCause))
    (value : A) (cause : DeclineCause)
    → Err cause ≡ head_name magic newest bytes
    → Err cause ≡ unless (first_error (head_tests magic newest bytes ++ rest)) value
unless-declined magic newest bytes rest value cause declined =
    let some : first_error (head_tests magic newest bytes)
    ≡ Some cause = unless-err (first_error (head_tests magic newest bytes)) (record_name bytes) cause declined in
    sym (ap (λ e. unless e value) ((first_error-append (head_tests magic newest bytes) rest).1 cause some))

-- a place that was tested
pub is_place-tested : (place count read_place read_count : ℕ) (tested answer : Bool) → place ≡ read_place
    → count ≡ read_count
    → tested ≡ is_place place count → tested ≡ answer → is_place read_place read_count ≡ answer
is_place-tested place count read_place read_count tested answer same_place same_count by_values is =
    rw (← same_place, ← same_count, ← by_values) is

-- a place that is none, and one that is one
pub unless-place_declined : {A : Type 0} (place count : ℕ) (rest : List (Bool × DeclineCause)) (value : A)
    → is_place place count ≡ false
    → unless (first_error (place_test place count ∷ rest)) value ≡ Err Place
unless-place_declined place count rest value none = rw none refl

pub unless-place_passed : {A : Type 0} (place count : ℕ) (rest : List (Bool × DeclineCause)) (value : A)
    → is_place place count ≡ true
    → unless (first_error (place_test place count ∷ rest)) value ≡ unless (first_error rest) value
unless-place_passed place count rest value one = rw one refl
