-- Records that are declined for their place or their stripe size.
use Rattle.std.proofs.Common.{◌≡◌, ℕ, ◌%◌, Bool, true, false, not, ◌&&◌, List, [], ◌∷◌, ◌++◌, length, Option, Some, None, Err, refl, ap, ◌∙◌, arith, inl, inr}
use Rattle.std.proofs.Math.Bool.{and-false}
use Rattle.std.proofs.lemmas.Bool.{le-leb, lt-leb, lt-ltb, le-ltb, ne_eqb}
use Rattle.std.specs.Prelude.{nat_le, nat_lt}
use Rattle.geo_base.specs.declared.decline.DeclineCause.{DeclineCause}
use Rattle.geo_base.specs.declared.decline.DeclineCause.TheVariants as causes
use Rattle.geo_base.specs.declared.limits.TheConstants.{MAX_COMPONENTS, MAX_STRIPE_BYTES}
use Rattle.geo_model.specs.Words.{first_error, unless}
use Rattle.geo_model.proofs.RecordLemmas.{append-errors}
use Rattle.geo_model.specs.Records.{head_tests, concat_magic, concat_tests, stripe_magic, stripe_tests, size_test, is_stripe_size, u16_at, u32_at}
use Rattle.geo_laws_texts.specs.RecordLaws.{IsNoPlace, IsPlace, IsNoStripeSize, ConcatPlacesAreJudged, StripePlacesAreJudged, StripeSizesAreJudged}

-- the test of a place that is none
no_place : (place count : ℕ) → IsNoPlace place count
    → (nat_le 1 count && (nat_le count MAX_COMPONENTS && nat_lt place count)) ≡ false
no_place place count (inl none) = rw (lt-leb 1 count (omega (arith, none))) refl
no_place place count (inr (inl many)) = rw (lt-leb count MAX_COMPONENTS many) (and-false (nat_le 1 count))
no_place place count (inr (inr outside)) =
    rw (le-ltb place count outside, and-false (nat_le count MAX_COMPONENTS)) (and-false (nat_le 1 count))

-- the test of a place that is one
some_place : (place count : ℕ) → IsPlace place count
    → (nat_le 1 count && (nat_le count MAX_COMPONENTS && nat_lt place count)) ≡ true
some_place place count p =
    rw (le-leb 1 count p.some, le-leb count MAX_COMPONENTS p.few, lt-ltb place count p.inside) refl

-- the test of a stripe size that is none
no_stripe_size : (stripe sector : ℕ) → IsNoStripeSize stripe sector → is_stripe_size stripe sector ≡ false
no_stripe_size stripe sector (inl none) = rw (lt-leb 1 stripe (omega (arith, none))) refl
no_stripe_size stripe sector (inr (inl large)) = rw (lt-leb stripe MAX_STRIPE_BYTES large) (and-false (nat_le 1 stripe))
no_stripe_size stripe sector (inr (inr torn)) =
    rw (ne_eqb (stripe % sector) 0 torn, and-false (nat_le stripe MAX_STRIPE_BYTES)) (and-false (nat_le 1 stripe))

-- the first test behind a head in order
first_behind : (head : List (Bool × DeclineCause)) (b : Bool) (cause : DeclineCause) (rest : List (Bool × DeclineCause))
    → first_error head ≡ None → b ≡ false → first_error (head ++ (not b, cause) ∷ rest) ≡ Some cause
first_behind head b cause rest none fails = append-errors head ((not b, cause) ∷ rest) none ∙ (rw fails refl)

-- the second one
second_behind : (head : List (Bool × DeclineCause)) (a b : Bool) (cause other : DeclineCause)
    → first_error head ≡ None → a ≡ true → b ≡ false
    → first_error (head ++ ((not a, other) ∷ (not b, cause) ∷ [])) ≡ Some cause
second_behind head a b cause other none holds fails =
    append-errors head ((not a, other) ∷ (not b, cause) ∷ []) none ∙ (rw (holds, fails) refl)

-- a value is refused by an error
unless-some : {A E : Type 0} (error : Option E) (value : A) (e : E) → error ≡ Some e → unless error value ≡ Err e
unless-some error value e some = ap (λ o. unless o value) some

-- a record of a concatenation whose place is none is declined for its place
pub concat_places_are_judged : ConcatPlacesAreJudged
concat_places_are_judged bytes head bad =
    unless-some (first_error (concat_tests bytes)) _ causes.Place
    (first_behind (head_tests concat_magic 1 bytes) _ causes.Place [] head
    (no_place (u16_at bytes 40) (u16_at bytes 42) bad))

-- a record of a stripe whose place is none is declined for its place
pub stripe_places_are_judged : StripePlacesAreJudged
stripe_places_are_judged bytes head bad =
    unless-some (first_error (stripe_tests bytes)) _ causes.Place
    (first_behind (head_tests stripe_magic 1 bytes) _ causes.Place (size_test (u32_at bytes 44) (length bytes) ∷ [])
    head
    (no_place (u16_at bytes 40) (u16_at bytes 42) bad))

-- a record of a stripe whose place is one, and whose stripe size is none, is declined for its size
pub stripe_sizes_are_judged : StripeSizesAreJudged
stripe_sizes_are_judged bytes head place bad =
    unless-some (first_error (stripe_tests bytes)) _ causes.Size
    (second_behind (head_tests stripe_magic 1 bytes) _ _ causes.Size causes.Place head
    (some_place (u16_at bytes 40) (u16_at bytes 42) place) (no_stripe_size (u32_at bytes 44) (length bytes) bad))
