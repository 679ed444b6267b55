-- Places that are free, and sizes that providers may have.
use Rattle.std.proofs.Common.{is_none, is_some, if◌then◌else◌, ◌≡◌, ℕ, zero, suc, ◌*◌, ◌/◌, ◌<◌, ◌≤◌, Bool, true, false, ◌||◌, not, List, [], ◌∷◌, length, Option, Some, None, sum, refl, ap, sym, ◌∙◌, arith}
use Rattle.std.specs.List.{list_all, list_any}
use Rattle.std.proofs.lemmas.Bool.Decides.{nat_tests}
use Rattle.geo_model.specs.TheConstants.{MAX_MEDIA_BYTES}
use Rattle.geo_model.specs.Acceptance.{is_size, smallest}
use Rattle.geo_class.specs.Assembly.{allowed_size}
use Rattle.geo_class.specs.Places.{IsStriped}

-- a place is free exactly where not all are filled
pub free_is : {X : Type 0} (places : List (Option X)) → list_any is_none places ≡ not (list_all is_some places)
free_is [] = refl
free_is (None ∷ places) = refl
free_is (Some x ∷ places) = free_is places

-- whether there is a size that a provider may have
some-if : (b : Bool) (n : ℕ) → is_some (if b then Some n else None) ≡ b
some-if true n = refl
some-if false n = refl

pub size_is : (n : ℕ) → is_some (allowed_size n) ≡ is_size n
size_is n = some-if (is_size n) n

-- such a size has its bounds
size-bounds : (n : ℕ) → is_size n ≡ true → (1 ≤ n) × (n ≤ MAX_MEDIA_BYTES)
size-bounds n so = (grind (arith, nat_tests), grind (arith, nat_tests))

-- where no place is free, what can stand has a size that a provider may have
stands-sized : {X : Type 0} (places : List (Option X)) (n : ℕ)
    → (not (list_all is_some places) || is_size n) ≡ true → list_any is_none places ≡ false → is_size n ≡ true
stands-sized places n can none =
    let all : not (list_all is_some places) ≡ false = sym (free_is places) ∙ none in
    sym (ap (λ b. b || is_size n) all) ∙ can

pub concat_fits : {X : Type 0} (places : List (Option X)) (sizes : List ℕ)
    → (not (list_all is_some places) || is_size (sum sizes)) ≡ true → list_any is_none places ≡ false
    → sum sizes ≤ MAX_MEDIA_BYTES
concat_fits places sizes can none = (size-bounds (sum sizes) (stands-sized places (sum sizes) can none)).1

-- strips of no byte make no size
some-strip : (n s stripe : ℕ) → 1 ≤ n * ((s / stripe) * stripe) → 0 < stripe
some-strip n s zero some =
    let none : n * ((s / zero) * zero) ≡ 0 = grind arith in
    absurd (omega (arith, some, none))
some-strip n s (suc k) some = omega arith

pub stripe_fits : {X : Type 0} (places : List (Option X)) (stripe : ℕ) (sizes : List ℕ)
    → (not (list_all is_some places) || is_size (length sizes * ((smallest sizes / stripe) * stripe))) ≡ true
    → list_any is_none places ≡ false → IsStriped stripe sizes
stripe_fits places stripe sizes can none =
    let size : ℕ = length sizes * ((smallest sizes / stripe) * stripe) in
    let bounds : (1 ≤ size) × (size ≤ MAX_MEDIA_BYTES) = size-bounds size (stands-sized places size can none) in
    record {
      some_byte = some-strip (length sizes) (smallest sizes) stripe bounds.0;
      fits = bounds.1;
    }
