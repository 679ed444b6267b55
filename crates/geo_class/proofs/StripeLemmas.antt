-- Walks over strips.
use Rattle.std.proofs.Common.{◌≡◌, ℕ, zero, suc, ◌+◌, ◌-◌, ◌*◌, ◌/◌, ◌^◌, ◌<◌, ◌≤◌, List, ◌∷◌, ◌++◌, refl, sym, ap, ◌∙◌, arith}
use Rattle.std.proofs.Math.Nat.{div-mul-le_self}
use Rattle.std.proofs.lemmas.Nat.{le-div}
use Rattle.std.specs.Prelude.{map}
use Rattle.std.specs.List.{range_with_len}
use Rattle.std.specs.Option.{option_to_list}
use Rattle.geo_model.specs.TheConstants.{MAX_MEDIA_BYTES}
use Rattle.geo_model.specs.declared.span.Piece.{Piece}
use Rattle.geo_model.specs.Place.{cut, piece_in, strip}
use Rattle.geo_class.proofs.CutLemmas.{cut_more}
use Rattle.geo_class.specs.stripe.StripeMap.{striped_size}

-- the numbers from the next one on
range-next : (i end : ℕ) → i < end → range_with_len i (end - i) ≡ i ∷ range_with_len (i + 1) (end - (i + 1))
range-next i end below =
    let more : end - i ≡ suc (end - (i + 1)) = omega arith in
    rw more refl

-- the walk has come to this strip
pub record StripsSoFar (o len count stripe first end number : ℕ) (before now : List Piece) (spare : ℕ) : Type 0 where
  pub pieces : now ++ cut o len (map (strip count stripe) (range_with_len number (end - number)))
      ≡ before ++ cut o len (map (strip count stripe) (range_with_len first (end - first)))
  pub room : end ≤ spare + number

-- one strip more
pub strips_more : (o len count stripe first end number : ℕ) (before now next : List Piece) (spare left : ℕ)
    → number < end
    → StripsSoFar o len count stripe first end number before now spare
    → next ≡ now ++ option_to_list (piece_in o len (strip count stripe number))
    → spare ≤ left + 1
    → StripsSoFar o len count stripe first end (number + 1) before next left
strips_more o len count stripe first end number before now next spare left below so_far added kept = record {
  pieces =
      cut_more o len (strip count stripe number)
      (map (strip count stripe) (range_with_len (number + 1) (end - (number + 1)))) now next _ added
      (ap (λ numbers. now ++ cut o len (map (strip count stripe) numbers)) (sym (range-next number end below))
      ∙ so_far.pieces);
  room = omega (arith, so_far.room, kept);
}

-- a range begins no later than it ends, strip by strip
pub strips_rise : (o len stripe : ℕ) → 0 < stripe → 0 < len → o / stripe ≤ (o + len - 1) / stripe + 1
strips_rise o len stripe some some_byte =
    let low : (o / stripe) * stripe ≤ o = div-mul-le_self o stripe in
    let rising : o / stripe ≤ (o + len - 1) / stripe =
    le-div (o / stripe) (o + len - 1) stripe some (omega (arith, low, some_byte)) in
    omega (arith, rising)

-- the last strip of a range ends less than a strip behind it
pub strips_end : (last stripe : ℕ) → last < MAX_MEDIA_BYTES → stripe < 2 ^ 32 → (last / stripe + 1) * stripe < 2 ^ 64
strips_end last stripe fits small =
    let low : (last / stripe) * stripe ≤ last = div-mul-le_self last stripe in
    let next : (last / stripe + 1) * stripe ≡ (last / stripe) * stripe + stripe = grind arith in
    omega (arith, low, next, fits, small)

-- some component holds a byte
pub some_component : (count stripe smallest o len : ℕ) → 0 < len → o + len ≤ striped_size count stripe smallest
    → 0 < count
some_component zero stripe smallest o len some inside = omega (arith, some, inside)
some_component (suc n) stripe smallest o len some inside = omega arith
