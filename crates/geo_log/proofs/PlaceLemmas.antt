-- Places of a log that grows.
use Rattle.std.specs.Prelude.{◌≡◌, ℕ, zero, suc, ◌<◌, List, [], ◌∷◌, ◌++◌, length, Some, slice_get, unwrap_or}
use Rattle.std.specs.Option.{option_and_then}
use Rattle.std.proofs.Common.{refl, ap, ◌∙◌, arith}
use Rattle.geo_model.specs.declared.step.BioResult.TheVariants as results
use Rattle.geo_log.specs.Places.{bytes_delivered, bytes_of_step}
use Rattle.geo_log.specs.PlaceLaws.{BytesStay, DeliveredHasPlace, DeliveredIsResult}

module _ {T : Type 0} where
  -- what stands at a place stays there where more comes behind
  slice_get-more : (xs ys : List T) (i : ℕ) → i < length xs → slice_get (xs ++ ys) i ≡ slice_get xs i
  slice_get-more [] ys i within = absurd (omega (arith, within))
  slice_get-more (x ∷ xs) ys zero within = refl
  slice_get-more (x ∷ xs) ys (suc i) within = slice_get-more xs ys i (omega (arith, within))

  -- what comes behind stands at the place that is the length
  slice_get-seam : (xs ys : List T) (y : T) → slice_get (xs ++ y ∷ ys) (length xs) ≡ Some y
  slice_get-seam [] ys y = refl
  slice_get-seam (x ∷ xs) ys y = slice_get-seam xs ys y

-- the bytes of a place stay
pub places_stay : BytesStay
places_stay log more place within = ap (option_and_then bytes_delivered) (slice_get-more log more place within)

-- an entry's bytes stand at its place
pub delivered_has_place : DeliveredHasPlace
delivered_has_place log more e = ap (option_and_then bytes_delivered) (slice_get-seam log more e)

-- what was delivered is the result
pub delivered_is_result : DeliveredIsResult
delivered_is_result log more e bio bytes is =
    ap (λ o. results.Bytes (unwrap_or o [])) (delivered_has_place log more e ∙ ap bytes_of_step is)
