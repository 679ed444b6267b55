-- Which records are declined for their place or their stripe size.
use Rattle.std.specs.Prelude.{◌≡◌, ◌≢◌, ◌⊎◌, ℕ, ◌<◌, ◌≤◌, ◌%◌, List, length, None, Err}
use Rattle.geo_base.specs.declared.decline.DeclineCause.TheVariants as causes
use Rattle.geo_base.specs.declared.limits.TheConstants.{MAX_COMPONENTS, MAX_STRIPE_BYTES}
use Rattle.geo_model.specs.Words.{first_error}
use Rattle.geo_model.specs.Records.{head_tests, concat_magic, concat_record, stripe_magic, stripe_record, u16_at, u32_at}

-- no place, more than 16 of them, or a place that isn't below their count
abbrev pub IsNoPlace : ℕ → ℕ → Type 0
IsNoPlace place count = (count ≡ 0) ⊎ ((MAX_COMPONENTS < count) ⊎ (count ≤ place))

-- a place of 1 to 16
pub record IsPlace (place count : ℕ) : Type 0 where
  pub some : 1 ≤ count
  pub few : count ≤ MAX_COMPONENTS
  pub inside : place < count

-- no byte, more than 32,768, or no whole sectors
abbrev pub IsNoStripeSize : ℕ → ℕ → Type 0
IsNoStripeSize stripe sector = (stripe ≡ 0) ⊎ ((MAX_STRIPE_BYTES < stripe) ⊎ (stripe % sector ≢ 0))

abbrev pub ConcatPlacesAreJudged : Type 0
ConcatPlacesAreJudged =
    (bytes : List ℕ) → first_error (head_tests concat_magic 1 bytes) ≡ None
    → IsNoPlace (u16_at bytes 40) (u16_at bytes 42)
    → concat_record bytes ≡ Err causes.Place

abbrev pub StripePlacesAreJudged : Type 0
StripePlacesAreJudged =
    (bytes : List ℕ) → first_error (head_tests stripe_magic 1 bytes) ≡ None
    → IsNoPlace (u16_at bytes 40) (u16_at bytes 42)
    → stripe_record bytes ≡ Err causes.Place

abbrev pub StripeSizesAreJudged : Type 0
StripeSizesAreJudged =
    (bytes : List ℕ) → first_error (head_tests stripe_magic 1 bytes) ≡ None
    → IsPlace (u16_at bytes 40) (u16_at bytes 42)
    → IsNoStripeSize (u32_at bytes 44) (length bytes) → stripe_record bytes ≡ Err causes.Size
