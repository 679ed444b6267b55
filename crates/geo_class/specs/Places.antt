-- The places of a CONCAT or STRIPE geom, as contracts see them.
use Rattle.std.specs.Prelude.{◌≡◌, ℕ, ◌<◌, ◌≤◌, List, Option, length}
use Rattle.geo_model.specs.TheConstants.{MAX_COMPONENTS, MAX_MEDIA_BYTES}
use Rattle.geo_model.specs.Acceptance.{smallest}
use Rattle.geo_class.specs.stripe.StripeMap.{striped_size}

-- the consumer that fills each place, and the size of its component, 0 before
pub record PlacesView : Type 0 where
  pub consumers : List (Option ℕ)
  pub sizes : List ℕ

-- each place has a size, and there are at most 16
pub record ArePlaces (consumers : List (Option ℕ)) (sizes : List ℕ) : Type 0 where
  pub alike : length consumers ≡ length sizes
  pub few : length sizes ≤ MAX_COMPONENTS

-- strips of some bytes over the components make a size that a provider may have
pub record IsStriped (stripe : ℕ) (sizes : List ℕ) : Type 0 where
  pub some_byte : 0 < stripe
  pub fits : striped_size (length sizes) stripe (smallest sizes) ≤ MAX_MEDIA_BYTES
