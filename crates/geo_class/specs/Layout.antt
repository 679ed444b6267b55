-- What a configuration keeps, and what the model sees in it.
use Rattle.std.specs.Prelude.{◌≡◌, ℕ, true, List, Option, length, is_none, MatchOption, ⊤}
use Rattle.std.specs.List.{list_any}
use Rattle.geo_model.specs.Acceptance.{smallest}
use Rattle.geo_model.specs.World.{Config, Nothing, Disk, Mbr, Ebr, Label, Concat, Stripe, Nop}
use Rattle.geo_class.specs.concat.ConcatMap.{ConcatView}
use Rattle.geo_class.specs.stripe.StripeMap.{StripeView}
use Rattle.geo_class.specs.Places.{PlacesView}
use Rattle.geo_class.specs.declared.config.Layout.{Layout}
use Rattle.geo_class.specs.declared.config.Layout.TheVariants as layouts

-- the configuration of a layout
abbrev pub config_of : Layout → Config
config_of layouts.Nothing = Nothing
config_of (layouts.Disk disk) = Disk disk
config_of (layouts.Mbr below slices) = Mbr below slices
config_of (layouts.Ebr below parts) = Ebr below parts.value
config_of (layouts.Label below) = Label below
config_of (layouts.Concat id places map) = Concat id places.consumers places.sizes
config_of (layouts.Stripe id stripe places map) = Stripe id stripe places.consumers places.sizes
config_of (layouts.Nop below offset fail) = Nop below offset fail

-- a place is free, or the map of a concat is that of the sizes
abbrev pub IsConcatMap : PlacesView → Option ConcatView → Type 0
IsConcatMap places map = MatchOption map (list_any is_none places.consumers ≡ true) (λ m. m.sizes ≡ places.sizes)

-- a place is free, or the map of a stripe is that of the stripe size and of the sizes
pub record IsStripeMapOf (stripe : ℕ) (sizes : List ℕ) (map : StripeView) : Type 0 where
  pub count : map.count ≡ length sizes
  pub stripe_size : map.stripe ≡ stripe
  pub size : map.smallest ≡ smallest sizes

abbrev pub IsStripeMap : ℕ → PlacesView → Option StripeView → Type 0
IsStripeMap stripe places map =
    MatchOption map (list_any is_none places.consumers ≡ true) (IsStripeMapOf stripe places.sizes)

-- the map of an assembly stands there from the moment its places are all filled
abbrev pub HasItsMap : Layout → Type 0
HasItsMap (layouts.Concat id places map) = IsConcatMap places map
HasItsMap (layouts.Stripe id stripe places map) = IsStripeMap stripe places map
HasItsMap _ = ⊤
