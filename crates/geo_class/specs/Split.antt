-- How the providers of a geom are cut.
use Rattle.std.specs.Prelude.{◌≡◌, ℕ, ◌+◌, ◌*◌, ◌≤◌, false, List, length, sum, is_none, IfSome, ⊤}
use Rattle.std.specs.List.{list_any}
use Rattle.geo_model.specs.TheConstants.{MAX_MEDIA_BYTES}
use Rattle.geo_model.specs.Acceptance.{smallest}
use Rattle.geo_model.specs.Place.{slice_at, part_at}
use Rattle.geo_model.specs.Topology.{Provider}
use Rattle.geo_class.specs.declared.split.Media.{Media}
use Rattle.geo_model.specs.World.{Config, Mbr, Ebr, Label, Concat, Stripe, Nop}
use Rattle.geo_class.specs.stripe.StripeMap.{striped_size}

-- the map of the provider of a name covers so many bytes: a window ends by MAX_MEDIA_BYTES, an assembly is complete
-- and as long
abbrev pub Covers : Config → List ℕ → ℕ → Type 0
Covers (Mbr below slices) name size = IfSome (slice_at slices name) (λ s. s.first * 512 + size ≤ MAX_MEDIA_BYTES)
Covers (Ebr below parts) name size = IfSome (part_at parts name) (λ s. s.first * 512 + size ≤ MAX_MEDIA_BYTES)
Covers (Label below) name size = size ≤ MAX_MEDIA_BYTES
Covers (Concat id places sizes) name size = (list_any is_none places ≡ false) × (size ≤ sum sizes)
Covers (Stripe id stripe places sizes) name size =
    (list_any is_none places ≡ false) × (size ≤ striped_size (length sizes) stripe (smallest sizes))
Covers (Nop below offset fail) name size = offset + size ≤ MAX_MEDIA_BYTES
Covers _ name size = ⊤

-- the provider, as far as its ranges are cut by it
abbrev pub provider_of : Media → Provider
provider_of m = record { number = 0; geom = 0; name = m.name; size = m.size; sector = m.sector; errored = false }
