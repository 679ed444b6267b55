-- The places of an assembly: a provider takes one, in the standing geom of the assembly or in a new one, and where
-- all are filled the geom gets its provider. A firm mesh stays firm with it (geom(4)).
use Rattle.std.specs.Prelude.{◌≡◌, ℕ, ◌%◌, ◌≤◌, true, false, List, Some, is_some, Contains, option_and_then}
use Rattle.std.specs.List.{list_all}
use Rattle.geo_base.specs.Sectors.{IsSectorSize}
use Rattle.geo_base.specs.declared.limits.TheConstants.{MAX_MEDIA_BYTES}
use Rattle.geo_model.specs.declared.class.ConcatRecord.{ConcatRecord}
use Rattle.geo_model.specs.declared.class.StripeRecord.{StripeRecord}
use Rattle.geo_model.specs.Topology.{Geom, Provider, Consumer, provider_at, consumer_at, is_name_taken}
use Rattle.geo_model.specs.World.{World, Config}
use Rattle.geo_model.specs.Events.{QueuedTopology, offer}
use Rattle.geo_model.specs.WorldEvents.{queued_of, with_queued}
use Rattle.geo_model.specs.Place.{components}
use Rattle.geo_model.specs.Acceptance.{places_of, joined_size, accept_member, concat_member, stripe_member}
use Rattle.geo_model.specs.Fitting.{IsWholeIn, Firm}
use Rattle.geo_laws_texts.specs.RecordLaws.{IsPlace}
use Rattle.geo_laws_making.specs.PlaceLaws.{CanTakePlace, IsOpenAssembly}

-- what a provider over all places needs: they are filled, by components of one sector size, and its name and size
-- are good
pub record CanFinish (w : World) (g : Geom Config) (name : List ℕ) (sector : ℕ) : Type 0 where
  pub full : list_all is_some (places_of g.config) ≡ true
  pub sectors : IsSectorSize sector
  pub whole : IsWholeIn g.config sector
  pub same : (d : ℕ) (x : Consumer) (q : Provider) → Contains (components g.config) d
      → consumer_at w.topology d ≡ Some x
      → option_and_then (provider_at w.topology) x.provider ≡ Some q → q.sector ≡ sector
  pub free : is_name_taken w.topology name ≡ false
  pub some : 1 ≤ joined_size g.config
  pub limited : joined_size g.config ≤ MAX_MEDIA_BYTES

-- with the provider of an assembly whose places are all filled a firm mesh is firm
pub record FinishesStayFirm : Type 0 where
  pub finish : (w : World) (g : Geom Config) (name : List ℕ) (sector : ℕ) → Firm w → IsOpenAssembly w g
      → CanFinish w g name sector
      → Firm (with_queued w (offer (queued_of w) g.number name (joined_size g.config) sector))

-- with a place of a concat that a record names a firm mesh is firm
pub record ConcatPlacesStayFirm : Type 0 where
  pub concat : (w : World) (p : Provider) (found : ConcatRecord) (made : QueuedTopology Config) → Firm w
      → CanTakePlace w p → IsPlace found.place found.count
      → accept_member (queued_of w) p (concat_member found) ≡ Some made → Firm (with_queued w made)

-- and with a place of a stripe, where strips are of whole sectors
pub record StripePlacesStayFirm : Type 0 where
  pub stripe : (w : World) (p : Provider) (found : StripeRecord) (made : QueuedTopology Config) → Firm w
      → CanTakePlace w p → IsPlace found.place found.count → 1 ≤ found.stripe → found.stripe % p.sector ≡ 0
      → accept_member (queued_of w) p (stripe_member found) ≡ Some made → Firm (with_queued w made)
