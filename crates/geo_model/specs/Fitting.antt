-- The headline doesn't rest on this file: its proofs keep these facts beside soundness.
-- What else holds at every moment of sizes and sectors, of concats and their places, of the taste's read, and of the
-- commands that are left. Soundness and steadiness alone aren't kept by each step.
use Rattle.std.specs.Prelude.{◌≡◌, ◌≢◌, ◌↔◌, ◌⊎◌, ℕ, ◌/◌, ◌%◌, ◌<◌, ◌≤◌, false, List, [], length, map, count_by, Option, IsSome, IsSomeAnd, IfSome, IsTrue, All, AllPairs, ⊤, option_and_then}
use Rattle.std.specs.List.{AllZip, list_any}
use Rattle.std.specs.Option.{option_map_or}
use Rattle.geo_base.specs.Sectors.{IsSectorSize}
use Rattle.geo_base.specs.declared.kind.Kind.{Kind}
use Rattle.geo_base.specs.declared.kind.Kind.TheVariants as kinds
use Rattle.geo_base.specs.declared.limits.TheConstants.{MAX_COMPONENTS}
use Rattle.geo_base.specs.declared.request.Counts.{Counts}
use Rattle.geo_model.specs.declared.step.BioResult.{BioResult}
use Rattle.geo_model.specs.declared.step.BioResult.TheVariants as results
use Rattle.geo_model.specs.declared.step.Event.{Event}
use Rattle.geo_model.specs.Topology.{Topology, Geom, Provider, Consumer, geom_at, provider_at, consumer_at, providers_of, consumers_of}
use Rattle.geo_model.specs.Graph.{AreNumbers}
use Rattle.geo_model.specs.World.{World, Config, Bio, Handle, Taste, Mbr, Ebr, Concat, Stripe, Nop, HeaderDisk, Asked, NoClass, NextSector, ReadOut, ReadBack, granted_in, is_read_out, is_taste_root}
use Rattle.geo_model.specs.Place.{components}
use Rattle.geo_model.specs.Acceptance.{taste_where, places_of, joined_size}
use Rattle.geo_model.specs.Events.{provider_of_event}
use Rattle.geo_model.specs.Tasting.{facts_of}
use Rattle.geo_model.specs.Plans.{IsCommand}
use Rattle.geo_model.specs.SoundBios.{IsBioInOrder, IsFamilyInOrder, DisksHold}
use Rattle.geo_model.specs.Sound.{IsMediaSize, RanksHold, CountsHold, ProvidersHold, NumbersHold, HandlesHold, LeadsDown, IsTasteInOrder}
use Rattle.geo_model.specs.Steady.{AreMade, PartsHaveGeoms, AreAttached, HasItsComponents, WaitsForPlaces, ComesFromItsOwner, HasItsResult}

-- a disk of the header has a sector size and a size that a provider may have
pub record IsHeaderDisk (d : HeaderDisk) : Type 0 where
  pub sector : IsSectorSize d.sector
  pub size : IsMediaSize d.size d.sector

-- what a configuration asks of the sector size below: windows and strips are whole sectors of it
abbrev pub IsWholeIn : Config → ℕ → Type 0
IsWholeIn (Mbr below slices) sector = sector ≡ 512
IsWholeIn (Ebr below parts) sector = sector ≡ 512
IsWholeIn (Nop below offset fail) sector = offset % sector ≡ 0
IsWholeIn (Stripe id stripe places sizes) sector = (1 ≤ stripe) × (stripe % sector ≡ 0)
IsWholeIn _ sector = ⊤

-- the configuration of a consumer's geom fits the sector size of the consumer's provider
abbrev pub FitsBelow : Topology Config → Consumer → Type 0
FitsBelow t c =
    IfSome (geom_at t c.geom)
    (λ g. IfSome (option_and_then (provider_at t) c.provider) (λ q. IsWholeIn g.config q.sector))

-- the sizes of a configuration
abbrev pub sizes_of : Config → List ℕ
sizes_of (Concat id places sizes) = sizes
sizes_of (Stripe id stripe places sizes) = sizes
sizes_of _ = []

-- a place that a consumer of the geom fills has a size in whole sectors of the provider below, and not above its size
abbrev pub FitsPlace : Topology Config → ℕ → Option ℕ → ℕ → Type 0
FitsPlace t g place size =
    IfSome (option_and_then (consumer_at t) place) (λ c. c.geom ≡ g
    → IfSome (option_and_then (provider_at t) c.provider) (λ q.
    (size ≤ q.size) × (size % q.sector ≡ 0)))

-- each place of a geom has a size, which fits
abbrev pub FitsPlaces : Topology Config → Geom Config → Type 0
FitsPlaces t g = AllZip (FitsPlace t g.number) (places_of g.config) (sizes_of g.config)

-- the class looks at the provider at all
abbrev pub AsksThere : Topology Config → Provider → Kind → Type 0
AsksThere t p kind = IsSome (taste_where kind (facts_of t p))

-- bytes that came back are those of one sector
abbrev pub IsOneSector : Provider → BioResult → Type 0
IsOneSector p (results.Bytes bytes) = length bytes ≡ p.sector
IsOneSector p _ = ⊤

-- the class that is asked looks at the provider; the sector that is next is one of it, and the one that is back is
-- one sector
abbrev pub IsAskedInOrder : Topology Config → Provider → Asked → Type 0
IsAskedInOrder t p NoClass = ⊤
IsAskedInOrder t p (NextSector kind sector) = AsksThere t p kind × (sector < p.size / p.sector)
IsAskedInOrder t p (ReadOut kind) = AsksThere t p kind
IsAskedInOrder t p (ReadBack kind got) = AsksThere t p kind × IsOneSector p got

-- the read of a taste is one, and of one sector
pub record TasteReadHolds (t : Topology Config) (bios : List Bio) : Type 0 where
  pub one : count_by (λ x. is_taste_root x.owner) bios ≤ 1
  pub sector : All (λ x. IsTrue (is_taste_root x.owner)
      → IsSomeAnd (provider_at t x.target) (λ p. x.len ≡ p.sector)) bios

-- a CONCAT has at most one provider
abbrev pub HasOneProvider : Topology Config → Geom Config → Type 0
HasOneProvider t g = g.kind ≡ kinds.Concat → length (providers_of t g.number) ≤ 1

-- the places of a geom name different consumers, and are at most sixteen
pub record PlacesHold (g : Geom Config) : Type 0 where
  pub apart : AllPairs (λ a b. a ≢ b) (components g.config)
  pub few : length (places_of g.config) ≤ MAX_COMPONENTS

-- the provider of a CONCAT or STRIPE is as long as its components, as they were when they joined, make it
abbrev pub HasItsSum : Topology Config → Geom Config → Type 0
HasItsSum t g =
    (g.kind ≡ kinds.Concat) ⊎ (g.kind ≡ kinds.Stripe)
    → All (λ p. p.size ≡ joined_size g.config) (providers_of t g.number)

-- all of it
pub record Fitting (w : World) : Type 0 where
  pub disks : All IsHeaderDisk w.disks
  pub sectors : All (λ p. IsSectorSize p.sector) w.topology.providers
  pub wholes : All (FitsBelow w.topology) w.topology.consumers
  pub places : All (FitsPlaces w.topology) w.topology.geoms
  pub one : All (HasOneProvider w.topology) w.topology.geoms
  pub apart : All PlacesHold w.topology.geoms
  pub sums : All (HasItsSum w.topology) w.topology.geoms
  pub asked : IfSome w.taste
      (λ s. IfSome (provider_at w.topology s.provider) (λ p. IsAskedInOrder w.topology p s.asked))
  pub read : TasteReadHolds w.topology w.bios
  pub commands : All (All (λ c. IsCommand c.command)) w.actors

-- Sound, steady and fitting by what the facts speak of: this each step is to keep

-- what holds of the graph, whatever was granted
pub record GraphHolds (t : Topology Config) (ds : List HeaderDisk) : Type 0 where
  pub ranks : RanksHold t
  pub providers : ProvidersHold t
  pub numbers : NumbersHold t ds
  pub made : AreMade t
  pub parts : PartsHaveGeoms t
  pub attached : AreAttached t
  pub partial : All (WaitsForPlaces t) t.geoms
  pub unmarked : All (λ c. c.spoiled ≡ false) (consumers_of t 1)

-- what holds of the graph by what was granted to consumers
pub record DemandHolds (granted : ℕ → Counts) (t : Topology Config) : Type 0 where
  pub counts : CountsHold granted t
  pub places : All (LeadsDown granted t) t.providers
  pub components : All (HasItsComponents granted t) t.geoms

-- what holds of sizes, sectors and places
pub record SizesHold (t : Topology Config) (ds : List HeaderDisk) : Type 0 where
  pub disks : All IsHeaderDisk ds
  pub sectors : All (λ p. IsSectorSize p.sector) t.providers
  pub wholes : All (FitsBelow t) t.consumers
  pub places : All (FitsPlaces t) t.geoms
  pub one : All (HasOneProvider t) t.geoms
  pub apart : All PlacesHold t.geoms
  pub sums : All (HasItsSum t) t.geoms

-- what holds of the queue and the taste
pub record TasteHolds (t : Topology Config) (es : List Event) (o : Option Taste) : Type 0 where
  pub living : All (λ e. IsSome (provider_at t (provider_of_event e))) es
  pub order : IfSome o (IsTasteInOrder t)
  pub asked : IfSome o (λ s. IfSome (provider_at t s.provider) (λ p. IsAskedInOrder t p s.asked))

-- what holds of the bios
pub record BiosHold (granted : ℕ → Counts) (t : Topology Config) (hs : List Handle) (o : Option Taste)
    (bios : List Bio) (next : ℕ) : Type 0 where
  pub numbers : AreNumbers (map (λ x. x.number) bios) next
  pub order : All (IsBioInOrder granted t) bios
  pub families : All (IsFamilyInOrder t bios) bios
  pub disks : DisksHold t bios
  pub read_out : IsTrue (list_any (λ x. is_taste_root x.owner) bios) ↔ IsTrue
      (option_map_or (λ s. is_read_out s.asked) o false)
  pub owners : All (λ x. ComesFromItsOwner hs o x x.owner) bios
  pub results : All HasItsResult bios
  pub read : TasteReadHolds t bios

-- what a firm mesh has of its bios
abbrev pub BiosOf : World → Type 0
BiosOf w = BiosHold (granted_in w) w.topology w.handles w.taste w.bios w.next_bio

-- all of it
pub record Firm (w : World) : Type 0 where
  pub graph : GraphHolds w.topology w.disks
  pub demand : DemandHolds (granted_in w) w.topology
  pub sizes : SizesHold w.topology w.disks
  pub handles : HandlesHold w.topology w.handles w.next_handle w.taste
  pub taste : TasteHolds w.topology w.events w.taste
  pub bios : BiosOf w
  pub commands : All (All (λ c. IsCommand c.command)) w.actors
