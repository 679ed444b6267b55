-- What holds of the mesh at every moment.
use Rattle.std.specs.Prelude.{◌≡◌, ◌≢◌, ◌↔◌, ◌⊎◌, ℕ, ◌+◌, ◌/◌, ◌%◌, ◌<◌, ◌≤◌, ◌==◌, Bool, true, false, not, ◌&&◌, List, [], ◌∷◌, ◌++◌, length, map, count_by, Option, Some, None, ⊤, IsSome, IsSomeAnd, IfSome, MatchOption, IsTrue, All, AllPairs, option_and_then, slice_get}
use Rattle.std.specs.List.{list_any}
use Rattle.std.specs.Option.{option_map_or}
use Rattle.geo_base.specs.declared.request.Counts.{Counts}
use Rattle.geo_base.specs.declared.kind.Kind.{Kind}
use Rattle.geo_base.specs.declared.kind.Kind.TheVariants as kinds
use Rattle.geo_base.specs.declared.limits.TheConstants.{MAX_LINKS, MAX_MEDIA_BYTES, MAX_RANK, UNTASTED_RANK}
use Rattle.geo_model.specs.declared.step.Event.{Event}
use Rattle.geo_model.specs.Words.{is_kind, names_number, same_name}
use Rattle.geo_model.specs.Topology.{Topology, Geom, Provider, Consumer, geom_at, provider_at, consumer_at, geom_of_provider, providers_of, consumers_of, is_withering}
use Rattle.geo_model.specs.Graph.{AreNumbers}
use Rattle.geo_model.specs.Rank.{rank, Ranked}
use Rattle.geo_model.specs.Demand.{have, is_zero, is_exclusive, fits_limit}
use Rattle.geo_model.specs.World.{World, Config, Bio, HeaderDisk, Nothing, Disk, Mbr, Ebr, Label, Concat, Stripe, Nop, Handle, Taste, Asked, NoClass, NextSector, ReadOut, ReadBack, granted_in, is_read_out, is_taste_root}
use Rattle.geo_model.specs.Place.{Spot, place, component, disk_of}
use Rattle.geo_model.specs.declared.class.EbrPart.{EbrPart}
use Rattle.geo_model.specs.Chain.{Chain, BeginsAtZero}
use Rattle.geo_model.specs.Events.{provider_of_event}
use Rattle.geo_model.specs.Order.{reads_limit}
use Rattle.geo_model.specs.SoundBios.{IsBioInOrder, IsFamilyInOrder, DisksHold}

-- Ranks

-- a geom stands, isn't withering and has no provider
pub record StandsBare (t : Topology Config) (g : ℕ) : Type 0 where
  pub stands : IsSomeAnd (geom_at t g) (λ x. x.withering ≡ false)
  pub no_provider : providers_of t g ≡ []

-- there is no loop, no geom but DEV and TASTE is too deep, and these two stand
pub record RanksHold (t : Topology Config) : Type 0 where
  pub ranked : Ranked t
  pub not_deep : All (λ x. x.number ≢ 1 → x.number ≢ 2 → rank t x.number ≤ MAX_RANK) t.geoms
  pub dev : StandsBare t 1
  pub taste : StandsBare t 2

-- Counts

-- no writer stands beside another's exclusive count, and no count is above the limit
pub record CountsHold (granted : ℕ → Counts) (t : Topology Config) : Type 0 where
  pub exclusive : IsTrue (is_exclusive granted t)
  pub limited : IsTrue (fits_limit granted t)

-- Names and sizes

-- not both are without an error under one name
abbrev pub DifferInName : Provider → Provider → Type 0
DifferInName x y = IsTrue (not (not x.errored && (not y.errored && same_name x.name y.name)))

-- the size is a whole positive number of sectors and at most MAX_MEDIA_BYTES
pub record IsMediaSize (size sector : ℕ) : Type 0 where
  pub positive : 1 ≤ size
  pub whole : size % sector ≡ 0
  pub limited : size ≤ MAX_MEDIA_BYTES

pub record ProvidersHold (t : Topology Config) : Type 0 where
  pub names : AllPairs DifferInName t.providers
  pub withering : All (λ x. IsTrue (is_withering t x.geom) → x.errored ≡ true) t.providers
  pub sizes : All (λ x. IsMediaSize x.size x.sector) t.providers

-- Classes

-- the configuration of a geom is one of its class
abbrev pub fits_kind : Kind → Config → Bool
fits_kind kinds.Disk (Disk disk) = true
fits_kind kinds.Dev Nothing = true
fits_kind kinds.Taste Nothing = true
fits_kind kinds.Mbr (Mbr below slices) = true
fits_kind kinds.Ebr (Ebr below parts) = true
fits_kind kinds.Label (Label below) = true
fits_kind kinds.Concat (Concat id places sizes) = true
fits_kind kinds.Stripe (Stripe id stripe places sizes) = true
fits_kind kinds.Nop (Nop below offset fail) = true
fits_kind _ _ = false

-- a geom's class, number and configuration say the same: geom 1 alone is DEV, and geom 2 alone is TASTE
pub record IsOfItsClass (x : Geom Config) : Type 0 where
  pub config : IsTrue (fits_kind x.kind x.config)
  pub dev : is_kind x.kind kinds.Dev ≡ (x.number == 1)
  pub taste : is_kind x.kind kinds.Taste ≡ (x.number == 2)

-- Numbers and disks

-- not both are geoms of one disk
abbrev pub DifferInDisk : Geom Config → Geom Config → Type 0
DifferInDisk x y = (d : ℕ) → disk_of x.config ≡ Some d → disk_of y.config ≢ Some d

-- a DISK geom is of a disk of the header, and each provider of it has that disk's sizes
abbrev pub HasDiskSizes : Topology Config → List HeaderDisk → Geom Config → Type 0
HasDiskSizes t disks x =
    IfSome (disk_of x.config) (λ d. IsSomeAnd (slice_get disks d) (λ disk.
    All (λ p. (p.sector ≡ disk.sector) × (p.size ≡ disk.size)) (providers_of t x.number)))

-- each part of the graph has a number of its own; each geom is of its class, and each disk has one geom at most
pub record NumbersHold (t : Topology Config) (disks : List HeaderDisk) : Type 0 where
  pub geoms : AreNumbers (map (λ x. x.number) t.geoms) t.next_geom
  pub providers : AreNumbers (map (λ x. x.number) t.providers) t.next_provider
  pub consumers : AreNumbers (map (λ x. x.number) t.consumers) t.next_consumer
  pub classes : All IsOfItsClass t.geoms
  pub one_geom_of_disk : AllPairs DifferInDisk t.geoms
  pub disk_sizes : All (HasDiskSizes t disks) t.geoms

-- Handles and the taste's consumer

-- a consumer of DEV is attached, and is the consumer of exactly one handle
pub record IsHandleConsumer (handles : List Handle) (c : Consumer) : Type 0 where
  pub attached : IsSome c.provider
  pub one_handle : count_by (λ h. names_number h.consumer c.number) handles ≡ 1

-- a reaped handle is dead; another one has a consumer of DEV
abbrev pub HasItsConsumer : Topology Config → Handle → Type 0
HasItsConsumer t h = MatchOption h.consumer (h.dead ≡ true) (λ c. IsSomeAnd (consumer_at t c) (λ x. x.geom ≡ 1))

-- the one consumer of TASTE is the taste's, attached to the tasted provider
pub record IsTasting (t : Topology Config) (s : Taste) : Type 0 where
  pub consumer : Consumer
  pub alone : consumers_of t 2 ≡ consumer ∷ []
  pub number : consumer.number ≡ s.consumer
  pub attached : consumer.provider ≡ Some s.provider

-- TASTE has one consumer while a taste is under way, and none else
abbrev pub HasTasteConsumer : Topology Config → Option Taste → Type 0
HasTasteConsumer t taste = MatchOption taste (consumers_of t 2 ≡ []) (IsTasting t)

pub record HandlesHold (t : Topology Config) (hs : List Handle) (next : ℕ) (o : Option Taste) : Type 0 where
  pub numbers : AreNumbers (map (λ x. x.number) hs) next
  pub consumers : All (IsHandleConsumer hs) (consumers_of t 1)
  pub handles : All (HasItsConsumer t) hs
  pub taste : HasTasteConsumer t o

-- Address maps

-- a place is inside a provider of the same sector size, to which a consumer of the geom is attached
abbrev pub IsPlaceInside : Topology Config → Geom Config → Provider → Spot → Type 0
IsPlaceInside t g p spot =
    IsSomeAnd (option_and_then (consumer_at t) (component g.config spot.component)) (λ c.
    (c.geom ≡ g.number) × IsSomeAnd (option_and_then (provider_at t) c.provider) (λ q.
    (spot.offset < q.size) × (q.sector ≡ p.sector)))

-- each offset below the size has such a place
abbrev pub IsPlaced : Topology Config → Geom Config → Provider → Type 0
IsPlaced t g p = (o : ℕ) → o < p.size → IsSomeAnd (place g.config p.name o) (IsPlaceInside t g p)

-- a provider that is open, or whose geom isn't withering, is that of a disk or is placed
abbrev pub LeadsDown : (ℕ → Counts) → Topology Config → Provider → Type 0
LeadsDown granted t p =
    IsSomeAnd (geom_at t p.geom) (λ g. (is_zero (have granted t p.number) ≡ false) ⊎ (g.withering ≡ false)
    → IsSome (disk_of g.config) ⊎ IsPlaced t g p)

-- Events and the taste

-- the reads made for the class asked are at most 33, at most 32 where one more is to come, and none where no class is
-- asked
abbrev pub AreReadsInOrder : Asked → ℕ → Type 0
AreReadsInOrder NoClass reads = reads ≡ 0
AreReadsInOrder (NextSector kind sector) reads = reads < reads_limit
AreReadsInOrder (ReadOut kind) reads = reads ≤ reads_limit
AreReadsInOrder (ReadBack kind got) reads = reads ≤ reads_limit

-- the class that is asked
abbrev pub class_asked : Asked → Option Kind
class_asked NoClass = None
class_asked (NextSector kind sector) = Some kind
class_asked (ReadOut kind) = Some kind
class_asked (ReadBack kind got) = Some kind

-- the reads made beside those of the links that were read
abbrev pub reads_out : Asked → ℕ
reads_out NoClass = 0
reads_out (NextSector kind sector) = 0
reads_out (ReadOut kind) = 1
reads_out (ReadBack kind got) = 1

-- the sector that is known as next is the chain's
abbrev pub IsNext : Asked → ℕ → Type 0
IsNext (NextSector kind sector) next = sector ≡ next
IsNext _ next = ⊤

-- a partition is some sectors of the n that the provider has
pub record IsPartOf (n : ℕ) (s : EbrPart) : Type 0 where
  pub some : 1 ≤ s.count
  pub inside : s.first + s.count ≤ n

-- the chain of a taste of a provider of n sectors, for which EBR is asked after so many reads: its links and the next
-- one are the first of a chain, and the next one isn't among them
pub record ChainHolds (n : ℕ) (asked : Asked) (made : ℕ) (c : Chain) : Type 0 where
  pub reads : made ≡ length c.links + reads_out asked
  pub few : length c.links < MAX_LINKS
  pub parts : All (λ l. IfSome l.part (IsPartOf n)) c.links
  pub sector : IsNext asked c.next
  pub zero : BeginsAtZero (map (λ l. l.sector) c.links ++ c.next ∷ [])
  pub inside : All (λ l. l.sector < n) c.links
  pub near : c.next < n
  pub apart : AllPairs (λ a b. a ≢ b) (map (λ l. l.sector) c.links)
  pub new : All (λ l. l.sector ≢ c.next) c.links

-- so it is where EBR is asked
abbrev pub HasItsChain : Topology Config → Taste → Type 0
HasItsChain t s =
    class_asked s.asked ≡ Some kinds.Ebr
    → IfSome (provider_at t s.provider) (λ p. ChainHolds (p.size / p.sector) s.asked s.reads s.chain)

pub record IsTasteInOrder (t : Topology Config) (s : Taste) : Type 0 where
  pub rank : IsSomeAnd (geom_of_provider t s.provider) (λ g. rank t g.number < UNTASTED_RANK)
  pub reads : AreReadsInOrder s.asked s.reads
  pub chain : HasItsChain t s

pub record EventsHold (t : Topology Config) (es : List Event) (o : Option Taste) (bios : List Bio) : Type 0 where
  pub living : All (λ e. IsSome (provider_at t (provider_of_event e))) es
  pub read_out : IsTrue (list_any (λ x. is_taste_root x.owner) bios)
      ↔ IsTrue (option_map_or (λ s. is_read_out s.asked) o false)
  pub taste : IfSome o (IsTasteInOrder t)

-- all of it; each fact is said of the parts of the world that it reads
pub record Sound (w : World) : Type 0 where
  pub ranks : RanksHold w.topology
  pub counts : CountsHold (granted_in w) w.topology
  pub providers : ProvidersHold w.topology
  pub numbers : NumbersHold w.topology w.disks
  pub handles : HandlesHold w.topology w.handles w.next_handle w.taste
  pub places : All (LeadsDown (granted_in w) w.topology) w.topology.providers
  pub bio_numbers : AreNumbers (map (λ x. x.number) w.bios) w.next_bio
  pub bios : All (IsBioInOrder (granted_in w) w.topology) w.bios
  pub families : All (IsFamilyInOrder w.topology w.bios) w.bios
  pub disks : DisksHold w.topology w.bios
  pub events : EventsHold w.topology w.events w.taste w.bios
