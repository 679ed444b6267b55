-- A new geom with its consumers, and its providers, which are offered for taste: a firm world stays firm with it
-- (g_new_geomf, g_new_consumer, g_attach(9), g_new_providerf).
use Rattle.std.specs.Prelude.{◌≡◌, ◌≢◌, ◌⊎◌, ℕ, ◌+◌, ◌<◌, ◌≤◌, ◌%◌, ◌==◌, Bool, false, List, [], ◌∷◌, length, fold, Option, Some, None, is_none, IsSome, IsSomeAnd, IfSome, IsTrue, All, AllPairs, option_and_then, slice_get, if◌then◌else◌}
use Rattle.std.specs.List.{AllZip, list_any}
use Rattle.geo_base.specs.Sectors.{IsSectorSize}
use Rattle.geo_base.specs.declared.kind.Kind.{Kind}
use Rattle.geo_base.specs.declared.kind.Kind.TheVariants as kinds
use Rattle.geo_base.specs.declared.limits.TheConstants.{MAX_COMPONENTS, MAX_RANK}
use Rattle.geo_model.specs.Words.{is_kind, same_name}
use Rattle.geo_model.specs.Topology.{Topology, Provider, provider_at, is_name_taken, add_geom, add_consumer}
use Rattle.geo_model.specs.World.{World, Config}
use Rattle.geo_model.specs.Events.{QueuedTopology, offer}
use Rattle.geo_model.specs.WorldEvents.{queued_of, with_queued}
use Rattle.geo_model.specs.Place.{place, component, components, disk_of}
use Rattle.geo_model.specs.Acceptance.{NewSlice, places_of, joined_size}
use Rattle.geo_model.specs.GeomCommands.{rank_over, is_geom_of_disk}
use Rattle.geo_model.specs.Sound.{fits_kind, IsMediaSize}
use Rattle.geo_model.specs.Fitting.{IsWholeIn, sizes_of, Firm}

-- the graph with a new geom, and one consumer of it for each provider, in order
abbrev pub with_geom : Topology Config → Kind → List ℕ → Config → Bool → List Provider → Topology Config
with_geom t kind name config automatic ps =
    fold (λ u p. add_consumer u t.next_geom (Some p.number)) (add_geom t kind name config automatic) ps

-- such a geom, with providers of one sector size, which are offered for taste
abbrev pub geom_made : QueuedTopology Config → Kind → List ℕ → Config → Bool → List Provider → ℕ → List NewSlice
    → QueuedTopology Config
geom_made q kind name config automatic ps sector slices =
    fold (λ v x. offer v q.topology.next_geom x.name x.size sector)
    (record q { topology = with_geom q.topology kind name config automatic ps })
    slices

-- the provider below a consumer, where the consumers from a number on are attached to these in turn
abbrev pub below_new : ℕ → List Provider → ℕ → Option Provider
below_new n [] c = None
below_new n (p ∷ ps) c = if c == n then Some p else below_new (n + 1) ps c

-- an offset of a provider has its place inside a provider below, of the same sector size
abbrev pub HasPlace : Config → List Provider → ℕ → ℕ → List ℕ → ℕ → Type 0
HasPlace config ps n sector name o =
    IsSomeAnd (place config name o) (λ spot.
    IsSomeAnd (option_and_then (below_new n ps) (component config spot.component)) (λ q.
    (spot.offset < q.size) × (q.sector ≡ sector)))

-- a provider can be made: its name is free, its size is one, and it is that of a disk or leads down
pub record CanOffer (w : World) (config : Config) (ps : List Provider) (sector : ℕ) (x : NewSlice) : Type 0 where
  pub free : is_name_taken w.topology x.name ≡ false
  pub size : IsMediaSize x.size sector
  pub leads : IsSome (disk_of config)
      ⊎ ((o : ℕ) → o < x.size → HasPlace config ps w.topology.next_consumer sector x.name o)

-- the disk is one of the header, has no geom yet, and the providers have its sizes
pub record IsNewDisk (w : World) (sector : ℕ) (slices : List NewSlice) (d : ℕ) : Type 0 where
  pub none : list_any (is_geom_of_disk d) w.topology.geoms ≡ false
  pub sizes : IsSomeAnd (slice_get w.disks d) (λ disk. (sector ≡ disk.sector)
      × All (λ x. x.size ≡ disk.size) slices)

-- a geom can be made of a class and a configuration over some providers
pub record CanMake (w : World) (kind : Kind) (config : Config) (ps : List Provider) (sector : ℕ)
    (slices : List NewSlice) : Type 0 where
  -- the class isn't DEV or TASTE, and the configuration is one of it
  pub fits : IsTrue (fits_kind kind config)
  pub dev : is_kind kind kinds.Dev ≡ false
  pub taste : is_kind kind kinds.Taste ≡ false
  -- what is below stands, isn't too high, and fits
  pub found : All (λ p. provider_at w.topology p.number ≡ Some p) ps
  pub low : rank_over w.topology ps ≤ MAX_RANK
  pub wholes : All (λ p. IsWholeIn config p.sector) ps
  -- the places of the configuration are the new consumers, each once, and their sizes fit
  pub filled : All (λ c. IsSome (below_new w.topology.next_consumer ps c)) (components config)
  pub apart : AllPairs (λ a b. a ≢ b) (components config)
  pub few : length (places_of config) ≤ MAX_COMPONENTS
  pub places : AllZip
      (λ place size. IfSome (option_and_then (below_new w.topology.next_consumer ps) place) (λ q.
      (size ≤ q.size) × (size % q.sector ≡ 0)))
      (places_of config) (sizes_of config)
  -- what is offered
  pub disk : IfSome (disk_of config) (IsNewDisk w sector slices)
  pub sectors : IsSectorSize sector
  pub offers : All (CanOffer w config ps sector) slices
  pub names : AllPairs (λ x y. same_name x.name y.name ≡ false) slices
  pub partial : IsTrue (list_any is_none (places_of config)) → slices ≡ []
  pub one : kind ≡ kinds.Concat → length slices ≤ 1
  pub sums : (kind ≡ kinds.Concat) ⊎ (kind ≡ kinds.Stripe) → All (λ x. x.size ≡ joined_size config) slices

-- a geom that can be made leaves a firm world firm
pub record MakesKeepFirm : Type 0 where
  pub made : (w : World) (kind : Kind) (name : List ℕ) (config : Config) (automatic : Bool) (ps : List Provider)
      (sector : ℕ) (slices : List NewSlice) → Firm w → CanMake w kind config ps sector slices
      → Firm (with_queued w (geom_made (queued_of w) kind name config automatic ps sector slices))
