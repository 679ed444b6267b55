-- The headline doesn't rest on this file: its proofs keep these facts beside soundness.
-- What holds of the mesh at every moment beside soundness, so that each step of a sound mesh leaves it sound.
use Rattle.std.specs.Prelude.{◌≡◌, ◌⊎◌, ℕ, ◌<◌, ◌==◌, Bool, false, not, ◌||◌, length, ⊤, List, [], count_by, Option, Some, is_none, IsSome, IsSomeAnd, IsTrue, All, find, option_and_then}
use Rattle.std.specs.List.{list_any}
use Rattle.geo_base.specs.declared.request.Counts.{Counts}
use Rattle.geo_model.specs.declared.step.BioResult.{BioResult}
use Rattle.geo_model.specs.declared.step.BioResult.TheVariants as results
use Rattle.geo_model.specs.declared.step.Event.{Event}
use Rattle.geo_model.specs.declared.step.Event.TheVariants as events
use Rattle.geo_model.specs.declared.step.Owner.{Owner}
use Rattle.geo_model.specs.declared.step.Owner.TheVariants as owners
use Rattle.geo_model.specs.Words.{is_read}
use Rattle.geo_model.specs.Topology.{Topology, Geom, provider_at, consumer_at, providers_of, consumers_of, is_errored, geom_of_provider}
use Rattle.geo_model.specs.Graph.{OfferersLive, GeomsLive}
use Rattle.geo_model.specs.Demand.{have, is_zero}
use Rattle.geo_model.specs.World.{World, Config, Bio, Handle, Taste, granted_in, is_up, is_done}
use Rattle.geo_model.specs.Place.{components}
use Rattle.geo_model.specs.Acceptance.{places_of}

-- geoms 1 and 2 aren't automatic
abbrev pub AreMade : Topology Config → Type 0
AreMade t = All (λ g. (g.number ≡ 1) ⊎ (g.number ≡ 2) → g.automatic ≡ false) t.geoms

-- each provider's geom lives, and so does each consumer's geom
pub record PartsHaveGeoms (t : Topology Config) : Type 0 where
  pub providers : OfferersLive t
  pub consumers : GeomsLive t

-- each consumer is attached to a provider that lives
abbrev pub AreAttached : Topology Config → Type 0
AreAttached t = All (λ c. IsSome (option_and_then (provider_at t) c.provider)) t.consumers

-- whether a place of the geom is free
abbrev pub has_free_place : Geom Config → Bool
has_free_place g = list_any is_none (places_of g.config)

-- whether a provider of the geom has a count
abbrev pub has_open_provider : (ℕ → Counts) → Topology Config → Geom Config → Bool
has_open_provider granted t g =
    list_any (λ p. not (is_zero (have granted t p.number))) (providers_of t g.number)

-- each component of a geom that isn't withering, or is open, is an attached consumer of it
abbrev pub HasItsComponents : (ℕ → Counts) → Topology Config → Geom Config → Type 0
HasItsComponents granted t g =
    (g.withering ≡ false) ⊎ IsTrue (has_open_provider granted t g)
    → All (λ c. IsSomeAnd (consumer_at t c) (λ x. (x.geom ≡ g.number) × IsSome x.provider)) (components g.config)

-- an assembly with a free place has no provider
abbrev pub WaitsForPlaces : Topology Config → Geom Config → Type 0
WaitsForPlaces t g = IsTrue (has_free_place g) → providers_of t g.number ≡ []

-- a root of a line comes from the consumer of the line's handle, and a root of a taste from the taste's consumer
abbrev pub ComesFromItsOwner : List Handle → Option Taste → Bio → Owner → Type 0
ComesFromItsOwner handles taste x (owners.Line handle line) =
    IsSomeAnd (find (λ h. h.number == handle) handles) (λ h. h.consumer ≡ Some x.source)
ComesFromItsOwner handles taste x owners.Taste =
    IsSomeAnd taste (λ s. (s.consumer ≡ x.source) × (s.provider ≡ x.target))
ComesFromItsOwner handles taste x (owners.Child parent index) = parent < x.number

-- a result is one that the bio can have: as many bytes as a READ asked for, no bytes for another request, or an error
abbrev pub FitsBio : Bio → BioResult → Type 0
FitsBio x (results.Bytes bytes) = IsTrue (is_read x.cmd) × (length bytes ≡ x.len)
FitsBio x results.Done = is_read x.cmd ≡ false
FitsBio x (results.Failed e) = ⊤

-- a bio that is on its way up, or done, has such a result
abbrev pub HasItsResult : Bio → Type 0
HasItsResult x = IsTrue (is_up x.phase || is_done x.phase) → IsSomeAnd x.result (FitsBio x)

-- all of it
pub record Steady (w : World) : Type 0 where
  pub made : AreMade w.topology
  pub parts : PartsHaveGeoms w.topology
  pub attached : AreAttached w.topology
  pub components : All (HasItsComponents (granted_in w) w.topology) w.topology.geoms
  pub partial : All (WaitsForPlaces w.topology) w.topology.geoms
  pub owners : All (λ x. ComesFromItsOwner w.handles w.taste x x.owner) w.bios
  pub results : All HasItsResult w.bios
  pub unmarked : All (λ c. c.spoiled ≡ false) (consumers_of w.topology 1)

-- how often a provider is offered for taste in a queue
abbrev pub is_offer_of : ℕ → Event → Bool
is_offer_of p (events.NewProvider q) = q == p
is_offer_of p _ = false

-- a step offers for taste only providers without an error, of geoms that aren't withering
abbrev pub OffersOnlyLiving : World → World → Type 0
OffersOnlyLiving before after =
    (p : ℕ) → count_by (is_offer_of p) before.events < count_by (is_offer_of p) after.events
    → (is_errored after.topology p ≡ false) × IsSomeAnd (geom_of_provider after.topology p) (λ g. g.withering ≡ false)
