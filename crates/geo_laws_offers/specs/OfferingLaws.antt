-- Steps that destroy nothing, and what they offer for taste lives (g_event(9), g_wither_geom(9)).
use Rattle.std.specs.Prelude.{◌≡◌, ◌⊎◌, ℕ, ◌<◌, Bool, true, false, Some, None, IfSome, IsSomeAnd, count_by}
use Rattle.geo_model.specs.declared.step.Entry.{Entry}
use Rattle.geo_model.specs.declared.step.Step.{Step}
use Rattle.geo_model.specs.declared.step.Step.TheVariants as steps
use Rattle.geo_model.specs.Topology.{Topology, geom_at, provider_at, consumer_at, geom_of_provider, is_errored}
use Rattle.geo_model.specs.Events.{QueuedTopology}
use Rattle.geo_model.specs.World.{World, Config, Taste, is_read_out}
use Rattle.geo_model.specs.WorldEvents.{queued_of}
use Rattle.geo_model.specs.Tasting.{abort_taste}
use Rattle.geo_model.specs.History.{next_command, FreesOnlyIdle}
use Rattle.geo_model.specs.CommandEffects.{is_of_geoms}
use Rattle.geo_model.specs.Log.{after_entry}
use Rattle.geo_model.specs.Laws.{world_by}
use Rattle.geo_model.specs.Steady.{is_offer_of, OffersOnlyLiving}
use Rattle.geo_model.specs.Fitting.{Firm}

-- from the one graph to the other each geom, provider and consumer that was there is there
pub record StaysThere (t u : Topology Config) : Type 0 where
  pub geoms : (g : ℕ) → geom_at u g ≡ None → geom_at t g ≡ None
  pub providers : (p : ℕ) → provider_at u p ≡ None → provider_at t p ≡ None
  pub consumers : (c : ℕ) → consumer_at u c ≡ None → consumer_at t c ≡ None

-- a provider without an error, of a geom that stands and doesn't wither
abbrev pub IsLiving : Topology Config → ℕ → Type 0
IsLiving t p = (is_errored t p ≡ false) × IsSomeAnd (geom_of_provider t p) (λ g. g.withering ≡ false)

-- each part stays, and a provider that is offered for taste more often than before lives
pub record OnlyAdds (q r : QueuedTopology Config) : Type 0 where
  pub stays : StaysThere q.topology r.topology
  pub offers : (p : ℕ) → count_by (is_offer_of p) q.events < count_by (is_offer_of p) r.events
      → IsLiving r.topology p

-- so it is from one world to another
abbrev pub Adds : World → World → Type 0
Adds w after = OnlyAdds (queued_of w) (queued_of after)

-- whether the step is one of a bio
abbrev pub is_of_bio : Step → Bool
is_of_bio (steps.Start b) = true
is_of_bio (steps.Take disk b) = true
is_of_bio (steps.Deliver b got) = true
is_of_bio (steps.Up b) = true
is_of_bio _ = false

-- the steps of bios, an event, and a Go of a command of geoms destroy nothing, and what they offer lives
pub record StepsOnlyAdd : Type 0 where
  pub bios : (w : World) (seat : ℕ) (s : Step) → is_of_bio s ≡ true → Adds w (world_by w seat s)
  pub event : (w : World) (seat : ℕ) → Adds w (world_by w seat steps.Event)
  pub done : (w : World) (seat actor : ℕ) → IfSome (next_command w actor) (λ c. is_of_geoms c.command ≡ true)
      → Firm w → Adds w (world_by w seat (steps.Go actor))

-- the step ends a taste of which no read is out: its consumer is detached and destroyed
pub record EndsTaste (w after : World) : Type 0 where
  pub taste : Taste
  pub is : w.taste ≡ Some taste
  pub idle : is_read_out taste.asked ≡ false
  pub ends : after ≡ abort_taste w taste

-- a Judge only adds, or ends a taste; and neither that nor a Wash offers anything for taste
pub record JudgesAndWashesOfferLiving : Type 0 where
  pub judged : (w : World) (seat : ℕ) → Firm w
      → Adds w (world_by w seat steps.Judge) ⊎ EndsTaste w (world_by w seat steps.Judge)
  pub ended : (w after : World) → EndsTaste w after → OffersOnlyLiving w after
  pub washed : (w : World) (seat : ℕ) → OffersOnlyLiving w (world_by w seat steps.Wash)

-- an entry after which each part is still there destroys nothing, so what it destroys was closed, detached and idle
abbrev pub StaysFreesNothing : Type 0
StaysFreesNothing =
    (w : World) (e : Entry) → Firm w → StaysThere w.topology (after_entry w e).topology → FreesOnlyIdle w e
