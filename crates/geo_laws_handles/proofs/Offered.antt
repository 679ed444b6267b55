-- What a close, a reap and each other command of a handle offer for taste lives.
use Rattle.std.specs.Prelude.{◌≡◌, ℕ, ◌<◌, ◌==◌, nat_lt, Bool, true, false, ◌||◌, List, [], ◌∷◌, count_by, Option, Some, None, Ok, Err, IfSome, IsSomeAnd, option_and_then, slice_get, if◌then◌else◌}
use Rattle.std.specs.Option.{option_map_or}
use Rattle.std.proofs.Common.{refl, sym, ◌∙◌, ap, subst, arith}
use Rattle.std.proofs.lemmas.Bool.{eqb-true, or_parts, ltb-true, ltb-false, not-true}
use Rattle.geo_base.specs.declared.request.Counts.{Counts}
use Rattle.geo_model.specs.declared.command.Command.{Command}
use Rattle.geo_model.specs.declared.command.LineCommand.{LineCommand}
use Rattle.geo_model.specs.declared.step.Event.{Event}
use Rattle.geo_model.specs.declared.step.Event.TheVariants as events
use Rattle.geo_model.specs.declared.step.Found.{Found}
use Rattle.geo_model.specs.declared.step.Found.TheVariants as refusals
use Rattle.geo_model.specs.declared.step.Outcome.{Outcome}
use Rattle.geo_model.specs.declared.step.Outcome.TheVariants as outcomes
use Rattle.geo_model.specs.declared.step.Step.TheVariants as steps
use Rattle.geo_model.specs.Topology.{Topology, Geom, geom_of_provider, is_errored}
use Rattle.geo_model.specs.Demand.{risen, fallen}
use Rattle.geo_model.specs.Events.{QueuedTopology, post, offer_again, spoil_at, announce_risen, announce_fallen}
use Rattle.geo_model.specs.World.{World, Config, Handle, granted_in}
use Rattle.geo_model.specs.WorldEvents.{queued_of, after_open, after_close}
use Rattle.geo_model.specs.HandleCommands.{without_number, accept_request, without_handle, with_handle}
use Rattle.geo_model.specs.Commands.{do_command}
use Rattle.geo_model.specs.Freeing.{reap_work, reap_consumer, reap_handle, reap}
use Rattle.geo_model.specs.CommandEffects.{is_of_geoms}
use Rattle.geo_model.specs.Step.{unless_found, waits_for, with_commands, go_of, go, step, reap_next}
use Rattle.geo_model.specs.Log.{world_after}
use Rattle.geo_model.specs.History.{first_command, next_command}
use Rattle.geo_model.specs.Laws.{world_by}
use Rattle.geo_model.specs.Steady.{is_offer_of, OffersOnlyLiving}
use Rattle.geo_model.proofs.CommandWalk.{handles_by}
use Rattle.geo_laws_offers.proofs.Quiet.{not-counted}
use Rattle.geo_laws_offers.proofs.Offers.{stands-by}
use Rattle.geo_laws_handles.specs.CommandLaws.{is_of_handles}
use Rattle.geo_laws_handles.specs.FactLaws.{HandlesOfferLiving}
use Rattle.geo_laws_handles.proofs.Freed.{offers-keep, either-keeps}

-- a provider without an error, of a geom that stands and doesn't wither
abbrev IsLiving : Topology Config → ℕ → Type 0
IsLiving t p = (is_errored t p ≡ false) × IsSomeAnd (geom_of_provider t p) (λ g. g.withering ≡ false)

-- spoils offer nothing
spoils-count : (granted : ℕ → Counts) (p : ℕ) (ps : List ℕ) (q : QueuedTopology Config)
    → count_by (is_offer_of p) (announce_risen granted ps q).events ≡ count_by (is_offer_of p) q.events
spoils-count granted p [] q = refl
spoils-count granted p (n ∷ ps) q =
    spoils-count granted p ps (spoil_at granted q n) ∙ not-counted p q.events (events.Spoil n) refl

module _ (p : ℕ) where
  -- an offer, by whether it is made
  offer-by : (n : ℕ) (q : QueuedTopology Config) (b : Bool)
      → (is_errored q.topology n || option_map_or (λ g. g.withering) (geom_of_provider q.topology n) true) ≡ b
      → count_by (is_offer_of p) q.events
      < count_by (is_offer_of p) (if b then q else post q (events.NewProvider n)).events
      → IsLiving q.topology p
  offer-by n q true e more = absurd (omega (arith, more))
  offer-by n q false e more = by (n == p) refl where
    -- whether it is one of the provider
    by : (b : Bool) → (n == p) ≡ b → IsLiving q.topology p
    by true same =
        let parts = or_parts (is_errored q.topology n)
        (option_map_or (λ g. g.withering) (geom_of_provider q.topology n)
        true) e in
        subst (IsLiving q.topology) (eqb-true n p same) (parts.0, stands-by (geom_of_provider q.topology n) parts.1)
    by false other =
        let same = not-counted p q.events (events.NewProvider n) other in
        absurd (omega (arith, more, same))

  -- the graph stays
  offer-keeps : (n : ℕ) (q : QueuedTopology Config) → (offer_again q n).topology ≡ q.topology
  offer-keeps n q =
      either-keeps (is_errored q.topology n || option_map_or (λ (g : Geom Config). g.withering)
      (geom_of_provider q.topology n) true) q (post q (events.NewProvider n)) refl

  -- one of some offers is made: the first, or a later one
  first-or-later : (n : ℕ) (ps : List ℕ) (q : QueuedTopology Config) (b : Bool)
      → nat_lt (count_by (is_offer_of p) q.events) (count_by (is_offer_of p) (offer_again q n).events) ≡ b
      → (count_by (is_offer_of p) (offer_again q n).events
      < count_by (is_offer_of p) (announce_fallen ps (offer_again q n)).events
      → IsLiving (offer_again q n).topology p)
      → count_by (is_offer_of p) q.events < count_by (is_offer_of p) (announce_fallen ps (offer_again q n)).events
      → IsLiving q.topology p
  first-or-later n ps q true e later more =
      offer-by n q (is_errored q.topology n || option_map_or (λ (g : Geom Config). g.withering)
      (geom_of_provider q.topology n) true) refl
      (ltb-true (count_by (is_offer_of p) q.events) (count_by (is_offer_of p) (offer_again q n).events) e)
  first-or-later n ps q false e later more =
      let low = ltb-false (count_by (is_offer_of p) q.events)
      (count_by (is_offer_of p) (offer_again q n).events) e in
      subst (λ t. IsLiving t p) (offer-keeps n q) (later (omega (arith, low, more)))

  -- where offers are made, the provider lives
  offers-living : (ps : List ℕ) (q : QueuedTopology Config)
      → count_by (is_offer_of p) q.events < count_by (is_offer_of p) (announce_fallen ps q).events
      → IsLiving q.topology p
  offers-living [] q more = absurd (omega (arith, more))
  offers-living (n ∷ ps) q more =
      first-or-later n ps q (nat_lt (count_by (is_offer_of p) q.events)
      (count_by (is_offer_of p) (offer_again q n).events)) refl (λ later. offers-living ps (offer_again q n) later)
      more

-- where the queue stays, nothing is offered
same-offers : (w after : World) → after.events ≡ w.events → OffersOnlyLiving w after
same-offers w after same p more =
    let count : count_by (is_offer_of p) after.events ≡ count_by (is_offer_of p) w.events =
    ap (λ (es : List Event). count_by (is_offer_of p) es) same in
    absurd (omega (arith, more, count))

-- what follows a close offers what lives
closed-offers : (w closed : World) → closed.events ≡ w.events → OffersOnlyLiving w (after_close w closed)
closed-offers w closed same p more =
    let ps : List ℕ = fallen (granted_in w) w.topology (granted_in closed) closed.topology in
    let count : count_by (is_offer_of p) closed.events ≡ count_by (is_offer_of p) w.events =
    ap (λ (es : List Event). count_by (is_offer_of p) es) same in
    subst (λ t. IsLiving t p)
    (sym (offers-keep (fallen (granted_in w) w.topology (granted_in closed) closed.topology) (queued_of closed)))
    (offers-living p (fallen (granted_in w) w.topology (granted_in closed) closed.topology) (queued_of closed)
    (omega (arith, more, count)))

-- what follows an open offers nothing
opened-offers : (w opened : World) → opened.events ≡ w.events → OffersOnlyLiving w (after_open w opened)
opened-offers w opened same p more =
    let count : count_by (is_offer_of p) opened.events ≡ count_by (is_offer_of p) w.events =
    ap (λ (es : List Event). count_by (is_offer_of p) es) same in
    let spoils = spoils-count (granted_in opened) p
    (risen (granted_in w) w.topology (granted_in opened) opened.topology) (queued_of opened) in
    absurd (omega (arith, more, count, spoils))

-- A reap

-- by the consumer
reap-by : (w : World) (o : Option ℕ) → OffersOnlyLiving w (reap_handle w o)
reap-by w None = same-offers w w refl
reap-by w (Some c) = closed-offers w (reap_consumer w c) refl

-- by what is found
reap-found : (w : World) (o : Option Handle)
    → OffersOnlyLiving w (world_after w (option_map_or (λ h. Ok (reap w h, outcomes.Ran)) o
    (Err refusals.NothingToReap)))
unfolding reap
reap-found w None = same-offers w w refl
reap-found w (Some h) = reap-by w h.consumer

-- the step of a reap
reap-offers : (w : World) (seat : ℕ) → OffersOnlyLiving w (world_by w seat steps.Reap)
unfolding step reap_next
reap-offers w seat = reap-found w (reap_work w)

-- Commands

-- each command of a handle
done-offers : (w : World) (line actor : ℕ) (c : Command) → is_of_geoms c ≡ false
    → OffersOnlyLiving w (do_command w line actor c).0
done-offers w line actor =
    handles_by w line actor (λ c made. OffersOnlyLiving w made.0)
    (record { refuses = λ c e. same-offers w w refl; numbers = λ c e. same-offers w (without_number w) refl })
    (record {
      waits = λ c is. same-offers w w refl;
      lists = same-offers w w refl;
      opens = λ name prov grant p is. opened-offers w (with_handle w actor name p grant) refl;
      closes = λ name h is. closed-offers w (without_handle w h) refl;
      accepts = λ c h a is. same-offers w (accept_request w line h a).0 refl;
    })

-- unless something is against it
unless-offers : (w : World) (o : Option Found) (made : World × Outcome) → OffersOnlyLiving w made.0
    → OffersOnlyLiving w (world_after w (unless_found o made))
unless-offers w None made living = living
unless-offers w (Some f) made living = same-offers w w refl

-- by the commands that are left
go-by : (w : World) (actor : ℕ) (o : Option (List LineCommand))
    → IfSome (option_and_then first_command o) (λ c. is_of_handles c.command ≡ true)
    → OffersOnlyLiving w (world_after w (go_of w actor o))
go-by w actor None of = same-offers w w refl
go-by w actor (Some []) of = same-offers w w refl
go-by w actor (Some (c ∷ rest)) of =
    unless-offers w (waits_for w actor c.command) (do_command (with_commands w actor rest) c.line actor c.command)
    (done-offers (with_commands w actor rest) c.line actor c.command (not-true (is_of_geoms c.command) of))

-- a Go
go-offers : (w : World) (seat actor : ℕ) → IfSome (next_command w actor) (λ c. is_of_handles c.command ≡ true)
    → OffersOnlyLiving w (world_by w seat (steps.Go actor))
unfolding step go
go-offers w seat actor of = go-by w actor (slice_get w.actors actor) of

-- commands of handles and a reap offer what lives
pub handles_offer_living : HandlesOfferLiving
handles_offer_living = record { closed = closed-offers; reaped = reap-offers; done = go-offers }
