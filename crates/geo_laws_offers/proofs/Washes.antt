-- A wash and the end of a taste offer nothing for taste.
use Rattle.std.specs.Prelude.{ℕ, ◌≤◌, not, ◌==◌, count_by}
use Rattle.std.proofs.Common.{subst, sym, arith}
use Rattle.geo_base.proofs.FilterLists.{count-kept}
use Rattle.geo_model.specs.declared.step.Event.{Event}
use Rattle.geo_model.specs.declared.step.WashWork.{WashWork}
use Rattle.geo_model.specs.declared.step.WashWork.TheVariants as washes
use Rattle.geo_model.specs.World.{World}
use Rattle.geo_model.specs.Events.{provider_of_event}
use Rattle.geo_model.specs.WorldEvents.{queued_of, with_queued}
use Rattle.geo_model.specs.Tasting.{abort_taste}
use Rattle.geo_model.specs.Freeing.{washed}
use Rattle.geo_model.specs.Steady.{is_offer_of, OffersOnlyLiving}
use Rattle.geo_laws_offers.specs.OfferingLaws.{EndsTaste}

-- where no more offers stand in the queue, nothing is offered
pub fewer-offers : (w after : World)
    → ((p : ℕ) → count_by (is_offer_of p) after.events ≤ count_by (is_offer_of p) w.events) → OffersOnlyLiving w after
fewer-offers w after low p more = let few = low p in absurd (omega (arith, few, more))

-- no more offers stand after a wash
washed-counts : (w : World) (work : WashWork) (p : ℕ)
    → count_by (is_offer_of p) (washed (queued_of w) work).events ≤ count_by (is_offer_of p) w.events
washed-counts w (washes.Provider n) p =
    count-kept (is_offer_of p) (λ (e : Event). not (provider_of_event e == n)) w.events
washed-counts w (washes.Consumer c) p = omega arith
washed-counts w (washes.Geom g) p = omega arith

-- a wash
pub wash-offers : (w : World) (work : WashWork) → OffersOnlyLiving w (with_queued w (washed (queued_of w) work))
wash-offers w work = fewer-offers w (with_queued w (washed (queued_of w) work)) (washed-counts w work)

-- the end of a taste
pub ends-offer : (w after : World) → EndsTaste w after → OffersOnlyLiving w after
ends-offer w after e =
    subst (OffersOnlyLiving w) (sym e.ends) (fewer-offers w (abort_taste w e.taste) (λ n. omega arith))
