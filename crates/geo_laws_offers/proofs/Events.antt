-- An event destroys nothing, and what it offers for taste lives.
use Rattle.std.specs.Prelude.{◌≡◌, ℕ, ◌≤◌, Bool, true, false, List, ◌∷◌, length, filter, Some, count_by, if◌then◌else◌}
use Rattle.std.proofs.Common.{refl, sym, subst, arith}
use Rattle.std.proofs.lemmas.List.Sums.{length-filter}
use Rattle.geo_model.specs.declared.step.Event.{Event}
use Rattle.geo_model.specs.declared.step.Event.TheVariants as events
use Rattle.geo_model.specs.Topology.{add_consumer}
use Rattle.geo_model.specs.World.{World, Config, granted_in}
use Rattle.geo_model.specs.Events.{QueuedTopology, is_not_tasted, spoil, orphan}
use Rattle.geo_model.specs.WorldEvents.{queued_of, begin_taste, do_event}
use Rattle.geo_model.specs.Steady.{is_offer_of}
use Rattle.geo_laws_offers.specs.OfferingLaws.{OnlyAdds, Adds}
use Rattle.geo_laws_offers.proofs.Quiet.{consumer-stays, quiet-change, quiet-adds, spoil-quiet, orphan-quiet}
use Rattle.geo_laws_offers.proofs.Offers.{resize-adds}
use Rattle.geo_laws_offers.proofs.Bios.{nothing-adds}

-- a taste begins, or not
taste-adds : (w : World) (p : ℕ) (b : Bool) → Adds w (if b then w else begin_taste w p)
taste-adds w p true = nothing-adds w
taste-adds w p false =
    quiet-adds (queued_of w) (queued_of (begin_taste w p))
    (quiet-change (queued_of w) (add_consumer w.topology 2 (Some p)) (consumer-stays w.topology 2 (Some p)))

-- an event is done
done-adds : (w : World) (e : Event) → Adds w (do_event w e)
unfolding do_event
done-adds w (events.NewProvider p) = taste-adds w p (is_not_tasted (granted_in w) w.topology p)
done-adds w (events.Spoil p) = quiet-adds (queued_of w) (spoil (queued_of w) p) (spoil-quiet (queued_of w) p)
done-adds w (events.Orphan p) = quiet-adds (queued_of w) (orphan (queued_of w) p) (orphan-quiet (queued_of w) p)
done-adds w (events.Resize p) = resize-adds (granted_in w) (queued_of w) p

-- with one more event at the head no fewer pass a test, by whether it passes
head-passes : (test : Event → Bool) (e : Event) (rest : List Event) (b : Bool) → test e ≡ b
    → length (filter test rest) ≤ length (filter test (e ∷ rest))
head-passes test e rest true is = rw is (omega arith)
head-passes test e rest false is = rw is (omega arith)

-- so no fewer are counted
head-counts : (test : Event → Bool) (e : Event) (rest : List Event) → count_by test rest ≤ count_by test (e ∷ rest)
head-counts test e rest =
    let low = head-passes test e rest (test e) refl in
    let one = length-filter test rest in
    let two = length-filter test (e ∷ rest) in
    omega (arith, low, one, two)

-- where the head is taken
head-adds : (q r : QueuedTopology Config) (e : Event) → OnlyAdds q r
    → OnlyAdds (record q { events = e ∷ q.events }) r
head-adds q r e adds = record {
  stays = adds.stays;
  offers = λ p more.
      let low = head-counts (is_offer_of p) e q.events in
      adds.offers p (omega (arith, more, low));
}

-- the head of the queue
pub head-does : (w : World) (e : Event) (rest : List Event) → w.events ≡ e ∷ rest
    → Adds w (do_event (record w { events = rest }) e)
head-does w e rest is =
    let v : World = record w { events = rest } in
    subst (λ es. OnlyAdds (record (queued_of w) { events = es }) (queued_of (do_event v e))) (sym is)
    (head-adds (queued_of v) (queued_of (do_event v e)) e (done-adds v e))
