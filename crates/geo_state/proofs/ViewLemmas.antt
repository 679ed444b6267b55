-- What is kept beside the parts is what the mesh's definitions search for.
use Rattle.std.specs.Prelude.{◌≡◌, ℕ, ◌+◌, ◌==◌, Bool, false, not, ◌&&◌, ◌||◌, List, [], ◌∷◌, map, find, count_by, Option, Some, None, IsSome, slice_get}
use Rattle.std.specs.List.{AllByRecursion, list_any}
use Rattle.std.specs.Option.{option_map, option_map_or}
use Rattle.std.proofs.Common.{refl, sym, ◌∙◌, ap, subst, rules}
use Rattle.std.proofs.Math.Bool.{and-false, and-true, or-false, not-not}
use Rattle.std.proofs.lemmas.Bool.{ne_eqb}
use Rattle.geo_base.specs.declared.request.Counts.{Counts}
use Rattle.geo_model.specs.declared.step.Owner.{Owner}
use Rattle.geo_model.specs.declared.step.Owner.TheVariants as owners
use Rattle.geo_model.specs.Graph.{AreNumbers}
use Rattle.geo_model.specs.Topology.{Consumer, consumer_at}
use Rattle.geo_model.specs.World.{World, Bio, BioOf, Handle, is_active, is_busy, is_done, is_of_handle, is_taste_root}
use Rattle.geo_model.specs.Bios.{disk_at}
use Rattle.geo_model.specs.Freeing.{is_to_reap}
use Rattle.geo_model.specs.Step.{is_of_actor}
use Rattle.geo_bio.specs.declared.bio.Held.{Held}
use Rattle.geo_handles.proofs.HandleLawLemmas.{handles_are_of_world}
use Rattle.geo_laws_graph.proofs.Lists.{Rise, rise-from, none_outside}
use Rattle.geo_log.specs.Places.{delivered_at}
use Rattle.geo_slots.specs.Slots.{value_at}
use Rattle.geo_state.specs.Shown.{shown_bio, shown_bios}
use Rattle.geo_state.specs.declared.state.State.{State}
use Rattle.geo_state.specs.declared.state.DiskSeat.{DiskSeat}
use Rattle.geo_state.specs.Trips.{Trip, trip_of, trips, is_out, out_through, can_be_reaped, handle_of_owner, is_own, is_at_disk}
use Rattle.geo_state.specs.World.{world}
use Rattle.geo_state.specs.Holds.{Holds, IsSeat}
use Rattle.geo_state.specs.Views.{StatesShow}
use Rattle.geo_state.proofs.Lists.{count-skip, count-step}
use Rattle.geo_state.proofs.Fields.{noted-same}
use Rattle.geo_state.proofs.FirmLemmas.{under-way_in, none-out}
use Rattle.geo_state.proofs.Rises.{active-at}
use Rattle.geo_base.proofs.AllLists.{of_each}

-- whether any passes, by how many pass
any-counted : {X : Type 0} (p : X → Bool) (xs : List X) → list_any p xs ≡ not (count_by p xs == 0)
any-counted p [] = refl
any-counted p (x ∷ xs) =
    search (rules, any-counted p xs, count-step p x xs, ne_eqb (count_by p (x ∷ xs)) 0, count-skip p x xs)

module _ (log : ℕ → Option (List ℕ)) where
  -- a test of trips among the bios of a world
  any-shown : (p : Bio → Bool) (q : Trip → Bool)
      → ((x : BioOf Held) → p (shown_bio log x) ≡ q (trip_of x)) → (bios : List (BioOf Held))
      → list_any p (shown_bios log bios) ≡ list_any q (trips bios)
  any-shown p q same [] = refl
  any-shown p q same (x ∷ xs) = search (rules, ap (λ c. q (trip_of x) || c) (any-shown p q same xs))

  -- the number of the first
  first-shown : (p : Bio → Bool) (q : Trip → Bool)
      → ((x : BioOf Held) → p (shown_bio log x) ≡ q (trip_of x)) → (bios : List (BioOf Held))
      → option_map (λ (x : Bio). x.number) (find p (shown_bios log bios))
      ≡ option_map (λ (x : Trip). x.number) (find q (trips bios))
  first-shown p q same [] = refl
  first-shown p q same (x ∷ xs) = search (rules, first-shown p q same xs)

-- a handle of the actor with the number, by the one that has the number
any-none : (p : Handle → Bool) (hs : List Handle) → AllByRecursion (λ h. p h ≡ false) hs → list_any p hs ≡ false
any-none p [] none = refl
any-none p (h ∷ hs) none = rw (none.0, any-none p hs none.1) refl

module _ (actor : ℕ) (hd : ℕ) where
  rest-none : (ks : List Handle) → AllByRecursion (λ (k : Handle). (k.number == hd) ≡ false) ks
      → AllByRecursion (λ (k : Handle). ((k.actor == actor) && (hd == k.number)) ≡ false) ks
  rest-none [] none = tt
  rest-none (k ∷ ks) none = search (rules, rest-none ks none.1)

  any-of : (low high : ℕ) (hs : List Handle) → Rise low (map (λ (h : Handle). h.number) hs) high
      → list_any (λ (h : Handle). (h.actor == actor) && (hd == h.number)) hs
      ≡ option_map_or (λ (h : Handle). h.actor == actor) (find (λ (h : Handle). hd == h.number) hs) false
  any-of low high [] rise = refl
  any-of low high (h ∷ hs) rise =
      search (
        rules,
        any-of (h.number + 1) high hs rise.2,
        any-none (λ (k : Handle). (k.actor == actor) && (hd == k.number)) hs,
        rest-none hs,
        none_outside (λ (k : Handle). k.number) (h.number + 1) high hd hs rise.2,
        or-false,
        and-true (h.actor == actor),
        and-false (h.actor == actor),
      )

-- whether the bio is of a line of the actor
of-actor : (handles : List Handle) (next : ℕ) → AreNumbers (map (λ (h : Handle). h.number) handles) next
    → (actor : ℕ) (o : Owner)
    → list_any (λ (h : Handle). (h.actor == actor) && is_of_handle o h.number) handles
    ≡ option_map_or (λ (h : Handle). h.actor == actor) (handle_of_owner handles o) false
of-actor handles next are actor (owners.Line hd line) =
    any-of actor hd 0 next handles (rise-from next (map (λ (h : Handle). h.number) handles) are)
of-actor handles next are actor owners.Taste = none handles
  where
    none : (hs : List Handle)
        → list_any (λ (h : Handle). (h.actor == actor) && is_of_handle owners.Taste h.number) hs
        ≡ option_map_or (λ (h : Handle). h.actor == actor) (handle_of_owner hs owners.Taste) false
    none [] = refl
    none (h ∷ hs) = rw (and-false (h.actor == actor)) (none hs)
of-actor handles next are actor (owners.Child parent index) = none handles
  where
    none : (hs : List Handle)
        → list_any (λ (h : Handle). (h.actor == actor) && is_of_handle (owners.Child parent index) h.number) hs
        ≡ option_map_or (λ (h : Handle). h.actor == actor) (handle_of_owner hs (owners.Child parent index)) false
    none [] = refl
    none (h ∷ hs) = rw (and-false (h.actor == actor)) (none hs)

-- whether a request is out through a consumer that may be there
active-is : (s : State) (c : ℕ) → Holds s
    → (consumer_at s.topo.topology c ≡ None → out_through (trips s.traffic.bios) c ≡ 0)
    → option_map_or (λ n. not (n == 0)) (value_at s.topo.active c) false
    ≡ not (out_through (trips s.traffic.bios) c == 0)
active-is s c h none = on (consumer_at s.topo.topology c) refl
  where
    lost : (cs : List Consumer) → find (λ (y : Consumer). y.number == c) cs ≡ None
        → value_at
        (map (λ (y : Consumer). let row : ℕ × ℕ = (y.number, out_through (trips s.traffic.bios) y.number) in row) cs) c
        ≡ None
    lost [] e = refl
    lost (y ∷ ys) e = search (rules, lost ys)

    on : (o : Option Consumer) → consumer_at s.topo.topology c ≡ o
        → option_map_or (λ n. not (n == 0)) (value_at s.topo.active c) false
        ≡ not (out_through (trips s.traffic.bios) c == 0)
    on None e = search (rules, lost s.topo.topology.consumers e)
    on (Some x) e = search (rules, active-at s.topo (trips s.traffic.bios) c h.active (subst IsSome (sym e) refl))

pub states_show : StatesShow
states_show log s actors h firm =
    let w : World = world actors log s in
    let xs : List Trip = trips s.traffic.bios in
    record {
      granted = λ c. ap (λ (g : ℕ → Counts). g c) h.grants;
      active = λ c.
          active-is s c h (λ e. none-out s.topo.topology s.handles.handles xs c e (under-way_in log s actors firm))
          ∙ sym (active c);
      reaps =
          (handles_are_of_world w).first s.handles.ready
          (h.ready
          ∙ sym (noted-same (can_be_reaped xs) (is_to_reap w) s.handles.handles
          (of_each (λ (k : Handle). is_to_reap (world actors log s) k ≡ can_be_reaped (trips s.traffic.bios) k)
          (λ k. ap (λ b. k.dead && b) (idle k.consumer)) s.handles.handles)));
      read =
          h.read
          ∙ sym
          (first-shown (delivered_at log) (λ (x : Bio). is_taste_root x.owner) (λ (x : Trip). is_taste_root x.owner)
          (λ x. refl) s.traffic.bios);
      geom = λ disk seat at. (seat_of disk seat at).geom_is;
      busy = λ disk seat at.
          (seat_of disk seat at).busy_is
          ∙ sym (first-shown (delivered_at log)
          (λ (x : Bio). is_busy x.phase
          && option_map_or (λ d. d == disk) (disk_at s.topo.topology x.target) false)
          (is_at_disk s.topo.topology disk) (λ x. refl) s.traffic.bios);
      own = λ actor.
          sym (first-shown (delivered_at log) (is_of_actor w actor) (is_own s.handles.handles actor)
          (λ x. of-actor s.handles.handles s.handles.next h.numbers actor x.owner) s.traffic.bios);
    }
  where
    active : (c : ℕ) → is_active (world actors log s) c ≡ not (out_through (trips s.traffic.bios) c == 0)
    active c =
        any-shown (delivered_at log) (λ (x : Bio). (x.source == c) && not (is_done x.phase)) (is_out c) (λ x. refl)
        s.traffic.bios
        ∙ any-counted (is_out c) (trips s.traffic.bios)

    idle : (o : Option ℕ)
        → option_map_or (λ c. not (is_active (world actors log s) c)) o false
        ≡ option_map_or (λ c. out_through (trips s.traffic.bios) c == 0) o false
    idle None = refl
    idle (Some c) = ap not (active c) ∙ not-not (out_through (trips s.traffic.bios) c == 0)

    seat_of : (disk : ℕ) (seat : DiskSeat) → slice_get s.disks.items disk ≡ Some seat
        → IsSeat s.topo.topology (trips s.traffic.bios) disk seat.geom seat.busy
    seat_of disk seat at = search rules
