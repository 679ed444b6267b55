-- What is kept beside the parts, after a request went up to its owner, and after a handle became dead.
use Rattle.std.specs.Prelude.{◌≡◌, ◌≢◌, ℕ, ◌-◌, ◌≤◌, ◌==◌, Bool, true, false, not, List, [], ◌∷◌, map, filter, find, count_by, Option, Some, None, IsTrue, IsSome, IsSomeAnd, IfSome, slice_get, if◌then◌else◌}
use Rattle.std.specs.List.{AllByRecursion}
use Rattle.std.specs.Option.{option_map, option_map_or}
use Rattle.std.proofs.Common.{refl, sym, ◌∙◌, ap, eq-eqb, subst, rules}
use Rattle.std.proofs.lemmas.Bool.{eqb-true, ne_eqb, not-false}
use Rattle.geo_base.proofs.FindLists.{found_passes, none_passes}
use Rattle.geo_base.proofs.AllLists.{all_weaker, two_facts, of_each}
use Rattle.geo_base.proofs.Options.{if_some_weaker, at-found, if-found}
use Rattle.geo_model.specs.declared.step.Owner.{Owner}
use Rattle.geo_model.specs.declared.step.Owner.TheVariants as owners
use Rattle.geo_model.specs.declared.step.Phase.TheVariants as phases
use Rattle.geo_model.specs.Graph.{AreNumbers}
use Rattle.geo_model.specs.Topology.{Topology, Consumer, consumer_at}
use Rattle.geo_model.specs.Words.{change_where, names_number}
use Rattle.geo_model.specs.World.{BioOf, Config, Handle, change_number, is_done, is_up, is_waiting, is_child_of, is_of_handle, is_taste_root, bio_among, Taste, taste_grant, granted_of}
use Rattle.geo_model.specs.Bios.{up_with}
use Rattle.geo_bio.specs.declared.bio.Held.{Held}
use Rattle.geo_bio.specs.BioTable.{HasParent, has_phase, with_phase, BioTableView}
use Rattle.geo_bio.specs.Up.{after_up, are_in, completed}
use Rattle.geo_slots.specs.Slots.{value_at, with_value}
use Rattle.geo_mesh.specs.Topo.{TopoView, with_active}
use Rattle.geo_mesh.specs.Rows.{change_at}
use Rattle.geo_handles.specs.Handles.{HandlesView, HoldsAlone, holding_handle, handle_at, killed}
use Rattle.geo_handles.specs.HandleLaws.{noted_handles}
use Rattle.geo_laws_graph.proofs.Lists.{find-changed, all-changed, found_itself, numbers-changed, unhit}
use Rattle.geo_laws_graph.proofs.Members.{find-Contains}
use Rattle.geo_state.specs.declared.state.State.{State}
use Rattle.geo_state.specs.declared.state.OwnBios.{OwnBios}
use Rattle.geo_state.specs.Trips.{Trip, trip_of, trips, out_through, can_be_reaped, taste_read, is_at_disk, busy_at, is_own, IsOwnCount}
use Rattle.geo_state.specs.Own.{with_one_less, change_own, left_by}
use Rattle.geo_state.specs.Bios.{own_after, taste_read_after, CanLeave, IsOfItsOwner, CameThrough}
use Rattle.geo_state.specs.Ready.{refreshed, is_idle_now, renoted}
use Rattle.geo_state.specs.Holds.{Holds, OutAreCounted, ReapableAreNoted, AreOwn, AreSeats}
use Rattle.geo_state.proofs.Lists.{Around, around-all, found-changed}
use Rattle.geo_state.proofs.TripLemmas.{trips-changed, trips-same, trips-kept, rows-changed, out-back, out-gone, out-some, reaped-same, own-gone, own-some, own-kept, only-fails, read-kept, read-gone, busy-kept, eqb_sym}
use Rattle.geo_state.proofs.Fields.{SameReads, reads-same, reads-gone, busy-gone, IsGoneChild, count-changed, InPhase, in-phase, trips-around, up-is, waiting-is, done-is, holder, refreshed-none, refreshed-one, seats-same, IsHolder, owns-alike_at, each-slot, rest-is, with_bios_of, trip-unseen}
use Rattle.geo_state.proofs.Moves.{holds-moved, own-of_line, own-of_nobody}
use Rattle.geo_state.proofs.TrafficLemmas.{each_done}

-- A request that went up to its owner

-- from the one list to the other one request less is out through a consumer, and the rest is kept
pub record Rise (s : State) (x : Trip) (ys : List Trip) : Type 0 where
  pub out : (d : ℕ) → out_through ys d
      ≡ (if d == x.source then out_through (trips s.traffic.bios) d - 1 else out_through (trips s.traffic.bios) d)
  pub own : AreOwn (own_after s x.owner) s.handles.handles ys
  pub taste : taste_read_after s x.owner ≡ taste_read ys
  pub busy : (disk : ℕ) → busy_at s.topo.topology ys disk ≡ busy_at s.topo.topology (trips s.traffic.bios) disk

-- what isn't seen of the second list
pub rise-on : (s : State) (x : Trip) (ys zs : List Trip) → SameReads ys zs
    → ((disk : ℕ) → busy_at s.topo.topology zs disk ≡ busy_at s.topo.topology ys disk) → Rise s x ys → Rise s x zs
rise-on s x ys zs same busy r = record {
  out = λ d. same.out d ∙ r.out d;
  own = λ actor.
      if_some_weaker (λ (o : OwnBios). IsOwnCount s.handles.handles ys actor o.count o.low)
      (λ (o : OwnBios). IsOwnCount s.handles.handles zs actor o.count o.low)
      (λ o is. same.own s.handles.handles actor o.count o.low is) (slice_get (own_after s x.owner) actor) (r.own actor);
  taste = r.taste ∙ sym same.read;
  busy = λ disk. busy disk ∙ r.busy disk;
}

module _ (handles : List Handle) (b : ℕ) (x : Trip) (xs : List Trip) (r : Around (λ (z : Trip). z.number) b x xs)
    (owns : List OwnBios) where
  abbrev rest : List Trip
  rest = filter (λ (z : Trip). not (z.number == b)) xs

  -- one that isn't an actor's own is gone
  pub owns-kept : ((a : ℕ) → is_own handles a x ≡ false) → AreOwn owns handles xs → AreOwn owns handles rest
  owns-kept nobodys own a =
      if_some_weaker (λ (o : OwnBios). IsOwnCount handles xs a o.count o.low)
      (λ (o : OwnBios). IsOwnCount handles rest a o.count o.low)
      (λ o is. own-kept handles a (λ z. not (z.number == b)) xs o.count o.low
      (only-fails b x xs (is_own handles a) r (nobodys a)) is) (slice_get owns a) (own a)

  -- one of an actor is gone
  pub owns-left : (actor : ℕ) → ((a : ℕ) → is_own handles a x ≡ (actor == a)) → AreOwn owns handles xs
      → AreOwn (left_by owns actor) handles rest
  owns-left actor mine own =
      each-slot owns (left_by owns actor) actor with_one_less (λ e. ap (change_own with_one_less owns actor) e)
      (λ o e. ap (change_own with_one_less owns actor) e) (λ a o. IsOwnCount handles xs a o.count o.low)
      (λ a o. IsOwnCount handles rest a o.count o.low)
      (λ o old. own-gone handles actor b x xs o.count o.low r (mine actor ∙ eq-eqb actor actor refl) old)
      (λ a o e old. own-kept handles a (λ z. not (z.number == b)) xs o.count o.low
      (only-fails b x xs (is_own handles a) r (mine a ∙ eqb_sym actor a ∙ e)) old) own

-- Roots

module _ (s : State) (b : ℕ) (x : BioOf Held) (at : InPhase is_up s.traffic.bios b) (is : at.bio ≡ x) (h : Holds s)
  where
    abbrev xs : List Trip
    xs = trips s.traffic.bios

    abbrev z : Trip
    z = trip_of x

    passes : is_up x.phase ≡ true
    passes = rw is at at.passes

    around-bio : Around (λ (y : BioOf Held). y.number) b x s.traffic.bios
    around-bio = rw is at at.alone

    r : Around (λ (y : Trip). y.number) b z xs
    r = trips-around b x s.traffic.bios around-bio

    going : z.done ≡ false
    going = (up-is x.phase passes).0

    idle : z.busy ≡ false
    idle = (up-is x.phase passes).1

    gone : List Trip
    gone = filter (λ (y : Trip). not (y.number == b)) xs

    -- a line's request
    pub rise-line : (hd line : ℕ) (k : Handle) → x.owner ≡ owners.Line hd line → handle_at s.handles.handles hd ≡ Some k
        → Rise s z (filter (λ (y : Trip). not (y.number == b)) xs)
    rise-line hd line k owner found = record {
      out = λ d. out-gone b z xs r going d;
      own =
          rw (owner, found)
          (owns-left s.handles.handles b z xs r s.own.items k.actor
          (own-of_line s.handles.handles hd line k z found owner) h.own);
      taste = rw owner (h.read ∙ sym (read-kept b z xs r (ap is_taste_root owner)));
      busy = λ disk. busy-kept s.topo.topology disk b z xs r idle;
    }

    -- the taste's read
    pub rise-read : x.owner ≡ owners.Taste → count_by (λ (y : Trip). is_taste_root y.owner) xs ≤ 1
        → Rise s z (filter (λ (y : Trip). not (y.number == b)) xs)
    rise-read owner one = record {
      out = λ d. out-gone b z xs r going d;
      own =
          rw owner
          (owns-kept s.handles.handles b z xs r s.own.items
          (own-of_nobody s.handles.handles z (λ n. ap (λ o. is_of_handle o n) owner)) h.own);
      taste = rw owner (sym (read-gone b z xs r (ap is_taste_root owner) one));
      busy = λ disk. busy-kept s.topo.topology disk b z xs r idle;
    }

    -- a child that is done
    pub rise-child : (parent index : ℕ) → x.owner ≡ owners.Child parent index
        → Rise s z (change_where (λ (y : Trip). y.number == b) (λ y. record y { done = true }) xs)
    rise-child parent index owner = record {
      out = λ d. out-back b z xs r going d;
      own = rw owner search (
        rules,
        count-changed (λ (y : Trip). y.number == b) (λ y. record y { done = true }),
        all-changed (λ (y : Trip). y.number == b) (λ y. record y { done = true }),
      );
      taste =
          rw owner
          (h.read
          ∙ sym (found-changed (λ (y : Trip). y.number == b) (λ y. record y { done = true })
          (λ y. is_taste_root y.owner) (option_map (λ (y : Trip). y.number)) (λ y e. refl) (λ y e. refl) xs));
      busy = λ disk.
          found-changed (λ (y : Trip). y.number == b) (λ y. record y { done = true }) (is_at_disk s.topo.topology disk)
          (option_map (λ (y : Trip). y.number)) (λ y e. refl) (λ y e. refl) xs;
    }

-- Parents that are complete

-- a child's trip, once it is done
gone-child : (parent : ℕ) (y : BioOf Held) → (is_child_of y.owner parent ≡ true → is_done y.phase ≡ true)
    → not (is_child_of y.owner parent) ≡ false → IsGoneChild (trip_of y)
gone-child parent y done e = record {
  done = done child;
  busy = done-is y.phase (done child);
  taste = of_child y.owner child;
  line = λ handles actor. own-of_nobody handles (trip_of y) (λ n. of_none y.owner n child) actor;
}
  where
    child : is_child_of y.owner parent ≡ true
    child = not-false (is_child_of y.owner parent) e

    of_child : (o : Owner) → is_child_of o parent ≡ true → is_taste_root o ≡ false
    of_child (owners.Line hd line) f = absurd cc
    of_child owners.Taste f = absurd cc
    of_child (owners.Child p k) f = refl

    of_none : (o : Owner) (n : ℕ) → is_child_of o parent ≡ true → is_of_handle o n ≡ false
    of_none (owners.Line hd line) n f = absurd cc
    of_none owners.Taste n f = absurd cc
    of_none (owners.Child p k) n f = refl

all-gone : (parent : ℕ) (bios : List (BioOf Held))
    → AllByRecursion (λ (y : BioOf Held). is_child_of y.owner parent ≡ true → is_done y.phase ≡ true) bios
    → AllByRecursion (λ (w : Trip). not (is_child_of w.owner parent) ≡ false → IsGoneChild w) (trips bios)
all-gone parent [] all = tt
all-gone parent (y ∷ ys) all = (gone-child parent y all.0, all-gone parent ys all.1)

-- a parent that waits goes up unseen
waiting-unseen : (result : Held) (y : BioOf Held) → is_waiting y.phase ≡ true
    → trip_of (up_with result y) ≡ trip_of y
waiting-unseen result y waits = trip-unseen y (waiting-is y.phase waits)

module _ (log : ℕ → Option (List ℕ)) (bios : List (BioOf Held)) (parent : ℕ) (t : Topology Config)
    (waits : AllByRecursion (λ (y : BioOf Held). (y.number == parent) ≡ true → is_waiting y.phase ≡ true) bios)
    (all : are_in bios parent ≡ true) where
  up_trips : (result : Held) → trips (change_number parent (up_with result) bios) ≡ trips bios
  up_trips result =
      trips-same parent (up_with result) bios
      (all_weaker (λ (y : BioOf Held). (y.number == parent) ≡ true → is_waiting y.phase ≡ true)
      (λ y. (y.number == parent) ≡ true → trip_of (up_with result y) ≡ trip_of y)
      (λ y so e. waiting-unseen result y (so e)) bios waits)

  left_trips : (result : Held)
      → trips
      (filter (λ (y : BioOf Held). not (is_child_of y.owner parent)) (change_number parent (up_with result) bios))
      ≡ filter (λ (w : Trip). not (is_child_of w.owner parent)) (trips bios)
  left_trips result =
      trips-kept (λ (y : BioOf Held). not (is_child_of y.owner parent)) (λ (w : Trip). not (is_child_of w.owner parent))
      (λ y. refl) (change_number parent (up_with result) bios)
      ∙ ap (filter (λ (w : Trip). not (is_child_of w.owner parent))) (up_trips result)

  pub complete-reads : SameReads (trips bios) (trips (completed log bios parent))
  complete-reads =
      search (
        rules,
        reads-same (trips bios) (trips bios),
        left_trips,
        reads-gone (λ (w : Trip). not (is_child_of w.owner parent)) (trips bios)
            (all-gone parent bios (each_done parent bios all)),
      )

  pub complete-busy : (disk : ℕ) → busy_at t (trips (completed log bios parent)) disk ≡ busy_at t (trips bios) disk
  complete-busy disk =
      search (
        rules,
        left_trips,
        busy-gone (λ (w : Trip). not (is_child_of w.owner parent)) (trips bios)
            (all-gone parent bios (each_done parent bios all)) t disk,
      )

-- Each owner

module _ (s : State) (next b : ℕ) (x : BioOf Held) (log : ℕ → Option (List ℕ))
    (are : AreNumbers (map (λ (y : BioOf Held). y.number) s.traffic.bios) next)
    (at : InPhase is_up s.traffic.bios b) (is : at.bio ≡ x) (h : Holds s) where
  number : x.number ≡ b
  number = eqb-true x.number b (rw is at at.alone.here)

  up : is_up x.phase ≡ true
  up = rw is at at.passes

  done_seen : trip_of (with_phase phases.Done x) ≡ (let w : Trip = record (trip_of x) { done = true } in w)
  done_seen = ap (λ d. let w : Trip = record (trip_of x) { done = true; busy = d } in w) (sym (up-is x.phase up).1)

  done_trips : trips (change_number x.number (with_phase phases.Done) s.traffic.bios)
      ≡ change_where (λ (y : Trip). y.number == b) (λ y. record y { done = true }) (trips s.traffic.bios)
  done_trips =
      rw number
      (trips-changed b (with_phase phases.Done) (λ y. record y { done = true }) s.traffic.bios
      (around-all (λ (y : BioOf Held). y.number) b x s.traffic.bios (rw is at at.alone)
      (λ y. trip_of (with_phase phases.Done y) ≡ (let w : Trip = record (trip_of y) { done = true } in w)) done_seen))

  gone_trips : trips (filter (λ (y : BioOf Held). not (y.number == x.number)) s.traffic.bios)
      ≡ filter (λ (w : Trip). not (w.number == b)) (trips s.traffic.bios)
  gone_trips =
      rw number
      (trips-kept (λ (y : BioOf Held). not (y.number == b)) (λ (w : Trip). not (w.number == b)) (λ y. refl)
      s.traffic.bios)

  -- the parent waits, also among these
  parent_waits : (parent : ℕ) → IsTrue (has_phase is_waiting s.traffic.bios parent)
      → AllByRecursion (λ (y : BioOf Held). (y.number == parent) ≡ true → is_waiting y.phase ≡ true)
      (change_number x.number (with_phase phases.Done) s.traffic.bios)
  parent_waits parent waits =
      let w : InPhase is_waiting s.traffic.bios parent = in-phase is_waiting s.traffic.bios next parent are waits in
      all-changed (λ (y : BioOf Held). y.number == x.number) (with_phase phases.Done)
      (λ y. (y.number == parent) ≡ true → is_waiting y.phase ≡ true)
      (λ y hit so e. absurd (never w (sym (eqb-true y.number parent e) ∙ eqb-true y.number x.number hit ∙ number)))
      s.traffic.bios
      (around-all (λ (y : BioOf Held). y.number) parent w.bio s.traffic.bios w.alone
      (λ y. is_waiting y.phase ≡ true) w.passes)
    where
      never : (w : InPhase is_waiting s.traffic.bios parent) → parent ≡ b → ⊥
      never w same = search rules

  -- it has gone up
  pub rises : (o : Owner) → x.owner ≡ o → HasParent s.traffic.bios o → IsOfItsOwner s x.source o
      → Rise s (trip_of x) (trips (after_up log s.traffic.bios x o))
  rises (owners.Line hd line) owner parent of =
      on (handle_at s.handles.handles hd) refl of
    where
      on : (o : Option Handle) → handle_at s.handles.handles hd ≡ o → IsSomeAnd o (λ k. k.consumer ≡ Some x.source)
          → Rise s (trip_of x) (trips (filter (λ (y : BioOf Held). not (y.number == x.number)) s.traffic.bios))
      on None e never = absurd never
      on (Some k) e has = rw gone_trips (rise-line s b x at is h hd line k owner e)
  rises owners.Taste owner parent of = rw gone_trips (rise-read s b x at is h owner of.0)
  rises (owners.Child parent index) owner waits of =
      on (are_in (change_number x.number (with_phase phases.Done) s.traffic.bios) parent) refl
    where
      first : Rise s (trip_of x) (trips (change_number x.number (with_phase phases.Done) s.traffic.bios))
      first = rw done_trips (rise-child s b x at is h parent index owner)

      on : (c : Bool) → are_in (change_number x.number (with_phase phases.Done) s.traffic.bios) parent ≡ c
          → Rise s (trip_of x)
          (trips
          (if c
          then completed log (change_number x.number (with_phase phases.Done) s.traffic.bios) parent
          else change_number x.number (with_phase phases.Done) s.traffic.bios))
      on false e = first
      on true e =
          search (rules, rise-on s (trip_of x), complete-reads log, parent_waits parent waits, complete-busy log, first)

  -- there was one out through its consumer, and one of its actor
  pub some-out : 1 ≤ out_through (trips s.traffic.bios) x.source
  some-out =
      out-some b (trip_of x) (trips s.traffic.bios) (trips-around b x s.traffic.bios (rw is at at.alone))
      (up-is x.phase up).0

  pub can-leave : (o : Owner) → x.owner ≡ o → CanLeave s o
  can-leave owners.Taste owner = tt
  can-leave (owners.Child parent index) owner = tt
  can-leave (owners.Line hd line) owner =
      if-found (handle_at s.handles.handles hd)
      (λ (k : Handle). IfSome (slice_get s.own.items k.actor) (λ own. 1 ≤ own.count))
      (λ k found. if-found (slice_get s.own.items k.actor) (λ (own : OwnBios). 1 ≤ own.count)
      (λ own stands.
      own-some s.handles.handles k.actor b (trip_of x) (trips s.traffic.bios) own.count own.low
      (trips-around b x s.traffic.bios (rw is at at.alone))
      (own-of_line s.handles.handles hd line k (trip_of x) found owner k.actor ∙ eq-eqb k.actor k.actor refl)
      (at-found (slice_get s.own.items k.actor)
      (λ (y : OwnBios). IsOwnCount s.handles.handles (trips s.traffic.bios) k.actor y.count y.low) own stands
      (h.own k.actor))))

-- how many are out through a consumer that lives, as it is kept
pub active-at : (t : TopoView Config) (xs : List Trip) (c : ℕ) → OutAreCounted t xs → IsSome (consumer_at t.topology c)
    → value_at t.active c ≡ Some (out_through xs c)
active-at t xs c out lives = ap (λ rows. value_at rows c) out ∙ on t.topology.consumers lives
  where
    on : (cs : List Consumer) → IsSome (find (λ (y : Consumer). y.number == c) cs)
        → value_at (map (λ (y : Consumer). let row : ℕ × ℕ = (y.number, out_through xs y.number) in row) cs) c
        ≡ Some (out_through xs c)
    on [] never = absurd cc
    on (y ∷ ys) lives = search (rules, on ys)

-- the notes follow when the handle of a consumer is looked at again
pub refreshed-ready : (v : HandlesView) (t : TopoView Config) (c : ℕ) (xs ys : List Trip)
    → AreNumbers (map (λ (k : Handle). k.number) v.handles) v.next
    → HoldsAlone v.handles c (option_map (λ (k : Handle). k.number) (holding_handle v.handles c))
    → ((d : ℕ) → d ≢ c → out_through ys d ≡ out_through xs d)
    → value_at t.active c ≡ Some (out_through ys c) → ReapableAreNoted v xs
    → refreshed v t c ≡ noted_handles (can_be_reaped ys) v.handles
refreshed-ready v t c xs ys numbers alone others out ready = on (holding_handle v.handles c) refl
  where
    each : AllByRecursion (λ k. names_number k.consumer c ≡ false → can_be_reaped ys k ≡ can_be_reaped xs k) v.handles
    each = search (rules, of_each, reaped-same c xs ys others)

    on : (o : Option Handle) → holding_handle v.handles c ≡ o
        → refreshed v t c ≡ noted_handles (can_be_reaped ys) v.handles
    on None e = refreshed-none v t c ys (can_be_reaped xs) each out e ready
    on (Some k) e =
        refreshed-one v t c ys (can_be_reaped xs) each out k e
        (holder v c k numbers alone e
        (found_itself (λ (j : Handle). j.number) v.next v.handles k numbers
        (find-Contains (λ (j : Handle). names_number j.consumer c) v.handles k e))
        (found_passes (λ (j : Handle). names_number j.consumer c) v.handles k e)) ready

-- all is kept after a request went up
pub holds-rose : (s new : State) (x : BioOf Held) (ys : List Trip) → Rise s (trip_of x) ys
    → IsSome (consumer_at s.topo.topology x.source)
    → HoldsAlone s.handles.handles x.source
    (option_map (λ (k : Handle). k.number) (holding_handle s.handles.handles x.source))
    → trips new.traffic.bios ≡ ys → new.topo ≡ with_active s.topo x.source (λ n. n - 1)
    → new.handles ≡ record s.handles { ready = refreshed s.handles new.topo x.source }
    → new.own.items ≡ own_after s x.owner → new.read ≡ taste_read_after s x.owner → new.disks ≡ s.disks
    → new ≡ with_bios_of s new → Holds s → Holds new
holds-rose s new x ys r lives alone seen topo handles own read disks rest h =
    let c : ℕ = x.source in
    let xs : List Trip = trips s.traffic.bios in
    let t : TopoView Config = with_active s.topo c (λ n. n - 1) in
    let active : OutAreCounted t ys =
    ap (λ rows. change_at (λ n. n - 1) rows c) h.active
    ∙ rows-changed (λ (y : Consumer). y.number) (out_through xs) (out_through ys) (λ n. n - 1) c r.out
    s.topo.topology.consumers in
    let ready = refreshed-ready s.handles t c xs ys h.numbers alone
    (λ d other. r.out d
    ∙ ap (λ b. if b then out_through xs d - 1 else out_through xs d) (ne_eqb d c other))
    (active-at t ys c active lives) h.ready in
    let seats : AreSeats s.disks.items s.topo.topology ys =
    seats-same s.disks.items s.topo.topology xs ys r.busy h.seats in
    holds-moved s new rest
    (rw seen
    (record {
      active = rw topo active;
      ready =
          rw (handles ∙ ap (λ u. record s.handles { ready = refreshed s.handles u c }) topo) ready;
      own = rw (own, handles) r.own;
      taste = read ∙ r.taste;
      seat = rw (disks, topo) seats;
    })) h

-- What the parts ask for, and that all is kept

module _ (s : State) (b : ℕ) (x : BioOf Held) (log : ℕ → Option (List ℕ))
    (told : Some x ≡ bio_among s.traffic.bios b)
    (are : AreNumbers (map (λ (y : BioOf Held). y.number) s.traffic.bios) s.traffic.next)
    (up : IsTrue (has_phase is_up s.traffic.bios b)) (came : CameThrough s b) (h : Holds s) where
  -- the bio that is up
  at : InPhase is_up s.traffic.bios b
  at = in-phase is_up s.traffic.bios s.traffic.next b are up

  -- it is the one that was found
  is : at.bio ≡ x
  is = let e : Some at.bio ≡ Some x = sym at.found ∙ sym told in cc

  through : IsSome (consumer_at s.topo.topology x.source) × IsOfItsOwner s x.source x.owner
  through = search rules

  -- its consumer is there
  pub back-lives : IsSome (consumer_at s.topo.topology x.source)
  back-lives = through.0

  -- something is out through it
  pub back-out : IfSome (value_at s.topo.active x.source) (λ n. 1 ≤ n)
  back-out =
      rw (active-at s.topo (trips s.traffic.bios) x.source h.active through.0)
      (some-out s s.traffic.next b x log are at is h)

  -- and something is its actor's
  pub back-own : CanLeave s x.owner
  back-own = can-leave s s.traffic.next b x log are at is h x.owner refl

  module _ (new : State) (v : BioTableView) (parent : HasParent s.traffic.bios x.owner)
      (alone : HoldsAlone s.handles.handles x.source
      (option_map (λ (k : Handle). k.number) (holding_handle s.handles.handles x.source)))
      (rose : IfSome (bio_among s.traffic.bios b) (λ (y : BioOf Held). v.bios ≡ after_up log s.traffic.bios y y.owner))
      (own : new.own.items ≡ own_after s x.owner) (read : new.read ≡ taste_read_after s x.owner)
      (left : new ≡ record s {
        traffic = v;
        topo = with_active s.topo x.source (λ n. n - 1);
        handles = record s.handles {
          ready = refreshed s.handles (with_active s.topo x.source (λ n. n - 1)) x.source;
        };
        own = new.own;
        read = new.read;
      }) where
    -- the state with these requests: beside them only what is out, what is ready and what is its owner's changes
    abbrev with_table : BioTableView → State
    with_table w = record s {
      traffic = w;
      topo = with_active s.topo x.source (λ n. n - 1);
      handles = record s.handles {
        ready = refreshed s.handles (with_active s.topo x.source (λ n. n - 1)) x.source;
      };
      own = new.own;
      read = new.read;
    }

    -- the requests are those of the table
    from_table : new.traffic ≡ v
    from_table = ap (λ (z : State). z.traffic) left

    all : new ≡ with_table new.traffic
    all = left ∙ ap with_table (sym from_table)

    -- what became of it
    bios : new.traffic.bios ≡ after_up log s.traffic.bios x x.owner
    bios = search rules

    -- all is kept
    pub holds-back : Holds new
    holds-back =
        let topo : new.topo ≡ with_active s.topo x.source (λ n. n - 1) = ap (λ (z : State). z.topo) all in
        let handles : new.handles
        ≡ record s.handles { ready = refreshed s.handles (with_active s.topo x.source (λ n. n - 1)) x.source } =
        ap (λ (z : State). z.handles) all in
        holds-rose s new x (trips (after_up log s.traffic.bios x x.owner))
        (rises s s.traffic.next b x log are at is h x.owner refl parent through.1) through.0 alone
        (ap trips bios) topo
        (handles
        ∙ ap (λ (t : TopoView Config).
        let v : HandlesView = record s.handles { ready = refreshed s.handles t x.source } in v) (sym topo))
        own read (ap (λ (z : State). z.disks) all) (rest-is s new all refl) h

-- The handle of a consumer that became dead

module _ (hs : List Handle) (c : ℕ) where
  -- the grants are the same
  pub killed-grants : (taste : Option Taste) (d : ℕ) → granted_of (killed hs c) taste d ≡ granted_of hs taste d
  killed-grants taste d =
      found-changed (λ (h : Handle). names_number h.consumer c) (λ h. record h { dead = true })
      (λ h. names_number h.consumer d) (λ o. option_map_or (λ (h : Handle). h.grant) o (taste_grant taste d))
      (λ h e. refl) (λ h e. refl) hs

  -- and so are the actors
  pub killed-own : (actor : ℕ) (x : Trip) → is_own (killed hs c) actor x ≡ is_own hs actor x
  killed-own actor x =
      found-changed (λ (h : Handle). names_number h.consumer c) (λ h. record h { dead = true })
      (λ h. is_of_handle x.owner h.number) (λ o. option_map_or (λ (h : Handle). h.actor == actor) o false)
      (λ h e. refl) (λ h e. refl) hs

  -- no handle has the consumer
  killed-none : holding_handle hs c ≡ None → killed hs c ≡ hs
  killed-none none =
      unhit (λ (h : Handle). names_number h.consumer c) (λ h. record h { dead = true }) hs
      (none_passes (λ (h : Handle). names_number h.consumer c) hs none)

  module _ (h : Handle) (xs : List Trip) (has : h.consumer ≡ Some c) where
    -- the note of each, after it became dead
    rows_killed : (ks : List Handle)
        → AllByRecursion (λ (k : Handle). ((k.number == h.number) ≡ true → k ≡ h)
        × (names_number k.consumer c ≡ (k.number == h.number))) ks
        → with_value (noted_handles (can_be_reaped xs) ks) h.number (out_through xs c == 0)
        ≡ noted_handles (can_be_reaped xs) (killed ks c)
    rows_killed [] all = refl
    rows_killed (k ∷ ks) all = search (rules, rows_killed ks all.1)

-- the notes follow
pub killed-ready : (v : HandlesView) (t : TopoView Config) (c : ℕ) (xs : List Trip)
    → AreNumbers (map (λ (k : Handle). k.number) v.handles) v.next
    → HoldsAlone v.handles c (option_map (λ (k : Handle). k.number) (holding_handle v.handles c))
    → value_at t.active c ≡ Some (out_through xs c) → ReapableAreNoted v xs
    → refreshed (record v { handles = killed v.handles c }) t c ≡ noted_handles (can_be_reaped xs) (killed v.handles c)
killed-ready v t c xs numbers alone out ready = on (holding_handle v.handles c) refl
  where
    idle : is_idle_now t c ≡ (out_through xs c == 0)
    idle = ap (λ o. option_map_or (λ n. n == 0) o false) out

    -- the dead one is found
    dead_found : (h : Handle) → holding_handle v.handles c ≡ Some h → names_number h.consumer c ≡ true
        → holding_handle (killed v.handles c) c ≡ Some (record h { dead = true })
    dead_found h is named =
        find-changed (λ (k : Handle). names_number k.consumer c) (λ k. record k { dead = true })
        (λ k. names_number k.consumer c) (λ k e. refl) v.handles
        ∙ ap (option_map (λ (k : Handle). if names_number k.consumer c then record k { dead = true } else k)) is
        ∙ ap (λ b. let k : Handle = if b then record h { dead = true } else h in Some k) named

    on : (o : Option Handle) → holding_handle v.handles c ≡ o
        → refreshed (record v { handles = killed v.handles c }) t c
        ≡ noted_handles (can_be_reaped xs) (killed v.handles c)
    on None is = search (rules, killed-none v.handles c is)
    on (Some h) is =
        let named : names_number h.consumer c ≡ true =
        found_passes (λ (j : Handle). names_number j.consumer c) v.handles h is in
        let one : IsHolder v c h =
        holder v c h numbers alone is
        (found_itself (λ (j : Handle). j.number) v.next v.handles h numbers
        (find-Contains (λ (j : Handle). names_number j.consumer c) v.handles h is)) named in
        let at : AllByRecursion (λ (k : Handle). names_number k.consumer c ≡ (k.number == h.number)) v.handles =
        rw (ap (option_map (λ (k : Handle). k.number)) is) at alone in
        ap (renoted v.ready (is_idle_now t c)) (dead_found h is named)
        ∙ ap (λ b. with_value v.ready h.number b) idle
        ∙ ap (λ rows. with_value rows h.number (out_through xs c == 0)) ready
        ∙ rows_killed v.handles c h xs one.has v.handles
        (two_facts (λ (k : Handle). (k.number == h.number) ≡ true → k ≡ h)
        (λ k. names_number k.consumer c ≡ (k.number == h.number)) v.handles one.numbered at)

-- all is kept
pub holds-killed : (s new : State) (c : ℕ) → IsSome (consumer_at s.topo.topology c)
    → HoldsAlone s.handles.handles c (option_map (λ (k : Handle). k.number) (holding_handle s.handles.handles c))
    → new ≡ record s {
      handles = record s.handles {
        handles = killed s.handles.handles c;
        ready = refreshed (record s.handles { handles = killed s.handles.handles c }) s.topo c;
      };
    }
    → Holds s → Holds new
holds-killed s new c lives alone is h =
    let xs : List Trip = trips s.traffic.bios in
    subst Holds (sym is)
    (record {
      counted = h.counted;
      quiet = h.quiet;
      numbers =
          numbers-changed (λ (k : Handle). k.number) (λ k. names_number k.consumer c) (λ k. record k { dead = true })
          (λ k e. refl) s.handles.next s.handles.handles h.numbers;
      grants = h.grants ∙ (λ i d. sym (killed-grants s.handles.handles c s.taste d) i);
      active = h.active;
      ready = killed-ready s.handles s.topo c xs h.numbers alone (active-at s.topo xs c h.active lives) h.ready;
      own =
          owns-alike_at s.own.items s.handles.handles (killed s.handles.handles c) xs
          (λ actor. of_each (λ (x : Trip). is_own (killed s.handles.handles c) actor x
          ≡ is_own s.handles.handles actor x) (killed-own s.handles.handles c actor) xs) h.own;
      read = h.read;
      seats = h.seats;
      providers = h.providers;
      room = h.room;
    })
