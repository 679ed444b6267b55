-- What is kept beside the parts, after a request came, and after one was split into children.
use Rattle.std.specs.Prelude.{◌≡◌, ◌≢◌, ℕ, ◌+◌, ◌≤◌, ◌==◌, true, false, List, [], ◌∷◌, ◌++◌, length, map, find, Option, Some, None, IfSome, slice_get, if◌then◌else◌, ◌<◌, ◌^◌, IsTrue, drop, get_or, IsSome}
use Rattle.std.specs.List.{AllByRecursion}
use Rattle.std.specs.Option.{option_map, option_map_or}
use Rattle.std.proofs.Common.{refl, sym, ◌∙◌, ap, subst, arith, eq-eqb, append_assoc, rules}
use Rattle.std.proofs.lemmas.Bool.{eqb-true}
use Rattle.std.proofs.lemmas.List.{map-append}
use Rattle.geo_base.proofs.AllLists.{all_weaker, two_facts}
use Rattle.geo_base.proofs.Options.{if_some_weaker}
use Rattle.geo_base.proofs.PlaceLists.{first_left}
use Rattle.geo_base.specs.declared.request.BioCmd.{BioCmd}
use Rattle.geo_model.specs.declared.span.Piece.{Piece}
use Rattle.geo_model.specs.declared.step.Owner.{Owner}
use Rattle.geo_model.specs.declared.step.Owner.TheVariants as owners
use Rattle.geo_model.specs.Graph.{AreNumbers}
use Rattle.geo_model.specs.Topology.{Consumer, consumer_at}
use Rattle.geo_model.specs.Words.{names_number}
use Rattle.geo_model.specs.World.{BioOf, Config, Handle, is_of_handle, is_taste_root, change_number, is_down, bio_among}
use Rattle.geo_model.specs.Bios.{new_bio}
use Rattle.geo_bio.specs.declared.bio.Held.{Held}
use Rattle.geo_bio.specs.Split.{split_into}
use Rattle.geo_mesh.specs.Topo.{TopoView, with_active}
use Rattle.geo_mesh.specs.Rows.{change_at}
use Rattle.geo_access.specs.Access.{IsCounted, IsQuiet}
use Rattle.geo_handles.specs.Handles.{HandlesView, HoldsAlone, holding_handle, handle_at, is_at}
use Rattle.geo_state.specs.declared.state.State.{State}
use Rattle.geo_state.specs.declared.state.DiskSeat.{DiskSeat}
use Rattle.geo_state.specs.declared.state.OwnBios.{OwnBios}
use Rattle.geo_state.specs.Trips.{Trip, trip_of, trips, out_through, is_own, taste_read, IsOwnCount}
use Rattle.geo_state.specs.Own.{with_bio, change_own, entered}
use Rattle.geo_state.specs.Bios.{all_out, IsNoHandles, OnlyBios}
use Rattle.geo_state.specs.Holds.{Holds, OutAreCounted, ReapableAreNoted, AreOwn, AreSeats}
use Rattle.geo_state.proofs.Lists.{Around, around, around-all, around-fact}
use Rattle.geo_state.proofs.TripLemmas.{eqb_sym, rows-changed, out-more, own-other, own-more, read-other, read-first, busy-other, trips-same}
use Rattle.geo_state.proofs.Fields.{ready-alive, nobodys-alive, seats-same, InPhase, in-phase, down-is, each-slot, rest-is, with_bios_of, trip-unseen}
use Rattle.geo_model.specs.declared.step.Phase.TheVariants as phases
use Rattle.geo_bio.specs.BioTable.{BioTableView, has_phase, with_phase}
use Rattle.geo_slots.specs.Slots.{value_at}
use Rattle.geo_state.specs.World.{disk_of_seat}
use Rattle.std.proofs.Math.ListN.{drop_of_length-le}

-- Requests that came

-- the fields that read the requests on their way
pub record Kept (t : TopoView Config) (v : HandlesView) (owns : List OwnBios) (read : Option ℕ)
    (seats : List DiskSeat) (xs : List Trip) : Type 0 where
  pub active : OutAreCounted t xs
  pub ready : ReapableAreNoted v xs
  pub own : AreOwn owns v.handles xs
  pub taste : read ≡ taste_read xs
  pub seat : AreSeats seats t.topology xs

pub kept-of : (s : State) → Holds s
    → Kept s.topo s.handles s.own.items s.read s.disks.items (trips s.traffic.bios)
kept-of s h = record { active = h.active; ready = h.ready; own = h.own; taste = h.read; seat = h.seats }

-- all of it again, where nothing else changed
pub holds-moved : (s new : State)
    → new ≡ with_bios_of s new
    → Kept new.topo new.handles new.own.items new.read new.disks.items (trips new.traffic.bios)
    → Holds s → Holds new
holds-moved s new is kept h =
    let v : State = with_bios_of s new in
    let counted : IsCounted v.topo = search rules in
    let quiet : IsQuiet v.topo = record { risen = h.quiet.risen; fallen = h.quiet.fallen } in
    record {
      counted = subst (λ (z : State). IsCounted z.topo) (sym is) counted;
      quiet = subst (λ (z : State). IsQuiet z.topo) (sym is) quiet;
      numbers =
          subst (λ (z : State). AreNumbers (map (λ (x : Handle). x.number) z.handles.handles) z.handles.next) (sym is)
          h.numbers;
      grants =
          subst (λ (z : State). Rattle.geo_state.specs.Holds.GrantsAgree z.topo z.handles.handles z.taste) (sym is)
          h.grants;
      active = kept.active;
      ready = kept.ready;
      own = kept.own;
      read = kept.taste;
      seats = kept.seat;
      providers = subst (λ (z : State). z.providers ≡ length z.topo.topology.providers) (sym is) h.providers;
      room =
          subst (λ (z : State). Rattle.geo_state.specs.Holds.owed_events z.topo ≤ z.queue.spare) (sym is) h.room;
    }

-- a request that is underway
pub record IsNew (z : Trip) (c : ℕ) : Type 0 where
  pub source : z.source ≡ c
  pub done : z.done ≡ false
  pub busy : z.busy ≡ false

module _ (t : TopoView Config) (v : HandlesView) (xs : List Trip) (z : Trip) (c : ℕ) (new : IsNew z c) where
  -- one more is out through its consumer
  pub active-more : OutAreCounted t xs → OutAreCounted (with_active t c (λ n. n + 1)) (xs ++ z ∷ [])
  active-more out =
      ap (λ rows. change_at (λ n. n + 1) rows c) out
      ∙ rows-changed (λ (x : Consumer). x.number) (out_through xs) (out_through (xs ++ z ∷ [])) (λ n. n + 1) c
      (λ d. subst (λ n. out_through (xs ++ z ∷ []) d ≡ (if d == n then out_through xs d + 1 else out_through xs d))
      new.source (out-more xs z new.done d)) t.topology.consumers

  -- through the others as many as before
  others_out : (d : ℕ) → d ≢ c → out_through (xs ++ z ∷ []) d ≡ out_through xs d
  others_out d other = search (rules, out-more xs z new.done d)

  pub ready-more : AllByRecursion (λ h. names_number h.consumer c ≡ true → h.dead ≡ false) v.handles
      → ReapableAreNoted v xs → ReapableAreNoted v (xs ++ z ∷ [])
  ready-more alive ready = ready-alive v c xs (xs ++ z ∷ []) others_out alive ready

  pub seats-more : (seats : List DiskSeat) → AreSeats seats t.topology xs
      → AreSeats seats t.topology (xs ++ z ∷ [])
  seats-more seats are =
      seats-same seats t.topology xs (xs ++ z ∷ []) (λ disk. busy-other t.topology disk xs z new.busy) are

  -- it is nobody's own
  pub owns-other : (owns : List OwnBios) → ((actor : ℕ) → is_own v.handles actor z ≡ false)
      → AreOwn owns v.handles xs → AreOwn owns v.handles (xs ++ z ∷ [])
  owns-other owns nobodys own actor =
      if_some_weaker (λ (o : OwnBios). IsOwnCount v.handles xs actor o.count o.low)
      (λ (o : OwnBios). IsOwnCount v.handles (xs ++ z ∷ []) actor o.count o.low)
      (λ o is. own-other v.handles actor xs z o.count o.low (nobodys actor) is) (slice_get owns actor) (own actor)

  -- it is an actor's own
  pub owns-more : (owns : List OwnBios) (actor : ℕ) → ((a : ℕ) → is_own v.handles a z ≡ (actor == a))
      → AreOwn owns v.handles xs → AreOwn (entered owns actor z.number) v.handles (xs ++ z ∷ [])
  owns-more owns actor mine own =
      let change : OwnBios → OwnBios = with_bio z.number in
      each-slot owns (entered owns actor z.number) actor change (λ e. ap (change_own change owns actor) e)
      (λ o e. ap (change_own change owns actor) e) (λ a o. IsOwnCount v.handles xs a o.count o.low)
      (λ a o. IsOwnCount v.handles (xs ++ z ∷ []) a o.count o.low)
      (λ o old. own-more v.handles actor xs z o.count o.low (mine actor ∙ eq-eqb actor actor refl) old)
      (λ a o e old. own-other v.handles a xs z o.count o.low (mine a ∙ eqb_sym actor a ∙ e) old) own

-- the handle that asks isn't dead, and no other has its consumer
pub asker-alive : (v : HandlesView) (c hd : ℕ) (h : Handle)
    → AreNumbers (map (λ (k : Handle). k.number) v.handles) v.next
    → HoldsAlone v.handles c (option_map (λ (k : Handle). k.number) (holding_handle v.handles c))
    → handle_at v.handles hd ≡ Some h → h.consumer ≡ Some c → h.dead ≡ false
    → AllByRecursion (λ k. names_number k.consumer c ≡ true → k.dead ≡ false) v.handles
asker-alive v c hd h numbers alone found has lives =
    let o : Option ℕ = option_map (λ (k : Handle). k.number) (holding_handle v.handles c) in
    let r : Around (λ (k : Handle). k.number) hd h v.handles =
    around (λ (k : Handle). k.number) v.next hd h v.handles numbers found in
    let mine : AllByRecursion (λ (k : Handle). (k.number == hd) ≡ true → k.dead ≡ false) v.handles =
    around-all (λ (k : Handle). k.number) hd h v.handles r (λ k. k.dead ≡ false) lives in
    let at : names_number h.consumer c ≡ is_at o h.number =
    around-fact (λ (k : Handle). k.number) hd h v.handles r (λ k. names_number k.consumer c ≡ is_at o k.number) alone in
    let named : names_number h.consumer c ≡ true = ap (λ p. names_number p c) has ∙ eq-eqb c c refl in
    let here : is_at o h.number ≡ true = sym at ∙ named in
    all_weaker (λ (k : Handle). ((k.number == hd) ≡ true → k.dead ≡ false)
    × (names_number k.consumer c ≡ is_at o k.number)) (λ k. names_number k.consumer c ≡ true → k.dead ≡ false)
    (λ k facts e. facts.0 (one o k.number (sym facts.1 ∙ e) here (eqb-true h.number hd r.here))) v.handles
    (two_facts (λ (k : Handle). (k.number == hd) ≡ true → k.dead ≡ false)
    (λ k. names_number k.consumer c ≡ is_at o k.number) v.handles mine alone)
  where
    one : (p : Option ℕ) (m : ℕ) → is_at p m ≡ true → is_at p h.number ≡ true → h.number ≡ hd → (m == hd) ≡ true
    one None m never too same = absurd cc
    one (Some q) m first second same = search rules

-- whose a line's request is
pub own-of_line : (handles : List Handle) (hd line : ℕ) (h : Handle) (z : Trip) → handle_at handles hd ≡ Some h
    → z.owner ≡ owners.Line hd line → (a : ℕ) → is_own handles a z ≡ (h.actor == a)
own-of_line handles hd line h z found owner a = search rules

-- a request of no line is nobody's own
pub own-of_nobody : (handles : List Handle) (z : Trip) → ((n : ℕ) → is_of_handle z.owner n ≡ false) → (a : ℕ)
    → is_own handles a z ≡ false
own-of_nobody handles z none a =
    ap (λ o. option_map_or (λ (k : Handle). k.actor == a) o false) (nothing handles)
  where
    nothing : (ks : List Handle) → find (λ k. is_of_handle z.owner k.number) ks ≡ None
    nothing [] = refl
    nothing (k ∷ ks) = rw (none k.number) (nothing ks)

-- one more of a line
pub kept-line : (t : TopoView Config) (v : HandlesView) (owns : List OwnBios) (read : Option ℕ)
    (seats : List DiskSeat) (xs : List Trip) (z : Trip) (c hd line : ℕ) (h : Handle)
    → IsNew z c → z.owner ≡ owners.Line hd line → AreNumbers (map (λ (k : Handle). k.number) v.handles) v.next
    → HoldsAlone v.handles c (option_map (λ (k : Handle). k.number) (holding_handle v.handles c))
    → handle_at v.handles hd ≡ Some h → h.consumer ≡ Some c → h.dead ≡ false
    → Kept t v owns read seats xs
    → Kept (with_active t c (λ n. n + 1)) v (entered owns h.actor z.number) read seats (xs ++ z ∷ [])
kept-line t v owns read seats xs z c hd line h new owner numbers alone found has lives k = record {
  active = active-more t v xs z c new k.active;
  ready = ready-more t v xs z c new (asker-alive v c hd h numbers alone found has lives) k.ready;
  own = owns-more t v xs z c new owns h.actor (own-of_line v.handles hd line h z found owner) k.own;
  taste = k.taste ∙ sym (read-other xs z (ap is_taste_root owner));
  seat = seats-more t v xs z c new seats k.seat;
}

-- the taste's read
pub kept-read : (t : TopoView Config) (v : HandlesView) (owns : List OwnBios) (read : Option ℕ)
    (seats : List DiskSeat) (xs : List Trip) (z : Trip) (c : ℕ)
    → IsNew z c → z.owner ≡ owners.Taste → holding_handle v.handles c ≡ None → read ≡ None
    → Kept t v owns read seats xs
    → Kept (with_active t c (λ n. n + 1)) v owns (Some z.number) seats (xs ++ z ∷ [])
kept-read t v owns read seats xs z c new owner nobodys none k = record {
  active = active-more t v xs z c new k.active;
  ready = ready-more t v xs z c new (nobodys-alive c v.handles nobodys) k.ready;
  own = owns-other t v xs z c new owns (own-of_nobody v.handles z (λ n. ap (λ o. is_of_handle o n) owner)) k.own;
  taste = sym (read-first xs z (ap is_taste_root owner) (sym k.taste ∙ none));
  seat = seats-more t v xs z c new seats k.seat;
}

-- children
pub kept-child : (t : TopoView Config) (v : HandlesView) (owns : List OwnBios) (read : Option ℕ)
    (seats : List DiskSeat) (xs : List Trip) (z : Trip) (c parent index : ℕ)
    → IsNew z c → z.owner ≡ owners.Child parent index → holding_handle v.handles c ≡ None
    → Kept t v owns read seats xs → Kept (with_active t c (λ n. n + 1)) v owns read seats (xs ++ z ∷ [])
kept-child t v owns read seats xs z c parent index new owner nobodys k = record {
  active = active-more t v xs z c new k.active;
  ready = ready-more t v xs z c new (nobodys-alive c v.handles nobodys) k.ready;
  own = owns-other t v xs z c new owns (own-of_nobody v.handles z (λ n. ap (λ o. is_of_handle o n) owner)) k.own;
  taste = k.taste ∙ sym (read-other xs z (ap is_taste_root owner));
  seat = seats-more t v xs z c new seats k.seat;
}

pub kept-children : (v : HandlesView) (owns : List OwnBios) (read : Option ℕ) (seats : List DiskSeat)
    (first : ℕ) (x : BioOf Held) (pieces : List Piece) (targets : List (ℕ × ℕ)) (t : TopoView Config)
    (xs : List Trip) (index : ℕ) → length targets ≡ length pieces
    → AllByRecursion (λ (target : ℕ × ℕ). holding_handle v.handles target.0 ≡ None) targets
    → Kept t v owns read seats xs
    → Kept (all_out t targets) v owns read seats (xs ++ trips (split_into first x index pieces targets))
kept-children v owns read seats first x [] [] t xs index same nobodys k = search rules
kept-children v owns read seats first x [] (target ∷ targets) t xs index same nobodys k = absurd (omega (arith, same))
kept-children v owns read seats first x (piece ∷ pieces) [] t xs index same nobodys k = absurd (omega (arith, same))
kept-children v owns read seats first x (piece ∷ pieces) (target ∷ targets) t xs index same nobodys k =
    let z : Trip = record {
      number = first + index;
      source = target.0;
      target = target.1;
      owner = owners.Child x.number index;
      done = false;
      busy = false;
    } in
    let one = kept-child t v owns read seats xs z target.0 x.number index
    (record { source = refl; done = refl; busy = refl }) refl nobodys.0 k in
    let more = kept-children v owns read seats first x pieces targets (with_active t target.0 (λ n. n + 1))
    (xs ++ z ∷ []) (index + 1) (omega (arith, same)) nobodys.1 one in
    subst
    (λ ys. Kept (all_out t (target ∷ targets)) v owns read seats ys)
    (append_assoc xs (z ∷ []) (trips (split_into first x (index + 1) pieces targets)))
    more

-- The state after one more request

-- a new bio is underway
pub new-bio : (next : ℕ) (cmd : BioCmd) (offset len : ℕ) (bytes : List ℕ) (source target : ℕ) (owner : Owner)
    → IsNew (trip_of (new_bio {R = Held} next cmd offset len bytes source target owner)) source
new-bio next cmd offset len bytes source target owner = record { source = refl; done = refl; busy = refl }

-- the trips with one more bio
trips-more : (bios : List (BioOf Held)) (x : BioOf Held) → trips (bios ++ x ∷ []) ≡ trips bios ++ trip_of x ∷ []
trips-more bios x = map-append trip_of bios (x ∷ [])

module _ (s new : State) (c : ℕ) (x : BioOf Held) (bios : new.traffic.bios ≡ s.traffic.bios ++ x ∷ [])
    (fresh : IsNew (trip_of x) c) (h : Holds s) where
  seen : trips new.traffic.bios ≡ trips s.traffic.bios ++ trip_of x ∷ []
  seen = ap trips bios ∙ trips-more s.traffic.bios x

  pub holds-line : (hd line : ℕ) (k : Handle) → x.owner ≡ owners.Line hd line
      → HoldsAlone s.handles.handles c (option_map (λ (k : Handle). k.number) (holding_handle s.handles.handles c))
      → handle_at s.handles.handles hd ≡ Some k → k.consumer ≡ Some c → k.dead ≡ false
      → new.own.items ≡ entered s.own.items k.actor x.number
      → new ≡ record s { traffic = new.traffic; topo = with_active s.topo c (λ n. n + 1); own = new.own }
      → Holds new
  holds-line hd line k owner alone found has lives own is =
      search (
        rules,
        holds-moved s new (rest-is s new is refl),
        seen,
        kept-line s.topo s.handles s.own.items s.read s.disks.items (trips s.traffic.bios) (trip_of x) c hd line k fresh
            owner h.numbers alone found has lives (kept-of s h),
      )

  pub holds-read : x.owner ≡ owners.Taste → holding_handle s.handles.handles c ≡ None → s.read ≡ None
      → new ≡ record s {
        traffic = new.traffic;
        topo = with_active s.topo c (λ n. n + 1);
        read = Some x.number;
      }
      → Holds new
  holds-read owner nobodys none is =
      search (
        rules,
        holds-moved s new (rest-is s new is refl),
        seen,
        kept-read s.topo s.handles s.own.items s.read s.disks.items (trips s.traffic.bios) (trip_of x) c fresh owner
            nobodys none (kept-of s h),
      )

-- A request that was split into children

-- only what is out changes
pub all-out-active : (targets : List (ℕ × ℕ)) (t : TopoView Config)
    → all_out t targets ≡ (let u : TopoView Config = record t { active = (all_out t targets).active } in u)
all-out-active [] t = refl
all-out-active (z ∷ zs) t = all-out-active zs (with_active t z.0 (λ n. n + 1))

-- a bio that waits isn't seen otherwise than one that is down
waiting-seen : (x : BioOf Held) → is_down x.phase ≡ true → trip_of (with_phase phases.Waiting x) ≡ trip_of x
waiting-seen x down = trip-unseen x (down-is x.phase down)

module _ (s new : State) (next b : ℕ) (x : BioOf Held) (pieces : List Piece) (targets : List (ℕ × ℕ))
    (are : AreNumbers (map (λ (y : BioOf Held). y.number) s.traffic.bios) next)
    (down : IsTrue (has_phase is_down s.traffic.bios b)) (same : length targets ≡ length pieces)
    (through : AllByRecursion (λ (z : ℕ × ℕ). IsNoHandles s z.0) targets)
    (bios : new.traffic.bios ≡ change_number b (with_phase phases.Waiting) s.traffic.bios
    ++ split_into next x 0 pieces targets)
    (is : new ≡ record s { traffic = new.traffic; topo = all_out s.topo targets }) where
  seen_split : trips new.traffic.bios ≡ trips s.traffic.bios ++ trips (split_into next x 0 pieces targets)
  seen_split =
      let at : InPhase is_down s.traffic.bios b = in-phase is_down s.traffic.bios next b are down in
      ap trips bios
      ∙ map-append trip_of (change_number b (with_phase phases.Waiting) s.traffic.bios)
      (split_into next x 0 pieces targets)
      ∙ ap (λ ys. ys ++ trips (split_into next x 0 pieces targets))
      (trips-same b (with_phase phases.Waiting) s.traffic.bios
      (around-all (λ (y : BioOf Held). y.number) b at.bio s.traffic.bios at.alone
      (λ y. trip_of (with_phase phases.Waiting y) ≡ trip_of y) (waiting-seen at.bio at.passes)))

  rest : new ≡ with_bios_of s new
  rest =
      rest-is s new is
      (ap (λ (t : TopoView Config). let z : State = record s { traffic = new.traffic; topo = t } in z)
      (all-out-active targets s.topo))

  pub only-split : OnlyBios s new
  only-split = record { rest = rest; disks = ap (λ (z : State). map disk_of_seat z.disks.items) is }

  pub holds-split : Holds s → Holds new
  holds-split h =
      search (
        rules,
        holds-moved s new rest,
        seen_split,
        kept-children s.handles s.own.items s.read s.disks.items next x pieces targets s.topo (trips s.traffic.bios) 0
            same
            (all_weaker (λ (z : ℕ × ℕ). IsNoHandles s z.0) (λ z. holding_handle s.handles.handles z.0 ≡ None)
            (λ z of. of.nobodys) targets through) (kept-of s h),
      )

-- The table split the request, and then the mesh noted the children

module _ (s : State) (v : BioTableView) (u : TopoView Config) (b : ℕ) (pieces : List Piece)
    (targets : List (ℕ × ℕ)) {pairs : List (ℕ × ℕ)}
    (are : AreNumbers (map (λ (y : BioOf Held). y.number) s.traffic.bios) s.traffic.next)
    (down : IsTrue (has_phase is_down s.traffic.bios b)) (same : length targets ≡ length pieces)
    (through : AllByRecursion (λ (z : ℕ × ℕ). IsNoHandles s z.0) targets)
    (split : IfSome (bio_among s.traffic.bios b) (λ (x : BioOf Held). v.bios
    ≡ change_number b (with_phase phases.Waiting) s.traffic.bios ++ split_into s.traffic.next x 0 pieces targets))
    (noted : u ≡ all_out s.topo pairs) (pairs_are : pairs ≡ targets) where
  abbrev after : State
  after = record s { traffic = v; topo = u }

  -- the request
  request : InPhase is_down s.traffic.bios b
  request = in-phase is_down s.traffic.bios s.traffic.next b are down

  -- what became of it
  bios_are : v.bios ≡ change_number b (with_phase phases.Waiting) s.traffic.bios
      ++ split_into s.traffic.next request.bio 0 pieces targets
  bios_are = search rules

  after_is : after ≡ record s { traffic = v; topo = all_out s.topo targets }
  after_is = search rules

  -- nothing but requests changed
  pub split-only : OnlyBios s after
  split-only =
      only-split s after s.traffic.next b request.bio pieces targets are down same through bios_are after_is

  -- all is kept
  pub split-kept : Holds s → Holds after
  split-kept =
      holds-split s after s.traffic.next b request.bio pieces targets are down same through bios_are after_is

-- What can be counted

-- a count after one more is out
more_at : (rows : List (ℕ × ℕ)) (c d k : ℕ) → IfSome (value_at rows d) (λ n. n + (1 + k) ≤ 2 ^ 63)
    → IfSome (value_at (change_at (λ n. n + 1) rows c) d) (λ n. n + k ≤ 2 ^ 63)
more_at [] c d k fits = fits
more_at (row ∷ rows) c d k fits = search (rules, more_at rows c d k)

pub few-after : (rows : List (ℕ × ℕ)) (c k : ℕ) (zs : List (ℕ × ℕ))
    → AllByRecursion (λ (z : ℕ × ℕ). IfSome (value_at rows z.0) (λ n. n + (1 + k) ≤ 2 ^ 63)) zs
    → AllByRecursion (λ (z : ℕ × ℕ). IfSome (value_at (change_at (λ n. n + 1) rows c) z.0) (λ n. n + k ≤ 2 ^ 63)) zs
few-after rows c k [] all = tt
few-after rows c k (z ∷ zs) all = (more_at rows c z.0 k all.0, few-after rows c k zs all.1)

-- where each is below 2 ^ 62, and so is the number of those to come
pub few-enough : (rows : List (ℕ × ℕ)) (k : ℕ) (zs : List (ℕ × ℕ)) → k < 2 ^ 62
    → AllByRecursion (λ (z : ℕ × ℕ). IfSome (value_at rows z.0) (λ n. n < 2 ^ 62)) zs
    → AllByRecursion (λ (z : ℕ × ℕ). IfSome (value_at rows z.0) (λ n. n + k ≤ 2 ^ 63)) zs
few-enough rows k zs few all =
    search (
      rules,
      all_weaker (λ (z : ℕ × ℕ). IfSome (value_at rows z.0) (λ n. n < 2 ^ 62))
          (λ z. IfSome (value_at rows z.0) (λ n. n + k ≤ 2 ^ 63)),
    )

-- The requests of a split, noted one after another

-- how far the requests are noted: what is left makes of this mesh what all make of the first one
pub record NotedSoFar (t u : TopoView Config) (rest all : List (ℕ × ℕ)) : Type 0 where
  pub same : all_out u rest ≡ all_out t all
  pub live : AllByRecursion (λ (z : ℕ × ℕ). IsSome (consumer_at u.topology z.0)) rest
  pub few : AllByRecursion (λ (z : ℕ × ℕ). IfSome (value_at u.active z.0) (λ n. n + length rest ≤ 2 ^ 63)) rest

-- one more is noted
one_more : (t u : TopoView Config) (z : ℕ × ℕ) (rest all : List (ℕ × ℕ)) → NotedSoFar t u (z ∷ rest) all
    → NotedSoFar t (with_active u z.0 (λ n. n + 1)) rest all
one_more t u z rest all far = record {
  same = far.same;
  live = far.live.1;
  few =
      few-after u.active z.0 (length rest) rest
      (all_weaker (λ (y : ℕ × ℕ). IfSome (value_at u.active y.0) (λ n. n + length (z ∷ rest) ≤ 2 ^ 63))
      (λ y. IfSome (value_at u.active y.0) (λ n. n + (1 + length rest) ≤ 2 ^ 63))
      (λ y. on (value_at u.active y.0)) rest far.few.1);
}
  where
    on : (o : Option ℕ) → IfSome o (λ n. n + length (z ∷ rest) ≤ 2 ^ 63)
        → IfSome o (λ n. n + (1 + length rest) ≤ 2 ^ 63)
    on None fact = tt
    on (Some n) fact = omega (arith, fact)

module _ (t u : TopoView Config) (i : ℕ) (zs : List (ℕ × ℕ)) where
  -- one of the list
  pub noted_step : (v : TopoView Config) (z : ℕ × ℕ) → i < length zs → z ≡ get_or zs i z
      → v ≡ with_active u z.0 (λ n. n + 1) → NotedSoFar t u (drop i zs) zs → NotedSoFar t v (drop (i + 1) zs) zs
  noted_step v z less is made far =
      subst (λ (w : TopoView Config). NotedSoFar t w (drop (i + 1) zs) zs) (sym made)
      (one_more t u z (drop (i + 1) zs) zs
      (subst (λ xs. NotedSoFar t u xs zs) (first_left zs i z less is) far))

  -- the next one lives, and can be counted
  pub noted_lives : (z : ℕ × ℕ) → i < length zs → z ≡ get_or zs i z → NotedSoFar t u (drop i zs) zs
      → IsSome (consumer_at u.topology z.0)
  noted_lives z less is far = (subst (λ xs. NotedSoFar t u xs zs) (first_left zs i z less is) far).live.0

  pub noted_few : (z : ℕ × ℕ) → i < length zs → z ≡ get_or zs i z → NotedSoFar t u (drop i zs) zs
      → IfSome (value_at u.active z.0) (λ n. n < 2 ^ 63)
  noted_few z less is far = search (rules, first_left zs i z less is)

  -- at the end all are noted
  pub noted_end : length zs ≤ i → NotedSoFar t u (drop i zs) zs → u ≡ all_out t zs
  noted_end all far = (subst (λ xs. NotedSoFar t u xs zs) (drop_of_length-le zs all) far).same

-- what holds of the rest, so far

module _ {X : Type 0} (P : X → Type 0) (xs : List X) (i : ℕ) where
  pub all_step : (x : X) → i < length xs → x ≡ get_or xs i x → P x
      → (AllByRecursion P (drop i xs) → AllByRecursion P xs) → AllByRecursion P (drop (i + 1) xs) → AllByRecursion P xs
  all_step x less is fact so rest = so (subst (AllByRecursion P) (sym (first_left xs i x less is)) (fact, rest))

  pub all_end : length xs ≤ i → (AllByRecursion P (drop i xs) → AllByRecursion P xs) → AllByRecursion P xs
  all_end all so = so (subst (AllByRecursion P) (sym (drop_of_length-le xs all)) tt)

-- What a split asks of the mesh

pub through-live : (s : State) (zs : List (ℕ × ℕ)) → AllByRecursion (λ (z : ℕ × ℕ). IsNoHandles s z.0) zs
    → AllByRecursion (λ (z : ℕ × ℕ). IsSome (consumer_at s.topo.topology z.0)) zs
through-live s zs through =
    all_weaker (λ (z : ℕ × ℕ). IsNoHandles s z.0) (λ z. IsSome (consumer_at s.topo.topology z.0)) (λ z of. of.lives)
    zs through

pub through-few : (s : State) (zs : List (ℕ × ℕ)) → length zs < 2 ^ 62
    → AllByRecursion (λ (z : ℕ × ℕ). IfSome (value_at s.topo.active z.0) (λ n. n < 2 ^ 62)) zs
    → AllByRecursion (λ (z : ℕ × ℕ). IfSome (value_at s.topo.active z.0) (λ n. n + length zs ≤ 2 ^ 63)) zs
through-few s zs few counts = few-enough s.topo.active (length zs) zs few counts
