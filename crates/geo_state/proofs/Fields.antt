-- What is kept beside the parts, field by field: what doesn't see a change, which handles are ready, and moves.
use Rattle.std.specs.Prelude.{◌≡◌, ℕ, ◌+◌, ◌≤◌, ◌==◌, Bool, true, false, List, [], ◌∷◌, ◌++◌, map, filter, find, count_by, Option, Some, None, IsTrue, if◌then◌else◌, ◌≢◌, ◌&&◌, IfSome, slice_get, IsSomeAnd, slice_set}
use Rattle.std.specs.List.{AllByRecursion}
use Rattle.std.specs.Option.{option_map, option_map_or}
use Rattle.std.proofs.Common.{refl, sym, ◌∙◌, ap, subst, eq-eqb, rules}
use Rattle.geo_base.proofs.AllLists.{all_weaker, two_facts}
use Rattle.geo_model.specs.declared.step.Phase.{Phase}
use Rattle.geo_model.specs.declared.step.Phase.TheVariants as phases
use Rattle.geo_model.specs.Graph.{AreNumbers}
use Rattle.geo_model.specs.Topology.{Topology}
use Rattle.geo_model.specs.Words.{change_where, names_number}
use Rattle.geo_model.specs.World.{BioOf, Config, Handle, is_busy, is_done, is_down, is_sent, is_up, is_waiting, is_taste_root, bio_among, change_number}
use Rattle.geo_bio.specs.BioTable.{has_phase, BioTableView, with_phase, delivered}
use Rattle.geo_laws_graph.proofs.Lists.{changed-keeps, all-changed}
use Rattle.geo_state.specs.Trips.{Trip, trip_of, trips, out_through, taste_read, is_at_disk, busy_at, is_own, IsOwnCount, can_be_reaped}
use Rattle.geo_state.proofs.Lists.{Around, around, counts, count-step, count-kept, find-kept_by, around-all, found-changed, count-same}
use Rattle.geo_state.proofs.TripLemmas.{own-kept, reaped-same, trips-changed, trips-same, busy-taken, busy-freed}
use Rattle.geo_base.proofs.FindLists.{none_passes}
use Rattle.geo_model.proofs.DemandLemmas.{map_same, names_some}
use Rattle.geo_slots.specs.Slots.{value_at, with_value}
use Rattle.geo_mesh.specs.Topo.{TopoView}
use Rattle.geo_handles.specs.Handles.{HandlesView, holding_handle, HoldsAlone}
use Rattle.geo_handles.specs.HandleLaws.{noted_handles}
use Rattle.geo_handles.proofs.HandleLawLemmas.{notes_follow}
use Rattle.geo_state.specs.Ready.{is_idle_now, renoted, refreshed}
use Rattle.std.proofs.lemmas.Bool.{eqb-true}
use Rattle.geo_base.proofs.Options.{if_some_weaker}
use Rattle.geo_base.proofs.PlaceLists.{slot-same, slot-other, slot-seen}
use Rattle.geo_state.specs.declared.state.State.{State}
use Rattle.geo_state.specs.declared.state.DiskSeat.{DiskSeat}
use Rattle.geo_state.specs.declared.state.OwnBios.{OwnBios}
use Rattle.geo_state.specs.Seats.{change_seat, with_busy_at}
use Rattle.geo_state.specs.Holds.{Holds, OutAreCounted, AreOwn, AreSeats, IsSeat}
use Rattle.geo_state.specs.World.{disk_of_seat}
use Rattle.geo_base.specs.declared.errno.Errno.{Errno}
use Rattle.geo_model.specs.Bios.{up_with, disk_at}
use Rattle.geo_bio.specs.declared.bio.Held.{Held}
use Rattle.geo_bio.specs.declared.bio.Held.TheVariants as held
use Rattle.geo_state.specs.Bios.{OnlyBios, GoesTo, IsFree, IsAloneAt}
use Rattle.geo_model.proofs.BioLemmas.{phase_down, phase_waiting}
use Rattle.geo_state.proofs.OrderLemmas.{phase_up, phase_done}

-- Changes of requests that the other parts don't see, or only where a request is at a disk

-- from the one list to the other as many are out through each consumer, the taste's read is the same, and what is kept
-- of an actor's own requests still holds
pub record SameReads (xs ys : List Trip) : Type 0 where
  pub out : (c : ℕ) → out_through ys c ≡ out_through xs c
  pub read : taste_read ys ≡ taste_read xs
  pub own : (handles : List Handle) (actor count low : ℕ) → IsOwnCount handles xs actor count low
      → IsOwnCount handles ys actor count low

pub reads-same : (xs ys : List Trip) → ys ≡ xs → SameReads xs ys
reads-same xs ys same = search rules

-- as many pass after a change that the test doesn't see
pub count-changed : {X : Type 0} (hit : X → Bool) (change : X → X) (p : X → Bool)
    → ((x : X) → hit x ≡ true → p (change x) ≡ p x) → (xs : List X)
    → count_by p (change_where hit change xs) ≡ count_by p xs
count-changed hit change p same [] = refl
count-changed {X} hit change p same (x ∷ xs) =
    let item : X = if hit x then change x else x in
    let here : counts p item ≡ counts p x = ap (λ b. if b then 1 else 0) (changed-keeps hit change p same x) in
    count-step p item (change_where hit change xs)
    ∙ ap (λ n. counts p item + n) (count-changed hit change p same xs)
    ∙ ap (λ n. n + count_by p xs) here
    ∙ sym (count-step p x xs)

-- a change of one request that doesn't see where it is from, whose it is and whether it has come back
pub reads-changed : (hit : Trip → Bool) (change : Trip → Trip)
    → ((z : Trip) → (change z).number ≡ z.number) → ((z : Trip) → (change z).source ≡ z.source)
    → ((z : Trip) → (change z).owner ≡ z.owner) → ((z : Trip) → (change z).done ≡ z.done)
    → (xs : List Trip) → SameReads xs (change_where hit change xs)
reads-changed hit change number source owner done xs =
    search (
      rules,
      count-changed hit change,
      found-changed hit change (λ z. is_taste_root z.owner) (option_map (λ (z : Trip). z.number))
          (λ z e. ap is_taste_root (owner z)) (λ z e. ap Some (number z)) xs,
      all-changed hit change,
    )

-- children that are done go
pub record IsGoneChild (x : Trip) : Type 0 where
  pub done : x.done ≡ true
  pub busy : x.busy ≡ false
  pub taste : is_taste_root x.owner ≡ false
  pub line : (handles : List Handle) (actor : ℕ) → is_own handles actor x ≡ false

module _ (keep : Trip → Bool) (xs : List Trip) (gone : AllByRecursion (λ x. keep x ≡ false → IsGoneChild x) xs) where
  pub reads-gone : SameReads xs (filter keep xs)
  reads-gone = record {
    out =
        search (rules, count-kept, all_weaker (λ (x : Trip). keep x ≡ false → IsGoneChild x));
    read =
        ap (option_map (λ (z : Trip). z.number))
        (find-kept_by (λ z. is_taste_root z.owner) keep xs
        (all_weaker (λ (x : Trip). keep x ≡ false → IsGoneChild x) (λ x. keep x ≡ false → is_taste_root x.owner ≡ false)
        (λ x so e. (so e).taste) xs gone));
    own =
        λ handles actor count low is. own-kept handles actor keep xs count low
        (all_weaker (λ (x : Trip). keep x ≡ false → IsGoneChild x)
        (λ x. keep x ≡ false → is_own handles actor x ≡ false)
        (λ x so e. (so e).line handles actor) xs gone) is;
  }

  pub busy-gone : (t : Topology Config) (disk : ℕ) → busy_at t (filter keep xs) disk ≡ busy_at t xs disk
  busy-gone t disk =
      ap (option_map (λ (z : Trip). z.number))
      (find-kept_by (is_at_disk t disk) keep xs
      (all_weaker (λ (x : Trip). keep x ≡ false → IsGoneChild x) (λ x. keep x ≡ false → is_at_disk t disk x ≡ false)
      (λ x so e. rw (so e).busy refl) xs gone))

-- Phases

module _ {R : Type 0} where
  -- a bio of a number in a phase that passes, and those before and after it
  pub record InPhase (test : Phase → Bool) (bios : List (BioOf R)) (b : ℕ) : Type 0 where
    pub bio : BioOf R
    pub found : bio_among bios b ≡ Some bio
    pub passes : test bio.phase ≡ true
    pub alone : Around (λ (x : BioOf R). x.number) b bio bios

  pub in-phase : (test : Phase → Bool) (bios : List (BioOf R)) (next b : ℕ)
      → AreNumbers (map (λ (x : BioOf R). x.number) bios) next → IsTrue (has_phase test bios b)
      → InPhase test bios b
  in-phase test bios next b are has = on (bio_among bios b) refl has
    where
      on : (o : Option (BioOf R)) → bio_among bios b ≡ o
          → IsTrue (option_map_or (λ (x : BioOf R). test x.phase) o false) → InPhase test bios b
      on None e never = absurd cc
      on (Some x) e passes = search (rules, around (λ (y : BioOf R). y.number) next b x bios are e)

  -- the trips around it
  pub trips-around : (b : ℕ) (x : BioOf R) (bios : List (BioOf R)) → Around (λ (y : BioOf R). y.number) b x bios
      → Around (λ (z : Trip). z.number) b (trip_of x) (trips bios)
  trips-around b x bios r = record {
    front = trips r.front;
    back = trips r.back;
    is = ap trips r.is ∙ split r.front;
    here = r.here;
    before = seen r.front r.before;
    after = seen r.back r.after;
  }
    where
      split : (ys : List (BioOf R)) → trips (ys ++ x ∷ r.back) ≡ trips ys ++ trip_of x ∷ trips r.back
      split [] = refl
      split (y ∷ ys) = ap (λ zs. trip_of y ∷ zs) (split ys)

      seen : (ys : List (BioOf R)) → AllByRecursion (λ y. (y.number == b) ≡ false) ys
          → AllByRecursion (λ (z : Trip). (z.number == b) ≡ false) (trips ys)
      seen [] all = tt
      seen (y ∷ ys) all = (all.0, seen ys all.1)

-- what the phases are that pass
pub down-is : (p : Phase) → is_down p ≡ true → (is_done p ≡ false) × (is_busy p ≡ false)
down-is p e = rw (phase_down p e) (refl, refl)

pub busy-is : (p : Phase) → is_busy p ≡ true → is_done p ≡ false
busy-is phases.Down e = absurd cc
busy-is phases.Sent e = absurd cc
busy-is (phases.Busy seat) e = refl
busy-is phases.Waiting e = absurd cc
busy-is phases.Up e = absurd cc
busy-is phases.Done e = absurd cc

pub up-is : (p : Phase) → is_up p ≡ true → (is_done p ≡ false) × (is_busy p ≡ false)
up-is p e = rw (phase_up p e) (refl, refl)

pub waiting-is : (p : Phase) → is_waiting p ≡ true → (is_done p ≡ false) × (is_busy p ≡ false)
waiting-is p e = rw (phase_waiting p e) (refl, refl)

pub done-is : (p : Phase) → is_done p ≡ true → is_busy p ≡ false
done-is p e = rw (phase_done p e) refl

-- Which handles can be reaped, after requests came or went, and after a handle's notes were looked at again

-- notes by another test that gives the same
pub noted-same : (test other : Handle → Bool) (handles : List Handle)
    → AllByRecursion (λ h. other h ≡ test h) handles → noted_handles other handles ≡ noted_handles test handles
noted-same test other handles same = search (rules, map_same, all_weaker)

-- where as many are out, the same handles can be reaped
pub ready-same : (v : HandlesView) (xs ys : List Trip) → ((c : ℕ) → out_through ys c ≡ out_through xs c)
    → v.ready ≡ noted_handles (can_be_reaped xs) v.handles → v.ready ≡ noted_handles (can_be_reaped ys) v.handles
ready-same v xs ys same ready = search (rules, same)

-- where only the requests through a consumer differ, whose handles aren't dead
pub ready-alive : (v : HandlesView) (c : ℕ) (xs ys : List Trip)
    → ((d : ℕ) → d ≢ c → out_through ys d ≡ out_through xs d)
    → AllByRecursion (λ h. names_number h.consumer c ≡ true → h.dead ≡ false) v.handles
    → v.ready ≡ noted_handles (can_be_reaped xs) v.handles → v.ready ≡ noted_handles (can_be_reaped ys) v.handles
ready-alive v c xs ys others alive ready =
    ready
    ∙ sym (noted-same (can_be_reaped xs) (can_be_reaped ys) v.handles
    (all_weaker (λ (h : Handle). names_number h.consumer c ≡ true → h.dead ≡ false)
    (λ h. can_be_reaped ys h ≡ can_be_reaped xs h) (λ h lives. reaped-same c xs ys others h lives) v.handles alive))

-- the consumer that no handle has
pub nobodys-alive : (c : ℕ) (handles : List Handle) → holding_handle handles c ≡ None
    → AllByRecursion (λ h. names_number h.consumer c ≡ true → h.dead ≡ false) handles
nobodys-alive c handles none =
    all_weaker (λ (h : Handle). names_number h.consumer c ≡ false)
    (λ h. names_number h.consumer c ≡ true → h.dead ≡ false)
    (λ h no yes. let never : false ≡ true = sym no ∙ yes in absurd cc) handles
    (none_passes (λ (h : Handle). names_number h.consumer c) handles none)

-- the one handle that has a consumer
pub record IsHolder (v : HandlesView) (c : ℕ) (h : Handle) : Type 0 where
  pub holds : AllByRecursion (λ k. names_number k.consumer c ≡ true → k ≡ h) v.handles
  pub has : h.consumer ≡ Some c
  pub numbered : AllByRecursion (λ k. (k.number == h.number) ≡ true → k ≡ h) v.handles
  pub alone : AllByRecursion (λ k. (k.number == h.number) ≡ false → names_number k.consumer c ≡ false) v.handles

pub holder : (v : HandlesView) (c : ℕ) (h : Handle) → AreNumbers (map (λ (k : Handle). k.number) v.handles) v.next
    → HoldsAlone v.handles c (option_map (λ (k : Handle). k.number) (holding_handle v.handles c))
    → holding_handle v.handles c ≡ Some h → find (λ (k : Handle). k.number == h.number) v.handles ≡ Some h
    → names_number h.consumer c ≡ true → IsHolder v c h
holder v c h numbers alone is found names =
    let r : Around (λ (k : Handle). k.number) h.number h v.handles =
    around (λ (k : Handle). k.number) v.next h.number h v.handles numbers found in
    let mine : AllByRecursion (λ (k : Handle). (k.number == h.number) ≡ true → k ≡ h) v.handles =
    around-all (λ (k : Handle). k.number) h.number h v.handles r (λ k. k ≡ h) refl in
    let at : AllByRecursion (λ (k : Handle). names_number k.consumer c ≡ (k.number == h.number)) v.handles =
    rw (ap (option_map (λ (k : Handle). k.number)) is) at alone in
    record {
      holds =
          all_weaker (λ (k : Handle). ((k.number == h.number) ≡ true → k ≡ h)
          × (names_number k.consumer c ≡ (k.number == h.number)))
          (λ k. names_number k.consumer c ≡ true → k ≡ h)
          (λ k both e. both.0 (sym both.1 ∙ e)) v.handles
          (two_facts (λ (k : Handle). (k.number == h.number) ≡ true → k ≡ h)
          (λ k. names_number k.consumer c ≡ (k.number == h.number)) v.handles mine at);
      has = names_some h.consumer c names;
      numbered = mine;
      alone =
          all_weaker (λ (k : Handle). names_number k.consumer c ≡ (k.number == h.number))
          (λ k. (k.number == h.number) ≡ false → names_number k.consumer c ≡ false)
          (λ k same e. same ∙ e) v.handles at;
    }

-- the notes follow when the handle of a consumer is looked at again, through which another number is out
module _ (v : HandlesView) (t : TopoView Config) (c : ℕ) (ys : List Trip) (before : Handle → Bool)
    (others : AllByRecursion (λ h. names_number h.consumer c ≡ false → can_be_reaped ys h ≡ before h) v.handles)
    (out : value_at t.active c ≡ Some (out_through ys c)) where
  pub refreshed-none : holding_handle v.handles c ≡ None → v.ready ≡ noted_handles before v.handles
      → refreshed v t c ≡ noted_handles (can_be_reaped ys) v.handles
  refreshed-none none ready =
      ap (λ o. renoted v.ready (is_idle_now t c) o) none
      ∙ ready
      ∙ sym (noted-same before (can_be_reaped ys) v.handles
      (all_weaker (λ (h : Handle). (names_number h.consumer c ≡ false → can_be_reaped ys h ≡ before h)
      × (names_number h.consumer c ≡ false)) (λ h. can_be_reaped ys h ≡ before h)
      (λ h both. both.0 both.1) v.handles
      (two_facts (λ (h : Handle). names_number h.consumer c ≡ false → can_be_reaped ys h ≡ before h)
      (λ h. names_number h.consumer c ≡ false) v.handles others
      (none_passes (λ (h : Handle). names_number h.consumer c) v.handles none))))

  pub refreshed-one : (h : Handle) → holding_handle v.handles c ≡ Some h → IsHolder v c h
      → v.ready ≡ noted_handles before v.handles → refreshed v t c ≡ noted_handles (can_be_reaped ys) v.handles
  refreshed-one h is one ready =
      ap (λ o. renoted v.ready (is_idle_now t c) o) is
      ∙ ap (λ rows. with_value rows h.number (h.dead && is_idle_now t c)) ready
      ∙ (notes_follow before v.handles).notes h.number (h.dead && is_idle_now t c)
      ∙ sym (noted-same (λ k. if k.number == h.number then h.dead && is_idle_now t c else before k)
      (can_be_reaped ys) v.handles
      (all_weaker (λ (k : Handle). ((k.number == h.number) ≡ true → k ≡ h)
      × (((k.number == h.number) ≡ false → names_number k.consumer c ≡ false)
      × (names_number k.consumer c ≡ false → can_be_reaped ys k ≡ before k)))
      (λ k. can_be_reaped ys k ≡ (if k.number == h.number then h.dead && is_idle_now t c else before k))
      (λ k facts. by k (k.number == h.number) refl facts.0 facts.1.0 facts.1.1) v.handles
      (two_facts (λ (k : Handle). (k.number == h.number) ≡ true → k ≡ h)
      (λ k. ((k.number == h.number) ≡ false → names_number k.consumer c ≡ false)
      × (names_number k.consumer c ≡ false → can_be_reaped ys k ≡ before k)) v.handles one.numbered
      (two_facts (λ (k : Handle). (k.number == h.number) ≡ false → names_number k.consumer c ≡ false)
      (λ k. names_number k.consumer c ≡ false → can_be_reaped ys k ≡ before k) v.handles one.alone others))))
    where
      mine : can_be_reaped ys h ≡ (h.dead && is_idle_now t c)
      mine = search rules

      by : (k : Handle) (b : Bool) → (k.number == h.number) ≡ b → ((k.number == h.number) ≡ true → k ≡ h)
          → ((k.number == h.number) ≡ false → names_number k.consumer c ≡ false)
          → (names_number k.consumer c ≡ false → can_be_reaped ys k ≡ before k)
          → can_be_reaped ys k ≡ (if k.number == h.number then h.dead && is_idle_now t c else before k)
      by k true e same other kept = rw e (ap (can_be_reaped ys) (same e) ∙ mine)
      by k false e same other kept = rw e (kept (other e))

-- Field by field, after requests changed

-- numbers of which a test says that they differ
pub apart : (m n : ℕ) → (m == n) ≡ false → m ≡ n → ⊥
apart m n e same = let never : true ≡ false = sym (eq-eqb m n same) ∙ e in cc

-- as many are out
pub out-same : (t : TopoView Config) (xs ys : List Trip) → ((c : ℕ) → out_through ys c ≡ out_through xs c)
    → OutAreCounted t xs → OutAreCounted t ys
out-same t xs ys same out = search (rules, same)

-- what is kept of each actor's own requests
pub owns-same : (owns : List OwnBios) (handles : List Handle) (xs ys : List Trip) → SameReads xs ys
    → AreOwn owns handles xs → AreOwn owns handles ys
owns-same owns handles xs ys same own actor =
    if_some_weaker (λ (o : OwnBios). IsOwnCount handles xs actor o.count o.low)
    (λ (o : OwnBios). IsOwnCount handles ys actor o.count o.low)
    (λ o is. same.own handles actor o.count o.low is) (slice_get owns actor) (own actor)

-- with handles that have the same actors for these requests, as many are own
pub owns-alike_at : (owns : List OwnBios) (hs ks : List Handle) (xs : List Trip)
    → ((actor : ℕ) → AllByRecursion (λ (x : Trip). is_own ks actor x ≡ is_own hs actor x) xs)
    → AreOwn owns hs xs → AreOwn owns ks xs
owns-alike_at owns hs ks xs same own actor =
    if_some_weaker (λ (o : OwnBios). IsOwnCount hs xs actor o.count o.low)
    (λ (o : OwnBios). IsOwnCount ks xs actor o.count o.low)
    (λ o is. record {
      count_is = is.count_is ∙ sym (count-same (is_own hs actor) (is_own ks actor) xs (same actor));
      low_is =
          all_weaker
          (λ (x : Trip). (is_own hs actor x ≡ true → o.low ≤ x.number) × (is_own ks actor x ≡ is_own hs actor x))
          (λ x. is_own ks actor x ≡ true → o.low ≤ x.number) (λ x facts e. facts.0 (sym facts.1 ∙ e)) xs
          (two_facts (λ (x : Trip). is_own hs actor x ≡ true → o.low ≤ x.number)
          (λ x. is_own ks actor x ≡ is_own hs actor x) xs is.low_is (same actor));
    }) (slice_get owns actor) (own actor)

-- the seats, where the same is at each disk
pub seats-same : (seats : List DiskSeat) (t : Topology Config) (xs ys : List Trip)
    → ((disk : ℕ) → busy_at t ys disk ≡ busy_at t xs disk) → AreSeats seats t xs → AreSeats seats t ys
seats-same seats t xs ys same are disk = search rules

-- what holds at each place of a list, after the item of one place changed, if there is one
module _ {X : Type 0} (xs ys : List X) (k : ℕ) (change : X → X) (none : slice_get xs k ≡ None → ys ≡ xs)
    (some : (x : X) → slice_get xs k ≡ Some x → ys ≡ slice_set xs k (change x)) (P Q : ℕ → X → Type 0)
    (here : (x : X) → P k x → Q k (change x)) (others : (i : ℕ) (x : X) → (i == k) ≡ false → P i x → Q i x) where
  pub each-slot : ((i : ℕ) → IfSome (slice_get xs i) (P i)) → (i : ℕ) → IfSome (slice_get ys i) (Q i)
  each-slot all i = at (slice_get xs k) refl (i == k) refl
    where
      kept : (i == k) ≡ false → IfSome (slice_get xs i) (Q i)
      kept e = if_some_weaker (P i) (Q i) (λ x. others i x e) (slice_get xs i) (all i)

      at : (o : Option X) → slice_get xs k ≡ o → (b : Bool) → (i == k) ≡ b → IfSome (slice_get ys i) (Q i)
      at None is true e = search rules
      at None is false e = subst (λ zs. IfSome (slice_get zs i) (Q i)) (sym (none is)) (kept e)
      at (Some x) is true e = search (rules, slot-same xs k (change x) x is)
      at (Some x) is false e = search (rules, slot-other xs k i (change x) (apart i k e))

-- the seats, where another is at one disk
pub seats-busy : (seats : List DiskSeat) (t : Topology Config) (xs ys : List Trip) (disk : ℕ) (busy : Option ℕ)
    → ((d : ℕ) → busy_at t ys d ≡ (if d == disk then busy else busy_at t xs d)) → AreSeats seats t xs
    → AreSeats (with_busy_at seats disk busy) t ys
seats-busy seats t xs ys disk busy same are =
    let change : DiskSeat → DiskSeat = λ x. record x { busy = busy } in
    each-slot seats (with_busy_at seats disk busy) disk change (λ e. ap (change_seat change seats disk) e)
    (λ x e. ap (change_seat change seats disk) e) (λ d x. IsSeat t xs d x.geom x.busy)
    (λ d x. IsSeat t ys d x.geom x.busy)
    (λ x old. record {
      geom_is = old.geom_is;
      busy_is = sym (same disk ∙ ap (λ c. if c then busy else busy_at t xs disk) (eq-eqb disk disk refl));
    })
    (λ d x e old. record {
      geom_is = old.geom_is;
      busy_is = old.busy_is ∙ sym (same d ∙ ap (λ c. if c then busy else busy_at t xs d) e);
    }) are

-- the header's disks don't see what is at them
pub disks-busy : (seats : List DiskSeat) (disk : ℕ) (busy : Option ℕ)
    → map disk_of_seat (with_busy_at seats disk busy) ≡ map disk_of_seat seats
disks-busy seats disk busy = on (slice_get seats disk) refl
  where
    on : (o : Option DiskSeat) → slice_get seats disk ≡ o
        → map disk_of_seat (change_seat (λ x. record x { busy = busy }) seats disk o) ≡ map disk_of_seat seats
    on None is = refl
    on (Some seat) is = slot-seen disk_of_seat seats disk (record seat { busy = busy }) seat is refl

-- the first state, with what requests change in the second
abbrev pub with_bios_of : State → State → State
with_bios_of s z = record s {
  topo = record s.topo { active = z.topo.active };
  handles = record s.handles { ready = z.handles.ready };
  traffic = z.traffic;
  read = z.read;
  disks = z.disks;
  own = z.own;
}

-- nothing but what requests change was changed, told by what the new state is
pub rest-is : (s new : State) → {v : State} → new ≡ v → v ≡ with_bios_of s v → new ≡ with_bios_of s new
rest-is s new is so = subst (λ (z : State). z ≡ with_bios_of s z) (sym is) so

-- with other requests, which the other parts don't see, and other seats that have what is at the disks
pub holds-unseen : (s new : State) → new ≡ record s { traffic = new.traffic; disks = new.disks }
    → SameReads (trips s.traffic.bios) (trips new.traffic.bios)
    → AreSeats new.disks.items s.topo.topology (trips new.traffic.bios)
    → Holds s → Holds new
holds-unseen s new is same seats h =
    search (
      rules,
      out-same s.topo (trips s.traffic.bios) (trips new.traffic.bios) same.out h.active,
      ready-same s.handles (trips s.traffic.bios) (trips new.traffic.bios) same.out h.ready,
      owns-same s.own.items s.handles.handles (trips s.traffic.bios) (trips new.traffic.bios) same h.own,
    )

-- Requests that went on: bounced, sent, taken by a seat or answered by their disk

-- a request goes on in a way that the other parts don't see
pub holds-turned : (s new : State) (next b : ℕ) (test : Phase → Bool) (change : BioOf Held → BioOf Held)
    → AreNumbers (map (λ (x : BioOf Held). x.number) s.traffic.bios) next
    → IsTrue (has_phase test s.traffic.bios b)
    → ((x : BioOf Held) → test x.phase ≡ true → trip_of (change x) ≡ trip_of x)
    → new ≡ record s { traffic = new.traffic } → new.traffic.bios ≡ change_number b change s.traffic.bios
    → Holds s → Holds new
holds-turned s new next b test change are has same is bios h =
    let at : InPhase test s.traffic.bios b = in-phase test s.traffic.bios next b are has in
    search (
      rules,
      ap trips bios,
      trips-same b change s.traffic.bios
          (around-all (λ (x : BioOf Held). x.number) b at.bio s.traffic.bios at.alone
          (λ x. trip_of (change x) ≡ trip_of x) (same at.bio at.passes)),
      is,
    )

-- a trip shows of a phase only whether it is done and whether it is busy
pub trip-unseen : (x : BioOf Held) → (is_done x.phase ≡ false) × (is_busy x.phase ≡ false)
    → (let z : Trip = record (trip_of x) { done = false; busy = false } in z) ≡ trip_of x
trip-unseen x p = search rules

-- a bounce
pub bounce-unseen : (e : Errno) (x : BioOf Held) → is_down x.phase ≡ true
    → trip_of (up_with (held.Failed e) x) ≡ trip_of x
bounce-unseen e x down = trip-unseen x (down-is x.phase down)

-- a bio that is sent to its disk
pub send-unseen : (x : BioOf Held) → is_down x.phase ≡ true → trip_of (with_phase phases.Sent x) ≡ trip_of x
send-unseen x down = trip-unseen x (down-is x.phase down)

-- a bio that is taken
taken-seen : (seat : ℕ) (x : BioOf Held) → is_sent x.phase ≡ true
    → trip_of (with_phase (phases.Busy seat) x) ≡ (let z : Trip = record (trip_of x) { busy = true } in z)
taken-seen seat x sent = search rules

-- the bio that it is once it is answered
abbrev pub Answers : (BioOf Held → BioOf Held) → Type 0
Answers f =
    (x : BioOf Held) → is_busy x.phase ≡ true
    → trip_of (f x) ≡ (let z : Trip = record (trip_of x) { busy = false } in z)

-- a bio that is answered by what stands at a place of the log
pub delivered-seen : (place : ℕ) (errno : Option Errno) → Answers (delivered place errno)
delivered-seen place errno x busy = search rules

-- and one that holds the answer itself
pub ended-seen : (held : Held) → Answers (up_with held)
ended-seen held x busy = search rules

module _ (s new : State) (v : BioTableView) (next b disk : ℕ)
    (are : AreNumbers (map (λ (x : BioOf Held). x.number) s.traffic.bios) next)
    (goes : GoesTo s b disk) (set : new ≡ record s { traffic = v; disks = new.disks }) (h : Holds s) where
  -- the requests are those of the table
  from_table : new.traffic ≡ v
  from_table = ap (λ (z : State). z.traffic) set

  -- and the other parts stay
  is : new ≡ record s { traffic = new.traffic; disks = new.disks }
  is = search rules

  -- where the bio goes
  there : (test : Phase → Bool) → (at : InPhase test s.traffic.bios b)
      → disk_at s.topo.topology (trip_of at.bio).target ≡ Some disk
  there test at = search rules

  -- it is taken
  pub holds-taken : (seat : ℕ) → IsTrue (has_phase is_sent s.traffic.bios b) → IsFree s disk
      → v ≡ record s.traffic { bios = change_number b (with_phase (phases.Busy seat)) s.traffic.bios }
      → new.disks.items ≡ with_busy_at s.disks.items disk (Some b) → Holds new
  holds-taken seat sent free turned disks =
      let at : InPhase is_sent s.traffic.bios b = in-phase is_sent s.traffic.bios next b are sent in
      let xs : List Trip = trips s.traffic.bios in
      search (
        rules,
        trips-changed b (with_phase (phases.Busy seat)) (λ z. record z { busy = true }) s.traffic.bios
            (around-all (λ (x : BioOf Held). x.number) b at.bio s.traffic.bios at.alone
            (λ x. trip_of (with_phase (phases.Busy seat) x) ≡ (let z : Trip = record (trip_of x) { busy = true } in z))
            (taken-seen seat at.bio at.passes)),
        nothing (slice_get s.disks.items disk),
        eqb-true at.bio.number b at.alone.here,
        holds-unseen s new is,
        is,
        reads-changed (λ (z : Trip). z.number == b) (λ z. record z { busy = true }) (λ z. refl) (λ z. refl) (λ z. refl)
            (λ z. refl) xs,
        seats-busy s.disks.items s.topo.topology xs,
        Some b,
        busy-taken s.topo.topology disk b (trip_of at.bio) xs (trips-around b at.bio s.traffic.bios at.alone)
            (there is_sent at),
        trips-around b at.bio s.traffic.bios at.alone,
      )
    where
      nothing : (o : Option DiskSeat) → slice_get s.disks.items disk ≡ o → IsSomeAnd o (λ seat. seat.busy ≡ None)
          → busy_at s.topo.topology (trips s.traffic.bios) disk ≡ None
      nothing None e never = absurd never
      nothing (Some seat) e idle = search rules

  -- its disk has answered
  pub holds-answered : (f : BioOf Held → BioOf Held) → Answers f → IsTrue (has_phase is_busy s.traffic.bios b)
      → IsAloneAt s b disk → v ≡ record s.traffic { bios = change_number b f s.traffic.bios }
      → new.disks.items ≡ with_busy_at s.disks.items disk None → Holds new
  holds-answered f answers busy alone turned disks =
      let at : InPhase is_busy s.traffic.bios b = in-phase is_busy s.traffic.bios next b are busy in
      let xs : List Trip = trips s.traffic.bios in
      let ys : List Trip = change_where (λ (z : Trip). z.number == b) (λ z. record z { busy = false }) xs in
      let seen : trips new.traffic.bios ≡ ys =
      ap (λ (w : BioTableView). trips w.bios) (from_table ∙ turned)
      ∙ trips-changed b f (λ z. record z { busy = false }) s.traffic.bios
      (around-all (λ (x : BioOf Held). x.number) b at.bio s.traffic.bios at.alone
      (λ x. trip_of (f x) ≡ (let z : Trip = record (trip_of x) { busy = false } in z))
      (answers at.bio at.passes)) in
      holds-unseen s new is
      (rw seen
      (reads-changed (λ (z : Trip). z.number == b) (λ z. record z { busy = false }) (λ z. refl) (λ z. refl)
      (λ z. refl) (λ z. refl) xs))
      (rw (disks, seen)
      (seats-busy s.disks.items s.topo.topology xs ys disk None
      (λ d. busy-freed s.topo.topology disk b (trip_of at.bio) xs (trips-around b at.bio s.traffic.bios at.alone)
      (there is_busy at) alone d) h.seats))
      h

  -- nothing but requests changed, and the header's disks stayed
  pub only-taken : (busy : Option ℕ) → new.disks.items ≡ with_busy_at s.disks.items disk busy → OnlyBios s new
  only-taken busy disks = search (rules, disks-busy s.disks.items disk busy)
