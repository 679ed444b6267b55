-- All is kept after handles were opened, closed and reaped.
use Rattle.std.specs.Prelude.{◌≡◌, ℕ, ◌+◌, ◌==◌, Bool, true, false, not, List, [], ◌∷◌, ◌++◌, map, find, count_by, Option, Some, None, if◌then◌else◌, ◌≢◌, length, IsSome, IsSomeAnd}
use Rattle.std.specs.List.{AllByRecursion}
use Rattle.std.specs.Option.{option_map_or}
use Rattle.std.proofs.Common.{refl, sym, ◌∙◌, ap, arith, eq-eqb, subst, rules}
use Rattle.std.proofs.Math.Bool.{and-false}
use Rattle.std.proofs.lemmas.Bool.{eqb-true, ne_eqb, not-false}
use Rattle.geo_base.proofs.FindLists.{none_passes}
use Rattle.geo_base.proofs.AllLists.{all_appended, all_weaker, two_facts, of_each}
use Rattle.geo_model.specs.Graph.{AreNumbers}
use Rattle.geo_model.specs.Words.{names_number}
use Rattle.geo_model.specs.Demand.{no_counts}
use Rattle.geo_model.specs.Opens.{with_grant}
use Rattle.geo_model.specs.World.{Handle, Taste, is_of_handle, taste_grant, granted_of, Config}
use Rattle.geo_slots.specs.Slots.{with_value, value_at, without}
use Rattle.geo_handles.specs.Handles.{handle_at, released, closed, HandlesView}
use Rattle.geo_handles.specs.HandleLaws.{noted_handles}
use Rattle.geo_handles.proofs.HandleLawLemmas.{notes_follow}
use Rattle.geo_laws_graph.proofs.Lists.{found_fresh, numbers-push, numbers-kept, numbers-changed}
use Rattle.geo_state.specs.Trips.{Trip, can_be_reaped, is_own, trips, out_through}
use Rattle.geo_state.specs.Holds.{AreOwn, Holds, OutAreCounted, ReapableAreNoted}
use Rattle.geo_state.proofs.Lists.{Around, around, around-all, count-append, counts, find-before, find-kept_by, find-past, find-none, found-changed, around-with}
use Rattle.geo_state.proofs.TripLemmas.{none-counted}
use Rattle.geo_state.proofs.GrantLaws.{grant-at, granted-after}
use Rattle.std.proofs.lemmas.List.{map-append}
use Rattle.geo_base.specs.declared.request.Counts.{Counts}
use Rattle.geo_model.specs.Topology.{Topology, Consumer, consumer_at}
use Rattle.geo_model.specs.Bios.{disk_at}
use Rattle.geo_event.specs.EventQueue.{Queued}
use Rattle.geo_mesh.specs.Topo.{TopoView}
use Rattle.geo_laws_counts.specs.CountWords.{HoldsGrants}
use Rattle.geo_access.specs.Access.{granted_by, granted_view}
use Rattle.geo_access.proofs.Gone.{refused_consumers_go}
use Rattle.geo_state.specs.declared.state.State.{State}
use Rattle.geo_state.specs.Parts.{SameParts, DisksStay, disk_row, owner_row}
use Rattle.geo_state.specs.Changes.{Effects, IsSettled, HasGoer, with_consumer_at, coming, KeptAfterOpen, KeptAfterRefusal, KeptAfterClose, KeptAfterForget, KeptAfterReap, KeptWithHandles}
use Rattle.geo_state.proofs.Frames.{parts-geom, parts-disk, parts-count}
use Rattle.geo_state.proofs.Fields.{owns-alike_at}
use Rattle.geo_state.proofs.Rises.{active-at}
use Rattle.geo_state.proofs.LawLemmas.{fields_follow, rows_out, seats-stay}
use Rattle.geo_state.proofs.FirmLemmas.{under-way, holders, consumer-numbers, none-out, none-of, idle-of}
use Rattle.geo_state.proofs.HolderFacts.{IsHeld, held, dev-holds}

-- What is kept of handles, after one came, one is closed, and one is reaped

-- One came

module _ (hs : List Handle) (h : Handle) where
  -- no request is of it, so no other is anybody's own
  pub came-own : (xs : List Trip) → AllByRecursion (λ (x : Trip). is_of_handle x.owner h.number ≡ false) xs
      → (actor : ℕ) → AllByRecursion (λ (x : Trip). is_own (hs ++ h ∷ []) actor x ≡ is_own hs actor x) xs
  came-own xs none actor =
      all_weaker (λ (x : Trip). is_of_handle x.owner h.number ≡ false)
      (λ x. is_own (hs ++ h ∷ []) actor x ≡ is_own hs actor x)
      (λ x no. ap (λ o. option_map_or (λ (k : Handle). k.actor == actor) o false)
      (find-before (λ (k : Handle). is_of_handle x.owner k.number) hs (h ∷ []) (no, tt))) xs none

  -- its consumer has its grant, and the others have theirs
  pub came-granted : (taste : Option Taste) (n : ℕ) → h.consumer ≡ Some n
      → find (λ (k : Handle). names_number k.consumer n) hs ≡ None → (d : ℕ)
      → granted_of (hs ++ h ∷ []) taste d ≡ with_grant (granted_of hs taste) n h.grant d
  came-granted taste n has nobodys d =
      search (
        rules,
        find-past,
        none_passes,
        eq-eqb n d,
        grant-at (granted_of hs taste) n h.grant d,
        find-before,
        ne_eqb n d,
        eq-eqb d n,
      )

-- One is closed

module _ (hs : List Handle) (n : ℕ) where
  -- no request is of it
  pub gone-own : (xs : List Trip) → AllByRecursion (λ (x : Trip). is_of_handle x.owner n ≡ false) xs
      → (actor : ℕ) → AllByRecursion (λ (x : Trip). is_own (closed hs n) actor x ≡ is_own hs actor x) xs
  gone-own xs none actor =
      all_weaker (λ (x : Trip). is_of_handle x.owner n ≡ false)
      (λ x. is_own (closed hs n) actor x ≡ is_own hs actor x)
      (λ x no. ap (λ o. option_map_or (λ (k : Handle). k.actor == actor) o false)
      (find-kept_by (λ (k : Handle). is_of_handle x.owner k.number) (λ k. not (k.number == n)) hs
      (of_each (λ (k : Handle). not (k.number == n) ≡ false → is_of_handle x.owner k.number ≡ false)
      (λ k e. ap (is_of_handle x.owner) (eqb-true k.number n (not-false (k.number == n) e)) ∙ no) hs))) xs none

  -- one without a consumer: the grants are the same
  pub forgotten-granted : (taste : Option Taste) (next : ℕ) (h : Handle)
      → AreNumbers (map (λ (k : Handle). k.number) hs) next → handle_at hs n ≡ Some h → h.consumer ≡ None → (d : ℕ)
      → granted_of (closed hs n) taste d ≡ granted_of hs taste d
  forgotten-granted taste next h numbers found none d =
      ap (λ o. option_map_or (λ (k : Handle). k.grant) o (taste_grant taste d))
      (find-kept_by (λ (k : Handle). names_number k.consumer d) (λ k. not (k.number == n)) hs
      (all_weaker (λ (k : Handle). (k.number == n) ≡ true → names_number k.consumer d ≡ false)
      (λ k. not (k.number == n) ≡ false → names_number k.consumer d ≡ false)
      (λ k so e. so (not-false (k.number == n) e)) hs
      (around-all (λ (k : Handle). k.number) n h hs (around (λ (k : Handle). k.number) next n h hs numbers found)
      (λ k. names_number k.consumer d ≡ false) (ap (λ o. names_number o d) none))))

-- The one handle that has a consumer

-- where one handle has the consumer, and this one is it
pub record IsOnly (hs : List Handle) (n c : ℕ) (h : Handle) : Type 0 where
  pub has : h.consumer ≡ Some c
  pub mine : AllByRecursion (λ k. (k.number == n) ≡ true → k ≡ h) hs
  pub others : AllByRecursion (λ k. (k.number == n) ≡ false → names_number k.consumer c ≡ false) hs

pub only : (hs : List Handle) (next n c : ℕ) (h : Handle) → AreNumbers (map (λ (k : Handle). k.number) hs) next
    → handle_at hs n ≡ Some h → h.consumer ≡ Some c → count_by (λ (k : Handle). names_number k.consumer c) hs ≡ 1
    → IsOnly hs n c h
only hs next n c h numbers found has one =
    let r : Around (λ (k : Handle). k.number) n h hs = around (λ (k : Handle). k.number) next n h hs numbers found in
    let p : Handle → Bool = λ k. names_number k.consumer c in
    let named : p h ≡ true = ap (λ o. names_number o c) has ∙ eq-eqb c c refl in
    let with_it = around-with (λ (k : Handle). k.number) n h hs r p in
    let it : counts p h ≡ 1 = ap (λ b. if b then 1 else 0) named in
    let split : count_by p (r.front ++ r.back) ≡ count_by p r.front + count_by p r.back =
    count-append p r.front r.back in
    let front : count_by p r.front ≡ 0 = omega (arith, one, with_it, it, split) in
    let rest : count_by p r.back ≡ 0 = omega (arith, one, with_it, it, split) in
    record {
      has = has;
      mine = around-all (λ (k : Handle). k.number) n h hs r (λ k. k ≡ h) refl;
      others =
          rw r.is
          (all_appended (λ k. (k.number == n) ≡ false → names_number k.consumer c ≡ false) r.front (h ∷ r.back)
          (all_weaker (λ (k : Handle). p k ≡ false) (λ k. (k.number == n) ≡ false → names_number k.consumer c ≡ false)
          (λ k no e. no) r.front (none-counted p r.front front)) (
            (λ e. let never : true ≡ false = sym r.here ∙ e in absurd cc),
            all_weaker (λ (k : Handle). p k ≡ false) (λ k. (k.number == n) ≡ false → names_number k.consumer c ≡ false)
                (λ k no e. no) r.back (none-counted p r.back rest),
          ));
    }

module _ (hs : List Handle) (n c : ℕ) (h : Handle) (it : IsOnly hs n c h) where
  -- it alone has the consumer
  named-it : AllByRecursion (λ (k : Handle). names_number k.consumer c ≡ (k.number == n)) hs
  named-it =
      all_weaker (λ (k : Handle). ((k.number == n) ≡ true → k ≡ h)
      × ((k.number == n) ≡ false → names_number k.consumer c ≡ false))
      (λ k. names_number k.consumer c ≡ (k.number == n)) (λ k facts. by k (k.number == n) refl facts.0 facts.1) hs
      (two_facts (λ (k : Handle). (k.number == n) ≡ true → k ≡ h)
      (λ k. (k.number == n) ≡ false → names_number k.consumer c ≡ false) hs it.mine it.others)
    where
      by : (k : Handle) (b : Bool) → (k.number == n) ≡ b → ((k.number == n) ≡ true → k ≡ h)
          → ((k.number == n) ≡ false → names_number k.consumer c ≡ false)
          → names_number k.consumer c ≡ (k.number == n)
      by k true e mine other = search rules
      by k false e mine other = other e ∙ sym e

  -- once it is gone nobody has the consumer
  closed-none : (ks : List Handle) → AllByRecursion (λ (k : Handle). names_number k.consumer c ≡ (k.number == n)) ks
      → find (λ (k : Handle). names_number k.consumer c) (closed ks n) ≡ None
  closed-none [] all = refl
  closed-none (k ∷ ks) all = search (rules, closed-none ks all.1)

  -- another consumer is had by the same
  closed-other : (d : ℕ) → (d == c) ≡ false
      → find (λ (k : Handle). names_number k.consumer d) (closed hs n)
      ≡ find (λ (k : Handle). names_number k.consumer d) hs
  closed-other d other = search (rules, find-kept_by, all_weaker)

  -- the grants after it was closed
  pub closed-granted : (taste : Option Taste) → taste_grant taste c ≡ no_counts → (d : ℕ)
      → granted_of (closed hs n) taste d ≡ with_grant (granted_of hs taste) c no_counts d
  closed-granted taste nothing d = search (rules, closed-none hs named-it, closed-other d)

  -- Reaped

  abbrev reap_one : Handle → Handle
  reap_one k = record k { consumer = None }

  -- its consumer is nobody's
  released-none : (ks : List Handle) → find (λ (k : Handle). names_number k.consumer c) (released ks c) ≡ None
  released-none [] = refl
  released-none (k ∷ ks) = search (rules, released-none ks)

  -- the grants after it was reaped
  pub released-granted : (taste : Option Taste) → taste_grant taste c ≡ no_counts → (d : ℕ)
      → granted_of (released hs c) taste d ≡ with_grant (granted_of hs taste) c no_counts d
  released-granted taste nothing d = by (d == c) refl
    where
      hit : (k : Handle) → names_number k.consumer c ≡ true → (d == c) ≡ false
          → names_number (reap_one k).consumer d ≡ names_number k.consumer d
      hit k named other = search rules

      by : (b : Bool) → (d == c) ≡ b
          → granted_of (released hs c) taste d ≡ with_grant (granted_of hs taste) c no_counts d
      by true e = search (rules, released-none hs)
      by false e =
          found-changed (λ (k : Handle). names_number k.consumer c) reap_one (λ k. names_number k.consumer d)
          (λ o. option_map_or (λ (k : Handle). k.grant) o (taste_grant taste d)) (λ k named. hit k named e)
          (λ k e. refl) hs
          ∙ sym (grant-at (granted_of hs taste) c no_counts d false e)

  -- the notes after it was reaped
  pub released-ready : (xs : List Trip)
      → with_value (noted_handles (can_be_reaped xs) hs) n false ≡ noted_handles (can_be_reaped xs) (released hs c)
  released-ready xs = (notes_follow (can_be_reaped xs) hs).notes n false ∙ rows hs named-it
    where
      none_can : (k : Handle) → can_be_reaped xs (reap_one k) ≡ false
      none_can k = and-false k.dead

      rows : (ks : List Handle)
          → AllByRecursion (λ (k : Handle). names_number k.consumer c ≡ (k.number == n)) ks
          → noted_handles (λ k. if k.number == n then false else can_be_reaped xs k) ks
          ≡ noted_handles (can_be_reaped xs) (released ks c)
      rows [] all = refl
      rows (k ∷ ks) all = search (rules, rows ks all.1)

-- a reaped handle has the actor that it had
pub released-own : (hs : List Handle) (c : ℕ) (actor : ℕ) (x : Trip)
    → is_own (released hs c) actor x ≡ is_own hs actor x
released-own hs c actor x =
    found-changed (λ (k : Handle). names_number k.consumer c) (λ k. record k { consumer = None })
    (λ k. is_of_handle x.owner k.number) (λ o. option_map_or (λ (k : Handle). k.actor == actor) o false)
    (λ k e. refl) (λ k e. refl) hs

-- All is kept

-- Sites: geoms with their disks, and providers with their geoms

pub record SameSites (t u : Topology Config) : Type 0 where
  pub geoms : map disk_row u.geoms ≡ map disk_row t.geoms
  pub providers : map owner_row u.providers ≡ map owner_row t.providers

pub sites-trans : (t u v : Topology Config) → SameSites t u → SameSites u v → SameSites t v
sites-trans t u v first second = search rules

pub sites-self : (t : Topology Config) → SameSites t t
sites-self t = record { geoms = refl; providers = refl }

pub sites-of : (t u : Topology Config) → SameParts t u → SameSites t u
sites-of t u same = record { geoms = same.geoms; providers = same.providers }

-- the parts are the same, but for the consumers
parts_but : (t u : Topology Config) → SameSites t u → SameParts t (record u { consumers = t.consumers })
parts_but t u same = record { geoms = same.geoms; providers = same.providers; consumers = refl }

pub sites-stay : (t u : Topology Config) (xs : List Trip) → SameSites t u → DisksStay t u xs
sites-stay t u xs same = record {
  geoms = parts-geom t (record u { consumers = t.consumers }) (parts_but t u same);
  targets =
      of_each (λ (x : Trip). disk_at u x.target ≡ disk_at t x.target)
      (λ x. parts-disk t (record u { consumers = t.consumers }) (parts_but t u same) x.target) xs;
}

pub sites-count : (t u : Topology Config) → SameSites t u → length u.providers ≡ length t.providers
sites-count t u same = parts-count t (record u { consumers = t.consumers }) (parts_but t u same)

-- All of it

-- with another mesh that has the same sites, another queue, and handles that are told by an equation
pub holds-with : (s : State) (u : TopoView Config) (q : Queued) {v w : HandlesView} → w ≡ v → Holds s → IsSettled u q
    → SameSites s.topo.topology u.topology → AreNumbers (map (λ (h : Handle). h.number) v.handles) v.next
    → ((c : ℕ) → granted_by u c ≡ granted_of v.handles s.taste c)
    → OutAreCounted u (trips s.traffic.bios) → ReapableAreNoted v (trips s.traffic.bios)
    → AreOwn s.own.items v.handles (trips s.traffic.bios) → Holds (record s { topo = u; queue = q; handles = w })
holds-with s u q same h settled sites numbers grants active ready own =
    search (
      rules,
      seats-stay s.disks.items s.topo.topology u.topology (trips s.traffic.bios)
          (sites-stay s.topo.topology u.topology (trips s.traffic.bios) sites) h.seats,
      sites-count s.topo.topology u.topology sites,
    )

-- effects leave the requests out
pub effects-out : (t u : TopoView Config) (xs : List Trip) → Effects t u → OutAreCounted t xs → OutAreCounted u xs
effects-out t u xs e out = search (rules, rows_out xs t.topology.consumers, rows_out xs u.topology.consumers)

-- what was granted, of a handle or of the taste
granted-is : (s : State) → Holds s → (c : ℕ) → granted_by s.topo c ≡ granted_of s.handles.handles s.taste c
granted-is s h c = ap (λ (g : ℕ → Counts). g c) h.grants

-- one grant more, by two functions that agree
grant-same : (f g : ℕ → Counts) (c : ℕ) (add : Counts) (d : ℕ) → (d ≢ c → f d ≡ g d)
    → with_grant f c add d ≡ with_grant g c add d
grant-same f g c add d same = search rules

-- Opened

module _ (t : TopoView Config) (prov : ℕ) (fresh : consumer_at t.topology (coming t) ≡ None)
    (dev : HoldsGrants t.topology 1) where
  abbrev comer : Consumer
  comer = record { number = coming t; geom = 1; provider = Some prov; spoiled = false }

  -- the one that came is found
  comer_found : consumer_at (with_consumer_at t 1 prov).topology (coming t) ≡ Some comer
  comer_found =
      find-past (λ (c : Consumer). c.number == coming t) t.topology.consumers (comer ∷ [])
      (none_passes (λ (c : Consumer). c.number == coming t) t.topology.consumers fresh)
      ∙ ap (λ b. if b then Some comer else None) (eq-eqb (coming t) (coming t) refl)

  comer_kind : IsSomeAnd (consumer_at (with_consumer_at t 1 prov).topology (coming t))
      (λ x. HoldsGrants (with_consumer_at t 1 prov).topology x.geom)
  comer_kind = search (rules, comer_found)

  -- the others hold what they held
  others_hold : (d : ℕ) → d ≢ coming t → granted_by (with_consumer_at t 1 prov) d ≡ granted_by t d
  others_hold d other =
      search (
        rules,
        find-before (λ (c : Consumer). c.number == d) t.topology.consumers (comer ∷ []),
        find-before (λ (row : ℕ × Counts). row.0 == d) t.wants ((coming t, no_counts) ∷ []),
      )

  -- what is granted then
  comer_granted : (grant : Counts) (d : ℕ)
      → granted_by (granted_view (with_consumer_at t 1 prov) (coming t) grant) d
      ≡ with_grant (granted_by t) (coming t) grant d
  comer_granted grant d =
      granted-after (with_consumer_at t 1 prov) (coming t) grant comer_kind d
      ∙ grant-same (granted_by (with_consumer_at t 1 prov)) (granted_by t) (coming t) grant d (others_hold d)

pub kept_after_open : KeptAfterOpen
kept_after_open log s t u q v prov actor name grant h firm came settled opened =
    let n : ℕ = coming s.topo in
    let xs : List Trip = trips s.traffic.bios in
    let hs : List Handle = s.handles.handles in
    let k : Handle = record {
      number = s.handles.next;
      actor = actor;
      name = name;
      consumer = Some n;
      grant = grant;
      dead = false;
    } in
    let fresh : consumer_at s.topo.topology n ≡ None =
    found_fresh (λ (c : Consumer). c.number) n n s.topo.topology.consumers (consumer-numbers log s firm)
    (omega arith) in
    let none_has : find (λ (j : Handle). names_number j.consumer n) hs ≡ None =
    find-none (λ (j : Handle). names_number j.consumer n) hs
    (all_weaker (λ (j : Handle). (c : ℕ) → j.consumer ≡ Some c → IsSome (consumer_at s.topo.topology c))
    (λ j. names_number j.consumer n ≡ false) (λ j lives. nobody s n fresh j lives (names_number j.consumer n) refl) hs
    (holders log s firm)) in
    let none_of : handle_at hs s.handles.next ≡ None =
    found_fresh (λ (j : Handle). j.number) s.handles.next s.handles.next hs h.numbers (omega arith) in
    let way = under-way log s firm in
    let topology : t.topology ≡ (with_consumer_at s.topo 1 prov).topology =
    ap (λ (w : TopoView Config). w.topology) came.comes in
    holds-with s u q opened h settled
    (sites-trans s.topo.topology t.topology u.topology
    (subst (SameSites s.topo.topology) (sym topology) (record { geoms = refl; providers = refl }))
    (sites-of t.topology u.topology came.followed.parts))
    (numbers-push (λ (j : Handle). j.number) s.handles.next hs k refl h.numbers)
    (λ d. came.followed.granted d
    ∙ ap (λ (w : TopoView Config). granted_by w d) came.comes
    ∙ comer_granted s.topo prov fresh (dev-holds log s firm) grant d
    ∙ grant-same (granted_by s.topo) (granted_of hs s.taste) n grant d (λ other. granted-is s h d)
    ∙ sym (came-granted hs k s.taste n refl none_has d))
    (effects-out t u xs came.followed
    ((fields_follow s.topo t xs).comes n
    (record {
      consumers =
          ap (λ (w : Topology Config). map (λ (x : Consumer). x.number) w.consumers) topology
          ∙ map-append (λ (x : Consumer). x.number) s.topo.topology.consumers
          (record { number = n; geom = 1; provider = Some prov; spoiled = false } ∷ []);
      active = ap (λ (w : TopoView Config). w.active) came.comes;
    })
    (none-out s.topo.topology hs xs n fresh way) h.active))
    (ap (λ rows. rows ++ (s.handles.next, false) ∷ []) h.ready ∙ (notes_follow (can_be_reaped xs) hs).opens k refl)
    (owns-alike_at s.own.items hs (hs ++ k ∷ []) xs
    (came-own hs k xs (none-of s.topo.topology hs xs s.handles.next none_of way)) h.own)
  where
    nobody : (s : State) (n : ℕ) → consumer_at s.topo.topology n ≡ None → (j : Handle)
        → ((c : ℕ) → j.consumer ≡ Some c → IsSome (consumer_at s.topo.topology c)) → (b : Bool)
        → names_number j.consumer n ≡ b → names_number j.consumer n ≡ false
    nobody s n fresh j lives false e = e
    nobody s n fresh j lives true e = search rules

-- Refused

pub kept_after_refusal : KeptAfterRefusal
kept_after_refusal s u q v h used events room same =
    search (
      rules,
      holds-with s u q same h,
      refused_consumers_go {C = Config},
      ap (λ (w : TopoView Config). map disk_row w.topology.geoms) used,
      ap (λ (w : TopoView Config). map owner_row w.topology.providers) used,
      granted-is s h,
      ap (λ (w : TopoView Config). w.active) used,
    )

-- Closed and reaped

module _ (s : State) (t f u : TopoView Config) (c : ℕ) (h : Holds s) (is : IsHeld s c) (gone : HasGoer s.topo c t f u)
  where
    -- the sites stay
    goer_sites : SameSites s.topo.topology u.topology
    goer_sites = search rules

    -- nothing is granted to the one that went, and the others hold what they held
    goer_granted : (d : ℕ) → granted_by u d ≡ with_grant (granted_of s.handles.handles s.taste) c no_counts d
    goer_granted d =
        gone.granted d ∙ gone.followed.granted d
        ∙ ap (λ (w : TopoView Config). granted_by w d) gone.released
        ∙ granted-after s.topo c no_counts is.holds d
        ∙ grant-same (granted_by s.topo) (granted_of s.handles.handles s.taste) c no_counts d
        (λ other. granted-is s h d)

    -- as many are out through the others
    goer_out : OutAreCounted u (trips s.traffic.bios)
    goer_out =
        search (
          rules,
          fields_follow f u (trips s.traffic.bios),
          effects-out t f (trips s.traffic.bios) gone.followed
              (subst (λ (w : TopoView Config). OutAreCounted w (trips s.traffic.bios)) (sym gone.released) h.active),
        )

-- what is out through a consumer, by what is kept of it
out-none : (s : State) (c : ℕ) → Holds s → IsHeld s c → value_at s.topo.active c ≡ Some 0
    → out_through (trips s.traffic.bios) c ≡ 0
out-none s c h is idle =
    let lives : IsSome (consumer_at s.topo.topology c) = subst IsSome (sym is.found) refl in
    let e : Some (out_through (trips s.traffic.bios) c) ≡ Some 0 =
    sym (active-at s.topo (trips s.traffic.bios) c h.active lives) ∙ idle in
    cc

-- so it is of a handle whose one consumer it is
idle-only : (s : State) (c : ℕ) (h : Handle) → h.consumer ≡ Some c → out_through (trips s.traffic.bios) c ≡ 0
    → (d : ℕ) → h.consumer ≡ Some d → out_through (trips s.traffic.bios) d ≡ 0
idle-only s c h has none d is = search rules

pub kept_after_close : KeptAfterClose
kept_after_close log s t f u q v k c h firm found has idle gone settled same =
    let n : ℕ = k.number in
    let xs : List Trip = trips s.traffic.bios in
    let hs : List Handle = s.handles.handles in
    let is : IsHeld s c = held log s firm n c k found has in
    let it : IsOnly hs n c k = only hs s.handles.next n c k h.numbers found has is.once in
    holds-with s u q same h settled (goer_sites s t f u c h is gone)
    (numbers-kept (λ (j : Handle). j.number) (λ j. not (j.number == n)) s.handles.next hs h.numbers)
    (λ d. goer_granted s t f u c h is gone d
    ∙ sym (closed-granted hs n c k it s.taste is.untasted d))
    (goer_out s t f u c h is gone)
    (ap (λ rows. without rows n) h.ready ∙ (notes_follow (can_be_reaped xs) hs).closes n)
    (owns-alike_at s.own.items hs (closed hs n) xs
    (gone-own hs n xs
    (idle-of s.topo.topology hs xs n k found (idle-only s c k has (out-none s c h is idle)) (under-way log s firm)))
    h.own)

pub kept_after_forget : KeptAfterForget
kept_after_forget log s v k h firm found none same =
    let n : ℕ = k.number in
    let xs : List Trip = trips s.traffic.bios in
    let hs : List Handle = s.handles.handles in
    holds-with s s.topo s.queue same h (record { counted = h.counted; quiet = h.quiet; room = h.room })
    (sites-self s.topo.topology)
    (numbers-kept (λ (j : Handle). j.number) (λ j. not (j.number == n)) s.handles.next hs h.numbers)
    (λ d. granted-is s h d
    ∙ sym (forgotten-granted hs n s.taste s.handles.next k h.numbers found none d))
    h.active
    (ap (λ rows. without rows n) h.ready ∙ (notes_follow (can_be_reaped xs) hs).closes n)
    (owns-alike_at s.own.items hs (closed hs n) xs
    (gone-own hs n xs
    (idle-of s.topo.topology hs xs n k found
    (λ d is. let never : None ≡ Some d = sym none ∙ is in absurd cc) (under-way log s firm)))
    h.own)

pub kept_after_reap : KeptAfterReap
kept_after_reap log s t f u q v k c h firm found has idle gone settled same =
    let n : ℕ = k.number in
    let xs : List Trip = trips s.traffic.bios in
    let hs : List Handle = s.handles.handles in
    let is : IsHeld s c = held log s firm n c k found has in
    let it : IsOnly hs n c k = only hs s.handles.next n c k h.numbers found has is.once in
    holds-with s u q same h settled (goer_sites s t f u c h is gone)
    (numbers-changed (λ (j : Handle). j.number) (λ j. names_number j.consumer c) (λ j. record j { consumer = None })
    (λ j e. refl) s.handles.next hs h.numbers)
    (λ d. goer_granted s t f u c h is gone d
    ∙ sym (released-granted hs n c k it s.taste is.untasted d))
    (goer_out s t f u c h is gone)
    (ap (λ rows. with_value rows n false) h.ready ∙ released-ready hs n c k it xs)
    (owns-alike_at s.own.items hs (released hs c) xs
    (λ actor. of_each (λ (x : Trip). is_own (released hs c) actor x ≡ is_own hs actor x) (released-own hs c actor) xs)
    h.own)

pub kept_with_handles : KeptWithHandles
kept_with_handles =
    search (rules, kept_after_open, kept_after_refusal, kept_after_close, kept_after_forget, kept_after_reap)
