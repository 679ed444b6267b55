-- The walk that marks the consumers above a provider that have to go, and one step of it and of a growth in a mesh.
use Rattle.std.specs.Prelude.{◌≡◌, ℕ, ◌+◌, ◌≤◌, ◌==◌, nat_le, Bool, true, false, ◌&&◌, List, [], ◌∷◌, map, find, Some, Contains, if◌then◌else◌, not, ◌||◌, filter, unwrap_or}
use Rattle.std.proofs.Common.{refl, sym, ap, ◌∙◌, subst, inl, inr, rules}
use Rattle.std.proofs.lemmas.Bool.{eq-eqb, le-leb}
use Rattle.std.proofs.lemmas.Simd.{map-map}
use Rattle.geo_model.specs.Words.{change_where, is_kind, names_number}
use Rattle.geo_model.specs.Topology.{Consumer, Topology, geom_at, consumer_at, attached_to, set_marks}
use Rattle.geo_model.specs.Graph.{AreNumbers}
use Rattle.geo_model.proofs.DemandLemmas.{map_same}
use Rattle.geo_laws_graph.specs.LookupLaws.{left_from}
use Rattle.geo_laws_graph.proofs.Lists.{unhit}
use Rattle.geo_laws_graph.proofs.Members.{All-from_contained, at_contained, Contains-filter, filter-Contains, Contains-cases}
use Rattle.geo_laws_graph.proofs.Numbered.{unique, number_found}
use Rattle.std.specs.Option.{option_map_or}
use Rattle.geo_base.specs.declared.request.Counts.{Counts}
use Rattle.geo_base.specs.declared.kind.Kind.TheVariants as kinds
use Rattle.geo_model.specs.Demand.{no_counts, want, is_zero}
use Rattle.geo_model.specs.Events.{is_to_spoil, mark_spoiled, QueuedTopology, wither, outgrow_consumer}
use Rattle.geo_slots.specs.Slots.{value_at}
use Rattle.geo_mesh.specs.declared.records.ConsRec.{ConsRec}
use Rattle.geo_mesh.specs.Cells.{consumer_seen}
use Rattle.geo_mesh.specs.Topo.{TopoView, with_topology}
use Rattle.geo_mesh.specs.Graph.{IsSoundGraph}
use Rattle.geo_laws_counts.specs.CountWords.{seen_by_counts}
use Rattle.geo_laws_counts.proofs.SeenCounts.{seen_stays}
use Rattle.geo_access.specs.Views.{IsNextConsumer, want_at}
use Rattle.geo_access.proofs.Decided.{item_at}
use Rattle.geo_life.specs.Life.{consumers_above, IsDevMade, AreStored, queued}
use Rattle.geo_life.proofs.Uppers.{goes_above}
use Rattle.geo_life.proofs.Unseen.{unseen_stays, seen_marks}
use Rattle.geo_life.proofs.Rest.{mesh_self}
use Rattle.geo_event.specs.EventQueue.{Queued}

-- a consumer with its mark
abbrev pub marked : Consumer → Consumer
marked c = record c { spoiled = true }

-- whether a consumer that passes is still to mark, from a number on
abbrev pub still : (Consumer → Bool) → ℕ → Consumer → Bool
still test from_number c = test c && nat_le from_number c.number

-- two tests that agree on a list change the same
change_same : (f g : Consumer → Bool) (xs : List Consumer) → ((c : Consumer) → Contains xs c → f c ≡ g c)
    → change_where f marked xs ≡ change_where g marked xs
change_same f g xs same =
    map_same (λ c. if f c then marked c else c) (λ c. if g c then marked c else c) xs
    (All-from_contained
    (λ c. (if f c then marked c else c) ≡ (if g c then marked c else c)) xs
    (λ c there. ap (λ b. if b then marked c else c) (same c there)))

module _ (test : Consumer → Bool)
    (stable : (c : Consumer) → test (marked c) ≡ test c) (xs ys : List Consumer)
    (inside : (c : Consumer) → Contains xs c → test c ≡ true → Contains ys c) where
  -- those of the list that are looked at, from a number on: all that pass are among them
  abbrev users : ℕ → List Consumer
  users from_number = left_from (λ (c : Consumer). c.number) from_number ys

  -- a consumer that passes is among those that are left, or is passed
  is_left : (from_number : ℕ) (c : Consumer) → Contains xs c → test c ≡ true → nat_le from_number c.number ≡ true
      → Contains (users from_number) c
  is_left from_number c there passes later =
      Contains-filter (λ (x : Consumer). nat_le from_number x.number) ys c (inside c there passes) later

  -- a consumer other than the next one is to mark just as before
  still_same : (from_number n : ℕ) (x : Consumer) → users from_number ≡ x ∷ users (n + 1) → from_number ≤ n
      → (c : Consumer) → Contains xs c → (x ≡ c → test c ≡ false)
      → still test (n + 1) c ≡ still test from_number c
  still_same from_number n x left past c there but = by (test c) (nat_le from_number c.number) refl refl
    where
      by : (a b : Bool) → test c ≡ a → nat_le from_number c.number ≡ b
          → still test (n + 1) c ≡ still test from_number c
      by false b passes later = rw passes refl
      by true false passes later = search rules
      by true true passes later =
          elim (Contains-cases x c (users (n + 1))
          (subst (λ ys. Contains ys c) left (is_left from_number c there passes later))) [
            | inl same ↦ let no : true ≡ false = sym passes ∙ but same in absurd (cc)
            | inr behind ↦
                search (rules, filter-Contains (λ (y : Consumer). nat_le (n + 1) y.number) ys c behind)
          ]

  -- a consumer that doesn't pass is passed over
  pub mark_pass : (from_number n : ℕ) (x : Consumer) → users from_number ≡ x ∷ users (n + 1) → from_number ≤ n
      → test x ≡ false
      → change_where (still test (n + 1)) marked xs ≡ change_where (still test from_number) marked xs
  mark_pass from_number n x left past stays =
      change_same (still test (n + 1)) (still test from_number) xs
      (λ c there. still_same from_number n x left past c there (λ same. subst (λ y. test y ≡ false) same stays))

  -- one that passes is marked
  pub mark_one : (from_number n next : ℕ) (x : Consumer) → users from_number ≡ x ∷ users (n + 1) → from_number ≤ n
      → test x ≡ true
      → AreNumbers (map (λ (c : Consumer). c.number) xs) next → find (λ (c : Consumer). c.number == n) xs ≡ Some x
      → change_where (still test (n + 1)) marked (change_where (λ c. c.number == n) marked xs)
      ≡ change_where (still test from_number) marked xs
  mark_one from_number n next x left past goes order found =
      map-map (λ c. if still test (n + 1) c then marked c else c) (λ c. if c.number == n then marked c else c) xs
      ∙ map_same
      (λ c. if still test (n + 1) (once c) then marked (once c) else once c)
      (λ c. if still test from_number c then marked c else c) xs
      (All-from_contained
      (λ c. (if still test (n + 1) (once c) then marked (once c) else once c)
      ≡ (if still test from_number c then marked c else c)) xs (λ c there. by c there (c.number == n) refl))
    where
      -- a consumer once the next one is marked
      once : Consumer → Consumer
      once c = if c.number == n then marked c else c

      by : (c : Consumer) → Contains xs c → (b : Bool) → (c.number == n) ≡ b
          → (if still test (n + 1) (once c) then marked (once c) else once c)
          ≡ (if still test from_number c then marked c else c)
      by c there true e =
          search (
            rules,
            at_contained (λ (y : Consumer). (y.number == n) ≡ true → y ≡ x) xs c
                (unique (λ (y : Consumer). y.number) next n xs x order found) there e,
            le-leb from_number c.number,
          )
      by c there false e =
          search (
            rules,
            still_same from_number n x left past c there
                (λ same. let number : (c.number == n) ≡ true = subst (λ (y : Consumer). (y.number == n) ≡ true) same
                (eq-eqb x.number n (number_found (λ (y : Consumer). y.number) xs n x found)) in absurd (cc)),
          )

  -- at the end none is to mark
  pub mark_end : (from_number : ℕ) → users from_number ≡ [] → change_where (still test from_number) marked xs ≡ xs
  mark_end from_number none =
      search (rules, unhit (still test from_number) marked xs, All-from_contained, is_left from_number)

-- One step, in a mesh

-- the counts that are stored for a consumer
pub stored_now : {C : Type 0} (granted : ℕ → Counts) (t : TopoView C) → AreStored granted t → (n : ℕ) (x : Consumer)
    → consumer_at t.topology n ≡ Some x
    → want_at t n ≡ want granted t.topology x
stored_now granted t stored n x found =
    ap (λ rows. unwrap_or (value_at rows n) no_counts) stored
    ∙ ap (λ o. unwrap_or o no_counts)
    (item_at (λ (c : Consumer). c.number) (want granted t.topology) n t.topology.consumers x found)

-- grants whose counts are stored are those still, after a change that counts don't see
pub stored_still : {C : Type 0} (granted : ℕ → Counts) (t now : TopoView C) → now ≡ with_topology t now.topology
    → seen_by_counts now.topology ≡ seen_by_counts t.topology → AreStored granted t → AreStored granted now
stored_still granted t now mesh same stored = search (rules, unseen_stays t now.topology same)

-- so are the counts themselves
pub stored_want : {C : Type 0} (granted : ℕ → Counts) (t now : TopoView C) → now ≡ with_topology t now.topology
    → seen_by_counts now.topology ≡ seen_by_counts t.topology → AreStored granted t → (n : ℕ) (x : Consumer)
    → consumer_at now.topology n ≡ Some x
    → want_at now n ≡ want granted t.topology x
stored_want granted t now mesh same stored n x found =
    stored_now granted now (stored_still granted t now mesh same stored) n x found
    ∙ (seen_stays granted t.topology now.topology (sym same)).wants x tt

-- the next consumer of a walk over those above a provider is attached to it
pub next_attached : {C : Type 0} (t : Topology C) (p from_number n : ℕ) (x : ConsRec)
    → IsNextConsumer t (consumers_above t p) from_number n x → names_number x.prov p ≡ true
next_attached t p from_number n x next =
    search (
      rules,
      filter-Contains (λ (c : Consumer). nat_le from_number c.number) (consumers_above t p) (consumer_seen n x),
      filter-Contains (λ (c : Consumer). not (c.geom == 1)) (attached_to t p) (consumer_seen n x),
      filter-Contains (λ (c : Consumer). names_number c.provider p) t.consumers (consumer_seen n x),
    )

module _ {C : Type 0} (granted : ℕ → Counts) (t : TopoView C) (p : ℕ) (stored : AreStored granted t)
    (whole : IsSoundGraph t.topology) (made : IsDevMade t.topology) where
  -- whether a consumer has to go
  abbrev goes : Consumer → Bool
  goes = is_to_spoil granted t.topology p

  at : (c : Consumer) → goes c ≡ true → names_number c.provider p ≡ true
  at c e = search rules

  -- those that have to go are above the provider
  inside : (xs : List Consumer) (c : Consumer) → Contains xs c → goes c ≡ true
      → Contains (filter (λ x. not (x.geom == 1)) (filter (λ x. names_number x.provider p) xs)) c
  inside xs c there e =
      Contains-filter (λ (x : Consumer). not (x.geom == 1)) (filter (λ x. names_number x.provider p) xs) c
      (Contains-filter (λ (x : Consumer). names_number x.provider p) xs c there (at c e))
      (goes_above granted t.topology p whole made c e)

  -- at the beginning
  pub marks_begin : set_marks t.topology (still goes 0) true ≡ mark_spoiled granted t.topology p
  marks_begin = search rules

  module _ (now : TopoView C)
      (mesh : now ≡ with_topology t (record t.topology { consumers = now.topology.consumers }))
      (same : seen_by_counts now.topology ≡ seen_by_counts t.topology)
      (sound : IsSoundGraph now.topology)
      (from_number n : ℕ) (x : ConsRec)
      (next : IsNextConsumer now.topology (consumers_above now.topology p) from_number n x)
      (its : want_at now n ≡ x.want) where
    -- what the code asks of the next consumer
    abbrev asked : Bool
    asked =
        (x.want.w == 0)
        && option_map_or (λ g. g.automatic || is_kind g.kind kinds.Taste) (geom_at now.topology x.geom) false

    -- is whether it has to go
    goes_is : goes (consumer_seen n x) ≡ asked
    goes_is =
        search (
          rules,
          next_attached now.topology p from_number n x next,
          stored_want granted t now (mesh_self t now (record t.topology { consumers = now.topology.consumers }) mesh)
              same stored n (consumer_seen n x) next.lives,
          ap
              (λ (v : TopoView C). (x.want.w == 0) && option_map_or (λ g. g.automatic || is_kind g.kind kinds.Taste)
              (geom_at v.topology x.geom) false) (sym mesh),
        )

    -- one that stays is passed over
    pub marks_pass : asked ≡ false
        → set_marks now.topology (still goes (n + 1)) true ≡ set_marks now.topology (still goes from_number) true
    marks_pass stays =
        ap (λ cs. record now.topology { consumers = cs })
        (mark_pass goes (λ c. refl) now.topology.consumers (consumers_above now.topology p)
        (inside now.topology.consumers) from_number n (consumer_seen n x) next.left next.past (goes_is ∙ stays))

    -- one that has to go is marked
    pub marks_one : asked ≡ true
        → set_marks (set_marks now.topology (λ c. c.number == n) true) (still goes (n + 1)) true
        ≡ set_marks now.topology (still goes from_number) true
    marks_one must =
        ap (λ cs. record now.topology { consumers = cs })
        (mark_one goes (λ c. refl) now.topology.consumers (consumers_above now.topology p)
        (inside now.topology.consumers) from_number n now.topology.next_consumer (consumer_seen n x)
        next.left next.past (goes_is ∙ must) sound.orderly.order.consumers next.lives)

    -- either way
    pub marks_step : (u : Topology C)
        → u ≡ (if asked then set_marks now.topology (λ c. c.number == n) true else now.topology)
        → set_marks u (still goes (n + 1)) true ≡ set_marks now.topology (still goes from_number) true
    marks_step u is = search (rules, marks_one, marks_pass)

  -- at the end
  pub marks_end : (u : Topology C) (from_number : ℕ)
      → left_from (λ (c : Consumer). c.number) from_number (consumers_above u p) ≡ []
      → set_marks u (still goes from_number) true ≡ u
  marks_end u from_number none =
      search (rules, mark_end goes (λ c. refl) u.consumers (consumers_above u p) (inside u.consumers) from_number none)

-- a mark changes consumers alone
pub mark_mesh : {C : Type 0} (t now new : TopoView C) (b : Bool) (n : ℕ)
    → now ≡ with_topology t (record t.topology { consumers = now.topology.consumers })
    → new ≡ with_topology now (if b then set_marks now.topology (λ c. c.number == n) true else now.topology)
    → new ≡ with_topology t (record t.topology { consumers = new.topology.consumers })
mark_mesh {C} t now new b n before is = by b is
  where
    from : (cs : List Consumer) → new ≡ with_topology now (record now.topology { consumers = cs })
        → new ≡ with_topology t (record t.topology { consumers = new.topology.consumers })
    from cs same = search rules

    by : (c : Bool)
        → new ≡ with_topology now (if c then set_marks now.topology (λ x. x.number == n) true else now.topology)
        → new ≡ with_topology t (record t.topology { consumers = new.topology.consumers })
    by true same = from (set_marks now.topology (λ x. x.number == n) true).consumers same
    by false same = from now.topology.consumers same

-- and isn't seen by counts
pub mark_unseen : {C : Type 0} (now new : TopoView C) (b : Bool) (n : ℕ)
    → new ≡ with_topology now (if b then set_marks now.topology (λ c. c.number == n) true else now.topology)
    → seen_by_counts new.topology ≡ seen_by_counts now.topology
mark_unseen {C} now new true n is = search (rules, seen_marks now.topology (λ c. c.number == n) true)
mark_unseen {C} now new false n is = ap (λ (v : TopoView C). seen_by_counts v.topology) is

-- A growth

-- what was done by the stored counts is what the model does
pub outgrow_is : {C : Type 0} (granted : ℕ → Counts) (now : TopoView C) (queue : Queued) (new : QueuedTopology C)
    (x : Consumer) (w : Counts)
    → AreStored granted now → consumer_at now.topology x.number ≡ Some x → want_at now x.number ≡ w
    → new
    ≡ (if is_zero w && option_map_or (λ g. g.automatic && not g.withering) (geom_at now.topology x.geom) false
    then wither (queued now queue) x.geom else queued now queue)
    → new ≡ outgrow_consumer granted (queued now queue) x
outgrow_is granted now queue new x w stored found its is =
    search (rules, stored_now granted now stored x.number x found)
