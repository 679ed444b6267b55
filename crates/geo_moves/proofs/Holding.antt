-- Consumers of DEV that come and go: made and attached, with what they are granted, and released and gone.
use Rattle.std.specs.Prelude.{◌≡◌, ℕ, ◌+◌, ◌≤◌, ◌==◌, Bool, true, false, not, ◌&&◌, cond, List, [], ◌∷◌, length, map, filter, count_by, nat_lt, Option, Some, None, IsSome, IsSomeAnd, IfSome, Contains, ◌++◌, IsTrue, unwrap_or, if◌then◌else◌, option_map}
use Rattle.std.proofs.Common.{refl, sym, ◌∙◌, ap, arith, subst, rules}
use Rattle.std.proofs.lemmas.Bool.{eqb-true, cases_eq, ne_eqb, false_from_ne_true, eq-eqb}
use Rattle.std.proofs.lemmas.List.Sums.{length-filter}
use Rattle.geo_base.specs.declared.request.Counts.{Counts}
use Rattle.geo_model.specs.Topology.{Provider, Topology, Geom, Consumer, geom_at, provider_at, consumer_at, providers_of, is_errored, add_consumer, attach, remove_consumer}
use Rattle.geo_laws_counts.specs.CountWords.{IsAtMost, HoldsGrants, AreAtMost, DemandStays, AnyConsumer}
use Rattle.geo_access.specs.Access.{comes_to_zero, consumers_below, IsCounted, granted_by, clear_scratches, noted, place_of, granted_view, released_view, IsQuiet, IsHolder, holds_grants}
use Rattle.geo_life.specs.Life.{notes, queued, RestStays, AreStored, CountsStay, without_rises, without_falls}
use Rattle.std.specs.List.{list_any}
use Rattle.std.specs.Option.{option_map_or, option_and_then}
use Rattle.std.proofs.lemmas.List.Elements.{All-contains}
use Rattle.std.proofs.lemmas.List.Folds.{list_any_none}
use Rattle.geo_base.proofs.Options.{there_with_fact, some-with, if-with}
use Rattle.geo_access.proofs.Coming.{bare_of}
use Rattle.geo_base.specs.declared.errno.Errno.TheVariants.{ENXIO, ELOOP, EDEEP}
use Rattle.geo_base.specs.declared.kind.Kind.TheVariants as kinds
use Rattle.geo_base.specs.declared.limits.TheConstants.{MAX_RANK}
use Rattle.geo_model.specs.Words.{first_error, is_granted_kind}
use Rattle.geo_model.specs.Rank.{rank, would_loop, is_too_deep, attach_refusal}
use Rattle.geo_model.specs.Opens.{below, has_error_below, grant_refusal, with_opener, with_grant}
use Rattle.geo_slots.specs.Slots.{value_at}
use Rattle.geo_mesh.specs.Topo.{TopoView, with_consumer, without_consumer, with_topology, Room, Scratches, no_scratch}
use Rattle.geo_mesh.specs.Graph.{IsSoundGraph, IsOffer}
use Rattle.geo_laws_graph.specs.LookupLaws.{EachIsFound, new_consumer}
use Rattle.geo_laws_graph.proofs.Members.{at_contained, find-Contains, Has, has}
use Rattle.geo_laws_graph.proofs.Numbered.{any-contained, filter-pushed, at-new, at-others}
use Rattle.geo_laws_graph.proofs.Found.{each-found, added-consumer}
use Rattle.geo_laws_graph.proofs.TwoChanges.{two-changes}
use Rattle.geo_laws_counts.proofs.LimitFacts.{all_of}
use Rattle.geo_laws_graph.proofs.EdgeRanks.{reaches-none}
use Rattle.geo_laws_graph.proofs.Opens.{open-rises, open-other}
use Rattle.geo_laws_counts.proofs.Reach.{below_self}
use Rattle.geo_laws_counts.proofs.Refusing.{allowed, errors_came}
use Rattle.geo_laws_counts.proofs.Openers.{below_came, wants_grant}
use Rattle.geo_access.specs.GoneLaws.{HasUsedNumber}
use Rattle.geo_access.proofs.Gone.{refused_consumers_go}
use Rattle.geo_moves.specs.Holders.{opened_mesh, written, grants_with, HasGone, HasCome}
use Rattle.std.proofs.lemmas.List.{map-append}
use Rattle.geo_model.specs.Demand.{no_counts, have, want, is_exclusive, fits_limit, risen, fallen}
use Rattle.geo_model.specs.Events.{announce_risen, announce_fallen}
use Rattle.geo_model.proofs.DemandLemmas.{map_same, find_passes}
use Rattle.geo_event.specs.EventQueue.{Queued}
use Rattle.geo_mesh.specs.declared.records.Scratch.{Scratch}
use Rattle.geo_laws_counts.proofs.Levels.{have-at_most}
use Rattle.geo_laws_counts.proofs.Quiet.{granted_wants_nothing}
use Rattle.geo_laws_counts.proofs.Stays.{consumer_came}
use Rattle.geo_laws_counts.proofs.Flows.{each_of}
use Rattle.geo_access.proofs.Clearing.{rows-same_on}
use Rattle.geo_access.proofs.Decided.{item_at}
use Rattle.geo_access.proofs.Granting.{Holder, holder_is}
use Rattle.geo_access.proofs.Granted.{numbers_of}
use Rattle.geo_life.proofs.Places.{places_are_few, counts_are_stored}
use Rattle.geo_model.specs.Graph.{IsInOrder}
use Rattle.geo_slots.proofs.RowLemmas.{value_at-other, value_at-last}
use Rattle.geo_laws_graph.proofs.Lists.{found_fresh}
use Rattle.geo_state.proofs.Frames.{under_read}
use Rattle.geo_state.proofs.GrantLaws.{granted-after}

-- How many providers have a write count once some came to zero

module _ (before after : ℕ → Counts) (less : (q : ℕ) → IsAtMost (after q) (before q)) where
  -- the counts of providers
  abbrev pub rows : (ℕ → Counts) → List Provider → List (ℕ × Counts)
  rows f ps = map (λ (p : Provider). (p.number, f p.number)) ps

  -- the notes of those that came to zero
  abbrev pub falls : List Provider → List (ℕ × Bool)
  falls ps = map (λ (p : Provider). (p.number, comes_to_zero (before p.number) (after p.number))) ps

  -- how many have a write count
  abbrev many : List (ℕ × Counts) → ℕ
  many xs = length (filter (λ (row : ℕ × Counts). not (row.1.w == 0)) xs)

  -- 1 for a test that holds
  abbrev one : Bool → ℕ
  one b = cond b 1 0

  -- one provider more
  more_counts_of : (a : Counts) (n : ℕ) (xs : List (ℕ × Counts)) → many ((n, a) ∷ xs) ≡ one (not (a.w == 0)) + many xs
  more_counts_of a n xs = search rules

  more_notes : (b : Bool) (n : ℕ) (xs : List (ℕ × Bool)) → notes ((n, b) ∷ xs) ≡ one b + notes xs
  more_notes true n xs = omega arith
  more_notes false n xs = omega arith

  -- of one provider
  one_less : (a b : Counts) → IsAtMost b a
      → one (not (b.w == 0)) + one (comes_to_zero a b) ≡ one (not (a.w == 0))
  one_less a b small = search rules

  -- of all
  left_all : (ps : List Provider) → many (rows after ps) + notes (falls ps) ≡ many (rows before ps)
  left_all [] = refl
  left_all (p ∷ ps) =
      let rest : many (rows after ps) + notes (falls ps) ≡ many (rows before ps) = left_all ps in
      let a = more_counts_of (after p.number) p.number (rows after ps) in
      let b = more_notes (comes_to_zero (before p.number) (after p.number)) p.number (falls ps) in
      let c = more_counts_of (before p.number) p.number (rows before ps) in
      let d = one_less (before p.number) (after p.number) (less p.number) in
      omega (arith, rest, a, b, c, d)

  -- so of the write counts
  pub places_left : (ps : List Provider)
      → count_by (λ (row : ℕ × Counts). not (row.1.w == 0)) (rows after ps) + notes (falls ps)
      ≡ count_by (λ (row : ℕ × Counts). not (row.1.w == 0)) (rows before ps)
  places_left ps =
      ap (λ n. n + notes (falls ps))
      (sym (length-filter (λ (row : ℕ × Counts). not (row.1.w == 0)) (rows after ps)))
      ∙ left_all ps
      ∙ length-filter (λ (row : ℕ × Counts). not (row.1.w == 0)) (rows before ps)

-- A new consumer of DEV is attached to any provider without an error

-- an attach isn't refused where there is no error, no loop and nothing too deep
not_refused : (a b c : Bool) → a ≡ false → b ≡ false → c ≡ false
    → first_error ((a, ENXIO) ∷ (b, ELOOP) ∷ (c, EDEEP) ∷ []) ≡ None
not_refused a b c ea eb ec = rw (ea, eb, ec) refl

module _ {C : Type 0} (t : Topology C) (sound : IsSoundGraph t) where
  -- DEV stands
  pub dev_stands : IsSome (geom_at t 1)
  dev_stands = there_with_fact (λ (x : Geom C). x.kind ≡ kinds.Dev) (geom_at t 1) sound.orderly.first.dev

  -- DEV holds grants
  pub dev_holds : HoldsGrants t 1
  dev_holds = search rules

  -- it has no provider
  pub dev_bare : providers_of t 1 ≡ []
  dev_bare = bare_of t.providers 1
      (λ z there. (All-contains (λ (w : Provider). IsOffer w) t.providers z sound.orderly.offers there).not_dev)

  module _ (p : ℕ) (y : Provider) (offered : provider_at t p ≡ Some y) where
    -- the graph with the new consumer attached
    abbrev with_it : Topology C
    with_it = with_opener t p

    -- a geom of the number of DEV is of that class
    of_dev : (x : Geom C) → Contains t.geoms x → x.number ≡ 1 → is_granted_kind x.kind ≡ true
    of_dev x there same =
        let each : EachIsFound C = each-found in
        let at : geom_at t x.number ≡ Some x =
        at_contained (λ (g : Geom C). geom_at t g.number ≡ Some g) t.geoms x (each.geoms t sound.orderly.order) there in
        subst (λ o. IsSomeAnd o (λ (g : Geom C). is_granted_kind g.kind ≡ true)) (ap (geom_at t) (sym same) ∙ at)
        dev_holds

    -- whether a geom is too deep
    abbrev deep : Topology C → Geom C → Bool
    deep u x = not (is_granted_kind x.kind) && nat_lt MAX_RANK (rank u x.number)

    -- a geom is no deeper than it was, but for DEV
    no_deeper : (x : Geom C) → Contains t.geoms x → deep t x ≡ false → deep with_it x ≡ false
    no_deeper x there low =
        search (
          rules,
          cases_eq x.number 1,
          of_dev x there,
          open-rises t 1 p y sound.ranked sound.orderly.parts.geoms dev_stands dev_bare offered,
        )

    -- so no geom is too deep
    still_shallow : is_too_deep with_it ≡ false
    still_shallow =
        list_any_none (deep with_it) t.geoms
        (all_of (λ (x : Geom C). deep with_it x ≡ false) t.geoms
        (λ x there. no_deeper x there
        (false_from_ne_true (deep t x)
        (λ bad. let no : true ≡ false = sym (any-contained (deep t) t.geoms x there bad) ∙ sound.not_deep in cc))))

    -- the graph with the new consumer, which isn't attached yet
    abbrev loose : Topology C
    loose = add_consumer t 1 None

    -- it is attached
    pub opener_attached : attach loose t.next_consumer p ≡ with_it
    opener_attached = two-changes.made t 1 p sound.orderly.order

    -- it was not
    pub opener_loose : consumer_at loose t.next_consumer ≡ Some (new_consumer t 1 None)
    opener_loose = added-consumer.new t 1 None sound.orderly.order

    -- its geom isn't reached from the provider's
    no_loop : would_loop loose (consumer_at loose t.next_consumer) (provider_at loose p) ≡ false
    no_loop =
        ap (λ o. would_loop loose o (provider_at loose p)) opener_loose
        ∙ ap (would_loop loose (Some (new_consumer t 1 None))) offered
        ∙ reaches-none loose y.geom 1 dev_bare
        (open-other t 1 p y sound.ranked sound.orderly.parts.geoms dev_stands dev_bare offered)

    -- a provider below which there is no error has none
    no_error : has_error_below with_it p ≡ false → is_errored t p ≡ false
    no_error none =
        false_from_ne_true (is_errored t p)
        (λ bad.
        let some : has_error_below with_it p ≡ true =
        errors_came t 1 p dev_bare p
        ∙ any-contained (is_errored t) (below t p) p (below_self (length t.geoms) t p) bad in
        let no : true ≡ false = sym some ∙ none in cc)

    -- so nothing refuses it
    pub opener_allowed : has_error_below with_it p ≡ false → attach_refusal loose t.next_consumer p ≡ None
    opener_allowed none =
        not_refused (is_errored loose p) (would_loop loose (consumer_at loose t.next_consumer) (provider_at loose p))
        (is_too_deep (attach loose t.next_consumer p)) (no_error none) no_loop
        (ap is_too_deep opener_attached ∙ still_shallow)

    -- no provider is of DEV
    not_of_dev : (q : ℕ) → option_map_or (λ (z : Provider). z.geom == 1) (provider_at t q) false ≡ false
    not_of_dev q =
        search (
          rules,
          ne_eqb,
          All-contains (λ (w : Provider). IsOffer w) t.providers,
          find-Contains (λ (w : Provider). w.number == q) t.providers,
        )

    -- as many consumers are below as before
    pub opener_below : consumers_below with_it p ≡ consumers_below t p
    opener_below =
        ap (λ qs. length (filter (λ (c : Consumer). list_any
        (λ q. option_map_or (λ (z : Provider). z.geom == c.geom) (provider_at t q) false) qs) with_it.consumers))
        (below_came t 1 (Some p) dev_bare p)
        ∙ ap (λ (cs : List Consumer). length cs)
        (filter-pushed
        (λ (c : Consumer). list_any
        (λ q. option_map_or (λ (z : Provider). z.geom == c.geom) (provider_at t q) false) (below t p))
        t.consumers (new_consumer t 1 (Some p))
        (list_any_none (λ q. option_map_or (λ (z : Provider). z.geom == 1) (provider_at t q) false) (below t p)
        (all_of (λ q. option_map_or (λ (z : Provider). z.geom == 1) (provider_at t q) false ≡ false) (below t p)
        (λ q there. not_of_dev q))))

-- The steps of an attach

module _ {C : Type 0} (t m : TopoView C) (sound : IsSoundGraph t.topology) (geom : ℕ)
    (added : m ≡ record (with_consumer t geom) { room = m.room }) (dev : geom ≡ 1) (cons : ℕ)
    (number : cons ≡ t.topology.next_consumer) where
  -- the mesh with a new consumer of DEV
  made : m ≡ record (with_consumer t 1) { room = m.room }
  made = added ∙ ap (λ n. record (with_consumer t n) { room = m.room }) dev

  -- its graph
  made_graph : m.topology ≡ add_consumer t.topology 1 None
  made_graph = ap (λ (v : TopoView C). v.topology) made

  -- it is there
  made_found : consumer_at m.topology cons ≡ Some (new_consumer t.topology 1 None)
  made_found =
      (λ i. consumer_at (made_graph i) (number i)) ∙ added-consumer.new t.topology 1 None sound.orderly.order

  -- it is attached to nothing
  pub made_loose : IsSomeAnd (consumer_at m.topology cons) (λ x. x.provider ≡ None)
  made_loose = some-with (consumer_at m.topology cons) (λ x. x.provider ≡ None) _ made_found refl

  pub made_free : IfSome (consumer_at m.topology cons) (λ x. x.provider ≡ None)
  made_free = if-with (consumer_at m.topology cons) (λ x. x.provider ≡ None) _ made_found refl

  module _ (p : ℕ) where
    -- nothing refuses to attach it to a provider whose counts nothing refuses
    pub attach_goes : IsSome (provider_at t.topology p) → (granted : ℕ → Counts)
        → grant_refusal granted (with_opener t.topology p) p ≡ None → attach_refusal m.topology cons p ≡ None
    attach_goes lives granted passes =
        let y : Has (provider_at t.topology p) = has (provider_at t.topology p) lives in
        (λ i. attach_refusal (made_graph i) (number i) p)
        ∙ opener_allowed t.topology sound p y.item y.is ((allowed granted (with_opener t.topology p) p).0 passes).errors

    -- then the mesh is the one with the consumer at the provider
    pub attached_is : (n : TopoView C) → n ≡ with_topology m (attach m.topology cons p) → n ≡ opened_mesh t p n.room
    attached_is n attached =
        let is : n ≡ opened_mesh t p m.room =
        attached
        ∙ (λ i. with_topology (made i) (attach (made i).topology (number i) p))
        ∙ ap (λ (u : Topology C). record (opened_mesh t p m.room) { topology = u })
        (two-changes.made t.topology 1 p sound.orderly.order) in
        is ∙ ap (opened_mesh t p) (sym (ap (λ (v : TopoView C). v.room) is))

  -- made and taken away again it has used up a number
  pub made_gone : IsCounted t → value_at t.active t.topology.next_consumer ≡ None → (new : TopoView C)
      → new ≡ without_consumer m cons → HasUsedNumber t new
  made_gone counted unknown new gone =
      subst (HasUsedNumber t) (sym (gone ∙ ap (without_consumer m) number))
      (refused_consumers_go.loose t m 1 (record { sound = sound; counted = counted; unknown = unknown; comes = made }))

-- A mesh in which a consumer of DEV has come, and one in which a consumer has given back what it was granted

-- no consumer has the next number
pub next_free : {C : Type 0} (t : Topology C) → IsInOrder t → consumer_at t t.next_consumer ≡ None
next_free t order =
    found_fresh (λ (c : Consumer). c.number) t.next_consumer t.next_consumer t.consumers order.consumers (omega arith)

-- counts are kept whichever rises are noted of the providers, and with other room
noted_counted : {C : Type 0} (t : TopoView C) (rises : List (ℕ × Bool)) (room : Room)
    → map (λ row. row.0) rises ≡ map (λ (p : Provider). p.number) t.topology.providers → IsCounted t
    → IsCounted (record t { risen = rises; room = room })
noted_counted t rises room numbers counted = search rules

pub rises_counted : {C : Type 0} (t : TopoView C) → IsCounted t → IsCounted (without_rises t)
rises_counted t counted =
    noted_counted t (without_rises t).risen t.room
    (numbers_of (λ (p : Provider). p.number) (λ p. false) t.topology.providers) counted

pub room_counted : {C : Type 0} (t : TopoView C) (room : Room) → IsCounted t → IsCounted (record t { room = room })
room_counted t room counted = noted_counted t t.risen room counted.risen counted

-- A consumer that has come

module _ {C : Type 0} (t : TopoView C) (sound : IsSoundGraph t.topology) (counted : IsCounted t) (p : ℕ)
    (room : Room) where
  -- its number, it, the mesh with it, and the graph
  abbrev next : ℕ
  next = t.topology.next_consumer

  abbrev comer : Consumer
  comer = record { number = next; geom = 1; provider = Some p; spoiled = false }

  abbrev opened : TopoView C
  opened = opened_mesh t p room

  abbrev u : Topology C
  u = with_opener t.topology p

  -- what a consumer of a number is granted, from what is found and stored
  abbrev granted_at : Option Counts → Option Consumer → Counts
  granted_at stored o =
      option_map_or
      (λ (x : Consumer). if holds_grants t.topology x.geom then unwrap_or stored no_counts else no_counts) o no_counts

  -- none had its number
  none_before : consumer_at t.topology next ≡ None
  none_before = next_free t.topology sound.orderly.order

  -- so nothing was granted to it
  none_granted : granted_by t next ≡ no_counts
  none_granted = ap (granted_at (value_at t.wants next)) none_before

  -- and it is stored as holding nothing
  comer_stored : value_at opened.wants next ≡ Some no_counts
  comer_stored =
      value_at-last next no_counts t.wants
      (ap (λ rows. value_at rows next) counted.wants
      ∙ sym (under_read (λ (c : Consumer). c.number) (want (granted_by t) t.topology) next t.topology.consumers)
      ∙ ap (option_map (want (granted_by t) t.topology)) none_before)

  -- it is found
  comer_found : consumer_at opened.topology next ≡ Some comer
  comer_found = search (rules, at-new (λ (c : Consumer). c.number) next t.topology.consumers comer)

  -- each consumer is granted what it was
  came_grants : (n : ℕ) → granted_by opened n ≡ granted_by t n
  came_grants n =
      search (
        rules,
        cases_eq n next,
        comer_stored,
        comer_found,
        none_granted,
        value_at-other next n no_counts t.wants,
        at-others (λ (c : Consumer). c.number) t.topology.consumers comer n,
      )

  grants_same : granted_by opened ≡ granted_by t
  grants_same = λ i n. came_grants n i

  -- it wants nothing, so no count changes
  came : DemandStays (granted_by t) t.topology (granted_by t) u AnyConsumer
  came = consumer_came (granted_by t) t.topology 1 (Some p)
      (λ attached.
      granted_wants_nothing (granted_by t) t.topology comer none_granted
      (dev_holds t.topology sound))

  -- the row of a consumer
  abbrev row : Consumer → ℕ × Counts
  row c = (c.number, want (granted_by t) u c)

  -- it wants nothing then
  comer_wants : want (granted_by t) u comer ≡ no_counts
  comer_wants = search (rules, granted_wants_nothing (granted_by t) u comer none_granted (dev_holds t.topology sound))

  -- all counts are kept
  pub opened_counted : IsCounted opened
  opened_counted = record {
    kinds = counted.kinds;
    haves =
        counted.haves
        ∙ rows-same_on (λ (z : Provider). z.number) (have (granted_by t) t.topology) (have (granted_by t) u)
        t.topology.providers (λ z there. sym (came.haves z.number))
        ∙ ap (λ (H : ℕ → Counts). map (λ (z : Provider). let r : ℕ × Counts = (z.number, have H u z.number) in r)
        u.providers) (sym grants_same);
    wants =
        ap (λ rows. rows ++ (next, no_counts) ∷ [])
        (counted.wants
        ∙ map_same (λ (c : Consumer). (c.number, want (granted_by t) t.topology c)) row t.topology.consumers
        (each_of (λ (c : Consumer). ◌≡◌ {A = ℕ × Counts} (c.number, want (granted_by t) t.topology c) (row c))
        t.topology.consumers
        (λ c there. let Q : Counts → ℕ × Counts = λ a. (c.number, a) in ap Q (sym (came.wants c tt)))))
        ∙ ap (λ a. map row t.topology.consumers ++ (next, a) ∷ []) (sym comer_wants)
        ∙ sym (map-append row t.topology.consumers (comer ∷ []))
        ∙ ap (λ (H : ℕ → Counts). map (λ (c : Consumer). let r : ℕ × Counts = (c.number, want H u c) in r) u.consumers)
        (sym grants_same);
    exclusive = subst (λ (H : ℕ → Counts). IsTrue (is_exclusive H u)) (sym grants_same)
        (came.exclusive counted.exclusive);
    limit = subst (λ (H : ℕ → Counts). IsTrue (fits_limit H u)) (sym grants_same) (came.limit counted.limit);
    risen = counted.risen;
    fallen = counted.fallen;
    clear =
        ap (λ (s : Scratches). record s { consumers = s.consumers ++ (next, no_scratch) ∷ [] }) counted.clear
        ∙ ap (λ rows. record (clear_scratches t.topology) { consumers = rows })
        (sym (map-append (λ (c : Consumer). let r : ℕ × Scratch = (c.number, no_scratch) in r)
        t.topology.consumers (comer ∷ [])));
  }

  -- the new consumer holds grants
  pub opened_holder : IsHolder opened.topology next
  opened_holder = record {
    kind = some-with (consumer_at u next) (λ x. HoldsGrants u x.geom) comer comer_found (dev_holds t.topology sound);
    attached = some-with (consumer_at u next) (λ x. IsSome x.provider) comer comer_found refl;
  }

  -- it is at the provider
  pub opened_place : place_of opened.topology next ≡ p
  opened_place =
      ap (λ o. unwrap_or (option_and_then (λ (x : Consumer). x.provider) o) 0) comer_found

  module _ (add : Counts) where
    -- what it is granted then
    abbrev after : ℕ → Counts
    after = grants_with t add

    after_is : (n : ℕ) → with_grant (granted_by opened) next add n ≡ after n
    after_is n = ap (λ (G : ℕ → Counts). with_grant G next add n) grants_same

    -- nothing refuses it, as was decided before it came
    pub opened_allowed : grant_refusal after u p ≡ None
        → grant_refusal (with_grant (granted_by opened) next add) opened.topology (place_of opened.topology next)
        ≡ None
    opened_allowed allowed =
        ap (λ (G : ℕ → Counts). grant_refusal (with_grant G next add) u (place_of opened.topology next)) grants_same
        ∙ ap (grant_refusal after u) opened_place ∙ allowed

    module _ (quiet : IsQuiet t) (q : Queued) (m : TopoView C) (granted : m ≡ granted_view opened next add)
        (counted_then : IsCounted m)
        (rose : noted m.risen
        ≡ risen (granted_by opened) opened.topology (with_grant (granted_by opened) next add) opened.topology) where
      -- the graph
      graph_is : m.topology ≡ u
      graph_is = ap (λ (v : TopoView C). v.topology) granted

      -- what each consumer is granted
      grants_are : (n : ℕ) → granted_by m n ≡ after n
      grants_are n =
          ap (λ (v : TopoView C). granted_by v n) granted
          ∙ granted-after opened next add opened_holder.kind n ∙ after_is n

      -- the counts are stored by these grants
      stored : AreStored after m
      stored = counts_are_stored m after counted_then (λ n. sym (grants_are n))

      -- where write counts left zero
      rose_there : noted m.risen ≡ risen (granted_by t) t.topology after u
      rose_there =
          rose
          ∙ ap (λ (G : ℕ → Counts). risen G u (with_grant G next add) u) grants_same
          ∙ ap (λ (f : ℕ → Counts). map (λ (x : Provider). x.number)
          (filter (λ (x : Provider). ((f x.number).w == 0) && not ((have after u x.number).w == 0))
          t.topology.providers)) (λ i k. came.haves k i)

      -- there is room for them
      few : notes m.risen ≤ length t.topology.providers
      few = subst (λ (v : Topology C). notes m.risen ≤ length v.providers) graph_is
          (places_are_few.risen m counted_then)

      -- so there is room for what is announced
      pub come_room : length t.topology.providers ≤ q.spare → notes m.risen ≤ q.spare
      come_room enough = let f = few in omega (arith, f, enough)

      -- once that is announced, it has come
      pub has_come : (new : TopoView C) (queue : Queued)
          → ((G : ℕ → Counts) → AreStored G m
          → queued new queue ≡ announce_risen G (noted m.risen) (queued m q))
          → RestStays (without_rises m) q new queue → queue.spare + notes m.risen ≡ q.spare
          → CountsStay (without_rises m) new → HasCome t q p add new queue
      has_come new queue told rest left stay =
          search (
            rules,
            told after stored,
            stored,
            ap (λ ps. announce_risen after ps (queued m q)) rose_there,
            rose_there,
            ap
                (λ (v : Topology C). announce_risen after (risen (granted_by t) t.topology after u)
                (record { topology = v; events = q.events })) graph_is,
            graph_is,
            stay.counted (rises_counted m counted_then),
            rises_counted m counted_then,
            stay.quiet
                (record {
                  risen = refl;
                  fallen = subst
                      (λ (v : TopoView C). v.fallen ≡ map (λ (x : Provider). (x.number, false)) v.topology.providers)
                      (sym granted) quiet.fallen;
                }),
            few,
            ap (λ (v : TopoView C). v.room) rest.mesh,
            ap (λ (v : TopoView C). v.room) granted,
          )

-- The steps of an open

module _ {C : Type 0} (t : TopoView C) (sound : IsSoundGraph t.topology) (counted : IsCounted t) (p : ℕ)
    (m : TopoView C) (attached : m ≡ opened_mesh t p m.room) (cons : ℕ) (number : cons ≡ t.topology.next_consumer) where
  -- counts are kept, no note is set, and the consumer holds nothing yet
  pub comer_counted : IsCounted m
  comer_counted = subst IsCounted (sym attached) (opened_counted t sound counted p m.room)

  pub comer_holder : IsHolder m.topology cons
  comer_holder = search (rules, opened_holder t sound counted p m.room)

  pub comer_nothing : value_at m.wants cons ≡ Some no_counts
  comer_nothing = search (rules, comer_stored t sound counted p m.room)

  -- as many consumers are below it as below the provider
  pub comer_below : (y : Provider) → provider_at t.topology p ≡ Some y
      → consumers_below m.topology (place_of m.topology cons) ≡ consumers_below t.topology p
  comer_below y offered =
      (λ i. consumers_below (attached i).topology (place_of (attached i).topology (number i)))
      ∙ ap (consumers_below (with_opener t.topology p)) (opened_place t sound counted p m.room)
      ∙ opener_below t.topology sound p y offered

  module _ (add : Counts) where
    -- nothing refuses its counts
    pub comer_allowed : grant_refusal (grants_with t add) (with_opener t.topology p) p ≡ None
        → grant_refusal (with_grant (granted_by m) cons add) m.topology (place_of m.topology cons) ≡ None
    comer_allowed passes = search (rules, opened_allowed t sound counted p m.room add passes)

    -- the mesh with its counts
    pub comer_granted : (k : TopoView C) → k ≡ granted_view m cons add
        → k ≡ granted_view (opened_mesh t p m.room) t.topology.next_consumer add
    comer_granted k granted = search rules

    -- and where write counts left zero
    pub comer_rose : (ps : List ℕ)
        → ps ≡ risen (granted_by m) m.topology (with_grant (granted_by m) cons add) m.topology
        → ps
        ≡ risen (granted_by (opened_mesh t p m.room)) (opened_mesh t p m.room).topology
        (with_grant (granted_by (opened_mesh t p m.room)) t.topology.next_consumer add)
        (opened_mesh t p m.room).topology
    comer_rose ps rose = search rules

    -- it was granted, and rises were noted
    module _ (quiet : IsQuiet t) (q : Queued) (k : TopoView C) (granted : k ≡ granted_view m cons add)
        (counted_then : IsCounted k) (rose : noted k.risen
        ≡ risen (granted_by m) m.topology (with_grant (granted_by m) cons add) m.topology) where
      -- there is room for what is announced
      pub comer_room : length t.topology.providers ≤ q.spare → notes k.risen ≤ q.spare
      comer_room =
          come_room t sound counted p m.room add quiet q k (comer_granted k granted) counted_then
          (comer_rose (noted k.risen) rose)

      -- once that is announced, it has come
      pub comer_came : (new : TopoView C) (queue : Queued)
          → ((G : ℕ → Counts) → AreStored G k → queued new queue ≡ announce_risen G (noted k.risen) (queued k q))
          → RestStays (without_rises k) q new queue → queue.spare + notes k.risen ≡ q.spare
          → CountsStay (without_rises k) new → HasCome t q p add new queue
      comer_came =
          has_come t sound counted p m.room add quiet q k (comer_granted k granted) counted_then
          (comer_rose (noted k.risen) rose)

-- A consumer that goes

module _ {C : Type 0} (t : TopoView C) (counted : IsCounted t) (c : ℕ) (holder : IsHolder t.topology c) where
  -- the consumer
  abbrev its : Holder t.topology c
  its = holder_is t.topology c holder

  -- the grants without its own
  abbrev left : ℕ → Counts
  left = with_grant (granted_by t) c no_counts

  -- it has none
  none_left : left c ≡ no_counts
  none_left = ap (λ b. if b then no_counts else granted_by t c) (eq-eqb c c refl)

  -- no grant rises
  fall : AreAtMost left (granted_by t)
  fall n = search rules

  module _ (m : TopoView C) (released : m ≡ released_view t c) where
    -- it holds nothing then
    pub goer_nothing : value_at m.wants c ≡ Some no_counts
    goer_nothing =
        ap (λ (v : TopoView C). value_at v.wants c) released
        ∙ item_at (λ (x : Consumer). x.number) (want left t.topology) c t.topology.consumers its.one its.found
        ∙ ap (λ a. Some a)
        (wants_grant left t.topology its.one its.kind
        ∙ ap left (eqb-true its.one.number c
        (find_passes (λ (x : Consumer). x.number == c) t.topology.consumers its.one its.found))
        ∙ none_left)

    -- what the notes and the write counts are together
    places : written m + notes m.fallen ≡ written t
    places =
        subst (λ (v : TopoView C). written v + notes v.fallen ≡ written t) (sym released)
        (places_left (have (granted_by t) t.topology) (have left t.topology)
        (have-at_most left (granted_by t) fall t.topology) t.topology.providers
        ∙ ap (λ rows. written (record t { haves = rows })) (sym counted.haves))

    module _ (gone : TopoView C) (dropped : gone ≡ without_consumer m c) (q : Queued) where
      -- there is room for what is announced
      pub gone_room : written t ≤ q.spare → notes gone.fallen ≤ q.spare
      gone_room enough = search (rules, ap (λ (v : TopoView C). notes v.fallen) dropped, places)

      -- once that is announced, it has gone
      pub has_gone : IsQuiet t → CountsStay m gone
          → noted m.fallen ≡ fallen (granted_by t) t.topology left t.topology
          → (new : TopoView C) (queue : Queued)
          → queued new queue ≡ announce_fallen (noted gone.fallen) (queued gone q) → new ≡ without_falls gone
          → q.spare ≤ queue.spare + notes gone.fallen → IsCounted new → HasGone t q c new queue
      has_gone quiet stay fell new queue told mesh room counted_then =
          let gone_graph : gone.topology ≡ remove_consumer t.topology c =
          ap (λ (v : TopoView C). v.topology) dropped ∙ ap (λ (v : TopoView C). remove_consumer v.topology c) released
          in
          let new_graph : new.topology ≡ gone.topology = ap (λ (v : TopoView C). v.topology) mesh in
          record {
            mesh = mesh ∙ ap without_falls (dropped ∙ ap (λ (v : TopoView C). without_consumer v c) released);
            announced =
                told
                ∙ ap (λ ps. announce_fallen ps (queued gone q))
                (ap (λ (v : TopoView C). noted v.fallen) dropped ∙ fell)
                ∙ ap (λ (v : Topology C). announce_fallen (fallen (granted_by t) t.topology left t.topology)
                (record { topology = v; events = q.events })) gone_graph;
            granted = λ n.
                ap (λ (v : TopoView C). granted_by v n) mesh ∙ stay.granted n
                ∙ ap (λ (v : TopoView C). granted_by v n) released;
            counted = counted_then;
            quiet = record {
              risen =
                  ap (λ (v : TopoView C). v.risen) mesh ∙ ap (λ (v : TopoView C). v.risen) dropped
                  ∙ ap (λ (v : TopoView C). v.risen) released ∙ quiet.risen
                  ∙ ap (λ (v : Topology C). map (λ (x : Provider). (x.number, false)) v.providers)
                  (sym (new_graph ∙ gone_graph));
              fallen =
                  ap (λ (v : TopoView C). v.fallen) mesh
                  ∙ ap (λ (v : Topology C). map (λ (x : Provider). (x.number, false)) v.providers) (sym new_graph);
            };
            room =
                let now : written new ≡ written m =
                ap (λ (v : TopoView C). written v) mesh ∙ ap (λ (v : TopoView C). written v) dropped in
                let same : notes gone.fallen ≡ notes m.fallen = ap (λ (v : TopoView C). notes v.fallen) dropped in
                let all = places in
                omega (arith, room, now, same, all);
          }
