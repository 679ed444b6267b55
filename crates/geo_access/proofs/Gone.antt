-- A consumer that was made and is taken away again leaves nothing but a number that is used up.
use Rattle.std.specs.Prelude.{◌≡◌, ◌≢◌, ℕ, ◌+◌, ◌==◌, false, not, List, [], ◌∷◌, ◌++◌, length, map, filter, Option, Some, None, Contains, if◌then◌else◌}
use Rattle.std.proofs.Common.{refl, sym, ◌∙◌, ap, subst, arith, eq-eqb, rules}
use Rattle.std.proofs.Math.Bool.{and-not_self}
use Rattle.std.proofs.lemmas.Bool.{ne_eqb}
use Rattle.std.proofs.lemmas.List.{map-append}
use Rattle.std.proofs.lemmas.List.Elements.{filter-append, Contains-append_left, Contains-append_right}
use Rattle.geo_base.specs.declared.request.Counts.{Counts}
use Rattle.geo_model.specs.Words.{change_where}
use Rattle.geo_model.specs.Topology.{Topology, Provider, Consumer, add_consumer, attach, detach}
use Rattle.geo_model.specs.Demand.{no_counts, have, want}
use Rattle.geo_slots.specs.Slots.{value_at, without}
use Rattle.geo_slots.proofs.RowLemmas.{without_absent}
use Rattle.geo_mesh.specs.Topo.{TopoView, Room, Scratches, no_scratch, with_consumer, without_consumer}
use Rattle.geo_mesh.specs.Graph.{IsSoundGraph}
use Rattle.geo_laws_graph.proofs.Members.{map-Contains, Contains-there, Contains-here}
use Rattle.geo_laws_counts.specs.CountWords.{DemandStays, AnyConsumer, HoldsGrants}
use Rattle.geo_laws_counts.proofs.BareParts.{levels_same}
use Rattle.geo_laws_counts.proofs.LimitFacts.{all_of}
use Rattle.geo_laws_counts.proofs.Quiet.{granted_wants_nothing}
use Rattle.geo_laws_counts.proofs.Stays.{grants_agree, consumer_came}
use Rattle.geo_access.specs.Access.{granted_by, IsCounted, IsQuiet, IsPlaced, leaves_zero}
use Rattle.geo_access.specs.Join.{joined_view}
use Rattle.geo_access.specs.GoneLaws.{next_number, on, off, RefusedConsumersGo}
use Rattle.geo_access.proofs.Clearing.{rows-same_on, rows_agree}
use Rattle.geo_access.proofs.NewJoiner.{old_number, comer_new, same_grants}

-- Numbers

-- nothing stands under a number that no item has
none_under : {X V : Type 0} (key : X → ℕ) (f : X → V) (n : ℕ) (xs : List X) → ((x : X) → Contains xs x → key x ≢ n)
    → value_at (map (λ x. let row : ℕ × V = (key x, f x) in row) xs) n ≡ None
none_under key f n [] apart = refl
none_under key f n (x ∷ xs) apart =
    search (rules, none_under key f n xs (λ y there. apart y (Contains-there x y xs there)))

-- a row behind those that hadn't its number, taken away again
without_last : {V : Type 0} (n : ℕ) (v : V) (rows : List (ℕ × V)) → value_at rows n ≡ None
    → without (rows ++ (n, v) ∷ []) n ≡ rows
without_last n v rows none =
    search (rules, filter-append (λ row. not (row.0 == n)) rows ((n, v) ∷ []), eq-eqb n n, without_absent n rows none)

-- consumers of whom none has the number, with one behind that has it: without it they are as before
rid : (n : ℕ) (d : Consumer) (xs : List Consumer) → d.number ≡ n → ((x : Consumer) → Contains xs x → x.number ≢ n)
    → filter (λ (x : Consumer). not (x.number == n)) (xs ++ d ∷ []) ≡ xs
rid n d [] own apart = rw (eq-eqb d.number n own) refl
rid n d (x ∷ xs) own apart =
    rw (ne_eqb x.number n (apart x (Contains-here x xs)))
    (ap (λ ys. x ∷ ys) (rid n d xs own (λ y there. apart y (Contains-there x y xs there))))

-- a change of the one of the number alone
changed_last : (n : ℕ) (change : Consumer → Consumer) (d : Consumer) (xs : List Consumer) → d.number ≡ n
    → ((x : Consumer) → Contains xs x → x.number ≢ n)
    → change_where (λ x. x.number == n) change (xs ++ d ∷ []) ≡ xs ++ change d ∷ []
changed_last n change d [] own apart = rw (eq-eqb d.number n own) refl
changed_last n change d (x ∷ xs) own apart =
    rw (ne_eqb x.number n (apart x (Contains-here x xs)))
    (ap (λ ys. x ∷ ys) (changed_last n change d xs own (λ y there. apart y (Contains-there x y xs there))))

-- A number that is used up

module _ {C : Type 0} (granted : ℕ → Counts) (t : Topology C) (m : ℕ) where
  -- another next number isn't seen
  number_unseen : DemandStays granted t granted (record t { next_consumer = m }) AnyConsumer
  number_unseen =
      let u : Topology C = record t { next_consumer = m } in
      search (rules, levels_same granted granted t u (length t.geoms) (λ k h q. refl) (length t.geoms) (omega arith))

module _ {C : Type 0} (t : TopoView C) (room : Room) where
  -- with the next number used up
  abbrev used : TopoView C
  used = record t { topology = record t.topology { next_consumer = next_number t + 1 }; room = room }

  -- all counts are kept
  used_counted : IsCounted t → IsCounted used
  used_counted counted = search (rules, number_unseen (granted_by t) t.topology (next_number t + 1))

-- Made and taken away

module _ {C : Type 0} (t : TopoView C) (geom : ℕ) (sound : IsSoundGraph t.topology) (counted : IsCounted t)
    (unknown : value_at t.active (next_number t) ≡ None) (room : Room) where
  -- its number, and it, attached to nothing
  abbrev n : ℕ
  n = next_number t

  abbrev comer : Option ℕ → Consumer
  comer to = record { number = n; geom = geom; provider = to; spoiled = false }

  -- the mesh with it
  abbrev mesh : TopoView C
  mesh = record (with_consumer t geom) { room = room }

  -- nobody else has its number
  others : (x : Consumer) → Contains t.topology.consumers x → x.number ≢ n
  others = old_number t geom sound

  -- no counts stand under its number yet
  no_want : value_at t.wants n ≡ None
  no_want =
      ap (λ rows. value_at rows n) counted.wants
      ∙ none_under (λ (c : Consumer). c.number) (want (granted_by t) t.topology) n t.topology.consumers others

  -- nor scratch
  no_trial : value_at t.scratches.consumers n ≡ None
  no_trial =
      ap (λ (s : Scratches). value_at s.consumers n) counted.clear
      ∙ none_under (λ (c : Consumer). c.number) (λ (c : Consumer). no_scratch) n t.topology.consumers others

  -- without it, wherever it is attached
  gone : (to : Option ℕ)
      → without_consumer (record mesh { topology = add_consumer t.topology geom to }) n ≡ used t room
  gone to =
      search (
        rules,
        rid n (comer to) t.topology.consumers,
        others,
        without_last n no_counts t.wants no_want,
        no_want,
        without_last n 0 t.active unknown,
        without_last n no_scratch t.scratches.consumers no_trial,
        no_trial,
      )

  -- attached it is as if it had come so
  attached_graph : (to prov : _) → attach (add_consumer t.topology geom to) n prov
      ≡ add_consumer t.topology geom (Some prov)
  attached_graph to prov =
      search (rules, changed_last n (λ x. record x { provider = Some prov }) (comer to) t.topology.consumers, others)

  -- and taken off too
  detached_graph : (to : Option ℕ) → detach (add_consumer t.topology geom to) n ≡ add_consumer t.topology geom None
  detached_graph to =
      search (rules, changed_last n (λ x. record x { provider = None }) (comer to) t.topology.consumers, others)

  -- attached, taken off and taken away
  gone_off : (prov : ℕ) → without_consumer (off (on mesh n prov) n) n ≡ used t room
  gone_off prov = search (rules, attached_graph None prov, detached_graph (Some prov), gone None)

  module _ (quiet : IsQuiet t) (holds : HoldsGrants t.topology geom) (prov : ℕ) where
    -- the graph with it attached
    abbrev joined_graph : Topology C
    joined_graph = attach (add_consumer t.topology geom None) n prov

    abbrev consumers_are : joined_graph.consumers ≡ t.topology.consumers ++ comer (Some prov) ∷ []
    consumers_are = ap (λ (g : Topology C). g.consumers) (attached_graph None prov)

    -- nothing is granted to it
    none_granted : granted_by t n ≡ no_counts
    none_granted = search (rules, comer_new t geom sound)

    -- neither before nor after
    agree_made : (c : Consumer) → Contains (add_consumer t.topology geom None).consumers c
        → granted_by mesh c.number ≡ granted_by t c.number
    agree_made c there = same_grants t geom sound counted room c there

    agree : (c : Consumer) → Contains joined_graph.consumers c → granted_by mesh c.number ≡ granted_by t c.number
    agree c there =
        search (
          rules,
          map-Contains (λ (y : Consumer). if y.number == n then record y { provider = Some prov } else y)
              (add_consumer t.topology geom None).consumers c there,
          agree_made,
        )

    -- so the demand is as before: with it, and with it attached
    made_stays : DemandStays (granted_by t) (add_consumer t.topology geom None) (granted_by mesh)
        (add_consumer t.topology geom None) (Contains (add_consumer t.topology geom None).consumers)
    made_stays =
        grants_agree (granted_by t) (granted_by mesh) (add_consumer t.topology geom None)
        (all_of (λ (c : Consumer). granted_by mesh c.number ≡ granted_by t c.number)
        (add_consumer t.topology geom None).consumers agree_made)

    came : DemandStays (granted_by t) t.topology (granted_by t) joined_graph AnyConsumer
    came =
        subst (λ (g : Topology C). DemandStays (granted_by t) t.topology (granted_by t) g AnyConsumer)
        (sym (attached_graph None prov))
        (consumer_came (granted_by t) t.topology geom (Some prov)
        (λ attached. granted_wants_nothing (granted_by t) t.topology (comer (Some prov)) none_granted holds))

    joined_stays : DemandStays (granted_by t) joined_graph (granted_by mesh) joined_graph
        (Contains joined_graph.consumers)
    joined_stays =
        grants_agree (granted_by t) (granted_by mesh) joined_graph
        (all_of (λ (c : Consumer). granted_by mesh c.number ≡ granted_by t c.number) joined_graph.consumers agree)

    -- each provider has what it had
    have_made : (p : ℕ) → have (granted_by mesh) mesh.topology p ≡ have (granted_by t) t.topology p
    have_made p =
        made_stays.haves p
        ∙ (consumer_came (granted_by t) t.topology geom None (λ attached. absurd (cc))).haves p

    have_joined : (p : ℕ) → have (granted_by mesh) joined_graph p ≡ have (granted_by t) t.topology p
    have_joined p = joined_stays.haves p ∙ came.haves p

    haves_are : map (λ (p : Provider). (p.number, have (granted_by mesh) joined_graph p.number)) t.topology.providers
        ≡ t.haves
    haves_are =
        sym (counted.haves
        ∙ rows-same_on (λ (z : Provider). z.number) (have (granted_by t) t.topology)
        (have (granted_by mesh) joined_graph) t.topology.providers (λ z there. sym (have_joined z.number)))

    -- each consumer wants what it wanted, and it nothing
    abbrev want_row : Consumer → ℕ × Counts
    want_row c = (c.number, want (granted_by mesh) joined_graph c)

    want_old : (c : Consumer) → Contains t.topology.consumers c
        → want (granted_by mesh) joined_graph c ≡ want (granted_by t) t.topology c
    want_old c there =
        joined_stays.wants c
        (subst (λ cs. Contains cs c) (sym consumers_are)
        (Contains-append_left t.topology.consumers (comer (Some prov) ∷ []) c there))
        ∙ came.wants c tt

    want_comer : want (granted_by mesh) joined_graph (comer (Some prov)) ≡ no_counts
    want_comer =
        granted_wants_nothing (granted_by mesh) joined_graph (comer (Some prov))
        (agree_made (comer None)
        (Contains-append_right t.topology.consumers (comer None ∷ []) (comer None) (Contains-here (comer None) []))
        ∙ none_granted) holds

    wants_are : map want_row joined_graph.consumers ≡ t.wants ++ (n, no_counts) ∷ []
    wants_are =
        ap (map want_row) consumers_are
        ∙ map-append want_row t.topology.consumers (comer (Some prov) ∷ [])
        ∙ ap (λ a. map want_row t.topology.consumers ++ (n, a) ∷ []) want_comer
        ∙ ap (λ rows. rows ++ (n, no_counts) ∷ [])
        (sym (counted.wants
        ∙ rows_agree (λ (c : Consumer). c.number) (want (granted_by t) t.topology)
        (want (granted_by mesh) joined_graph) t.topology.consumers (λ c there. sym (want_old c there))))

    -- no write count left zero
    risen_are : map (λ (p : Provider). (
      p.number,
      leaves_zero (have (granted_by mesh) mesh.topology p.number) (have (granted_by mesh) joined_graph p.number),
    )) t.topology.providers ≡ t.risen
    risen_are =
        sym (quiet.risen
        ∙ rows-same_on (λ (z : Provider). z.number) (λ k. false)
        (λ k. leaves_zero (have (granted_by mesh) mesh.topology k) (have (granted_by mesh) joined_graph k))
        t.topology.providers
        (λ z there.
        sym (ap (λ a. leaves_zero a (have (granted_by mesh) joined_graph z.number)) (have_made z.number)
        ∙ ap (λ a. leaves_zero (have (granted_by t) t.topology z.number) a) (have_joined z.number)
        ∙ stays_zero (have (granted_by t) t.topology z.number))))
      where
        stays_zero : (a : Counts) → leaves_zero a a ≡ false
        stays_zero a = and-not_self (a.w == 0)

    -- that it joined has it attached, and nothing else
    joined_is : joined_view mesh n prov ≡ on mesh n prov
    joined_is = λ i. record (on mesh n prov) { haves = haves_are i; wants = wants_are i; risen = risen_are i }

-- a consumer that is refused leaves nothing but a number
pub refused_consumers_go : {C : Type 0} → RefusedConsumersGo C
refused_consumers_go = record {
  loose = λ t made geom is. search (rules, gone t geom is.sound is.counted is.unknown made.room None);
  attached = λ t made geom prov is.
      search (rules, gone_off t geom is.sound is.counted is.unknown made.room prov);
  joined = λ t made geom prov is quiet holds.
      search (rules, joined_is t geom is.sound is.counted is.unknown made.room quiet holds prov);
  counted = λ t new used counted. subst IsCounted (sym used) (used_counted t new.room counted);
  quiet = λ t new used quiet. subst IsQuiet (sym used) (record { risen = quiet.risen; fallen = quiet.fallen });
  placed = λ t new used placed. subst (λ v. IsPlaced v.topology) (sym used) placed;
}
