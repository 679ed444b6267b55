-- A consumer just made may join.
use Rattle.std.specs.Prelude.{◌≡◌, ◌≢◌, ℕ, ◌==◌, Bool, true, false, List, [], ◌∷◌, ◌++◌, map, filter, find, Some, None, IsSomeAnd, Contains, unwrap_or, option_map, if◌then◌else◌}
use Rattle.std.specs.Option.{option_map_or}
use Rattle.std.proofs.Common.{refl, sym, ◌∙◌, ap, subst, inl, inr, eq-eqb, rules}
use Rattle.std.proofs.lemmas.Bool.{cases_eq, ne_eqb}
use Rattle.std.proofs.lemmas.List.{map-append}
use Rattle.std.proofs.lemmas.List.Elements.{All-contains, All-push, Contains-push_cases}
use Rattle.geo_base.proofs.Options.{none-mapped}
use Rattle.geo_base.proofs.FindLists.{found-before, find-pushed_hit}
use Rattle.geo_base.specs.declared.request.Counts.{Counts}
use Rattle.geo_model.specs.Topology.{Topology, Provider, Consumer, consumer_at, add_consumer, attach}
use Rattle.geo_model.specs.Demand.{no_counts, have, want}
use Rattle.geo_slots.specs.Slots.{value_at}
use Rattle.geo_mesh.specs.declared.records.Scratch.{Scratch}
use Rattle.geo_mesh.specs.Topo.{TopoView, Room, no_scratch, with_consumer}
use Rattle.geo_mesh.specs.Graph.{IsSoundGraph}
use Rattle.geo_laws_graph.proofs.Members.{Origin, map-Contains}
use Rattle.geo_laws_counts.specs.CountWords.{DemandStays, AnyConsumer}
use Rattle.geo_laws_counts.proofs.LimitFacts.{all_of}
use Rattle.geo_laws_counts.proofs.Numbers.{free_of}
use Rattle.geo_laws_counts.proofs.Stays.{grants_agree, consumer_came}
use Rattle.geo_access.specs.Access.{granted_by, holds_grants, clear_scratches, IsCounted, IsQuiet}
use Rattle.geo_access.specs.Join.{IsCountedBut, IsLoose, IsPlacedBut}
use Rattle.geo_access.specs.JoinLaws.{NewConsumersMayJoin}
use Rattle.geo_access.proofs.Clearing.{rows-same_on, rows_agree}
use Rattle.geo_access.proofs.Decided.{item_at, consumer_known, granted_found}
use Rattle.geo_access.proofs.Walking.{none_numbered}

module _ {C : Type 0} (t : TopoView C) (geom : ℕ) where
  -- its number, and it
  abbrev n : ℕ
  n = t.topology.next_consumer

  abbrev comer : Consumer
  comer = record { number = n; geom = geom; provider = None; spoiled = false }

  -- the graph with it, and the mesh, with any room
  abbrev u : Topology C
  u = add_consumer t.topology geom None

  abbrev mesh : Room → TopoView C
  mesh room = record (with_consumer t geom) { room = room }

  module _ (sound : IsSoundGraph t.topology) where
    -- another consumer has another number
    pub old_number : (c : Consumer) → Contains t.topology.consumers c → c.number ≢ n
    old_number c there =
        All-contains (λ (d : Consumer). d.number ≢ n) t.topology.consumers c
        (free_of (λ (d : Consumer). d.number) t.topology.consumers n sound.orderly.order.consumers.1) there

    -- no consumer had its number
    pub comer_new : consumer_at t.topology n ≡ None
    comer_new = none_numbered n t.topology.consumers old_number

    -- it is found
    comer_found : consumer_at u n ≡ Some comer
    comer_found =
        find-pushed_hit (λ (x : Consumer). x.number == n) t.topology.consumers comer comer_new (eq-eqb n n refl)

    module _ (counted : IsCounted t) (room : Room) where
      -- what a consumer wanted, but nothing for it
      abbrev held : Consumer → Counts
      held c = if c.number == n then no_counts else want (granted_by t) t.topology c

      -- a consumer that stood wants that
      held_old : (c : Consumer) → Contains t.topology.consumers c → held c ≡ want (granted_by t) t.topology c
      held_old c there = search (rules, ne_eqb c.number n (old_number c there))

      held_comer : held comer ≡ no_counts
      held_comer = ap (λ b. if b then no_counts else want (granted_by t) t.topology comer) (eq-eqb n n refl)

      -- the rows of consumers
      abbrev row : Consumer → ℕ × Counts
      row c = (c.number, held c)

      wants_rows : (mesh room).wants ≡ map row u.consumers
      wants_rows =
          let P : Counts → List (ℕ × Counts) = λ a. map row t.topology.consumers ++ (n, a) ∷ [] in
          ap (λ rows. rows ++ (n, no_counts) ∷ [])
          (counted.wants
          ∙ rows_agree (λ (c : Consumer). c.number) (want (granted_by t) t.topology) held t.topology.consumers
          (λ c there. sym (held_old c there)))
          ∙ ap P (sym held_comer)
          ∙ sym (map-append row t.topology.consumers (comer ∷ []))

      -- the grants are the old ones, at each consumer
      pub same_grants : (c : Consumer) → Contains u.consumers c
          → granted_by (mesh room) c.number ≡ granted_by t c.number
      same_grants c there =
          elim (Contains-push_cases t.topology.consumers comer c there) [
            | inl old ↦
                let found : consumer_at u c.number ≡ Some c =
                found-before (λ (x : Consumer). x.number == c.number) t.topology.consumers (comer ∷ []) c
                (consumer_known t sound c old) in
                at c found
                ∙ ap (λ a. if holds_grants t.topology c.geom then a else no_counts) (held_old c old)
                ∙ sym (granted_found t c.number c (consumer_known t sound c old)
                ∙ ap (λ o. if holds_grants t.topology c.geom then unwrap_or o no_counts else no_counts)
                (ap (λ rows. value_at rows c.number) counted.wants
                ∙ item_at (λ (x : Consumer). x.number) (want (granted_by t) t.topology) c.number
                t.topology.consumers c (consumer_known t sound c old)))
            | inr same ↦
                subst (λ d. granted_by (mesh room) d.number ≡ granted_by t d.number) same
                (at comer comer_found
                ∙ ap (λ a. if holds_grants t.topology geom then a else no_counts) held_comer
                ∙ either (holds_grants t.topology geom)
                ∙ sym (ap (λ o.
                option_map_or
                (λ (x : Consumer). if holds_grants t.topology x.geom then unwrap_or (value_at t.wants n)
                no_counts else no_counts) o no_counts) comer_new))
          ]
        where
          at : (d : Consumer) → consumer_at u d.number ≡ Some d
              → granted_by (mesh room) d.number ≡ (if holds_grants t.topology d.geom then held d else no_counts)
          at d found =
              granted_found (mesh room) d.number d found
              ∙ ap (λ o. if holds_grants t.topology d.geom then unwrap_or o no_counts else no_counts)
              (ap (λ rows. value_at rows d.number) wants_rows
              ∙ item_at (λ (x : Consumer). x.number) held d.number u.consumers d found)

          either : (b : Bool) → (if b then no_counts else no_counts) ≡ no_counts
          either true = refl
          either false = refl

      -- so the mesh is counted, but for it
      comer_counted : IsCountedBut (mesh room) n
      comer_counted =
          let first : DemandStays (granted_by t) t.topology (granted_by t) u AnyConsumer =
          consumer_came (granted_by t) t.topology geom None (λ attached. absurd (cc)) in
          let second : DemandStays (granted_by t) u (granted_by (mesh room)) u (Contains u.consumers) =
          grants_agree (granted_by t) (granted_by (mesh room)) u
          (all_of (λ (c : Consumer). granted_by (mesh room) c.number ≡ granted_by t c.number) u.consumers
          same_grants) in
          record {
            kinds = counted.kinds;
            haves =
                counted.haves
                ∙ rows-same_on (λ (z : Provider). z.number) (have (granted_by t) t.topology)
                (have (granted_by (mesh room)) u) t.topology.providers
                (λ z there. sym (second.haves z.number ∙ first.haves z.number));
            wants =
                wants_rows
                ∙ rows_agree (λ (c : Consumer). c.number) held
                (λ (c : Consumer). if c.number == n then no_counts else want (granted_by (mesh room)) u c) u.consumers
                (λ c there. ap (λ a. if c.number == n then no_counts else a)
                (sym (second.wants c there ∙ first.wants c tt)));
            exclusive = second.exclusive (first.exclusive counted.exclusive);
            limit = second.limit (first.limit counted.limit);
            risen = counted.risen;
            fallen = counted.fallen;
            clear =
                ap (λ (s : Rattle.geo_mesh.specs.Topo.Scratches). record s {
                  consumers =
                      s.consumers ++ (n, no_scratch) ∷ [];
                }) counted.clear
                ∙ ap (λ rows. record (clear_scratches t.topology) { consumers = rows })
                (sym (map-append (λ (c : Consumer). let r : ℕ × Scratch = (c.number, no_scratch) in
                r) t.topology.consumers (comer ∷ [])));
          }

    -- it is attached to nothing
    comer_loose : value_at t.active n ≡ None → (room : Room) → IsLoose (mesh room) n
    comer_loose none room = record {
      free = subst (λ o. IsSomeAnd o (λ (x : Consumer). x.provider ≡ None)) (sym comer_found) refl;
      idle =
          ap (option_map {T = ℕ × ℕ} (λ r. r.1))
          (find-pushed_hit (λ (r : ℕ × ℕ). r.0 == n) t.active (n, 0)
          (none-mapped (λ (r : ℕ × ℕ). r.1) (find (λ (r : ℕ × ℕ). r.0 == n) t.active) none) (eq-eqb n n refl));
    }

-- so a new consumer may join
pub new_consumers_may_join : {C : Type 0} → NewConsumersMayJoin C
new_consumers_may_join = record {
  counted = λ t new geom sound is counted. search (rules, comer_counted t geom sound counted new.room);
  quiet = λ t new geom is quiet. subst IsQuiet (sym is) (record { risen = quiet.risen; fallen = quiet.fallen });
  placed = λ t new geom is placed.
      subst (λ v. IsPlacedBut v.topology t.topology.next_consumer) (sym is)
      (All-push (λ (c : Consumer). c.number ≢ t.topology.next_consumer → c.provider ≡ None
      → filter (λ (y : Provider). y.geom == c.geom) t.topology.providers ≡ [])
      t.topology.consumers (comer t geom)
      (all_of (λ (c : Consumer). c.number ≢ t.topology.next_consumer → c.provider ≡ None
      → filter (λ (y : Provider). y.geom == c.geom) t.topology.providers ≡ []) t.topology.consumers
      (λ c there other. All-contains (λ (d : Consumer). d.provider ≡ None
      → filter (λ (y : Provider). y.geom == d.geom) t.topology.providers ≡ []) t.topology.consumers c placed there))
      (λ other. absurd (other refl)));
  loose = λ t new geom sound is none.
      subst (λ v. IsLoose v t.topology.next_consumer) (sym is) (comer_loose t geom sound none new.room);
  joined = λ t cons prov placed.
      all_of (λ (c : Consumer). c.provider ≡ None → filter (λ (y : Provider). y.geom == c.geom) t.providers ≡ [])
      (attach t cons prov).consumers
      (λ c there.
      let from_one : Origin (λ (y : Consumer). (if y.number == cons then record y { provider = Some prov } else y)
      ≡ c) t.consumers =
      map-Contains (λ (y : Consumer). if y.number == cons then record y { provider = Some prov } else y)
      t.consumers c there in
      was t cons prov placed from_one.item from_one.stands c from_one.fact);
}
  where
    was : {C : Type 0} (t : Topology C) (cons prov : ℕ) → IsPlacedBut t cons → (y : Consumer)
        → Contains t.consumers y → (c : Consumer)
        → (if y.number == cons then record y { provider = Some prov } else y) ≡ c → c.provider ≡ None
        → filter (λ (z : Provider). z.geom == c.geom) t.providers ≡ []
    was t cons prov placed y there c is free =
        elim (cases_eq y.number cons) [
          | inl same ↦
              let e : Some prov ≡ None =
              ap (λ (x : Consumer). x.provider)
              (sym (ap (λ b. if b then record y { provider = Some prov } else y)
              (eq-eqb y.number cons same)) ∙ is) ∙ free in
              absurd (cc)
          | inr other ↦
              let e : y ≡ c =
              sym (ap (λ b. if b then record y { provider = Some prov } else y) (ne_eqb y.number cons other))
              ∙ is in
              subst (λ (x : Consumer). filter (λ (z : Provider). z.geom == x.geom) t.providers ≡ []) e
              (All-contains (λ (d : Consumer). d.number ≢ cons → d.provider ≡ None
              → filter (λ (z : Provider). z.geom == d.geom) t.providers ≡ []) t.consumers y placed there other
              (ap (λ (x : Consumer). x.provider) e ∙ free))
        ]
