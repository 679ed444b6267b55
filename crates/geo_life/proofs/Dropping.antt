-- Parts that go with no count leave grants, the other stored counts and notes.
use Rattle.std.specs.Prelude.{◌≡◌, ◌≢◌, ◌⊎◌, ℕ, ◌==◌, true, false, not, List, [], map, filter, Option, Some, None, Contains, unwrap_or, if◌then◌else◌}
use Rattle.std.specs.Option.{option_map_or}
use Rattle.std.proofs.Common.{refl, sym, ◌∙◌, ap, subst, eq-eqb, rules}
use Rattle.std.proofs.lemmas.Bool.{eqb-true, not-false}
use Rattle.std.proofs.lemmas.List.Elements.{All-contains}
use Rattle.geo_base.specs.declared.request.Counts.{Counts}
use Rattle.geo_model.specs.Words.{is_granted_kind}
use Rattle.geo_model.specs.Topology.{Topology, Geom, Provider, Consumer, consumer_at, attached_to, consumers_of, remove_geom, remove_provider, remove_consumer}
use Rattle.geo_model.specs.Demand.{no_counts, have, want}
use Rattle.geo_slots.specs.Slots.{value_at, without}
use Rattle.geo_mesh.specs.Topo.{TopoView, Scratches, no_scratch, IsButForRoom, without_geom, without_provider, without_consumer}
use Rattle.geo_mesh.specs.Graph.{IsSoundGraph}
use Rattle.geo_laws_graph.proofs.Members.{filter-Contains, Contains-filter, find-Contains, nothing_in}
use Rattle.geo_laws_graph.proofs.Numbered.{at-gone, at-kept}
use Rattle.geo_laws_graph.specs.RankLaws.{RanksStay}
use Rattle.geo_laws_graph.proofs.RankChanges.{removing-stay}
use Rattle.geo_laws_counts.specs.CountWords.{DemandStays, AnyConsumer}
use Rattle.geo_laws_counts.proofs.LimitFacts.{all_of}
use Rattle.geo_laws_counts.proofs.Numbers.{numbers_lead}
use Rattle.geo_laws_counts.proofs.Stays.{grants_agree, consumers_went, provider_went, geom_went}
use Rattle.geo_access.specs.Access.{granted_by, holds_grants, clear_scratches, IsQuiet}
use Rattle.geo_access.proofs.Clearing.{rows-same_on, rows_agree}
use Rattle.geo_access.proofs.Decided.{item_at, consumer_known}
use Rattle.geo_life.specs.Life.{AreStored, CountsStay}
use Rattle.geo_base.proofs.FilterLists.{filter-map}

-- rows of items, without one
without_rows : {X V : Type 0} (key : X → ℕ) (f : X → V) (xs : List X) (n : ℕ)
    → without (map (λ x. (key x, f x)) xs) n ≡ map (λ x. (key x, f x)) (filter (λ x. not (key x == n)) xs)
without_rows {V = V} key f xs n = filter-map (λ (row : ℕ × V). not (row.0 == n)) (λ x. (key x, f x)) xs

-- numbers of rows, without one
without_keys : {X V : Type 0} (key : X → ℕ) (xs : List X) (rows : List (ℕ × V)) (n : ℕ)
    → map (λ row. row.0) rows ≡ map key xs
    → map (λ row. row.0) (without rows n) ≡ map key (filter (λ x. not (key x == n)) xs)
without_keys {V = V} key xs rows n same =
    search (rules, filter-map (λ m. not (m == n)) (λ (row : ℕ × V). row.0) rows, filter-map (λ m. not (m == n)) key xs)

-- what is stored at another number stays
value_kept : {V : Type 0} (rows : List (ℕ × V)) (n m : ℕ) → m ≢ n → value_at (without rows n) m ≡ value_at rows m
value_kept {V} rows n m apart = search (rules, at-kept (λ (row : ℕ × V). row.0) n m apart rows)

module _ {C : Type 0} (t new : TopoView C) where
  -- what the changed mesh has to show: grants, demand and stored wants, and the other rows
  pub record AreLess : Type 0 where
    pub granted : (c : ℕ) → granted_by new c ≡ granted_by t c
    pub demand : (granted : ℕ → Counts) → AreStored granted t
        → DemandStays granted t.topology granted new.topology (Contains new.topology.consumers)
    pub wants : (granted : ℕ → Counts) → AreStored granted t
        → new.wants ≡ map (λ (c : Consumer). (c.number, want granted t.topology c)) new.topology.consumers
    pub haves : (f : ℕ → Counts) → t.haves ≡ map (λ (p : Provider). (p.number, f p.number)) t.topology.providers
        → new.haves ≡ map (λ (p : Provider). (p.number, f p.number)) new.topology.providers
    pub geoms : (g : Geom C) → Contains new.topology.geoms g → Contains t.topology.geoms g
    pub risen_keys : map (λ row. row.0) t.risen ≡ map (λ (p : Provider). p.number) t.topology.providers
        → map (λ row. row.0) new.risen ≡ map (λ (p : Provider). p.number) new.topology.providers
    pub fallen_keys : map (λ row. row.0) t.fallen ≡ map (λ (p : Provider). p.number) t.topology.providers
        → map (λ row. row.0) new.fallen ≡ map (λ (p : Provider). p.number) new.topology.providers
    pub quiet : IsQuiet t → IsQuiet new
    pub clear : t.scratches ≡ clear_scratches t.topology → new.scratches ≡ clear_scratches new.topology

  -- then all that counts keep stays
  pub less_stays : AreLess → CountsStay t new
  less_stays less = record {
    granted = less.granted;
    stored = λ granted stored.
        less.wants granted stored
        ∙ rows_agree (λ (c : Consumer). c.number) (want granted t.topology) (want granted new.topology)
        new.topology.consumers (λ c there. sym ((less.demand granted stored).wants c there));
    counted = λ counted.
        let first : DemandStays (granted_by t) t.topology (granted_by t) new.topology
        (Contains new.topology.consumers) = less.demand (granted_by t) counted.wants in
        let second : DemandStays (granted_by t) new.topology (granted_by new) new.topology
        (Contains new.topology.consumers) =
        grants_agree (granted_by t) (granted_by new) new.topology
        (all_of (λ (c : Consumer). granted_by new c.number ≡ granted_by t c.number) new.topology.consumers
        (λ c there. less.granted c.number)) in
        record {
          kinds =
              all_of (λ (g : Geom C). is_granted_kind g.kind ≡ true → (g.number ≡ 1) ⊎ (g.number ≡ 2))
              new.topology.geoms
              (λ g there.
              All-contains (λ (h : Geom C). is_granted_kind h.kind ≡ true → (h.number ≡ 1) ⊎ (h.number ≡ 2))
              t.topology.geoms g counted.kinds (less.geoms g there));
          haves =
              less.haves (have (granted_by t) t.topology) counted.haves
              ∙ rows-same_on (λ (z : Provider). z.number) (have (granted_by t) t.topology)
              (have (granted_by new) new.topology) new.topology.providers
              (λ z there. sym (second.haves z.number ∙ first.haves z.number));
          wants =
              less.wants (granted_by t) counted.wants
              ∙ rows_agree (λ (c : Consumer). c.number) (want (granted_by t) t.topology)
              (want (granted_by new) new.topology) new.topology.consumers
              (λ c there. sym (second.wants c there ∙ first.wants c there));
          exclusive = second.exclusive (first.exclusive counted.exclusive);
          limit = second.limit (first.limit counted.limit);
          risen = less.risen_keys counted.risen;
          fallen = less.fallen_keys counted.fallen;
          clear = less.clear counted.clear;
        };
    quiet = less.quiet;
  }

-- demand of any consumer is demand of those that stand
of_standing : {C : Type 0} (granted other : ℕ → Counts) (t u : Topology C)
    → DemandStays granted t other u AnyConsumer → DemandStays granted t other u (Contains u.consumers)
of_standing granted other t u any = search rules

module _ {C : Type 0} where
  -- a provider with nothing attached
  pub unused_stays : (t : TopoView C) (p : ℕ) → attached_to t.topology p ≡ [] → CountsStay t (without_provider t p)
  unused_stays t p none =
      search (
        rules,
        less_stays t (without_provider t p)
            (record {
              granted = λ c. refl;
              demand = λ granted stored. of_standing granted granted t.topology
                  (remove_provider t.topology p) (provider_went granted t.topology p none);
              wants = λ granted stored. stored;
              haves = λ f same. ap (λ rows. without rows p) same ∙ without_rows (λ (y : Provider). y.number)
                  (λ y. f y.number) t.topology.providers p;
              geoms = λ g there. there;
              risen_keys = without_keys
                  (λ (y : Provider). y.number) t.topology.providers t.risen p;
              fallen_keys = without_keys
                  (λ (y : Provider). y.number) t.topology.providers t.fallen p;
              quiet = λ quiet. record {
                risen = ap (λ rows. without rows p) quiet.risen ∙ without_rows (λ (y : Provider). y.number) (λ y. false)
                    t.topology.providers p;
                fallen = ap (λ rows. without rows p) quiet.fallen ∙ without_rows
                    (λ (y : Provider). y.number) (λ y. false) t.topology.providers p;
              };
              clear = λ clear. ap
                  (λ (s : Scratches). record s { providers = without s.providers p }) clear ∙ ap
                  (λ rows. record (clear_scratches t.topology) { providers = rows })
                  (without_rows (λ (y : Provider). y.number) (λ y. no_scratch) t.topology.providers p);
            }),
      )

module _ {C : Type 0} (t : TopoView C) (sound : IsSoundGraph t.topology) where
  -- A consumer that holds nothing

  module _ (c : ℕ) (x : Consumer) (found : consumer_at t.topology c ≡ Some x)
      (nothing : value_at t.wants c ≡ Some no_counts) where
    -- it wants nothing
    wants_nothing : (granted : ℕ → Counts) → AreStored granted t → (y : Consumer) → Contains t.topology.consumers y
        → not (y.number == c) ≡ false → want granted t.topology y ≡ no_counts
    wants_nothing granted stored y there gone =
        let is : y.number ≡ c = eqb-true y.number c (not-false (y.number == c) gone) in
        let here : consumer_at t.topology c ≡ Some y =
        search (rules, consumer_known t sound y there) in
        search (rules, item_at (λ (z : Consumer). z.number) (want granted t.topology) c t.topology.consumers y here)

    -- what a consumer of a number is granted, from what is found
    abbrev granted_at : List (ℕ × Counts) → ℕ → Option Consumer → Counts
    granted_at rows n o =
        option_map_or
        (λ (y : Consumer). if holds_grants t.topology y.geom then unwrap_or (value_at rows n) no_counts
        else no_counts) o no_counts

    -- grants stay
    consumer_granted : (n : ℕ) → granted_by (without_consumer t c) n ≡ granted_by t n
    consumer_granted n =
        search (
          rules,
          at-gone (λ (y : Consumer). y.number) c t.topology.consumers,
          ap (granted_at t.wants c) found,
          ap (λ o. if holds_grants t.topology x.geom then unwrap_or o no_counts else no_counts) nothing,
          eq-eqb n c,
          at-kept (λ (y : Consumer). y.number) c n,
          value_kept t.wants c n,
        )

    -- so all that counts keep
    pub dropped_stays : CountsStay t (without_consumer t c)
    dropped_stays =
        search (
          rules,
          less_stays t (without_consumer t c)
              (record {
                granted = consumer_granted;
                demand = λ granted stored. of_standing granted granted t.topology
                    (remove_consumer t.topology c)
                    (consumers_went granted t.topology (λ y. not (y.number == c))
                    (all_of (λ (y : Consumer). not (y.number == c) ≡ false → want granted t.topology y ≡ no_counts)
                    t.topology.consumers (wants_nothing granted stored)));
                wants = λ granted stored. ap
                    (λ rows. without rows c) stored
                    ∙ without_rows (λ (y : Consumer). y.number) (want granted t.topology) t.topology.consumers c;
                haves = λ f same. same;
                geoms = λ g there. there;
                risen_keys = λ same. same;
                fallen_keys = λ same. same;
                quiet = λ quiet. record { risen = quiet.risen; fallen = quiet.fallen };
                clear
                    = λ clear. ap (λ (s : Scratches). record s { consumers = without s.consumers c }) clear ∙ ap
                    (λ rows. record (clear_scratches t.topology) { consumers = rows })
                    (without_rows (λ (y : Consumer). y.number) (λ y. no_scratch) t.topology.consumers c);
              }),
        )

  -- A geom without parts

  module _ (g : ℕ) (none : consumers_of t.topology g ≡ []) where
    -- no consumer is of it
    of_others : (c : Consumer) → Contains t.topology.consumers c → c.geom ≢ g
    of_others c there own =
        nothing_in c (subst (λ ys. Contains ys c) none
        (Contains-filter (λ (z : Consumer). z.geom == g) t.topology.consumers c there (eq-eqb c.geom g own)))

    -- the classes of other geoms stay
    class_stays : (h : ℕ) → h ≢ g → holds_grants (remove_geom t.topology g) h ≡ holds_grants t.topology h
    class_stays h apart = search (rules, at-kept (λ (y : Geom C). y.number) g h apart t.topology.geoms)

    -- what a consumer is granted where these are the classes
    abbrev its_grant : Topology C → ℕ → Option Consumer → Counts
    its_grant u n o =
        option_map_or
        (λ (y : Consumer). if holds_grants u y.geom then unwrap_or (value_at t.wants n) no_counts else no_counts) o
        no_counts

    -- grants stay
    geom_granted : (n : ℕ) → granted_by (without_geom t g) n ≡ granted_by t n
    geom_granted n = by (consumer_at t.topology n) refl
      where
        by : (o : Option Consumer) → consumer_at t.topology n ≡ o
            → its_grant (remove_geom t.topology g) n (consumer_at t.topology n)
            ≡ its_grant t.topology n (consumer_at t.topology n)
        by None e = ap (its_grant (remove_geom t.topology g) n) e ∙ sym (ap (its_grant t.topology n) e)
        by (Some y) e =
            ap (its_grant (remove_geom t.topology g) n) e
            ∙ ap (λ b. if b then unwrap_or (value_at t.wants n) no_counts else no_counts)
            (class_stays y.geom (of_others y
            (find-Contains (λ (z : Consumer). z.number == n) t.topology.consumers y e)))
            ∙ sym (ap (its_grant t.topology n) e)

    -- so all that counts keep
    pub bare_stays : CountsStay t (without_geom t g)
    bare_stays =
        search (
          rules,
          less_stays t (without_geom t g)
              (record {
                granted = geom_granted;
                demand = λ granted stored. geom_went granted t.topology g
                    (RanksStay.ranked (removing-stay.geom t.topology g sound.ranked sound.orderly.parts.geoms none))
                    (numbers_lead t.topology sound.orderly.order.providers.0)
                    (all_of (λ (c : Consumer). c.geom ≢ g) t.topology.consumers of_others);
                wants = λ granted stored. stored;
                haves = λ f same. same;
                geoms = λ h there.
                    (filter-Contains (λ (y : Geom C). not (y.number == g)) t.topology.geoms h there).0;
                risen_keys = λ same.
                    same;
                fallen_keys = λ same. same;
                quiet = λ quiet. record { risen = quiet.risen; fallen = quiet.fallen };
                clear = λ clear. ap (λ (s : Scratches). record s { geoms = without s.geoms g }) clear ∙ ap
                    (λ rows. record (clear_scratches t.topology) { geoms = rows })
                    (without_rows (λ (y : Geom C). y.number) (λ y. no_scratch) t.topology.geoms g);
              }),
        )

-- the room for more geoms isn't counted
pub roomy : {C : Type 0} (t u new : TopoView C) → IsButForRoom new u → CountsStay t u → CountsStay t new
roomy t u new same stay = subst (CountsStay t) (sym same) (search rules)
