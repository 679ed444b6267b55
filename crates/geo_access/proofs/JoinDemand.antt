-- A consumer that would join: the mesh around it is told, what it wants, and that it is a demand at its provider.
use Rattle.std.specs.Prelude.{◌≡◌, ◌≢◌, ℕ, ◌==◌, Bool, true, false, List, [], ◌∷◌, map, fold, Some, None, IsSome, Contains, unwrap_or, if◌then◌else◌, ◌⊎◌}
use Rattle.std.specs.Option.{option_map_or}
use Rattle.std.proofs.Common.{refl, sym, ◌∙◌, ap, eq-eqb, subst, arith, inl, inr, rules}
use Rattle.std.proofs.lemmas.Bool.{eqb-true, ne_eqb, cases_eq}
use Rattle.std.proofs.lemmas.List.Elements.{All-contains}
use Rattle.geo_base.proofs.Options.{some_of}
use Rattle.geo_base.proofs.FindLists.{found_in}
use Rattle.geo_base.specs.declared.request.Counts.{Counts}
use Rattle.geo_base.specs.declared.kind.Kind.{Kind}
use Rattle.geo_base.specs.declared.kind.Kind.TheVariants as kinds
use Rattle.geo_base.proofs.MemberLists.{Contains-there, Contains-here}
use Rattle.geo_model.specs.Words.{names_number, is_granted_kind, change_where}
use Rattle.geo_model.specs.Topology.{Geom, Provider, Consumer, geom_at, consumer_at, providers_of, attached_to, Topology, attach, detach}
use Rattle.geo_model.specs.Demand.{no_counts, add_counts, sum_counts, want_of_kind, have, want}
use Rattle.geo_slots.specs.Slots.{value_at}
use Rattle.geo_mesh.specs.Topo.{TopoView}
use Rattle.geo_mesh.specs.Graph.{IsSoundGraph}
use Rattle.geo_laws_counts.specs.CountWords.{gain_of_kind, more_counts}
use Rattle.geo_laws_counts.proofs.Sums.{add-zero, add-assoc, zero-add, counts-same, more-add, add-more}
use Rattle.geo_laws_counts.proofs.LimitFacts.{of_filter, all_of}
use Rattle.geo_laws_counts.proofs.Upward.{names_some, geom_found, have_is_sum}
use Rattle.geo_laws_counts.specs.WalkWords.{cap}
use Rattle.geo_laws_counts.proofs.Flows.{cap-add}
use Rattle.geo_access.specs.Access.{granted_by}
use Rattle.geo_access.specs.Views.{have_at, want_at}
use Rattle.geo_access.specs.Tries.{made_of}
use Rattle.geo_access.specs.Join.{IsLoose, IsCountedBut, with_have_of, wanted_of, wanted}
use Rattle.geo_access.proofs.TryOut.{made_gain}
use Rattle.geo_access.proofs.Decided.{item_at, IsTold, IsDemand, nothing_granted}
use Rattle.std.specs.List.{AllByRecursion}
use Rattle.std.proofs.lemmas.List.Kept.{AllPairs-from_increasing}
use Rattle.geo_model.specs.Opens.{below}
use Rattle.geo_model.specs.Graph.{IsInOrder}
use Rattle.geo_laws_graph.specs.LookupLaws.{AttachedIsFound}
use Rattle.geo_laws_graph.proofs.Found.{attached-found}
use Rattle.geo_laws_graph.proofs.Members.{Origin, Contains-map, map-Contains, at_contained}
use Rattle.geo_laws_graph.proofs.Numbered.{unique}
use Rattle.geo_laws_counts.proofs.Numbers.{found_of}
use Rattle.geo_laws_counts.proofs.Raising.{Demands, Covers, more-same, outside}
use Rattle.geo_laws_growth.specs.JoinLaws.{Joins, JoiningRaises, JoiningKeepsBelow, JoiningChangesBelow, JoiningGains}
use Rattle.geo_laws_growth.proofs.Joining.{joined_known, its_number, it_stands, joining_raises}
use Rattle.geo_laws_growth.proofs.JoiningBelow.{joining_keeps_below, joining_changes_below}
use Rattle.geo_laws_growth.proofs.JoiningGains.{joining_gains}
use Rattle.geo_access.proofs.Verdict.{After}
use Rattle.geo_access.proofs.Walking.{provider_known, consumer_known, consumer_only}

-- from nothing a class's consumer gains what it wants
gain_is_want : (kind : Kind) (haves : List Counts) (grant : Counts) → (is_granted_kind kind ≡ true → grant ≡ no_counts)
    → gain_of_kind kind [] haves no_counts ≡ want_of_kind kind haves grant
gain_is_want kinds.Dev haves grant none = sym (none refl)
gain_is_want kinds.Taste haves grant none = sym (none refl)
gain_is_want kinds.Nop haves grant none = sym (add-zero (sum_counts haves))
gain_is_want _ haves grant none = refl

-- the counts of some providers, stopped
haves_are : {C : Type 0} (v : TopoView C) (f : ℕ → Counts) (ys : List Provider)
    → ((y : Provider) → Contains ys y → have_at v y.number ≡ f y.number)
    → (a : Counts) → fold (with_have_of v) (cap a) ys ≡ cap (add_counts a (sum_counts (map (λ y. f y.number) ys)))
haves_are v f [] same a = ap cap (sym (add-zero a))
haves_are v f (y ∷ ys) same a =
    ap (λ s. fold (with_have_of v) s ys) (cap-add a (have_at v y.number)
    ∙ ap (λ h. cap (add_counts a h)) (same y (Contains-here y ys)))
    ∙ haves_are v f ys (λ z there. same z (Contains-there y z ys there)) (add_counts a (f y.number))
    ∙ ap cap (add-assoc a (f y.number) (sum_counts (map (λ (z : Provider). f z.number) ys)))

-- a consumer that is attached to nothing
pub record Loose {C : Type 0} (t : TopoView C) (cons : ℕ) : Type 0 where
  pub one : Consumer
  pub found : consumer_at t.topology cons ≡ Some one
  pub free : one.provider ≡ None

-- is what the condition says
pub loose_is : {C : Type 0} (t : TopoView C) (cons : ℕ) → IsLoose t cons → Loose t cons
loose_is t cons loose = search rules

module _ {C : Type 0} {t : TopoView C} {cons : ℕ} (sound : IsSoundGraph t.topology) (counted : IsCountedBut t cons)
    (loose : Loose t cons) where
  -- it stands, with its number
  loose_is_in : Contains t.topology.consumers loose.one × ((loose.one.number == cons) ≡ true)
  loose_is_in = found_in (λ (c : Consumer). c.number == cons) t.topology.consumers loose.one loose.found

  pub loose_number : loose.one.number ≡ cons
  loose_number = eqb-true loose.one.number cons loose_is_in.1

  -- a consumer of its number is it
  pub loose_only : (c : Consumer) → Contains t.topology.consumers c → c.number ≡ cons → c ≡ loose.one
  loose_only = consumer_only t sound cons loose.one loose.found

  -- a consumer that is attached is another one
  pub attached_other : (q : ℕ) (c : Consumer) → Contains (attached_to t.topology q) c → c.number ≢ cons
  attached_other q c at same =
      let inside = of_filter (λ (d : Consumer). names_number d.provider q) t.topology.consumers c at in
      let e : None ≡ Some q = sym loose.free ∙ ap (λ (d : Consumer). d.provider) (sym (loose_only c inside.0 same))
      ∙ names_some c.provider q inside.1 in
      cc

  -- the stored counts of another consumer are the model's
  pub other_stored : (c : Consumer) → Contains t.topology.consumers c → c.number ≢ cons
      → want_at t c.number ≡ want (granted_by t) t.topology c
  other_stored c there other =
      search (
        rules,
        item_at (λ (x : Consumer). x.number)
            (λ (x : Consumer). if x.number == cons then no_counts else want (granted_by t) t.topology x) c.number
            t.topology.consumers c (consumer_known t sound c there),
      )

  -- and it holds nothing
  pub nothing_stored : value_at t.wants cons ≡ Some no_counts
  nothing_stored =
      ap (λ rows. value_at rows cons) counted.wants
      ∙ item_at (λ (x : Consumer). x.number)
      (λ (x : Consumer). if x.number == cons then no_counts else want (granted_by t) t.topology x) cons
      t.topology.consumers loose.one loose.found
      ∙ ap (λ b. Some (if b then no_counts else want (granted_by t) t.topology loose.one))
      (eq-eqb loose.one.number cons loose_number)

  -- so the mesh is told
  abbrev pub but_told : IsTold t
  but_told = record {
    haves = counted.haves;
    wants = λ q c at.
        other_stored c (of_filter (λ (d : Consumer). names_number d.provider q) t.topology.consumers c at).0
        (attached_other q c at);
    exclusive = counted.exclusive;
    limit = counted.limit;
    clear = counted.clear;
  }

  -- what it wants
  pub wanted_is : wanted t cons ≡ cap (want (granted_by t) t.topology loose.one)
  wanted_is =
      let x : ℕ = loose.one.geom in
      let ys : List Provider = providers_of t.topology x in
      let haves : List Counts = map (λ (y : Provider). have (granted_by t) t.topology y.number) ys in
      let g = some_of (geom_at t.topology x)
      (All-contains (λ (d : Consumer). IsSome (geom_at t.topology d.geom)) t.topology.consumers loose.one
      sound.orderly.parts.geoms loose_is_in.0) in
      ap (λ o. option_map_or (λ (c : Consumer). wanted_of t c.geom) o no_counts) loose.found
      ∙ ap (λ o. option_map_or
      (λ (h : Geom C). made_of h.kind (record { sum = fold (with_have_of t) no_counts ys; quiet = true })) o
      no_counts) g.1
      ∙ ap (λ s. made_of g.0.kind (record { sum = s; quiet = true }))
      (haves_are t (have (granted_by t) t.topology) ys
      (λ y there. stored y (of_filter (λ (z : Provider). z.geom == x) t.topology.providers y there).0) no_counts
      ∙ ap cap (zero-add (sum_counts haves)))
      ∙ made_gain g.0.kind [] haves
      ∙ ap cap
      (gain_is_want g.0.kind haves (granted_by t loose.one.number) (λ kind. ap (granted_by t) loose_number
      ∙ nothing_granted t cons loose.one loose.found nothing_stored)
      ∙ ap (λ n. want_of_kind g.0.kind
      (map (λ (y : Provider). have (granted_by t) t.topology y.number) (providers_of t.topology n))
      (granted_by t loose.one.number)) (sym (geom_found t.topology x g.0 g.1))
      ∙ sym (ap (λ o.
      option_map_or
      (λ (h : Geom C).
      want_of_kind h.kind
      (map (λ (y : Provider). have (granted_by t) t.topology y.number)
      (providers_of t.topology h.number)) (granted_by t loose.one.number)) o no_counts) g.1))
    where
      stored : (y : Provider) → Contains t.topology.providers y
          → have_at t y.number ≡ have (granted_by t) t.topology y.number
      stored y there =
          ap (λ rows. unwrap_or (value_at rows y.number) no_counts) counted.haves
          ∙ ap (λ o. unwrap_or o no_counts)
          (item_at (λ (z : Provider). z.number) (λ (z : Provider). have (granted_by t) t.topology z.number)
          y.number t.topology.providers y (provider_known t sound y there))

-- With it attached

-- a list in which nothing changes is the same
pub change_none : {X : Type 0} (test : X → Bool) (change : X → X) (xs : List X)
    → AllByRecursion (λ x. test x ≡ true → change x ≡ x) xs → map (λ x. if test x then change x else x) xs ≡ xs
change_none test change [] same = refl
change_none {X} test change (x ∷ xs) same =
    ap (λ ys. (if test x then change x else x) ∷ ys) (change_none test change xs same.1)
    ∙ ap (λ y. y ∷ xs) (by (test x) same.0)
  where
    by : (b : Bool) → (b ≡ true → change x ≡ x) → (if b then change x else x) ≡ x
    by true so = so refl
    by false so = refl

-- two changes in a row are one
change_twice : {X : Type 0} (test : X → Bool) (f g : X → X) → ((x : X) → test (f x) ≡ test x) → (xs : List X)
    → change_where test g (change_where test f xs) ≡ change_where test (λ x. g (f x)) xs
change_twice test f g same [] = refl
change_twice {X} test f g same (x ∷ xs) =
    ap (λ ys. (if test (if test x then f x else x) then g (if test x then f x else x) else
    (if test x then f x else x)) ∷ ys) (change_twice test f g same xs)
    ∙ ap (λ y. y ∷ change_where test (λ z. g (f z)) xs) (by (test x) refl)
  where
    by : (b : Bool) → test x ≡ b
        → (if test (if b then f x else x) then g (if b then f x else x) else (if b then f x else x))
        ≡ (if b then g (f x) else x)
    by true e = ap (λ c. if c then g (f x) else f x) (same x ∙ e)
    by false e = ap (λ c. if c then g x else x) e

-- a consumer that wasn't attached is detached again
pub detached_again : {C : Type 0} (t : Topology C) (c p : ℕ) (x : Consumer) → IsInOrder t
    → consumer_at t c ≡ Some x → x.provider ≡ None → detach (attach t c p) c ≡ t
detached_again t c p x order found free =
    ap (λ cs. record t { consumers = cs })
    (change_twice (λ (y : Consumer). y.number == c) (λ y. record y { provider = Some p })
    (λ y. record y { provider = None }) (λ y. refl) t.consumers
    ∙ change_none (λ (y : Consumer). y.number == c) (λ y. record y { provider = None }) t.consumers
    (each t.consumers (unique (λ (y : Consumer). y.number) t.next_consumer c t.consumers x order.consumers found)))
  where
    each : (cs : List Consumer) → AllByRecursion (λ (y : Consumer). (y.number == c) ≡ true → y ≡ x) cs
        → AllByRecursion (λ (y : Consumer). (y.number == c) ≡ true → (record y { provider = None }) ≡ y) cs
    each [] all = tt
    each (y ∷ ys) all = search (rules, each ys all.1)

module _ {C : Type 0} (granted : ℕ → Counts) {t : Topology C} {c p : ℕ} (j : Joins t c p) where
  -- the graph with it
  abbrev pub joined : Topology C
  joined = attach t c p

  -- what it wants then
  abbrev pub joined_want : Counts
  joined_want = want granted joined j.consumer

  -- it wants what it wanted
  pub joined_want_is : joined_want ≡ want granted t j.consumer
  joined_want_is = JoiningChangesBelow.own joining_changes_below granted t c p j

  -- what providers and consumers gain by it
  abbrev pub join_gains : ℕ → Counts
  join_gains q = more_counts (have granted t q) (have granted joined q)

  abbrev pub join_mores : Consumer → Counts
  join_mores d = more_counts (want granted t d) (want granted joined d)

  -- each gains the sum of what stands above gains, and p what the consumer wants
  join_sums : (q : ℕ)
      → join_gains q
      ≡ add_counts (if p == q then joined_want else no_counts) (sum_counts (map join_mores (attached_to t q)))
  join_sums q =
      let first : Counts = if p == q then joined_want else no_counts in
      let sum : Counts = sum_counts (map join_mores (attached_to t q)) in
      ap (more_counts (have granted t q)) (JoiningGains.providers joining_gains granted t c p j q)
      ∙ more-add (have granted t q) (add_counts sum first)
      ∙ counts-same (add_counts sum first) (add_counts first sum) (omega arith) (omega arith) (omega arith)

  -- How the graph with it stands to the one without

  -- the consumer, attached
  abbrev pub joiner : Consumer
  joiner = record j.consumer { provider = Some p }

  -- the change at a consumer
  abbrev put : Consumer → Consumer
  put d = if d.number == c then record d { provider = Some p } else d

  -- another one stays
  put_other : (d : Consumer) → d.number ≢ c → put d ≡ d
  put_other d other = ap (λ b. if b then record d { provider = Some p } else d) (ne_eqb d.number c other)

  -- a consumer of that number is it
  its_only : (d : Consumer) → Contains t.consumers d → d.number ≡ c → d ≡ j.consumer
  its_only d there same =
      at_contained (λ (y : Consumer). (y.number == c) ≡ true → y ≡ j.consumer) t.consumers d
      (unique (λ (y : Consumer). y.number) t.next_consumer c t.consumers j.consumer j.order.consumers j.stands)
      there (eq-eqb d.number c same)

  put_it : put j.consumer ≡ joiner
  put_it = ap (λ b. if b then joiner else j.consumer) (eq-eqb j.consumer.number c (its_number t c p j))

  -- another consumer stands in both
  pub other_stays : (d : Consumer) → Contains t.consumers d → d.number ≢ c → Contains joined.consumers d
  other_stays d there other = search (rules, Contains-map put t.consumers d there)

  -- a consumer of the new graph is it, or another one that stood
  pub joined_cases : (d : Consumer) → Contains joined.consumers d
      → (d ≡ joiner) ⊎ (Contains t.consumers d × (d.number ≢ c))
  joined_cases d there =
      let from_one : Origin (λ y. put y ≡ d) t.consumers = map-Contains put t.consumers d there in
      elim (cases_eq from_one.item.number c) [
        | inl same ↦ inl (sym from_one.fact ∙ ap put (its_only from_one.item from_one.stands same) ∙ put_it)
        | inr other ↦
            let is : from_one.item ≡ d = sym (put_other from_one.item other) ∙ from_one.fact in
            inr (subst (Contains t.consumers) is from_one.stands, subst (λ (y : Consumer). y.number ≢ c) is other)
      ]

  -- none that was attached is it
  pub was_other : (q : ℕ) (d : Consumer) → Contains (attached_to t q) d → Contains t.consumers d × (d.number ≢ c)
      × (names_number d.provider q ≡ true)
  was_other q d at =
      search (
        rules,
        of_filter (λ (x : Consumer). names_number x.provider q) t.consumers d,
        its_only d,
        names_some d.provider q,
      )

  -- a consumer that stood wants what it wanted and gains
  pub old_want : (d : Consumer) → want granted joined d ≡ add_counts (want granted t d) (join_mores d)
  old_want d =
      sym (add-more (want granted t d) (want granted joined d) (JoiningRaises.wants joining_raises granted t c p j d))

  -- how the graph with it stands to the one without
  pub join_after : After t p c joined_want granted granted joined join_gains join_mores
  join_after = record {
    providers = refl;
    stays = JoiningChangesBelow.around joining_changes_below granted t c p j;
    haves = λ q.
        sym (add-more (have granted t q) (have granted joined q)
        (JoiningRaises.counts joining_raises granted t c p j q));
    sums = λ q. have_is_sum joined j.after (joined_known t c p j) granted q;
    opener = joiner;
    opener_there =
        subst (Contains joined.consumers) put_it (Contains-map put t.consumers j.consumer (it_stands t c p j));
    opener_place = refl;
    opener_is = its_number t c p j;
    opener_wants = refl;
    cases = joined_cases;
    kept = other_stays;
    others = λ d there other. old_want d;
    own_none = λ q d at same. absurd ((was_other q d at).1 same);
    found =
        found_of (λ (x : Consumer). x.number) joined.consumers
        (AllPairs-from_increasing (map (λ (x : Consumer). x.number) joined.consumers)
        (AttachedIsFound.order attached-found t c p j.order).consumers.0);
    errors = JoiningKeepsBelow.errors joining_keeps_below t c p j;
  }

  -- what it makes them gain is a demand
  join_demands : (order : List ℕ) → Covers t p order
      → Demands t p joined_want (have granted t) join_gains join_mores order
  join_demands order covers = record {
    flow = record {
      sums = join_sums;
      around = λ d there away.
          more-same (want granted t d) (want granted joined d)
          (JoiningChangesBelow.wants joining_changes_below granted t c p j d
          (all_of (λ (y : Provider). Contains (below t p) y.number
          → ⊥) (providers_of t d.geom) (outside t (joined_known t c p j) p order covers d.geom away)));
    };
    makes = λ d g there found.
        ap (more_counts (want granted t d)) (JoiningGains.consumers joining_gains granted t c p j d g found)
        ∙ more-add (want granted t d)
        (gain_of_kind g.kind (map (λ y. have granted t y.number) (providers_of t g.number))
        (map (λ y. join_gains y.number) (providers_of t g.number)) no_counts);
  }

-- so it is a demand of the mesh
pub join_demand : {C : Type 0} {t : TopoView C} {c p : ℕ} (j : Joins t.topology c p) (order : List ℕ)
    → Covers t.topology p order
    → IsDemand t p c (joined_want (granted_by t) j) (granted_by t) (attach t.topology c p) order
join_demand {C} {t} j order covers =
    search (rules, join_after (granted_by t) j, join_demands (granted_by t) j order covers)
