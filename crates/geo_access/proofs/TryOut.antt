-- What is tried: the order of the geoms below, and what providers and consumers gain along it.
use Rattle.std.specs.Prelude.{◌≡◌, ℕ, zero, suc, ◌+◌, ◌-◌, ◌==◌, ◌≤◌, ◌^◌, min, Bool, true, false, not, ◌&&◌, List, [], ◌∷◌, length, map, filter_map, fold, Option, Some, None, IsSome, Contains, option_map, if◌then◌else◌, ◌<◌, ◌||◌, IfSome}
use Rattle.std.specs.List.{cons_option, list_all}
use Rattle.std.specs.Option.{option_map_or, option_and_then}
use Rattle.std.proofs.Common.{refl, sym, ◌∙◌, ap, subst, arith, inl, inr, eqb, rules}
use Rattle.std.proofs.lemmas.List.Elements.{All-contains}
use Rattle.geo_base.proofs.Options.{some_of}
use Rattle.geo_base.proofs.FindLists.{find-Contains, some-passes}
use Rattle.geo_base.specs.declared.request.Counts.{Counts}
use Rattle.geo_base.specs.declared.kind.Kind.{Kind}
use Rattle.geo_base.specs.declared.kind.Kind.TheVariants as kinds
use Rattle.geo_base.proofs.MemberLists.{Contains-there, Contains-here, nothing_in, Contains-map}
use Rattle.geo_model.specs.Topology.{Geom, Provider, Consumer, geom_at, provider_at, consumers_of, providers_of}
use Rattle.geo_model.specs.Rank.{geoms_under, rank}
use Rattle.geo_model.specs.Demand.{no_counts, add_counts, sum_counts, is_zero}
use Rattle.geo_mesh.specs.Topo.{TopoView}
use Rattle.geo_mesh.specs.Graph.{IsSoundGraph}
use Rattle.geo_laws_counts.specs.CountWords.{gain_of_kind}
use Rattle.geo_laws_counts.proofs.Sums.{add-zero, add-assoc, zeros-sum, zero-add}
use Rattle.geo_laws_counts.proofs.Upward.{geom_found}
use Rattle.geo_laws_counts.specs.WalkWords.{has_number, order_from, cap, set_at, IsOrder, hand_at, gain_without}
use Rattle.geo_laws_counts.proofs.Orders.{order_within, under-is, order_stays}
use Rattle.geo_laws_counts.proofs.Flows.{cap-add, add-cap, flow_step, flow_first, flow_end}
use Rattle.geo_access.specs.declared.counts.Way.{Way}
use Rattle.geo_access.specs.declared.counts.Weight.{Weight}
use Rattle.geo_access.specs.Tries.{had, made_of}
use Rattle.geo_access.specs.Views.{Gathered, mark_at, gain_at, have_at, put_geom, visit, visit_under, weigh, order_of, gain_of, give, hand, spread_from, gathered_from, numbers_along}
use Rattle.geo_access.proofs.Walking.{offerer_lives, provider_known}
use Rattle.geo_access.proofs.Judging.{zero_min}
use Rattle.geo_access.proofs.Trying.{Tries, trying, trying-mark, trying-geom, head_or, link_in, kept_order, order_tries, link_zero, trying-none, trying-gain, trying-provider, links_order, order_distinct}
use Rattle.std.proofs.lemmas.Bool.{eqb-true, cases_eq, ne_eqb}
use Rattle.std.proofs.lemmas.Map.Steps.{length-le_from_distinct_below}
use Rattle.geo_laws_counts.proofs.LimitFacts.{of_filter}
use Rattle.geo_laws_counts.proofs.Raising.{Demands}
use Rattle.geo_access.specs.declared.order.Order.{Order}
use Rattle.geo_access.specs.Access.{clear_scratches}
use Rattle.geo_access.proofs.Folding.{links_same, spread_marks, spread_graph, fold_leaves}

-- mesh tries that agree are the same mesh
pub trying-same : {C : Type 0} (t : TopoView C) (s u : Tries) → ((n : ℕ) → s.marks n ≡ u.marks n)
    → ((n : ℕ) → s.made n ≡ u.made n) → ((n : ℕ) → s.gains n ≡ u.gains n)
    → trying t s ≡ trying t u
trying-same {C} t s u marks made gains = search rules

module _ {C : Type 0} (t : TopoView C) (sound : IsSoundGraph t.topology) (end : ℕ) (some : 1 ≤ end) where
  -- a geom that lives has a number that isn't zero
  pub lives_positive : (x : ℕ) → IsSome (geom_at t.topology x) → 1 ≤ x
  lives_positive x lives =
      let g = some_of (geom_at t.topology x) lives in
      subst (λ n. 1 ≤ n) (geom_found t.topology x g.0 g.1)
      (All-contains (λ (y : Geom C). 1 ≤ y.number) t.topology.geoms g.0 sound.orderly.numbers.geoms
      (find-Contains (λ (y : Geom C). y.number == x) t.topology.geoms g.0 g.1))

  -- what is directly under a geom lives
  pub under_lives : (x h : ℕ) → IsSome (geom_at t.topology x) → Contains (geoms_under t.topology x) h
      → IsSome (geom_at t.topology h)
  under_lives x h lives there = search (rules, under-is t.topology x h there, offerer_lives t.topology sound)

  -- the mesh and the order while these geoms are in it
  abbrev pub gat : List ℕ → Gathered C
  gat xs = record { view = trying t (order_tries end xs); order = kept_order end xs }

  -- the same of the count
  count_put : (n : ℕ) → min (min n (2 ^ 64 - 1) + 1) (2 ^ 64 - 1) ≡ min (suc n) (2 ^ 64 - 1)
  count_put n = omega arith

  -- a geom is put in front
  pub put_is : (x : ℕ) (xs : List ℕ) → put_geom x (gat xs) ≡ gat (x ∷ xs)
  put_is x xs =
      search (
        rules,
        trying t (order_tries end (x ∷ xs)),
        trying-geom t (order_tries end xs) x (head_or end xs) no_counts,
        trying-same t
            (record (order_tries end xs)
            { marks = set_at (link_in end xs) x (head_or end xs); made = set_at (λ n. no_counts) x no_counts })
            (order_tries end (x ∷ xs)) (λ n. refl),
        order_tries end xs,
        link_in end xs,
        head_or end xs,
        order_tries end (x ∷ xs),
        count_put (length xs),
      )

  -- one more geom, where it isn't there
  abbrev pick : ℕ → List ℕ → ℕ → List ℕ
  pick k ys h = if has_number ys h then ys else order_from k t.topology h ys

  -- the geom of a provider
  abbrev geom_of : ℕ → Option ℕ
  geom_of p = option_map (λ (y : Provider). y.geom) (provider_at t.topology p)

  -- geoms that live
  abbrev AllLive : List ℕ → Type 0
  AllLive xs = (y : ℕ) → Contains xs y → IsSome (geom_at t.topology y)

  module _ (k : ℕ) (so : (h : ℕ) (xs : List ℕ) → IsSome (geom_at t.topology h)
      → AllLive xs
      → visit k h (gat xs) ≡ gat (order_from k t.topology h xs)) where
    -- the walk over these consumers makes the order
    abbrev Walks : List Consumer → Type 0
    Walks cs = (xs : List ℕ) → AllLive xs
        → fold (visit_under k) (gat xs) cs
        ≡ gat (fold (pick k) xs (filter_map geom_of (filter_map (λ (x : Consumer). x.provider) cs)))

    -- over a geom that is there or isn't
    over_geom : (h : ℕ) (cs : List Consumer) (xs : List ℕ) → IsSome (geom_at t.topology h)
        → AllLive xs
        → Walks cs
        → (b m : Bool) → b ≡ not m
        → fold (visit_under k) (option_map_or (λ g. visit k g (gat xs)) (if b then Some h else None) (gat xs)) cs
        ≡ gat (fold (pick k) (if m then xs else order_from k t.topology h xs)
        (filter_map geom_of (filter_map (λ (x : Consumer). x.provider) cs)))
    over_geom h cs xs lives all rest true true e = let no : true ≡ false = e in absurd (cc)
    over_geom h cs xs lives all rest true false e =
        ap (λ s. fold (visit_under k) s cs) (so h xs lives all)
        ∙ rest (order_from k t.topology h xs)
        (order_within t.topology (λ y. IsSome (geom_at t.topology y)) under_lives k h xs lives all)
    over_geom h cs xs lives all rest false true e = rest xs all
    over_geom h cs xs lives all rest false false e = let no : false ≡ true = e in absurd (cc)

    -- over a provider that is found or isn't
    over_provider : (q : ℕ) (o : Option Provider) → provider_at t.topology q ≡ o
        → (cs : List Consumer) (xs : List ℕ) → AllLive xs
        → Walks cs
        → fold (visit_under k) (option_map_or (λ g. visit k g (gat xs))
        (option_and_then (λ (y : Provider). if mark_at (trying t (order_tries end xs)) y.geom
        == 0 then Some y.geom else None) o) (gat xs)) cs
        ≡ gat (fold (pick k) xs
        (cons_option (option_map (λ (y : Provider). y.geom) o)
        (filter_map geom_of (filter_map (λ (x : Consumer). x.provider) cs))))
    over_provider q None found cs xs all rest = rest xs all
    over_provider q (Some y) found cs xs all rest =
        let lives : IsSome (geom_at t.topology y.geom) = offerer_lives t.topology sound q y found in
        over_geom y.geom cs xs lives all rest (mark_at (trying t (order_tries end xs)) y.geom == 0)
        (has_number xs y.geom)
        (ap (λ n. n == 0) (trying-mark t (order_tries end xs) y.geom lives)
        ∙ link_zero end xs y.geom some (λ z there. lives_positive z (all z there)))

    -- over a consumer that is attached or isn't
    over_consumer : (o : Option ℕ) (cs : List Consumer) (xs : List ℕ)
        → AllLive xs
        → Walks cs
        → fold (visit_under k) (option_map_or (λ g. visit k g (gat xs))
        (option_and_then
        (λ q. option_and_then (λ (y : Provider). if mark_at (trying t (order_tries end xs)) y.geom
        == 0 then Some y.geom else None) (provider_at t.topology q)) o) (gat xs)) cs
        ≡ gat (fold (pick k) xs (filter_map geom_of (cons_option o (filter_map (λ (x : Consumer). x.provider) cs))))
    over_consumer None cs xs all rest = rest xs all
    over_consumer (Some q) cs xs all rest = over_provider q (provider_at t.topology q) refl cs xs all rest

    -- over all of a geom's consumers
    over_consumers : (cs : List Consumer) → Walks cs
    over_consumers [] xs all = refl
    over_consumers (c ∷ cs) xs all = over_consumer c.provider cs xs all (over_consumers cs)

  -- what is gathered is the order
  pub visit_is : (k h : ℕ) (xs : List ℕ) → IsSome (geom_at t.topology h)
      → AllLive xs
      → visit k h (gat xs) ≡ gat (order_from k t.topology h xs)
  visit_is zero h xs lives all = refl
  visit_is (suc k) h xs lives all =
      ap (put_geom h) (over_consumers k (visit_is k) (consumers_of t.topology h) xs all)
      ∙ put_is h (fold (pick k) xs (geoms_under t.topology h))

-- What a class makes of what is gained

-- counts are zero just where they are so stopped
pub is_zero-cap : (a : Counts) → is_zero (cap a) ≡ is_zero a
is_zero-cap a = λ i. zero_min a.r i && (zero_min a.w i && zero_min a.e i)

-- one exclusive count more, or none
made_more : (b : Bool) (gains : List Counts)
    → cap (add_counts (cap (sum_counts gains))
    (record { r = 0; w = 0; e = (if b && not (is_zero (cap (sum_counts gains))) then 1 else 0) }))
    ≡ cap (add_counts (sum_counts gains)
    (record { r = 0; w = 0; e = (if b && not (list_all is_zero gains) then 1 else 0) }))
made_more b gains = search (rules, cap-add (sum_counts gains), is_zero-cap (sum_counts gains), zeros-sum gains)

-- it is what the class gains, stopped
pub made_gain : (kind : Kind) (had gains : List Counts)
    → made_of kind (record { sum = cap (sum_counts gains); quiet = list_all is_zero had })
    ≡ cap (gain_of_kind kind had gains no_counts)
made_gain kinds.Dev had gains = refl
made_gain kinds.Taste had gains = refl
made_gain kinds.Disk had gains = refl
made_gain kinds.Nop had gains = cap-add (sum_counts gains) no_counts ∙ ap cap (add-zero (sum_counts gains))
made_gain _ had gains = made_more (list_all is_zero had) gains

-- tests may be grouped otherwise
and-assoc : (a b c : Bool) → ((a && b) && c) ≡ (a && (b && c))
and-assoc true b c = refl
and-assoc false b c = refl

module _ {C : Type 0} (v : TopoView C) (way : Way) (gain small : ℕ → Counts) where
  -- the weight of some providers
  pub weigh_is : (ys : List Provider) → ((y : Provider) → Contains ys y → gain_at v y.number ≡ cap (gain y.number))
      → ((y : Provider) → Contains ys y → had way (have_at v y.number) (gain_at v y.number) ≡ small y.number)
      → (a : Counts) (q : Bool)
      → fold (weigh v way) (record { sum = cap a; quiet = q }) ys
      ≡ record {
        sum = cap (add_counts a (sum_counts (map (λ y. gain y.number) ys)));
        quiet =
            q && list_all is_zero (map (λ y. small y.number) ys);
      }
  weigh_is [] gains smalls a q = search rules
  weigh_is (y ∷ ys) gains smalls a q =
      let make : Counts → Bool → Weight = λ s b. record { sum = s; quiet = b } in
      let rest : Counts = sum_counts (map (λ (z : Provider). gain z.number) ys) in
      let zeros : Bool = list_all is_zero (map (λ (z : Provider). small z.number) ys) in
      ap (λ s. fold (weigh v way) (make s (q && is_zero (had way (have_at v y.number) (gain_at v y.number)))) ys)
      (cap-add a (gain_at v y.number) ∙ ap (λ g. cap (add_counts a g)) (gains y (Contains-here y ys))
      ∙ add-cap a (gain y.number))
      ∙ ap (λ s. fold (weigh v way) (make (cap (add_counts a (gain y.number))) (q && is_zero s)) ys)
      (smalls y (Contains-here y ys))
      ∙ weigh_is ys (λ z there. gains z (Contains-there y z ys there))
      (λ z there. smalls z (Contains-there y z ys there))
      (add_counts a (gain y.number)) (q && is_zero (small y.number))
      ∙ ap (λ s. make (cap s) ((q && is_zero (small y.number)) && zeros)) (add-assoc a (gain y.number) rest)
      ∙ ap (make (cap (add_counts a (add_counts (gain y.number) rest)))) (and-assoc q (is_zero (small y.number)) zeros)

-- The walk over an order

-- what a fold of steps that leave each mark leaves
spreads_mark : {C : Type 0} (way : Way) (xs : List ℕ) (v : TopoView C) (y : ℕ)
    → mark_at (fold (spread_from way) v xs) y ≡ mark_at v y
spreads_mark way xs v y = fold_leaves (λ w. mark_at w y) (spread_from way) (λ w x. spread_marks way w x y) xs v

-- so the order stays
pub spreads_order : {C : Type 0} (way : Way) (xs : List ℕ) (v : TopoView C) (o : Order)
    → order_of (fold (spread_from way) v xs) o ≡ order_of v o
spreads_order way xs v o =
    links_same (mark_at v) (mark_at (fold (spread_from way) v xs)) o.count o.head (λ y there. spreads_mark way xs v y)

-- and the graph
pub spreads_graph : {C : Type 0} (way : Way) (xs : List ℕ) (v : TopoView C)
    → (fold (spread_from way) v xs).topology ≡ v.topology
spreads_graph {C} way = fold_leaves (λ (w : TopoView C). w.topology) (spread_from way) (spread_graph way)

module _ {C : Type 0} (t : TopoView C) (sound : IsSoundGraph t.topology) where
  -- The order

  -- a geom that lives has a number that was given out
  lives_known : (x : ℕ) → IsSome (geom_at t.topology x) → x < t.topology.next_geom
  lives_known x lives =
      let g = some_of (geom_at t.topology x) lives in
      subst (λ n. n < t.topology.next_geom) (geom_found t.topology x g.0 g.1)
      (All-contains (λ n. n < t.topology.next_geom) (map (λ (y : Geom C). y.number) t.topology.geoms) g.0.number
      sound.orderly.order.geoms.1
      (Contains-map (λ (y : Geom C). y.number) t.topology.geoms g.0
      (find-Contains (λ (y : Geom C). y.number == x) t.topology.geoms g.0 g.1)))

  -- there are few enough geoms in an order
  pub order_fits : (xs : List ℕ) → IsOrder t.topology xs
      → ((y : ℕ) → Contains xs y → IsSome (geom_at t.topology y)) → min (length xs) (2 ^ 64 - 1) ≡ length xs
  order_fits xs order all =
      let few : length xs ≤ t.topology.next_geom =
      length-le_from_distinct_below xs t.topology.next_geom (order_distinct t.topology xs order)
      (λ q found. lives_known q (all q (let at = some-passes (eqb q) xs found in
      subst (Contains xs) (sym (eqb-true q at.item at.passes)) at.here))) in
      let fits : t.topology.next_geom < 2 ^ 64 = sound.orderly.numbers.next_geom.fits in
      omega arith

  -- the order that stands in the marks
  pub order_at : (end : ℕ) (xs : List ℕ) (s : Tries) → IsOrder t.topology xs
      → ((y : ℕ) → Contains xs y → IsSome (geom_at t.topology y))
      → ((n : ℕ) → s.marks n ≡ link_in end xs n) → order_of (trying t s) (kept_order end xs) ≡ xs
  order_at end xs s order all marks =
      ap (λ n. numbers_along (mark_at (trying t s)) n (head_or end xs)) (order_fits xs order all)
      ∙ links_same (link_in end xs) (mark_at (trying t s)) (length xs) (head_or end xs)
      (λ y there. trying-mark t s y
      (all y (subst (λ ys. Contains ys y) (links_order t.topology end xs order) there)) ∙ marks y)
      ∙ links_order t.topology end xs order

  -- What is handed down

  -- by one consumer
  hand_one : (s : Tries) (m : Counts) (c : Consumer) → IfSome c.provider (λ q. IsSome (provider_at t.topology q))
      → hand m (trying t s) c ≡ trying t (record s { gains = hand_at m s.gains c })
  hand_one s m c lives = by c.provider lives
    where
      by : (o : Option ℕ) → IfSome o (λ q. IsSome (provider_at t.topology q))
          → option_map_or (give m (trying t s)) o (trying t s)
          ≡ trying t (record s {
            gains =
                option_map_or (λ q. set_at s.gains q (cap (add_counts (s.gains q) m))) o s.gains;
          })
      by None there = refl
      by (Some q) there =
          trying-provider t s q (cap (add_counts (gain_at (trying t s) q) m))
          ∙ ap (λ a. trying t (record s { gains = set_at s.gains q (cap (add_counts a m)) })) (trying-gain t s q there)

  -- by some consumers
  pub hand_all : (m : Counts) (cs : List Consumer) (s : Tries)
      → ((c : Consumer) → Contains cs c → IfSome c.provider (λ q. IsSome (provider_at t.topology q)))
      → fold (hand m) (trying t s) cs ≡ trying t (record s { gains = fold (hand_at m) s.gains cs })
  hand_all m [] s lives = refl
  hand_all m (c ∷ cs) s lives =
      ap (λ v. fold (hand m) v cs) (hand_one s m c (lives c (Contains-here c cs)))
      ∙ hand_all m cs (record s { gains = hand_at m s.gains c }) (λ d there. lives d (Contains-there c d cs there))

  -- the providers to which a geom's consumers are attached live
  pub places_live : (x : ℕ) (c : Consumer) → Contains (consumers_of t.topology x) c
      → IfSome c.provider (λ q. IsSome (provider_at t.topology q))
  places_live x c there =
      All-contains (λ (d : Consumer). IfSome d.provider (λ q. IsSome (provider_at t.topology q)))
      t.topology.consumers c sound.orderly.parts.providers
      (of_filter (λ (d : Consumer). d.geom == x) t.topology.consumers c there).0

  -- from one geom
  pub spread_one : (way : Way) (s : Tries) (x : ℕ) (m : Counts) → IsSome (geom_at t.topology x)
      → gain_of (trying t s) way x ≡ m
      → spread_from way (trying t s) x
      ≡ trying t (record s {
        made = set_at s.made x m;
        gains =
            fold (hand_at m) s.gains (consumers_of t.topology x);
      })
  spread_one way s x m lives is =
      ap (λ a. fold (hand a)
      (Rattle.geo_mesh.specs.Topo.with_geom_scratch (trying t s) x (record {
        mark = mark_at (trying t s) x;
        trial = a;
      })) (consumers_of t.topology x)) is
      ∙ ap (λ v. fold (hand m) v (consumers_of t.topology x))
      (trying-geom t s x (mark_at (trying t s) x) m
      ∙ trying-same t (record s { marks = set_at s.marks x (mark_at (trying t s) x); made = set_at s.made x m })
      (record s { made = set_at s.made x m })
      (λ n. kept n (n == x) refl) (λ n. refl) (λ n. refl))
      ∙ hand_all m (consumers_of t.topology x) (record s { made = set_at s.made x m }) (places_live x)
    where
      kept : (n : ℕ) (b : Bool) → (n == x) ≡ b → (if b then mark_at (trying t s) x else s.marks n) ≡ s.marks n
      kept n true e = trying-mark t s x lives ∙ ap s.marks (sym (eqb-true n x e))
      kept n false e = refl

  module _ (way : Way) (p : ℕ) (first : Counts) (small gain : ℕ → Counts) (more : Consumer → Counts) (order : List ℕ)
      (demand : Demands t.topology p first small gain more order)
      (shrinks : (y : Provider) → Contains t.topology.providers y
      → had way (have_at t y.number) (cap (gain y.number)) ≡ small y.number) where
    -- what a geom of the order gains, where all above have handed down
    gain_is : (s : Tries) (x : ℕ) (rest : List ℕ) (g : Geom C) → IsOrder t.topology (x ∷ rest)
        → geom_at t.topology x ≡ Some g
        → ((q : ℕ) → s.gains q ≡ gain_without t.topology p first more (x ∷ rest) q)
        → gain_of (trying t s) way x
        ≡ cap (gain_of_kind g.kind (map (λ y. small y.number) (providers_of t.topology g.number))
        (map (λ y. gain y.number) (providers_of t.topology g.number)) no_counts)
    gain_is s x rest g ordered found now =
        let ys : List Provider = providers_of t.topology x in
        let at : (y : Provider) → Contains ys y → gain_at (trying t s) y.number ≡ cap (gain y.number) =
        λ y there.
        let inside = of_filter (λ (z : Provider). z.geom == x) t.topology.providers y there in
        let known : provider_at t.topology y.number ≡ Some y = provider_known t sound y inside.0 in
        trying-gain t s y.number (subst (λ o. IsSome o) (sym known) refl) ∙ now y.number
        ∙ flow_first t.topology p first gain more order demand.flow x rest ordered y known
        (eqb-true y.geom x inside.1) in
        let kind : Weight → Counts = λ w. made_of g.kind w in
        ap (λ o. option_map_or
        (λ (h : Geom C).
        made_of h.kind (fold (weigh (trying t s) way) (record { sum = no_counts; quiet = true }) ys)) o
        no_counts) found
        ∙ ap kind
        (weigh_is (trying t s) way gain small ys at
        (λ y there. ap (had way (have_at t y.number)) (at y there)
        ∙ shrinks y (of_filter (λ (z : Provider). z.geom == x) t.topology.providers y there).0)
        no_counts true)
        ∙ ap (λ a. kind
        (record { sum = cap a; quiet = list_all is_zero (map (λ (y : Provider). small y.number) ys) }))
        (zero-add (sum_counts (map (λ (y : Provider). gain y.number) ys)))
        ∙ made_gain g.kind (map (λ y. small y.number) ys) (map (λ y. gain y.number) ys)
        ∙ ap (λ n. cap (gain_of_kind g.kind (map (λ (y : Provider). small y.number) (providers_of t.topology n))
        (map (λ (y : Provider). gain y.number) (providers_of t.topology n)) no_counts))
        (sym (geom_found t.topology x g found))

    -- what the walk over an order comes to
    pub record Spread (xs : List ℕ) (s : Tries) : Type 0 where
      pub tries : Tries
      pub is : fold (spread_from way) (trying t s) xs ≡ trying t tries
      pub marks : (n : ℕ) → tries.marks n ≡ s.marks n
      pub gains : (q : ℕ) → tries.gains q ≡ cap (gain q)
      pub made : (c : Consumer) → Contains t.topology.consumers c
          → tries.made c.geom ≡ (if has_number xs c.geom then cap (more c) else s.made c.geom)
      pub others : (n : ℕ) → (Contains xs n → ⊥) → tries.made n ≡ s.made n

    -- over one geom more
    made_step : (x : ℕ) (xs : List ℕ) (m μ : Counts) (old new : ℕ → Counts) (c : Consumer) → (Contains xs x → ⊥)
        → m ≡ cap μ → (c.geom ≡ x → more c ≡ μ)
        → new c.geom ≡ (if has_number xs c.geom then cap (more c) else set_at old x m c.geom)
        → new c.geom ≡ (if (x == c.geom) || has_number xs c.geom then cap (more c) else old c.geom)
    made_step x xs m μ old new c apart is makes so =
        elim (cases_eq c.geom x) [
          | inl same ↦
              search rules
          | inr other ↦
              so
              ∙ ap (λ b. if has_number xs c.geom then cap (more c) else (if b then m else old c.geom))
              (ne_eqb c.geom x other)
              ∙ sym (ap (λ b. if b || has_number xs c.geom then cap (more c) else old c.geom)
              (ne_eqb x c.geom (λ e. other (sym e))))
        ]

    -- what it comes to
    pub spread_all : (xs : List ℕ) (s : Tries) → IsOrder t.topology xs
        → ((y : ℕ) → Contains xs y → IsSome (geom_at t.topology y))
        → ((q : ℕ) → s.gains q ≡ gain_without t.topology p first more xs q) → Spread xs s
    spread_all [] s ordered all now = record {
      tries = s;
      is = refl;
      marks = λ n. refl;
      gains = λ q. now q ∙ flow_end t.topology p first gain more order demand.flow q;
      made = λ c there. refl;
      others = λ n away. refl;
    }
    spread_all (x ∷ xs) s ordered all now =
        let g = some_of (geom_at t.topology x) (all x (Contains-here x xs)) in
        let μ : Counts =
        gain_of_kind g.0.kind (map (λ y. small y.number) (providers_of t.topology g.0.number))
        (map (λ y. gain y.number) (providers_of t.topology g.0.number)) no_counts in
        let m : Counts = gain_of (trying t s) way x in
        let is : m ≡ cap μ = gain_is s x xs g.0 ordered g.1 now in
        let makes : (c : Consumer) → Contains t.topology.consumers c → c.geom ≡ x → more c ≡ μ =
        λ c there same. demand.makes c g.0 there (ap (geom_at t.topology) same ∙ g.1) in
        let next : Tries =
        record s { made = set_at s.made x m; gains = fold (hand_at m) s.gains (consumers_of t.topology x) } in
        let rest : Spread xs next =
        spread_all xs next ordered.2 (λ y there. all y (Contains-there x y xs there))
        (flow_step t.topology p first more x xs m μ s.gains now is makes ordered.0) in
        record {
          tries = rest.tries;
          is = ap (λ v. fold (spread_from way) v xs) (spread_one way s x m (all x (Contains-here x xs)) refl) ∙ rest.is;
          marks = rest.marks;
          gains = rest.gains;
          made = λ c there. made_step x xs m μ s.made rest.tries.made c ordered.0 is (makes c there)
              (rest.made c there);
          others = λ n away.
              rest.others n (λ there. away (Contains-there x n xs there))
              ∙ ap (λ b. if b then m else s.made n)
              (ne_eqb n x (λ same. away (subst (Contains (x ∷ xs)) (sym same) (Contains-here x xs))));
        }

  -- From a mesh in which nothing is tried

  module _ (clear : t.scratches ≡ clear_scratches t.topology) (x : ℕ) (lives : IsSome (geom_at t.topology x))
      (positive : 1 ≤ x) where
    -- the geoms below, each before those below it
    abbrev pub the_order : List ℕ
    the_order = order_from (rank t.topology x) t.topology x []

    -- they are in order
    pub the_order_is : IsOrder t.topology the_order
    the_order_is = search (rules, order_stays t.topology sound.ranked (rank t.topology x) x)

    -- and live
    pub the_order_lives : (y : ℕ) → Contains the_order y → IsSome (geom_at t.topology y)
    the_order_lives =
        order_within t.topology (λ y. IsSome (geom_at t.topology y)) (under_lives t sound x positive)
        (rank t.topology x) x [] lives (λ y there. absurd (nothing_in y there))

    -- what is gathered
    pub gathered_is : gathered_from t x ≡ record {
      view = trying t (order_tries x the_order);
      order =
          kept_order x the_order;
    }
    gathered_is =
        let P : TopoView C → Gathered C =
        λ v. visit (rank t.topology x) x (record { view = v; order = record { head = x; count = 0 } }) in
        ap P (sym (trying-none t clear))
        ∙ visit_is t sound x positive (rank t.topology x) x [] lives (λ y there. absurd (nothing_in y there))
