-- Loops as folds: over what is left of a walk, and over what is left of an order; and how an order is gathered.
use Rattle.std.specs.Prelude.{◌≡◌, ◌≢◌, ℕ, zero, suc, ◌+◌, ◌==◌, Bool, true, false, cond, List, [], ◌∷◌, length, filter_map, find, fold, Option, Some, None, Contains, option_map, ◌<◌, ◌≤◌}
use Rattle.std.specs.Option.{option_map_or}
use Rattle.std.proofs.Common.{refl, sym, ◌∙◌, ap, eq-eqb, subst, rules}
use Rattle.std.proofs.lemmas.Bool.{eqb-true, ne_eqb}
use Rattle.geo_base.specs.declared.request.Counts.{Counts}
use Rattle.geo_base.proofs.MemberLists.{Contains-there, Contains-here}
use Rattle.geo_model.specs.Topology.{Provider, Consumer, consumers_of, providers_of}
use Rattle.geo_slots.specs.Slots.{value_at, with_value}
use Rattle.geo_mesh.specs.declared.records.Scratch.{Scratch}
use Rattle.geo_mesh.specs.Topo.{TopoView, no_scratch, with_geom_scratch, with_provider_scratch}
use Rattle.geo_laws_graph.specs.LookupLaws.{left_from, WalksMeetAll}
use Rattle.geo_laws_graph.proofs.Walks.{walks-meet}
use Rattle.geo_access.specs.declared.counts.Way.{Way}
use Rattle.geo_access.specs.declared.counts.Way.TheVariants.{Rises, Falls}
use Rattle.geo_access.specs.declared.order.Order.{Order}
use Rattle.geo_access.specs.Views.{numbers_along, first_given, mark_at, made_at, order_of, hand, gain_of, spread_from, raise_want, raise_wants, finish_provider, finish_geom, Gathered, put_geom, fresh_under, visit, visit_under}
pub use Rattle.geo_base.proofs.Options.{none_of as none_of_some}
use Rattle.geo_model.specs.Rank.{rank, geoms_under}
use Rattle.geo_model.proofs.DemandLemmas.{rank_within-positive}
use Rattle.geo_mesh.specs.Graph.{IsSoundGraph}
use Rattle.geo_laws_counts.proofs.LimitFacts.{of_filter}
use Rattle.geo_laws_counts.proofs.Reach.{directly_under}
use Rattle.geo_laws_counts.proofs.Orders.{is-under, under_lower}

-- Walks

module _ {X B : Type 0} (number : X → ℕ) (f : B → X → B) (xs : List X) where
  -- at the beginning all is left
  pub fold_begin : (b : B) → fold f b (left_from number 0 xs) ≡ fold f b xs
  fold_begin b = ap (fold f b) (WalksMeetAll.begin walks-meet number xs)

  -- after one item more
  pub fold_more : (from_number id : ℕ) (x : X) (b new total : B)
      → left_from number from_number xs ≡ x ∷ left_from number (id + 1) xs → new ≡ f b x
      → fold f b (left_from number from_number xs) ≡ total → fold f new (left_from number (id + 1) xs) ≡ total
  fold_more from_number id x b new total left step done = search rules

  -- at the end
  pub fold_end : (from_number : ℕ) (b total : B) → left_from number from_number xs ≡ []
      → fold f b (left_from number from_number xs) ≡ total → b ≡ total
  fold_end from_number b total left done = sym (ap (fold f b) left) ∙ done

module _ {X Y : Type 0} (number : X → ℕ) (f : X → Option Y) (xs : List X) where
  -- at the beginning all is left
  pub some_begin : first_given f (left_from number 0 xs) ≡ first_given f xs
  some_begin = ap (first_given f) (WalksMeetAll.begin walks-meet number xs)

  -- after an item for which nothing is given
  pub some_more : (from_number id : ℕ) (x : X) (total : Option Y)
      → left_from number from_number xs ≡ x ∷ left_from number (id + 1) xs → f x ≡ None
      → first_given f (left_from number from_number xs) ≡ total → first_given f (left_from number (id + 1) xs) ≡ total
  some_more from_number id x total left none done = search rules

module _ {X : Type 0} (number : X → ℕ) (test : X → Bool) (xs : List X) where
  -- the number of the first item left that passes
  pub found_begin : option_map number (find test (left_from number 0 xs)) ≡ option_map number (find test xs)
  found_begin = ap (λ ys. option_map number (find test ys)) (WalksMeetAll.begin walks-meet number xs)

  -- after an item that doesn't pass
  pub found_more : (from_number id : ℕ) (x : X) (total : Option ℕ)
      → left_from number from_number xs ≡ x ∷ left_from number (id + 1) xs → test x ≡ false
      → option_map number (find test (left_from number from_number xs)) ≡ total
      → option_map number (find test (left_from number (id + 1) xs)) ≡ total
  found_more from_number id x total left fails done = search rules

  -- at one that passes
  pub found_here : (from_number id : ℕ) (x : X) (total : Option ℕ)
      → left_from number from_number xs ≡ x ∷ left_from number (id + 1) xs → test x ≡ true
      → option_map number (find test (left_from number from_number xs)) ≡ total → Some (number x) ≡ total
  found_here from_number id x total left passes done = search rules

-- Walks that change the mesh

-- what each step leaves, all of them leave
pub fold_leaves : {S X V : Type 0} (see : S → V) (f : S → X → S) → ((s : S) (x : X) → see (f s x) ≡ see s)
    → (xs : List X) (s : S) → see (fold f s xs) ≡ see s
fold_leaves see f leaves [] s = refl
fold_leaves see f leaves (x ∷ xs) s = fold_leaves see f leaves xs (f s x) ∙ leaves s x

-- Orders

-- links that agree along the way are the same
pub links_same : (next other : ℕ → ℕ) (n x : ℕ) → ((y : ℕ) → Contains (numbers_along next n x) y → other y ≡ next y)
    → numbers_along other n x ≡ numbers_along next n x
links_same next other zero x same = refl
links_same next other (suc n) x same =
    ap (λ y. x ∷ numbers_along other n y) (same x (Contains-here x (numbers_along next n (next x))))
    ∙ ap (λ ys. x ∷ ys)
    (links_same next other n (next x) (λ y there. same y (Contains-there x y (numbers_along next n (next x)) there)))

module _ {C : Type 0} (f : TopoView C → ℕ → TopoView C) where
  -- after one geom more, whose step leaves the marks of the rest
  pub order_more : (v new total : TopoView C) (o rest : Order) (x : ℕ) → order_of v o ≡ x ∷ order_of v rest
      → new ≡ f v x
      → ((y : ℕ) → Contains (order_of v rest) y → mark_at (f v x) y ≡ mark_at v y)
      → fold f v (order_of v o) ≡ total → fold f new (order_of new rest) ≡ total
  order_more v new total o rest x next step marks done =
      ap (λ u. fold f u (order_of u rest)) step
      ∙ ap (fold f (f v x)) (links_same (mark_at v) (mark_at (f v x)) rest.count rest.head marks)
      ∙ sym (ap (fold f v) next) ∙ done

  -- the rest of the order is what it was
  pub rest_same : (v new : TopoView C) (rest : Order) (x : ℕ) → new ≡ f v x
      → ((y : ℕ) → Contains (order_of v rest) y → mark_at (f v x) y ≡ mark_at v y) → order_of new rest ≡ order_of v rest
  rest_same v new rest x step marks =
      ap (λ u. order_of u rest) step ∙ links_same (mark_at v) (mark_at (f v x)) rest.count rest.head marks

-- What the steps leave

-- another number keeps its value
pub value-other : {V : Type 0} (rows : List (ℕ × V)) (n m : ℕ) (v : V) → m ≢ n
    → value_at (with_value rows n v) m ≡ value_at rows m
value-other [] n m v apart = refl
value-other (row ∷ rows) n m v apart = other_step row rows n m v apart (value-other rows n m v apart) (row.0 == n) refl
  where
    other_step : {V : Type 0} (row : ℕ × V) (rows : List (ℕ × V)) (n m : ℕ) (v : V) → m ≢ n
        → value_at (with_value rows n v) m ≡ value_at rows m
        → (b : Bool) → (row.0 == n) ≡ b → value_at (cond b (n, v) row ∷ with_value rows n v) m ≡ value_at (row ∷ rows) m
    other_step row rows n m v apart so true e =
        ap (λ b. option_map (λ r. r.1) (cond b (Some (n, v)) (find (λ r. r.0 == m) (with_value rows n v))))
        (ne_eqb n m (λ same. apart (sym same)))
        ∙ so
        ∙ sym (search rules)
    other_step row rows n m v apart so false e = search rules

module _ {C : Type 0} where
  -- handing down leaves all but the providers' scratch
  pub hand_leaves : {V : Type 0} (see : TopoView C → V)
      → ((v : TopoView C) (q : ℕ) (s : Scratch) → see (with_provider_scratch v q s) ≡ see v)
      → (gain : Counts) (v : TopoView C) (c : Consumer) → see (hand gain v c) ≡ see v
  hand_leaves see leaves gain v c = search rules

  -- so over all of a geom's consumers
  pub hands_leave : {V : Type 0} (see : TopoView C → V)
      → ((v : TopoView C) (q : ℕ) (s : Scratch) → see (with_provider_scratch v q s) ≡ see v)
      → (gain : Counts) (cs : List Consumer) (v : TopoView C) → see (fold (hand gain) v cs) ≡ see v
  hands_leave see leaves gain = fold_leaves see (hand gain) (hand_leaves see leaves gain)

  -- so each geom's scratch stays
  pub hands_geoms : (gain : Counts) (cs : List Consumer) (v : TopoView C)
      → (fold (hand gain) v cs).scratches.geoms ≡ v.scratches.geoms
  hands_geoms = hands_leave (λ v. v.scratches.geoms) (λ v q s. refl)

-- what some items give, where one that gives nothing is passed over
pub fold_given : {X A B : Type 0} (given : X → Option A) (f : B → A → B) (xs : List X) (b : B)
    → fold (λ b x. option_map_or (f b) (given x) b) b xs ≡ fold f b (filter_map given xs)
fold_given given f [] b = refl
fold_given {X} {A} {B} given f (x ∷ xs) b = search (rules, fold_given given f xs (option_map_or (f b) (given x) b))

-- what a set value is at its own number
pub value-here : {V : Type 0} (rows : List (ℕ × V)) (n : ℕ) (v : V)
    → value_at (with_value rows n v) n ≡ option_map (λ w. v) (value_at rows n)
value-here [] n v = refl
value-here (row ∷ rows) n v = here_step row rows n v (value-here rows n v) (row.0 == n) refl
  where
    here_step : {V : Type 0} (row : ℕ × V) (rows : List (ℕ × V)) (n : ℕ) (v : V)
        → value_at (with_value rows n v) n ≡ option_map (λ w. v) (value_at rows n)
        → (b : Bool) → (row.0 == n) ≡ b
        → value_at (cond b (n, v) row ∷ with_value rows n v) n
        ≡ option_map (λ (w : V). v) (option_map (λ r. r.1) (cond b (Some row) (find (λ r. r.0 == n) rows)))
    here_step row rows n v so true e =
        ap (λ b. option_map (λ r. r.1) (cond b (Some (n, v)) (find (λ r. r.0 == n) (with_value rows n v))))
        (eq-eqb n n refl)
    here_step row rows n v so false e = search rules

module _ {C : Type 0} where
  -- another count for its consumers leaves a geom's mark
  pub mark_kept : (v : TopoView C) (x : ℕ) (m : Counts) (y : ℕ)
      → mark_at (with_geom_scratch v x (record { mark = mark_at v x; trial = m })) y ≡ mark_at v y
  mark_kept v x m y =
      search (
        rules,
        value-here v.scratches.geoms x (record { mark = mark_at v x; trial = m }),
        value-other v.scratches.geoms x y (record { mark = mark_at v x; trial = m }),
      )

  -- what is handed down from a geom leaves all marks
  pub spread_marks : (way : Way) (v : TopoView C) (x y : ℕ) → mark_at (spread_from way v x) y ≡ mark_at v y
  spread_marks way v x y =
      ap (λ rows. option_map_or (λ (s : Scratch). s.mark) (value_at rows y) 0)
      (hands_geoms (gain_of v way x) (consumers_of v.topology x)
      (with_geom_scratch v x (record { mark = mark_at v x; trial = gain_of v way x })))
      ∙ mark_kept v x (gain_of v way x) y

  -- the end of a walk at a provider leaves all geoms' scratch
  finish_leaves : (keep : Option Way) (v : TopoView C) (y : Provider)
      → (finish_provider keep v y).scratches.geoms ≡ v.scratches.geoms
  finish_leaves None v y = refl
  finish_leaves (Some Rises) v y = refl
  finish_leaves (Some Falls) v y = refl

  -- so over some providers
  finishes_leave : (keep : Option Way) (ys : List Provider) (v : TopoView C)
      → (fold (finish_provider keep) v ys).scratches.geoms ≡ v.scratches.geoms
  finishes_leave keep = fold_leaves (λ v. v.scratches.geoms) (finish_provider keep) (finish_leaves keep)

  -- and so do the consumers' counts
  raised_leave : (keep : Option Way) (v : TopoView C) (x : ℕ)
      → (raise_wants keep v x).scratches.geoms ≡ v.scratches.geoms
  raised_leave None v x = refl
  raised_leave (Some way) v x =
      fold_leaves (λ (w : TopoView C). w.scratches.geoms) (raise_want way (made_at v x)) (λ w c. refl)
      (consumers_of v.topology x) v

  -- the end of a walk at a geom leaves the marks of the others
  pub finish_marks : (keep : Option Way) (v : TopoView C) (x y : ℕ) → y ≢ x
      → mark_at (finish_geom keep v x) y ≡ mark_at v y
  finish_marks keep v x y other =
      ap (λ o. option_map_or (λ (s : Scratch). s.mark) o 0)
      (value-other (fold (finish_provider keep) (raise_wants keep v x) (providers_of v.topology x)).scratches.geoms
      x y no_scratch other)
      ∙ ap (λ rows. option_map_or (λ (s : Scratch). s.mark) (value_at rows y) 0)
      (finishes_leave keep (providers_of v.topology x) (raise_wants keep v x) ∙ raised_leave keep v x)

  -- what is handed down from a geom leaves the graph
  pub spread_graph : (way : Way) (v : TopoView C) (x : ℕ) → (spread_from way v x).topology ≡ v.topology
  spread_graph way v x =
      hands_leave (λ (w : TopoView C). w.topology) (λ w q s. refl) (gain_of v way x) (consumers_of v.topology x)
      (with_geom_scratch v x (record { mark = mark_at v x; trial = gain_of v way x }))

  -- and the end of a walk does, at a provider
  provider_graph : (keep : Option Way) (v : TopoView C) (y : Provider)
      → (finish_provider keep v y).topology ≡ v.topology
  provider_graph None v y = refl
  provider_graph (Some Rises) v y = refl
  provider_graph (Some Falls) v y = refl

  -- at the consumers of a geom
  wants_graph : (keep : Option Way) (v : TopoView C) (x : ℕ) → (raise_wants keep v x).topology ≡ v.topology
  wants_graph None v x = refl
  wants_graph (Some way) v x =
      fold_leaves (λ (w : TopoView C). w.topology) (raise_want way (made_at v x)) (λ w c. refl)
      (consumers_of v.topology x) v

  -- so at a geom
  pub geom_graph : (keep : Option Way) (v : TopoView C) (x : ℕ) → (finish_geom keep v x).topology ≡ v.topology
  geom_graph keep v x =
      fold_leaves (λ (w : TopoView C). w.topology) (finish_provider keep) (provider_graph keep)
      (providers_of v.topology x) (raise_wants keep v x) ∙ wants_graph keep v x

  -- and at all geoms of an order
  pub order_graph : (keep : Option Way) (xs : List ℕ) (v : TopoView C)
      → (fold (finish_geom keep) v xs).topology ≡ v.topology
  order_graph keep = fold_leaves (λ (v : TopoView C). v.topology) (finish_geom keep) (geom_graph keep)

-- How an order is gathered

module _ {C : Type 0} where
  -- the geom that a consumer adds is directly under its own
  pub fresh_is_under : (v : TopoView C) (c : Consumer) (h : ℕ) → Contains v.topology.consumers c
      → fresh_under v c ≡ Some h → Contains (geoms_under v.topology c.geom) h
  fresh_is_under v c h there fresh = search (rules, is-under v.topology c.geom, directly_under v.topology c)

  -- so it has a smaller rank
  pub fresh_lower : (v : TopoView C) (geom from_number id : ℕ) (c : Consumer) (h : ℕ) → IsSoundGraph v.topology
      → left_from (λ (y : Consumer). y.number) from_number (consumers_of v.topology geom)
      ≡ c ∷ left_from (λ (y : Consumer). y.number) (id + 1) (consumers_of v.topology geom)
      → fresh_under v c ≡ Some h → rank v.topology h < rank v.topology geom
  fresh_lower v geom from_number id c h sound left fresh =
      let head : Contains (left_from (λ (y : Consumer). y.number) from_number (consumers_of v.topology geom)) c =
      search rules in
      let inside =
      of_filter (λ (y : Consumer). y.geom == geom) v.topology.consumers c
      (of_filter _ (consumers_of v.topology geom) c head).0 in
      subst (λ g. rank v.topology h < rank v.topology g) (eqb-true c.geom geom inside.1)
      (under_lower v.topology sound.ranked c.geom h (fresh_is_under v c h inside.0 fresh))

  -- a consumer that adds a geom
  pub visit_adds : (levels : ℕ) (v : TopoView C) (o : Order) (c : Consumer) (h : ℕ) (new : Gathered C)
      → fresh_under v c ≡ Some h
      → new ≡ visit levels h (record { view = v; order = o })
      → new ≡ visit_under levels (record { view = v; order = o }) c
  visit_adds levels v o c h new fresh is = search rules

  -- and one that adds none
  pub visit_skips : (levels : ℕ) (v : TopoView C) (o : Order) (c : Consumer) → fresh_under v c ≡ None
      → ◌≡◌ {A = Gathered C} (record { view = v; order = o }) (visit_under levels (record { view = v; order = o }) c)
  visit_skips levels v o c none = search rules

  -- after one consumer more
  pub gather_more : (levels : ℕ) (v : TopoView C) (o : Order) (new : TopoView C) (after : Order)
      (geom from_number id : ℕ) (x : Consumer) (total : Gathered C)
      → left_from (λ (y : Consumer). y.number) from_number (consumers_of v.topology geom)
      ≡ x ∷ left_from (λ (y : Consumer). y.number) (id + 1) (consumers_of v.topology geom)
      → new.topology ≡ v.topology
      → ◌≡◌ {A = Gathered C} (record { view = new; order = after })
      (visit_under levels (record { view = v; order = o }) x)
      → fold (visit_under levels) (record { view = v; order = o })
      (left_from (λ (y : Consumer). y.number) from_number (consumers_of v.topology geom)) ≡ total
      → fold (visit_under levels) (record { view = new; order = after })
      (left_from (λ (y : Consumer). y.number) (id + 1) (consumers_of new.topology geom)) ≡ total
  gather_more levels v o new after geom from_number id x total left graph step done = search rules

  -- once all are passed, the geom itself
  pub gather_whole : (levels geom : ℕ) (old : Gathered C) (v : TopoView C) (o : Order) (from_number : ℕ)
      (new : Gathered C)
      → rank old.view.topology geom ≤ levels
      → left_from (λ (y : Consumer). y.number) from_number (consumers_of v.topology geom) ≡ []
      → ((k : ℕ) → rank old.view.topology geom ≤ suc k
      → fold (visit_under k) (record { view = v; order = o })
      (left_from (λ (y : Consumer). y.number) from_number (consumers_of v.topology geom))
      ≡ fold (visit_under k) old (consumers_of old.view.topology geom))
      → new ≡ put_geom geom (record { view = v; order = o }) → new ≡ visit levels geom old
  gather_whole zero geom old v o from_number new high left done put =
      search (rules, rank_within-positive (length old.view.topology.geoms) old.view.topology geom)
  gather_whole (suc k) geom old v o from_number new high left done put =
      put ∙ ap (put_geom geom)
      (fold_end (λ (y : Consumer). y.number) (visit_under k) (consumers_of v.topology geom) from_number
      (record { view = v; order = o })
      (fold (visit_under k) old (consumers_of old.view.topology geom)) left (done k high))

  -- the mesh and the order are those two
  pub gathered_same : (v w : TopoView C) (o p : Order) → v ≡ w → o ≡ p
      → ◌≡◌ {A = Gathered C} (record { view = v; order = o }) (record { view = w; order = p })
  gathered_same v w o p e f = λ i. record { view = e i; order = f i }
