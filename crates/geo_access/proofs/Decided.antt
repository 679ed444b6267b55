-- A demand that was tried: what the judgement says, that nothing is left once it ends, and how many steps it took.
use Rattle.std.specs.Prelude.{◌≡◌, ◌≢◌, ℕ, ◌+◌, ◌==◌, ◌<◌, ◌≤◌, Bool, true, false, not, ◌||◌, cond, List, [], ◌∷◌, length, map, filter, flat_map, find, fold, Option, Some, None, IsSome, IfSome, IsSomeAnd, Contains, AllPairs, option_map, unwrap_or, if◌then◌else◌}
use Rattle.std.specs.List.{list_any}
use Rattle.std.specs.Option.{option_map_or}
use Rattle.std.proofs.Common.{refl, sym, ◌∙◌, ap, subst, arith, inl, inr, eq-eqb, rules}
use Rattle.std.proofs.lemmas.Bool.{eqb-true}
use Rattle.std.proofs.lemmas.List.Elements.{All-contains}
use Rattle.std.proofs.lemmas.List.Kept.{AllPairs-from_increasing}
use Rattle.geo_base.proofs.FindLists.{any-contained}
use Rattle.geo_base.specs.declared.request.Counts.{Counts}
use Rattle.geo_base.proofs.MemberLists.{Contains-there, Contains-cases, Contains-here, Contains-filter, Contains-filter_map, flat_map_cases}
use Rattle.geo_base.proofs.AllLists.{pairs_tail}
use Rattle.geo_model.specs.Words.{names_number, is_granted_kind}
use Rattle.geo_model.specs.Topology.{Topology, Geom, Provider, Consumer, geom_at, provider_at, consumers_of, providers_under, attached_to, consumer_at}
use Rattle.geo_model.specs.Opens.{below}
use Rattle.geo_model.specs.Demand.{no_counts, add_counts, sum_counts, have, want, is_exclusive, fits_limit}
use Rattle.geo_slots.specs.Slots.{value_at}
use Rattle.geo_mesh.specs.Topo.{TopoView}
use Rattle.geo_mesh.specs.Graph.{IsSoundGraph}
use Rattle.geo_laws_counts.proofs.LimitFacts.{of_filter, apart_from}
use Rattle.geo_laws_counts.proofs.Numbers.{first_below, numbers_lead}
use Rattle.geo_laws_counts.proofs.Sums.{add-zero, add-move, sum-add}
use Rattle.geo_laws_counts.proofs.Upward.{have_is_sum}
use Rattle.geo_laws_counts.specs.WalkWords.{has_number, cap}
use Rattle.geo_laws_counts.proofs.Reach.{below_self}
use Rattle.geo_laws_counts.proofs.Orders.{has-contains, has_not, not-has}
use Rattle.geo_laws_counts.proofs.Flows.{add-cap}
use Rattle.geo_laws_counts.proofs.Raising.{Demands}
use Rattle.geo_access.specs.declared.counts.Way.{Way}
use Rattle.geo_access.specs.declared.counts.Way.TheVariants.{Rises}
use Rattle.geo_access.specs.declared.order.Order.{Order}
use Rattle.geo_access.specs.declared.decide.Side.{Side}
use Rattle.geo_access.specs.declared.decide.Side.TheVariants.{Writes, Excludes}
use Rattle.geo_access.specs.Tries.{had, Apart}
use Rattle.geo_access.specs.Access.{granted_by, clear_scratches, IsCounted, consumers_below, holds_grants}
use Rattle.geo_access.specs.Views.{CountsTell, CountsTellBelow, order_of, have_at, want_at, made_at, gain_at, raised, raised_have, has_side, other, finish_geom, IsTried, consumers_over, judged}
use Rattle.geo_access.proofs.Trying.{trying, trying-made, trying-gain}
use Rattle.geo_access.proofs.TryOut.{Spread}
use Rattle.geo_access.proofs.Walked.{above_place, reached_touched, attached_reached, first_tries, walked, tried_order, tried_view, order_apart, made_is, outside_gain, walk, walk_covers, walk_ordered, walk_reached}
use Rattle.geo_access.proofs.Clearing.{clear_whole, link_outside}
use Rattle.geo_access.proofs.Judging.{other_some, other_none}
use Rattle.geo_access.proofs.Signs.{count_of, no_count, none_of_side, some_unless, tells_below}
use Rattle.geo_access.proofs.Verdict.{After, IsVerdict, verdict, part_at_most}
pub use Rattle.geo_access.proofs.Walking.{consumer_known}
use Rattle.geo_laws_counts.specs.CountWords.{IsAtMost}
use Rattle.geo_access.proofs.Walking.{provider_known, provider_stands}
use Rattle.geo_base.proofs.Options.{some_of, some_and_of}

-- the same over one item more
item_step : {X V : Type 0} (key : X → ℕ) (f : X → V) (n : ℕ) (x y : X) (xs : List X)
    → (find (λ z. key z == n) xs ≡ Some y → value_at (map (λ z. (key z, f z)) xs) n ≡ Some (f y))
    → (b : Bool) → cond b (Some x) (find (λ z. key z == n) xs) ≡ Some y
    → option_map {T =
    ℕ × V} (λ row. row.1) (cond b (Some (key x, f x)) (find (λ row. row.0 == n) (map (λ z. (key z, f z)) xs)))
    ≡ Some (f y)
item_step key f n x y xs so true found = let same : x ≡ y = cc in ap (λ z. Some (f z)) same
item_step key f n x y xs so false found = so found

-- the row of an item that is found
pub item_at : {X V : Type 0} (key : X → ℕ) (f : X → V) (n : ℕ) (xs : List X) (y : X)
    → find (λ z. key z == n) xs ≡ Some y
    → value_at (map (λ z. (key z, f z)) xs) n ≡ Some (f y)
item_at key f n [] y never = absurd (cc)
item_at key f n (x ∷ xs) y found = item_step key f n x y xs (item_at key f n xs y) (key x == n) found

-- a geom that holds grants is found, of such a class
pub holds_is : {C : Type 0} (o : Option (Geom C))
    → option_map_or (λ (x : Geom C). is_granted_kind x.kind) o false ≡ true
    → IsSomeAnd o (λ (x : Geom C). is_granted_kind x.kind ≡ true)
holds_is None never = absurd (cc)
holds_is (Some g) fact = fact

-- and one that is, holds them
pub holds_true : {C : Type 0} (o : Option (Geom C)) → IsSomeAnd o (λ (x : Geom C). is_granted_kind x.kind ≡ true)
    → option_map_or (λ (x : Geom C). is_granted_kind x.kind) o false ≡ true
holds_true None never = absurd never
holds_true (Some g) fact = fact

-- what the consumer of a number is granted, where it is found
pub granted_found : {C : Type 0} (t : TopoView C) (n : ℕ) (c : Consumer) → consumer_at t.topology n ≡ Some c
    → granted_by t n
    ≡ (if holds_grants t.topology c.geom then unwrap_or (value_at t.wants n) no_counts else no_counts)
granted_found t n c found = search rules

-- one that holds nothing is granted nothing
pub nothing_granted : {C : Type 0} (t : TopoView C) (n : ℕ) (c : Consumer) → consumer_at t.topology n ≡ Some c
    → value_at t.wants n ≡ Some no_counts → granted_by t n ≡ no_counts
nothing_granted t n c found stored = search rules

-- a number of a part is one of the whole
part_number : {X : Type 0} (key : X → ℕ) (keep : X → Bool) (xs : List X) (m : ℕ)
    → Contains (map key (filter keep xs)) m → Contains (map key xs) m
part_number key keep [] m there = there
part_number {X} key keep (x ∷ xs) m there =
    search (
      rules,
      keep x,
      part_number key keep xs m,
      Contains-cases (key x) m (map key (filter keep xs)),
      key x,
      Contains-here (key x) (map key xs),
      Contains-there (key x) m (map key xs),
    )

-- numbers of a part of a rising list differ
pub part_apart : {X : Type 0} (key : X → ℕ) (keep : X → Bool) (xs : List X) → AllPairs (λ m n. m < n) (map key xs)
    → Apart (map key (filter keep xs))
part_apart key keep [] rise = tt
part_apart {X} key keep (x ∷ xs) rise =
    by (keep x) (part_apart key keep xs (pairs_tail (λ x y. x < y) (key x) (map key xs) rise))
  where
    by : (b : Bool) → Apart (map key (filter keep xs)) → Apart (map key (cond b (x ∷ filter keep xs) (filter keep xs)))
    by true so = search (rules, first_below (key x) (map key xs) rise (key x), part_number key keep xs (key x))
    by false so = so

-- no more pass a stronger test
length_weaker : {X : Type 0} (a b : X → Bool) (xs : List X) → ((x : X) → a x ≡ true → b x ≡ true)
    → length (filter a xs) ≤ length (filter b xs)
length_weaker a b [] so = omega arith
length_weaker {X} a b (x ∷ xs) so = search (rules, a x, b x, length_weaker a b xs so)

-- so many pass the one test or the other, where none passes both
length_either : {X : Type 0} (a b c : X → Bool) (xs : List X) → ((x : X) → c x ≡ (a x || b x))
    → ((x : X) → a x ≡ true → b x ≡ false)
    → length (filter c xs) ≡ length (filter a xs) + length (filter b xs)
length_either a b c [] is apart = refl
length_either {X} a b c (x ∷ xs) is apart = search (rules, a x, b x, c x, length_either a b c xs is apart, is x)

-- none passes the test that fails
length_none : {X : Type 0} (xs : List X) → length (filter (λ (x : X). false) xs) ≡ 0
length_none [] = refl
length_none (x ∷ xs) = length_none xs

-- the consumers of the geoms of an order are those whose geom is in it
over_is : {C : Type 0} (t : Topology C) (xs : List ℕ) → Apart xs
    → consumers_over t xs ≡ length (filter (λ (c : Consumer). has_number xs c.geom) t.consumers)
over_is t [] apart = sym (length_none t.consumers)
over_is t (x ∷ xs) apart =
    ap (λ n. length (consumers_of t x) + n) (over_is t xs apart.1)
    ∙ sym (length_either (λ (c : Consumer). c.geom == x) (λ (c : Consumer). has_number xs c.geom)
    (λ (c : Consumer). has_number (x ∷ xs) c.geom) t.consumers
    (λ c. ap (λ b. b || has_number xs c.geom) (flips c.geom))
    (λ c e. not-has xs c.geom (λ there. apart.0 (subst (Contains xs) (eqb-true c.geom x e) there))))
  where
    flips : (n : ℕ) → (x == n) ≡ (n == x)
    flips n = search rules

module _ {C : Type 0} {t : TopoView C} (sound : IsSoundGraph t.topology) where
  module _ (clear : t.scratches ≡ clear_scratches t.topology) {p : ℕ} {add : Counts} {way : Way} {new : TopoView C}
      {o : Order} (tried : IsTried t p add way new o) where
    -- so many steps are within the bound
    pub steps_bound : consumers_over t.topology (order_of new o) ≤ consumers_below t.topology p
    steps_bound =
        subst (λ xs. consumers_over t.topology xs ≤ consumers_below t.topology p) (sym (tried_order sound clear tried))
        (subst (λ n. n ≤ consumers_below t.topology p)
        (sym (over_is t.topology (walk sound clear tried)
        (order_apart t.topology (walk sound clear tried) (walk_ordered sound clear tried))))
        (length_weaker (λ (c : Consumer). has_number (walk sound clear tried) c.geom)
        (λ (c : Consumer).
        list_any (λ q. option_map_or (λ (y : Provider). y.geom == c.geom) (provider_at t.topology q) false)
        (below t.topology p)) t.topology.consumers
        (λ c e.
        let reached = walk_reached sound clear tried c.geom (has-contains (walk sound clear tried) c.geom e) in
        let z = some_and_of (λ (y : Provider). y.geom ≡ c.geom) (provider_at t.topology reached.0) reached.2 in
        any-contained (λ q. option_map_or (λ (y : Provider). y.geom == c.geom) (provider_at t.topology q) false)
        (below t.topology p) reached.0 reached.1
        (ap (λ w. option_map_or (λ (y : Provider). y.geom == c.geom) w false) z.1 ∙ eq-eqb z.0.geom c.geom z.2))))

-- the stored counts are the model's, but perhaps for consumers that aren't attached; none stands in another's way, no
-- count is too great, and nothing is left to try
pub record IsTold {C : Type 0} (t : TopoView C) : Type 0 where
  pub haves : t.haves ≡ map (λ (p : Provider). (p.number, have (granted_by t) t.topology p.number)) t.topology.providers
  pub wants : (q : ℕ) (c : Consumer) → Contains (attached_to t.topology q) c
      → want_at t c.number ≡ want (granted_by t) t.topology c
  pub exclusive : is_exclusive (granted_by t) t.topology ≡ true
  pub limit : fits_limit (granted_by t) t.topology ≡ true
  pub clear : t.scratches ≡ clear_scratches t.topology

-- the stored counts of a consumer, where they are the model's
pub stored_want : {C : Type 0} (t : TopoView C) → IsSoundGraph t.topology → IsCounted t → (q : ℕ) (c : Consumer)
    → Contains (attached_to t.topology q) c
    → want_at t c.number ≡ want (granted_by t) t.topology c
stored_want t sound counted q c at =
    ap (λ rows. unwrap_or (value_at rows c.number) no_counts) counted.wants
    ∙ ap (λ o. unwrap_or o no_counts)
    (item_at (λ (x : Consumer). x.number) (λ (x : Consumer). want (granted_by t) t.topology x) c.number
    t.topology.consumers c
    (consumer_known t sound c (of_filter (λ (d : Consumer). names_number d.provider q) t.topology.consumers c at).0))

-- so where all stored counts are
abbrev pub counted_told : {C : Type 0} (t : TopoView C) → IsSoundGraph t.topology → IsCounted t → IsTold t
counted_told t sound counted = record {
  haves = counted.haves;
  wants = stored_want t sound counted;
  exclusive = counted.exclusive;
  limit = counted.limit;
  clear = counted.clear;
}

-- a demand at a provider, where these are the geoms below: what providers and consumers gain by it, and how the grants
-- and the graph once it stands are to those before
pub record IsDemand {C : Type 0} (t : TopoView C) (p own : ℕ) (add : Counts) (after : ℕ → Counts) (u : Topology C)
    (order : List ℕ) : Type 0 where
  pub gain : ℕ → Counts
  pub more : Consumer → Counts
  pub stands : After t.topology p own add (granted_by t) after u gain more
  pub demand : Demands t.topology p add (have (granted_by t) t.topology) gain more order

module _ {C : Type 0} {t : TopoView C} (sound : IsSoundGraph t.topology) (told : IsTold t) where
  -- the stored counts of a provider are the model's
  pub stored_have : (z : Provider) → provider_at t.topology z.number ≡ Some z
      → have_at t z.number ≡ have (granted_by t) t.topology z.number
  stored_have z found =
      ap (λ rows. unwrap_or (value_at rows z.number) no_counts) told.haves
      ∙ ap (λ o. unwrap_or o no_counts)
      (item_at (λ (y : Provider). y.number) (λ (y : Provider). have (granted_by t) t.topology y.number)
      z.number t.topology.providers z found)

  module _ {p : ℕ} {add : Counts} {new : TopoView C} {o : Order} (tried : IsTried t p add Rises new o) where
    -- the order of the walk
    abbrev pub order : List ℕ
    order = walk sound told.clear tried

    module _ {own : ℕ} {after : ℕ → Counts} {u : Topology C} (d : IsDemand t p own add after u order) where
      -- nothing shrinks where counts rise
      pub grows : (z : Provider) → Contains t.topology.providers z
          → had Rises (have_at t z.number) (cap (d.gain z.number)) ≡ have (granted_by t) t.topology z.number
      grows z there = stored_have z (provider_known t sound z there)

      -- what the walk comes to
      pub end : Spread t sound Rises p add (have (granted_by t) t.topology) d.gain d.more order d.demand grows order
          (first_tries tried.offer.geom order p add)
      end = walked t sound told.clear p tried.offer tried.found Rises add (have (granted_by t) t.topology) d.gain
          d.more d.demand grows

      -- the mesh after it
      pub new_is : new ≡ trying t end.tries
      new_is = tried_view sound told.clear tried ∙ end.is

      -- nothing is left to try once the walk ends without keeping anything
      pub cleared : fold (finish_geom None) new (order_of new o) ≡ t
      cleared =
          ap (fold (finish_geom None) new) (tried_order sound told.clear tried)
          ∙ ap (λ v. fold (finish_geom None) v order) new_is
          ∙ clear_whole t
          (λ x. part_apart (λ (y : Provider). y.number) (λ (y : Provider). y.geom == x) t.topology.providers
          (AllPairs-from_increasing (map (λ (z : Provider). z.number) t.topology.providers)
          sound.orderly.order.providers.0))
          (λ y z ys zs same. let e : Some y ≡ Some z = sym (provider_known t sound y ys)
          ∙ ap (provider_at t.topology) same ∙ provider_known t sound z zs in cc)
          order end.tries told.clear
          (λ n away. end.marks n ∙ link_outside tried.offer.geom order n away)
          (λ n away. end.others n (has_not order n away))
          (λ z there away.
          end.gains z.number
          ∙ ap cap (outside_gain t sound told.clear p tried.offer tried.found Rises add
          (have (granted_by t) t.topology) d.gain d.more d.demand grows z there away))

      -- what a consumer gains by the walk
      raises : (q : ℕ) (c : Consumer) → Contains (attached_to t.topology q) c
          → raised (trying t end.tries) c ≡ cap (add_counts (want (granted_by t) t.topology c) (d.more c))
      unfolding end
      raises q c at =
          let there : Contains t.topology.consumers c =
          (of_filter (λ (d : Consumer). names_number d.provider q) t.topology.consumers c at).0 in
          ap (λ a. cap (add_counts a (made_at (trying t end.tries) c.geom))) (told.wants q c at)
          ∙ ap (λ a. cap (add_counts (want (granted_by t) t.topology c) a))
          (trying-made t end.tries c.geom
          (All-contains (λ (d : Consumer). IsSome (geom_at t.topology d.geom)) t.topology.consumers c
          sound.orderly.parts.geoms there)
          ∙ made_is t sound told.clear p tried.offer tried.found Rises add (have (granted_by t) t.topology) d.gain
          d.more d.demand grows c there)
          ∙ add-cap (want (granted_by t) t.topology c) (d.more c)

      -- those at the provider gain nothing
      gains_nothing : (c : Consumer) → Contains (attached_to t.topology p) c
          → add_counts (want (granted_by t) t.topology c) (d.more c) ≡ want (granted_by t) t.topology c
      gains_nothing c at =
          ap (add_counts (want (granted_by t) t.topology c))
          (d.demand.flow.around c
          (of_filter (λ (x : Consumer). names_number x.provider p) t.topology.consumers c at).0
          (above_place t sound told.clear p tried.offer tried.found c at))
          ∙ add-zero (want (granted_by t) t.topology c)

      -- so none of them has a side where none had it
      none_has : (side : Side)
          → ((c : Consumer) → Contains (attached_to t.topology p) c
          → has_side side (want (granted_by t) t.topology c) ≡ false)
          → other (trying t end.tries) p 0 side ≡ None
      none_has side none = by (other (trying t end.tries) p 0 side) refl
        where
          by : (n : Option ℕ) → other (trying t end.tries) p 0 side ≡ n → n ≡ None
          by None e = refl
          by (Some n) e =
              let has = other_some (trying t end.tries)
              (λ c. add_counts (want (granted_by t) t.topology c) (d.more c)) raises p 0 side n e in
              let no : true ≡ false =
              sym has.has ∙ ap (has_side side) (gains_nothing has.one has.at) ∙ none has.one has.at in absurd (cc)

      -- what they want is together what the provider has
      place_sum : sum_counts (map (want (granted_by t) t.topology) (attached_to t.topology p)) ≡ have_at t p
      place_sum =
          let stands = provider_stands t sound p tried.offer tried.found in
          sym (have_is_sum t.topology sound.ranked (numbers_lead t.topology sound.orderly.order.providers.0)
          (granted_by t) p)
          ∙ sym (subst (λ n. have_at t n ≡ have (granted_by t) t.topology n) stands.1
          (stored_have tried.offer (provider_known t sound tried.offer stands.0)))

      -- so each wants no more
      wants_within : (c : Consumer) → Contains (attached_to t.topology p) c
          → IsAtMost (want (granted_by t) t.topology c) (have_at t p)
      wants_within c at =
          subst (IsAtMost (want (granted_by t) t.topology c)) place_sum
          (part_at_most (want (granted_by t) t.topology) (attached_to t.topology p) c at)

      -- a consumer has a number that isn't zero
      positive : (c : Consumer) → Contains t.topology.consumers c → c.number ≢ 0
      positive c there none =
          let some : 1 ≤ c.number =
          All-contains (λ (d : Consumer). 1 ≤ d.number) t.topology.consumers c sound.orderly.numbers.consumers there in
          omega arith

      -- and where none has a side, the provider hasn't it
      none_left : (side : Side) → other (trying t end.tries) p 0 side ≡ None → count_of side (have_at t p) ≡ 0
      none_left side none =
          ap (count_of side) (sym place_sum)
          ∙ none_of_side (want (granted_by t) t.topology) side (attached_to t.topology p) (λ c at.
          no_count side (want (granted_by t) t.topology c)
          (ap (has_side side) (sym (gains_nothing c at))
          ∙ other_none (trying t end.tries) (λ d. add_counts (want (granted_by t) t.topology d) (d_more d)) raises p 0
          side none c at
          (positive c (of_filter (λ (x : Consumer). names_number x.provider p) t.topology.consumers c at).0)))
        where
          d_more : Consumer → Counts
          d_more = d.more

      -- so the counts of the provider tell whether one has a side
      pub tells : CountsTell new p
      tells =
          subst (λ v. CountsTell v p) (sym new_is) (record {
            exclusive = search (rules, none_has Excludes, eq-eqb, wants_within);
            writes = λ zero. none_has Writes (λ c at. ap not (eq-eqb (want (granted_by t) t.topology c).w 0
                (omega (arith, (wants_within c at).w, zero))));
            excluder = λ some. some_unless (other (trying t end.tries) p 0 Excludes) (λ none. some (none_left Excludes none));
            writer = λ some. some_unless (other (trying t end.tries) p 0 Writes) (λ none. some (none_left Writes none));
          })

      -- what a provider would have
      raised_is : (z : Provider) → Contains t.topology.providers z
          → raised_have (trying t end.tries) z.number
          ≡ cap (add_counts (have (granted_by t) t.topology z.number) (d.gain z.number))
      raised_is z there =
          ap (λ a. cap (add_counts a (gain_at (trying t end.tries) z.number)))
          (stored_have z (provider_known t sound z there))
          ∙ ap (λ a. cap (add_counts (have (granted_by t) t.topology z.number) a))
          (trying-gain t end.tries z.number (subst (λ w. IsSome w) (sym (provider_known t sound z there)) refl)
          ∙ end.gains z.number)
          ∙ add-cap (have (granted_by t) t.topology z.number) (d.gain z.number)

      -- it is what its consumers wanted and gain, and what the demand gives it
      raised_sum : (z : Provider) → Contains t.topology.providers z
          → raised_have (trying t end.tries) z.number
          ≡ cap (add_counts (if p == z.number then add else no_counts)
          (sum_counts (map (λ c. add_counts (want (granted_by t) t.topology c) (d.more c))
          (attached_to t.topology z.number))))
      raised_sum z there =
          let wants : Counts =
          sum_counts (map (want (granted_by t) t.topology) (attached_to t.topology z.number)) in
          let given : Counts = if p == z.number then add else no_counts in
          raised_is z there
          ∙ ap cap (ap (λ a. add_counts a (d.gain z.number))
          (have_is_sum t.topology sound.ranked (numbers_lead t.topology sound.orderly.order.providers.0)
          (granted_by t) z.number)
          ∙ ap (add_counts wants) (d.demand.flow.sums z.number)
          ∙ add-move wants given (sum_counts (map d.more (attached_to t.topology z.number)))
          ∙ ap (add_counts given)
          (sym (sum-add (want (granted_by t) t.topology) d.more (attached_to t.topology z.number))))

      -- the provider of a consumer of the order's geoms is of one of them
      places : (c : Consumer) → Contains t.topology.consumers c → Contains order c.geom → (q : ℕ) → c.provider ≡ Some q
          → (z : Provider) × Contains t.topology.providers z × (z.number ≡ q) × Contains order z.geom
      places c there among q placed =
          let near : Contains (below t.topology p) q =
          attached_reached t sound told.clear p tried.offer tried.found c.geom q
          (walk_reached sound told.clear tried c.geom among)
          (Contains-filter_map (λ (x : Consumer). x.provider) (consumers_of t.topology c.geom) c q
          (Contains-filter (λ (x : Consumer). x.geom == c.geom) t.topology.consumers c there
          (eq-eqb c.geom c.geom refl)) placed) in
          let lives : IsSome (provider_at t.topology q) =
          subst (λ o. IfSome o (λ n. IsSome (provider_at t.topology n))) placed
          (All-contains (λ (x : Consumer). IfSome x.provider (λ n. IsSome (provider_at t.topology n)))
          t.topology.consumers c sound.orderly.parts.providers there) in
          let z = some_of (provider_at t.topology q) lives in
          let is = provider_stands t sound q z.0 z.1 in
          (z.0, is.0, is.1, walk_covers sound told.clear tried q z.0 near z.1)

      -- and counts tell below
      pub below_tells : CountsTellBelow new (order_of new o)
      below_tells =
          subst (λ v. CountsTellBelow v (order_of new o)) (sym new_is)
          (subst (CountsTellBelow (trying t end.tries)) (sym (tried_order sound told.clear tried))
          (tells_below (trying t end.tries) p add (want (granted_by t) t.topology) d.more order raises raised_sum positive
          (λ q. part_apart (λ (c : Consumer). c.number) (λ (c : Consumer). names_number c.provider q)
          t.topology.consumers
          (AllPairs-from_increasing (map (λ (c : Consumer). c.number) t.topology.consumers)
          sound.orderly.order.consumers.0))
          d.demand.flow.around
          (λ c at. above_place t sound told.clear p tried.offer tried.found c at)
          places
          (λ z there a b at bt apart.
          apart_from (granted_by t) t.topology told.exclusive z a b there at bt apart)))

      -- the judgement of the demand
      pub decided : IsVerdict t.topology p own after u (judged new p add (order_of new o))
      decided =
          let totals : (z : Provider) → Contains t.topology.providers z
          → raised_have (trying t end.tries) z.number ≡ cap (have after u z.number) =
          λ z there. raised_is z there ∙ ap cap (sym (d.stands.haves z.number)) in
          subst (IsVerdict t.topology p own after u)
          (sym (ap (judged new p add) (tried_order sound told.clear tried) ∙ ap (λ v. judged v p add order) new_is))
          (verdict (trying t end.tries) p own add (granted_by t) after u d.gain d.more d.stands raises totals
          positive
          (provider_known t sound) (provider_stands t sound) order
          (λ q near. (reached_touched t sound told.clear p tried.offer tried.found q near).0)
          (λ q there.
          elim (Contains-cases p q (flat_map (providers_under t.topology) order) there) [
            | inl same ↦ subst (Contains (below t.topology p)) same (below_self (length t.topology.geoms) t.topology p)
            | inr rest ↦
                let from = flat_map_cases (providers_under t.topology) order q rest in
                attached_reached t sound told.clear p tried.offer tried.found from.0 q
                (walk_reached sound told.clear tried from.0 from.1) from.2
          ])
          (λ z there near. walk_covers sound told.clear tried z.number z near (provider_known t sound z there))
          tried.offer tried.found told.exclusive told.limit)
