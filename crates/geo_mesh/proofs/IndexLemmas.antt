-- The index after each change of the graph.
use Rattle.std.proofs.Common.{arith, ◌≡◌, ℕ, ◌+◌, ◌==◌, List, [], ◌∷◌, map, Bool, true, false, Some, None, Option, sym, refl, ap, ◌∙◌, not, filter, find, IsSome, rules}
use Rattle.std.proofs.lemmas.List.{map-append}
use Rattle.std.proofs.Math.Bool.{and-false, and-true}
use Rattle.std.specs.Prelude.{◌++◌, nat_le, IsSomeAnd, if◌then◌else◌, ◌&&◌}
use Rattle.std.specs.Option.{option_map}
use Rattle.geo_model.specs.Kind.{Kind}
use Rattle.geo_model.specs.Words.{change_where, names_number}
use Rattle.geo_model.specs.Topology.{Topology, Geom, Provider, Consumer, add_geom, add_provider, add_consumer, remove_geom, remove_provider, remove_consumer, set_marks, attach, geom_at, provider_at, consumer_at, providers_of, consumers_of, attached_to, detach}
use Rattle.geo_slots.specs.Slots.{with_value, without, value_at}
use Rattle.geo_family.specs.Family.{FamilyView, names, is_parent, has_child, first_child}
use Rattle.geo_mesh.specs.declared.index.Index.{Index}
use Rattle.geo_mesh.specs.Rows.{first_row}
use Rattle.geo_mesh.specs.Topo.{first_provider, first_consumer}
use Rattle.geo_mesh.specs.Index.{IsFamilyOf, IsIndexed, unless_dev, consumers_above, consumer_geoms, provider_numbers, with_parent, with_child, without_parent, with_geom_index, with_provider_index, with_consumer_index, without_geom_index, without_provider_index, without_consumer_index, attached_index, detached_index, geom_numbers}

module _ {X Y : Type 0} (seen : X → Y) (test : X → Bool) (change : X → X) (same : (x : X)
    → seen (change x) ≡ seen x) where
  -- a change that isn't seen
  pub map-change_where : (xs : List X) → map seen (change_where test change xs) ≡ map seen xs
  map-change_where [] = refl
  map-change_where (x ∷ xs) = grind (arith, same x, map-change_where xs)

-- a change of what stands under a number is another value under it
map-change_number : {X : Type 0} (number : X → ℕ) (value : X → Option ℕ) (change : X → X) (n : ℕ) (v : Option ℕ)
    → ((x : X) → number (change x) ≡ number x) → ((x : X) → value (change x) ≡ v)
    → (xs : List X)
    → with_value (map (λ x. (number x, value x)) xs) n v
    ≡ map (λ x. (number x, value x)) (change_where (λ x. number x == n) change xs)
map-change_number number value change n v same_number same_value [] = refl
map-change_number number value change n v same_number same_value (x ∷ xs) =
    grind (
      arith,
      same_number x,
      same_value x,
      map-change_number number value change n v same_number same_value xs,
    )

-- without a number, by what is seen
map-filter_number : {X : Type 0} (number : X → ℕ) (n : ℕ) (xs : List X)
    → filter (λ m. not (m == n)) (map number xs) ≡ map number (filter (λ x. not (number x == n)) xs)
map-filter_number number n [] = refl
map-filter_number number n (x ∷ xs) = grind (arith, map-filter_number number n xs)

-- rows without a number, by what is seen
pub map-filter_row : {X Y : Type 0} (number : X → ℕ) (value : X → Y) (n : ℕ) (xs : List X)
    → without (map (λ x. (number x, value x)) xs) n
    ≡ map (λ x. (number x, value x)) (filter (λ x. not (number x == n)) xs)
map-filter_row number value n [] = refl
map-filter_row number value n (x ∷ xs) = grind (arith, map-filter_row number value n xs)

-- one who is found stands among the numbers
pub found_parent : {X : Type 0} (number : X → ℕ) (n : ℕ) (xs : List X) → IsSome (find (λ x. number x == n) xs)
    → is_parent (map number xs) n ≡ true
found_parent number n [] never = absurd (cc)
found_parent number n (x ∷ xs) found = grind (arith, found_parent number n xs)

-- the value of a number, by what is found
pub value_at-map : {X : Type 0} (number : X → ℕ) (value : X → Option ℕ) (n : ℕ) (xs : List X)
    → value_at (map (λ x. (number x, value x)) xs) n ≡ option_map value (find (λ x. number x == n) xs)
value_at-map number value n [] = refl
value_at-map number value n (x ∷ xs) = grind (arith, value_at-map number value n xs)

module _ {X : Type 0} (number : X → ℕ) (value : X → Option ℕ) (p : ℕ) (test : X → Bool) (same : (x : X)
    → names (value x) p ≡ test x) where
  -- the first child is the first of those that pass
  pub first_child-map : (n : ℕ) (xs : List X)
      → first_child (map (λ x. (number x, value x)) xs) p n
      ≡ option_map number (find (λ x. nat_le n (number x)) (filter test xs))
  first_child-map n [] = refl
  first_child-map n (x ∷ xs) = grind (arith, same x, first_child-map n xs)

  -- where none passes, there is no child
  pub childless-map : (xs : List X) → filter test xs ≡ [] → has_child (map (λ x. (number x, value x)) xs) p ≡ false
  childless-map [] none = refl
  childless-map (x ∷ xs) none = grind (arith, same x, childless-map xs)

-- whether one is named as the parent, as the model says it
pub names-same : (o : Option ℕ) (p : ℕ) → names o p ≡ names_number o p
names-same None p = refl
names-same (Some q) p = refl

-- nothing is nothing, whoever's consumer it is
none-above : (geom : ℕ) → unless_dev geom None ≡ None
none-above geom = grind arith

-- DEV's consumers are under no provider, another's under the one to which it is attached
pub names-above : (geom : ℕ) (prov : Option ℕ) (p : ℕ)
    → names (unless_dev geom prov) p ≡ (names_number prov p && not (geom == 1))
names-above geom prov p = at prov (geom == 1) where
  at : (o : Option ℕ) (b : Bool) → names (if b then None else o) p ≡ (names_number o p && not b)
  at None true = refl
  at None false = refl
  at (Some q) true = sym (and-false (q == p))
  at (Some q) false = sym (and-true (q == p))

-- those that pass both tests are those that pass the one among those that pass the other
pub filter-both : {X : Type 0} (one two : X → Bool) (xs : List X)
    → filter (λ x. one x && two x) xs ≡ filter two (filter one xs)
filter-both one two [] = refl
filter-both one two (x ∷ xs) = grind (arith, filter-both one two xs)

-- each consumer of the number is the geom's
abbrev pub OnlyOf : ℕ → ℕ → List Consumer → Type 0
OnlyOf cons geom [] = Unit {0}
OnlyOf cons geom (x ∷ xs) = ((x.number == cons) ≡ true → x.geom ≡ geom) × OnlyOf cons geom xs

-- where DEV's consumer is attached, those above stay
above-by_dev : (cons prov geom : ℕ) → (geom == 1) ≡ true → (xs : List Consumer) → OnlyOf cons geom xs
    → consumers_above (change_where (λ x. x.number == cons) (λ x. record x { provider = Some prov }) xs)
    ≡ consumers_above xs
above-by_dev cons prov geom dev [] only = refl
above-by_dev cons prov geom dev (x ∷ xs) only = grind (arith, only.0, dev, above-by_dev cons prov geom dev xs only.1)

-- where another's consumer is attached, it comes above the provider
above-by_other : (cons prov geom : ℕ) → (geom == 1) ≡ false → (xs : List Consumer) → OnlyOf cons geom xs
    → with_value (consumers_above xs) cons (Some prov)
    ≡ consumers_above (change_where (λ x. x.number == cons) (λ x. record x { provider = Some prov }) xs)
above-by_other cons prov geom other [] only = refl
above-by_other cons prov geom other (x ∷ xs) only =
    grind (arith, only.0, other, above-by_other cons prov geom other xs only.1)

module _ {C : Type 0} (t : Topology C) (i : Index) (h : IsIndexed t i) where
  -- the look-ups
  pub offered_first : (geom n : ℕ) → first_child i.offered.children geom n ≡ first_provider (providers_of t geom) n
  offered_first geom n =
      ap (λ xs. first_child xs geom n) h.offered.children
      ∙ first_child-map (λ (x : Provider). x.number) (λ x. Some x.geom) geom (λ x. x.geom == geom) (λ x. refl)
      n t.providers

  -- the first consumer of a geom, from a number on
  pub owned_first : (geom n : ℕ) → first_child i.owned.children geom n ≡ first_consumer (consumers_of t geom) n
  owned_first geom n =
      ap (λ xs. first_child xs geom n) h.owned.children
      ∙ first_child-map (λ (x : Consumer). x.number) (λ x. Some x.geom) geom (λ x. x.geom == geom) (λ x. refl)
      n t.consumers

  -- the first consumer attached to a provider, from a number on
  pub attached_first : (prov n : ℕ) → first_child i.attached.children prov n ≡ first_consumer (attached_to t prov) n
  attached_first prov n =
      ap (λ xs. first_child xs prov n) h.attached.children
      ∙ first_child-map (λ (x : Consumer). x.number) (λ x. x.provider) prov (λ x. names_number x.provider prov)
      (λ x. names-same x.provider prov) n t.consumers

  -- the first consumer attached to a provider that isn't DEV's, from a number on
  pub above_first : (prov n : ℕ)
      → first_child i.above.children prov n
      ≡ first_consumer (filter (λ x. not (x.geom == 1)) (attached_to t prov)) n
  above_first prov n =
      ap (λ xs. first_child xs prov n) h.above.children
      ∙ first_child-map (λ (x : Consumer). x.number) (λ x. unless_dev x.geom x.provider) prov
      (λ x. names_number x.provider prov && not (x.geom == 1)) (λ x. names-above x.geom x.provider prov) n t.consumers
      ∙ ap (λ (xs : List Consumer). first_consumer xs n)
      (filter-both (λ x. names_number x.provider prov) (λ x. not (x.geom == 1)) t.consumers)

  -- who stands, and who has nobody
  pub offered_parent : (geom : ℕ) → IsSome (geom_at t geom) → is_parent i.offered.parents geom ≡ true
  offered_parent geom lives = search (rules, found_parent (λ (x : Geom C). x.number) geom t.geoms lives)

  -- a geom that is there is a parent of consumers
  pub owned_parent : (geom : ℕ) → IsSome (geom_at t geom) → is_parent i.owned.parents geom ≡ true
  owned_parent geom lives = search (rules, found_parent (λ (x : Geom C). x.number) geom t.geoms lives)

  -- a provider that is there is a parent of consumers that are attached
  pub attached_parent : (prov : ℕ) → IsSome (provider_at t prov) → is_parent i.attached.parents prov ≡ true
  attached_parent prov lives = search (rules, found_parent (λ (x : Provider). x.number) prov t.providers lives)

  -- and of those that aren't DEV's
  pub above_parent : (prov : ℕ) → IsSome (provider_at t prov) → is_parent i.above.parents prov ≡ true
  above_parent prov lives = search (rules, found_parent (λ (x : Provider). x.number) prov t.providers lives)

  -- a geom without providers has no child among them
  pub offered_none : (geom : ℕ) → providers_of t geom ≡ [] → has_child i.offered.children geom ≡ false
  offered_none geom none =
      ap (λ xs. has_child xs geom) h.offered.children
      ∙ childless-map (λ (x : Provider). x.number) (λ x. Some x.geom) geom (λ x. x.geom == geom) (λ x. refl)
      t.providers none

  -- a geom without consumers has no child among them
  pub owned_none : (geom : ℕ) → consumers_of t geom ≡ [] → has_child i.owned.children geom ≡ false
  owned_none geom none =
      ap (λ xs. has_child xs geom) h.owned.children
      ∙ childless-map (λ (x : Consumer). x.number) (λ x. Some x.geom) geom (λ x. x.geom == geom) (λ x. refl)
      t.consumers none

  -- a provider to which nothing is attached has no child
  pub attached_none : (prov : ℕ) → attached_to t prov ≡ [] → has_child i.attached.children prov ≡ false
  attached_none prov none =
      ap (λ xs. has_child xs prov) h.attached.children
      ∙ childless-map (λ (x : Consumer). x.number) (λ x. x.provider) prov (λ x. names_number x.provider prov)
      (λ x. names-same x.provider prov) t.consumers none

  -- nor has it one that isn't DEV's
  pub above_none : (prov : ℕ) → attached_to t prov ≡ [] → has_child i.above.children prov ≡ false
  above_none prov none =
      ap (λ xs. has_child xs prov) h.above.children
      ∙ childless-map (λ (x : Consumer). x.number) (λ x. unless_dev x.geom x.provider) prov
      (λ x. names_number x.provider prov && not (x.geom == 1)) (λ x. names-above x.geom x.provider prov) t.consumers
      (filter-both (λ x. names_number x.provider prov) (λ x. not (x.geom == 1)) t.consumers
      ∙ ap (λ (xs : List Consumer). filter (λ x. not (x.geom == 1)) xs) none)

  -- a consumer that is attached to nothing has no parent there
  pub attached_free : (cons : ℕ) → IsSomeAnd (consumer_at t cons) (λ x. x.provider ≡ None)
      → value_at i.attached.children cons ≡ Some None
  attached_free cons free = search (rules, value_at-map (λ (x : Consumer). x.number) (λ x. x.provider) cons t.consumers)

  -- nor among those that aren't DEV's
  pub above_free : (cons : ℕ) → IsSomeAnd (consumer_at t cons) (λ x. x.provider ≡ None)
      → value_at i.above.children cons ≡ Some None
  above_free cons free =
      search (rules, value_at-map (λ (x : Consumer). x.number) (λ x. unless_dev x.geom x.provider) cons t.consumers)

module _ {v : FamilyView} {ps : List ℕ} {cs : List (ℕ × Option ℕ)} {p c : ℕ} (is : IsFamilyOf v ps cs p c) where
  -- the parents and the children in other words
  family-same : {qs : List ℕ} {ds : List (ℕ × Option ℕ)} → qs ≡ ps → ds ≡ cs → IsFamilyOf v qs ds p c
  family-same parents children = search rules

  -- with a parent more
  family-parent : {qs : List ℕ} → qs ≡ ps ++ p ∷ [] → IsFamilyOf (with_parent v) qs cs (p + 1) c
  family-parent more = search rules

  -- with a child more
  family-child : (o : Option ℕ) {ds : List (ℕ × Option ℕ)} → ds ≡ cs ++ (c, o) ∷ []
      → IsFamilyOf (with_child v o) ps ds p (c + 1)
  family-child o more = search rules

  -- with a parent less
  family-without_parent : (n : ℕ) {qs : List ℕ} → filter (λ m. not (m == n)) ps ≡ qs
      → IsFamilyOf (without_parent v n) qs cs p c
  family-without_parent n less = record {
    parents = rw is.parents less;
    children = is.children;
    next_parent = is.next_parent;
    next_child = is.next_child;
  }

  -- with other children
  family-children : {bs ds : List (ℕ × Option ℕ)} → (v.children ≡ cs → bs ≡ ds)
      → IsFamilyOf (record v { children = bs }) ps ds p c
  family-children so = search rules

module _ {C : Type 0} (t : Topology C) (i : Index) (h : IsIndexed t i) where
  -- the index with a new geom is that of the graph with it
  pub indexed-add_geom : (kind : Kind) (name : List ℕ) (config : C) (automatic : Bool)
      → IsIndexed (add_geom t kind name config automatic) (with_geom_index i)
  indexed-add_geom kind name config automatic = record {
    offered = family-parent h.offered (map-append (λ (x : Geom C). x.number) t.geoms _);
    owned = family-parent h.owned (map-append (λ (x : Geom C). x.number) t.geoms _);
    attached = h.attached;
    above = h.above;
  }

  -- the index with a new provider is that of the graph with it
  pub indexed-add_provider : (geom : ℕ) (name : List ℕ) (size sector : ℕ)
      → IsIndexed (add_provider t geom name size sector) (with_provider_index i geom)
  indexed-add_provider geom name size sector = record {
    offered = family-child h.offered (Some geom)
        (map-append (λ (x : Provider). (x.number, Some x.geom)) t.providers _);
    owned = h.owned;
    attached = family-parent h.attached (map-append (λ (x : Provider). x.number) t.providers _);
    above = family-parent h.above (map-append (λ (x : Provider). x.number) t.providers _);
  }

  -- the index with a new consumer is that of the graph with it
  pub indexed-add_consumer : (geom : ℕ) → IsIndexed (add_consumer t geom None) (with_consumer_index i geom)
  indexed-add_consumer geom = record {
    offered = h.offered;
    owned = family-child h.owned (Some geom)
        (map-append (λ (x : Consumer). (x.number, Some x.geom)) t.consumers _);
    attached = family-child h.attached None (map-append (λ (x : Consumer). (x.number, x.provider)) t.consumers _);
    above = family-child h.above None
        (map-append (λ (x : Consumer). (x.number, unless_dev x.geom x.provider)) t.consumers _
        ∙ ap (λ o. consumers_above t.consumers ++ (t.next_consumer, o) ∷ []) (none-above geom));
  }

  -- the index without a geom is that of the graph without it
  pub indexed-remove_geom : (geom : ℕ) → IsIndexed (remove_geom t geom) (without_geom_index i geom)
  indexed-remove_geom geom =
      search (rules, family-without_parent h.owned geom (map-filter_number (λ (x : Geom C). x.number) geom t.geoms))

  -- the index without a provider is that of the graph without it
  pub indexed-remove_provider : (prov : ℕ) → IsIndexed (remove_provider t prov) (without_provider_index i prov)
  indexed-remove_provider prov =
      let numbers = map-filter_number (λ (x : Provider). x.number) prov t.providers in
      record {
        offered = family-children h.offered (λ e.
            rw e (map-filter_row (λ (x : Provider). x.number) (λ x. Some x.geom) prov t.providers));
        owned = h.owned;
        attached = family-without_parent h.attached prov numbers;
        above = family-without_parent h.above prov numbers;
      }

  -- the index without a consumer is that of the graph without it
  pub indexed-remove_consumer : (cons : ℕ) → IsIndexed (remove_consumer t cons) (without_consumer_index i cons)
  indexed-remove_consumer cons = record {
    offered = h.offered;
    owned = family-children h.owned (λ e.
        rw e (map-filter_row (λ (x : Consumer). x.number) (λ x. Some x.geom) cons t.consumers));
    attached = family-children h.attached (λ e.
        rw e (map-filter_row (λ (x : Consumer). x.number) (λ x. x.provider) cons t.consumers));
    above = family-children h.above (λ e.
        rw e (map-filter_row (λ (x : Consumer). x.number) (λ x. unless_dev x.geom x.provider) cons t.consumers));
  }

  -- the consumers' geoms stay where each consumer keeps its own
  owned-same : (test : Consumer → Bool) (change : Consumer → Consumer)
      → ((x : Consumer) → (change x).number ≡ x.number) → ((x : Consumer) → (change x).geom ≡ x.geom)
      → IsFamilyOf i.owned (geom_numbers t.geoms) (consumer_geoms (change_where test change t.consumers))
      t.next_geom t.next_consumer
  owned-same test change number geom =
      family-same h.owned refl
      (map-change_where (λ (x : Consumer). (x.number, Some x.geom)) test change
      (λ x. λ k. (number x k, Some (geom x k))) t.consumers)

  -- those above, where a consumer of a geom is attached
  above-attached : (cons prov geom : ℕ) (b : Bool) → (geom == 1) ≡ b → OnlyOf cons geom t.consumers
      → IsFamilyOf (record i.above {
        children = if b then i.above.children else with_value i.above.children cons (Some prov);
      }) (provider_numbers t.providers)
      (consumers_above (attach t cons prov).consumers) t.next_provider t.next_consumer
  above-attached cons prov geom true e only =
      family-children h.above (λ is. is ∙ sym (above-by_dev cons prov geom e t.consumers only))
  above-attached cons prov geom false e only =
      family-children h.above (λ is. rw is (above-by_other cons prov geom e t.consumers only))

  -- the index with a consumer attached is that of the graph with it attached
  pub indexed-attach : (cons prov geom : ℕ) → OnlyOf cons geom t.consumers
      → IsIndexed (attach t cons prov) (attached_index i cons prov geom)
  indexed-attach cons prov geom only = record {
    offered = h.offered;
    owned = owned-same (λ x. x.number == cons) (λ x. record x { provider = Some prov }) (λ x. refl) (λ x. refl);
    attached = family-children h.attached (λ e.
        rw e (map-change_number (λ (x : Consumer). x.number) (λ x. x.provider)
        (λ x. record x { provider = Some prov }) cons (Some prov) (λ x. refl) (λ x. refl) t.consumers));
    above = above-attached cons prov geom (geom == 1) refl only;
  }

  -- the index with a consumer detached is that of the graph with it detached
  pub indexed-detach : (cons : ℕ) → IsIndexed (detach t cons) (detached_index i cons)
  indexed-detach cons = record {
    offered = h.offered;
    owned = owned-same (λ x. x.number == cons) (λ x. record x { provider = None }) (λ x. refl) (λ x. refl);
    attached = family-children h.attached (λ e.
        rw e (map-change_number (λ (x : Consumer). x.number) (λ x. x.provider) (λ x. record x { provider = None })
        cons None (λ x. refl) (λ x. refl) t.consumers));
    above = family-children h.above (λ e.
        rw e (map-change_number (λ (x : Consumer). x.number) (λ x. unless_dev x.geom x.provider)
        (λ x. record x { provider = None }) cons None (λ x. refl) (λ x. none-above x.geom) t.consumers));
  }

  -- a change of a provider that keeps its number and its geom leaves the index
  pub indexed-provider : (prov : ℕ) (change : Provider → Provider)
      → ((x : Provider) → (change x).number ≡ x.number) → ((x : Provider) → (change x).geom ≡ x.geom)
      → IsIndexed (record t { providers = change_where (λ x. x.number == prov) change t.providers }) i
  indexed-provider prov change number geom =
      let numbers = map-change_where (λ (x : Provider). x.number) (λ x. x.number == prov) change number t.providers in
      record {
        offered = family-same h.offered refl
            (map-change_where (λ (x : Provider). (x.number, Some x.geom)) (λ x. x.number == prov) change
            (λ x. λ k. (number x k, Some (geom x k))) t.providers);
        owned = h.owned;
        attached = family-same h.attached numbers refl;
        above = family-same h.above numbers refl;
      }

  -- other marks of consumers leave the index
  pub indexed-set_marks : (test : Consumer → Bool) (marked : Bool) → IsIndexed (set_marks t test marked) i
  indexed-set_marks test marked = record {
    offered = h.offered;
    owned = owned-same test (λ x. record x { spoiled = marked }) (λ x. refl) (λ x. refl);
    attached = family-same h.attached refl
        (map-change_where (λ (x : Consumer). (x.number, x.provider)) test
        (λ x. record x { spoiled = marked }) (λ x. refl) t.consumers);
    above = family-same h.above refl
        (map-change_where (λ (x : Consumer). (x.number, unless_dev x.geom x.provider)) test
        (λ x. record x { spoiled = marked }) (λ x. refl) t.consumers);
  }

  -- a change of a geom that keeps its number leaves the index
  pub indexed-geom : (geom : ℕ) (change : Geom C → Geom C) → ((x : Geom C) → (change x).number ≡ x.number)
      → IsIndexed (record t { geoms = change_where (λ x. x.number == geom) change t.geoms }) i
  indexed-geom geom change number =
      search (rules, map-change_where (λ (x : Geom C). x.number) (λ x. x.number == geom) change number t.geoms)

-- the first child of a parent is the first row whose value passes
module _ {T X : Type 0} (seen : ℕ × T → X) (pair : X → ℕ × Option ℕ) (child : T → Option ℕ) (is : (row : ℕ × T)
    → pair (seen row) ≡ (row.0, child row.1)) (test : T → Bool) (parent at : ℕ) (same : (x : T)
    → names (child x) parent ≡ test x) where
  -- over all rows, the first child is the number of the first row that passes
  pub first-kin : (rows : List (ℕ × T))
      → first_child (map pair (map seen rows)) parent at ≡ option_map (λ r. r.0) (first_row test rows at)
  first-kin [] = refl
  first-kin (row ∷ rows) = grind (arith, is row, same row.1, first-kin rows)
