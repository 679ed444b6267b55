-- What is found after each change of one thing.
use Rattle.std.specs.Prelude.{◌≡◌, ℕ, ◌+◌, ◌==◌, Bool, true, false, not, ◌&&◌, ◌||◌, List, [], ◌∷◌, ◌++◌, map, filter, filter_map, find, Option, Some, None, option_map}
use Rattle.std.specs.List.{AllByRecursion, list_any, last_or}
use Rattle.std.specs.Option.{option_or, option_to_list}
use Rattle.std.proofs.Common.{refl, sym, ◌∙◌, ap, subst}
use Rattle.std.proofs.lemmas.Bool.{eq-eqb, ne_eqb, and_right}
use Rattle.std.proofs.Math.Bool.{or-false}
use Rattle.std.proofs.lemmas.List.Elements.{filter_map-append}
use Rattle.geo_model.specs.Words.{same_name, names_number, change_where}
use Rattle.geo_model.specs.Topology.{Topology, Geom, Provider, Consumer, provider_at, consumer_at, consumers_of, providers_under, is_errored, is_withering, add_provider, remove_provider, set_error, set_size, set_marks, find_provider}
use Rattle.geo_model.proofs.DemandLemmas.{all_weaker}
use Rattle.geo_model.specs.Graph.{AreNumbers, IsInOrder}
use Rattle.geo_laws_graph.specs.LookupLaws.{seen_geom, SeenGeomIsFound, new_geom, new_provider, new_consumer, EachIsFound, AddedGeomIsFound, AddedProviderIsFound, AddedConsumerIsFound, RemovedGeomIsGone, RemovedProviderIsGone, RemovedConsumerIsGone, AttachedIsFound, DetachedIsFound, ErrorIsFound, SizeIsFound, WitheringIsFound, MarksAreFound, ConfigIsFound, StartIsFound}
use Rattle.geo_laws_graph.proofs.Lists.{changed, find-changed, filter-changed, any-changed, filter_map-changed, last-changed, changed-keeps, filter-filter, numbers-push, numbers-kept, numbers-changed}
use Rattle.std.proofs.lemmas.Slice.Eq.{bytes_eq-Decides}
use Rattle.geo_laws_graph.proofs.Spared.{IsUntouched, find-untouched, filter-untouched, any-untouched, filter-away, any-fewer, IsSpared, find-spared, filter-spared, any-spared}
use Rattle.geo_laws_graph.proofs.Numbered.{find-pushed, filter-pushed, filter-pushed_hit, find-pushed_hit, any-pushed, find-none, each_found, unique, at-new, at-others, at-gone, at-kept, any-kept_at, at-here, at-unchanged, any-unchanged, any-here}

-- the provider of one consumer, if there is one
provider_list : (o : Option ℕ) (x : Consumer) → x.provider ≡ o
    → filter_map (λ (y : Consumer). y.provider) (x ∷ []) ≡ option_to_list o
provider_list None x e = rw e refl
provider_list (Some p) x e = rw e refl

-- of one consumer alone: its provider, if it is attached
single_provider : (x : Consumer) → filter_map (λ (y : Consumer). y.provider) (x ∷ []) ≡ option_to_list x.provider
single_provider x = provider_list x.provider x refl

-- what goes, or changes, is one thing alone
spared_by : {X : Type 0} (hit test : X → Bool) (x : X) (xs : List X) → test x ≡ false
    → AllByRecursion (λ y. hit y ≡ true → y ≡ x) xs
    → AllByRecursion (IsSpared hit test) xs
spared_by hit test x xs out only =
    all_weaker (λ y. hit y ≡ true → y ≡ x) (IsSpared hit test) (λ y so e. ap test (so e) ∙ out) xs only

-- so for a change of one thing alone that passes neither before nor after
untouched_by : {X : Type 0} (hit test : X → Bool) (change : X → X) (x : X) (xs : List X) → test x ≡ false
    → test (change x) ≡ false
    → AllByRecursion (λ y. hit y ≡ true → y ≡ x) xs → AllByRecursion (IsUntouched hit test change) xs
untouched_by hit test change x xs out after only =
    all_weaker (λ y. hit y ≡ true → y ≡ x) (IsUntouched hit test change)
    (λ y so e. (ap test (so e) ∙ out, ap (λ z. test (change z)) (so e) ∙ after)) xs only

-- a consumer after the marks
marked_one : (test : Consumer → Bool) (mark : Bool) (x : Consumer) → test x ≡ true
    → changed test (λ y. record y { spoiled = mark }) x ≡ record x { spoiled = mark }
marked_one test mark x e = rw e refl

-- one that doesn't pass is as before
unmarked_one : (test : Consumer → Bool) (mark : Bool) (x : Consumer) → test x ≡ false
    → changed test (λ y. record y { spoiled = mark }) x ≡ x
unmarked_one test mark x e = rw e refl

-- the number of the first of two that is there, where both may be changed but keep their numbers
number_through : {X : Type 0} (f : X → X) (number : X → ℕ) (same : (x : X) → number (f x) ≡ number x) (a b : Option X)
    → option_map number (option_or (option_map f a) (option_map f b)) ≡ option_map number (option_or a b)
number_through f number same (Some x) b = ap (λ n. Some n) (same x)
number_through f number same None (Some y) = ap (λ n. Some n) (same y)
number_through f number same None None = refl

module _ {C : Type 0} where
  -- in lists in order each is what is found at its number
  pub each-found : EachIsFound C
  each-found = record {
    geoms = λ t order. each_found (λ (x : Geom C). x.number) t.next_geom t.geoms order.geoms;
    providers = λ t order. each_found (λ (x : Provider). x.number) t.next_provider t.providers order.providers;
    consumers = λ t order. each_found (λ (x : Consumer). x.number) t.next_consumer t.consumers order.consumers;
  }

  -- Adding

  -- a new geom is found at its number, the others as before
  pub added-geom : AddedGeomIsFound C
  added-geom = record {
    new = λ t kind name config automatic order.
        at-new (λ (x : Geom C). x.number) t.next_geom t.geoms (new_geom t kind name config automatic) refl order.geoms;
    others = λ t kind name config automatic g apart.
        at-others (λ (x : Geom C). x.number) t.geoms (new_geom t kind name config automatic) g apart;
    withering = λ t kind name config automatic g.
        any-pushed (λ (x : Geom C). (x.number == g) && x.withering) t.geoms (new_geom t kind name config automatic)
        ∙ ap (λ b. is_withering t g || b) (and_right (t.next_geom == g) false refl) ∙ or-false (is_withering t g);
    order = λ t kind name config automatic order. record {
      geoms = numbers-push (λ (x : Geom C). x.number) t.next_geom t.geoms (new_geom t kind name config automatic)
          refl order.geoms;
      providers = order.providers;
      consumers = order.consumers;
    };
  }

  -- a new provider is found at its number, among those of its geom and by its name, the others as before
  pub added-provider : AddedProviderIsFound C
  added-provider = record {
    new = λ t geom name size sector order. at-new (λ (x : Provider). x.number) t.next_provider t.providers
        (new_provider t geom name size sector) refl order.providers;
    others = λ t geom name size sector p apart.
        at-others (λ (x : Provider). x.number) t.providers (new_provider t geom name size sector) p apart;
    own = λ t geom name size sector. filter-pushed_hit (λ (x : Provider). x.geom == geom) t.providers
        (new_provider t geom name size sector) (eq-eqb geom geom refl);
    others_of = λ t geom name size sector g apart.
        filter-pushed (λ (x : Provider). x.geom == g) t.providers (new_provider t geom name size sector)
        (ne_eqb geom g (λ same. apart (sym same)));
    errors = λ t geom name size sector p.
        any-pushed (λ (x : Provider). (x.number == p) && x.errored) t.providers (new_provider t geom name size sector)
        ∙ ap (λ b. is_errored t p || b) (and_right (t.next_provider == p) false refl) ∙ or-false (is_errored t p);
    taken = λ t geom name size sector other. any-pushed (λ (x : Provider). not x.errored && same_name x.name other)
        t.providers (new_provider t geom name size sector);
    named = λ t geom name size sector free.
        ap (λ o. option_map (λ (x : Provider). x.number)
        (option_or o
        (last_or None
        (filter (λ (x : Provider). same_name x.name name)
        (add_provider t geom name size sector).providers))))
        (find-pushed_hit (λ (x : Provider). not x.errored && same_name x.name name) t.providers
        (new_provider t geom name size sector)
        (find-none (λ (x : Provider). not x.errored && same_name x.name name) t.providers free)
        ((bytes_eq-Decides name name).1 refl));
    other_names = λ t geom name size sector other apart.
        ap (λ o. option_map (λ (x : Provider). x.number)
        (option_or o
        (last_or None
        (filter (λ (x : Provider). same_name x.name other)
        (add_provider t geom name size sector).providers))))
        (find-pushed (λ (x : Provider). not x.errored && same_name x.name other) t.providers
        (new_provider t geom name size sector) apart)
        ∙ ap (λ ys. option_map (λ (x : Provider). x.number)
        (option_or (find (λ (x : Provider). not x.errored && same_name x.name other) t.providers)
        (last_or None ys)))
        (filter-pushed (λ (x : Provider). same_name x.name other) t.providers
        (new_provider t geom name size sector) apart);
    order = λ t geom name size sector order. record {
      geoms = order.geoms;
      providers = numbers-push (λ (x : Provider). x.number) t.next_provider t.providers
          (new_provider t geom name size sector) refl order.providers;
      consumers = order.consumers;
    };
  }

  -- a new consumer is found at its number, among those of its geom and at its provider, the others as before
  pub added-consumer : AddedConsumerIsFound C
  added-consumer = record {
    new = λ t geom o order. at-new (λ (x : Consumer). x.number) t.next_consumer t.consumers (new_consumer t geom o)
        refl order.consumers;
    others = λ t geom o c apart. at-others (λ (x : Consumer). x.number) t.consumers (new_consumer t geom o) c apart;
    own = λ t geom o. filter-pushed_hit (λ (x : Consumer). x.geom == geom) t.consumers (new_consumer t geom o)
        (eq-eqb geom geom refl);
    others_of = λ t geom o g apart. filter-pushed (λ (x : Consumer). x.geom == g) t.consumers
        (new_consumer t geom o) (ne_eqb geom g (λ same. apart (sym same)));
    at = λ t geom p. filter-pushed_hit (λ (x : Consumer). names_number x.provider p) t.consumers
        (new_consumer t geom (Some p)) (eq-eqb p p refl);
    elsewhere = λ t geom o p apart. filter-pushed (λ (x : Consumer). names_number x.provider p) t.consumers
        (new_consumer t geom o) apart;
    under = λ t geom o.
        ap (filter_map (λ (x : Consumer). x.provider))
        (filter-pushed_hit (λ (x : Consumer). x.geom == geom) t.consumers (new_consumer t geom o)
        (eq-eqb geom geom refl))
        ∙ filter_map-append (λ (x : Consumer). x.provider) (consumers_of t geom) (new_consumer t geom o ∷ [])
        ∙ ap (λ ys. providers_under t geom ++ ys) (single_provider (new_consumer t geom o));
    order = λ t geom o order. record {
      geoms = order.geoms;
      providers = order.providers;
      consumers = numbers-push (λ (x : Consumer). x.number) t.next_consumer t.consumers (new_consumer t geom o)
          refl order.consumers;
    };
  }

  -- Removing

  -- a geom that is removed isn't found any more, the others as before
  pub removed-geom : RemovedGeomIsGone C
  removed-geom = record {
    gone = λ t g. at-gone (λ (x : Geom C). x.number) g t.geoms;
    others = λ t g h apart. at-kept (λ (x : Geom C). x.number) g h apart t.geoms;
    withering = λ t g h apart. any-kept_at (λ (x : Geom C). x.number) (λ x. x.withering) g h apart t.geoms;
    order = λ t g order. record {
      geoms = numbers-kept (λ (x : Geom C). x.number) (λ x. not (x.number == g)) t.next_geom t.geoms order.geoms;
      providers = order.providers;
      consumers = order.consumers;
    };
  }

  -- only the provider of the number has it
  only_provider : (t : Topology C) (p : ℕ) (x : Provider) → IsInOrder t → provider_at t p ≡ Some x
      → AllByRecursion (λ (y : Provider). (y.number == p) ≡ true → y ≡ x) t.providers
  only_provider t p x order found =
      unique (λ (y : Provider). y.number) t.next_provider p t.providers x order.providers found

  -- and only the consumer of the number has it
  only_consumer : (t : Topology C) (c : ℕ) (x : Consumer) → IsInOrder t → consumer_at t c ≡ Some x
      → AllByRecursion (λ (y : Consumer). (y.number == c) ≡ true → y ≡ x) t.consumers
  only_consumer t c x order found =
      unique (λ (y : Consumer). y.number) t.next_consumer c t.consumers x order.consumers found

  -- so for a provider that is removed; names that aren't its own are found as before
  pub removed-provider : RemovedProviderIsGone C
  removed-provider = record {
    gone = λ t p. at-gone (λ (x : Provider). x.number) p t.providers;
    others = λ t p q apart. at-kept (λ (x : Provider). x.number) p q apart t.providers;
    of = λ t p g. filter-filter (λ (x : Provider). not (x.number == p)) (λ (x : Provider). x.geom == g) t.providers;
    errors = λ t p q apart. any-kept_at (λ (x : Provider). x.number) (λ x. x.errored) p q apart t.providers;
    taken = λ t p x name order found out.
        any-spared (λ (y : Provider). y.number == p) (λ (y : Provider). not y.errored
        && same_name y.name name) t.providers
        (spared_by (λ (y : Provider). y.number == p) (λ (y : Provider). not y.errored && same_name y.name name) x
        t.providers out (only_provider t p x order found));
    other_names = λ t p x name order found apart.
        ap (λ o. option_map (λ (y : Provider). y.number)
        (option_or o
        (last_or None (filter (λ (y : Provider). same_name y.name name) (remove_provider t p).providers))))
        (find-spared (λ (y : Provider). y.number == p) (λ (y : Provider). not y.errored
        && same_name y.name name) t.providers
        (spared_by (λ (y : Provider). y.number == p) (λ (y : Provider). not y.errored && same_name y.name name) x
        t.providers (and_right (not x.errored) (same_name x.name name) apart) (only_provider t p x order found)))
        ∙ ap (λ ys. option_map (λ (y : Provider). y.number)
        (option_or (find (λ (y : Provider). not y.errored && same_name y.name name) t.providers) (last_or None ys)))
        (filter-spared (λ (y : Provider). y.number == p) (λ (y : Provider). same_name y.name name) t.providers
        (spared_by (λ (y : Provider). y.number == p) (λ (y : Provider). same_name y.name name) x t.providers apart
        (only_provider t p x order found)));
    order = λ t p order. record {
      geoms = order.geoms;
      providers = numbers-kept (λ (x : Provider). x.number) (λ x. not (x.number == p)) t.next_provider t.providers
          order.providers;
      consumers = order.consumers;
    };
  }

  -- and for a consumer that is removed
  pub removed-consumer : RemovedConsumerIsGone C
  removed-consumer = record {
    gone = λ t c. at-gone (λ (x : Consumer). x.number) c t.consumers;
    others = λ t c d apart. at-kept (λ (x : Consumer). x.number) c d apart t.consumers;
    of = λ t c g. filter-filter (λ (x : Consumer). not (x.number == c)) (λ (x : Consumer). x.geom == g) t.consumers;
    at = λ t c p.
        filter-filter (λ (x : Consumer). not (x.number == c)) (λ (x : Consumer). names_number x.provider p) t.consumers;
    under = λ t c g x order found apart.
        ap (filter_map (λ (y : Consumer). y.provider))
        (filter-spared (λ (y : Consumer). y.number == c) (λ (y : Consumer). y.geom == g) t.consumers
        (spared_by (λ (y : Consumer). y.number == c) (λ (y : Consumer). y.geom == g) x t.consumers
        (ne_eqb x.geom g apart) (only_consumer t c x order found)));
    order = λ t c order. record {
      geoms = order.geoms;
      providers = order.providers;
      consumers = numbers-kept (λ (x : Consumer). x.number) (λ x. not (x.number == c)) t.next_consumer t.consumers
          order.consumers;
    };
  }

  -- Changing

  -- consumers that are changed but keep their numbers leave the lists in order
  consumers_ordered : (t : Topology C) (hit : Consumer → Bool) (change : Consumer → Consumer)
      → ((x : Consumer) → hit x ≡ true → (change x).number ≡ x.number)
      → IsInOrder t → IsInOrder (record t { consumers = change_where hit change t.consumers })
  consumers_ordered t hit change same order = record {
    geoms = order.geoms;
    providers = order.providers;
    consumers = numbers-changed (λ (x : Consumer). x.number) hit change same t.next_consumer t.consumers
        order.consumers;
  }

  -- so do geoms
  geoms_ordered : (t : Topology C) (hit : Geom C → Bool) (change : Geom C → Geom C)
      → ((x : Geom C) → hit x ≡ true → (change x).number ≡ x.number)
      → IsInOrder t → IsInOrder (record t { geoms = change_where hit change t.geoms })
  geoms_ordered t hit change same order = record {
    geoms = numbers-changed (λ (x : Geom C). x.number) hit change same t.next_geom t.geoms order.geoms;
    providers = order.providers;
    consumers = order.consumers;
  }

  -- a consumer that is attached is found so, the others as before
  pub attached-found : AttachedIsFound C
  attached-found = record {
    here = λ t c p x found. at-here (λ (y : Consumer). y.number) (λ y. record y { provider = Some p }) (λ y. refl)
        c t.consumers x found;
    others = λ t c p d apart. at-unchanged (λ (y : Consumer). y.number) (λ y. record y { provider = Some p })
        (λ y. refl) c d apart t.consumers;
    of = λ t c p g. filter-changed (λ (y : Consumer). y.number == c) (λ y. record y { provider = Some p })
        (λ (y : Consumer). y.geom == g) (λ y e. refl) t.consumers;
    elsewhere = λ t c p q apart.
        filter-away (λ (y : Consumer). y.number == c) (λ (y : Consumer). names_number y.provider q)
        (λ y. record y { provider = Some p })
        (λ y e. ne_eqb p q (λ same. apart (sym same))) t.consumers;
    under = λ t c p g x order found apart.
        ap (filter_map (λ (y : Consumer). y.provider))
        (filter-untouched (λ (y : Consumer). y.number == c) (λ (y : Consumer). y.geom == g)
        (λ y. record y { provider = Some p }) t.consumers
        (untouched_by (λ (y : Consumer). y.number == c) (λ (y : Consumer). y.geom == g)
        (λ y. record y { provider = Some p }) x t.consumers
        (ne_eqb x.geom g apart) (ne_eqb x.geom g apart) (only_consumer t c x order found)));
    order = λ t c p order.
        consumers_ordered t (λ (y : Consumer). y.number == c) (λ y. record y { provider = Some p }) (λ y e. refl) order;
  }

  -- so is one that is detached
  pub detached-found : DetachedIsFound C
  detached-found = record {
    here = λ t c x found. at-here (λ (y : Consumer). y.number) (λ y. record y { provider = None }) (λ y. refl) c
        t.consumers x found;
    others = λ t c d apart. at-unchanged (λ (y : Consumer). y.number) (λ y. record y { provider = None })
        (λ y. refl) c d apart t.consumers;
    of = λ t c g. filter-changed (λ (y : Consumer). y.number == c) (λ y. record y { provider = None })
        (λ (y : Consumer). y.geom == g) (λ y e. refl) t.consumers;
    at = λ t c p.
        filter-away (λ (y : Consumer). y.number == c) (λ (y : Consumer). names_number y.provider p)
        (λ y. record y { provider = None }) (λ y e. refl) t.consumers;
    under = λ t c g x order found apart.
        ap (filter_map (λ (y : Consumer). y.provider))
        (filter-untouched (λ (y : Consumer). y.number == c) (λ (y : Consumer). y.geom == g)
        (λ y. record y { provider = None }) t.consumers
        (untouched_by (λ (y : Consumer). y.number == c) (λ (y : Consumer). y.geom == g)
        (λ y. record y { provider = None }) x t.consumers
        (ne_eqb x.geom g apart) (ne_eqb x.geom g apart) (only_consumer t c x order found)));
    order = λ t c order. consumers_ordered t (λ (y : Consumer). y.number == c) (λ y. record y { provider = None })
        (λ y e. refl) order;
  }

  -- a provider with an error is found so; no name is taken that wasn't, and other names stay
  pub error-found : ErrorIsFound C
  error-found = record {
    here = λ t p x found. at-here (λ (y : Provider). y.number) (λ y. record y { errored = true }) (λ y. refl) p
        t.providers x found;
    others = λ t p q apart. at-unchanged (λ (y : Provider). y.number) (λ y. record y { errored = true })
        (λ y. refl) p q apart t.providers;
    of = λ t p g. filter-changed (λ (y : Provider). y.number == p) (λ y. record y { errored = true })
        (λ (y : Provider). y.geom == g) (λ y e. refl) t.providers;
    errored = λ t p there. any-here (λ (y : Provider). y.number) (λ y. record y { errored = true }) (λ y. refl) p
        (λ y. y.errored) (λ y. refl) t.providers there;
    other_errors =
        λ t p q apart. any-unchanged (λ (y : Provider). y.number) (λ y. record y { errored = true }) (λ y. refl) p
        (λ y. y.errored) q apart t.providers;
    free = λ t p name none.
        any-fewer (λ (y : Provider). y.number == p) (λ (y : Provider). not y.errored && same_name y.name name)
        (λ y. record y { errored = true }) (λ y e. refl) t.providers none;
    taken = λ t p x name order found apart.
        any-untouched (λ (y : Provider). y.number == p) (λ (y : Provider). not y.errored && same_name y.name name)
        (λ y. record y { errored = true }) t.providers
        (untouched_by (λ (y : Provider). y.number == p) (λ (y : Provider). not y.errored && same_name y.name name)
        (λ y. record y { errored = true }) x t.providers
        (and_right (not x.errored) (same_name x.name name) apart) refl (only_provider t p x order found));
    other_names = λ t p x name order found apart.
        ap (λ o. option_map (λ (y : Provider). y.number)
        (option_or o (last_or None (filter (λ (y : Provider). same_name y.name name) (set_error t p).providers))))
        (find-untouched (λ (y : Provider). y.number == p) (λ (y : Provider). not y.errored
        && same_name y.name name) (λ y. record y { errored = true }) t.providers
        (untouched_by (λ (y : Provider). y.number == p) (λ (y : Provider). not y.errored && same_name y.name name)
        (λ y. record y { errored = true }) x t.providers
        (and_right (not x.errored) (same_name x.name name) apart) refl (only_provider t p x order found)))
        ∙ ap (λ ys. option_map (λ (y : Provider). y.number)
        (option_or (find (λ (y : Provider). not y.errored && same_name y.name name) t.providers) (last_or None ys)))
        (filter-untouched (λ (y : Provider). y.number == p) (λ (y : Provider). same_name y.name name)
        (λ y. record y { errored = true }) t.providers
        (untouched_by (λ (y : Provider). y.number == p) (λ (y : Provider). same_name y.name name)
        (λ y. record y { errored = true }) x t.providers apart apart (only_provider t p x order found)));
    order = λ t p order. record {
      geoms = order.geoms;
      providers = numbers-changed (λ (x : Provider). x.number) (λ (y : Provider). y.number == p)
          (λ y. record y { errored = true }) (λ y e. refl) t.next_provider t.providers order.providers;
      consumers = order.consumers;
    };
  }

  -- a provider of another media size is found so; errors, names and all else stay
  pub size_found : SizeIsFound C
  size_found = record {
    here = λ t p size x found. at-here (λ (y : Provider). y.number) (λ y. record y { size = size }) (λ y. refl) p
        t.providers x found;
    others = λ t p size q apart. at-unchanged (λ (y : Provider). y.number) (λ y. record y { size = size })
        (λ y. refl) p q apart t.providers;
    of = λ t p size g.
        filter-changed (λ (y : Provider). y.number == p) (λ y. record y { size = size })
        (λ (y : Provider). y.geom == g) (λ y e. refl) t.providers;
    errors = λ t p size q.
        any-changed (λ (y : Provider). y.number == p) (λ y. record y { size = size })
        (λ (y : Provider). (y.number == q) && y.errored) (λ y e. refl)
        t.providers;
    taken = λ t p size name.
        any-changed (λ (y : Provider). y.number == p) (λ y. record y { size = size })
        (λ (y : Provider). not y.errored && same_name y.name name)
        (λ y e. refl) t.providers;
    named = λ t p size name. size_named t p size name;
    order = λ t p size order. record {
      geoms = order.geoms;
      providers = numbers-changed (λ (x : Provider). x.number) (λ (y : Provider). y.number == p)
          (λ y. record y { size = size }) (λ y e. refl)
          t.next_provider t.providers order.providers;
      consumers = order.consumers;
    };
  }
    where
      -- what is found by a name, without an error or else as the newest, is what was found, changed
      size_named : (t : Topology C) (p size : ℕ) (name : List ℕ)
          → find_provider (set_size t p size) name ≡ find_provider t name
      size_named t p size name =
          let hit : Provider → Bool = λ (y : Provider). y.number == p in
          let change : Provider → Provider = λ (y : Provider). record y { size = size } in
          let sound : Provider → Bool = λ (y : Provider). not y.errored && same_name y.name name in
          let named : Provider → Bool = λ (y : Provider). same_name y.name name in
          rw (
            find-changed hit change sound (λ y e. refl) t.providers,
            filter-changed hit change named (λ y e. refl) t.providers,
            last-changed hit change None (filter named t.providers),
          )
          (number_through (changed hit change) (λ (y : Provider). y.number)
          (changed-keeps hit change (λ (y : Provider). y.number) (λ y e. refl))
          (find sound t.providers) (last_or None (filter named t.providers)))

  -- a geom that withers is found so, the others as before
  pub withering-found : WitheringIsFound C
  withering-found = record {
    here = λ t g x found. at-here (λ (y : Geom C). y.number) (λ y. record y { withering = true }) (λ y. refl) g
        t.geoms x found;
    others = λ t g h apart. at-unchanged (λ (y : Geom C). y.number) (λ y. record y { withering = true })
        (λ y. refl) g h apart t.geoms;
    withers = λ t g there. any-here (λ (y : Geom C). y.number) (λ y. record y { withering = true }) (λ y. refl) g
        (λ y. y.withering) (λ y. refl) t.geoms there;
    other_geoms =
        λ t g h apart. any-unchanged (λ (y : Geom C). y.number) (λ y. record y { withering = true }) (λ y. refl) g
        (λ y. y.withering) h apart t.geoms;
    order = λ t g order. geoms_ordered t (λ (y : Geom C). y.number == g) (λ y. record y { withering = true })
        (λ y e. refl) order;
  }

  -- what is found at a consumer's number is what was found, marked where it passes
  marked : (t : Topology C) (test : Consumer → Bool) (mark : Bool) (c : ℕ)
      → consumer_at (set_marks t test mark) c
      ≡ option_map (changed test (λ x. record x { spoiled = mark })) (consumer_at t c)
  marked t test mark c =
      find-changed test (λ x. record x { spoiled = mark }) (λ (x : Consumer). x.number == c) (λ x e. refl) t.consumers

  -- marks are found at the consumers that pass, and change nothing else
  pub marks-found : MarksAreFound C
  marks-found = record {
    at = λ t test mark c x found passes.
        marked t test mark c ∙ ap (option_map (changed test (λ y. record y { spoiled = mark }))) found
        ∙ ap (λ y. Some y) (marked_one test mark x passes);
    others = λ t test mark c x found passes.
        marked t test mark c ∙ ap (option_map (changed test (λ y. record y { spoiled = mark }))) found
        ∙ ap (λ y. Some y) (unmarked_one test mark x passes);
    none = λ t test mark c nowhere. marked t test mark c
        ∙ ap (option_map (changed test (λ y. record y { spoiled = mark }))) nowhere;
    of = λ t test mark g. filter-changed test (λ x. record x { spoiled = mark }) (λ (x : Consumer). x.geom == g)
        (λ x e. refl) t.consumers;
    attached = λ t test mark p.
        filter-changed test (λ x. record x { spoiled = mark }) (λ (x : Consumer). names_number x.provider p)
        (λ x e. refl) t.consumers;
    under = λ t test mark g.
        ap (filter_map (λ (x : Consumer). x.provider))
        (filter-changed test (λ x. record x { spoiled = mark }) (λ (x : Consumer). x.geom == g) (λ x e. refl)
        t.consumers)
        ∙ filter_map-changed test (λ x. record x { spoiled = mark }) (λ (x : Consumer). x.provider) (λ x e. refl)
        (consumers_of t g);
    order = λ t test mark order. consumers_ordered t test (λ x. record x { spoiled = mark }) (λ x e. refl) order;
  }

  -- another configuration is found at the geom, the other geoms as before
  pub config-found : ConfigIsFound C
  config-found = record {
    here = λ t g config x found. at-here (λ (y : Geom C). y.number) (λ y. record y { config = config }) (λ y. refl)
        g t.geoms x found;
    others = λ t g config h apart. at-unchanged (λ (y : Geom C). y.number) (λ y. record y { config = config })
        (λ y. refl) g h apart t.geoms;
    withering = λ t g config h. any-changed (λ (y : Geom C). y.number == g) (λ y. record y { config = config })
        (λ (y : Geom C). (y.number == h) && y.withering) (λ y e. refl) t.geoms;
    order = λ t g config order. geoms_ordered t (λ (y : Geom C). y.number == g) (λ y. record y { config = config })
        (λ y e. refl) order;
  }

  -- and so is one more request started
  pub start-found : StartIsFound C
  start-found = record {
    here = λ t g x found. at-here (λ (y : Geom C). y.number) (λ y. record y { started = y.started + 1 })
        (λ y. refl) g t.geoms x found;
    others = λ t g h apart. at-unchanged (λ (y : Geom C). y.number) (λ y. record y { started = y.started + 1 })
        (λ y. refl) g h apart t.geoms;
    withering = λ t g h. any-changed (λ (y : Geom C). y.number == g) (λ y. record y { started = y.started + 1 })
        (λ (y : Geom C). (y.number == h) && y.withering) (λ y e. refl) t.geoms;
    order = λ t g order.
        geoms_ordered t (λ (y : Geom C). y.number == g) (λ y. record y { started = y.started + 1 }) (λ y e. refl) order;
  }

module _ {C D : Type 0} (see : C → D) where
  -- one geom more of the walk that finds it
  seen_step : (g : ℕ) (x : Geom C) (xs : List (Geom C)) (b : Bool) → (x.number == g) ≡ b
      → find (λ (y : Geom D). y.number == g) (map (seen_geom see) xs)
      ≡ option_map (seen_geom see) (find (λ (y : Geom C). y.number == g) xs)
      → find (λ (y : Geom D). y.number == g) (map (seen_geom see) (x ∷ xs))
      ≡ option_map (seen_geom see) (find (λ (y : Geom C). y.number == g) (x ∷ xs))
  seen_step g x xs true e rest = rw e refl
  seen_step g x xs false e rest = rw e rest

  -- each geom is found with its configuration seen otherwise
  find_seen : (g : ℕ) (xs : List (Geom C))
      → find (λ (y : Geom D). y.number == g) (map (seen_geom see) xs)
      ≡ option_map (seen_geom see) (find (λ (y : Geom C). y.number == g) xs)
  find_seen g [] = refl
  find_seen g (x ∷ xs) = seen_step g x xs (x.number == g) refl (find_seen g xs)

  -- it withers just where it did
  any_seen : (g : ℕ) (xs : List (Geom C))
      → list_any (λ (y : Geom D). (y.number == g) && y.withering) (map (seen_geom see) xs)
      ≡ list_any (λ (y : Geom C). (y.number == g) && y.withering) xs
  any_seen g [] = refl
  any_seen g (x ∷ xs) = ap (λ b. ((x.number == g) && x.withering) || b) (any_seen g xs)

  -- geoms have the numbers that they had
  numbers_seen : (xs : List (Geom C))
      → map (λ (y : Geom D). y.number) (map (seen_geom see) xs) ≡ map (λ (y : Geom C). y.number) xs
  numbers_seen [] = refl
  numbers_seen (x ∷ xs) = ap (λ ns. x.number ∷ ns) (numbers_seen xs)

-- configurations that are seen otherwise: each geom is found so
pub seen_found : {C D : Type 0} → SeenGeomIsFound C D
seen_found = record {
  at = λ see t g. find_seen see g t.geoms;
  withering = λ see t g. any_seen see g t.geoms;
  order = λ see t order. record {
    geoms = subst (λ (ns : List ℕ). AreNumbers ns t.next_geom) (sym (numbers_seen see t.geoms)) order.geoms;
    providers = order.providers;
    consumers = order.consumers;
  };
}
