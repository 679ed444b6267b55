-- Graphs that come from another: each part is new or stood there, and changes of one thing.
use Rattle.std.specs.Prelude.{◌≡◌, ◌⊎◌, ℕ, ◌+◌, ◌≤◌, ◌==◌, Bool, true, false, not, List, [], ◌∷◌, ◌++◌, filter, Option, Contains, if◌then◌else◌}
use Rattle.std.proofs.Common.{inl, inr, refl, ◌∙◌, subst, arith}
use Rattle.std.proofs.lemmas.List.Elements.{Contains-push_cases}
use Rattle.geo_base.specs.declared.kind.Kind.{Kind}
use Rattle.geo_model.specs.Words.{change_where}
use Rattle.geo_model.specs.Topology.{Topology, Geom, Provider, Consumer, set_error, set_withering, set_marks, set_config, set_size, add_geom, add_provider, add_consumer, remove_geom, remove_provider, remove_consumer}
use Rattle.geo_model.specs.World.{Config}
use Rattle.geo_laws_graph.proofs.Members.{map-Contains, filter-Contains}
use Rattle.geo_laws_steps.specs.Heirs.{IsOld, IsHeirGeom, IsHeirProvider, IsHeirConsumer, Inherits}

-- a graph comes from itself
pub inherits-same : (T : ℕ → Type 0) (t : Topology Config) → Inherits T t t
inherits-same T t = record {
  next_geom = omega arith;
  next_provider = omega arith;
  next_consumer = omega arith;
  geoms = λ y here. inr (record {
    item = y;
    stands = here;
    fact = record { number = refl; kind = refl; config = λ away. refl };
  });
  providers = λ y here. inr (record {
    item = y;
    stands = here;
    fact = record { number = refl; geom = refl; name = refl; sector = refl; size = λ away. refl };
  });
  consumers = λ y here. inr (record {
    item = y;
    stands = here;
    fact = record { number = refl; geom = refl; provider = refl };
  });
}

-- Lists

module _ {X : Type 0} (number : X → ℕ) (next : ℕ) (R : X → X → Type 0) (xs ys : List X)
    (old : (y : X) → Contains ys y → IsOld number next R xs y) where
  -- what is kept
  old-kept : (keep : X → Bool) (y : X) → Contains (filter keep ys) y → IsOld number next R xs y
  old-kept keep y here = old y (filter-Contains keep ys y here).0

  -- an item that keeps its number and what it comes from
  old-as : (y z : X) → number z ≡ number y → ((x : X) → R x y → R x z) → IsOld number next R xs y
      → IsOld number next R xs z
  old-as y z same so (inl new) = inl (omega (arith, new, same))
  old-as y z same so (inr from) =
      inr (record { item = from.item; stands = from.stands; fact = so from.item from.fact })

  module _ (hit : X → Bool) (change : X → X) (same : (y : X) → number (change y) ≡ number y)
      (so : (y : X) → Contains ys y → hit y ≡ true → (next ≤ number y) ⊎ ((x : X) → R x y → R x (change y))) where
    -- one that may be changed
    old-either : (y : X) → Contains ys y → (b : Bool) → hit y ≡ b
        → IsOld number next R xs (if b then change y else y)
    old-either y here true e =
        elim (so y here e) [
          | inl new ↦ inl (omega (arith, new, same y))
          | inr fact ↦ old-as y (change y) (same y) fact (old y here)
        ]
    old-either y here false e = old y here

    -- what is changed
    old-changed : (y : X) → Contains (change_where hit change ys) y → IsOld number next R xs y
    old-changed y here =
        let o = map-Contains (λ (x : X). if hit x then change x else x) ys y here in
        subst (IsOld number next R xs) o.fact (old-either o.item o.stands (hit o.item) refl)

  -- one more, with a new number
  old-pushed : (z : X) → next ≤ number z → (y : X) → Contains (ys ++ z ∷ []) y → IsOld number next R xs y
  old-pushed z new y here =
      elim (Contains-push_cases ys z y here) [
        | inl before ↦ old y before
        | inr same ↦ inl (subst (λ v. next ≤ number v) same new)
      ]

-- Changes of one thing

module _ (T : ℕ → Type 0) (t u : Topology Config) (heir : Inherits T t u) where
  -- geoms that change
  heir-geoms : (hit : Geom Config → Bool) (change : Geom Config → Geom Config)
      → ((y : Geom Config) → (change y).number ≡ y.number)
      → ((y : Geom Config) → Contains u.geoms y → hit y ≡ true
      → (t.next_geom ≤ y.number) ⊎ ((x : Geom Config) → IsHeirGeom T x y → IsHeirGeom T x (change y)))
      → Inherits T t (record u { geoms = change_where hit change u.geoms })
  heir-geoms hit change same so = record {
    next_geom = heir.next_geom;
    next_provider = heir.next_provider;
    next_consumer = heir.next_consumer;
    geoms = old-changed (λ (x : Geom Config). x.number) t.next_geom
        (IsHeirGeom T) t.geoms u.geoms heir.geoms hit change
        same so;
    providers = heir.providers;
    consumers = heir.consumers;
  }

  -- providers that change
  heir-providers : (hit : Provider → Bool) (change : Provider → Provider)
      → ((y : Provider) → (change y).number ≡ y.number)
      → ((y : Provider) → Contains u.providers y → hit y ≡ true
      → (t.next_provider ≤ y.number) ⊎ ((x : Provider) → IsHeirProvider T x y → IsHeirProvider T x (change y)))
      → Inherits T t (record u { providers = change_where hit change u.providers })
  heir-providers hit change same so = record {
    next_geom = heir.next_geom;
    next_provider = heir.next_provider;
    next_consumer = heir.next_consumer;
    geoms = heir.geoms;
    providers = old-changed (λ (x : Provider). x.number) t.next_provider (IsHeirProvider T) t.providers u.providers
        heir.providers hit change same so;
    consumers = heir.consumers;
  }

  -- marks
  pub heir-marks : (test : Consumer → Bool) (mark : Bool) → Inherits T t (set_marks u test mark)
  heir-marks test mark = record {
    next_geom = heir.next_geom;
    next_provider = heir.next_provider;
    next_consumer = heir.next_consumer;
    geoms = heir.geoms;
    providers = heir.providers;
    consumers = old-changed (λ (x : Consumer). x.number) t.next_consumer IsHeirConsumer t.consumers u.consumers
        heir.consumers test (λ (x : Consumer). record x { spoiled = mark }) (λ y. refl)
        (λ y here e. inr (λ x is. record { number = is.number; geom = is.geom; provider = is.provider }));
  }

  -- a geom that withers
  pub heir-withering : (g : ℕ) → Inherits T t (set_withering u g)
  heir-withering g =
      heir-geoms (λ (x : Geom Config). x.number == g) (λ (x : Geom Config). record x { withering = true })
      (λ y. refl)
      (λ y here e. inr (λ x is. record { number = is.number; kind = is.kind; config = is.config }))

  -- an error
  pub heir-error : (p : ℕ) → Inherits T t (set_error u p)
  heir-error p =
      heir-providers (λ (x : Provider). x.number == p) (λ (x : Provider). record x { errored = true }) (λ y. refl)
      (λ y here e. inr (λ x is. record {
        number = is.number;
        geom = is.geom;
        name = is.name;
        sector = is.sector;
        size = is.size;
      }))

  -- a configuration of a geom that is new or touched, or the one that it has
  pub heir-config : (g : ℕ) (config : Config)
      → ((y : Geom Config) → Contains u.geoms y → (y.number == g) ≡ true
      → (t.next_geom ≤ y.number) ⊎ ((T y.number → ⊥) → config ≡ y.config))
      → Inherits T t (set_config u g config)
  heir-config g config so =
      heir-geoms (λ (x : Geom Config). x.number == g) (λ (x : Geom Config). record x { config = config })
      (λ y. refl)
      (λ y here e. elim (so y here e) [
        | inl new ↦ inl new
        | inr same ↦ inr (λ x is. record {
          number = is.number;
          kind = is.kind;
          config = λ away. same (λ touched. away (subst T is.number touched)) ∙ is.config away;
        })
      ])

  -- a size of a provider of a geom that is touched
  pub heir-size : (p size : ℕ)
      → ((y : Provider) → Contains u.providers y → (y.number == p) ≡ true → T y.geom)
      → Inherits T t (set_size u p size)
  heir-size p size so =
      heir-providers (λ (x : Provider). x.number == p) (λ (x : Provider). record x { size = size }) (λ y. refl)
      (λ y here e. inr (λ x is. record {
        number = is.number;
        geom = is.geom;
        name = is.name;
        sector = is.sector;
        size = λ away. absurd (away (subst T is.geom (so y here e)));
      }))

  -- a new geom
  pub heir-geom : (kind : Kind) (name : List ℕ) (config : Config) (automatic : Bool)
      → Inherits T t (add_geom u kind name config automatic)
  heir-geom kind name config automatic = record {
    next_geom = omega (arith, heir.next_geom);
    next_provider = heir.next_provider;
    next_consumer = heir.next_consumer;
    geoms = old-pushed (λ (x : Geom Config). x.number) t.next_geom (IsHeirGeom T) t.geoms u.geoms heir.geoms _
        heir.next_geom;
    providers = heir.providers;
    consumers = heir.consumers;
  }

  -- a new provider
  pub heir-provider : (geom : ℕ) (name : List ℕ) (size sector : ℕ)
      → Inherits T t (add_provider u geom name size sector)
  heir-provider geom name size sector = record {
    next_geom = heir.next_geom;
    next_provider = omega (arith, heir.next_provider);
    next_consumer = heir.next_consumer;
    geoms = heir.geoms;
    providers = old-pushed (λ (x : Provider). x.number) t.next_provider (IsHeirProvider T) t.providers u.providers
        heir.providers _ heir.next_provider;
    consumers = heir.consumers;
  }

  -- a number of a consumer that is used up
  pub heir-number : Inherits T t (record u { next_consumer = u.next_consumer + 1 })
  heir-number = record {
    next_geom = heir.next_geom;
    next_provider = heir.next_provider;
    next_consumer = omega (arith, heir.next_consumer);
    geoms = heir.geoms;
    providers = heir.providers;
    consumers = heir.consumers;
  }

  -- a new consumer
  pub heir-consumer : (geom : ℕ) (o : Option ℕ) → Inherits T t (add_consumer u geom o)
  heir-consumer geom o = record {
    next_geom = heir.next_geom;
    next_provider = heir.next_provider;
    next_consumer = omega (arith, heir.next_consumer);
    geoms = heir.geoms;
    providers = heir.providers;
    consumers = old-pushed (λ (x : Consumer). x.number) t.next_consumer IsHeirConsumer t.consumers u.consumers
        heir.consumers _ heir.next_consumer;
  }

  -- a geom that is gone
  pub heir-no_geom : (g : ℕ) → Inherits T t (remove_geom u g)
  heir-no_geom g = record {
    next_geom = heir.next_geom;
    next_provider = heir.next_provider;
    next_consumer = heir.next_consumer;
    geoms = old-kept (λ (x : Geom Config). x.number) t.next_geom (IsHeirGeom T) t.geoms u.geoms heir.geoms
        (λ (x : Geom Config). not (x.number == g));
    providers = heir.providers;
    consumers = heir.consumers;
  }

  -- a provider that is gone
  pub heir-no_provider : (p : ℕ) → Inherits T t (remove_provider u p)
  heir-no_provider p = record {
    next_geom = heir.next_geom;
    next_provider = heir.next_provider;
    next_consumer = heir.next_consumer;
    geoms = heir.geoms;
    providers = old-kept (λ (x : Provider). x.number) t.next_provider (IsHeirProvider T) t.providers u.providers
        heir.providers (λ (x : Provider). not (x.number == p));
    consumers = heir.consumers;
  }

  -- a consumer that is gone
  pub heir-no_consumer : (c : ℕ) → Inherits T t (remove_consumer u c)
  heir-no_consumer c = record {
    next_geom = heir.next_geom;
    next_provider = heir.next_provider;
    next_consumer = heir.next_consumer;
    geoms = heir.geoms;
    providers = heir.providers;
    consumers = old-kept (λ (x : Consumer). x.number) t.next_consumer IsHeirConsumer t.consumers u.consumers
        heir.consumers (λ (x : Consumer). not (x.number == c));
  }
