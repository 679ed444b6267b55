-- What is found after an append, and that ranks and counts see the new consumer alone.
use Rattle.std.specs.Prelude.{◌≡◌, ℕ, ◌+◌, ◌==◌, List, [], ◌∷◌, find, Option, Some, None, Contains}
use Rattle.std.specs.Option.{option_and_then}
use Rattle.std.proofs.Common.{refl, sym, ◌∙◌, ap, subst}
use Rattle.std.proofs.lemmas.Bool.{eqb-true}
use Rattle.geo_model.specs.Counts.{Counts}
use Rattle.geo_model.specs.Topology.{Topology, Geom, Provider, geom_at, providers_of, add_consumer, set_config, set_size}
use Rattle.geo_model.specs.World.{World, Config}
use Rattle.geo_model.specs.Acceptance.{add_place}
use Rattle.geo_model.specs.Append.{Growing, is_growing, with_provider}
use Rattle.geo_model.specs.Graph.{IsInOrder}
use Rattle.geo_laws_graph.proofs.Members.{find-Contains, filter-Contains, Contains-here}
use Rattle.geo_laws_graph.proofs.Lists.{found_itself}
use Rattle.geo_laws_graph.proofs.Found.{added-consumer, config-found, size_found}
use Rattle.geo_laws_graph.specs.RankLaws.{AllRanksStay}
use Rattle.geo_laws_graph.proofs.RankChanges.{plain-stay}
use Rattle.geo_laws_counts.specs.CountWords.{DemandStays, AnyConsumer}
use Rattle.geo_laws_counts.proofs.Unseen.{unseen_config, unseen_size}
use Rattle.geo_laws_growth.specs.GrowthLaws.{IsFoundGrowing, GrownIsFound, GrowthIsNotSeen}

-- a geom with one of its providers
pub record HasProvider (t : Topology Config) (g : Geom Config) (x : Growing) : Type 0 where
  pub geom : x.geom ≡ g
  pub provider : Contains (providers_of t g.number) x.provider

-- the first provider is one of them
first_of_them : (t : Topology Config) (g : Geom Config) (ps : List Provider) → providers_of t g.number ≡ ps
    → (x : Growing)
    → with_provider g ps ≡ Some x → HasProvider t g x
first_of_them t g [] is x e = absurd (let no : ⊥ = cc in no)
first_of_them t g (p ∷ ps) is x e =
    let same : record { geom = g; provider = p } ≡ x = cc in
    subst (HasProvider t g) same
    (record { geom = refl; provider = subst (λ ys. Contains ys p) (sym is) (Contains-here p ps) })

-- the concat that was found, with its first provider
found_growing : (t : Topology Config) (name : List ℕ) (x : Growing) → IsInOrder t → (o : Option (Geom Config))
    → find (is_growing t name) t.geoms ≡ o → option_and_then (λ g. with_provider g (providers_of t g.number)) o
    ≡ Some x → IsFoundGrowing t x
found_growing t name x order None is e = absurd (let no : ⊥ = cc in no)
found_growing t name x order (Some g) is e =
    let has = first_of_them t g (providers_of t g.number) refl x e in
    let stands : Contains t.geoms g = find-Contains (is_growing t name) t.geoms g is in
    let own = filter-Contains (λ (y : Provider). y.geom == g.number) t.providers x.provider has.provider in
    let geom : geom_at t g.number ≡ Some g =
    found_itself (λ (y : Geom Config). y.number) t.next_geom t.geoms g order.geoms stands in
    record {
      geom = subst (λ z. geom_at t z.number ≡ Some z) (sym has.geom) geom;
      provider = found_itself (λ (y : Provider). y.number) t.next_provider t.providers x.provider order.providers own.0;
      own = eqb-true x.provider.geom g.number own.1 ∙ ap (λ (z : Geom Config). z.number) (sym has.geom);
    }

module _ (w : World) (x : Growing) (q : Provider) where
  -- the graph with the new consumer
  abbrev joined : Topology Config
  joined = add_consumer w.topology x.geom.number (Some q.number)

  -- and with its place
  abbrev placed : Topology Config
  placed = set_config joined x.geom.number (add_place x.geom.config w.topology.next_consumer q.size)

  -- ranks stay where two changes keep them
  ranks_twice : AllRanksStay joined placed
      → AllRanksStay placed (set_size placed x.provider.number (x.provider.size + q.size))
      → AllRanksStay joined (set_size placed x.provider.number (x.provider.size + q.size))
  ranks_twice one two = record {
    same = λ g. two.same g ∙ one.same g;
    reached = λ g h. two.reached g h ∙ one.reached g h;
    ranked = λ ranked. two.ranked (one.ranked ranked);
  }

  -- so do counts
  counts_twice : (granted : ℕ → Counts) → DemandStays granted joined granted placed AnyConsumer
      → DemandStays granted placed granted (set_size placed x.provider.number (x.provider.size + q.size)) AnyConsumer
      → DemandStays granted joined granted (set_size placed x.provider.number (x.provider.size + q.size)) AnyConsumer
  counts_twice granted one two = record {
    haves = λ p. two.haves p ∙ one.haves p;
    wants = λ c any. two.wants c any ∙ one.wants c any;
    exclusive = λ e. two.exclusive (one.exclusive e);
    limit = λ e. two.limit (one.limit e);
  }

-- ranks and counts see the new consumer alone
pub growth_is_not_seen : GrowthIsNotSeen
growth_is_not_seen = record {
  ranks = λ w x q.
      ranks_twice w x q
      (plain-stay.config (joined w x q) x.geom.number (add_place x.geom.config w.topology.next_consumer q.size))
      (plain-stay.size (placed w x q) x.provider.number (x.provider.size + q.size));
  counts = λ w x q granted.
      counts_twice w x q granted
      (unseen_config granted (joined w x q) x.geom.number (add_place x.geom.config w.topology.next_consumer q.size))
      (unseen_size granted (placed w x q) x.provider.number (x.provider.size + q.size));
}

-- what is found after an append
pub grown_is_found : GrownIsFound
grown_is_found = record {
  named = λ t name x order e. found_growing t name x order (find (is_growing t name) t.geoms) refl e;
  geom = λ w x q found. config-found.here (joined w x q) x.geom.number
      (add_place x.geom.config w.topology.next_consumer q.size) x.geom found.geom;
  other_geoms = λ w x q n other. config-found.others (joined w x q) x.geom.number
      (add_place x.geom.config w.topology.next_consumer q.size) n other;
  provider = λ w x q found. size_found.here (placed w x q) x.provider.number
      (x.provider.size + q.size) x.provider found.provider;
  other_providers = λ w x q n other. size_found.others (placed w x q) x.provider.number
      (x.provider.size + q.size) n other;
  consumer = λ w x q order. added-consumer.new w.topology x.geom.number (Some q.number) order;
  other_consumers = λ w x q n other. added-consumer.others w.topology x.geom.number (Some q.number) n other;
  order = λ w x q order.
      size_found.order (placed w x q) x.provider.number (x.provider.size + q.size)
      (config-found.order (joined w x q) x.geom.number (add_place x.geom.config w.topology.next_consumer q.size)
      (added-consumer.order w.topology x.geom.number (Some q.number) order));
}
