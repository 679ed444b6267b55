-- The changes that keep all edges, or take none away.
use Rattle.std.specs.Prelude.{◌≡◌, ℕ, ◌==◌, Bool, true, List, [], filter_map, find, Option, Some, None, Contains, IfSome, IsSome, option_map, option_and_then}
use Rattle.std.proofs.Common.{inl, inr, refl, sym, ◌∙◌, ap, subst}
use Rattle.std.proofs.lemmas.Bool.{cases_eq}
use Rattle.std.proofs.lemmas.List.Elements.{recursion_from_All}
use Rattle.geo_model.proofs.FilterLists.{filter_map-same}
use Rattle.geo_model.specs.Topology.{Topology, Provider, Consumer, provider_at, consumers_of, attached_to, providers_under, add_provider, remove_provider, set_error, set_size, set_marks}
use Rattle.geo_model.specs.Rank.{geoms_under}
use Rattle.geo_model.specs.Words.{change_where}
use Rattle.geo_laws_graph.specs.Edges.{HasEdgesOf}
use Rattle.geo_laws_graph.proofs.Members.{has, at_contained}
use Rattle.geo_laws_graph.proofs.Climbing.{under-from_below, below-from_under}
use Rattle.geo_laws_graph.proofs.Lists.{changed, changed-keeps, find-changed, filter-changed, filter_map-changed}
use Rattle.geo_model.specs.Graph.{ProvidersLive}
use Rattle.geo_laws_graph.proofs.Living.{provider_at-removed, provider_at-gone, not_there, provider_stays}

-- what a change keeps is as before, where there is anything
option_map_twice : {X Y : Type 0} (f : X → X) (h : X → Y) → ((x : X) → h (f x) ≡ h x) → (o : Option X)
    → option_map h (option_map f o) ≡ option_map h o
option_map_twice f h same None = refl
option_map_twice f h same (Some x) = ap (λ y. Some y) (same x)

module _ {C D : Type 0} (t : Topology C) (u : Topology D) where
  -- the same consumers and providers have the same edges
  pub parts-edges : t.consumers ≡ u.consumers → t.providers ≡ u.providers → HasEdgesOf u t
  parts-edges e f g h b = record {
    consumer = b.consumer;
    stands = subst (λ (cs : List Consumer). Contains cs b.consumer) e b.stands;
    above = b.above;
    provider = b.provider;
    attached = subst (λ (ps : List Provider). option_and_then (λ q. find (λ (x : Provider). x.number == q) ps)
        b.consumer.provider ≡ Some b.provider) f b.attached;
    below = b.below;
  }

  -- the same geoms under each geom are the same edges
  pub under-edges : ((g : ℕ) → geoms_under u g ≡ geoms_under t g) → HasEdgesOf u t
  under-edges same g h b =
      below-from_under u g h (subst (λ (hs : List ℕ). Contains hs h) (sym (same g)) (under-from_below t g h b))

module _ {C : Type 0} (t : Topology C) where
  -- marks change nothing that is under a geom
  pub providers_under-set_marks : (test : Consumer → Bool) (mark : Bool) (g : ℕ)
      → providers_under (set_marks t test mark) g ≡ providers_under t g
  providers_under-set_marks test mark g =
      ap (filter_map (λ (x : Consumer). x.provider))
      (filter-changed test (λ x. record x { spoiled = mark }) (λ (x : Consumer). x.geom == g) (λ x e. refl)
      t.consumers)
      ∙ filter_map-changed test (λ x. record x { spoiled = mark }) (λ (x : Consumer). x.provider) (λ x e. refl)
      (consumers_of t g)

  -- so the geoms under a geom are as before
  pub geoms_under-set_marks : (test : Consumer → Bool) (mark : Bool) (g : ℕ)
      → geoms_under (set_marks t test mark) g ≡ geoms_under t g
  geoms_under-set_marks test mark g =
      ap (filter_map (λ p. option_map (λ (x : Provider). x.geom) (provider_at t p)))
      (providers_under-set_marks test mark g)

  -- nor does a change of a provider that keeps its number and its geom
  geoms_under-changed : (p : ℕ) (change : Provider → Provider) → ((x : Provider) → (change x).number ≡ x.number)
      → ((x : Provider) → (change x).geom ≡ x.geom) → (g : ℕ)
      → geoms_under (record t { providers = change_where (λ x. x.number == p) change t.providers }) g ≡ geoms_under t g
  geoms_under-changed p change number geom g =
      filter_map-same
      (λ q. option_map (λ (x : Provider). x.geom)
      (provider_at (record t { providers = change_where (λ x. x.number == p) change t.providers }) q))
      (λ q. option_map (λ (x : Provider). x.geom) (provider_at t q))
      (λ q.
      ap (option_map (λ (x : Provider). x.geom))
      (find-changed (λ (x : Provider). x.number == p) change (λ (x : Provider). x.number == q)
      (λ x e. ap (λ n. n == q) (number x)) t.providers)
      ∙ option_map_twice (changed (λ (x : Provider). x.number == p) change) (λ (x : Provider). x.geom)
      (changed-keeps (λ (x : Provider). x.number == p) change (λ (x : Provider). x.geom) (λ x e. geom x))
      (provider_at t q))
      (providers_under t g)

  -- so errors don't
  pub geoms_under-set_error : (p g : ℕ) → geoms_under (set_error t p) g ≡ geoms_under t g
  geoms_under-set_error p g = geoms_under-changed p (λ x. record x { errored = true }) (λ x. refl) (λ x. refl) g

  -- nor do media sizes
  pub geoms_under-set_size : (p size g : ℕ) → geoms_under (set_size t p size) g ≡ geoms_under t g
  geoms_under-set_size p size g = geoms_under-changed p (λ x. record x { size = size }) (λ x. refl) (λ x. refl) g

  module _ (geom : ℕ) (name : List ℕ) (size sector : ℕ) where
    -- what a consumer is attached to is as before where a provider is added
    attached_stays : (o : Option ℕ) (y : Provider) → option_and_then (provider_at t) o ≡ Some y
        → option_and_then (provider_at (add_provider t geom name size sector)) o ≡ Some y
    attached_stays None y e = e
    attached_stays (Some p) y e = provider_stays t geom name size sector p y e

    -- so all edges stay
    pub add_provider-edges : HasEdgesOf (add_provider t geom name size sector) t
    add_provider-edges g h b = record {
      consumer = b.consumer;
      stands = b.stands;
      above = b.above;
      provider = b.provider;
      attached = attached_stays b.consumer.provider b.provider b.attached;
      below = b.below;
    }

    -- and what it is attached to then, it was attached to before, where its provider lived
    was_attached : (o : Option ℕ) (y : Provider) → IfSome o (λ p. IsSome (provider_at t p))
        → option_and_then (provider_at (add_provider t geom name size sector)) o ≡ Some y
        → option_and_then (provider_at t) o ≡ Some y
    was_attached None y live e = e
    was_attached (Some p) y live e =
        let x = has (provider_at t p) live in
        let is : provider_at t p ≡ Some x.item = x.is in
        let still = provider_stays t geom name size sector p x.item x.is in
        cc

    -- so no edge comes
    pub before_provider-edges : ProvidersLive t → HasEdgesOf t (add_provider t geom name size sector)
    before_provider-edges live g h b = record {
      consumer = b.consumer;
      stands = b.stands;
      above = b.above;
      provider = b.provider;
      attached = was_attached b.consumer.provider b.provider
          (at_contained (λ (c : Consumer). IfSome c.provider (λ p. IsSome (provider_at t p))) t.consumers b.consumer
          (recursion_from_All (λ (c : Consumer). IfSome c.provider (λ p. IsSome (provider_at t p))) t.consumers
          live) b.stands) b.attached;
      below = b.below;
    }

  module _ (p : ℕ) where
    -- what a consumer is attached to is as before where one goes to which nobody is attached
    removed_stays : (x : Consumer) (o : Option ℕ) (y : Provider) → attached_to t p ≡ [] → Contains t.consumers x
        → x.provider ≡ o
        → option_and_then (provider_at t) o ≡ Some y → option_and_then (provider_at (remove_provider t p)) o ≡ Some y
    removed_stays x None y none here to e = e
    removed_stays x (Some q) y none here to e = provider_at-removed t p q (not_there t p x q none here to) ∙ e

    -- and what it is attached to then, it was attached to before
    was_there : (o : Option ℕ) (y : Provider) → option_and_then (provider_at (remove_provider t p)) o ≡ Some y
        → option_and_then (provider_at t) o ≡ Some y
    was_there None y e = e
    was_there (Some q) y e =
        elim (cases_eq q p) [
          | inl same ↦
              let gone : provider_at (remove_provider t p) q ≡ None =
              subst (λ (n : ℕ). provider_at (remove_provider t p) n ≡ None) (sym same) (provider_at-gone t p) in
              absurd (let bad : ⊥ = cc in bad)
          | inr other ↦ sym (provider_at-removed t p q other) ∙ e
        ]

    -- a provider to which nothing is attached goes: all edges stay, and none comes
    pub remove_provider-edges : attached_to t p ≡ [] → HasEdgesOf (remove_provider t p) t
    remove_provider-edges none g h b = record {
      consumer = b.consumer;
      stands = b.stands;
      above = b.above;
      provider = b.provider;
      attached = removed_stays b.consumer b.consumer.provider b.provider none b.stands refl b.attached;
      below = b.below;
    }

    -- no edge comes where a provider goes
    pub before_removal-edges : HasEdgesOf t (remove_provider t p)
    before_removal-edges g h b = record {
      consumer = b.consumer;
      stands = b.stands;
      above = b.above;
      provider = b.provider;
      attached = was_there b.consumer.provider b.provider b.attached;
      below = b.below;
    }
