-- Where a closed set of providers is kept with all that is below, its address maps stay.
use Rattle.std.specs.Prelude.{◌≡◌, ℕ, IsTrue, zero, suc, ◌+◌, length, Option, Some, Contains, IsSomeAnd, option_map, option_and_then}
use Rattle.std.proofs.Common.{refl, sym, ◌∙◌, ap, subst, arith}
use Rattle.geo_model.specs.Topology.{Topology, Geom, Provider, Consumer, geom_at, provider_at, consumer_at, provider_of_consumer}
use Rattle.geo_model.specs.Rank.{Ranked}
use Rattle.geo_model.specs.World.{Config}
use Rattle.geo_model.specs.Place.{components, flat_step, flat_within, ends_step, ends_within}
use Rattle.geo_laws_life.proofs.Found.{found-with, one-found}
use Rattle.geo_laws_maps.specs.Ways.{LeadsInto, GoesDown, IsWays}
use Rattle.geo_laws_maps.proofs.MapSteps.{flat_level, ends_level, flat_step-same, ends_step-same}
use Rattle.geo_laws_maps.proofs.Levels.{flat-enough, ends-enough}
use Rattle.geo_laws_steps.specs.WayLaws.{IsSameProvider, IsSameGeom, IsSameConsumer, KeepsWays, SameMap, WaysKeepMaps}

-- a sector size and a media size
abbrev both_sizes : ℕ → ℕ → Option (ℕ × ℕ)
both_sizes sector size = Some (sector, size)

module _ (t u : Topology Config) (U : ℕ → Type 0) (ways : IsWays t U) (keeps : KeepsWays U t u) where
  -- a provider of the set, with its geom, in the second graph
  record Stands (p : ℕ) (x : Provider) (g : Geom Config) : Type 0 where
    provider : Provider
    found : provider_at u p ≡ Some provider
    is : IsSameProvider x provider
    geom : Geom Config
    of : geom_at u provider.geom ≡ Some geom
    geom_is : IsSameGeom g geom

  -- so it stands
  stands : (p : ℕ) (inside : U p) → Stands p (ways p inside).provider (ways p inside).geom
  stands p inside =
      let down : GoesDown t U p = ways p inside in
      let y = found-with (provider_at u p) (IsSameProvider down.provider)
      (keeps.provider p down.provider inside down.found) in
      let h = found-with (geom_at u down.provider.geom) (IsSameGeom down.geom)
      (keeps.geom p down.provider down.geom inside down.found down.of) in
      record {
        provider = y.item;
        found = y.is;
        is = y.fact;
        geom = h.item;
        of = ap (geom_at u) y.fact.geom ∙ h.is;
        geom_is = h.fact;
      }

  -- a component of it stands, too
  kept_consumer : (p : ℕ) (inside : U p) (c : ℕ) (among : Contains (components (ways p inside).geom.config) c)
      → IsSomeAnd (consumer_at u c) (IsSameConsumer ((ways p inside).below c among).consumer)
  kept_consumer p inside c among =
      let down : GoesDown t U p = ways p inside in
      keeps.consumer p down.provider down.geom c (down.below c among).consumer inside down.found down.of among
      (down.below c among).found

  -- so the set is closed in the second graph
  pub ways-kept : IsWays u U
  ways-kept p inside =
      let down : GoesDown t U p = ways p inside in
      let now = stands p inside in
      record {
        provider = now.provider;
        found = now.found;
        geom = now.geom;
        of = now.of;
        below = λ c among.
            let before : Contains (components down.geom.config) c =
            subst (λ (k : Config). Contains (components k) c) now.geom_is.config among in
            let leads : LeadsInto t U down.geom c = down.below c before in
            let d = found-with (consumer_at u c) (IsSameConsumer leads.consumer)
            (kept_consumer p inside c before) in
            record {
              consumer = d.item;
              found = d.is;
              own = d.fact.geom ∙ leads.own ∙ sym now.geom_is.number;
              under = leads.under;
              attached = d.fact.provider ∙ leads.attached;
              inside = leads.inside;
            };
      }

  -- its components lead to the same providers
  lead_same : (p : ℕ) (inside : U p) (c : ℕ) → Contains (components (ways p inside).geom.config) c
      → provider_of_consumer u c ≡ provider_of_consumer t c
  lead_same p inside c among =
      let leads = (ways p inside).below c among in
      let d = found-with (consumer_at u c) (IsSameConsumer leads.consumer) (kept_consumer p inside c among) in
      ap (option_and_then (λ (z : Consumer). z.provider)) d.is ∙ d.fact.provider
      ∙ sym (ap (option_and_then (λ (z : Consumer). z.provider)) leads.found)

  -- which are in the set
  of_each : (P : ℕ → Type 0) → ((q : ℕ) → U q → P q) → (p : ℕ) (inside : U p) (c q : ℕ)
      → Contains (components (ways p inside).geom.config) c → provider_of_consumer t c ≡ Some q → P q
  of_each P so p inside c q among e =
      let leads = (ways p inside).below c among in
      subst P
      (one-found (provider_of_consumer t c) leads.under q
      (ap (option_and_then (λ (z : Consumer). z.provider)) leads.found ∙ leads.attached) e)
      (so leads.under leads.inside)

  -- over so many levels an offset lies in the same sector
  flat_within-same : (k p : ℕ) → U p → (o : ℕ) → flat_within k u p o ≡ flat_within k t p o
  flat_within-same zero p inside o = refl
  flat_within-same (suc k) p inside o =
      let down : GoesDown t U p = ways p inside in
      let now = stands p inside in
      flat_level u k p o now.provider now.geom now.found now.of
      ∙ ap (λ config. flat_step (flat_within k u) u config now.provider o) now.geom_is.config
      ∙ flat_step-same (flat_within k t) (flat_within k u) t u down.geom.config (lead_same p inside)
      (of_each (λ q. (i : ℕ) → flat_within k u q i ≡ flat_within k t q i)
      (flat_within-same k) p inside) down.provider
      now.provider o now.is.name now.is.sector
      ∙ sym (flat_level t k p o down.provider down.geom down.found down.of)

  -- and the same disks are reached
  ends_within-same : (k p : ℕ) → U p → ends_within k u p ≡ ends_within k t p
  ends_within-same zero p inside = refl
  ends_within-same (suc k) p inside =
      let down : GoesDown t U p = ways p inside in
      let now = stands p inside in
      ends_level u k p now.provider now.geom now.found now.of
      ∙ ap (λ config. ends_step (ends_within k u) u config) now.geom_is.config
      ∙ ends_step-same (ends_within k t) (ends_within k u) t u down.geom.config (lead_same p inside)
      (of_each (λ q. ends_within k u q ≡ ends_within k t q) (ends_within-same k) p inside)
      ∙ sym (ends_level t k p down.provider down.geom down.found down.of)

  -- so the map is the same
  pub same-map : Ranked t → Ranked u → (p : ℕ) → U p → SameMap t u p
  same-map ranked after p inside =
      let now = stands p inside in
      let a : ℕ = length t.geoms in
      let b : ℕ = length u.geoms in
      let swap : a + b ≡ b + a = omega arith in
      record {
        sizes = ap (option_map {U = ℕ × ℕ} (λ (x : Provider). (x.sector, x.size))) now.found
            ∙ ap (λ n. both_sizes n now.provider.size) now.is.sector
            ∙ ap (λ n. both_sizes (ways p inside).provider.sector n) now.is.size
            ∙ sym (ap (option_map {U = ℕ × ℕ} (λ (x : Provider). (x.sector, x.size))) (ways p inside).found);
        sectors = λ o.
            sym (flat-enough u after U ways-kept p inside a o) ∙ flat_within-same (a + b) p inside o
            ∙ ap (λ k. flat_within k t p o) swap ∙ flat-enough t ranked U ways p inside b o;
        disks = sym (ends-enough u after U ways-kept p inside a) ∙ ends_within-same (a + b) p inside
            ∙ ap (λ k. ends_within k t p) swap ∙ ends-enough t ranked U ways p inside b;
      }

-- so for any two graphs
pub ways_keep_maps : WaysKeepMaps
ways_keep_maps = record {
  maps = λ t u test ways keeps ranked after p passes.
      same-map t u (λ q. IsTrue (test q)) ways keeps ranked after p passes;
}
