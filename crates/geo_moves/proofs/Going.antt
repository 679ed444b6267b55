-- What can be washed stands in the mesh.
use Rattle.std.specs.Prelude.{◌≡◌, ℕ, ◌==◌, Bool, List, [], ◌∷◌, length, map, filter, find, Option, Some, None, Contains, IsSome}
use Rattle.std.specs.Option.{option_map, option_or}
use Rattle.std.proofs.Common.{refl, ◌∙◌, rules}
use Rattle.geo_base.specs.declared.request.Counts.{Counts}
use Rattle.geo_model.specs.declared.step.WashWork.{WashWork}
use Rattle.geo_model.specs.declared.step.WashWork.TheVariants as works
use Rattle.geo_model.specs.Topology.{Topology, Geom, Provider, geom_at, provider_at, providers_of, attached_to}
use Rattle.geo_model.specs.World.{Config}
use Rattle.geo_model.specs.Freeing.{free_consumer, free_geom, wash_work_of, first_wash, wash_where}
use Rattle.geo_laws_graph.proofs.Lists.{found_itself}
use Rattle.geo_laws_graph.proofs.Members.{find-Contains, filter-Contains, Contains-here, Contains-there}
use Rattle.geo_model.specs.Graph.{AreNumbers}

module _ (granted : ℕ → Counts) (active : ℕ → Bool) (t : Topology Config) where
  -- a geom of which the part is the first that can go
  record Source (gs : List (Geom Config)) (work : WashWork) : Type 0 where
    pub geom : Geom Config
    pub here : Contains gs geom
    pub is : wash_work_of granted active t geom ≡ Some work

  -- what is found to be washed is the first of one of the geoms
  source-by : (g : Geom Config) (gs : List (Geom Config)) (work : WashWork) (o : Option WashWork)
      → wash_work_of granted active t g ≡ o
      → (first_wash granted active t gs ≡ Some work → Source gs work)
      → option_or o (first_wash granted active t gs) ≡ Some work → Source (g ∷ gs) work
  source-by g gs work None is rest e = search (rules, Contains-there g)
  source-by g gs work (Some x) is rest e = record { geom = g; here = Contains-here g gs; is = is ∙ e }

  -- so of all geoms
  source : (gs : List (Geom Config)) (work : WashWork) → first_wash granted active t gs ≡ Some work → Source gs work
  source [] work never = absurd cc
  source (g ∷ gs) work e = source-by g gs work (wash_work_of granted active t g) refl (source gs work) e

  -- a provider that can go is one of the mesh
  provider-by : (g : Geom Config) (p : ℕ) (o : Option Provider)
      → find (λ (x : Provider). length (attached_to t x.number) == 0) (providers_of t g.number) ≡ o
      → option_or (option_map (λ (x : Provider). works.Provider x.number) o)
      (option_or (free_consumer granted active t g) (option_or (free_geom granted active t g) None))
      ≡ Some (works.Provider p)
      → AreNumbers (map (λ (x : Provider). x.number) t.providers) t.next_provider → IsSome (provider_at t p)
  provider-by g p None is e numbers = search rules
  provider-by g p (Some x) is e numbers =
      search (
        rules,
        filter-Contains (λ (y : Provider). y.geom == g.number) t.providers x
            (find-Contains (λ (y : Provider). length (attached_to t y.number) == 0) (providers_of t g.number) x is),
        found_itself (λ (y : Provider). y.number) t.next_provider t.providers x numbers,
      )

  -- so it lives
  pub provider-lives : (p : ℕ) → wash_where granted active t ≡ Some (works.Provider p)
      → AreNumbers (map (λ (x : Provider). x.number) t.providers) t.next_provider → IsSome (provider_at t p)
  provider-lives p e numbers =
      search (rules, source (filter (λ (g : Geom Config). g.withering) t.geoms) (works.Provider p) e, provider-by)

  -- so it lives
  pub geom-lives : (n : ℕ) → wash_where granted active t ≡ Some (works.Geom n)
      → AreNumbers (map (λ (x : Geom Config). x.number) t.geoms) t.next_geom → IsSome (geom_at t n)
  geom-lives n e numbers =
      let r : Source (filter (λ (g : Geom Config). g.withering) t.geoms) (works.Geom n) =
      source (filter (λ (g : Geom Config). g.withering) t.geoms) (works.Geom n) e in
      search (
        rules,
        filter-Contains (λ (g : Geom Config). g.withering) t.geoms r.geom r.here,
        found_itself (λ (y : Geom Config). y.number) t.next_geom t.geoms r.geom numbers,
      )
