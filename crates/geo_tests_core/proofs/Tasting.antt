-- Meshes stay settled while a provider is tasted.
use Rattle.std.specs.Prelude.{◌≡◌, ℕ, ◌==◌, Bool, true, false}
use Rattle.std.proofs.Common.{refl, sym, ◌∙◌, ap}
use Rattle.geo_model.specs.declared.class.Judged.{Judged}
use Rattle.geo_model.specs.declared.class.Judged.TheVariants.{Read, Next, Made, Ended}
use Rattle.geo_model.specs.Demand.{have}
use Rattle.geo_model.specs.Topology.{Provider, set_error}
use Rattle.geo_model.specs.World.{Config, Taste}
use Rattle.geo_model.specs.Graph.{IsInOrder}
use Rattle.geo_mesh.specs.declared.records.Scratch.{Scratch}
use Rattle.geo_mesh.specs.Topo.{TopoView, no_scratch, with_topology}
use Rattle.geo_laws_graph.proofs.Lists.{map-changed}
use Rattle.geo_laws_graph.proofs.Found.{error-found}
use Rattle.geo_laws_counts.proofs.Unseen.{unseen_error}
use Rattle.geo_access.specs.Access.{granted_by, clear_scratches}
use Rattle.geo_access.specs.ShutLaws.{ShutMeshesAreCounted}
use Rattle.geo_access.proofs.Shut.{shut_meshes_are_counted}
use Rattle.geo_taste.specs.Judging.{IsKnownWith}
use Rattle.geo_taste.specs.Taster.{IsSettled, IsTasteOf, makes}
use Rattle.geo_taste.proofs.Adding.{among, stood}
use Rattle.geo_taste.proofs.Kept.{KeepsCounts, kept_counted}
use Rattle.geo_tests_core.specs.Built.{IsBuilt}

-- a mesh in which nothing is open is settled
pub built_settled : {C : Type 0} (t : TopoView C) → IsBuilt t → IsSettled t
built_settled t built = record {
  counted = ShutMeshesAreCounted.counted shut_meshes_are_counted t built.shut;
  quiet = ShutMeshesAreCounted.quiet shut_meshes_are_counted t built.shut;
  attached = built.attached;
}

-- what is known after a step that makes nothing
pub known_plain : (j : Judged) (may fact : Type 0) → IsKnownWith j may fact → makes j ≡ false → fact
known_plain (Read sector) may fact so plain = so
known_plain Next may fact so plain = so
known_plain Made may fact so never = absurd (let no : true ≡ false = never in cc)
known_plain Ended may fact so plain = so

module _ (t : TopoView Config) (order : IsInOrder t.topology) (is : IsSettled t) (p : ℕ) where
  -- the mesh with an error at the provider
  abbrev errored : TopoView Config
  errored = with_topology t (set_error t.topology p)

  -- whether a provider is that one, and that one with an error
  abbrev hit : Provider → Bool
  hit x = x.number == p

  abbrev change : Provider → Provider
  change x = record x { errored = true }

  -- it has the counts that it had
  error_kept : KeepsCounts t errored
  error_kept = record {
    order = error-found.order t.topology p order;
    kinds = is.counted.kinds;
    haves =
        is.counted.haves
        ∙ sym (map-changed hit change
        (λ (x : Provider). (x.number, have (granted_by t) t.topology x.number))
        (λ x e. refl) t.topology.providers);
    wants = is.counted.wants;
    stays = among (granted_by t) t.topology (set_error t.topology p) t.topology.consumers
        (unseen_error (granted_by t) t.topology p);
    classes = λ c there. refl;
    known = stood t is.counted order t.room;
    risen =
        is.counted.risen
        ∙ sym (map-changed hit change (λ (x : Provider). x.number) (λ x e. refl) t.topology.providers);
    fallen =
        is.counted.fallen
        ∙ sym (map-changed hit change (λ (x : Provider). x.number) (λ x e. refl) t.topology.providers);
    clear =
        is.counted.clear
        ∙ ap (λ rows. record (clear_scratches t.topology) { providers = rows })
        (sym (map-changed hit change (λ (x : Provider). let r : ℕ × Scratch = (x.number, no_scratch) in r)
        (λ x e. refl) t.topology.providers));
  }

  -- so it is settled
  pub error_settled : IsSettled errored
  error_settled = record {
    counted = kept_counted t errored is.counted error_kept;
    quiet = record {
      risen = is.quiet.risen
          ∙ sym (map-changed hit change (λ (x : Provider). let r : ℕ × Bool = (x.number, false) in r) (λ x e. refl)
          t.topology.providers);
      fallen = is.quiet.fallen
          ∙ sym (map-changed hit change (λ (x : Provider). let r : ℕ × Bool = (x.number, false) in r) (λ x e. refl)
          t.topology.providers);
    };
    attached = is.attached;
  }

-- and the taste has its consumer
pub error_tasting : (t : TopoView Config) (p : ℕ) (s : Taste) → IsTasteOf t s
    → IsTasteOf (with_topology t (set_error t.topology p)) s
error_tasting t p s is = record {
  tasting = record {
    consumer = is.tasting.consumer;
    alone = is.tasting.alone;
    number = is.tasting.number;
    attached = is.tasting.attached;
  };
  holds = is.holds;
}
