-- A consumer before and after it is detached.
use Rattle.std.specs.Prelude.{◌≡◌, ℕ, Some, None, IsSome, IfSome}
use Rattle.std.proofs.Common.{refl, sym, subst, rules}
use Rattle.geo_model.specs.Topology.{Topology, consumer_at, detach, remove_consumer}
use Rattle.geo_slots.specs.Slots.{value_at}
use Rattle.geo_mesh.specs.Topo.{TopoView, no_counts, with_topology, without_consumer}
use Rattle.geo_mesh.specs.Graph.{IsSoundGraph}
use Rattle.geo_laws_graph.specs.LookupLaws.{DetachedIsFound}
use Rattle.geo_laws_graph.proofs.Found.{detached-found}
use Rattle.geo_laws_graph.proofs.Members.{Has, has}
use Rattle.geo_life.specs.Life.{CountsStay}
use Rattle.geo_life.proofs.Dropping.{dropped_stays}

module _ {C : Type 0} where
  -- what was detached is attached to nothing
  pub detached_loose : (t : Topology C) (c : ℕ) → IsSome (consumer_at t c)
      → IfSome (consumer_at (detach t c) c) (λ x. x.provider ≡ None)
  detached_loose t c lives =
      let found : Has (consumer_at t c) = has (consumer_at t c) lives in
      subst (λ o. IfSome o (λ x. x.provider ≡ None)) (sym (DetachedIsFound.here detached-found t c found.item found.is))
      refl

  -- a consumer that is detached and destroyed is gone, and nothing else
  pub dropped_is : (t mid new : TopoView C) (c : ℕ) → mid ≡ with_topology t mid.topology
      → remove_consumer mid.topology c ≡ remove_consumer t.topology c → new ≡ without_consumer mid c
      → new ≡ without_consumer t c
  dropped_is t mid new c mesh same is = search rules

  -- and counts keep what they keep
  pub dropped_kept : (t new : TopoView C) (c : ℕ) → IsSoundGraph t.topology → IsSome (consumer_at t.topology c)
      → value_at t.wants c ≡ Some no_counts → new ≡ without_consumer t c → CountsStay t new
  dropped_kept t new c sound lives nothing is = search (rules, dropped_stays t sound c)
