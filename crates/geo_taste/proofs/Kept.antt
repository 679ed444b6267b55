-- A mesh whose rows have the counts of another one, where these don't change.
use Rattle.std.specs.Prelude.{◌≡◌, ◌⊎◌, ℕ, true, map, Some, IfSome, All, Contains, unwrap_or, if◌then◌else◌}
use Rattle.std.proofs.Common.{◌∙◌, ap, rules}
use Rattle.geo_model.specs.Words.{is_granted_kind}
use Rattle.geo_model.specs.Topology.{Topology, Provider, Consumer, geom_at, consumer_at}
use Rattle.geo_model.specs.Graph.{IsInOrder}
use Rattle.geo_model.specs.Demand.{no_counts, have, want}
use Rattle.geo_slots.specs.Slots.{value_at}
use Rattle.geo_mesh.specs.Topo.{TopoView}
use Rattle.geo_laws_graph.proofs.Lists.{found_itself}
use Rattle.geo_laws_counts.specs.CountWords.{DemandStays, HoldsGrants}
use Rattle.geo_laws_counts.proofs.LimitFacts.{all_of}
use Rattle.geo_laws_counts.proofs.Stays.{grants_agree}
use Rattle.geo_access.specs.Access.{granted_by, holds_grants, clear_scratches, IsCounted}
use Rattle.geo_access.proofs.Clearing.{rows-same_on, rows_agree}
use Rattle.geo_access.proofs.Decided.{granted_found, holds_is, item_at}

-- the second mesh has the counts of the first in its rows, and demand is the same in both
pub record KeepsCounts {C : Type 0} (t u : TopoView C) : Type 0 where
  pub order : IsInOrder u.topology
  pub kinds : All (λ g. is_granted_kind g.kind ≡ true → (g.number ≡ 1) ⊎ (g.number ≡ 2)) u.topology.geoms
  pub haves : u.haves ≡ map (λ (p : Provider). (p.number, have (granted_by t) t.topology p.number)) u.topology.providers
  pub wants : u.wants ≡ map (λ (c : Consumer). (c.number, want (granted_by t) t.topology c)) u.topology.consumers
  pub stays : DemandStays (granted_by t) t.topology (granted_by t) u.topology (Contains u.topology.consumers)
  pub classes : (c : Consumer) → Contains u.topology.consumers c
      → holds_grants u.topology c.geom ≡ holds_grants t.topology c.geom
  pub known : (c : Consumer) → Contains u.topology.consumers c
      → IfSome (consumer_at t.topology c.number) (λ d. d.geom ≡ c.geom)
  pub risen : map (λ row. row.0) u.risen ≡ map (λ (p : Provider). p.number) u.topology.providers
  pub fallen : map (λ row. row.0) u.fallen ≡ map (λ (p : Provider). p.number) u.topology.providers
  pub clear : u.scratches ≡ clear_scratches u.topology

-- a geom of which the test says so holds grants
pub holds_of : {C : Type 0} (t : Topology C) (g : ℕ) → holds_grants t g ≡ true → HoldsGrants t g
holds_of t g holds = holds_is (geom_at t g) holds

module _ {C : Type 0} (t u : TopoView C) (counted : IsCounted t) (is : KeepsCounts t u) where
  -- a consumer is found in the second mesh
  found : (c : Consumer) → Contains u.topology.consumers c → consumer_at u.topology c.number ≡ Some c
  found c there =
      found_itself (λ (x : Consumer). x.number) u.topology.next_consumer u.topology.consumers c is.order.consumers there

  -- what it is granted there
  granted_there : (c : Consumer) → Contains u.topology.consumers c
      → granted_by u c.number
      ≡ (if holds_grants u.topology c.geom then want (granted_by t) t.topology c else no_counts)
  granted_there c there =
      granted_found u c.number c (found c there)
      ∙ ap (λ o. if holds_grants u.topology c.geom then unwrap_or o no_counts else no_counts)
      (ap (λ rows. value_at rows c.number) is.wants
      ∙ item_at (λ (x : Consumer). x.number) (want (granted_by t) t.topology) c.number u.topology.consumers c
      (found c there))

  -- the grants are the same
  pub kept_grants : (c : Consumer) → Contains u.topology.consumers c → granted_by u c.number ≡ granted_by t c.number
  kept_grants c there = search (rules, granted_there c there)

  -- so all counts are kept
  pub kept_counted : IsCounted u
  kept_counted =
      search (
        rules,
        grants_agree (granted_by t) (granted_by u) u.topology
            (all_of (λ (c : Consumer). granted_by u c.number ≡ granted_by t c.number) u.topology.consumers kept_grants),
        rows-same_on (λ (z : Provider). z.number) (have (granted_by t) t.topology) (have (granted_by u) u.topology)
            u.topology.providers,
        rows_agree (λ (c : Consumer). c.number) (want (granted_by t) t.topology) (want (granted_by u) u.topology)
            u.topology.consumers,
        is.stays.exclusive counted.exclusive,
        is.stays.limit counted.limit,
      )
