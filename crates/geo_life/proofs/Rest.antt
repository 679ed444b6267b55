-- What stays beside the graph and the events, over several changes.
use Rattle.std.specs.Prelude.{Bool, true, false, not, map, filter, if◌then◌else◌, ◌≡◌, ◌⊎◌, ℕ, ◌+◌, ◌-◌, ◌≤◌, List, [], ◌∷◌, ◌++◌, length}
use Rattle.std.proofs.Common.{refl, sym, ap, ◌∙◌, subst, inl, inr, rules}
use Rattle.std.proofs.lemmas.List.{length-append}
use Rattle.geo_model.specs.Topology.{Topology, Consumer, providers_of, set_error, set_withering}
use Rattle.geo_model.specs.Events.{QueuedTopology, orphan_provider, wither, wither_unless_withering, orphan_consumer}
use Rattle.geo_access.proofs.Folding.{fold_leaves}
use Rattle.geo_event.specs.EventQueue.{Queued}
use Rattle.geo_mesh.specs.Graph.{IsSoundGraph}
use Rattle.geo_mesh.specs.Topo.{TopoView, with_topology}
use Rattle.geo_life.specs.Life.{RestStays}

module _ {C : Type 0} where
  -- a mesh with another graph is one with its own graph
  pub mesh_self : (t new : TopoView C) (u : Topology C) → new ≡ with_topology t u → new ≡ with_topology t new.topology
  mesh_self t new u is = is ∙ ap (λ (v : TopoView C). with_topology t v.topology) (sym is)

  -- the mesh is still the first one, or that one is known to be sound
  abbrev pub IsKnown : TopoView C → TopoView C → Type 0
  IsKnown t now = (now ≡ t) ⊎ IsSoundGraph t.topology

  -- so once a look-up told of it, the first one is
  pub sound_known : (t now : TopoView C) → IsKnown t now → IsSoundGraph now.topology → IsSoundGraph t.topology
  sound_known t now (inl same) sound = subst (λ (v : TopoView C). IsSoundGraph v.topology) same sound
  sound_known t now (inr known) sound = known

  -- where nothing is done
  pub rest_none : (t : TopoView C) (q : Queued) → RestStays t q t q
  rest_none t q = record { mesh = refl; room = refl }

  -- one change after the other
  pub rest_more : (t : TopoView C) (q : Queued) (a : TopoView C) (aq : Queued) (b : TopoView C) (bq : Queued)
      → RestStays t q a aq
      → RestStays a aq b bq → RestStays t q b bq
  rest_more t q a aq b bq first second = search rules

-- a post takes one place
pub post_room : {X : Type 0} (xs : List X) (x : X) (s : ℕ) → 1 ≤ s
    → (s - 1) + length (xs ++ x ∷ []) ≡ s + length xs
post_room xs x s some = search (rules, length-append xs (x ∷ []))

-- What a geom that withers leaves

module _ {C V : Type 0} (see : Topology C → V)
    (errors : (t : Topology C) (p : ℕ) → see (set_error t p) ≡ see t)
    (withers : (t : Topology C) (g : ℕ) → see (set_withering t g) ≡ see t) where
  -- what neither an error nor a mark of withering changes is left by a geom that withers, with its providers
  pub wither_leaves : (q : QueuedTopology C) (g : ℕ) → see (wither q g).topology ≡ see q.topology
  wither_leaves q g =
      fold_leaves (λ (r : QueuedTopology C). see r.topology) orphan_provider (λ r p. errors r.topology p)
      (map (λ x. x.number) (filter (λ x. not x.errored) (providers_of q.topology g)))
      (record q { topology = set_withering q.topology g })
      ∙ withers q.topology g

  -- unless it does so already
  pub unless_leaves : (q : QueuedTopology C) (g : ℕ) → see (wither_unless_withering q g).topology ≡ see q.topology
  unless_leaves q g = search (rules, wither_leaves q g)

  -- by a consumer that hears of an orphan
  pub orphan_leaves : (q : QueuedTopology C) (x : Consumer) → see (orphan_consumer q x).topology ≡ see q.topology
  orphan_leaves q x = search (rules, unless_leaves q x.geom)

  -- and by what was done where a geom may wither
  pub if_leaves : (b : Bool) (q new : QueuedTopology C) (g : ℕ) → new ≡ (if b then wither q g else q)
      → see new.topology ≡ see q.topology
  if_leaves true q new g is = ap (λ (r : QueuedTopology C). see r.topology) is ∙ wither_leaves q g
  if_leaves false q new g is = ap (λ (r : QueuedTopology C). see r.topology) is
