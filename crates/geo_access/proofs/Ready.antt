-- A mesh in which a demand was tried, as those find it that judge the demand and end the walk.
use Rattle.std.specs.Prelude.{◌≡◌, ℕ, ◌+◌, ◌≤◌, fold, Option, Some, IsSome, All, option_map, None, Result}
use Rattle.std.specs.Option.{option_copied}
use Rattle.std.specs.Borrow.{Bor}
use Rattle.std.proofs.Common.{sym, ◌∙◌, ap, subst, arith, rules}
use Rattle.geo_base.specs.declared.request.Counts.{Counts}
use Rattle.geo_model.specs.Topology.{Topology, Provider, geom_at, provider_at, Consumer, consumer_at}
use Rattle.geo_model.specs.Rank.{rank}
use Rattle.geo_mesh.specs.declared.records.ProvRec.{ProvRec}
use Rattle.geo_mesh.specs.Cells.{provider_seen}
use Rattle.geo_mesh.specs.Topo.{TopoView}
use Rattle.geo_mesh.specs.Graph.{IsSoundGraph}
use Rattle.geo_laws_counts.proofs.LimitFacts.{all_of}
use Rattle.geo_access.specs.declared.counts.Way.{Way}
use Rattle.geo_access.specs.declared.order.Order.{Order}
use Rattle.geo_access.specs.Access.{clear_scratches, granted_by, consumers_below, IsCounted, IsHolder}
use Rattle.geo_access.specs.Views.{Gathered, visit, gathered_from, order_of, give, spread_from, consumers_over, IsTried, finish_geom, judged, errno_of_refused, MayEnd, MayJudge}
use Rattle.geo_access.proofs.TryOut.{spreads_order}
use Rattle.geo_access.proofs.Walked.{given_order, given_graph, below_lives, geoms_below, tried_graph, tried_lives, tried_apart}
use Rattle.geo_base.proofs.Options.{there_with_fact}
use Rattle.geo_base.specs.declared.errno.Errno.{Errno}
use Rattle.geo_model.specs.Words.{unless}
use Rattle.geo_model.specs.Opens.{grant_refusal, with_grant, with_opener}
use Rattle.geo_laws_counts.specs.CountWords.{HoldsGrants}
use Rattle.geo_access.specs.declared.counts.Way.TheVariants.{Rises}
use Rattle.geo_access.proofs.Folding.{order_graph}
use Rattle.geo_access.proofs.Decided.{IsTold, counted_told, steps_bound}
use Rattle.geo_access.proofs.Coming.{end_of, open_refused, tells_of, below_tells_of}

-- the provider that is looked at
pub provider_found : {C : Type 0} {cell : Option (Bor ProvRec)} {one : Bor ProvRec} (t : Topology C) (p : ℕ)
    → cell ≡ Some one → provider_at t p ≡ option_map (provider_seen p) (option_copied cell)
    → provider_at t p ≡ Some (provider_seen p one.now)
provider_found t p is looked = looked ∙ ap (λ o. option_map (provider_seen p) (option_copied o)) is

-- the mesh in which the order of the geoms below a provider stands, and the demand is given to the provider
pub record IsGiven {C : Type 0} (t : TopoView C) (p : ℕ) (add : Counts) (given : TopoView C) (o : Order) : Type 0 where
  pub offer : Provider
  pub found : provider_at t.topology p ≡ Some offer
  pub order : o ≡ (gathered_from t offer.geom).order
  pub view : given ≡ give add (gathered_from t offer.geom).view p
  pub graph : given.topology ≡ t.topology
  pub lives : All (λ x. IsSome (geom_at given.topology x)) (order_of given o)

-- is what gathering the order and giving the demand make
pub given_is : {C : Type 0} {cell : Option (Bor ProvRec)} {one : Bor ProvRec} {start : ℕ}
    {gathered given : TopoView C} {o : Order} (t : TopoView C) (p : ℕ) (add : Counts) → IsSoundGraph t.topology
    → t.scratches ≡ clear_scratches t.topology → cell ≡ Some one
    → provider_at t.topology p ≡ option_map (provider_seen p) (option_copied cell) → start ≡ one.now.geom
    → ((levels : ℕ) → rank t.topology one.now.geom ≤ levels
    → ◌≡◌ {A = Gathered C} (record { view = gathered; order = o })
    (visit levels one.now.geom (record { view = t; order = record { head = start; count = 0 } })))
    → given ≡ give add gathered p → IsGiven t p add given o
given_is {C} {cell} {one} {start} {gathered} {given} {o} t p add sound clear is looked starts gathers gives =
    let y : Provider = provider_seen p one.now in
    let found : provider_at t.topology p ≡ Some y = provider_found t.topology p is looked in
    let made : ◌≡◌ {A = Gathered C} (record { view = gathered; order = o }) (gathered_from t y.geom) =
    gathers (rank t.topology y.geom) (omega arith)
    ∙ ap (λ n. visit (rank t.topology y.geom) y.geom (record {
      view = t;
      order =
          record { head = n; count = 0 };
    })) starts in
    let order : o ≡ (gathered_from t y.geom).order = ap (λ (s : Gathered C). s.order) made in
    let view : given ≡ give add (gathered_from t y.geom).view p =
    gives ∙ ap (λ (s : Gathered C). give add s.view p) made in
    let at : order_of given o ≡ geoms_below t sound clear p y found =
    ap (λ v. order_of v o) view ∙ ap (order_of (give add (gathered_from t y.geom).view p)) order
    ∙ given_order t sound clear p y found add in
    let graph : given.topology ≡ t.topology =
    ap (λ (v : TopoView C). v.topology) view ∙ given_graph t sound clear p y found add in
    record {
      offer = y;
      found = found;
      order = order;
      view = view;
      graph = graph;
      lives =
          subst (λ u. All (λ x. IsSome (geom_at u x)) (order_of given o)) (sym graph)
          (subst (All (λ x. IsSome (geom_at t.topology x))) (sym at)
          (all_of (λ x. IsSome (geom_at t.topology x)) (geoms_below t sound clear p y found)
          (below_lives t sound clear p y found)));
    }

module _ {C : Type 0} {t : TopoView C} {p : ℕ} {add : Counts} {given new : TopoView C} {o : Order} (way : Way)
    (is_given : IsGiven t p add given o)
    (spreads : new ≡ fold (spread_from way) given (order_of given o)) where
  -- what is handed down leaves the order
  spread_order : order_of new o ≡ order_of given o
  spread_order = ap (λ v. order_of v o) spreads ∙ spreads_order way (order_of given o) given o

  -- so the demand was tried
  pub given_tried : IsTried t p add way new o
  given_tried = search (rules, spread_order)

  -- so many steps were taken as its order has consumers
  pub given_steps : {after : ℕ} (before : ℕ) → after ≡ before + consumers_over given.topology (order_of given o)
      → after ≡ before + consumers_over t.topology (order_of new o)
  given_steps before steps = search (rules, ap (consumers_over t.topology) (sym spread_order))

-- The end of what was tried

-- a walk that was tried can be ended
pub may_end : {C : Type 0} {t : TopoView C} {p : ℕ} {add : Counts} {way : Way} {new : TopoView C} {o : Order}
    → IsTried t p add way new o → IsSoundGraph t.topology → t.scratches ≡ clear_scratches t.topology → MayEnd new o
may_end {C} {t} {p} {add} {way} {new} {o} tried sound clear =
    search (rules, tried_lives sound clear tried, tried_apart sound clear tried)

-- and judged, where the stored counts are told
pub may_judge : {C : Type 0} {t : TopoView C} {p : ℕ} {add : Counts} {new : TopoView C} {o : Order}
    → IsTried t p add Rises new o → IsSoundGraph t.topology → IsTold t → MayJudge new p o
may_judge tried sound told = record {
  lives = tried_lives sound told.clear tried;
  tells = tells_of tried sound told;
  below = below_tells_of tried sound told;
}

-- a demand of a consumer of DEV that would come to the provider: what it is told is the model's, the end that keeps
-- nothing leaves the mesh as it was, and the steps are within the bound
pub record IsOpenerAsked {C : Type 0} (t : TopoView C) (p : ℕ) (add : Counts) (new : TopoView C) (o : Order)
    (refused : Option Errno) : Type 0 where
  pub told : ◌≡◌ {A = Result (Unit {0}) Errno} (unless refused tt)
      (unless (grant_refusal (with_grant (granted_by t) t.topology.next_consumer add) (with_opener t.topology p) p) tt)
  pub ends : fold (finish_geom None) new (order_of new o) ≡ t
  pub bound : consumers_over t.topology (order_of new o) ≤ consumers_below t.topology p

-- so it is where it was tried and decided
pub opener_asked : {C : Type 0} {t : TopoView C} {p : ℕ} {add : Counts} {new : TopoView C} {o : Order}
    {refused : Option Errno} → IsTried t p add Rises new o → IsSoundGraph t.topology → IsCounted t
    → refused ≡ option_map errno_of_refused (judged new p add (order_of new o)) → IsOpenerAsked t p add new o refused
opener_asked {C} {t} {p} {add} {new} {o} tried sound counted decides =
    let told : IsTold t = counted_told t sound counted in
    record {
      told =
          ap (λ (e : Option Errno). unless {A = Unit {0}} e tt) (decides ∙ open_refused tried sound told);
      ends = end_of tried sound told;
      bound = steps_bound sound counted.clear tried;
    }

-- whatever the end keeps, a consumer of DEV or TASTE is still there
pub holder_stays : {C : Type 0} {t : TopoView C} {p : ℕ} {add : Counts} {way : Way} {new : TopoView C} {o : Order}
    {last : TopoView C} (keep : Option Way) (cons : ℕ) → IsTried t p add way new o → IsSoundGraph t.topology
    → t.scratches ≡ clear_scratches t.topology → IsHolder t.topology cons
    → last ≡ fold (finish_geom keep) new (order_of new o) → IsSome (consumer_at last.topology cons)
holder_stays {C} {t} {p} {add} {way} {new} {o} {last} keep cons tried sound clear holder ends =
    subst (λ (u : Topology C). IsSome (consumer_at u cons))
    (sym (ap (λ (v : TopoView C). v.topology) ends ∙ order_graph keep (order_of new o) new
    ∙ tried_graph sound clear tried))
    (there_with_fact (λ (x : Consumer). HoldsGrants t.topology x.geom) (consumer_at t.topology cons) holder.kind)
