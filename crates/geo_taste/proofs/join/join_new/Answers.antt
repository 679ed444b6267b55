use Rattle.std.proofs.Common.{[], ◌∷◌, ◌≡◌, ◌-◌, None, Some, ap, ◌∙◌, subst, sym, true}
use Rattle.geo_model.specs.Topology.{providers_of}
use Rattle.geo_mesh.specs.Cells.{provider_seen}
use Rattle.geo_mesh.specs.Topo.{TopoView}
use Rattle.geo_taste.specs.Making.{AreBoth, both}
use Rattle.geo_taste.specs.Members.{joined_name, member_of, plan_of, with_plan}
use Rattle.geo_taste.specs.Standing.{MayOffer}
use Rattle.geo_taste.proofs.JoinLemmas.{geom_over, new_joined, new_none, offered_still, plan_offers}
use Rattle.geo_taste.proofs.Raising.{can_rise}
use Rattle.geo_taste.proofs.TableLemmas.{stands_kept, unchanged}
use Rattle.geo_taste.proofs.join.join_new.Goals as goal

-- the place that the member fills comes to nothing, so the model makes nothing, and nothing was changed yet
pub returns-in_default-clause-made : goal.returns-in_default-clause-made
returns-in_default-clause-made c = (
  unchanged c.args.topo.now c.args.queue.now,
  new_none c.args.topo.now c.args.queue.now (provider_seen c.args.prov c.args.below.now) (member_of c.args.member)
      (subst (λ n. plan_of c.args.topo.now.topology (c.args.below.now.size - n) c.args.below.now.sector
      c.args.member.empty c.args.member.place
      (joined_name c.args.member.kind c.args.member.geom_name) ≡ None) c.from.ensures
      (sym c.in_ok-plan.ensures ∙ c.in_default.is)),
)

-- for each condition: a geom just raised stands, without a provider, and what stood before stands still
pub take_place-requires-clause-may : goal.take_place-requires-clause-may
take_place-requires-clause-may c =
    subst (MayOffer c.raise_empty-geom.new.topo.topology) (sym c.raise_empty-geom.ensures.number)
    (can_rise c.reserve.new.self c.raise_empty-geom.new.topo c.args.member.kind c.args.member.geom_name
    c.args.member.empty true c.raise_empty-geom.ensures.raised (c.args.prov ∷ []) c.raise_empty-geom.ensures.sound
    (stands_kept c.args.topo.now c.reserve.new.self c.args.prov c.reserve.ensures.same c.requires.stands)).may

pub take_place-requires-clause-bare : goal.take_place-requires-clause-bare
take_place-requires-clause-bare c =
    subst (λ n. providers_of c.raise_empty-geom.new.topo.topology n ≡ []) (sym c.raise_empty-geom.ensures.number)
    (can_rise c.reserve.new.self c.raise_empty-geom.new.topo c.args.member.kind c.args.member.geom_name
    c.args.member.empty true c.raise_empty-geom.ensures.raised (c.args.prov ∷ []) c.raise_empty-geom.ensures.sound
    (stands_kept c.args.topo.now c.reserve.new.self c.args.prov c.reserve.ensures.same c.requires.stands)).bare

pub take_place-requires-clause-stands : goal.take_place-requires-clause-stands
take_place-requires-clause-stands c =
    (can_rise c.reserve.new.self c.raise_empty-geom.new.topo c.args.member.kind c.args.member.geom_name
    c.args.member.empty true c.raise_empty-geom.ensures.raised (c.args.prov ∷ []) c.raise_empty-geom.ensures.sound
    (stands_kept c.args.topo.now c.reserve.new.self c.args.prov c.reserve.ensures.same c.requires.stands)).stand.0

-- a new geom brings no provider, so the name that the plan found free is free still
pub take_place-requires-clause-offer : goal.take_place-requires-clause-offer
take_place-requires-clause-offer c =
    offered_still c.args.topo.now.topology c.raise_empty-geom.new.topo.topology c.in-Some.plan.offer
    (ap (λ (x : TopoView _). x.topology.providers)
    (geom_over c.args.topo.now c.reserve.new.self c.raise_empty-geom.new.topo c.args.member.kind
    c.args.member.geom_name c.args.member.empty true c.reserve.ensures.same c.raise_empty-geom.ensures.raised))
    (plan_offers c.args.topo.now.topology _ c.args.below.now.sector c.args.member.empty c.args.member.place
    (joined_name c.args.member.kind c.args.member.geom_name) c.in-Some.plan (sym c.in_ok-plan.ensures ∙ c.in-Some.is))

-- the geom was raised with the next number, so its place is taken in the very geom that the model makes
pub returns-clause-made : goal.returns-clause-made
returns-clause-made c = λ facts.
    new_joined c.args.topo.now c.args.queue.now (provider_seen c.args.prov c.args.below.now) (member_of
    c.args.member) c.raise_empty-geom.new.topo
    c.take_place.new.topo c.reserve-2.new.self c.take_place.new.queue c.in-Some.plan
    (subst (λ n. plan_of c.args.topo.now.topology (c.args.below.now.size - n) c.args.below.now.sector
    c.args.member.empty c.args.member.place
    (joined_name c.args.member.kind c.args.member.geom_name) ≡ Some c.in-Some.plan) c.from.ensures
    (sym c.in_ok-plan.ensures ∙ c.in-Some.is))
    (geom_over c.args.topo.now c.reserve.new.self c.raise_empty-geom.new.topo c.args.member.kind
    c.args.member.geom_name c.args.member.empty true c.reserve.ensures.same c.raise_empty-geom.ensures.raised)
    c.reserve-2.ensures.events_stay
    (subst (λ n. AreBoth c.take_place.new.topo c.take_place.new.queue
    (with_plan (both c.raise_empty-geom.new.topo c.reserve-2.new.self) c.args.prov n c.in-Some.plan))
    (c.raise_empty-geom.ensures.number
    ∙ ap (λ (x : TopoView _). x.topology.next_geom) c.reserve.ensures.same)
    c.take_place.ensures.taken)
