use Rattle.std.proofs.Common.{[], length, ◌<◌, IfSome, ◌≡◌, ◌∙◌, sym}
use Rattle.geo_model.specs.Acceptance.{places_of}
use Rattle.geo_model.specs.Topology.{Geom, geom_at, providers_of}
use Rattle.geo_laws_life.proofs.Found.{at-some}
use Rattle.geo_mesh.specs.Cells.{geom_seen, provider_seen}
use Rattle.geo_taste.specs.Members.{CanBeOffered, joined_name, member_of}
use Rattle.geo_taste.specs.Standing.{CanStandOn, MayOffer}
use Rattle.geo_taste.proofs.JoinLemmas.{declines_filled, declines_full, declines_planless, kept_taken, room_kept, standing_may_offer, takes_place, plan_offers, bare_of}
use Rattle.geo_taste.proofs.join.join_standing.Goals as goal

-- for each decline: the place can't be taken, or comes to nothing, so the model declines too; nothing was changed yet
pub returns-then-not-branch-clause-made : goal.returns-then-not-branch-clause-made
returns-then-not-branch-clause-made c =
    declines_full c.args.topo.now c.args.queue.now (provider_seen c.args.prov c.args.below.now)
    (member_of c.args.member.now) (geom_seen c.args.geom c.in-Some.standing.now) c.args.geom c.in-Some.ensures.geom
    c.requires.place c.in_ok-can_join.field-0 c.in_ok-can_join.ensures c.if-not-branch.true

-- in a firm mesh a geom with a free place has no provider yet, so there it never comes to this
pub returns-then-not-is_bare-clause-made : goal.returns-then-not-is_bare-clause-made
returns-then-not-is_bare-clause-made c =
    declines_filled c.args.topo.now c.args.queue.now (provider_seen c.args.prov c.args.below.now)
    (member_of c.args.member.now) (geom_seen c.args.geom c.in-Some.standing.now) c.args.geom c.in-Some.ensures.geom
    c.requires.place c.in_ok-can_join.field-0 c.in_ok-can_join.ensures c.if-not-branch.false
    (sym c.is_bare.ensures ∙ c.if-not-is_bare.true)

pub place_plan-requires : goal.place_plan-requires
place_plan-requires c =
    at-some (geom_at c.args.topo.now.topology c.args.geom)
    (λ (x : Geom _). c.args.member.now.place < length (places_of x.config))
    (geom_seen c.args.geom c.in-Some.standing.now) c.in-Some.ensures.geom c.requires.place

pub returns-in_default-2-clause-made : goal.returns-in_default-2-clause-made
returns-in_default-2-clause-made c =
    declines_planless c.args.topo.now c.args.queue.now (provider_seen c.args.prov c.args.below.now)
    (member_of c.args.member.now) (geom_seen c.args.geom c.in-Some.standing.now) c.args.geom c.in-Some.ensures.geom
    c.requires.place c.in_ok-can_join.field-0 c.in_ok-can_join.ensures c.from.ensures c.in_ok-plan.ensures
    c.if-not-branch.false c.in_default-2.is

-- for each condition: it was found true of the mesh before, and keeping room changed no part
pub take_place-requires-clause-may : goal.take_place-requires-clause-may
take_place-requires-clause-may c =
    room_kept (λ t. MayOffer t c.args.geom) c.args.topo.now c.reserve.new.self c.reserve.ensures.same
    (standing_may_offer c.args.topo.now.topology c.args.geom (geom_seen c.args.geom c.in-Some.standing.now)
    c.in-Some.ensures.geom c.requires.stays
    (sym c.is_bare.ensures ∙ c.if-not-is_bare.false))

pub take_place-requires-clause-bare : goal.take_place-requires-clause-bare
take_place-requires-clause-bare c =
    room_kept (λ t. providers_of t c.args.geom ≡ []) c.args.topo.now c.reserve.new.self c.reserve.ensures.same
    (bare_of c.args.topo.now.topology c.args.geom
    (sym c.is_bare.ensures ∙ c.if-not-is_bare.false)).bare

pub take_place-requires-clause-stands : goal.take_place-requires-clause-stands
take_place-requires-clause-stands c =
    room_kept (λ t. CanStandOn t c.args.prov) c.args.topo.now c.reserve.new.self c.reserve.ensures.same
    c.requires.stands

pub take_place-requires-clause-offer : goal.take_place-requires-clause-offer
take_place-requires-clause-offer c =
    room_kept (λ t. IfSome c.in-Some-2.plan.offer (CanBeOffered t)) c.args.topo.now c.reserve.new.self
    c.reserve.ensures.same
    (plan_offers c.args.topo.now.topology _ c.args.below.now.sector c.in-Some.standing.now.config
    c.args.member.now.place (joined_name c.args.member.now.kind c.args.member.now.geom_name) c.in-Some-2.plan
    (sym c.in_ok-plan.ensures ∙ c.in-Some-2.is))

-- the place is free, the geom has no provider and there is a plan, so the model takes the place by it too
pub returns-clause-made : goal.returns-clause-made
returns-clause-made c =
    takes_place c.args.topo.now c.args.queue.now (provider_seen c.args.prov c.args.below.now)
    (member_of c.args.member.now) (geom_seen c.args.geom c.in-Some.standing.now) c.args.geom c.in-Some.ensures.geom
    c.requires.place c.in_ok-can_join.field-0 c.in_ok-can_join.ensures c.from.ensures c.in_ok-plan.ensures
    c.take_place.new.topo c.take_place.new.queue c.in-Some-2.plan c.if-not-branch.false c.in-Some-2.is
    (kept_taken c.args.topo.now c.reserve.new.self c.take_place.new.topo c.args.queue.now c.reserve-2.new.self
    c.take_place.new.queue c.args.prov c.args.geom c.in-Some-2.plan c.reserve.ensures.same
    c.reserve-2.ensures.events_stay c.take_place.ensures.taken)
