use Rattle.std.proofs.Common.{◌≡◌, ℕ, ◌+◌, ◌-◌, ◌<◌, ◌≤◌, true, map, refl, subst, ◌∙◌, arith, rules}
use Rattle.geo_model.specs.Words.{largest}
use Rattle.geo_slots.specs.Slots.{value_at}
use Rattle.geo_mesh.specs.Rows.{passes}
use Rattle.geo_mesh.specs.Mending.{IsLow}
use Rattle.geo_mesh.specs.Ranks.{offers, stored, ranked_below, is_offered}
use Rattle.geo_mesh.proofs.RankMend.{lowered-none}
use Rattle.geo_mesh.proofs.RankFirst.{ranked-below}
use Rattle.geo_mesh.proofs.RankWalk.{above-user}
use Rattle.geo_mesh.proofs.RankSteps.{at-provider, at-consumer, set-down, highest-ranked}
use Rattle.geo_mesh.proofs.ranks.+lower.Goals as goal

-- nothing above is lowered yet
pub lower-loop-prov-init : goal.lower-loop-prov-init
lower-loop-prov-init g t c =
    let is = set-down c.args.geoms.now c.store.new.geoms c.args.edges.now c.args.geom c.requires.later c.requires.enough
    c.stored-rank.ensures c.highest_below-new.ensures c.if-rank-new.false c.store.ensures.here c.store.ensures.others in
    record {
      same = refl;
      lowered = lowered-none (ranked_below c.args.edges.now) (stored c.store.new.geoms) is.enough;
      low = λ p m low. absurd (omega arith);
    }

-- a provider's height is that of its geom, so the measure falls by one
pub lower-lower_attached-requires : goal.lower-lower_attached-requires
lower-lower_attached-requires g t c κs within =
    let step = at-provider c.args.geoms.now c.loop-prov.geoms c.args.edges.now
    (c.loop-prov.invariant.same ∙ c.store.ensures.same) c.requires.walkable c.args.geom c.in-Some.prov c.loop-prov.at
    c.in-Some.ensures in
    let enough = c.loop-prov.invariant.lowered.enough in
    (omega (arith, c.decreases), ((λ a there. within a there), (step.walkable, (step.lives, enough))))

-- the consumers of all its providers were passed, so all directly above is low, as if nothing had been stored
pub lower-returns-clause-lowered : goal.lower-returns-clause-lowered
lower-returns-clause-lowered g t c =
    let is = set-down c.args.geoms.now c.store.new.geoms c.args.edges.now c.args.geom c.requires.later c.requires.enough
    c.stored-rank.ensures c.highest_below-new.ensures c.if-rank-new.false c.store.ensures.here c.store.ensures.others in
    let none : (m : ℕ) → passes (is_offered c.args.geom) (value_at (offers c.args.edges.now).rows m) ≡ true
    → m < c.loop-prov.at = c.in_default.ensures in
    is.whole (stored c.loop-prov.geoms) c.loop-prov.invariant.lowered
    (above-user c.args.edges.now c.requires.walkable.kin.consumers_rise
    (IsLow (ranked_below c.args.edges.now) (stored c.loop-prov.geoms)) c.args.geom
    (λ p m offered attached. c.loop-prov.invariant.low p m (none p offered) offered attached))

-- the geom was given the rank that it has to have, and lowering what is above doesn't change that
pub lower-returns-clause-low : goal.lower-returns-clause-low
lower-returns-clause-low g t c =
    let is = set-down c.args.geoms.now c.store.new.geoms c.args.edges.now c.args.geom c.requires.later c.requires.enough
    c.stored-rank.ensures c.highest_below-new.ensures c.if-rank-new.false c.store.ensures.here c.store.ensures.others in
    c.loop-prov.invariant.lowered.stays c.args.geom is.low

-- the geom of a consumer stands above the provider's, so it has fewer levels above it
pub lower_attached-lower-requires : goal.lower_attached-lower-requires
lower_attached-lower-requires g t c κs within =
    let step = at-consumer c.args.geoms.now c.loop-cons.geoms c.args.edges.now c.loop-cons.invariant.same
    c.requires.walkable c.args.prov c.in-Some.cons c.loop-cons.at c.user.result c.requires.lives c.in-Some.ensures
    c.user.ensures in (
      omega (arith, c.decreases),
      (
        λ a there. within a there,
        (step.walkable, (step.lives, (step.later, c.loop-cons.invariant.lowered.enough))),
      ),
    )

-- its rank was enough, so each below has a smaller one
pub lower-highest_below-new-requires-clause-most : goal.lower-highest_below-new-requires-clause-most
lower-highest_below-new-requires-clause-most g t c =
    subst (λ ms. largest (map (stored c.args.geoms.now) ms) ≤ c.stored-rank.result - 1)
    (ranked-below c.args.edges.now c.args.geom c.requires.later)
    (omega (arith, c.stored-rank.ensures, c.requires.enough c.args.geom))

-- its rank was enough, so one more than the highest below is no greater
pub lower-overflow_add-new : goal.lower-overflow_add-new
lower-overflow_add-new g t c =
    let most = highest-ranked c.args.geoms.now c.args.edges.now c.args.geom c.requires.later c.highest_below-new.result
    c.highest_below-new.ensures in
    let fits : 1 + c.highest_below-new.result ≤ c.stored-rank.result =
    omega (arith, c.stored-rank.ensures, c.requires.enough c.args.geom) in
    search rules

-- its rank is no greater than one more than the highest below, so nothing is lowered
pub lower-returns-then-rank-new-clause-low : goal.lower-returns-then-rank-new-clause-low
lower-returns-then-rank-new-clause-low g t c =
    let most = highest-ranked c.args.geoms.now c.args.edges.now c.args.geom c.requires.later c.highest_below-new.result
    c.highest_below-new.ensures in
    omega (arith, c.stored-rank.ensures, c.if-rank-new.true)
