use Rattle.std.proofs.Common.{◌≡◌, ℕ, ◌+◌, ◌<◌, ◌≤◌, ◌^◌, true, length, refl, subst, ◌∙◌, arith, rules}
use Rattle.geo_slots.specs.Slots.{value_at}
use Rattle.geo_mesh.specs.Rows.{passes}
use Rattle.geo_mesh.specs.Mending.{height, Lifted}
use Rattle.geo_mesh.specs.Ranks.{kinds, offers, ranked_links, stored, ranked_below, owner, user, highest_raise, is_high, is_offered, is_attached, IsFirst}
use Rattle.geo_mesh.proofs.RankMend.{lifted-none, lifted-more, lifted-above, lifted-whole}
use Rattle.geo_mesh.proofs.RankHeights.{height-most}
use Rattle.geo_mesh.proofs.RankRows.{kinds-bare}
use Rattle.geo_mesh.proofs.RankWalk.{user-above, above-user, walk-more}
use Rattle.geo_mesh.proofs.RankSteps.{at-provider, at-consumer, first-owned}
use Rattle.geo_mesh.proofs.ranks.+raise.Goals as goal

-- so far the geom alone has a greater rank, and no provider was passed
pub raise-loop-prov-init : goal.raise-loop-prov-init
raise-loop-prov-init g t c = record {
  same = refl;
  lifted = lifted-none (ranked_below c.args.edges.now) c.args.geom 0 (stored c.lift-high.new.geoms);
  high = rw (kinds-bare c.args.geoms.now c.lift-high.new.geoms c.lift-high.ensures.same) c.lift-high.ensures.high;
  passed = λ p m low. absurd (omega arith);
}

-- no more is asked for than a height and 2^33, and no height is greater than one more than the geoms
pub raise-overflow_add-least : goal.raise-overflow_add-least
raise-overflow_add-least g t c =
    let most : height (ranked_below c.args.edges.now) (length (kinds c.args.geoms.now)) c.args.geom
    ≤ length (kinds c.args.geoms.now) + 1 =
    height-most (ranked_below c.args.edges.now) (length (kinds c.args.geoms.now)) c.args.geom in
    let few : c.args.least ≤ 2 ^ 34 = omega (arith, c.requires.fits, c.requires.walkable.few) in
    search rules

-- a provider's height is that of its geom, so the measure falls by one
pub raise-raise_attached-high-requires : goal.raise-raise_attached-high-requires
raise-raise_attached-high-requires g t c κs within =
    let step = at-provider c.args.geoms.now c.loop-prov.geoms c.args.edges.now
    (c.loop-prov.invariant.same ∙ c.lift-high.ensures.same) c.requires.walkable c.args.geom c.in-Some.prov
    c.loop-prov.at c.in-Some.ensures in
    let own = first-owned c.args.edges.now c.args.geom c.in-Some.prov c.loop-prov.at c.in-Some.ensures in
    let raised : c.args.least ≤ stored c.loop-prov.geoms (owner c.args.edges.now c.in-Some.prov) =
    rw own (omega (arith, c.lift-high.ensures.here, c.loop-prov.invariant.lifted.grows c.args.geom)) in (
      omega (arith, c.decreases),
      (
        λ a there. within a there,
        (
          step.walkable,
          (
            step.lives,
            (
              omega arith,
              (
                omega (arith, c.requires.fits),
                (rw (kinds-bare c.lift-high.new.geoms c.loop-prov.geoms c.loop-prov.invariant.same)
                    c.loop-prov.invariant.high),
              ),
            ),
          ),
        ),
      ),
    )

-- what the earlier providers carry stays raised, and now the consumers of this one are raised too
pub raise-loop-prov-preserved : goal.raise-loop-prov-preserved
raise-loop-prov-preserved g t c =
    let own = first-owned c.args.edges.now c.args.geom c.in-Some.prov c.loop-prov.at c.in-Some.ensures in
    let now : Lifted (ranked_below c.args.edges.now) c.args.geom 0 (stored c.loop-prov.geoms)
    (stored c.raise_attached-high.new.geoms) =
    subst (λ o. Lifted (ranked_below c.args.edges.now) o 0 (stored c.loop-prov.geoms)
    (stored c.raise_attached-high.new.geoms)) own c.raise_attached-high.ensures.lifted in
    record {
      same = c.raise_attached-high.ensures.same ∙ c.loop-prov.invariant.same;
      lifted = lifted-more (ranked_below c.args.edges.now) c.args.geom (stored c.lift-high.new.geoms)
          (stored c.loop-prov.geoms) (stored c.raise_attached-high.new.geoms) c.loop-prov.invariant.lifted now;
      high = rw (← kinds-bare c.lift-high.new.geoms c.loop-prov.geoms c.loop-prov.invariant.same)
          c.raise_attached-high.ensures.high;
      passed = λ p m low offered.
          walk-more (is_offered c.args.geom) (offers c.args.edges.now).rows c.args.edges.now.providers.next
          c.loop-prov.at c.in-Some.prov
          (λ q. passes (is_attached q) (value_at (ranked_links c.args.edges.now).rows m) ≡ true
          → c.args.least + 1 ≤ stored c.raise_attached-high.new.geoms (user c.args.edges.now m)) c.in-Some.ensures
          (λ q low offered attached. omega (
            arith,
            c.loop-prov.invariant.passed q m low offered attached,
            now.grows (user c.args.edges.now m),
          ))
          (λ attached. c.raise_attached-high.ensures.raised m attached) p low offered;
    }

-- all providers were passed, so each geom directly above is higher, as a lift of this geom wants
pub raise-returns-clause-lifted : goal.raise-returns-clause-lifted
raise-returns-clause-lifted g t c =
    let none : (m : ℕ) → passes (is_offered c.args.geom) (value_at (offers c.args.edges.now).rows m) ≡ true
    → m < c.loop-prov.at = c.in_default.ensures in
    let low : stored c.args.geoms.now c.args.geom < c.args.least =
    omega (arith, c.stored.ensures, c.if-least-stored.false) in
    lifted-whole (ranked_below c.args.edges.now) c.args.geom c.args.least (stored c.args.geoms.now)
    (stored c.lift-high.new.geoms) (stored c.loop-prov.geoms) low c.lift-high.ensures.here
    c.lift-high.ensures.others c.loop-prov.invariant.lifted
    (above-user c.args.edges.now c.requires.walkable.kin.consumers_rise (λ x. c.args.least + 1
    ≤ stored c.loop-prov.geoms x) c.args.geom
    (λ p m offered attached. c.loop-prov.invariant.passed p m (none p offered) offered attached))

pub raise-returns-clause-high : goal.raise-returns-clause-high
raise-returns-clause-high g t c =
    rw (← kinds-bare c.args.geoms.now c.lift-high.new.geoms c.lift-high.ensures.same) c.loop-prov.invariant.high

-- the geom of a consumer stands above the provider's, so it has fewer levels above it
pub raise_attached-raise-high-requires : goal.raise_attached-raise-high-requires
raise_attached-raise-high-requires g t c κs within =
    let step = at-consumer c.args.geoms.now c.loop-cons.geoms c.args.edges.now c.loop-cons.invariant.same
    c.requires.walkable c.args.prov c.in-Some.cons c.loop-cons.at c.user.result c.requires.lives c.in-Some.ensures
    c.user.ensures in
    let fits : c.args.least ≤ highest_raise c.loop-cons.geoms c.args.edges.now c.user.result =
    omega (arith, c.requires.fits) in
    let high : c.loop-cons.high ≡ is_high (kinds c.loop-cons.geoms) (stored c.loop-cons.geoms) =
    rw (kinds-bare c.args.geoms.now c.loop-cons.geoms c.loop-cons.invariant.same) c.loop-cons.invariant.high in
    (omega (arith, c.decreases), ((λ a there. within a there), (step.walkable, (step.lives, (fits, high)))))

-- the consumer's geom stands directly above the provider's, so its raise lifts no more than stands above that
pub raise_attached-loop-cons-preserved : goal.raise_attached-loop-cons-preserved
raise_attached-loop-cons-preserved g t c =
    let first : IsFirst (is_attached c.args.prov) (ranked_links c.args.edges.now).rows
    c.args.edges.now.consumers.next c.loop-cons.at c.in-Some.cons = c.in-Some.ensures in
    let near = user-above c.args.edges.now c.args.prov c.in-Some.cons c.requires.lives first.passing in
    let low : c.args.least ≤ stored c.loop-cons.geoms (owner c.args.edges.now c.args.prov) + 1 =
    omega (arith, c.requires.low, c.loop-cons.invariant.lifted.grows (owner c.args.edges.now c.args.prov)) in
    let one : Lifted (ranked_below c.args.edges.now) (user c.args.edges.now c.in-Some.cons) c.args.least
    (stored c.loop-cons.geoms) (stored c.raise-high.new.geoms) =
    subst (λ x. Lifted (ranked_below c.args.edges.now) x c.args.least (stored c.loop-cons.geoms)
    (stored c.raise-high.new.geoms)) c.user.ensures c.raise-high.ensures.lifted in
    let now : Lifted (ranked_below c.args.edges.now) (owner c.args.edges.now c.args.prov) 0
    (stored c.loop-cons.geoms) (stored c.raise-high.new.geoms) =
    lifted-above (ranked_below c.args.edges.now) (owner c.args.edges.now c.args.prov)
    (user c.args.edges.now c.in-Some.cons) c.args.least (stored c.loop-cons.geoms)
    (stored c.raise-high.new.geoms) near low one in
    record {
      same = c.raise-high.ensures.same ∙ c.loop-cons.invariant.same;
      lifted = lifted-more (ranked_below c.args.edges.now) (owner c.args.edges.now c.args.prov)
          (stored c.args.geoms.now) (stored c.loop-cons.geoms) (stored c.raise-high.new.geoms)
          c.loop-cons.invariant.lifted now;
      high = rw (← kinds-bare c.args.geoms.now c.loop-cons.geoms c.loop-cons.invariant.same) c.raise-high.ensures.high;
      raised =
          walk-more (is_attached c.args.prov) (ranked_links c.args.edges.now).rows c.args.edges.now.consumers.next
          c.loop-cons.at c.in-Some.cons
          (λ m. c.args.least ≤ stored c.raise-high.new.geoms (user c.args.edges.now m)) first
          (λ m low there. omega (arith, c.loop-cons.invariant.raised m low there, now.grows (user c.args.edges.now m)))
          (rw (← c.user.ensures) c.raise-high.ensures.raised);
    }
