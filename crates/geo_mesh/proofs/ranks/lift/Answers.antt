use Rattle.std.proofs.Common.{◌≡◌, true, false, refl, arith}
use Rattle.std.specs.Prelude.{nat_lt}
use Rattle.std.proofs.lemmas.Bool.{lt-ltb, le-ltb}
use Rattle.geo_model.specs.TheConstants.{MAX_RANK}
use Rattle.geo_mesh.specs.Ranks.{stored}
use Rattle.geo_mesh.proofs.RankRows.{kinds-bare}
use Rattle.geo_mesh.proofs.RankSteps.{high-raised}
use Rattle.geo_mesh.proofs.ranks.lift.Goals as goal

-- one was above the limit before, and no rank fell
pub returns-then-high-clause-high : goal.returns-then-high-clause-high
returns-then-high-clause-high g c =
    let whole = high-raised c.args.geoms.now c.store.new.geoms c.args.geom c.args.rank c.store.ensures.rising
    c.requires.lives c.requires.more c.store.ensures.here c.store.ensures.others in
    rw (whole, ← c.requires.high, c.if-high.true) refl

-- the geom's own rank is above the limit
pub returns-then-rank-gt-RANK_LIMIT-clause-high : goal.returns-then-rank-gt-RANK_LIMIT-clause-high
returns-then-rank-gt-RANK_LIMIT-clause-high g c =
    let whole = high-raised c.args.geoms.now c.store.new.geoms c.args.geom c.args.rank c.store.ensures.rising
    c.requires.lives c.requires.more c.store.ensures.here c.store.ensures.others in
    let high : nat_lt MAX_RANK (stored c.store.new.geoms c.args.geom) ≡ true =
    lt-ltb MAX_RANK (stored c.store.new.geoms c.args.geom)
    (omega (arith, c.store.ensures.here, c.if-rank-gt-RANK_LIMIT.true)) in
    rw (
      whole,
      ← c.requires.high,
      c.if-high.false,
      high,
      c.is_granted_at.ensures,
      kinds-bare c.args.geoms.now c.store.new.geoms c.store.ensures.same,
    ) refl

-- it isn't
pub returns-else-rank-gt-RANK_LIMIT-clause-high : goal.returns-else-rank-gt-RANK_LIMIT-clause-high
returns-else-rank-gt-RANK_LIMIT-clause-high g c =
    let whole = high-raised c.args.geoms.now c.store.new.geoms c.args.geom c.args.rank c.store.ensures.rising
    c.requires.lives c.requires.more c.store.ensures.here c.store.ensures.others in
    let low : nat_lt MAX_RANK (stored c.store.new.geoms c.args.geom) ≡ false =
    le-ltb MAX_RANK (stored c.store.new.geoms c.args.geom)
    (omega (arith, c.store.ensures.here, c.if-rank-gt-RANK_LIMIT.false)) in
    let asked : nat_lt MAX_RANK c.args.rank ≡ false = le-ltb MAX_RANK c.args.rank c.if-rank-gt-RANK_LIMIT.false in
    rw (whole, ← c.requires.high, c.if-high.false, low, asked) refl
