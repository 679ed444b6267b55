use Rattle.std.proofs.Common.{◌≡◌, ◌+◌, ◌≤◌, ◌^◌, length, sym, ◌∙◌, arith, rules}
use Rattle.geo_mesh.specs.Ranks.{kinds, stored, ranked_below}
use Rattle.geo_mesh.proofs.RankMend.{lifted-enough, lifted-undone, lifted-loops}
use Rattle.geo_mesh.proofs.RankRows.{kinds-bare}
use Rattle.geo_mesh.proofs.RankWalk.{walkable-bare}
use Rattle.geo_mesh.proofs.RankMesh.{stored-bound, stored-unique}
use Rattle.geo_mesh.proofs.RankSteps.{raised-joinable}
use Rattle.geo_mesh.proofs.ranks.join.Goals as goal

-- Here and below: no rank is greater than one more than the geoms, so what is asked for fits, and a raise can reach it
pub overflow_add-rank : goal.overflow_add-rank
overflow_add-rank g c =
    let few : stored c.args.geoms.now c.args.under ≤ length (kinds c.args.geoms.now) + 1 =
    stored-bound c.args.geoms.now (ranked_below c.args.edges.now) c.requires.local c.args.under in
    let fits : c.stored-rank.result ≤ 2 ^ 33 = omega (arith, c.stored-rank.ensures, c.requires.walkable.few) in
    search rules

pub raise-high-requires-clause-fits : goal.raise-high-requires-clause-fits
raise-high-requires-clause-fits g c =
    let few : stored c.args.geoms.now c.args.under ≤ length (kinds c.args.geoms.now) + 1 =
    stored-bound c.args.geoms.now (ranked_below c.args.edges.now) c.requires.local c.args.under in
    omega (arith, c.stored-rank.ensures, c.requires.walkable.few)

pub lower-requires-clause-walkable : goal.lower-requires-clause-walkable
lower-requires-clause-walkable g c =
    walkable-bare c.args.geoms.now c.raise-high.new.geoms c.args.edges.now c.raise-high.ensures.same c.requires.walkable

pub lower-requires-clause-lives : goal.lower-requires-clause-lives
lower-requires-clause-lives g c =
    rw (kinds-bare c.args.geoms.now c.raise-high.new.geoms c.raise-high.ensures.same) c.requires.lives

-- a rank that grew has greater ones above it, so none became too small
pub lower-requires-clause-enough : goal.lower-requires-clause-enough
lower-requires-clause-enough g c =
    lifted-enough (ranked_below c.args.edges.now) (stored c.args.geoms.now) c.args.upper (c.stored-rank.result + 1)
    (stored c.raise-high.new.geoms) c.raise-high.ensures.lifted (λ x. omega (arith, c.requires.local x))

-- the lower geom's own rank grew with the upper one's, so it stands above that
pub returns-then-stored-rank-clause-refused : goal.returns-then-stored-rank-clause-refused
returns-then-stored-rank-clause-refused g c =
    let asked : c.stored-rank.result + 1 ≡ stored c.args.geoms.now c.args.under + 1 =
    omega (arith, c.stored-rank.ensures) in
    lifted-loops (ranked_below c.args.edges.now) (stored c.args.geoms.now) c.args.upper (c.stored-rank.result + 1)
    (stored c.raise-high.new.geoms) c.raise-high.ensures.lifted c.requires.local c.args.under asked
    (λ k. c.if-stored-rank.true (c.stored.ensures ∙ k ∙ sym c.stored-rank.ensures))

-- once lowered each rank is one more than the highest below, and the same graph has one such: the old
pub returns-then-stored-rank-clause-kept : goal.returns-then-stored-rank-clause-kept
returns-then-stored-rank-clause-kept g c =
    stored-unique c.args.geoms.now c.lower.new.geoms (ranked_below c.args.edges.now) (c.lower.ensures.same
    ∙ c.raise-high.ensures.same) c.requires.local
    (lifted-undone (ranked_below c.args.edges.now) (stored c.args.geoms.now) c.args.upper
    (c.stored-rank.result + 1) (stored c.raise-high.new.geoms) c.raise-high.ensures.lifted c.requires.local
    (stored c.lower.new.geoms) c.lower.ensures.lowered c.lower.ensures.low)

pub lower-requires-then-high-clause-walkable : goal.lower-requires-then-high-clause-walkable
lower-requires-then-high-clause-walkable g c =
    walkable-bare c.args.geoms.now c.raise-high.new.geoms c.args.edges.now c.raise-high.ensures.same c.requires.walkable

pub lower-requires-then-high-clause-lives : goal.lower-requires-then-high-clause-lives
lower-requires-then-high-clause-lives g c =
    rw (kinds-bare c.args.geoms.now c.raise-high.new.geoms c.raise-high.ensures.same) c.requires.lives

pub lower-requires-then-high-clause-enough : goal.lower-requires-then-high-clause-enough
lower-requires-then-high-clause-enough g c =
    lifted-enough (ranked_below c.args.edges.now) (stored c.args.geoms.now) c.args.upper (c.stored-rank.result + 1)
    (stored c.raise-high.new.geoms) c.raise-high.ensures.lifted (λ x. omega (arith, c.requires.local x))

-- the raised ranks are those of the graph with the edge, and one of them is above the limit
pub returns-then-high-clause-refused : goal.returns-then-high-clause-refused
returns-then-high-clause-refused g c = (
  c.raise-high.new.geoms,
  c.raise-high.ensures.same,
  raised-joinable c.args.geoms.now c.raise-high.new.geoms c.args.edges.now c.args.upper c.args.under
      c.stored-rank.ensures c.stored.ensures c.if-stored-rank.false c.requires.local c.raise-high.ensures.lifted
      c.raise-high.ensures.raised,
  sym c.raise-high.ensures.high ∙ c.if-high.true,
)

-- once lowered the ranks are the old ones, as after a loop
pub returns-then-high-clause-kept : goal.returns-then-high-clause-kept
returns-then-high-clause-kept g c =
    stored-unique c.args.geoms.now c.lower-then-high.new.geoms (ranked_below c.args.edges.now)
    (c.lower-then-high.ensures.same ∙ c.raise-high.ensures.same) c.requires.local
    (lifted-undone (ranked_below c.args.edges.now) (stored c.args.geoms.now) c.args.upper
    (c.stored-rank.result + 1) (stored c.raise-high.new.geoms) c.raise-high.ensures.lifted c.requires.local
    (stored c.lower-then-high.new.geoms) c.lower-then-high.ensures.lowered c.lower-then-high.ensures.low)

-- the lower geom's rank stood, so it isn't above the upper one, and the ranks fit the graph with the edge
pub returns-clause-joined : goal.returns-clause-joined
returns-clause-joined g c =
    raised-joinable c.args.geoms.now c.raise-high.new.geoms c.args.edges.now c.args.upper c.args.under
    c.stored-rank.ensures c.stored.ensures c.if-stored-rank.false c.requires.local c.raise-high.ensures.lifted
    c.raise-high.ensures.raised
