use Rattle.geo_mesh.specs.Ranks.{kind_of}
use Rattle.std.proofs.Common.{sym}
use Rattle.geo_mesh.proofs.RowLemmas.{seen-some}
use Rattle.geo_mesh.proofs.RankRows.{store-same, store-here, store-others}
use Rattle.geo_mesh.proofs.ranks.store.Goals as goal

pub cell_mut-requires : goal.cell_mut-requires
cell_mut-requires g c = seen-some kind_of c.args.geom c.args.geoms.now.rows c.requires.lives

-- Here and below: numbers rise, so the rank changes in this geom's cell alone
pub returns-clause-same : goal.returns-clause-same
returns-clause-same g c =
    store-same c.args.geoms.now c.args.geom c.args.rank c.cell_mut.result.now c.cell_mut.ensures.rising
    (sym c.cell_mut.ensures.cell)

pub returns-clause-here : goal.returns-clause-here
returns-clause-here g c =
    store-here c.args.geoms.now c.args.geom c.args.rank c.cell_mut.result.now c.cell_mut.ensures.rising
    (sym c.cell_mut.ensures.cell)

pub returns-clause-others : goal.returns-clause-others
returns-clause-others g c =
    store-others c.args.geoms.now c.args.geom c.args.rank c.cell_mut.result.now c.cell_mut.ensures.rising
    (sym c.cell_mut.ensures.cell)
