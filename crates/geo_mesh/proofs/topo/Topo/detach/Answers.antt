use Rattle.std.proofs.Common.{◌≡◌, ◌≤◌, false, None, refl, subst, ◌∙◌, ap, arith, rules, sym}
use Rattle.geo_mesh.specs.Cells.{graph, put_consumer}
use Rattle.geo_mesh.specs.Index.{detached_index}
use Rattle.geo_mesh.specs.Graph.{IsOrderly}
use Rattle.geo_mesh.specs.Ranks.{stored, is_dev_or_taste}
use Rattle.geo_mesh.proofs.WholeLemmas.{mesh-detached}
use Rattle.geo_mesh.proofs.Orderly.{orderly-detach}
use Rattle.geo_mesh.proofs.RankFirst.{kin-of}
use Rattle.geo_mesh.proofs.RankMesh.{view-bare, mesh-few}
use Rattle.geo_mesh.proofs.RankSwitch.{bound-at, user-stands, above-later, off-enough, off-walkable, off-lowered, off-stays}
use Rattle.geo_mesh.proofs.ViewLemmas.{switch-view}
use Rattle.geo_mesh.proofs.WholeParts.{whole-detached}
use Rattle.geo_mesh.proofs.topo.Topo.detach.Goals.{then-stored, else-stored}
use Rattle.geo_mesh.proofs.topo.Topo.detach.Goals as goal

pub consumer_mut-cell-requires : goal.consumer_mut-cell-requires
consumer_mut-cell-requires g c = rw (← c.self.view_is) at c.requires.lives

-- the consumer is attached, so its cell names a provider
pub unreachable-requires : goal.unreachable-requires
unreachable-requires g c =
    bound-at c.self.inside.tables.geoms c.self.inside.tables.edges c.args.cons c.consumer_mut-cell.result.now
    (rw (← c.self.view_is) at c.requires.attached) (sym c.consumer_mut-cell.ensures.cell) c.in_default.is

-- no rank is above 2^32 - 1, since there are fewer geoms
pub overflow_add-stored : goal.overflow_add-stored
overflow_add-stored g c =
    let few : stored c.self.inside.tables.geoms c.owner-under.result ≤ 4294967295 =
    mesh-few c.self.inside.tables.geoms c.self.inside.tables.edges c.self.inside.tables.live
    c.self.invariant.ranks c.owner-under.result in
    let fits : c.stored.result ≤ 4294967295 = omega (arith, c.stored.ensures) in
    search rules

-- it stands one above another in rank, so it isn't DEV or TASTE, in whose cells 1 stands
pub lower-requires-clause-later : goal.lower-requires-clause-later
lower-requires-clause-later g c =
    above-later c.self.inside.tables.geoms c.self.inside.tables.edges c.self.inside.tables.live c.self.invariant.ranks
    c.owner-under.result c.number-upper.result c.stored.ensures c.stored-2.ensures c.if-stored.true

-- with an edge less there is still no loop, and the index is that of the graph without the edge
pub lower-requires-clause-walkable : goal.lower-requires-clause-walkable
lower-requires-clause-walkable g c =
    let later = subst (λ x. is_dev_or_taste x ≡ false) c.number-upper.ensures (lower-requires-clause-later g c) in
    let indexed =
    (mesh-detached c.self.inside.tables c.self.invariant.tables c.args.cons c.consumer_mut-cell.result.now
    c.consumer_mut-cell.ensures.rising c.consumer_mut-cell.ensures.cell).indexed in
    let orderly =
    subst (λ t. IsOrderly t)
    (sym (ap (λ v. v.topology)
    (switch-view c.self.inside.tables c.args.cons c.consumer_mut-cell.result.now
    c.consumer_mut-cell.ensures.rising c.consumer_mut-cell.ensures.cell None)))
    (orderly-detach (graph c.self.inside.tables) c.self.invariant.graph c.args.cons) in
    rw (c.detach.ensures, c.number.ensures)
    (off-walkable c.self.inside.tables.geoms c.self.inside.tables.edges c.self.inside.tables.live
    c.self.invariant.ranks c.args.cons c.in-Some.prov c.consumer_mut-cell.result.now
    c.consumer_mut-cell.ensures.rising (sym c.consumer_mut-cell.ensures.cell) c.in-Some.is later
    (detached_index c.self.inside.tables.edges.index c.args.cons)
    (kin-of c.self.inside.tables.geoms _ orderly indexed))

-- the consumer's geom stands, whatever the consumer is attached to
pub lower-requires-clause-lives : goal.lower-requires-clause-lives
lower-requires-clause-lives g c =
    rw c.number-upper.ensures
    (user-stands c.self.inside.tables.geoms c.self.inside.tables.edges c.self.inside.tables.live
    c.self.invariant.ranks c.args.cons c.in-Some.prov c.consumer_mut-cell.result.now
    c.consumer_mut-cell.ensures.rising (sym c.consumer_mut-cell.ensures.cell))

-- with an edge less no rank has become too small
pub lower-requires-clause-enough : goal.lower-requires-clause-enough
lower-requires-clause-enough g c =
    let later = subst (λ x. is_dev_or_taste x ≡ false) c.number-upper.ensures (lower-requires-clause-later g c) in
    off-enough c.self.inside.tables.geoms c.self.inside.tables.edges c.self.inside.tables.live
    c.self.invariant.ranks c.args.cons c.in-Some.prov c.consumer_mut-cell.result.now
    c.consumer_mut-cell.ensures.rising (sym c.consumer_mut-cell.ensures.cell) c.in-Some.is later

-- the upper geom is lowered where its rank may stand on the edge; else another geom below holds it up
pub look_again-requires : goal.look_again-requires
look_again-requires g c =
    elim c.if-stored.branch [
      | then-stored w ↦
          (let later = subst (λ x. is_dev_or_taste x ≡ false) c.number-upper.ensures
          (above-later c.self.inside.tables.geoms c.self.inside.tables.edges c.self.inside.tables.live
          c.self.invariant.ranks c.owner-under.result c.number-upper.result c.stored.ensures c.stored-2.ensures
          w.if-stored.true) in
          let low = rw c.number-upper.ensures at w.lower.ensures.low in
          rw (w.self-inside-is, c.owner-under.ensures, c.number-2.ensures, c.detach.ensures, c.number.ensures)
          (whole-detached c.self.inside.tables c.self.invariant c.args.cons c.consumer_mut-cell.result.now
          c.consumer_mut-cell.ensures.rising c.consumer_mut-cell.ensures.cell w.lower.new.geoms w.lower.ensures.same
          c.in-Some.prov c.in-Some.is
          (off-lowered c.self.inside.tables.geoms c.self.inside.tables.edges c.self.inside.tables.live
          c.self.invariant.ranks c.args.cons c.in-Some.prov c.consumer_mut-cell.result.now
          c.consumer_mut-cell.ensures.rising (sym c.consumer_mut-cell.ensures.cell) c.in-Some.is later
          w.lower.new.geoms w.lower.ensures.same w.lower.ensures.lowered low)))
      | else-stored w ↦
          rw (w.self-inside-is, c.owner-under.ensures, c.number-2.ensures, c.detach.ensures, c.number.ensures)
          (whole-detached c.self.inside.tables c.self.invariant c.args.cons c.consumer_mut-cell.result.now
          c.consumer_mut-cell.ensures.rising c.consumer_mut-cell.ensures.cell c.self.inside.tables.geoms refl
          c.in-Some.prov c.in-Some.is
          (off-stays c.self.inside.tables.geoms c.self.inside.tables.edges c.self.inside.tables.live
          c.self.invariant.ranks c.args.cons c.in-Some.prov c.consumer_mut-cell.result.now
          c.consumer_mut-cell.ensures.rising (sym c.consumer_mut-cell.ensures.cell) c.in-Some.is
          (λ e. w.if-stored.false (rw (
            c.stored.ensures,
            c.stored-2.ensures,
            c.owner-under.ensures,
            c.number-2.ensures,
            c.number-upper.ensures,
          ) e))))
    ]

-- lowered ranks and the mark don't show, so either way the mesh is that in which the consumer's cell names no provider
pub returns : goal.returns
returns g c =
    c.look_again.ensures.same
    ∙ (elim c.if-stored.branch [
      | then-stored w ↦
          rw w.self-inside-is
          (view-bare (record c.self.inside.tables {
            edges =
                record (put_consumer c.self.inside.tables.edges c.args.cons
                (record c.consumer_mut-cell.result.now {
                  consumer =
                      record c.consumer_mut-cell.result.now.consumer { prov = None };
                })) { index = c.detach.new.self };
          })
          w.lower.new.geoms w.lower.ensures.same
          ∙ (rw (← c.self.view_is)
          (switch-view c.self.inside.tables c.args.cons c.consumer_mut-cell.result.now
          c.consumer_mut-cell.ensures.rising c.consumer_mut-cell.ensures.cell None)))
      | else-stored w ↦
          rw (w.self-inside-is, ← c.self.view_is)
          (switch-view c.self.inside.tables c.args.cons c.consumer_mut-cell.result.now
          c.consumer_mut-cell.ensures.rising c.consumer_mut-cell.ensures.cell None)
    ])
