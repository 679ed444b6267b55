use Rattle.std.proofs.Common.{Some, refl, ◌∙◌}
use Rattle.geo_mesh.specs.Cells.{graph, put_consumer}
use Rattle.geo_mesh.proofs.IndexLemmas.{attached_free, attached_parent, above_free, above_parent}
use Rattle.geo_mesh.proofs.RankFirst.{kin-of}
use Rattle.geo_mesh.proofs.RankMesh.{view-bare, mesh-walkable}
use Rattle.geo_mesh.proofs.RankSwitch.{free-cell}
use Rattle.geo_mesh.proofs.ViewLemmas.{switch-view, consumer_at-view}
use Rattle.geo_mesh.proofs.WholeParts.{whole-kept, attach-asked, upper-lives, refused-answer, admitted-answer, admitted-whole}
use Rattle.geo_mesh.proofs.topo.Topo.attach.Goals as goal

-- the graph of a mesh has no loop, so the walks that mend its ranks come to an end
pub admit-requires-clause-walkable : goal.admit-requires-clause-walkable
admit-requires-clause-walkable g c =
    mesh-walkable c.self.inside.tables.geoms c.self.inside.tables.edges c.self.inside.tables.live
    c.self.invariant.ranks (kin-of c.self.inside.tables.geoms c.self.inside.tables.edges c.self.invariant.graph
    c.self.invariant.tables.indexed)

-- the upper geom is the consumer's, and stands since the consumer stands
pub admit-requires-clause-lives : goal.admit-requires-clause-lives
admit-requires-clause-lives g c =
    let asked = attach-asked c.self.inside.tables c.self.invariant c.self.view_is c.number.ensures c.user-upper.ensures
    c.number-2.ensures c.owner-under.ensures c.requires.consumer c.requires.provider in
    upper-lives asked

-- a consumer that is free stands, so it has a cell
pub consumer_mut-requires : goal.consumer_mut-requires
consumer_mut-requires g c =
    let free = free-cell c.self.inside.tables.geoms c.self.inside.tables.edges c.args.cons
    (rw (← c.self.view_is) at c.requires.consumer) in
    rw (consumer_at-view c.self.inside.tables.geoms c.self.inside.tables.edges c.args.cons, ← free.1) refl

-- the four of `attach`: the index is that of the graph, where the consumer is free and the provider there
pub attach-requires-clause-free : goal.attach-requires-clause-free
attach-requires-clause-free g c =
    rw c.number-3.ensures
    (attached_free (graph c.self.inside.tables) c.self.inside.tables.edges.index c.self.invariant.tables.indexed
    c.args.cons (rw (← c.self.view_is) at c.requires.consumer))

pub attach-requires-clause-provider : goal.attach-requires-clause-provider
attach-requires-clause-provider g c =
    rw c.number-4.ensures
    (attached_parent (graph c.self.inside.tables) c.self.inside.tables.edges.index c.self.invariant.tables.indexed
    c.args.prov (rw (← c.self.view_is) at c.requires.provider))

pub attach-requires-clause-free_above : goal.attach-requires-clause-free_above
attach-requires-clause-free_above g c =
    rw c.number-3.ensures
    (above_free (graph c.self.inside.tables) c.self.inside.tables.edges.index c.self.invariant.tables.indexed
    c.args.cons (rw (← c.self.view_is) at c.requires.consumer))

pub attach-requires-clause-provider_above : goal.attach-requires-clause-provider_above
attach-requires-clause-provider_above g c =
    rw c.number-4.ensures
    (above_parent (graph c.self.inside.tables) c.self.inside.tables.edges.index c.self.invariant.tables.indexed
    c.args.prov (rw (← c.self.view_is) at c.requires.provider))

-- where the attach is refused the ranks are as before, and nothing else was touched
pub invariant_of-self : goal.invariant_of-self
invariant_of-self g c =
    whole-kept c.self.inside.tables c.self.invariant c.admit.new.geoms c.admit.ensures.same c.in-Err.ensures.kept

-- the ranks are those of the graph with the edge; the provider's geom alone may have a wrong mark
pub look_again-requires : goal.look_again-requires
look_again-requires g c =
    let asked = attach-asked c.self.inside.tables c.self.invariant c.self.view_is c.number.ensures c.user-upper.ensures
    c.number-2.ensures c.owner-under.ensures c.requires.consumer c.requires.provider in
    rw (c.attach.ensures, c.number-3.ensures, c.number-4.ensures)
    (admitted-whole asked c.consumer_mut.result.now c.consumer_mut.ensures.rising c.consumer_mut.ensures.cell
    c.admit.new.geoms c.admit.ensures.same c.in_default.ensures.admitted c.in_default.ensures.low)

-- the provider has no error, and there is neither a loop nor too great a rank, so the model refuses nothing
pub returns-clause-answer : goal.returns-clause-answer
returns-clause-answer g c =
    let asked = attach-asked c.self.inside.tables c.self.invariant c.self.view_is c.number.ensures c.user-upper.ensures
    c.number-2.ensures c.owner-under.ensures c.requires.consumer c.requires.provider in
    admitted-answer asked c.consumer_mut.result.now c.consumer_mut.ensures.rising c.consumer_mut.ensures.cell
    c.admit.new.geoms c.admit.ensures.same c.in_default.ensures.admitted c.in_default.ensures.low
    c.is_errored.ensures c.if-is_errored.false

-- ranks and marks don't show in the mesh; the consumer's cell, now with its provider, does
pub returns-clause-attached : goal.returns-clause-attached
returns-clause-attached g c =
    c.look_again.ensures.same
    ∙ view-bare (record c.self.inside.tables {
      edges =
          record (put_consumer c.self.inside.tables.edges c.args.cons (record c.consumer_mut.result.now {
            consumer =
                record c.consumer_mut.result.now.consumer { prov = Some c.args.prov };
          })) { index = c.attach.new.self };
    })
    c.admit.new.geoms c.admit.ensures.same
    ∙ (rw (← c.self.view_is) (switch-view c.self.inside.tables c.args.cons c.consumer_mut.result.now
    c.consumer_mut.ensures.rising c.consumer_mut.ensures.cell (Some c.args.prov)))

-- what `admit` did to the ranks doesn't show in the mesh
pub returns-in-Err-clause-same : goal.returns-in-Err-clause-same
returns-in-Err-clause-same g c = view-bare c.self.inside.tables c.admit.new.geoms c.admit.ensures.same ∙ c.self.view_is

-- the provider has no error, so what refuses is the loop or the rank that `admit` met, in the model's order
pub returns-in-Err-clause-answer : goal.returns-in-Err-clause-answer
returns-in-Err-clause-answer g c =
    let asked = attach-asked c.self.inside.tables c.self.invariant c.self.view_is c.number.ensures c.user-upper.ensures
    c.number-2.ensures c.owner-under.ensures c.requires.consumer c.requires.provider in
    refused-answer asked c.is_errored.ensures c.if-is_errored.false c.in-Err.refusal c.in-Err.ensures.later
    c.in-Err.ensures.refused
