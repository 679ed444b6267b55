-- All consumers above are left at first; what the geom of each offers is put behind; none is left in the end.
use Rattle.std.proofs.Common.{List, sym, ap, ◌∙◌, flat_map, fold, arith}
use Rattle.geo_model.specs.Topology.{Consumer}
use Rattle.geo_laws_graph.specs.LookupLaws.{WalksMeetAll}
use Rattle.geo_laws_graph.proofs.Walks.{walks-meet}
use Rattle.geo_life.specs.Life.{consumers_above}
use Rattle.geo_moves.specs.Above.{offers_of, with_number}
use Rattle.geo_moves.proofs.Reaching.{users-next}
use Rattle.geo_moves.proofs.above.push_users.Goals as goal

pub loop-id-init : goal.loop-id-init
loop-id-init c =
    ap (λ (cs : List Consumer). fold with_number c.args.above.now.items
    (flat_map (λ (d : Consumer). offers_of c.args.topo.now.topology d.geom) cs))
    (WalksMeetAll.begin walks-meet (λ (y : Consumer). y.number)
    (consumers_above c.args.topo.now.topology c.args.prov))

pub loop-id-preserved : goal.loop-id-preserved
loop-id-preserved c =
    let t = c.args.topo.now.topology in
    rw c.number-from.ensures
    (users-next t (consumers_above t c.args.prov) _ _ _ _ _ c.in-Some.ensures.next.left c.in_ok-push_offers.ensures
    ∙ c.loop-id.invariant)

pub returns-clause-pushed : goal.returns-clause-pushed
returns-clause-pushed c =
    sym (ap (λ (cs : List Consumer). fold with_number c.loop-id.above.items
    (flat_map (λ (d : Consumer). offers_of c.args.topo.now.topology d.geom) cs)) c.in_default.ensures.next)
    ∙ c.loop-id.invariant

pub loop-id-smaller : goal.loop-id-smaller
loop-id-smaller c =
    omega (arith, c.in-Some.ensures.next.known, c.in-Some.ensures.next.past, c.number-from.ensures)
