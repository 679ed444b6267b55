-- All the geom's providers are left at first; each that is met is put behind the others; none is left in the end.
use Rattle.std.proofs.Common.{List, sym, ap, ◌∙◌, map, fold, arith}
use Rattle.geo_model.specs.Topology.{Provider, providers_of}
use Rattle.geo_laws_graph.specs.LookupLaws.{WalksMeetAll}
use Rattle.geo_laws_graph.proofs.Walks.{walks-meet}
use Rattle.geo_moves.specs.Above.{with_number}
use Rattle.geo_moves.proofs.Reaching.{offers-next}
use Rattle.geo_moves.proofs.above.push_offers.Goals as goal

pub loop-id-init : goal.loop-id-init
loop-id-init c =
    ap (λ (ps : List Provider). fold with_number c.args.above.now.items (map (λ (y : Provider). y.number) ps))
    (WalksMeetAll.begin walks-meet (λ (y : Provider). y.number) (providers_of c.args.topo.now.topology c.args.geom))

pub loop-id-preserved : goal.loop-id-preserved
loop-id-preserved c =
    rw c.number-from.ensures
    (offers-next (providers_of c.args.topo.now.topology c.args.geom) _ _ _ _ _ c.in-Some.ensures.next.left
    c.in_ok-push_new.ensures
    ∙ c.loop-id.invariant)

pub returns : goal.returns
returns c =
    sym (ap (λ (ps : List Provider). fold with_number c.loop-id.above.items (map (λ (y : Provider). y.number) ps))
    c.in_default.ensures.next)
    ∙ c.loop-id.invariant

pub loop-id-smaller : goal.loop-id-smaller
loop-id-smaller c =
    omega (arith, c.in-Some.ensures.next.known, c.in-Some.ensures.next.past, c.number-from.ensures)
