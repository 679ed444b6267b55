use Rattle.std.specs.Prelude.{map}
use Rattle.geo_model.specs.Topology.{Provider, providers_of}
use Rattle.geo_access.specs.Access.{granted_by}
use Rattle.geo_moves.specs.Lines.{prov_line}
use Rattle.geo_moves.proofs.Walking.{print_begin, prov_on}
use Rattle.geo_moves.proofs.parts.prov_lines.Goals as goal

pub loop-id-init : goal.loop-id-init
loop-id-init c =
    print_begin (λ (y : Provider). y.number)
    (map (prov_line (granted_by c.args.topo.now) c.args.topo.now.topology))
    (providers_of c.args.topo.now.topology c.args.geom) c.new-lines.result c.new-lines.ensures

-- the counts that are stored at the provider are the sums over its consumers
pub loop-id-preserved : goal.loop-id-preserved
loop-id-preserved c =
    rw c.number-from.ensures
    (prov_on c.args.topo.now c.requires c.args.geom c.loop-id.from _ _ c.in-Some.ensures.next
    c.in-Some.ensures.have c.prov_line.result c.prov_line.ensures c.loop-id.lines c.push.new.self
    c.in_ok-push.ensures.pushed c.loop-id.invariant)
