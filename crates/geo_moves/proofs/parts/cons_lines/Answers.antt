use Rattle.std.specs.Prelude.{map}
use Rattle.geo_model.specs.Topology.{Consumer, consumers_of}
use Rattle.geo_access.specs.Access.{granted_by}
use Rattle.geo_moves.specs.Lines.{cons_line}
use Rattle.geo_moves.proofs.Walking.{print_begin, cons_on, attached-there}
use Rattle.geo_moves.proofs.parts.cons_lines.Goals as goal

pub loop-id-init : goal.loop-id-init
loop-id-init c =
    print_begin (λ (y : Consumer). y.number)
    (map (cons_line (granted_by c.args.topo.now) c.args.topo.now.topology))
    (consumers_of c.args.topo.now.topology c.args.geom) c.new-lines.result c.new-lines.ensures

pub name_below-prov-requires : goal.name_below-prov-requires
name_below-prov-requires c =
    attached-there c.args.topo.now.topology c.requires.attached _ _ c.in-Some.ensures.next.lives

-- the counts that are stored at the consumer are what it is granted
pub loop-id-preserved : goal.loop-id-preserved
loop-id-preserved c =
    rw c.number-from.ensures
    (cons_on c.args.topo.now c.requires.counted c.args.geom c.loop-id.from _ _ c.in-Some.ensures.next
    c.in-Some.ensures.want c.name_below-prov.result c.name_below-prov.ensures c.loop-id.lines c.push.new.self
    c.in_ok-push.ensures.pushed c.loop-id.invariant)
