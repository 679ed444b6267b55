use Rattle.std.proofs.Common.{sym}
use Rattle.geo_base.specs.declared.kind.Kind.TheVariants as kinds
use Rattle.geo_model.specs.Append.{is_growing}
use Rattle.geo_moves.specs.Names.{can_grow}
use Rattle.geo_moves.proofs.Walking.{cannot_grow, find_begin, find_on, offers_agree}
use Rattle.geo_moves.proofs.names.growing_concat.Goals as goal

-- at first all geoms of the name are left, and those that can grow are the growing concats of the name
pub loop-geom-init : goal.loop-geom-init
loop-geom-init c =
    find_begin c.args.topo.now.topology kinds.Concat c.args.name.now (can_grow c.args.topo.now.topology)
    (is_growing c.args.topo.now.topology c.args.name.now) (offers_agree c.args.topo.now.topology c.args.name.now)

-- this geom withers or has no provider, so the first that can grow is behind it
pub loop-geom-preserved : goal.loop-geom-preserved
loop-geom-preserved c =
    rw c.number-from.ensures
    (find_on c.args.topo.now.topology kinds.Concat c.args.name.now (can_grow c.args.topo.now.topology)
    (is_growing c.args.topo.now.topology c.args.name.now) (offers_agree c.args.topo.now.topology c.args.name.now)
    c.loop-geom.from c.in-Some.geom c.in-Some.ensures.next c.loop-geom.invariant
    (cannot_grow c.args.topo.now.topology c.args.name.now c.loop-geom.from c.in-Some.geom c.in-Some.ensures.next
    (sym c.in_default-offered.ensures)))
