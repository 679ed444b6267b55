use Rattle.std.specs.Prelude.{map, filter}
use Rattle.geo_model.specs.Topology.{Geom}
use Rattle.geo_model.specs.World.{Config}
use Rattle.geo_access.specs.Access.{granted_by}
use Rattle.geo_moves.specs.Lines.{geom_line, is_listed}
use Rattle.geo_moves.proofs.Walking.{print_begin}
use Rattle.geo_moves.proofs.geoms.mesh_lines.Goals as goal

pub loop-geom-init : goal.loop-geom-init
loop-geom-init c =
    print_begin (λ (y : Geom Config). y.number)
    (λ gs. map (geom_line (granted_by c.args.topo.now) c.args.topo.now.topology) (filter is_listed gs))
    c.args.topo.now.topology.geoms c.new-lines.result c.new-lines.ensures
