use Rattle.geo_model.specs.Words.{is_kind, same_name}
use Rattle.std.specs.Prelude.{not, ◌&&◌}
use Rattle.geo_moves.specs.Names.{stands}
use Rattle.geo_moves.proofs.Walking.{find_begin, stands_agree}
use Rattle.geo_moves.proofs.names.named_geom.Goals as goal

pub loop-id-init : goal.loop-id-init
loop-id-init c =
    find_begin c.args.topo.now.topology c.args.kind c.args.name.now stands
    (λ g. is_kind g.kind c.args.kind && (not g.withering && same_name g.name c.args.name.now))
    (stands_agree c.args.kind c.args.name.now)
