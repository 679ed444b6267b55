use Rattle.std.proofs.Common.{sym, ◌∙◌}
use Rattle.geo_mesh.specs.Cells.{provider_seen}
use Rattle.geo_moves.proofs.Assembled.{geom_lives, no_rank}
use Rattle.geo_moves.proofs.below.below_named.Goals as goal

-- the geom of a provider lives, and a geom that lives has a rank
pub unreachable-requires : goal.unreachable-requires
unreachable-requires c =
    geom_lives c.args.topo.now.topology c.provider.ensures.sound c.in_ok-prov.prov
    (provider_seen c.in_ok-prov.prov c.in_ok-found.found.now) c.in_ok-found.ensures.provider
    (no_rank c.args.topo.now.topology c.in_ok-found.found.now.geom (sym c.in_default.is ∙ c.rank.ensures.rank))
