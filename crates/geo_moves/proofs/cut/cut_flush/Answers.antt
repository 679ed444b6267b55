use Rattle.std.proofs.Common.{◌∙◌, ap, map}
use Rattle.geo_bio.specs.Rows.{as_bio}
use Rattle.geo_mesh.specs.Cells.{provider_seen}
use Rattle.geo_class.proofs.TargetLemmas.{flushes_go_through}
use Rattle.geo_moves.specs.Ways.{through}
use Rattle.geo_moves.proofs.Ways.{cut_of}
use Rattle.geo_moves.proofs.cut.cut_flush.Goals as goal

-- a FLUSH goes once through each component, in their order, and each consumer to the provider that it is attached to
pub returns : goal.returns
returns c =
    cut_of c.args.topo.now.topology _ _ _ _
    (flushes_go_through c.args.config.now (provider_seen c.args.bio.now.to c.args.prov.now) (as_bio 0 c.args.bio.now)
    c.requires)
    c.in_ok-pieces.ensures
    (c.in_ok-targets.ensures
    ∙ ap (map (through c.args.topo.now.topology)) (c.deref.ensures.value ∙ c.in_ok-consumers.ensures))
