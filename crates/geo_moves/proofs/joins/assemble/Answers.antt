use Rattle.std.specs.Prelude.{All}
use Rattle.std.proofs.Common.{ap, subst, sym, ◌∙◌}
use Rattle.geo_model.specs.Words.{is_granted_kind}
use Rattle.geo_model.specs.Place.{disk_of}
use Rattle.geo_moves.specs.Standing.{CanStandOn}
use Rattle.geo_moves.proofs.Assembled.{assembly-built, assembly-diskless, assembly-ungranted, below-placed}
use Rattle.geo_moves.proofs.joins.assemble.Goals as goal

pub assembly_config-config-requires-clause-places : goal.assembly_config-config-requires-clause-places
assembly_config-config-requires-clause-places c = below-placed c.requires.can _ c.in_ok-places.ensures

pub make-requires-clause-kind : goal.make-requires-clause-kind
make-requires-clause-kind c = ap is_granted_kind c.assembly_kind-kind.ensures ∙ assembly-ungranted c.args.assembly

pub make-requires-clause-no_disk : goal.make-requires-clause-no_disk
make-requires-clause-no_disk c =
    ap disk_of c.assembly_config-config.ensures ∙ assembly-diskless c.args.assembly _ _

-- providers that nothing is against are there, carry no error and aren't too deep
pub make-requires-clause-can_stand : goal.make-requires-clause-can_stand
make-requires-clause-can_stand c =
    subst (All (CanStandOn c.args.state.now.topo.topology)) (sym (c.deref.ensures.value ∙ c.in_ok-over.ensures))
    c.requires.can.stands

-- kind, configuration and consumers of the new geom are those of the model's assembly
pub returns-clause-made : goal.returns-clause-made
returns-clause-made c =
    assembly-built c.make.result c.args.state.now c.make.new.state c.args.name.now c.requires.can
    c.in_ok-places.ensures c.assembly_config-config.ensures c.assembly_kind-kind.ensures
    (c.deref.ensures.value ∙ c.in_ok-over.ensures) c.make.ensures.made
