use Rattle.std.proofs.Common.{sym, ap, ◌∙◌}
use Rattle.std.specs.Prelude.{is_none}
use Rattle.geo_model.specs.Topology.{Consumer, attached_to}
use Rattle.geo_life.proofs.FirstWash.{none_first, none_there, told_none}
use Rattle.geo_life.proofs.washes.is_unused.Goals as goal

-- nothing is attached just where no consumer is found there from number 0 on
pub returns-clause-unused : goal.returns-clause-unused
returns-clause-unused g c =
    told_none c.attached_to.result c.is_none.result c.is_none.ensures ∙ ap is_none c.attached_to.ensures.first
    ∙ none_first (λ (x : Consumer). x.number) (attached_to c.args.topo.now.topology c.args.prov)

pub returns-clause-free : goal.returns-clause-free
returns-clause-free g c =
    λ e.
    none_there (λ (x : Consumer). x.number) (attached_to c.args.topo.now.topology c.args.prov)
    (sym (told_none c.attached_to.result c.is_none.result c.is_none.ensures ∙ ap is_none c.attached_to.ensures.first)
    ∙ e)
