use Rattle.std.proofs.Common.{◌≡◌, ℕ, [], sym, ◌∙◌, subst}
use Rattle.geo_model.specs.Topology.{Consumer, consumers_of}
use Rattle.geo_laws_graph.specs.LookupLaws.{WalksMeetAll}
use Rattle.geo_laws_graph.proofs.Walks.{walks-meet}
use Rattle.geo_access.proofs.Folding.{none_of_some}
use Rattle.geo_tests_core.proofs.taste.begun.Goals as goal

pub returns-clause-tasting : goal.returns-clause-tasting
returns-clause-tasting c =
    c.in_ok-begin.ensures.tasting
    (subst (λ (n : ℕ). consumers_of c.args.topo.now.topology n ≡ []) c.new.ensures
    (WalksMeetAll.empty walks-meet (λ (y : Consumer). y.number)
    (consumers_of c.args.topo.now.topology c.new.result)
    (sym c.consumer_of.ensures.first
    ∙ none_of_some c.consumer_of.result (sym c.is_some.ensures ∙ c.if-is_some.false))))
