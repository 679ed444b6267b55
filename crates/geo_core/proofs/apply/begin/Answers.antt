use Rattle.geo_core.proofs.Openings.{begun}
use Rattle.geo_core.proofs.apply.begin.Goals as goal

-- all commands are left, the state is that of the opening, and an empty log leads there
pub returns-clause-mesh : goal.returns-clause-mesh
returns-clause-mesh c =
    begun c.args.plan c.args.disks.now.items c.in_ok-facts.facts c.in_ok-left.left c.in_ok-state.state c.new.result
    c.requires c.opening.ensures.plan c.in_ok-state.ensures.opened c.in_ok-left.ensures.next c.in_ok-left.ensures.left
    c.in_ok-facts.ensures c.new.ensures
