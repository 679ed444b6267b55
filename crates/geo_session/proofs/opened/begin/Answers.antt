use Rattle.geo_session.proofs.Starting.{first_seen, first_session}
use Rattle.geo_session.proofs.opened.begin.Goals as goal

pub returns-clause-began : goal.returns-clause-began
returns-clause-began c =
    first_seen c.args.plan.now c.args.disks.now.items c.in_ok-state.state c.count_of-actors.result
    c.opening.ensures.plan c.requires c.in_ok-state.ensures.opened c.count_of-actors.ensures

pub returns-clause-session : goal.returns-clause-session
returns-clause-session c =
    first_session c.args.plan.now c.args.disks.now.items c.in_ok-state.state c.count_of-actors.result
    c.opening.ensures.plan c.requires c.in_ok-state.ensures.opened c.count_of-actors.ensures
