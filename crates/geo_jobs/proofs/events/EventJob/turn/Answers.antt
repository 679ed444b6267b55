use Rattle.geo_jobs.proofs.Joining.{can_put, pass_worked}
use Rattle.geo_jobs.proofs.events.EventJob.turn.Goals as goal

-- few tickets were put for each own entry, and a log has few entries, so there is room for one more
pub hint-requires : goal.hint-requires
hint-requires g c =
    let ends = rw c.in-Some-Made.field-0-is at c.in-Some-Made.ensures.ends in
    can_put c.args.yard.now c.args.pass.now c.first_enabled.new.pass _ c.args.lanes.now.down c.args.self.now.down
    c.requires.own c.first_enabled.ensures.good ends.did c.requires.job

-- the ticket that was put is the one that the step names, if it names one
pub returns-in-Some-Made-clause-job : goal.returns-in-Some-Made-clause-job
returns-in-Some-Made-clause-job g c =
    let ends = rw c.in-Some-Made.field-0-is at c.in-Some-Made.ensures.ends in
    pass_worked c.args.pass.now c.first_enabled.new.pass _ c.args.lanes.now.down c.args.self.now.down
    c.hint.new.self.down _ ends.did c.requires.job c.hint.ensures.puts c.hint.ensures.few
