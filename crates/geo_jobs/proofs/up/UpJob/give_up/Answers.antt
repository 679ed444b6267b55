use Rattle.geo_jobs.proofs.Joining.{can_put}
use Rattle.geo_jobs.proofs.Upward.{up_worked}
use Rattle.geo_jobs.proofs.up.UpJob.give_up.Goals as goal

-- few tickets were put for each own entry, and a log has few entries, so there is room for one more
pub hint-requires : goal.hint-requires
hint-requires g c =
    can_put c.args.yard.now c.args.pass.now c.try_step.new.pass _ c.args.lanes.now.up c.args.self.now.up c.requires.own
    c.try_step.ensures.good c.in-Made.ensures.did.goes c.requires.job.up

-- the ticket that was put is the one that the Up names, if it names one
pub returns-in-Made-clause-job : goal.returns-in-Made-clause-job
returns-in-Made-clause-job g c =
    up_worked c.args.lanes.now c.args.pass.now c.try_step.new.pass _ c.args.self.now c.hint.new.self c.in-Made.outcome
    c.in-Made.ensures.did.goes c.requires.job c.hint.ensures.puts c.hint.ensures.few
