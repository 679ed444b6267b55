use Rattle.geo_jobs.proofs.Downward.{can_put_down, down_worked}
use Rattle.geo_jobs.proofs.down.DownJob.start.Goals as goal

-- few tickets were put into each lane for each own entry, and a log has few entries, so there is room for more
pub hint-requires : goal.hint-requires
hint-requires g c =
    can_put_down c.args.yard.now c.args.lanes.now c.args.pass.now c.try_step.new.pass _ c.args.self.now c.requires.own
    c.try_step.ensures.good c.in-Made.ensures.did.goes c.requires.job

-- the tickets that were put are those that the Start names
pub returns-in-Made-clause-job : goal.returns-in-Made-clause-job
returns-in-Made-clause-job g c =
    down_worked c.args.lanes.now c.args.pass.now c.try_step.new.pass _ c.args.self.now c.hint.new.self c.args.bio
    c.in-Made.outcome c.in-Made.ensures.did.goes c.requires.job c.hint.ensures.puts c.hint.ensures.few
