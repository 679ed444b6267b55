use Rattle.std.proofs.Common.{rules}
use Rattle.geo_jobs.proofs.Trying.{found_tells, full_tells}
use Rattle.geo_jobs.proofs.tried.try_step.Goals as goal

-- Both refusals: the state answered by the log that the pass has seen now
pub returns-in-Err-NotEnabled-clause-did : goal.returns-in-Err-NotEnabled-clause-did
returns-in-Err-NotEnabled-clause-did g c =
    found_tells c.args.yard.now.start c.args.pass.now c.apply.new.pass c.args.step c.in-Err-NotEnabled.found
    (search rules) (search rules) (search rules) (search rules)

pub returns-in-Err-LogFull-clause-did : goal.returns-in-Err-LogFull-clause-did
returns-in-Err-LogFull-clause-did g c =
    full_tells c.args.yard.now.start c.args.pass.now c.apply.new.pass c.args.step (search rules) (search rules)
    (search rules) (search rules)
