use Rattle.std.proofs.Common.{refl, rules}
use Rattle.geo_serve.specs.Drives.{drive_view}
use Rattle.geo_jobs.proofs.Quiet.{idle_job, quiet_idles}
use Rattle.geo_jobs.proofs.job.Job.turn.Goals as goal

-- a quiet job is idle as it is
pub returns-then-not-has_news-clause-did : goal.returns-then-not-has_news-clause-did
returns-then-not-has_news-clause-did g c =
    quiet_idles c.args.yard.now c.args.lanes.now (drive_view g.D.Disk.view) c.args.self.now c.requires.job
    (search rules)

-- it is quiet from now on only if the next turn is in vain
pub returns-in-Idle-clause-job : goal.returns-in-Idle-clause-job
returns-in-Idle-clause-job g c =
    idle_job c.args.yard.now c.args.lanes.now (drive_view g.D.Disk.view) c.args.self.now c.turn_of_role.new.self _
    c.len-seen.result c.turn_of_role.ensures.pass c.turn_of_role.ensures.role c.in-Idle.ensures.did c.len-seen.ensures
    c.is_in_vain-self.ensures refl refl
