-- Jobs that run at once, each with the answer at which it ended.
use Rattle.std.specs.Prelude.{◌≡◌}
use Rattle.geo_disk.specs.declared.drive.Drive.{Drive}
use Rattle.geo_serve.specs.Drives.{DriveView}
use Rattle.geo_lock.specs.Yard.{YardView}
use Rattle.geo_jobs.specs.declared.lanes.Lanes.{Lanes}
use Rattle.geo_jobs.specs.declared.turn.Turn.TheVariants as turns
use Rattle.geo_jobs.specs.Passes.{IsGoodPass, opened_by}
use Rattle.geo_jobs.specs.declared.run.Worker.{Worker}
use Rattle.geo_jobs.specs.Jobs.{HasItsDrives, IsJobOf}
use Rattle.geo_jobs.specs.Runs.{EndedBy, JobRan, RestedFor}

-- the job is of the yard and the lanes, and has its drives
pub record IsReady {D : Type 0} (y : YardView _) (lanes : Lanes) (seen : Drive D → DriveView) (w : Worker D) : Type 0
  where
    pub job : IsJobOf y lanes w.job
    pub drives : HasItsDrives y.start.facts seen w.job.role

-- the job was run, and ended with the answer that stands beside it; where that is `Idle`, after 100,000 idle turns
pub record WorkerRan {D : Type 0} (y : YardView _) (lanes : Lanes) (seen : Drive D → DriveView) (a b : Worker D)
    : Type 0 where
  pub ready : IsReady y lanes seen b
  pub good : IsGoodPass b.job.pass
  pub ran : JobRan seen a.job b.job
  pub ended : EndedBy (opened_by y.start) seen a.job b.job b.answer
  pub rested : b.answer ≡ turns.Idle → RestedFor (opened_by y.start) seen 100000 a.job b.job
