-- The job did what its turns so far did, and the last ones, fewer than 100,000, were idle.
use Rattle.std.proofs.Common.{◌<◌}
use Rattle.geo_serve.specs.Drives.{drive_view}
use Rattle.geo_jobs.specs.Passes.{opened_by}
use Rattle.geo_jobs.specs.Jobs.{HasItsDrives, IsJobOf}
use Rattle.geo_jobs.specs.Runs.{JobRan, RestedFor}
use Rattle.geo_jobs.proofs.job.Job.go.Given as goal

abbrev pub invariant-loop : goal.invariant-loop
invariant-loop g l =
    let seen = drive_view g.D.Disk.view in record {
      can_next : (goal.iterator-loop g).can_next l.iterator';
      finite : (goal.iterator-loop g).is_finite l.iterator';
      job : IsJobOf l.yard l.lanes l.self;
      drives : HasItsDrives l.yard.start.facts seen l.self.role;
      ran : JobRan seen l.fn.self l.self;
      few : l.idle < 100000;
      row : RestedFor (opened_by l.yard.start) seen l.idle l.fn.self l.self;
    }
