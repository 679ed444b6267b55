use Rattle.geo_serve.specs.Drives.{drive_view}
use Rattle.geo_jobs.specs.Passes.{opened_by}
use Rattle.geo_jobs.specs.declared.job.Role.TheVariants as roles
use Rattle.geo_jobs.proofs.Running.{did_role}
use Rattle.geo_jobs.proofs.job.Job.turn_of_role.Goals as goal

-- Each role: its turn is the turn of the job
pub returns-in-Client-clause-did : goal.returns-in-Client-clause-did
returns-in-Client-clause-did g c =
    let opened = opened_by c.args.yard.now.start in
    did_role opened (drive_view g.D.Disk.view) c.args.self.now (roles.Client c.in-Client.job) c.turn.new.pass
    (roles.Client c.turn.new.self) c.turn.result c.in-Client.is c.turn.ensures.did

pub returns-in-Events-clause-did : goal.returns-in-Events-clause-did
returns-in-Events-clause-did g c =
    let opened = opened_by c.args.yard.now.start in
    did_role opened (drive_view g.D.Disk.view) c.args.self.now (roles.Events c.in-Events.job) c.turn-in-Events.new.pass
    (roles.Events c.turn-in-Events.new.self) c.turn-in-Events.result c.in-Events.is c.turn-in-Events.ensures.did

pub returns-in-Down-clause-did : goal.returns-in-Down-clause-did
returns-in-Down-clause-did g c =
    let opened = opened_by c.args.yard.now.start in
    did_role opened (drive_view g.D.Disk.view) c.args.self.now (roles.Down c.in-Down.job) c.turn-in-Down.new.pass
    (roles.Down c.turn-in-Down.new.self) c.turn-in-Down.result c.in-Down.is c.turn-in-Down.ensures.did

pub returns-in-Up-clause-did : goal.returns-in-Up-clause-did
returns-in-Up-clause-did g c =
    let opened = opened_by c.args.yard.now.start in
    did_role opened (drive_view g.D.Disk.view) c.args.self.now (roles.Up c.in-Up.job) c.turn-in-Up.new.pass
    (roles.Up c.turn-in-Up.new.self) c.turn-in-Up.result c.in-Up.is c.turn-in-Up.ensures.did

pub returns-in-Disk-clause-did : goal.returns-in-Disk-clause-did
returns-in-Disk-clause-did g c =
    let opened = opened_by c.args.yard.now.start in
    did_role opened (drive_view g.D.Disk.view) c.args.self.now (roles.Disk c.in-Disk.job) c.turn-in-Disk.new.pass
    (roles.Disk c.turn-in-Disk.new.self) c.turn-in-Disk.result c.in-Disk.is c.turn-in-Disk.ensures.did
