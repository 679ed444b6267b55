use Rattle.std.specs.Prelude.{◌≡◌, length}
use Rattle.std.proofs.Common.{rules, sym, ◌∙◌, arith}
use Rattle.geo_serve.specs.Drives.{drive_view}
use Rattle.geo_jobs.specs.Passes.{opened_by}
use Rattle.geo_jobs.specs.Drives.{LacksDisk}
use Rattle.geo_jobs.proofs.Places.{own_disk}
use Rattle.geo_jobs.proofs.Turning.{drives_stay, foreign_ticket, found_empty, job_stays, kept_job, other_ticket, took_job, tried_ticket, without_room}
use Rattle.geo_jobs.proofs.disk_job.DiskJob.turn.Goals as goal

pub returns-in_default-clause-job : goal.returns-in_default-clause-job
returns-in_default-clause-job g c =
    kept_job (opened_by c.args.yard.now.start) (drive_view g.D.Disk.view) c.args.lanes.now c.args.pass.now.own
    c.args.self.now c.take.new.pass c.in_default.ensures.same c.requires.job

-- Each early way out: no ticket, one of another kind or disk, or no room; so nothing was added, asked or put
pub returns-in_default-clause-did : goal.returns-in_default-clause-did
returns-in_default-clause-did g c =
    found_empty (opened_by c.args.yard.now.start) (drive_view g.D.Disk.view) c.args.self.now c.args.pass.now
    c.take.new.pass c.in_default.ensures.same c.in_default.ensures.empty

-- From here on: taking a ticket out of its own lane leaves the worker what it was else
pub returns-in_default-asked_in-clause-job : goal.returns-in_default-asked_in-clause-job
returns-in_default-asked_in-clause-job g c =
    took_job (opened_by c.args.yard.now.start) (drive_view g.D.Disk.view) c.args.lanes.now c.args.pass.now.own
    c.args.self.now c.take.new.pass c.in-Some.ticket c.in-Some.ensures.taken c.requires.job

pub returns-in_default-asked_in-clause-did : goal.returns-in_default-asked_in-clause-did
returns-in_default-asked_in-clause-did g c =
    other_ticket (opened_by c.args.yard.now.start) (drive_view g.D.Disk.view) c.args.self.now c.args.pass.now
    c.take.new.pass c.in-Some.ticket c.in-Some.ensures.taken (sym c.in_default-asked_in.is ∙ c.asked_in.ensures)

pub returns-then-not-has-clause-job : goal.returns-then-not-has-clause-job
returns-then-not-has-clause-job g c =
    took_job (opened_by c.args.yard.now.start) (drive_view g.D.Disk.view) c.args.lanes.now c.args.pass.now.own
    c.args.self.now c.take.new.pass c.in-Some.ticket c.in-Some.ensures.taken c.requires.job

pub returns-then-not-has-clause-did : goal.returns-then-not-has-clause-did
returns-then-not-has-clause-did g c =
    let foreign : LacksDisk c.args.self.now.drives.items c.in-Some-asked_in.asked.0 = search rules in
    foreign_ticket (opened_by c.args.yard.now.start) (drive_view g.D.Disk.view) c.args.self.now c.args.pass.now
    c.take.new.pass c.in-Some.ticket c.in-Some-asked_in.asked.0 c.in-Some-asked_in.asked.1 c.in-Some.ensures.taken
    (sym c.in-Some-asked_in.is ∙ c.asked_in.ensures) foreign

pub returns-in_default-room_of-clause-job : goal.returns-in_default-room_of-clause-job
returns-in_default-room_of-clause-job g c =
    took_job (opened_by c.args.yard.now.start) (drive_view g.D.Disk.view) c.args.lanes.now c.args.pass.now.own
    c.args.self.now c.take.new.pass c.in-Some.ticket c.in-Some.ensures.taken c.requires.job

pub returns-in_default-room_of-clause-did : goal.returns-in_default-room_of-clause-did
returns-in_default-room_of-clause-did g c =
    without_room (opened_by c.args.yard.now.start) (drive_view g.D.Disk.view) c.args.self.now c.args.pass.now
    c.take.new.pass c.in-Some.ticket c.in-Some.ensures.taken

pub serve-requires-clause-job : goal.serve-requires-clause-job
serve-requires-clause-job g c =
    took_job (opened_by c.args.yard.now.start) (drive_view g.D.Disk.view) c.args.lanes.now c.args.pass.now.own
    c.args.self.now c.take.new.pass c.in-Some.ticket c.in-Some.ensures.taken c.requires.job

pub serve-requires-clause-room : goal.serve-requires-clause-room
serve-requires-clause-room g c =
    let long : length c.in-Ok.room ≡ 32768 = c.in-Ok.ensures in omega (arith, long)

-- the ticket was for a disk of the worker, so the Take was tried
pub returns-clause-did : goal.returns-clause-did
returns-clause-did g c =
    let has : LacksDisk c.args.self.now.drives.items c.in-Some-asked_in.asked.0 → ⊥ = search rules in
    tried_ticket (opened_by c.args.yard.now.start) (drive_view g.D.Disk.view) c.args.self.now c.args.pass.now
    c.serve.new.pass c.serve.new.self c.take.new.pass c.in-Some.ticket c.in-Some-asked_in.asked.0
    c.in-Some-asked_in.asked.1 c.serve.result c.in-Some.ensures.taken (sym c.in-Some-asked_in.is ∙ c.asked_in.ensures)
    (own_disk c.args.self.now.drives.items c.in-Some-asked_in.asked.0 has) c.serve.ensures.did

-- the turn put one ticket and added two entries, or none, so its passes are within their bounds still
pub returns-clause-job : goal.returns-clause-job
returns-clause-job g c =
    job_stays (opened_by c.args.yard.now.start) (drive_view g.D.Disk.view) c.args.lanes.now c.args.pass.now
    c.serve.new.pass c.args.self.now c.serve.new.self c.serve.result c.requires.job (returns-clause-did g c)

-- a drive that served has the number and the size that it had
pub returns-clause-drives : goal.returns-clause-drives
returns-clause-drives g c =
    drives_stay (opened_by c.args.yard.now.start) c.args.yard.now.start.facts (drive_view g.D.Disk.view)
    c.args.pass.now c.serve.new.pass c.args.self.now c.serve.new.self c.serve.result c.requires.drives
    (returns-clause-did g c)
