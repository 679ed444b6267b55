use Rattle.std.proofs.Common.{rules, refl}
use Rattle.geo_lane.specs.declared.ticket.TicketStep.TheVariants as hints
use Rattle.geo_serve.specs.Drives.{drive_view}
use Rattle.geo_jobs.specs.Putting.{PutsOne}
use Rattle.geo_jobs.proofs.Serving.{can_answer, can_deliver_answer, has_disk, rests_full, rests_idle, room_to_put, serves_bio}
use Rattle.geo_jobs.proofs.disk_job.DiskJob.serve.Goals as goal

-- the request of a Take is for the disk of the ticket, which the worker has
pub answer-got-requires-clause-has : goal.answer-got-requires-clause-has
answer-got-requires-clause-has g c =
    has_disk c.args.yard.now (drive_view g.D.Disk.view) c.args.pass.now c.take.new.pass c.requires.own c.args.disk
    c.args.bio c.in-Asked.request c.in-Asked.ensures.did.1 c.args.self.now.drives.items c.requires.has

-- the drive has the size of its disk, so it can serve the request, which fits the room
pub answer-got-requires-clause-can : goal.answer-got-requires-clause-can
answer-got-requires-clause-can g c =
    can_answer c.args.yard.now (drive_view g.D.Disk.view) c.args.pass.now c.take.new.pass c.requires.own c.args.disk
    c.args.bio c.in-Asked.request c.in-Asked.ensures.did.1 c.args.self.now.drives.items c.args.room c.requires.drives
    c.requires.room

-- the pass took the bio by its last own entry, and the drive gave an answer that fits
pub deliver-requires-clause-taken : goal.deliver-requires-clause-taken
deliver-requires-clause-taken g c =
    can_deliver_answer c.args.yard.now (drive_view g.D.Disk.view) c.args.pass.now c.take.new.pass c.requires.own
    c.args.disk c.args.bio c.in-Asked.request c.in-Asked.ensures.did.1 c.take.new.pass c.in-Asked.ensures.did.0
    c.answer-got.result c.args.self.now.drives.items c.answer-got.new.self.items c.requires.drives c.answer-got.ensures

-- few tickets were put for each own entry, and a log has few entries, so there is room for one more
pub put-requires-clause-room : goal.put-requires-clause-room
put-requires-clause-room g c =
    room_to_put c.args.yard.now (drive_view g.D.Disk.view) c.args.pass.now c.deliver.new.pass c.requires.own c.args.disk
    c.args.bio c.in-Asked.request c.in-Asked.ensures.did.1 c.take.new.pass c.in-Asked.ensures.did.0 c.answer-got.result
    c.deliver.ensures.made c.args.self.now.up c.deliver.ensures.good c.requires.job.within

-- the Take, one call of the drive, the Deliver of its answer, and the ticket to give the bio up
pub returns-in-Asked-clause-did : goal.returns-in-Asked-clause-did
returns-in-Asked-clause-did g c =
    let puts : PutsOne c.args.self.now.up (hints.Up c.args.bio) c.put.new.pass = search rules in
    serves_bio c.args.yard.now (drive_view g.D.Disk.view) c.args.pass.now c.deliver.new.pass c.requires.own c.args.disk
    c.args.bio c.in-Asked.request c.in-Asked.ensures.did.1 c.take.new.pass c.in-Asked.ensures.did.0 c.answer-got.result
    c.deliver.ensures.made c.args.self.now
    (record c.args.self.now { drives = c.answer-got.new.self; up = c.put.new.pass }) c.answer-got.ensures puts refl

-- Each way out without a Take: nothing was added, asked or put
pub returns-in-NotEnabled-clause-did : goal.returns-in-NotEnabled-clause-did
returns-in-NotEnabled-clause-did g c =
    rests_idle c.args.yard.now (drive_view g.D.Disk.view) c.args.pass.now c.take.new.pass c.requires.own c.args.disk
    c.args.bio c.args.self.now c.in-NotEnabled.ensures.did.0 c.in-NotEnabled.ensures.did.1

pub returns-in-LogFull-clause-did : goal.returns-in-LogFull-clause-did
returns-in-LogFull-clause-did g c =
    rests_full c.args.yard.now (drive_view g.D.Disk.view) c.args.pass.now c.take.new.pass c.requires.own c.args.disk
    c.args.bio c.args.self.now c.in-LogFull.ensures.did.0 c.in-LogFull.ensures.did.1
