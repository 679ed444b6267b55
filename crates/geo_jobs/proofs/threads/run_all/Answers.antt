use Rattle.std.proofs.Common.{rules, ◌≡◌, length, subst, sym}
use Rattle.std.specs.List.{AllZip}
use Rattle.geo_serve.specs.Drives.{drive_view}
use Rattle.geo_jobs.specs.Workers.{WorkerRan}
use Rattle.geo_jobs.proofs.Leaving.{ready_each, written}
use Rattle.geo_jobs.proofs.threads.run_all.Goals as goal

pub run_jobs-requires-clause-ready : goal.run_jobs-requires-clause-ready
run_jobs-requires-clause-ready g c i d lt = search (rules, ready_each)

-- the slice of all workers was written back whole, so each ran
pub returns : goal.returns
returns g c =
    let new = c.run_jobs.new.workers in
    let old = c.args.workers.items in
    let R = WorkerRan c.args.yard.now c.args.lanes.now (drive_view g.D.Disk.view) in
    let ran : AllZip R old new = search rules in
    let long : length new ≡ length old = search rules in
    subst (λ l. AllZip R old l) (sym (written new old c.args.workers.len long (search rules))) ran
