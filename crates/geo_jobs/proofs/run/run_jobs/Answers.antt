use denote.Param.Send.{sendable}
use Rattle.std.proofs.Common.{rules, subst, slice_index_or}
use Rattle.geo_serve.specs.Drives.{drive_view}
use Rattle.geo_jobs.specs.Workers.{WorkerRan}
use Rattle.geo_jobs.proofs.Sending.{worker_send}
use Rattle.geo_jobs.proofs.Zips.{zip_by_index}
use Rattle.geo_jobs.proofs.run.run_jobs.Goals as goal

pub for_each_mut-requires-send-T : goal.for_each_mut-requires-send-T
for_each_mut-requires-send-T g c κs within = search (sendable, worker_send)

-- each worker was handed to one call, and holds what that call made of it
pub returns : goal.returns
returns g c =
    let R = WorkerRan c.args.yard.now c.args.lanes.now (drive_view g.D.Disk.view) in
    zip_by_index R c.args.workers.now c.for_each_mut.new.s (search rules) (λ i d lt.
    let at = (c.for_each_mut.ensures i d lt).1 in
    let ran : R at.argument.now at.after_call.now = search rules in
    subst (λ x. R x (slice_index_or c.for_each_mut.new.s i d)) at.argument_is
    (subst (λ y. R at.argument.now y) {y = slice_index_or c.for_each_mut.new.s i d} at.left ran))
