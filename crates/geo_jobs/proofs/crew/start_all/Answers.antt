use Rattle.std.proofs.Common.{subst, sym}
use Rattle.geo_serve.specs.Drives.{drive_view}
use Rattle.geo_jobs.specs.Drives.{HasDrives}
use Rattle.geo_jobs.proofs.Dealing.{dealt_fit}
use Rattle.geo_jobs.proofs.Homing.{begins_view}
use Rattle.geo_jobs.proofs.crew.start_all.Goals as goal

-- each disk worker has the drives of its disks, which fit, and the first worker shows what is looked at
pub returns-in-Ok-clause-ok : goal.returns-in-Ok-clause-ok
returns-in-Ok-clause-ok g c =
    let facts = c.args.yard.now.start.facts in
    let seen = drive_view g.D.Disk.view in
    let drives = c.args.given.drives.items in
    let fit = dealt_fit facts seen drives c.requires.fit in
    record {
      first_is = c.start.ensures.first;
      started = c.start.ensures.started drives c.deal.ensures.even c.deal.ensures.odd
          (subst (λ l. HasDrives facts seen l) (sym c.deal.ensures.even) (fit 0))
          (subst (λ l. HasDrives facts seen l) (sym c.deal.ensures.odd) (fit 1));
      many = c.start.ensures.count;
      looks = begins_view c.in-Ok.watcher c.start_view.new.workers.items c.start.new.workers.items
          c.start.ensures.begins c.in-Ok.ensures.view;
    }
