use Rattle.geo_serve.specs.Drives.{drive_view}
use Rattle.geo_jobs.proofs.DiskJoining.{turns_add_up}
use Rattle.geo_jobs.proofs.disk_laws.turns_add_up.Goals as goal

pub returns : goal.returns
returns g c = turns_add_up (drive_view g.D.Disk.view)
