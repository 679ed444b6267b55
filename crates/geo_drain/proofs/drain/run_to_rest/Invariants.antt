-- The steps so far were those that were due in the order, which knows a part of the log.
use Rattle.std.proofs.Common.{◌-◌, length, map}
use Rattle.geo_base.specs.declared.limits.TheConstants.{MAX_LOG_ENTRIES}
use Rattle.geo_serve.specs.Drives.{drive_view}
use Rattle.geo_drain.specs.Running.{IsKnown, IsRunning}
use Rattle.geo_drain.proofs.drain.run_to_rest.Given as goal

abbrev pub invariant-loop-pool : goal.invariant-loop-pool
invariant-loop-pool g l =
    IsRunning (g.O.Order.due l.fn.order) l.fn.mesh l.mesh
    (map (drive_view g.D.Disk.view)
    l.fn.disks)
    (map (drive_view g.D.Disk.view) l.disks)
    × IsKnown g.O.Order.due g.O.Order.knows l.fn.order l.order l.mesh

abbrev pub decreases-loop-pool : goal.decreases-loop-pool
decreases-loop-pool g l = MAX_LOG_ENTRIES - length l.mesh.log
