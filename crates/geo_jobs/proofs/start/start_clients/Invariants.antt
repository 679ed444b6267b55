-- So many actors have their clients, in order, behind those that had begun before, in the room that was there.
use Rattle.std.proofs.Common.{◌≡◌, length, vec_len, vec_capacity}
use mathlib.Core.List.{IsPrefix}
use Rattle.geo_serve.specs.Drives.{drive_view}
use Rattle.geo_jobs.specs.Started.{HasBegun}
use Rattle.geo_jobs.proofs.start.start_clients.Given as goal

abbrev pub invariant-loop-actor : goal.invariant-loop-actor
invariant-loop-actor g l =
    HasBegun l.yard l.lanes (drive_view g.D.Disk.view) l.actors l.first l.down l.workers.items
    × IsPrefix l.fn.workers.items l.workers.items
    × (length l.workers.items ≡ l.actor)
    × (vec_len l.workers ≡ length l.workers.items)
    × (vec_capacity l.workers ≡ vec_capacity l.fn.workers)
