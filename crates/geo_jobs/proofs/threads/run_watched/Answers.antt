-- Who looks may go to another thread.
use denote.Param.Send.{sendable}
use Rattle.geo_jobs.proofs.ViewSending.{watcher_send}
use Rattle.geo_jobs.proofs.threads.run_watched.Goals as goal

pub join-watcher-requires-send-F : goal.join-watcher-requires-send-F
join-watcher-requires-send-F g c κs within = search (sendable, watcher_send) depth 20

pub join-watcher-requires-send-A : goal.join-watcher-requires-send-A
join-watcher-requires-send-A g c κs within = search (sendable, watcher_send)
