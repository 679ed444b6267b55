use denote.Param.Send.{sendable}
use Rattle.geo_jobs.proofs.ViewSending.{watcher_send}
use Rattle.geo_tests_threads.proofs.view.race.Goals as goal

pub join-looked-requires-send-F : goal.join-looked-requires-send-F
join-looked-requires-send-F g c κs within = search (sendable, watcher_send) depth 20

pub join-looked-requires-send-A : goal.join-looked-requires-send-A
join-looked-requires-send-A g c κs within = search (sendable, watcher_send) depth 20
