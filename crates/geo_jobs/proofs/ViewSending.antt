-- The two ends of a view may go to other threads.
use denote.Param.Send.{IsSend, sendable}
use Rattle.std.proofs.Crossing.{crosses}
use Rattle.atomic_table.proofs.owned.Table.TheSendSync as table
use Rattle.atomic_table.proofs.shared.Seat.TheSendSync as seat
use Rattle.geo_model.proofs.listing.MeshList.TheSendSync as list
use Rattle.geo_jobs.specs.contracts.publisher.Publisher as publisher
use Rattle.geo_jobs.specs.contracts.shown.Shown as shown
use Rattle.geo_jobs.specs.contracts.watcher.Watcher as watcher

-- what is shown owns its list alone
shown_send : IsSend shown.the_row
shown_send = search (sendable, crosses, list.the_send) depth 20

pub publisher_send : IsSend publisher.the_row
publisher_send =
    search (sendable, crosses, shown_send, seat.the_send, table.the_send, table.the_sync) depth 20

pub watcher_send : IsSend watcher.the_row
watcher_send = search (sendable, crosses, shown_send, seat.the_send, table.the_send, table.the_sync) depth 20
