use Rattle.std.proofs.Common.{rules}
use Rattle.geo_jobs.proofs.Meeting.{notes}
use Rattle.geo_jobs.proofs.publisher.Publisher.tell.Goals as goal

pub split_seat-note-requires : goal.split_seat-note-requires
split_seat-note-requires c = (search rules, search rules, notes _ _ _)
