use Rattle.std.proofs.Common.{◌∙◌}
use Rattle.geo_tests_jobs.proofs.Standing.{are_whole}
use Rattle.geo_tests_jobs.proofs.jobs.drive_yard.Goals as goal

pub finish-mesh-requires-clause-whole : goal.finish-mesh-requires-clause-whole
finish-mesh-requires-clause-whole g c =
    are_whole c.args.yard c.args.room.lanes c.start.new.opener c.go.new.workers.items c.start.ensures.opener
    (c.go.ensures.count ∙ c.start.ensures.count) c.go.ensures.standing
