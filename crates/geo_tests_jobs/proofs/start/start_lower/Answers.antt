use Rattle.geo_tests_jobs.proofs.Roles.{taker_own}
use Rattle.geo_tests_jobs.proofs.start.start_lower.Goals as goal

pub hire-requires-clause-role : goal.hire-requires-clause-role
hire-requires-clause-role g c =
    c.down_worker-role.ensures.new c.args.lanes.now
    (taker_own c.args.lanes.now.down 4 c.args.takers.down c.requires.takers.down) c.putter-down_up.ensures.putter
    c.putter-down_disk0.ensures.putter c.putter-down_disk1.ensures.putter

pub hire-requires-clause-drives : goal.hire-requires-clause-drives
hire-requires-clause-drives g c = c.down_worker-role.ensures.drives c.args.yard.now.start.facts

pub hire-requires-2-clause-role : goal.hire-requires-2-clause-role
hire-requires-2-clause-role g c =
    c.up_worker.ensures.new c.args.lanes.now
    (taker_own c.args.lanes.now.up _ c.putter-disk1_up.new.taker c.putter-disk1_up.ensures.taker)

pub hire-requires-2-clause-drives : goal.hire-requires-2-clause-drives
hire-requires-2-clause-drives g c = c.up_worker.ensures.drives c.args.yard.now.start.facts

pub hire-requires-3-clause-role : goal.hire-requires-3-clause-role
hire-requires-3-clause-role g c =
    c.disk_worker-role.ensures.new c.args.lanes.now
    (taker_own c.args.lanes.now.disk0 _ c.putter-down_disk0.new.taker c.putter-down_disk0.ensures.taker)
    c.putter-disk0_up.ensures.putter

pub hire-requires-3-clause-drives : goal.hire-requires-3-clause-drives
hire-requires-3-clause-drives g c =
    c.disk_worker-role.ensures.drives c.args.yard.now.start.facts c.requires.first

pub hire-requires-4-clause-role : goal.hire-requires-4-clause-role
hire-requires-4-clause-role g c =
    c.disk_worker-role-2.ensures.new c.args.lanes.now
    (taker_own c.args.lanes.now.disk1 _ c.putter-down_disk1.new.taker c.putter-down_disk1.ensures.taker)
    c.putter-disk1_up.ensures.putter

pub hire-requires-4-clause-drives : goal.hire-requires-4-clause-drives
hire-requires-4-clause-drives g c =
    c.disk_worker-role-2.ensures.drives c.args.yard.now.start.facts c.requires.second
