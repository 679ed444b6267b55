use Rattle.geo_tests_jobs.proofs.start.start_upper.Goals as goal

pub hire-requires-clause-role : goal.hire-requires-clause-role
hire-requires-clause-role g c = c.client.ensures.new c.args.lanes.now c.putter-first.ensures.putter

pub hire-requires-clause-drives : goal.hire-requires-clause-drives
hire-requires-clause-drives g c = c.client.ensures.drives c.args.yard.now.start.facts

pub hire-requires-2-clause-role : goal.hire-requires-2-clause-role
hire-requires-2-clause-role g c = c.client-2.ensures.new c.args.lanes.now c.putter-second.ensures.putter

pub hire-requires-2-clause-drives : goal.hire-requires-2-clause-drives
hire-requires-2-clause-drives g c = c.client-2.ensures.drives c.args.yard.now.start.facts

pub hire-requires-3-clause-role : goal.hire-requires-3-clause-role
hire-requires-3-clause-role g c = c.events.ensures.new c.args.lanes.now c.putter-third.ensures.putter

pub hire-requires-3-clause-drives : goal.hire-requires-3-clause-drives
hire-requires-3-clause-drives g c = c.events.ensures.drives c.args.yard.now.start.facts
