use Rattle.std.proofs.Common.{rules, ◌≡◌, length, subst, sym}
use Rattle.std.specs.List.{AllZip}
use Rattle.geo_jobs.specs.Workers.{WorkerRan}
use Rattle.geo_tests_jobs.specs.Benches.{seen_drive}
use Rattle.geo_tests_jobs.specs.Standing.{AreStanding}
use Rattle.geo_tests_jobs.proofs.Standing.{ready_each, standing_ran, written}
use Rattle.geo_tests_jobs.proofs.jobs.go_at_once.Goals as goal

pub run_jobs-requires-clause-ready : goal.run_jobs-requires-clause-ready
run_jobs-requires-clause-ready g c i d lt = search (rules, ready_each)

pub returns-clause-standing : goal.returns-clause-standing
returns-clause-standing g c =
    let new = c.run_jobs.new.workers in
    let old = c.args.workers.now.items in
    let R = WorkerRan c.args.yard.now c.args.lanes.now seen_drive in
    let ran : AllZip R old new = search rules in
    let long : length new ≡ length old = search rules in
    subst (λ l. AreStanding c.args.yard.now c.args.lanes.now 1 l)
    (sym (written new old c.args.workers.now.len long (search rules)))
    (standing_ran c.args.yard.now c.args.lanes.now 1 old new c.requires.standing ran)
