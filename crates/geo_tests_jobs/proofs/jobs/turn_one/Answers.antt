use Rattle.geo_tests_jobs.proofs.Standing.{turn_leaves_number}
use Rattle.geo_tests_jobs.proofs.jobs.turn_one.Goals as goal

pub returns-clause-number : goal.returns-clause-number
returns-clause-number g c =
    turn_leaves_number c.args.yard.now c.args.worker.now.job c.turn-worker.new.self c.turn-worker.result
    c.requires.job.pass c.turn-worker.ensures.good c.requires.drives c.turn-worker.ensures.did
