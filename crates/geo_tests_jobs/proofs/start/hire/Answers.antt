use Rattle.std.proofs.Common.{subst, sym}
use Rattle.geo_jobs.specs.declared.turn.Turn.TheVariants as turns
use Rattle.geo_tests_jobs.specs.Standing.{AreStanding}
use Rattle.geo_tests_jobs.proofs.Standing.{new_worker, standing_push}
use Rattle.geo_tests_jobs.proofs.start.hire.Goals as goal

pub returns-clause-standing : goal.returns-clause-standing
returns-clause-standing c =
    let y = c.args.yard.now in
    let lanes = c.args.lanes.now in
    let ws = c.args.workers.now.items in
    subst (λ l. AreStanding y lanes 1 l) (sym c.push_reserved.ensures.items)
    (standing_push y lanes 1 ws _ c.requires.standing
    (new_worker y lanes c.args.opener.now c.split-pass.result ws c.args.role turns.Worked c.requires.opener
    c.split-pass.ensures.new c.requires.role c.requires.drives))
