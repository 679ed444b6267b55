use Rattle.geo_tests_threads.proofs.Starts.{first_shows}
use Rattle.geo_tests_threads.proofs.view.begun_with.Goals as goal

pub returns-in-Ok-clause-list : goal.returns-in-Ok-clause-list
returns-in-Ok-clause-list g c =
    first_shows c.args.mesh c.in-Ok.yard c.in-Ok.pass c.args.list c.requires.log c.in-Ok.ensures.start
    c.in-Ok.ensures.pass c.requires.list
