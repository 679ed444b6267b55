-- The yard is made, and the jobs run in it.
use Rattle.std.proofs.Common.{IfOk, map, subst}
use Rattle.geo_serve.specs.Drives.{drive_view}
use Rattle.geo_jobs.specs.Left.{ThreadsRan}
use Rattle.geo_jobs.proofs.Leaving.{begins, begins_fit, begins_history, begins_shown}
use Rattle.geo_jobs.proofs.threads.run_in_room.Goals as goal

pub run_in_yard-requires-clause-shown : goal.run_in_yard-requires-clause-shown
run_in_yard-requires-clause-shown g c _ _ =
    begins_shown c.args.mesh c.in-Ok.yard c.requires.new c.in-Ok.ensures.start c.args.given.shown c.requires.shown

pub run_in_yard-requires-clause-history : goal.run_in_yard-requires-clause-history
run_in_yard-requires-clause-history g c _ _ =
    begins_history c.args.mesh c.in-Ok.yard c.requires.new c.in-Ok.ensures.start c.requires.history

pub run_in_yard-requires-clause-fit : goal.run_in_yard-requires-clause-fit
run_in_yard-requires-clause-fit g c _ _ =
    begins_fit c.args.mesh c.in-Ok.yard c.requires.new c.in-Ok.ensures.start _ c.requires.fit

pub returns-in-Ok-clause-ok : goal.returns-in-Ok-clause-ok
returns-in-Ok-clause-ok g c =
    let seen = drive_view g.D.Disk.view in
    subst (λ m. IfOk c.run_in_yard.result (λ left. ThreadsRan m left.mesh (map seen c.args.given.drives.items)
    (map seen left.drives.items) left.ended))
    (begins c.args.mesh c.in-Ok.yard c.requires.new c.in-Ok.ensures.start) c.run_in_yard.ensures.ok
