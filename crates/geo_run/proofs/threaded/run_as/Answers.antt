-- The steps are made alike, whatever is reported of them.
use Rattle.geo_run.proofs.InThreads.{ran_as}
use Rattle.geo_run.proofs.threaded.run_as.Goals as goal

pub returns-in-Watch-clause-ran : goal.returns-in-Watch-clause-ran
returns-in-Watch-clause-ran g c = ran_as c.args.work c.args.mesh _ _ _ _ c.run_watched.ensures.ran

pub returns-in-Trace-clause-ran : goal.returns-in-Trace-clause-ran
returns-in-Trace-clause-ran g c = ran_as c.args.work c.args.mesh _ _ _ _ c.run_unseen-in-Trace.ensures
