-- The threads ran, or memory was wanting before them.
use Rattle.geo_run.proofs.InThreads.{threads_ran}
use Rattle.geo_run.proofs.threaded.run_in_threads.Goals as goal

-- what the threads left was made with seat 0, if they ended idle; else it says why they ended
pub returns-in-Ok : goal.returns-in-Ok
returns-in-Ok g c =
    threads_ran c.args.mesh _ c.after_threads-answer.new.mesh _ _ _ _ _ c.in-Ok.ensures.ok
    c.after_threads-answer.ensures
