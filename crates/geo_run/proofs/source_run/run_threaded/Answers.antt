-- The script that the source gives is run in threads.
use Rattle.geo_run.specs.Work.{mode_threaded}
use Rattle.geo_run.proofs.InThreads.{makes_no_script, opens_mesh}
use Rattle.geo_run.proofs.Sources.{source_finishes}
use Rattle.geo_run.proofs.source_run.run_threaded.Goals as goal

pub returns : goal.returns
returns g c =
    source_finishes _ (mode_threaded c.args.work) _ _ _ _ _ c.requires.asked (makes_no_script c.args.work)
    (opens_mesh c.args.work) c.run_source_in_threads.ensures
