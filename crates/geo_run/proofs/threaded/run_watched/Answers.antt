-- The mesh was listed and run, or memory for its list was wanting.
use Rattle.geo_run.proofs.Watching.{opening_listed}
use Rattle.geo_run.proofs.threaded.run_watched.Goals as goal

-- the mesh that ran began as the one that was listed, since it had no step then
pub returns-in-Ok-clause-known : goal.returns-in-Ok-clause-known
returns-in-Ok-clause-known g c =
    opening_listed _ c.args.mesh _ _ _ _ _ c.requires.new c.in-Ok.ensures.first c.run_in_threads-driven.ensures
