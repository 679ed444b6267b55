-- Those that were taken are out.
use Rattle.geo_run.proofs.Outs.{stopped_out}
use Rattle.geo_run.proofs.lent.take_disks.Goals as goal

pub give_back-requires : goal.give_back-requires
give_back-requires g c =
    record { out = stopped_out _ _ c.args.decls.now _ _ c.in-Err.stop c.requires.names c.in-Err.ensures.stopped }
