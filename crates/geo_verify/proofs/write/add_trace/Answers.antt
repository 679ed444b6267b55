use Rattle.std.proofs.Common.{sym}
use Rattle.std.proofs.lemmas.Slice.Zip.{AllZip-long}
use Rattle.geo_model.specs.Plans.{IsFact}
use Rattle.geo_verify.proofs.write.add_trace.Goals as goal

pub add_front-requires : goal.add_front-requires
add_front-requires c =
    rw (c.disks.ensures.disks, c.items.ensures)
    (sym (AllZip-long IsFact c.args.plan.now.disks c.args.facts.now.items c.requires))
