use Rattle.geo_laws_disks.proofs.Answered.{taken_can_be_delivered}
use Rattle.geo_laws_disks.proofs.disks.taken_can_be_delivered.Goals as goal

pub returns : goal.returns
returns c = taken_can_be_delivered
