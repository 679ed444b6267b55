use Rattle.geo_laws_disks.proofs.Seats.{parts_serve}
use Rattle.geo_laws_disks.proofs.by_seats.parts_are_served_as_one.Goals as goal

pub returns-clause-serve : goal.returns-clause-serve
returns-clause-serve c = parts_serve
