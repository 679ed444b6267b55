use Rattle.geo_laws_disks.proofs.Seats.{seats_serve}
use Rattle.geo_laws_disks.proofs.by_seats.seats_serve_their_disks.Goals as goal

pub returns-clause-serve : goal.returns-clause-serve
returns-clause-serve c = seats_serve
