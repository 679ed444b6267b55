-- So many disks have their seats, in header order.
use Rattle.geo_moves.proofs.Openings.{AreSeats}
use Rattle.geo_moves.proofs.begins.seats_of.Given as goal

abbrev pub invariant-loop-place : goal.invariant-loop-place
invariant-loop-place l = AreSeats l.disks l.facts l.place l.seats.items
