use Rattle.std.proofs.Common.{◌*◌, None, arith, get_or, refl}
use Rattle.geo_moves.proofs.Openings.{fact_inside, seat_shows, seats_push, seats_all, size_fits}
use Rattle.geo_moves.proofs.begins.seats_of.Goals as goal

pub bounds-facts-place : goal.bounds-facts-place
bounds-facts-place c =
    fact_inside c.args.disks.now c.args.facts.now c.loop-place.place c.requires c.loop-place-test.true

pub bounds-facts-place-in-loop-place : goal.bounds-facts-place-in-loop-place
bounds-facts-place-in-loop-place c =
    fact_inside c.args.disks.now c.args.facts.now c.loop-place.place c.requires c.loop-place-test.true

-- the size of a disk in bytes is within what media may have
pub overflow_mul-from : goal.overflow_mul-from
overflow_mul-from c =
    let fits =
    size_fits c.args.disks.now c.args.facts.now c.loop-place.place c.index-disks-place.result c.from.result c.requires
    c.loop-place-test.true c.index-disks-place.is c.from.ensures in
    omega (arith, fits)

-- the seat has the name of the declaration and the sizes that the disk has, and nothing stands for it
pub loop-place-preserved : goal.loop-place-preserved
loop-place-preserved c =
    rw c.in_ok-push.ensures.items
    (seats_push c.args.disks.now c.args.facts.now c.loop-place.place c.loop-place.seats.items
    (record {
      name = (get_or c.args.disks.now c.loop-place.place c.index-disks-place.result).name;
      sector = (get_or c.args.facts.now c.loop-place.place (0, 0)).0;
      size = c.from.result * (get_or c.args.facts.now c.loop-place.place (0, 0)).1;
      geom = None;
      busy = None;
    })
    c.requires c.loop-place-test.true c.loop-place.invariant (record { geom = refl; busy = refl })
    (seat_shows c.args.disks.now c.args.facts.now c.loop-place.place c.index-disks-place.result c.from.result
    c.requires c.loop-place-test.true c.index-disks-place.is c.from.ensures))

pub returns-clause-disks : goal.returns-clause-disks
returns-clause-disks c =
    seats_all c.args.disks.now c.args.facts.now c.loop-place.place c.loop-place.seats.items (omega arith)
    c.loop-place.invariant
