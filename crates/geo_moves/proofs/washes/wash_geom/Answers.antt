use Rattle.std.proofs.Common.{ap, ◌∙◌}
use Rattle.geo_state.specs.Sites.{seats_without}
use Rattle.geo_moves.proofs.Washed.{geom-stands, has-seat, geom-world, geom-kept}
use Rattle.geo_moves.proofs.washes.wash_geom.Goals as goal

-- in a firm world the disk that a geom names is one of the header
pub free_seat-requires : goal.free_seat-requires
free_seat-requires c = record {
  there =
      has-seat c.args.state.now c.requires.stands.firm c.args.geom c.disk_of_geom-disk.result
      c.disk_of_geom-disk.ensures;
}

-- which geom stands for a disk is no part of the world
pub returns-clause-made : goal.returns-clause-made
returns-clause-made c =
    geom-world c.args.state.now c.requires.stands c.wash.new.topo c.wash.new.queue
    c.wash.ensures.memory c.wash.ensures.kept c.args.geom c.free_seat.new.state c.wash.ensures.washed
    c.free_seat.ensures.rest c.disk_of_geom-disk.result c.free_seat.ensures.seats

-- the geom's disk, if it has one, has no geom any more, and the geom had no parts
pub returns-clause-kept : goal.returns-clause-kept
returns-clause-kept c =
    geom-kept c.args.state.now c.requires.stands c.wash.new.topo c.wash.new.queue
    c.wash.ensures.memory c.wash.ensures.kept c.args.geom c.free_seat.new.state c.requires.due.free
    (geom-stands c.args.state.now c.requires.stands c.args.geom c.requires.due)
    c.wash.ensures.mesh c.wash.ensures.washed c.free_seat.ensures.rest
    (c.free_seat.ensures.seats
    ∙ ap (seats_without c.args.state.now.disks.items) c.disk_of_geom-disk.ensures)
