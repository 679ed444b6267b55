use Rattle.std.proofs.Common.{refl, arith}
use Rattle.geo_mesh.specs.Cells.{made_cell}
use Rattle.geo_mesh.proofs.GraphLemmas.{sound-graph}
use Rattle.geo_mesh.proofs.ViewLemmas.{room-geoms}
use Rattle.geo_mesh.proofs.WholeParts.{whole-new_geom}
use Rattle.geo_mesh.proofs.topo.Topo.new_geom.Goals as goal

-- Each way out: room was asked for geoms alone, so that of providers and consumers is as it was
pub returns-in_err-reserve-clause-other_room : goal.returns-in_err-reserve-clause-other_room
returns-in_err-reserve-clause-other_room g c =
    room-geoms c.self.inside.tables c.reserve.new.self c.self.view_is c.reserve.ensures.same _
    c.reserve.ensures.providers_most c.reserve.ensures.consumers_most

pub returns-clause-other_room : goal.returns-clause-other_room
returns-clause-other_room g c =
    room-geoms c.self.inside.tables c.reserve.new.self c.self.view_is c.reserve.ensures.same _
    c.reserve.ensures.providers_most c.reserve.ensures.consumers_most

-- nothing is below the new geom, so its rank is 1, and nothing is above it; there is place for one more
pub invariant_of-self-2 : goal.invariant_of-self-2
invariant_of-self-2 g c =
    rw (c.insert-number.ensures.inserted, c.add_geom.ensures, c.add.ensures, c.new_cell.ensures)
    (whole-new_geom c.reserve.new.self c.reserve.ensures.whole
    (made_cell c.args.kind c.args.name c.args.config c.args.automatic) c.add-2.new.self refl refl refl
    c.insert-number.ensures.rising (omega (arith, c.reserve.ensures.same.live, c.if-self-ge-MOST_GEOMS.false))
    (rw c.insert-number.ensures.inserted at c.insert-number.ensures.bound)
    c.add-2.ensures.added c.add-2.ensures.room)

pub returns-then-self-ge-MOST_GEOMS-clause-sound : goal.returns-then-self-ge-MOST_GEOMS-clause-sound
returns-then-self-ge-MOST_GEOMS-clause-sound g c =
    rw (← c.self.view_is) (sound-graph c.self.inside.tables c.self.invariant)

pub returns-in_err-reserve-clause-sound : goal.returns-in_err-reserve-clause-sound
returns-in_err-reserve-clause-sound g c = rw (← c.self.view_is) (sound-graph c.self.inside.tables c.self.invariant)

pub returns-clause-sound : goal.returns-clause-sound
returns-clause-sound g c = rw (← c.self.view_is) (sound-graph c.self.inside.tables c.self.invariant)
