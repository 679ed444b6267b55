use Rattle.std.proofs.Common.{◌≡◌, ◌-◌, refl, sym, ap, subst, ◌∙◌, IsSome}
use Rattle.geo_model.specs.Topology.{geom_at}
use Rattle.geo_mesh.specs.Topo.{Room, IsButForRoom, with_consumer}
use Rattle.geo_mesh.specs.Cells.{graph, topo_view}
use Rattle.geo_mesh.proofs.GraphLemmas.{sound-graph}
use Rattle.geo_mesh.proofs.IndexLemmas.{owned_parent}
use Rattle.geo_mesh.proofs.ViewLemmas.{with_consumer-view, roomier-view, roomier-graph, room-consumers}
use Rattle.geo_mesh.proofs.WholeParts.{whole-new_consumer}
use Rattle.geo_mesh.proofs.topo.Topo.new_consumer.Goals as goal

-- Each way out: room was asked for consumers alone, so that of geoms and providers is as it was
pub returns-in_err-reserve-clause-other_room : goal.returns-in_err-reserve-clause-other_room
returns-in_err-reserve-clause-other_room g c =
    room-consumers c.self.inside.tables c.reserve.new.self c.self.view_is c.reserve.ensures.same _
    c.reserve.ensures.geoms_most c.reserve.ensures.providers_most

pub returns-clause-other_room : goal.returns-clause-other_room
returns-clause-other_room g c =
    subst (λ (r : Room). r ≡ record c.args.self.now.room { consumers = r.consumers })
    (sym (ap (λ v. v.room) c.look_again.ensures.same))
    (room-consumers c.self.inside.tables c.reserve.new.self c.self.view_is c.reserve.ensures.same _
    c.reserve.ensures.geoms_most c.reserve.ensures.providers_most)

-- with more room the graph is the same, so the geom stands, and the index has it as a parent
pub add_consumer-requires-clause-geom : goal.add_consumer-requires-clause-geom
add_consumer-requires-clause-geom g c =
    let graph_is = roomier-graph c.self.inside.tables c.reserve.new.self c.self.view_is c.reserve.ensures.same in
    rw c.number.ensures
    (owned_parent (graph c.reserve.new.self) c.reserve.new.self.edges.index
    c.reserve.ensures.whole.tables.indexed c.args.geom
    (subst (λ g. IsSome (geom_at g c.args.geom)) (sym graph_is) c.requires))

-- a consumer that is attached to nothing raises no rank; it may give its geom something that can go
pub look_again-requires : goal.look_again-requires
look_again-requires g c =
    let graph_is = roomier-graph c.self.inside.tables c.reserve.new.self c.self.view_is c.reserve.ensures.same in
    rw (c.insert-number.ensures.inserted, c.add_consumer.ensures, c.number.ensures, c.number-2.ensures)
    (whole-new_consumer c.reserve.new.self c.reserve.ensures.whole _ refl refl
    (subst (λ g. IsSome (geom_at g c.args.geom)) (sym graph_is) c.requires)
    (rw c.insert-number.ensures.inserted at c.insert-number.ensures.bound))

-- the mesh with more room is the old one but for the room, and the new row is its last
pub returns-clause-added : goal.returns-clause-added
returns-clause-added g c =
    subst (λ v. IsButForRoom v (with_consumer c.args.self.now c.args.geom)) (sym c.look_again.ensures.same)
    (rw (← c.self.view_is, c.insert-number.ensures.inserted)
    (with_consumer-view c.reserve.new.self c.args.geom c.reserve.new.self.edges.consumers.spare
    ∙ ap (λ v. record (with_consumer v c.args.geom) {
      room =
          record (topo_view c.reserve.new.self).room { consumers = c.reserve.new.self.edges.consumers.spare - 1 };
    })
    (roomier-view c.self.inside.tables c.reserve.new.self c.reserve.ensures.same)))

pub returns-in_err-reserve-clause-sound : goal.returns-in_err-reserve-clause-sound
returns-in_err-reserve-clause-sound g c = rw (← c.self.view_is) (sound-graph c.self.inside.tables c.self.invariant)

pub returns-clause-sound : goal.returns-clause-sound
returns-clause-sound g c = rw (← c.self.view_is) (sound-graph c.self.inside.tables c.self.invariant)
