use Rattle.std.proofs.Common.{◌≡◌, ◌-◌, false, find, map, None, refl, sym, ap, subst, ◌∙◌, IsSome}
use Rattle.geo_model.specs.Topology.{geom_at, is_name_taken, is_withering}
use Rattle.geo_slots.specs.Slots.{IsRising}
use Rattle.geo_mesh.specs.Topo.{with_provider}
use Rattle.geo_mesh.specs.Cells.{made_provider, graph, topo_view, provider_row}
use Rattle.geo_mesh.specs.Names.{AddsName, is_sound_named}
use Rattle.geo_mesh.proofs.IndexLemmas.{offered_parent}
use Rattle.geo_mesh.proofs.ViewLemmas.{with_provider-view, roomier-view, roomier-graph, room-providers, is_withering-rows}
use Rattle.geo_laws_graph.proofs.Numbered.{find-none}
use Rattle.geo_mesh.proofs.RankFirst.{geoms-rise}
use Rattle.geo_mesh.proofs.GoingLemmas.{settled}
use Rattle.geo_mesh.proofs.WholeParts.{whole-new_provider}
use Rattle.geo_mesh.proofs.topo.Topo.new_provider.Goals as goal

-- Each way out: room was asked for providers alone, so that of geoms and consumers is as it was
pub returns-in_err-reserve-clause-other_room : goal.returns-in_err-reserve-clause-other_room
returns-in_err-reserve-clause-other_room g c =
    room-providers c.self.inside.tables c.reserve.new.self c.self.view_is c.reserve.ensures.same _
    c.reserve.ensures.geoms_most c.reserve.ensures.consumers_most

pub returns-clause-other_room : goal.returns-clause-other_room
returns-clause-other_room g c =
    room-providers c.self.inside.tables c.reserve.new.self c.self.view_is c.reserve.ensures.same _
    c.reserve.ensures.geoms_most c.reserve.ensures.consumers_most

-- with more room the graph is the same, so the geom stands, and the index has it as a parent
pub add_provider-requires-clause-geom : goal.add_provider-requires-clause-geom
add_provider-requires-clause-geom g c =
    let graph_is = roomier-graph c.self.inside.tables c.reserve.new.self c.self.view_is c.reserve.ensures.same in
    rw c.number.ensures
    (offered_parent (graph c.reserve.new.self) c.reserve.new.self.edges.index
    c.reserve.ensures.whole.tables.indexed c.args.geom
    (subst (λ g. IsSome (geom_at g c.args.geom)) (sym graph_is) c.requires.lives))

-- the name is free, so names still differ; the geom doesn't wither, so it needs no mark though the provider can go
pub invariant_of-self-2 : goal.invariant_of-self-2
invariant_of-self-2 g c =
    let graph_is = roomier-graph c.self.inside.tables c.reserve.new.self c.self.view_is c.reserve.ensures.same in
    let free : find (is_sound_named c.args.name) (map provider_row c.reserve.new.self.edges.providers.rows) ≡ None =
    find-none (is_sound_named c.args.name) (map provider_row c.reserve.new.self.edges.providers.rows)
    (subst (λ g. is_name_taken g c.args.name ≡ false) (sym graph_is) c.requires.free) in
    let rising : IsRising 1 c.reserve.new.self.geoms.rows c.reserve.new.self.geoms.next =
    geoms-rise c.reserve.new.self.geoms c.reserve.new.self.edges c.reserve.ensures.whole.graph in
    let stays : is_withering (graph c.reserve.new.self) c.args.geom ≡ false =
    subst (λ g. is_withering g c.args.geom ≡ false) (sym graph_is) c.requires.stays in
    rw (c.insert-number.ensures.inserted, c.add_provider.ensures, c.add-2.ensures, c.add-3.ensures, c.number.ensures)
    (settled _ c.args.geom
    (whole-new_provider c.reserve.new.self c.reserve.ensures.whole
    (made_provider c.args.geom c.args.name c.args.size c.args.sector) c.add.new.self refl refl refl
    free
    (subst (λ k. AddsName c.reserve.new.self.names c.add.new.self c.args.name k) c.insert-number.ensures.number
    c.add.ensures.added)
    (c.add.ensures.room _ c.reserve.ensures.whole.tables.names_room)
    (subst (λ g. IsSome (geom_at g c.args.geom)) (sym graph_is) c.requires.lives) c.requires.not_dev
    c.requires.not_taste c.requires.size
    (rw c.insert-number.ensures.inserted at c.insert-number.ensures.bound))
    rising
    (sym (is_withering-rows c.args.geom 1 c.reserve.new.self.geoms.next c.reserve.new.self.geoms.rows rising) ∙ stays))

-- the mesh with more room is the old one but for the room, and the new row is its last
pub returns-clause-added : goal.returns-clause-added
returns-clause-added g c =
    rw (← c.self.view_is, c.insert-number.ensures.inserted)
    (with_provider-view c.reserve.new.self c.args.geom c.args.name c.args.size c.args.sector
    c.reserve.new.self.edges.providers.spare
    ∙ ap (λ v. record (with_provider v c.args.geom c.args.name c.args.size c.args.sector) {
      room =
          record (topo_view c.reserve.new.self).room { providers = c.reserve.new.self.edges.providers.spare - 1 };
    })
    (roomier-view c.self.inside.tables c.reserve.new.self c.reserve.ensures.same))
