use Rattle.std.proofs.Common.{ap, ◌∙◌, sym}
use Rattle.geo_mesh.specs.Topo.{TopoView}
use Rattle.geo_taste.proofs.TableLemmas.{stands_kept, table_can, table_made, table_none, unchanged}
use Rattle.geo_taste.proofs.tables.accept_parts.Goals as goal

-- a name is taken or a size isn't one, so in a firm mesh the model makes nothing; nothing was changed yet
pub returns-then-not-are_addable-clause-made : goal.returns-then-not-are_addable-clause-made
returns-then-not-are_addable-clause-made c = (
  unchanged c.args.topo.now c.args.queue.now,
  table_none c.args.topo.now c.args.queue.now c.args.geom.kind c.args.geom.name c.args.geom.config c.args.prov
      c.args.parts.now
      (sym c.are_addable.ensures ∙ c.if-not-are_addable.true),
)

pub raise-id-requires-clause-stand : goal.raise-id-requires-clause-stand
raise-id-requires-clause-stand c =
    stands_kept c.args.topo.now c.reserve.new.self c.args.prov c.reserve.ensures.same c.requires.stands

-- the new geom brings no provider, so the names are free still
pub offer_parts-requires-clause-parts : goal.offer_parts-requires-clause-parts
offer_parts-requires-clause-parts c =
    table_can c.args.topo.now c.args.queue.now c.args.geom.kind c.args.geom.name c.args.geom.config c.args.prov
    c.args.parts.now c.reserve.new.self c.raise-id.new.topo c.reserve.ensures.same c.raise-id.ensures.raised
    (sym c.are_addable.ensures ∙ c.if-not-are_addable.false)

-- all parts are named and can be made, so the model makes them too, by the same geom number
pub returns-clause-made : goal.returns-clause-made
returns-clause-made c = λ facts.
    table_made c.args.topo.now c.args.queue.now c.args.geom.kind c.args.geom.name c.args.geom.config c.args.prov
    c.args.parts.now c.reserve.new.self c.raise-id.new.topo c.reserve.ensures.same c.raise-id.ensures.raised
    (sym c.are_addable.ensures ∙ c.if-not-are_addable.false)
    c.offer_parts.new.topo c.reserve-2.new.self c.offer_parts.new.queue c.raise-id.result
    c.reserve-2.ensures.events_stay
    (c.raise-id.ensures.number ∙ ap (λ (x : TopoView _). x.topology.next_geom) c.reserve.ensures.same)
    c.requires.names c.offer_parts.ensures.made
