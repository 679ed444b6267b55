use Rattle.geo_laws_graph.proofs.Living.{sound-order, steady-parts}
use Rattle.geo_laws_graph.proofs.lookups.sound_graphs_are_in_order.Goals as goal

pub returns : goal.returns
returns c = record { order = sound-order; parts = steady-parts }
