-- The first consumer of that side among those left is the first of all.
use Rattle.std.proofs.Common.{◌≡◌, ◌-◌, option_map}
use Rattle.std.specs.Prelude.{find, not, ◌==◌, ◌&&◌}
use Rattle.geo_laws_graph.specs.LookupLaws.{left_from}
use Rattle.geo_model.specs.Topology.{Consumer, attached_to}
use Rattle.geo_access.specs.Views.{raised, has_side, other}
use Rattle.geo_access.proofs.decide.other.Given as goal

abbrev pub invariant-loop-id : goal.invariant-loop-id
invariant-loop-id g l =
    option_map (λ (c : Consumer). c.number)
    (find (λ c. not (c.number == l.but) && has_side l.side (raised l.topo c))
    (left_from (λ y. y.number) l.from (attached_to l.topo.topology l.prov)))
    ≡ other l.topo l.prov l.but l.side

abbrev pub decreases-loop-id : goal.decreases-loop-id
decreases-loop-id g l = l.topo.topology.next_consumer - l.from
