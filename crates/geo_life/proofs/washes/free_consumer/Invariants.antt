-- The first idle consumer of those that are left is the first of all.
use Rattle.std.proofs.Common.{◌≡◌, ◌-◌, ℕ}
use Rattle.std.specs.Prelude.{find, option_map}
use Rattle.geo_base.specs.declared.request.Counts.{Counts}
use Rattle.geo_model.specs.Topology.{Consumer, consumers_of}
use Rattle.geo_model.specs.Freeing.{is_idle}
use Rattle.geo_laws_graph.specs.LookupLaws.{left_from}
use Rattle.geo_life.specs.Life.{AreStored, is_out}
use Rattle.geo_life.proofs.washes.free_consumer.Given as goal

abbrev pub invariant-loop-id : goal.invariant-loop-id
invariant-loop-id g l =
    (granted : ℕ → Counts) → AreStored granted l.topo
    → option_map (λ (c : Consumer). c.number)
    (find (is_idle granted (is_out l.topo) l.topo.topology)
    (left_from (λ (c : Consumer). c.number) l.from (consumers_of l.topo.topology l.geom)))
    ≡ option_map (λ (c : Consumer). c.number)
    (find (is_idle granted (is_out l.topo) l.topo.topology) (consumers_of l.topo.topology l.geom))

abbrev pub decreases-loop-id : goal.decreases-loop-id
decreases-loop-id g l = l.topo.topology.next_consumer - l.from
