-- The first unused provider of those that are left is the first of all.
use Rattle.std.proofs.Common.{◌≡◌, ◌-◌, length}
use Rattle.std.specs.Prelude.{find, option_map, ◌==◌}
use Rattle.geo_model.specs.Topology.{Provider, attached_to, providers_of}
use Rattle.geo_laws_graph.specs.LookupLaws.{left_from}
use Rattle.geo_life.proofs.washes.free_provider.Given as goal

abbrev pub invariant-loop-id : goal.invariant-loop-id
invariant-loop-id g l =
    option_map (λ (p : Provider). p.number)
    (find (λ p. length (attached_to l.topo.topology p.number) == 0)
    (left_from (λ (p : Provider). p.number) l.from (providers_of l.topo.topology l.geom)))
    ≡ option_map (λ (p : Provider). p.number)
    (find (λ p. length (attached_to l.topo.topology p.number) == 0) (providers_of l.topo.topology l.geom))

abbrev pub decreases-loop-id : goal.decreases-loop-id
decreases-loop-id g l = l.topo.topology.next_provider - l.from
