-- The geoms of the class and of the name that the walk met so far aren't of the assembly.
use Rattle.std.proofs.Common.{◌≡◌, ◌-◌, find}
use Rattle.geo_laws_graph.specs.LookupLaws.{left_from}
use Rattle.geo_taste.specs.Joining.{is_of_assembly}
use Rattle.geo_taste.proofs.JoinLemmas.{named_geoms}
use Rattle.geo_taste.proofs.standing.standing_geom.Given as goal

abbrev pub invariant-loop-id : goal.invariant-loop-id
invariant-loop-id l =
    find (is_of_assembly l.member.geom_name l.member.empty)
    (left_from (λ g. g.number) l.from (named_geoms l.member.kind l.member.geom_name l.topo.topology.geoms))
    ≡ find (is_of_assembly l.member.geom_name l.member.empty)
    (named_geoms l.member.kind l.member.geom_name l.topo.topology.geoms)

abbrev pub decreases-loop-id : goal.decreases-loop-id
decreases-loop-id l = l.topo.topology.next_geom - l.from
