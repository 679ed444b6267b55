-- One of those that are left has a count just where one of all has.
use Rattle.std.proofs.Common.{◌≡◌, ◌-◌}
use Rattle.geo_model.specs.GeomCommands.{is_in_use}
use Rattle.geo_access.specs.Access.{granted_by}
use Rattle.geo_moves.proofs.Walking.{used_left}
use Rattle.geo_moves.proofs.uses.is_in_use.Given as goal

abbrev pub invariant-loop-id : goal.invariant-loop-id
invariant-loop-id l =
    used_left l.topo l.geom l.from ≡ is_in_use (granted_by l.topo) l.topo.topology l.geom

abbrev pub decreases-loop-id : goal.decreases-loop-id
decreases-loop-id l = l.topo.topology.next_provider - l.from
