-- The earliest of the actors that were met, which are those from here on.
use Rattle.std.proofs.Common.{◌≡◌}
use Rattle.geo_core.specs.Mesh.{world_of}
use Rattle.geo_drain.proofs.Lines.{earliest_from}
use Rattle.geo_drain.proofs.picking.earliest.Given as goal

abbrev pub invariant-loop-actor : goal.invariant-loop-actor
invariant-loop-actor l = l.best ≡ earliest_from (world_of l.mesh) l.actor
