use Rattle.std.proofs.Common.{◌∙◌}
use Rattle.geo_core.proofs.Meshes.{mesh_stands, reads}
use Rattle.geo_core.proofs.Due.{none_told}
use Rattle.geo_core.proofs.Applying.{enabled_is}
use Rattle.geo_core.proofs.mesh.Mesh.enabled.Goals as goal

pub found_against-requires-clause-stands : goal.found_against-requires-clause-stands
found_against-requires-clause-stands c =
    mesh_stands c.deref-running.result.now (reads c.deref-running.ensures c.self.view_is c.self.invariant).is

-- a step is enabled in the world of the log where nothing is against it in that of the state
pub returns : goal.returns
returns c =
    none_told c.found_against.result c.is_none.result c.is_none.ensures
    ∙ enabled_is (reads c.deref-running.ensures c.self.view_is c.self.invariant) c.args.seat c.args.step.now
    c.found_against.result c.found_against.ensures
