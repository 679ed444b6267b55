use Rattle.geo_core.proofs.Meshes.{mesh_history}
use Rattle.geo_core.proofs.mesh.Mesh.apply.Goals as goal

pub returns-clause-history : goal.returns-clause-history
returns-clause-history c = mesh_history c.apply.new.running c.apply.ensures.mesh
