use Rattle.geo_core.proofs.Meshes.{mesh_history}
use Rattle.geo_core.proofs.mesh.Mesh.make.Goals as goal

pub returns-clause-history : goal.returns-clause-history
returns-clause-history c = mesh_history c.advance.new.running c.advance.ensures.mesh
