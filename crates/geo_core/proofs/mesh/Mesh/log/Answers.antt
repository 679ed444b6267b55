use Rattle.geo_core.proofs.Meshes.{kept_history}
use Rattle.geo_core.proofs.mesh.Mesh.log.Goals as goal

pub returns-clause-history : goal.returns-clause-history
returns-clause-history c = kept_history c.self.view_is c.self.invariant
