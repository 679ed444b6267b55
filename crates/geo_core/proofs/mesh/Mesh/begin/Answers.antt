use Rattle.std.proofs.Common.{sym, subst}
use Rattle.geo_core.specs.Mesh.{IsHistory}
use Rattle.geo_core.specs.Running.{seen}
use Rattle.geo_core.specs.declared.running.Running.{Running}
use Rattle.geo_core.proofs.Meshes.{mesh_history}
use Rattle.geo_core.proofs.mesh.Mesh.begin.Goals as goal

pub returns-clause-history : goal.returns-clause-history
returns-clause-history c =
    subst (λ (r : Running). IsHistory (seen r)) (sym c.in_ok-running.ensures.ok)
    (mesh_history c.in_ok-begin.field-0 c.in_ok-begin.ensures.mesh)
