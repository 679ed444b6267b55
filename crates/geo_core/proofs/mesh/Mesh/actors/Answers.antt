use Rattle.std.proofs.Common.{◌∙◌, ap, length, List}
use Rattle.geo_base.specs.declared.name.Name.{Name}
use Rattle.geo_core.proofs.Meshes.{mesh_actors, reads}
use Rattle.geo_core.proofs.mesh.Mesh.actors.Goals as goal

-- each actor of the plan has a list of commands in the world, and no step takes one away
pub returns : goal.returns
returns c =
    ap (λ (names : List Name). length names) c.actors.ensures.actors
    ∙ mesh_actors (reads c.deref.ensures c.self.view_is c.self.invariant)
