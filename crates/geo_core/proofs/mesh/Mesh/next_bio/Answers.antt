use Rattle.std.proofs.Common.{◌∙◌}
use Rattle.geo_core.proofs.Due.{next_shown}
use Rattle.geo_core.proofs.Meshes.{reads}
use Rattle.geo_core.proofs.mesh.Mesh.next_bio.Goals as goal

pub returns : goal.returns
returns c =
    c.next_from.ensures.first ∙ next_shown (reads c.deref.ensures c.self.view_is c.self.invariant) c.args.from
