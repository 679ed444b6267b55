use Rattle.std.proofs.Common.{sym, subst}
use Rattle.geo_core.specs.Running.{IsMesh}
use Rattle.geo_core.proofs.Meshes.{mesh_stands}
use Rattle.geo_core.proofs.mesh.Mesh.listing.Goals as goal

pub listing-requires : goal.listing-requires
listing-requires c = record {
  stands = mesh_stands c.deref.result.now (subst IsMesh (sym c.deref.ensures) c.self.invariant);
}
