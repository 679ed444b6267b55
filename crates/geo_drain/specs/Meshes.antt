-- The mesh as contracts see it, and where its bios wait, handed on to the crates above that drive it.
pub use Rattle.geo_core.specs.Mesh.{MeshView, IsHistory, opened, world_of}
pub use Rattle.geo_core.specs.Sent.{spot_in, spot_of, Spot}
