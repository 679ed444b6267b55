pub mod Front
pub mod Lists
pub mod Disks
pub mod Heads
pub mod Following
pub mod Gathering
pub mod Due
-- handed on to the crates above, which run a mesh to rest in either order
pub use Rattle.geo_drain.specs.Meshes
pub use Rattle.geo_drain.specs.Drain
pub use Rattle.geo_drain.specs.declared.refusal.DrainRefusal
