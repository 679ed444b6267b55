-- What steps leave of the ways between geoms, handed on to the crates above.
pub use Rattle.geo_laws_steps.specs.WayLaws.{SameMap, sizes_at}
