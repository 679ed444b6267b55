-- What stands in Ascending.
pub use Rattle.geo_laws_bios.proofs.Ascending.{root_no_child}
