-- What stands in Picking.
pub use Rattle.geo_laws_rest.proofs.Picking.{free_by, no_bios}
