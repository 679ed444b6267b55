-- What stands in Pieces.
pub use Rattle.geo_laws_bios.proofs.Pieces.{component-among}
