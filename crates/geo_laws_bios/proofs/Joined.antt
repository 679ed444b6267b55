-- What stands in Serving.
pub use Rattle.geo_laws_bios.proofs.Serving.{got, no_pieces, not_nothing}
