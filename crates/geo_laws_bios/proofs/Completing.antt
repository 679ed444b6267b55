-- What stands in Ascending.
pub use Rattle.geo_laws_bios.proofs.Ascending.{not_own_child, risen}
