-- What stands in Turned.
pub use Rattle.geo_laws_bios.proofs.Turned.{found_there, sent_disk}
