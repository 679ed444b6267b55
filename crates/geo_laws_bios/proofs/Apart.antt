-- What stands in Turned.
pub use Rattle.geo_laws_bios.proofs.Turned.{bios_are_apart, commands_are_apart}
