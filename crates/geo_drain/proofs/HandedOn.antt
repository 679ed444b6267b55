-- Laws of disks along a log, handed on to the crate of the elevator order, which rests on them too.
pub use Rattle.geo_laws_disks.proofs.Legal.{firm_after, opening_none}
pub use Rattle.geo_laws_disks.proofs.Drives.{opening_disks}
pub use Rattle.geo_laws_disks.proofs.Inside.{disks_are_asked}
