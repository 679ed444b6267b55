-- What drives did by the entries of a log, and what was asked of them, handed on to the crates above.
pub use Rattle.geo_laws_disks.proofs.Drives.{served_none, served_other, served_own, served_quiet}
pub use Rattle.geo_laws_disks.proofs.Requests.{taken_more}
pub use Rattle.geo_laws_disks.proofs.Seats.{request_among, taken_once}
