-- What stands in Splitting.
pub use Rattle.geo_laws_bios.proofs.Splitting.{all_go, some_go}
