-- What stands in BioSteps.
pub use Rattle.geo_laws_bios.proofs.BioSteps.{SplitsAt, counted_elsewhere, splits_at, splits_by}
