-- Laws of what is made, handed on to the crates that stand on this one: of first sectors, new slices and the taster.
pub use Rattle.geo_laws_making.proofs.Firsts.{has_sector}
pub use Rattle.geo_laws_making.proofs.NewSlices.{new_few}
pub use Rattle.geo_laws_making.proofs.Tasters.{tasting, taster, taster_found, taster_holds, none_has}
