-- What stands in Turned.
pub use Rattle.geo_laws_bios.proofs.Turned.{CanDeliver, CanTake, can_deliver, can_take, fitting_result}
