-- What stands in Frames.
pub use Rattle.geo_laws_life.proofs.Frames.{bare_there, holds_grants, none_holds, none_holds_next, of_taste, stands-at, taster, taster_found, taster_geom, taster_here, tasting}
