-- Where a bio goes that waits for its disk, handed on to the crates above.
pub use Rattle.geo_moves.specs.Spots.{spot_in, spot_of}
pub use Rattle.geo_moves.specs.declared.spots.Spot.{Spot}
