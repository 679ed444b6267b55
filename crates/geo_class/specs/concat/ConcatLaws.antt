-- The laws of address maps, for components one behind the other.
use Rattle.std.specs.Prelude.{ℕ, ◌+◌, ◌<◌, ◌≤◌, [], sum, None, false}
use Rattle.std.specs.List.{AllByRecursion}
use Rattle.geo_model.specs.Place.{concat_spot, concat_stretches, cut, Follow, PieceIsPlaced}
use Rattle.geo_model.specs.Topology.{Provider}
use Rattle.geo_model.proofs.PlaceLemmas.{pieces_placed, concat_placed}
use Rattle.geo_model.proofs.PartitionLemmas.{concat-follow as follow_in_order}
use Rattle.geo_class.specs.concat.ConcatMap.{ConcatView}

no_provider : Provider
no_provider = record { number = 0; geom = 0; name = []; size = 0; sector = 0; errored = false }

-- the pieces follow each other from the beginning of the range to its end
pub concat-follow : (map : ConcatView) (o len : ℕ) → 0 < len → o + len ≤ sum map.sizes
    → Follow 0 len (cut o len (concat_stretches 0 0 map.sizes))
concat-follow map o len some inside = follow_in_order None [] map.sizes no_provider o len inside

-- each byte of each piece lies where the map says
pub concat-placed : (map : ConcatView) (o len : ℕ)
    → AllByRecursion (PieceIsPlaced (concat_spot 0 map.sizes) o) (cut o len (concat_stretches 0 0 map.sizes))
concat-placed map o len = pieces_placed (concat_spot 0 map.sizes) o len (concat_stretches 0 0 map.sizes)
    (concat_placed map.sizes)
