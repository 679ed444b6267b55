-- The laws of address maps, for a provider that lies in one component.
use Rattle.std.specs.Prelude.{◌≡◌, ℕ, ◌+◌, ◌<◌, ◌≤◌}
use Rattle.std.specs.List.{AllByRecursion}
use Rattle.std.proofs.Common.{refl, arith}
use Rattle.geo_model.specs.Place.{window, cut, Follow, PieceIsPlaced}
use Rattle.geo_model.proofs.PlaceLemmas.{pieces_placed}
use Rattle.geo_model.proofs.PartitionLemmas.{whole-follow}
use Rattle.geo_class.specs.Window.{WindowView, window_spot, window_stretches}

-- the pieces follow each other from the beginning of the range to its end
pub window-follow : (w : WindowView) (o len : ℕ) → 0 < len → o + len ≤ w.size
    → Follow 0 len (cut o len (window_stretches w o len))
window-follow w o len some inside = whole-follow o len w.size (window w.start w.size) refl refl inside some

-- each byte of each piece lies where the map says
pub window-placed : (w : WindowView) (o len : ℕ)
    → AllByRecursion (PieceIsPlaced (window_spot w) o) (cut o len (window_stretches w o len))
window-placed w o len =
    pieces_placed (window_spot w) o len (window_stretches w o len)
    ((λ j below. let a : w.start + (0 + j) ≡ w.start + j = omega arith in rw a refl), tt)
