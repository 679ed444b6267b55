-- The laws of address maps, for components in turn.
use Rattle.std.specs.Prelude.{ℕ, zero, suc, ◌+◌, ◌<◌, ◌≤◌, [], replicate, Some, None, false}
use Rattle.std.specs.List.{AllByRecursion}
use Rattle.std.proofs.Common.{arith}
use Rattle.std.proofs.lemmas.List.{length-replicate}
use Rattle.geo_model.specs.Place.{stripe_spot, strips, cut, Follow, PieceIsPlaced}
use Rattle.geo_model.specs.Topology.{Provider}
use Rattle.geo_model.proofs.PlaceLemmas.{pieces_placed, strips_placed}
use Rattle.geo_model.proofs.PartitionLemmas.{stripe-follow as follow_in_turn}
use Rattle.geo_class.specs.stripe.StripeMap.{StripeView, striped_size}

-- strips of no byte have no range
some_strip : (count stripe smallest o len : ℕ) → 0 < len → o + len ≤ striped_size count stripe smallest → 0 < stripe
some_strip count zero smallest o len some inside = omega (arith, some, inside)
some_strip count (suc s) smallest o len some inside = omega arith

no_provider : Provider
no_provider = record { number = 0; geom = 0; name = []; size = 0; sector = 0; errored = false }

-- the pieces follow each other from the beginning of the range to its end
pub stripe-follow : (map : StripeView) (o len : ℕ) → 0 < len → o + len ≤ striped_size map.count map.stripe map.smallest
    → Follow 0 len (cut o len (strips map.count map.stripe o len))
stripe-follow map o len some inside =
    rw (length-replicate {A = ℕ} map.count 0) at
    (follow_in_turn None map.stripe [] (replicate map.count 0) no_provider o len
    (some_strip map.count map.stripe map.smallest o len some inside) some)

-- each byte of each piece lies where the map says
pub stripe-placed : (map : StripeView) (o len : ℕ)
    → AllByRecursion (PieceIsPlaced (λ at_o. Some (stripe_spot map.count map.stripe at_o)) o)
    (cut o len (strips map.count map.stripe o len))
stripe-placed map o len =
    pieces_placed (λ at_o. Some (stripe_spot map.count map.stripe at_o)) o len (strips map.count map.stripe o len)
    (strips_placed map.count map.stripe o len)
