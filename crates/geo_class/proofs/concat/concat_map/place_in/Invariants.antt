use Rattle.std.proofs.Common.{◌≡◌, ◌<◌, drop, sum}
use Rattle.geo_model.specs.Place.{concat_spot}
use Rattle.geo_class.proofs.concat.concat_map.place_in.Given as goal

-- the offset lies where the part of it that is left lies in the components from this one on
abbrev pub invariant-loop-component : goal.invariant-loop-component
invariant-loop-component l =
    (concat_spot l.component (drop l.component l.sizes) l.left ≡ concat_spot 0 l.sizes l.offset)
    × (l.left < sum (drop l.component l.sizes))
