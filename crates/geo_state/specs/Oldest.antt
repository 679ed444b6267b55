-- The first request of an actor's own lines, found from a number on.
use Rattle.std.specs.Prelude.{ℕ, nat_le, Bool, false, ◌&&◌, List, Option, find}
use Rattle.std.specs.Option.{option_map, option_map_or}
use Rattle.geo_model.specs.World.{BioOf, bio_among}
use Rattle.geo_bio.specs.declared.bio.Held.{Held}

-- whether the bio of a number is there and passes
abbrev pub passes : (BioOf Held → Bool) → List (BioOf Held) → ℕ → Bool
passes test bios b = option_map_or test (bio_among bios b) false

-- the number of the first from a number on that passes
abbrev pub first_passing : (BioOf Held → Bool) → List (BioOf Held) → ℕ → Option ℕ
first_passing test bios low = option_map (λ x. x.number) (find (λ x. nat_le low x.number && test x) bios)
