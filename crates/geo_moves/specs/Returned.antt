-- The taste's read that is back: the taste has its result, and gives back what it was granted for it.
use Rattle.std.specs.Prelude.{◌≡◌, ℕ, Bool, true, false, List, Option, Some, None, IsSomeAnd, if◌then◌else◌}
use Rattle.std.specs.Option.{option_map_or}
use Rattle.geo_model.specs.declared.step.BioResult.{BioResult}
use Rattle.geo_model.specs.declared.step.BioResult.TheVariants as results
use Rattle.geo_model.specs.Demand.{no_counts}
use Rattle.geo_model.specs.Topology.{Topology}
use Rattle.geo_model.specs.World.{BioOf, Config, Taste, is_read_out, is_taste_root, bio_among}
use Rattle.geo_bio.specs.declared.bio.Held.{Held}
use Rattle.geo_bio.specs.declared.bio.Risen.{Risen}
use Rattle.geo_bio.specs.declared.bio.Risen.TheVariants as risen
use Rattle.geo_mesh.specs.Topo.{TopoView}
use Rattle.geo_access.specs.Access.{consumers_below}
use Rattle.geo_taste.specs.Taster.{IsTasteOf, with_granted}

-- whether the bio of a number is the taste's read
abbrev pub is_taste_read : List (BioOf Held) → ℕ → Bool
is_taste_read bios b = option_map_or (λ (x : BioOf Held). is_taste_root x.owner) (bio_among bios b) false

-- the result of a root
abbrev pub root_result : Risen → BioResult
root_result (risen.Root got) = got
root_result (risen.InParent parent complete) = results.Done

-- a taste is under way whose read is out
abbrev pub IsReading : TopoView Config → Option Taste → Type 0
IsReading t o = IsSomeAnd o (λ s. IsTasteOf t s × (is_read_out s.asked ≡ true))

-- the mesh after the taste gave back what it was granted
abbrev pub given_back : TopoView Config → Option Taste → TopoView Config
given_back t None = t
given_back t (Some s) = with_granted t s.consumer no_counts

-- the steps of that: for each consumer below the tasted provider
abbrev pub steps_back : Topology Config → Option Taste → ℕ
steps_back t o = option_map_or (λ (s : Taste). consumers_below t s.provider) o 0

-- the steps of an Up of a bio: the taste's read is of the tasted provider, and no other gives anything back
abbrev pub steps_up : Topology Config → Option (BioOf Held) → ℕ
steps_up t o = option_map_or (λ (x : BioOf Held). if is_taste_root x.owner then consumers_below t x.target else 0) o 0
