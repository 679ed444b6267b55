-- The maps of an EBR geom are the model's.
use Rattle.std.specs.Prelude.{◌≡◌, ℕ, ◌*◌, List, Option, Some}
use Rattle.geo_model.specs.declared.class.EbrPart.{EbrPart}
use Rattle.geo_model.specs.Place.{place, part_at, pieces, cut}
use Rattle.geo_model.specs.Topology.{Provider}
use Rattle.geo_model.specs.World.{Ebr}
use Rattle.geo_class.specs.Window.{WindowView, window_spot, window_stretches}

-- the map of a partition
abbrev pub map_of : EbrPart → WindowView
map_of part = record { start = part.first * 512; size = part.count * 512; sector = 512 }

-- each offset and each range of a partition's provider lie where the partition's map says
pub record IsMapOf (below : Option ℕ) (parts : List (Option EbrPart)) (x : Provider) (part : EbrPart) : Type 0 where
  pub places : (o : ℕ) → place (Ebr below parts) x.name o ≡ window_spot (map_of part) o
  pub cuts : (o len : ℕ) → pieces (Ebr below parts) x o len ≡ cut o len (window_stretches (map_of part) o len)

abbrev pub MapsAreTheModels : Type 0
MapsAreTheModels =
    (below : Option ℕ) (parts : List (Option EbrPart)) (x : Provider) (part : EbrPart)
    → part_at parts x.name ≡ Some part → x.size ≡ part.count * 512 → IsMapOf below parts x part
