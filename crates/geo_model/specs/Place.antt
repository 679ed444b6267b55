-- Address maps: where an offset of a provider lies (geom(4)).
use Rattle.geo_model.specs.Words.{◌>>=◌}
use Rattle.std.specs.Prelude.{◌≡◌, ◌<◌, ℕ, zero, suc, ◌+◌, ◌-◌, ◌*◌, ◌/◌, ◌%◌, ◌==◌, nat_lt, min, max, List, [], ◌∷◌, length, map, flat_map, filter_map, fold, Option, Some, None, slice_get, if◌then◌else◌}
use Rattle.std.specs.List.{range_with_len, last_or}
use Rattle.std.specs.Option.{option_map, option_map_or, option_and_then, option_to_list, option_flatten}
use Rattle.geo_model.specs.declared.class.EbrPart.{EbrPart}
use Rattle.geo_model.specs.declared.class.Slice.{Slice}
use Rattle.geo_model.specs.declared.span.Piece.{Piece}
use Rattle.geo_model.specs.declared.span.Stretch.{Stretch}
use Rattle.geo_model.specs.Topology.{Topology, Provider, provider_of_consumer, provider_with_geom}
use Rattle.geo_model.specs.ScriptWords.{is_digit}
use Rattle.geo_model.specs.World.{Config, Nothing, Disk, Mbr, Ebr, Label, Concat, Stripe, Nop}

-- a component of a geom, from 0, and an offset in the provider below it
pub record Spot : Type 0 where
  pub component : ℕ
  pub offset : ℕ

-- the place of a provider of an MBR geom in its table: the last byte of its name, from `1` on
abbrev pub slice_place : List ℕ → ℕ
slice_place name = option_map_or (λ b. b - 49) (last_or None name) 0

abbrev pub slice_at : List (Option Slice) → List ℕ → Option Slice
slice_at slices name = option_flatten (slice_get slices (slice_place name))

-- the decimal number at the end of a name
abbrev pub end_number : List ℕ → ℕ
end_number name = fold (λ n b. if is_digit b then 10 * n + (b - 48) else 0) 0 name

-- the partition of a provider of an EBR geom: the number at the end of its name tells its link, from 1 on
abbrev pub part_at : List (Option EbrPart) → List ℕ → Option EbrPart
part_at parts name = option_flatten (slice_get parts (end_number name - 1))

-- the component whose range holds the offset, counted from k, at the offset less the sizes before it
abbrev pub concat_spot : ℕ → List ℕ → ℕ → Option Spot
concat_spot k [] o = None
concat_spot k (size ∷ sizes) o =
    if nat_lt o size then Some (record { component = k; offset = o }) else concat_spot (k + 1) sizes (o - size)

-- strip number o / stripe goes to the components in turn
abbrev pub stripe_spot : ℕ → ℕ → ℕ → Spot
stripe_spot n stripe o = record { component = (o / stripe) % n; offset = ((o / stripe) / n) * stripe + o % stripe }

-- where an offset of a provider with this name lies, by the configuration of its geom
abbrev pub place : Config → List ℕ → ℕ → Option Spot
place Nothing name o = None
place (Disk disk) name o = None
place (Mbr below slices) name o =
    option_map (λ s. record { component = 0; offset = s.first * 512 + o }) (slice_at slices name)
place (Ebr below parts) name o =
    option_map (λ s. record { component = 0; offset = s.first * 512 + o }) (part_at parts name)
place (Label below) name o = Some (record { component = 0; offset = o })
place (Concat id places sizes) name o = concat_spot 0 sizes o
place (Stripe id stripe places sizes) name o = Some (stripe_spot (length sizes) stripe o)
place (Nop below offset fail) name o = Some (record { component = 0; offset = offset + o })

-- the consumers at the places of a geom, in component order
abbrev pub components : Config → List ℕ
components Nothing = []
components (Disk disk) = []
components (Mbr below slices) = option_to_list below
components (Ebr below parts) = option_to_list below
components (Label below) = option_to_list below
components (Concat id places sizes) = flat_map option_to_list places
components (Stripe id stripe places sizes) = flat_map option_to_list places
components (Nop below offset fail) = option_to_list below

-- the consumer at a place of a geom
abbrev pub component : Config → ℕ → Option ℕ
component Nothing k = None
component (Disk disk) k = None
component (Mbr below slices) k = if k == 0 then below else None
component (Ebr below parts) k = if k == 0 then below else None
component (Label below) k = if k == 0 then below else None
component (Concat id places sizes) k = option_flatten (slice_get places k)
component (Stripe id stripe places sizes) k = option_flatten (slice_get places k)
component (Nop below offset fail) k = if k == 0 then below else None

-- the disk of a DISK geom
abbrev pub disk_of : Config → Option ℕ
disk_of (Disk disk) = Some disk
disk_of _ = None

-- a sector of a disk
pub record DiskSector : Type 0 where
  pub disk : ℕ
  pub sector : ℕ

-- the provider below a place
abbrev pub provider_below : Topology Config → Config → Spot → Option ℕ
provider_below t config spot = option_and_then (provider_of_consumer t) (component config spot.component)

-- one level of the way down, where below tells of the providers further down
abbrev pub flat_step : (ℕ → ℕ → Option DiskSector) → Topology Config → Config → Provider → ℕ → Option DiskSector
flat_step below t (Disk disk) x o = Some (record { disk = disk; sector = o / x.sector })
flat_step below t config x o = do
  spot ← place config x.name o
  under ← provider_below t config spot
  below under spot.offset

-- where an offset of a provider lies in the end, over so many levels
abbrev pub flat_within : ℕ → Topology Config → ℕ → ℕ → Option DiskSector
flat_within zero t p o = None
flat_within (suc levels) t p o = do
  here ← provider_with_geom t p
  flat_step (flat_within levels t) t here.1.config here.0 o

-- the sector of a disk that holds an offset of a provider
abbrev pub flat : Topology Config → ℕ → ℕ → Option DiskSector
flat t p o = flat_within (length t.geoms) t p o

-- one level of the way down to the disks
abbrev pub ends_step : (ℕ → List ℕ) → Topology Config → Config → List ℕ
ends_step below t (Disk disk) = disk ∷ []
ends_step below t config = flat_map below (filter_map (provider_of_consumer t) (components config))

-- the disks that are reached downwards from a provider over so many levels
abbrev pub ends_within : ℕ → Topology Config → ℕ → List ℕ
ends_within zero t p = []
ends_within (suc levels) t p =
    option_map_or (λ here. ends_step (ends_within levels t) t here.1.config) (provider_with_geom t p) []

-- the disks that are reached downwards from a provider, one for each path, in component order
abbrev pub ends : Topology Config → ℕ → List ℕ
ends t p = ends_within (length t.geoms) t p

-- Pieces of a request

-- the ranges of the components of a concat, counted from k, the first beginning at start
abbrev pub concat_stretches : ℕ → ℕ → List ℕ → List Stretch
concat_stretches k start [] = []
concat_stretches k start (size ∷ sizes) =
    record { start = start; len = size; component = k; offset = 0 } ∷ concat_stretches (k + 1) (start + size) sizes

-- one strip
abbrev pub strip : ℕ → ℕ → ℕ → Stretch
strip n stripe j = record { start = j * stripe; len = stripe; component = j % n; offset = (j / n) * stripe }

-- so many bytes that lie in one component, from an offset there
abbrev pub window : ℕ → ℕ → Stretch
window offset size = record { start = 0; len = size; component = 0; offset = offset }

-- the strips that a range touches
abbrev pub strips : ℕ → ℕ → ℕ → ℕ → List Stretch
strips n stripe o len = map (strip n stripe) (range_with_len (o / stripe) ((o + len - 1) / stripe + 1 - o / stripe))

-- the stretches of a provider that a range of it can touch, in order
abbrev pub stretches : Config → Provider → ℕ → ℕ → List Stretch
stretches Nothing x o len = []
stretches (Disk disk) x o len = []
stretches (Mbr below slices) x o len =
    option_map_or (λ s. window (s.first * 512) x.size ∷ []) (slice_at slices x.name) []
stretches (Ebr below parts) x o len =
    option_map_or (λ s. window (s.first * 512) x.size ∷ []) (part_at parts x.name) []
stretches (Label below) x o len = window 0 x.size ∷ []
stretches (Concat id places sizes) x o len = concat_stretches 0 0 sizes
stretches (Stripe id stripe places sizes) x o len = strips (length sizes) stripe o len
stretches (Nop below offset fail) x o len = window offset x.size ∷ []

-- the part of a range that lies in a stretch, if there is any
abbrev pub piece_in : ℕ → ℕ → Stretch → Option Piece
piece_in o len s =
    let from_here = max o s.start in
    let to_here = min (o + len) (s.start + s.len) in
    if nat_lt from_here to_here
    then Some (record {
      child = s.component;
      span =
          record { offset = s.offset + (from_here - s.start); len = to_here - from_here };
      at = from_here - o;
    })
    else None

-- a range, cut at the end of each stretch
abbrev pub cut : ℕ → ℕ → List Stretch → List Piece
cut o len stretches = filter_map (piece_in o len) stretches

-- a range of a provider, cut at each component's end and at each strip's end
abbrev pub pieces : Config → Provider → ℕ → ℕ → List Piece
pieces config x o len = cut o len (stretches config x o len)

-- What holds of pieces

-- a stretch, and a piece of a request at o, lie in their component as the map says
abbrev pub StretchIsPlaced : (ℕ → Option Spot) → Stretch → Type 0
StretchIsPlaced at_offset s =
    (j : ℕ) → j < s.len → at_offset (s.start + j) ≡ Some (record { component = s.component; offset = s.offset + j })

abbrev pub PieceIsPlaced : (ℕ → Option Spot) → ℕ → Piece → Type 0
PieceIsPlaced at_offset o x =
    (j : ℕ) → j < x.span.len
    → at_offset (o + x.at + j) ≡ Some (record { component = x.child; offset = x.span.offset + j })

-- pieces that aren't empty follow each other from a place of the request to another
abbrev pub Follow : ℕ → ℕ → List Piece → Type 0
Follow a b [] = a ≡ b
Follow a b (x ∷ xs) = (x.at ≡ a) × (0 < x.span.len) × Follow (a + x.span.len) b xs
