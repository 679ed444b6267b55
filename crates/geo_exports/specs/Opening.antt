-- How a handle is opened.
use Rattle.std.specs.Prelude.{◌≡◌, ◌⊎◌, ◌*◌, ℕ, ℤ, ◌==◌, nat_le, Bool, true, false, ◌&&◌, List, [], ◌∷◌, map, take, length, Option, Some, None}
use Rattle.geo_base.specs.declared.limits.TheConstants.{MAX_IMAGE_BYTES}
use Rattle.geo_model.specs.declared.command.DiskDecl.{DiskDecl}
use Rattle.geo_model.specs.declared.command.DiskKind.{DiskKind}
use Rattle.geo_model.specs.declared.command.DiskKind.TheVariants as disk_kinds
use Rattle.geo_model.specs.Opening.{opening}
use Rattle.geo_model.specs.World.{Plan}
use Rattle.geo_session.specs.Session.{without_commands}
use Rattle.geo_tags.specs.Tags.{TaggedView}
use Rattle.geo_exports.specs.declared.codes.TheConstants.{OK, OPEN}
use Rattle.geo_exports.specs.declared.refusal.Refusal.{Refusal}
use Rattle.geo_exports.specs.declared.refusal.Refusal.TheVariants as refusals
use Rattle.geo_exports.specs.declared.sizes.TzbSize.{TzbSize}
use Rattle.geo_exports.specs.Texts.{IsPlanOf, IsUnread, fault_line, refusal_code}

-- a memory disk has the sectors of the header
abbrev pub sectors_fit : DiskKind → ℕ → ℕ → Bool
sectors_fit disk_kinds.Ram told given = given == told
sectors_fit disk_kinds.Shelf told given = true

-- the size of a disk fits its line of the header: the same sector, at least one of them, and at most 2^40 bytes
abbrev pub size_fits : DiskDecl → TzbSize → Bool
size_fits disk size = (size.sector == disk.sector) && sectors_fit disk.kind disk.sectors size.sectors
    && nat_le 1 size.sectors && nat_le (size.sectors * size.sector) MAX_IMAGE_BYTES

-- each disk has a size, in the order of the header, that fits; what stands behind the last disk's isn't looked at
abbrev pub sizes_fit : List DiskDecl → List TzbSize → Bool
sizes_fit [] sizes = true
sizes_fit (disk ∷ disks) [] = false
sizes_fit (disk ∷ disks) (size ∷ sizes) = size_fits disk size && sizes_fit disks sizes

abbrev pub SizesFit : Plan → List TzbSize → Type 0
SizesFit plan sizes = sizes_fit plan.disks sizes ≡ true

-- a size as the mesh has it: the sector, and how many there are
abbrev pub fact_of : TzbSize → ℕ × ℕ
fact_of size = (size.sector, size.sectors)

-- the sizes of the disks
abbrev pub facts_of : List DiskDecl → List TzbSize → List (ℕ × ℕ)
facts_of disks sizes = map fact_of (take (length disks) sizes)

-- the live mesh that a plan's header begins over disks of these sizes
abbrev pub begun : Plan → List (ℕ × ℕ) → TaggedView
begun plan facts = record {
  session = record { world = opening (without_commands plan) facts; steps = 0; generation = 0 };
  tokens = [];
  next_tag = 0;
}

-- what a plan's header begins over sizes, which fit it
abbrev pub Begins : Plan → List TzbSize → TaggedView → Type 0
Begins plan sizes new = SizesFit plan sizes × (new ≡ begun plan (facts_of plan.disks sizes))

-- why a plan's header begins nothing: the sizes don't fit it, or memory was wanting where they do
abbrev pub IsUnbegun : Refusal → Plan → List TzbSize → Type 0
IsUnbegun refusals.Sizes plan sizes = sizes_fit plan.disks sizes ≡ false
IsUnbegun refusals.NoMemory plan sizes = SizesFit plan sizes
IsUnbegun _ plan sizes = ⊥

-- what a text begins over sizes: it is read, and its header begins that
abbrev pub BeginsBy : List ℕ → List TzbSize → TaggedView → Type 0
BeginsBy text sizes new = (plan : Plan) × IsPlanOf text plan × Begins plan sizes new

-- why a text begins nothing: it isn't read, or its header begins nothing
abbrev pub IsUnopened : Refusal → List ℕ → List TzbSize → Type 0
IsUnopened refusal text sizes =
    IsUnread refusal text ⊎ ((plan : Plan) × IsPlanOf text plan × IsUnbegun refusal plan sizes)

-- a handle that is open stays as it was, and one that is closed is opened or stays closed
abbrev pub Opens : ℤ → ℕ → List ℕ → List TzbSize → Option TaggedView → Option TaggedView → Type 0
Opens code fault text sizes (Some old) new = (code ≡ OPEN) × (fault ≡ 0) × (new ≡ Some old)
Opens code fault text sizes None (Some new) = (code ≡ OK) × (fault ≡ 0) × BeginsBy text sizes new
Opens code fault text sizes None None = (refusal : Refusal) × IsUnopened refusal text sizes
    × (code ≡ refusal_code refusal) × (fault ≡ fault_line refusal)
