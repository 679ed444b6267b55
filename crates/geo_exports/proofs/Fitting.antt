-- Sizes that fit the disks of a plan.
use Rattle.std.proofs.Common.{◌≡◌, ◌≤◌, ◌*◌, ℕ, zero, suc, ◌+◌, Bool, true, false, List, [], ◌∷◌, length, take, map, arith, ◌==◌, nat_le, ◌&&◌}
use Rattle.std.specs.List.{AllZip}
use Rattle.std.proofs.lemmas.Bool.{and_parts, eqb-true, leb-true}
use Rattle.std.proofs.lemmas.List.{length-take}
use Rattle.geo_base.specs.declared.limits.TheConstants.{MAX_IMAGE_BYTES}
use Rattle.geo_model.specs.declared.command.DiskDecl.{DiskDecl}
use Rattle.geo_model.specs.declared.command.DiskKind.{DiskKind}
use Rattle.geo_model.specs.declared.command.DiskKind.TheVariants as disk_kinds
use Rattle.geo_model.specs.Plans.{HasPlanSectors, IsFact}
use Rattle.geo_exports.specs.declared.sizes.TzbSize.{TzbSize}
use Rattle.geo_exports.specs.Opening.{fact_of, facts_of, sectors_fit, size_fits, sizes_fit}

-- each disk of sizes that fit has one
sizes_reach : (disks : List DiskDecl) (sizes : List TzbSize) → sizes_fit disks sizes ≡ true
    → length disks ≤ length sizes
sizes_reach [] sizes fit = omega arith
sizes_reach (disk ∷ disks) [] fit = absurd (let no : ⊥ = cc in no)
sizes_reach (disk ∷ disks) (size ∷ sizes) fit =
    let behind = sizes_reach disks sizes (and_parts (size_fits disk size) (sizes_fit disks sizes) fit).1 in omega arith

-- so the sizes of the disks are as many as these
pub sizes_taken : (disks : List DiskDecl) (sizes : List TzbSize) → sizes_fit disks sizes ≡ true
    → length disks ≡ length (take (length disks) sizes)
sizes_taken disks sizes fit =
    let reach = sizes_reach disks sizes fit in omega (arith, length-take (length disks) sizes)

-- a memory disk has the sectors of the header
plan_sectors : (kind : DiskKind) (told given : ℕ) → sectors_fit kind told given ≡ true → HasPlanSectors kind told given
plan_sectors disk_kinds.Ram told given fit = eqb-true given told fit
plan_sectors disk_kinds.Shelf told given fit = tt

-- a size that fits
fitting_fact : (d : DiskDecl) (s : TzbSize) → size_fits d s ≡ true → IsFact d (fact_of s)
fitting_fact d s fit =
    let sector = s.sector == d.sector in
    let sectors = sectors_fit d.kind d.sectors s.sectors in
    let last = and_parts (sector && sectors && nat_le 1 s.sectors) (nat_le (s.sectors * s.sector) MAX_IMAGE_BYTES) fit
    in
    let third = and_parts (sector && sectors) (nat_le 1 s.sectors) last.0 in
    let each = and_parts sector sectors third.0 in
    record {
      sector = eqb-true s.sector d.sector each.0;
      sectors = plan_sectors d.kind d.sectors s.sectors each.1;
      some = leb-true 1 s.sectors third.1;
      limited = leb-true (s.sectors * s.sector) MAX_IMAGE_BYTES last.1;
    }

-- sizes that fit, as the mesh has them
fitting_list : (disks : List DiskDecl) (sizes : List TzbSize) → sizes_fit disks sizes ≡ true
    → AllZip IsFact disks (facts_of disks sizes)
fitting_list [] sizes fit = tt
fitting_list (disk ∷ disks) [] fit = absurd (let no : ⊥ = cc in no)
fitting_list (disk ∷ disks) (size ∷ sizes) fit =
    let each = and_parts (size_fits disk size) (sizes_fit disks sizes) fit in
    (fitting_fact disk size each.0, fitting_list disks sizes each.1)

-- the same of facts that are these
pub fitting_facts : (disks : List DiskDecl) (sizes : List TzbSize) (facts : List (ℕ × ℕ)) → facts ≡ facts_of disks sizes
    → sizes_fit disks sizes ≡ true → AllZip IsFact disks facts
fitting_facts disks sizes facts are fit = rw are (fitting_list disks sizes fit)
