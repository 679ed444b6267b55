-- What the run of a plan needs and gives, where the disks are read from the plan.
use Rattle.std.proofs.Common.{◌≡◌, ℕ, List, map, sym, subst, All}
use Rattle.std.proofs.lemmas.List.Elements.{recursion_from_All}
use Rattle.geo_model.specs.declared.command.DiskDecl.{DiskDecl}
use Rattle.geo_model.specs.World.{Plan}
use Rattle.geo_model.specs.Plans.{FactsFit, IsDiskDecl, IsPlan}
use Rattle.geo_headline.specs.Outside.{ShelfView}
use Rattle.geo_run.specs.Drives.{DriveView, size_of}
use Rattle.geo_run.specs.Lending.{AreApart, AreOut, OpensDrives, names_of}
use Rattle.geo_run.proofs.Taking.{each_had}
use Rattle.geo_run.proofs.Outs.{taken_out}
use Rattle.geo_run.proofs.Planned.{facts_had}
use Rattle.geo_run.proofs.Endings.{apart_of}

-- the names of the disks of a plan differ
pub names_apart : (plan : Plan) (ds : List DiskDecl) → IsPlan plan → ds ≡ plan.disks → AreApart (names_of ds)
names_apart plan ds is e = subst (λ (es : List DiskDecl). AreApart (names_of es)) (sym e) (apart_of plan is)

-- each is a declaration
pub decls_all : (plan : Plan) (ds : List DiskDecl) → IsPlan plan → ds ≡ plan.disks → All IsDiskDecl ds
decls_all plan ds is e = subst (λ (es : List DiskDecl). All IsDiskDecl es) (sym e) is.begins.disks

-- the sizes of the drives fit the plan
pub sizes_fit : (plan : Plan) (ds : List DiskDecl) (xs : List DriveView) (a m : ShelfView) → IsPlan plan
    → ds ≡ plan.disks
    → OpensDrives a ds xs m → FactsFit plan (map size_of xs)
sizes_fit plan ds xs a m is e opens =
    let moved : OpensDrives a plan.disks xs m = subst (λ (es : List DiskDecl). OpensDrives a es xs m) e opens in
    facts_had a m plan.disks xs (recursion_from_All IsDiskDecl plan.disks is.begins.disks)
    (each_had a m plan.disks xs (apart_of plan is) moved)

-- drives that were taken are out
pub drives_out : (plan : Plan) (ds : List DiskDecl) (names : List (List ℕ)) (xs : List DriveView) (a m : ShelfView)
    → IsPlan plan → ds ≡ plan.disks → names ≡ names_of ds → OpensDrives a ds xs m → AreOut m names xs
drives_out plan ds names xs a m is e named opens = taken_out ds names xs a m (names_apart plan ds is e) named opens
