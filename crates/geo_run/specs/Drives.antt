-- A drive as contracts see it, and what all drives do along a log.
use Rattle.std.specs.Prelude.{ℕ, ◌+◌, List, [], ◌∷◌, Option, Some, None, ⊤}
use Rattle.geo_model.specs.declared.command.DiskKind.{DiskKind}
use Rattle.geo_model.specs.declared.command.DiskKind.TheVariants as disk_kinds
use Rattle.geo_model.specs.declared.step.Entry.{Entry}
use Rattle.geo_serve.specs.Served.{IsServed}
pub use Rattle.geo_serve.specs.Drives.{DriveView, drive_view, fails_of}

-- a drive tells which of its calls are to fail exactly where it is in memory
abbrev pub kind_by : Option (List ℕ) → DiskKind
kind_by (Some fails) = disk_kinds.Ram
kind_by None = disk_kinds.Shelf

-- whether a drive is in memory or of a shelf
abbrev pub drive_kind : DriveView → DiskKind
drive_kind x = kind_by (fails_of x)

-- the size of a drive: the bytes of a sector, and the sectors
abbrev pub size_of : DriveView → ℕ × ℕ
size_of x = (x.sector, x.count)

-- the drives of the disks from this number on served what the log says
abbrev pub ServeAll : List Entry → ℕ → List DriveView → List DriveView → Type 0
ServeAll log n [] [] = ⊤
ServeAll log n [] (y ∷ ys) = ⊥
ServeAll log n (x ∷ xs) [] = ⊥
ServeAll log n (x ∷ xs) (y ∷ ys) = IsServed log n x y × ServeAll log (n + 1) xs ys
