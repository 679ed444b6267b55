-- A drive, by the disk that it holds.
use Rattle.std.specs.Prelude.{◌≡◌, length, IfSome, refl}
use Rattle.geo_disk.specs.Disk.{DiskView}
use Rattle.geo_disk.specs.Memory.{Memory, memory_view}
use Rattle.geo_disk.specs.declared.drive.Drive.{Drive}
use Rattle.geo_disk.specs.declared.drive.Drive.TheVariants.{Ram, Shelved}

-- a drive is seen as the disk that it holds
abbrev pub view_by : {D : Type 0} → (D → DiskView) → Drive D → DiskView
view_by view (Ram disk) = memory_view disk
view_by view (Shelved disk) = view disk

-- the sectors that a drive tells are as many as it has, where those of the disk that it holds are
pub counted_by : {D : Type 0} (view : D → DiskView)
    → ((d : D) → IfSome (view d).held (λ sectors. length sectors ≡ (view d).count))
    → (drive : Drive D) → IfSome (view_by view drive).held (λ sectors. length sectors ≡ (view_by view drive).count)
counted_by view counted (Ram disk) = refl
counted_by view counted (Shelved disk) = counted disk

-- a drive keeps its kind, and where it is in memory, the fact holds of the disk before and after
abbrev pub IfRam : {D : Type 0} → Drive D → Drive D → (Memory → Memory → Type 0) → Type 0
IfRam (Ram old) (Ram new) P = P old new
IfRam (Ram old) (Shelved new) P = ⊥
IfRam (Shelved old) (Ram new) P = ⊥
IfRam (Shelved old) (Shelved new) P = Unit {0}
