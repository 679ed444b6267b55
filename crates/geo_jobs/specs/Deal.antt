-- Drives that are dealt to two disk workers, and gathered again.
use Rattle.std.specs.Prelude.{ℕ, ◌+◌, ◌%◌, ◌==◌, ◌≤◌, List, [], ◌∷◌, filter, length, map}
use Rattle.std.specs.List.{enumerate_from}
use Rattle.geo_disk.specs.declared.drive.Drive.{Drive}
use Rattle.geo_jobs.specs.DriveList.{DriveListView}

-- those of the disks that belong to a disk worker: there are two workers, and the disks go to them in turn
abbrev pub own_disks : {X : Type 0} → ℕ → List (ℕ × X) → List (ℕ × X)
own_disks {X} worker items = filter (λ (x : ℕ × X). x.0 % 2 == worker) items

-- the drives of a disk worker, each with the number of its disk
abbrev pub dealt : {X : Type 0} → ℕ → List X → List (ℕ × X)
dealt worker drives = own_disks worker (enumerate_from 0 drives)

-- the first of the one, the first of the other, and so on
abbrev pub merged : {X : Type 0} → List X → List X → List X
merged [] ys = ys
merged (x ∷ xs) [] = x ∷ xs
merged (x ∷ xs) (y ∷ ys) = x ∷ y ∷ merged xs ys

-- the drives without the numbers of their disks
abbrev pub drives_in : {X : Type 0} → List (ℕ × X) → List X
drives_in {X} items = map (λ (x : ℕ × X). x.1) items

-- the drives of two lists, in turn
abbrev pub gathered_drives : {X : Type 0} → List (ℕ × X) → List (ℕ × X) → List X
gathered_drives even odd = drives_in (merged even odd)

-- these are the lists of two disk workers, in which so many drives have room
abbrev pub AreTwo : {D : Type 0} → ℕ → List (DriveListView D) → Type 0
AreTwo count (even ∷ odd ∷ []) =
    (length odd.items ≤ length even.items) × (length even.items + length odd.items ≤ count)
AreTwo count _ = ⊥

-- their drives, in turn
abbrev pub gathered_of : {D : Type 0} → List (DriveListView D) → List (Drive D)
gathered_of (even ∷ odd ∷ []) = gathered_drives even.items odd.items
gathered_of _ = []
