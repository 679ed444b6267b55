-- The disk of a disk worker.
use Rattle.std.specs.Prelude.{◌≡◌, ℕ, zero, suc, ◌<◌, ◌/◌, List, [], ◌∷◌, drop, length, All, Some, slice_get}
use Rattle.std.proofs.Common.{ap, arith, refl, sym, ◌∙◌}
use Rattle.geo_base.specs.Sectors.{cut_into, sectors_of}
use Rattle.geo_disk.specs.Memory.{Memory}
use Rattle.geo_disk.specs.declared.drive.Drive.{Drive}
use Rattle.geo_disk.specs.declared.drive.Drive.TheVariants.{Ram}
use Rattle.geo_jobs.specs.Drives.{HasDrives}
use Rattle.geo_tests_jobs.specs.Benches.{IsSmall, seen_drive, two_facts}

-- bytes are cut into as many sectors as is said
pub cut_count : (n size : ℕ) (bytes : List ℕ) → length (cut_into n size bytes) ≡ n
cut_count zero size bytes = refl
cut_count (suc n) size bytes = ap suc (cut_count n size (drop size bytes))

-- 8,192 bytes are 16 sectors of 512
pub small_count : (bytes : List ℕ) → length bytes ≡ 8192 → length (sectors_of 512 bytes) ≡ 16
small_count bytes long =
    cut_count (length bytes / 512) 512 bytes ∙ ap (λ n. n / 512) long

-- a small disk has the size that is told of each of the two
size_of : (disk : ℕ) (m : Memory) → disk < 2 → IsSmall m
    → slice_get two_facts disk ≡ Some ((seen_drive (Ram m)).sector, (seen_drive (Ram m)).count)
size_of zero m two small =
    let sector = small.sector in let count = small.count in
    ap (λ s. Some (s, 16)) (sym sector) ∙ ap (λ n. Some (m.sector, n)) (sym count)
size_of (suc zero) m two small =
    let sector = small.sector in let count = small.count in
    ap (λ s. Some (s, 16)) (sym sector) ∙ ap (λ n. Some (m.sector, n)) (sym count)
size_of (suc (suc n)) m two small = absurd (omega (arith, two))

-- the drive of one of the two disks
pub one_drive : (disk : ℕ) (m : Memory) → disk < 2 → IsSmall m
    → HasDrives two_facts seen_drive ((disk, Ram m) ∷ [])
one_drive disk m two small = record {
  apart = λ i j d lt in_range. absurd (omega (arith, lt, in_range));
  sizes = sizes;
}
  where
    sizes : All (λ (x : ℕ × Drive Memory).
        slice_get two_facts x.0 ≡ Some ((seen_drive x.1).sector, (seen_drive x.1).count))
        ((disk, Ram m) ∷ [])
    sizes zero d lt = size_of disk m two small
    sizes (suc k) d lt = absurd (omega (arith, lt))
