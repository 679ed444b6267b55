-- The disk of the tests has the sizes with which their meshes begin.
use Rattle.std.specs.Prelude.{◌≡◌, ℕ, zero, suc, ◌/◌, List, [], ◌∷◌, drop, length}
use Rattle.std.proofs.Common.{ap, map, refl, sym, ◌∙◌}
use Rattle.geo_base.specs.Sectors.{cut_into, sectors_of}
use Rattle.geo_disk.specs.Memory.{Memory}
use Rattle.geo_disk.specs.declared.drive.Drive.TheVariants.{Shelved}
use Rattle.geo_drain.specs.Drain.{DrivesFit}
use Rattle.geo_drain.specs.Meshes.{MeshView}
use Rattle.geo_tests_runs.specs.Bench.{IsSmall, one_fact, seen_drive}

-- bytes are cut into as many sectors as is said
pub cut_count : (n size : ℕ) (bytes : List ℕ) → length (cut_into n size bytes) ≡ n
cut_count zero size bytes = refl
cut_count (suc n) size bytes = ap suc (cut_count n size (drop size bytes))

-- 4,096 bytes are 8 sectors of 512
pub small_count : (bytes : List ℕ) → length bytes ≡ 4096 → length (sectors_of 512 bytes) ≡ 8
small_count bytes long =
    cut_count (length bytes / 512) 512 bytes ∙ ap (λ n. n / 512) long

-- the drive of the disk is that of a mesh of one
pub one_fits : (m : MeshView) (disk : Memory) → m.facts ≡ one_fact → IsSmall disk
    → DrivesFit m (map seen_drive (Shelved disk ∷ []))
one_fits m disk facts small =
    let sector = small.sector in let count = small.count in
    ap (λ s. (s, length disk.sectors) ∷ []) sector ∙ ap (λ n. (512, n) ∷ []) count ∙ sym facts
