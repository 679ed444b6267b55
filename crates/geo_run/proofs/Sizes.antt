-- Sizes of drives and images, and sectors of zeros.
use Rattle.std.proofs.Common.{◌≡◌, ℕ, zero, suc, ◌+◌, ◌-◌, ◌*◌, ◌/◌, ◌%◌, ◌≤◌, List, [], ◌∷◌, ◌++◌, length, drop, replicate, All, refl, ◌∙◌, ap, arith, rules}
use Rattle.std.specs.List.{AllByRecursion}
use Rattle.std.proofs.lemmas.List.{length-append, take-append-drop, length-drop, length-replicate, length-take-le, drop-replicate, take-replicate}
use Rattle.std.proofs.lemmas.List.Elements.{All-from_recursion, recursion_from_All}
use Rattle.geo_base.specs.Images.{IsDiskSize}
use Rattle.geo_disk.specs.Memory.{Memory}
use Rattle.geo_model.specs.declared.command.DiskDecl.{DiskDecl}
use Rattle.geo_model.specs.Plans.{IsDiskDecl}
use Rattle.geo_run.specs.Lending.{IsZeroDisk}
use Rattle.geo_base.specs.Sectors.{IsSectorSize, cut_into, joined_sectors, sectors_of, zero_sectors}

-- bytes are cut into as many sectors as is said
pub cut_count : (n size : ℕ) (bytes : List ℕ) → length (cut_into n size bytes) ≡ n
cut_count zero size bytes = refl
cut_count (suc n) size bytes = ap suc (cut_count n size (drop size bytes))

-- whole sectors are as many bytes
pub whole_bytes : (size n : ℕ) → IsSectorSize size → n % size ≡ 0 → (n / size) * size ≡ n
whole_bytes size n is whole = search rules

-- one times more
times_more : (n size : ℕ) → n * size + size ≡ suc n * size
times_more n size = grind arith

-- the bytes of sectors that were cut are the bytes, where they are whole sectors
pub joined_cut : (n size : ℕ) (bytes : List ℕ) → n * size ≡ length bytes
    → joined_sectors (cut_into n size bytes) ≡ bytes
joined_cut zero size [] e = refl
joined_cut zero size (b ∷ bytes) e = absurd (let bad : zero * size ≡ suc (length bytes) = e in grind arith)
joined_cut (suc n) size bytes e =
    search (rules, length-drop size bytes, joined_cut n size (drop size bytes), take-append-drop size bytes)

-- the sectors of an image are its bytes
pub joined_image : (size : ℕ) (bytes : List ℕ) → IsSectorSize size → IsDiskSize size (length bytes)
    → joined_sectors (sectors_of size bytes) ≡ bytes
joined_image size bytes is fits =
    joined_cut (length bytes / size) size bytes (whole_bytes size (length bytes) is fits.whole)

-- each of them has its size
cut_whole : (n size : ℕ) (bytes : List ℕ) → n * size ≤ length bytes
    → AllByRecursion (λ (s : List ℕ). length s ≡ size) (cut_into n size bytes)
cut_whole zero size bytes e = tt
cut_whole (suc n) size bytes e =
    let few : length (drop size bytes) ≡ length bytes - size = length-drop size bytes in
    let all : n * size + size ≡ suc n * size = times_more n size in
    let front : size ≤ length bytes = omega (arith, all, e) in
    (length-take-le size bytes front, cut_whole n size (drop size bytes) (omega (arith, few, all, e)))

pub image_whole : (size : ℕ) (bytes : List ℕ) → IsSectorSize size → IsDiskSize size (length bytes)
    → All (λ (s : List ℕ). length s ≡ size) (sectors_of size bytes)
image_whole size bytes is fits =
    let e : (length bytes / size) * size ≡ length bytes = whole_bytes size (length bytes) is fits.whole in
    All-from_recursion (λ (s : List ℕ). length s ≡ size) (sectors_of size bytes)
    (cut_whole (length bytes / size) size bytes (omega (arith, e)))

-- so many sectors of one size are so many bytes
joined_length : (size : ℕ) (sectors : List (List ℕ)) → AllByRecursion (λ (s : List ℕ). length s ≡ size) sectors
    → length (joined_sectors sectors) ≡ length sectors * size
joined_length size [] all = let e : 0 ≡ 0 * size = omega arith in e
joined_length size (s ∷ ss) all =
    let both : length (s ++ joined_sectors ss) ≡ length s + length (joined_sectors ss) =
    length-append s (joined_sectors ss) in
    search (rules, joined_length size ss all.1)
  where
    suc_mul : (n size : ℕ) → size + n * size ≡ suc n * size
    suc_mul n size = grind arith

pub all_bytes : (size : ℕ) (sectors : List (List ℕ)) → All (λ (s : List ℕ). length s ≡ size) sectors
    → length (joined_sectors sectors) ≡ length sectors * size
all_bytes size sectors all =
    joined_length size sectors (recursion_from_All (λ (s : List ℕ). length s ≡ size) sectors all)

-- Zeros

zeros_cut : (n size : ℕ) → cut_into n size (replicate (n * size) 0) ≡ replicate n (replicate size 0)
zeros_cut zero size = refl
zeros_cut (suc n) size =
    let more : suc n * size ≡ size + n * size = grind arith in
    let enough : size ≤ suc n * size = omega (arith, more) in
    let left : suc n * size - size ≡ n * size = omega (arith, more) in
    ap (λ s. s ∷ cut_into n size (drop size (replicate (suc n * size) 0))) (take-replicate size (suc n * size) 0 enough)
    ∙ ap (λ bs. replicate size 0 ∷ cut_into n size bs)
    (drop-replicate size (suc n * size) 0 ∙ ap (λ k. replicate k 0) left)
    ∙ ap (λ ss. replicate size 0 ∷ ss) (zeros_cut n size)

-- zeros are sectors of zeros
pub zeros_are : (size n : ℕ) → IsSectorSize size → sectors_of size (replicate (size * n) 0) ≡ zero_sectors n size
zeros_are size n is =
    ap (λ k. cut_into k size (replicate (size * n) 0))
    (ap (λ k. k / size) (length-replicate (size * n) 0) ∙ quotient is)
    ∙ ap (λ k. cut_into n size (replicate k 0)) (let e : size * n ≡ n * size = grind arith in e)
    ∙ zeros_cut n size
  where
    quotient : IsSectorSize size → (size * n) / size ≡ n
    quotient is = search rules

-- a disk of zeros in memory
pub made_zero : (d : DiskDecl) (m : Memory) (bytes fails : List ℕ) → IsDiskDecl d
    → bytes ≡ replicate (d.sector * d.sectors) 0 → fails ≡ []
    → m ≡ record {
      sector = d.sector;
      sectors = sectors_of d.sector bytes;
      fails = fails;
      calls = 0;
      faults = 0;
      part = 0;
      asked = [];
    } → IsZeroDisk d m
made_zero d m bytes fails decl e none is = search (rules, zeros_are d.sector d.sectors decl.sector)
