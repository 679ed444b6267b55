-- Bytes in sectors of one size.
use Rattle.std.specs.Prelude.{◌≡◌, ◌⊎◌, ℕ, zero, suc, ◌+◌, ◌/◌, List, [], ◌∷◌, length, take, drop, replicate, flat_map}
use Rattle.std.specs.List.{replace_range}

-- a disk has sectors of 512 or of 4,096 bytes
abbrev pub IsSectorSize : ℕ → Type 0
IsSectorSize size = (size ≡ 512) ⊎ (size ≡ 4096)

-- the first n sectors of some bytes
abbrev pub cut_into : ℕ → ℕ → List ℕ → List (List ℕ)
cut_into zero size bytes = []
cut_into (suc n) size bytes = take size bytes ∷ cut_into n size (drop size bytes)

-- bytes as their whole sectors
abbrev pub sectors_of : ℕ → List ℕ → List (List ℕ)
sectors_of size bytes = cut_into (length bytes / size) size bytes

-- the bytes of sectors, one behind the other
abbrev pub joined_sectors : List (List ℕ) → List ℕ
joined_sectors sectors = flat_map (λ sector. sector) sectors

-- sectors with others in place of as many, from the first on
abbrev pub with_sectors : List (List ℕ) → ℕ → List (List ℕ) → List (List ℕ)
with_sectors held first news = replace_range held first (first + length news) news

-- the bytes of `count` sectors, from the first on
abbrev pub bytes_between : List (List ℕ) → ℕ → ℕ → List ℕ
bytes_between held first count = joined_sectors (take count (drop first held))

-- n sectors of zeros
abbrev pub zero_sectors : ℕ → ℕ → List (List ℕ)
zero_sectors n size = replicate n (replicate size 0)
