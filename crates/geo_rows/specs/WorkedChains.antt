-- Worked chains of logical partitions, their names and places, and what LABEL says to labels of both versions.
use Rattle.std.specs.Prelude.{ℕ, ◌+◌, ◌==◌, nat_lt, List, [], ◌∷◌, ◌++◌, map, replicate, Option, Some, None, codes, if◌then◌else◌}
use Rattle.std.specs.Int.{w32, to_le_bytes}
use Rattle.std.specs.List.{range_with_len}
use Rattle.geo_base.specs.declared.kind.Kind.TheVariants as kinds
use Rattle.geo_model.specs.declared.class.EbrPart.{EbrPart}
use Rattle.geo_model.specs.declared.class.EbrTable.{EbrTable}
use Rattle.geo_model.specs.declared.class.Facts.{Facts}
use Rattle.geo_model.specs.declared.class.Verdict.{Verdict}
use Rattle.geo_model.specs.World.{Config, Ebr}
use Rattle.geo_model.specs.Acceptance.{judge}
use Rattle.geo_model.specs.Records.{label_magic, label_sector, padded}

-- the sector of a link: type, first sector and size of its partition, type and sector of its second entry
abbrev pub link : ℕ → ℕ → ℕ → ℕ → ℕ → List ℕ
link kind first count second next =
    replicate 450 0
    ++ (kind ∷ replicate 3 0 ++ (to_le_bytes w32 first ++ (to_le_bytes w32 count
    ++ (replicate 4 0 ++ (second ∷ replicate 3 0 ++ (to_le_bytes w32 next ++ (replicate 36 0 ++ 85 ∷ 170 ∷ [])))))))

-- a sector of zeros in front of the signature: a link with no partition that is the last
abbrev pub bare_link : List ℕ
bare_link = link 0 0 0 0 0

-- a media of these sectors, the others of zeros
abbrev pub media_of : List (ℕ × List ℕ) → ℕ → List ℕ
media_of [] sector = replicate 512 0
media_of (x ∷ xs) sector = if x.0 == sector then x.1 else media_of xs sector

-- two links: the first has four sectors from sector 1 on, the second, at sector 10, leads on as is said
abbrev pub two_links : ℕ → ℕ → ℕ → List ℕ
two_links second next = media_of ((0, link 165 1 4 5 10) ∷ (10, link 165 1 3 second next) ∷ [])

-- so many links, each in the sector after the one before, each with a partition of two sectors after its own
abbrev pub links_in_row : ℕ → ℕ → List ℕ
links_in_row n sector = if nat_lt (sector + 1) n then link 165 1 2 15 (sector + 1) else link 165 1 2 0 0

abbrev pub part : ℕ → ℕ → Option EbrPart
part first count = Some (record { first = first; count = count })

-- a table of these parts, the other links without one
abbrev pub table : List (Option EbrPart) → ℕ → EbrTable
table parts others = record { parts = parts ++ replicate others None }

-- the parts of thirty-two links in a row
abbrev pub parts_in_row : List (Option EbrPart)
parts_in_row = map (λ k. part (k + 1) 2) (range_with_len 0 32)

abbrev pub ebr_in_row : Config
ebr_in_row = Ebr (Some 1) parts_in_row

-- what a class knows of a provider of eight sectors
abbrev pub eight_sectors : Facts
eight_sectors = record { kind = kinds.Disk; sector = 512; sectors = 8 }

-- what LABEL says to a label, at such a provider
abbrev pub said_of_label : Option ℕ → Verdict
said_of_label size = judge kinds.Label (label_sector 512 (record { name = codes "vol"; size = size })) eight_sectors

-- a label of a version
abbrev pub label_of_version : ℕ → List ℕ
label_of_version version = padded 512 (label_magic ++ (to_le_bytes w32 version ++ codes "vol"))
