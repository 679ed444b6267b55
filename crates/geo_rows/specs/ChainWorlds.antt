-- Worlds in which a taste of EBR is under way, each with a chain that isn't as it should be in one respect.
use Rattle.std.specs.Prelude.{ℕ, ◌+◌, ◌&&◌, Bool, true, List, [], ◌∷◌, map, Some, None, codes}
use Rattle.std.specs.List.{range_with_len}
use Rattle.geo_base.specs.declared.kind.Kind.TheVariants as kinds
use Rattle.geo_model.specs.declared.step.BioResult.TheVariants as results
use Rattle.geo_model.specs.declared.step.Step.TheVariants as steps
use Rattle.geo_model.specs.Chain.{Chain, LinkRead}
use Rattle.geo_model.specs.Step.{step}
use Rattle.geo_model.specs.World.{World, Asked, Mbr, NextSector, ReadBack}
use Rattle.geo_rows.specs.LooseWorlds.{breaks_by, consumer, disk_geom, geom, loose_disk, loose_world, provider, tasting, topology}
use Rattle.geo_rows.specs.WorkedChains.{link, part}
use Rattle.geo_rows.specs.WorkedFitting.{is_fitting_world}
use Rattle.geo_rows.specs.WorkedSound.{is_sound}
use Rattle.geo_rows.specs.WorkedSteady.{is_steady}

-- a link that was read, with a partition
abbrev pub read_link : ℕ → ℕ → ℕ → LinkRead
read_link sector first count = record { sector = sector; part = part first count }

abbrev pub chain_of : List LinkRead → ℕ → Chain
chain_of links next = record { links = links; next = next }

-- a slice of 63 sectors, whose taste has asked EBR, made so many reads and read this chain
abbrev pub chain_world : Asked → ℕ → Chain → World
chain_world asked reads c =
    let w : World =
    tasting
    (loose_world (topology
    (disk_geom 3 (codes "md0") 0
    ∷ geom 4 kinds.Mbr (codes "md0")
    (Mbr (Some 1) (Some (record { first = 1; count = 63 }) ∷ None ∷ None ∷ None ∷ [])) true ∷ [])
    (provider 1 3 (codes "md0") 32768 512 ∷ provider 2 4 (codes "md0s1") 32256 512 ∷ [])
    (consumer 1 4 1 ∷ []))
    (loose_disk (codes "md0") 512 32768 ∷ []))
    2 [] asked
    in record w {
      taste = Some (record { provider = 2; consumer = 8; classes = []; asked = asked; reads = reads; chain = c });
    }

-- the last link of a chain is back
abbrev pub last_back : Asked
last_back = ReadBack kinds.Ebr (results.Bytes (link 165 1 3 0 0))

-- the second link is back, and the first one is this
abbrev pub back_after : LinkRead → World
back_after first = chain_world last_back 2 (chain_of (first ∷ []) 10)

-- as it should be
abbrev pub lawful_chain : World
lawful_chain = back_after (read_link 0 1 4)

abbrev pub holds_all : World → Bool
holds_all w = is_sound w && (is_steady w && is_fitting_world w)

-- whether the world isn't sound after the link is judged
abbrev pub judged_unsound : World → Bool
judged_unsound w = breaks_by (step w 0 steps.Judge)

-- thirty-two links in a row
abbrev pub full_chain : Chain
full_chain = chain_of (map (λ k. read_link k (k + 1) 2) (range_with_len 0 32)) 40

-- two links at one sector; the next link is one that was read
abbrev pub same_sectors_read : World
same_sectors_read = chain_world last_back 3 (chain_of (read_link 0 1 4 ∷ read_link 0 1 4 ∷ []) 10)

abbrev pub goes_back : World
goes_back = chain_world last_back 2 (chain_of (read_link 0 1 4 ∷ []) 0)

-- another sector is known as next than the chain's
abbrev pub other_next : World
other_next = chain_world (NextSector kinds.Ebr 11) 1 (chain_of (read_link 0 1 4 ∷ []) 10)

-- the first link is back, which was read at another sector than 0; the next link isn't a sector of the slice
abbrev pub first_elsewhere : World
first_elsewhere = chain_world (ReadBack kinds.Ebr (results.Bytes (link 165 1 4 5 10))) 1 (chain_of [] 7)

abbrev pub next_far : World
next_far = chain_world last_back 2 (chain_of (read_link 0 1 4 ∷ []) 63)
