-- The heads of disks, and what waits for them, as they are gathered anew: from the log, and by a walk over the bios.
use Rattle.std.specs.Prelude.{◌≡◌, ℕ, nat_lt, Bool, List, [], filter, map, Option, Some, None}
use Rattle.std.specs.List.{range_with_len}
use Rattle.geo_model.specs.declared.step.Entry.{Entry}
use Rattle.geo_model.specs.World.{World, Bio}
use Rattle.geo_headline.specs.Sweep.{Waiting, waiting_of, is_sent_to, head_of}
use Rattle.geo_drain.specs.Meshes.{Spot}
use Rattle.geo_elev.specs.declared.disks.DiskHead.{DiskHead}
use Rattle.geo_elev.specs.Lists.{one_at}
use Rattle.geo_elev.specs.Disks.{ChangesOne, Queues}
use Rattle.geo_elev.specs.Following.{place_of}

-- the bios with smaller numbers
abbrev pub numbered_below : ℕ → List Bio → List Bio
numbered_below n xs = filter (λ x. nat_lt x.number n) xs

-- of those that wait for a disk, what has smaller numbers
abbrev pub waiting_below : World → ℕ → ℕ → List Waiting
waiting_below w n disk = map (waiting_of w) (filter (is_sent_to w disk) (numbered_below n w.bios))

-- a disk of which the head alone is known
abbrev pub bare_head : List Entry → ℕ → DiskHead
bare_head log disk = record { head = head_of log disk; waiting = [] }

-- so many disks
abbrev pub bare_heads : List Entry → ℕ → List DiskHead
bare_heads log count = map (bare_head log) (range_with_len 0 count)

-- a disk with what waits of the bios below a number
abbrev pub head_below : World → List Entry → ℕ → ℕ → DiskHead
head_below w log from disk = record { head = head_of log disk; waiting = waiting_below w from disk }

-- so many disks
abbrev pub heads_below : World → List Entry → ℕ → ℕ → List DiskHead
heads_below w log from count = map (head_below w log from) (range_with_len 0 count)

-- a bio is put in where it waits for a disk
abbrev pub PutsAtSpot : Option Spot → ℕ → List DiskHead → List DiskHead → Type 0
PutsAtSpot None bio old new = new ≡ old
PutsAtSpot (Some spot) bio old new = (b : Bool) × ChangesOne spot.disk (Queues b (one_at bio (place_of spot))) old new
