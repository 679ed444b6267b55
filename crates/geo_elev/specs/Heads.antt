-- What the elevator keeps beside a mesh: where the head of each disk stands, and what waits for it.
use Rattle.std.specs.Prelude.{◌≡◌, ℕ, List, [], length, map, Option, option_map}
use Rattle.std.specs.List.{enumerate_from, range_with_len}
use Rattle.geo_model.specs.declared.step.Entry.{Entry}
use Rattle.geo_model.specs.declared.step.Step.{Step}
use Rattle.geo_model.specs.declared.step.Step.TheVariants as steps
use Rattle.geo_model.specs.Words.{first_some}
use Rattle.geo_model.specs.World.{World}
use Rattle.geo_model.specs.Log.{replay}
use Rattle.geo_headline.specs.Sweep.{candidates, head_of, next_of, waiting_for}
use Rattle.geo_elev.specs.declared.disks.DiskHead.{DiskHead}

-- one for each disk, and how many entries of the log were noted
pub record HeadsView : Type 0 where
  pub disks : List DiskHead
  pub noted : ℕ

-- of a disk of which nothing is known
abbrev pub no_head : ℕ → DiskHead
no_head disk = record { head = 0; waiting = [] }

-- of so many disks, of which nothing is known
abbrev pub no_heads : ℕ → HeadsView
no_heads disks = record { disks = map no_head (range_with_len 0 disks); noted = 0 }

-- a disk as it is in a world after its log
abbrev pub disk_head : World → List Entry → ℕ → DiskHead
disk_head w log disk = record { head = head_of log disk; waiting = waiting_for w disk }

-- so many disks
abbrev pub disk_heads : World → List Entry → ℕ → List DiskHead
disk_heads w log count = map (disk_head w log) (range_with_len 0 count)

-- they are those of a mesh that opened so and has this log
pub record AreHeads (opened : World) (log : List Entry) (h : HeadsView) : Type 0 where
  pub noted : h.noted ≡ length log
  pub disks : h.disks ≡ disk_heads (replay opened log) log (length opened.disks)

-- the Take that is next by what is kept of a disk
abbrev pub take_by : ℕ × DiskHead → Option Step
take_by item = option_map (λ x. steps.Take item.0 x.bio) (next_of item.1.head (candidates item.1.waiting))

-- that of the first disk that has one
abbrev pub first_by : HeadsView → Option Step
first_by h = first_some (map take_by (enumerate_from 0 h.disks))
