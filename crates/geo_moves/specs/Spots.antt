-- Where a bio goes that waits for its disk, and how many bytes it gives.
use Rattle.std.specs.Prelude.{ℕ, ◌/◌, Option, None, if◌then◌else◌}
use Rattle.std.specs.Option.{option_and_then, option_map, option_map_or}
use Rattle.geo_base.specs.declared.request.BioCmd.{BioCmd}
use Rattle.geo_model.specs.Topology.{Topology}
use Rattle.geo_model.specs.World.{World, Config, BioOf, bio_at, is_sent}
use Rattle.geo_model.specs.Words.{is_read}
use Rattle.geo_model.specs.Bios.{disk_at, sector_at}
use Rattle.geo_moves.specs.declared.spots.Spot.{Spot}

-- what a disk is to be asked for, where the bio waits for one
abbrev pub spot_in : {R : Type 0} → Topology Config → BioOf R → Option Spot
spot_in t x =
    if is_sent x.phase
    then option_map (λ d. record { disk = d; cmd = x.cmd; first = x.offset / sector_at t x.target })
    (disk_at t x.target)
    else None

-- so of the bio of a number
abbrev pub spot_of : World → ℕ → Option Spot
spot_of w bio = option_and_then (spot_in w.topology) (bio_at w bio)

-- how many bytes a request of such a length reads
abbrev pub bytes_read : BioCmd → ℕ → ℕ
bytes_read cmd len = if is_read cmd then len else 0

-- how many bytes the bio of a number reads; 0 if there is no such bio
abbrev pub bytes_read_by : World → ℕ → ℕ
bytes_read_by w bio = option_map_or (λ x. bytes_read x.cmd x.len) (bio_at w bio) 0
