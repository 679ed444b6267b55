-- What is against the steps of requests, by the table, the graph and the seats.
use Rattle.std.specs.Prelude.{ℕ, ◌==◌, Bool, List, Option, Some, None, option_and_then, slice_get, if◌then◌else◌}
use Rattle.std.specs.Option.{option_map}
use Rattle.geo_model.specs.declared.step.DeviceResult.{DeviceResult}
use Rattle.geo_model.specs.declared.step.Found.{Found}
use Rattle.geo_model.specs.declared.step.Found.TheVariants as found
use Rattle.geo_model.specs.declared.step.Phase.{Phase}
use Rattle.geo_model.specs.declared.step.Phase.TheVariants as phases
use Rattle.geo_model.specs.Topology.{Topology}
use Rattle.geo_model.specs.World.{BioOf, Config, is_sent}
use Rattle.geo_model.specs.Bios.{disk_at, sector_at, fits_bio}
use Rattle.geo_bio.specs.declared.bio.Held.{Held}
use Rattle.geo_state.specs.declared.state.DiskSeat.{DiskSeat}

-- what is against a step that wants a phase
abbrev pub phase_found : (Phase → Bool) → Option (BioOf Held) → Option Found
phase_found test None = Some found.NoSuchBio
phase_found test (Some x) = if test x.phase then None else Some (found.InPhase x.phase)

-- the request that is at a disk is against a Take for it
abbrev pub seat_found : List DiskSeat → ℕ → Option Found
seat_found seats disk =
    option_map (λ b. found.DiskBusy b) (option_and_then (λ (s : DiskSeat). s.busy) (slice_get seats disk))

-- what is against a Take for a disk of a bio that goes to this disk, if to one
abbrev pub way_found : List DiskSeat → ℕ → Phase → Option ℕ → Option Found
way_found seats disk phase None = Some (found.InPhase phase)
way_found seats disk phase (Some d) = if d == disk then seat_found seats disk else Some (found.OtherDisk d)

-- what is against a Take of a bio that is there
abbrev pub sent_found : Topology Config → List DiskSeat → ℕ → BioOf Held → Option Found
sent_found t seats disk x =
    if is_sent x.phase then way_found seats disk x.phase (disk_at t x.target) else Some (found.InPhase x.phase)

-- what is against a Take
abbrev pub take_against : Topology Config → List DiskSeat → ℕ → Option (BioOf Held) → Option Found
take_against t seats disk None = Some found.NoSuchBio
take_against t seats disk (Some x) = sent_found t seats disk x

-- what is against a Deliver of a bio in a phase
abbrev pub busy_found : Topology Config → ℕ → BioOf Held → DeviceResult → Phase → Option Found
busy_found t seat x got (phases.Busy holder) =
    if holder == seat
    then (if fits_bio (sector_at t x.target) x got then None else Some found.Unfit)
    else Some (found.OtherSeat holder)
busy_found t seat x got phase = Some (found.InPhase phase)

-- what is against a Deliver
abbrev pub deliver_against : Topology Config → ℕ → DeviceResult → Option (BioOf Held) → Option Found
deliver_against t seat got None = Some found.NoSuchBio
deliver_against t seat got (Some x) = busy_found t seat x got x.phase
