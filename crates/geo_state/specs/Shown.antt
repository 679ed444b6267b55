-- The bios as the mesh's definitions have them, where a log tells the bytes of a place.
use Rattle.std.specs.Prelude.{ℕ, ◌<◌, ⊤, List, All, map, Option, Some, None}
use Rattle.std.specs.Option.{option_map}
use Rattle.geo_base.specs.declared.errno.Errno.{Errno}
use Rattle.geo_base.specs.declared.errno.Errno.TheVariants.{EIO}
use Rattle.geo_model.specs.declared.step.DeviceResult.{DeviceResult}
use Rattle.geo_model.specs.declared.step.DeviceResult.TheVariants as devices
use Rattle.geo_model.specs.World.{BioOf, Bio}
use Rattle.geo_model.specs.Bios.{result_of_device}
use Rattle.geo_bio.specs.declared.bio.Held.{Held}
use Rattle.geo_bio.specs.declared.bio.Held.TheVariants as held
use Rattle.geo_bio.specs.Up.{resolved, held_as}

-- a bio as the mesh's definitions have it, where `log` tells the bytes of a place
abbrev pub shown_bio : (ℕ → Option (List ℕ)) → BioOf Held → Bio
shown_bio log x = record {
  number = x.number;
  cmd = x.cmd;
  offset = x.offset;
  len = x.len;
  bytes = x.bytes;
  source = x.source;
  target = x.target;
  owner = x.owner;
  phase = x.phase;
  result = option_map (λ h. resolved log (Some h)) x.result;
}

-- the bios as the mesh's definitions have them
abbrev pub shown_bios : (ℕ → Option (List ℕ)) → List (BioOf Held) → List Bio
shown_bios log bios = map (shown_bio log) bios

-- a place that a bio names is among so many
abbrev pub IsBelow : ℕ → Option Held → Type 0
IsBelow places (Some (held.AtPlace place)) = place < places
IsBelow places _ = ⊤

-- each place that a bio names is among so many places of a log
abbrev pub AreLogged : ℕ → List (BioOf Held) → Type 0
AreLogged places bios = All (λ x. IsBelow places x.result) bios

-- the error that a disk's answer brings to its bio
abbrev pub errno_of : DeviceResult → Option Errno
errno_of (devices.Failed done) = Some EIO
errno_of _ = None

-- what a bio holds of a disk's answer, where no log keeps it
abbrev pub held_of : DeviceResult → Held
held_of got = held_as (result_of_device got)
