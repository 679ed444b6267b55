-- What a shelf may tell: the images of disks under their names.
use Rattle.std.specs.Prelude.{◌≡◌, ℕ, ◌%◌, ◌≤◌, List, Option}
use Rattle.geo_base.specs.declared.limits.TheConstants.{MAX_IMAGE_BYTES}

-- the bytes under each name
abbrev pub Images : Type 0
Images = List ℕ → Option (List ℕ)

-- so many bytes are one or more whole sectors, and at most MAX_IMAGE_BYTES
pub record IsDiskSize (sector size : ℕ) : Type 0 where
  pub some : 1 ≤ size
  pub whole : size % sector ≡ 0
  pub limited : size ≤ MAX_IMAGE_BYTES
