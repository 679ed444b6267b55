-- What is written to a file.
use Rattle.std.specs.Prelude.{◌≡◌, ℕ, ◌*◌, ◌/◌, ◌<◌, List, ◌++◌, length, take, flat_map, Result, Ok, Err}
use Rattle.std.specs.List.{enumerate_from}
use Rattle.geo_disk.specs.declared.disk.DiskFailed.{DiskFailed}

-- what one write of the system put into a file, and from which byte on
pub record Put : Type 0 where
  pub at : ℕ
  pub bytes : List ℕ

-- each byte that was put into a file, with its place, in order
abbrev pub placed : List Put → List (ℕ × ℕ)
placed puts = flat_map (λ p. enumerate_from p.at p.bytes) puts

-- these bytes were put into a file from a place on, and no other byte
abbrev pub Puts : ℕ → List ℕ → List Put → List Put → Type 0
Puts at bytes old new = placed new ≡ placed old ++ enumerate_from at bytes

-- a call of a disk put these bytes into its file, from this sector on: all of them, or, where it failed, a first part
-- of which so many sectors are whole
abbrev pub PutsSectors : Result (Unit {0}) DiskFailed → ℕ → ℕ → List ℕ → List Put → List Put → Type 0
PutsSectors (Ok _) sector first bytes old new = Puts (first * sector) bytes old new
PutsSectors (Err e) sector first bytes old new =
    (n : ℕ) × (n < length bytes) × (n / sector ≡ e.done) × Puts (first * sector) (take n bytes) old new
