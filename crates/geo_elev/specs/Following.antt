-- How the heads of disks, and what waits for them, follow a log.
use Rattle.std.specs.Prelude.{◌≡◌, ℕ, Bool, true, false, List, [], ◌∷◌, ◌++◌, Some, IsTrue, ⊤}
use Rattle.geo_model.specs.declared.step.Entry.{Entry}
use Rattle.geo_model.specs.declared.step.Outcome.{Outcome}
use Rattle.geo_model.specs.declared.step.Outcome.TheVariants as outcomes
use Rattle.geo_model.specs.declared.step.Request.{Request}
use Rattle.geo_model.specs.declared.step.Step.{Step}
use Rattle.geo_model.specs.declared.step.Step.TheVariants as steps
use Rattle.geo_model.specs.Words.{is_flush}
use Rattle.geo_model.specs.World.{World}
use Rattle.geo_model.specs.Log.{replay}
use Rattle.geo_drain.specs.Meshes.{Spot, spot_of}
use Rattle.geo_elev.specs.declared.disks.DiskHead.{DiskHead}
use Rattle.geo_elev.specs.declared.lists.Place.{Place}
use Rattle.geo_elev.specs.Lists.{one_at}
use Rattle.geo_elev.specs.Disks.{ChangesOne, Queues, after_asking}
use Rattle.geo_elev.specs.Heads.{disk_heads}

-- so many disks after a log
abbrev pub heads_at : World → List Entry → ℕ → List DiskHead
heads_at opened log count = disk_heads (replay opened log) log count

-- the entry comes after a first part of the log, as its last one if that is so
pub record ComesAfter (log seen : List Entry) (e : Entry) (is_last : Bool) : Type 0 where
  pub later : List Entry
  pub split : log ≡ seen ++ e ∷ later
  pub last : IsTrue is_last → later ≡ []

-- where they could follow it, the disks are those after the entry
abbrev pub Followed : Bool → World → List Entry → Entry → ℕ → List DiskHead → Type 0
Followed true opened seen e count new = new ≡ heads_at opened (seen ++ e ∷ []) count
Followed false opened seen e count new = ⊤

-- whether an outcome neither asks a disk nor brings it a request
abbrev pub is_quiet : Outcome → Bool
is_quiet (outcomes.Asked q) = false
is_quiet (outcomes.Queued d) = false
is_quiet _ = true

-- the step is a Take, whose request changes its disk, if it was followed
abbrev pub TakesIfFollowed : Bool → Request → Step → List DiskHead → List DiskHead → Type 0
TakesIfFollowed true q s old new =
    (d : ℕ) × (b : ℕ) × (s ≡ steps.Take d b) × ChangesOne q.disk (λ x y. y ≡ after_asking q b x) old new
TakesIfFollowed false q s old new = ⊤

-- the place of a spot
abbrev pub place_of : Spot → Place
place_of spot = record { flush = is_flush spot.cmd; first = spot.first }

-- the step is a Start, whose bio then waits for the disk behind all, if it was followed
abbrev pub Starts : Bool → World → ℕ → Step → List DiskHead → List DiskHead → Type 0
Starts true w disk s old new =
    (b : ℕ) × (spot : Spot) × (s ≡ steps.Start b) × (spot_of w b ≡ Some spot) × (spot.disk ≡ disk)
    × ChangesOne disk (Queues true (one_at b (place_of spot))) old new
Starts false w disk s old new = ⊤
