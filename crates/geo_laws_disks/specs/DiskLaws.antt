-- What disks are asked and what they hold, and when a disk can answer, along legal logs (g_bio(9)).
use Rattle.std.specs.Prelude.{◌≡◌, ℕ, ◌+◌, ◌*◌, ◌≤◌, true, false, List, ◌++◌, length, fold, slice_get, IsSome, IsSomeAnd, IsTrue}
use Rattle.geo_model.specs.declared.step.DeviceResult.{DeviceResult}
use Rattle.geo_model.specs.declared.step.Entry.{Entry}
use Rattle.geo_model.specs.declared.step.Outcome.{Outcome}
use Rattle.geo_model.specs.declared.step.Outcome.TheVariants as outcomes
use Rattle.geo_model.specs.declared.step.Request.{Request}
use Rattle.geo_model.specs.declared.step.Step.TheVariants as steps
use Rattle.geo_model.specs.Words.{is_flush, is_write}
use Rattle.geo_model.specs.World.{World, HeaderDisk}
use Rattle.geo_model.specs.Log.{IsSplitBy, replay}
use Rattle.geo_model.specs.Results.{request_of}
use Rattle.geo_model.specs.Contents.{after_step, contents}
use Rattle.geo_model.specs.History.{AtEachEntry}
use Rattle.geo_model.specs.Laws.{OfEachLegalLog}

-- what a request asks for lies inside a disk: a WRITE has the bytes of its sectors, and a FLUSH alone is of none
pub record LiesInside (q : Request) (disk : HeaderDisk) : Type 0 where
  pub inside : (q.first + q.count) * disk.sector ≤ disk.size
  pub bytes : IsTrue (is_write q.cmd) → length q.bytes ≡ q.count * disk.sector
  pub moves : is_flush q.cmd ≡ false → 1 ≤ q.count
  pub flush : is_flush q.cmd ≡ true → (q.first ≡ 0) × (q.count ≡ 0)

-- a disk of the header was asked for what lies inside it
pub record AsksInside (opened : World) (disk : ℕ) (o : Outcome) : Type 0 where
  pub request : Request
  pub is : o ≡ outcomes.Asked request
  pub disk_is : request.disk ≡ disk
  pub inside : IsSomeAnd (slice_get opened.disks disk) (LiesInside request)

-- each Take asks its disk for what lies inside it
abbrev pub TakesLieInside : Type 0
TakesLieInside =
    OfEachLegalLog (λ opened log. AtEachEntry opened log (λ w e.
    (disk b : ℕ) → e.step ≡ steps.Take disk b → AsksInside opened disk e.outcome))

-- the disks of the header stay what they were
abbrev pub DisksStay : Type 0
DisksStay = OfEachLegalLog (λ opened log. (replay opened log).disks ≡ opened.disks)

-- what legal logs keep of requests to disks
pub record DisksAreAsked : Type 0 where
  pub disks : DisksStay
  pub inside : TakesLieInside

-- what a disk holds after some more entries of a log that has the requests
abbrev pub contents_from : List Entry → ℕ → List (List ℕ) → List Entry → ℕ → List (List ℕ)
contents_from log size held later disk = fold (λ sectors e. after_step log size disk sectors e.step) held later

-- a log in two parts: what a disk then holds is what the second part makes of what it held after the first
abbrev pub ContentsJoin : Type 0
ContentsJoin =
    OfEachLegalLog (λ opened log.
    (earlier later : List Entry) (size disk : ℕ) (held : List (List ℕ)) → log ≡ earlier ++ later
    → contents size held log disk ≡ contents_from log size (contents size held earlier disk) later disk)

-- a bio is delivered only after it was taken
abbrev pub DeliversFollowTakes : Type 0
DeliversFollowTakes =
    OfEachLegalLog (λ opened log.
    (earlier : List Entry) (e : Entry) (b : ℕ) (got : DeviceResult)
    → IsSplitBy log earlier e → e.step ≡ steps.Deliver b got → IsSome (request_of earlier b))

-- what legal logs keep of the contents of disks
pub record ContentsFollow : Type 0 where
  pub join : ContentsJoin
  pub delivers : DeliversFollowTakes
