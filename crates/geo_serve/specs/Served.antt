-- What a drive does along the entries of a log.
use Rattle.std.specs.Prelude.{◌≡◌, ℕ, List, [], ◌++◌, Option, Some, None, IfSome, slice_get, ⊤}
use Rattle.std.specs.Option.{option_map}
use Rattle.geo_model.specs.declared.step.Entry.{Entry}
use Rattle.geo_model.specs.Contents.{AreTrue, contents}
use Rattle.geo_disk.specs.Counts.{counted_many}
use Rattle.geo_headline.specs.Outside.{calls_logged, failures_of}
use Rattle.geo_serve.specs.Drives.{DriveView, HasAllSectors, HasWholeSectors, fails_of}

-- the drive of a number served what these entries say that it was asked: it holds what they say, where it tells that;
-- the bytes that they deliver are those that it held; its sectors stay whole, and as many as they are; its calls are
-- exactly those whose answers they deliver, in their order; exactly the failures that they deliver are its faults; and
-- a disk in memory that has no call to fail delivers none
pub record IsServed (log : List Entry) (disk : ℕ) (before after : DriveView) : Type 0 where
  pub held : after.held ≡ option_map (λ sectors. contents before.sector sectors log disk) before.held
  pub reads : IfSome before.held (λ sectors. AreTrue before.sector sectors log disk)
  pub whole : HasWholeSectors before → HasWholeSectors after
  pub all : HasAllSectors before → HasAllSectors after
  pub asked : after.asked ≡ before.asked ++ calls_logged log disk
  pub failures : after.faults ≡ counted_many (failures_of log disk) before.faults
  pub sector : after.sector ≡ before.sector
  pub count : after.count ≡ before.count
  pub kind : fails_of after ≡ fails_of before
  pub memory : fails_of before ≡ Some [] → failures_of log disk ≡ 0

-- the same of a drive where there is one, both before and after
abbrev pub IsServedAt : List Entry → ℕ → Option DriveView → Option DriveView → Type 0
IsServedAt log disk None None = ⊤
IsServedAt log disk (Some before) (Some after) = IsServed log disk before after
IsServedAt log disk _ _ = ⊥

-- each of the drives, which are numbered from 0
abbrev pub AreServed : List Entry → List DriveView → List DriveView → Type 0
AreServed log before after = (disk : ℕ) → IsServedAt log disk (slice_get before disk) (slice_get after disk)
