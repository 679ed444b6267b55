-- The sectors of a disk stay whole, and stay as many.
use Rattle.std.specs.Prelude.{◌≡◌, ℕ, zero, suc, ◌+◌, ◌-◌, ◌*◌, ◌==◌, ◌≤◌, nat_le, Bool, true, false, ◌||◌, List, ◌++◌, length, take, drop, replicate, All, Option, Some, None, IfSome, IsTrue, if◌then◌else◌}
use Rattle.std.proofs.Common.{refl, sym, ◌∙◌, ap, subst, arith, length-drop, length-take-le}
use Rattle.std.proofs.lemmas.List.{length-replicate}
use Rattle.std.proofs.Math.Nat.{mul-le-mul_right, suc-mul}
use Rattle.std.proofs.lemmas.List.Elements.{All-append, All-cons, All-drop, All-nil, All-replicate, All-take}
use Rattle.geo_base.specs.Sectors.{cut_into, with_sectors, zero_sectors}
use Rattle.geo_base.specs.declared.request.BioCmd.{BioCmd}
use Rattle.geo_base.specs.declared.request.BioCmd.TheVariants as cmds
use Rattle.geo_disk.proofs.SectorLemmas.{length-cut_into, with_sectors_length}
use Rattle.geo_model.specs.declared.step.DeviceResult.{DeviceResult}
use Rattle.geo_model.specs.declared.step.DeviceResult.TheVariants as devices
use Rattle.geo_model.specs.declared.step.Request.{Request}
use Rattle.geo_model.specs.Contents.{after_command, done_sectors}
use Rattle.geo_model.specs.Words.{is_flush, is_read, is_write}
use Rattle.geo_serve.specs.Drives.{DriveView, HasAllSectors, HasWholeSectors}
use Rattle.geo_serve.specs.Serve.{CanServe, fits_request, held_after}

-- each sector has so many bytes
abbrev pub AreOf : ℕ → List (List ℕ) → Type 0
AreOf size sectors = All (λ s. length s ≡ size) sectors

-- sectors that are cut of enough bytes have their size
pub cut_whole : (n size : ℕ) (bytes : List ℕ) → n * size ≤ length bytes → AreOf size (cut_into n size bytes)
cut_whole zero size bytes enough = All-nil (λ s. length s ≡ size)
cut_whole (suc n) size bytes enough =
    let more : suc n * size ≡ n * size + size = suc-mul n size in
    let left : length (drop size bytes) ≡ length bytes - size = length-drop size bytes in
    All-cons (λ s. length s ≡ size) (take size bytes) (cut_into n size (drop size bytes))
    (length-take-le size bytes (omega (arith, more, enough)))
    (cut_whole n size (drop size bytes) (omega (arith, more, left, enough)))

-- sectors of zeros have their size
pub zeros_whole : (n size : ℕ) → AreOf size (zero_sectors n size)
zeros_whole n size = All-replicate (λ s. length s ≡ size) n (replicate size 0) (length-replicate size 0)

-- sectors with whole ones in place of others are whole
pub with_whole : (size first : ℕ) (held news : List (List ℕ)) → AreOf size held → AreOf size news
    → AreOf size (with_sectors held first news)
with_whole size first held news old new =
    let P : List ℕ → Type 0 = λ s. length s ≡ size in
    All-append P (take first held ++ news) (drop (first + length news) held)
    (All-append P (take first held) news (All-take P first held old) new) (All-drop P (first + length news) held old)

-- what a request that a disk can be asked does to its sectors, if it did no more of them than were asked
pub record Done (size count n : ℕ) (q : Request) : Type 0 where
  pub inside : q.first + q.count ≤ count
  pub bytes : IsTrue (is_write q.cmd) → length q.bytes ≡ q.count * size
  pub part : n ≤ q.count

-- they stay whole
pub whole_after : (size count n : ℕ) (q : Request) (held : List (List ℕ)) → Done size count n q → AreOf size held
    → (cmd : BioCmd) → q.cmd ≡ cmd → AreOf size (after_command size cmd q n held)
whole_after size count n q held d old cmds.Write is =
    let bytes : length q.bytes ≡ q.count * size = d.bytes (ap is_write is) in
    let upper : n * size ≤ q.count * size = mul-le-mul_right size d.part in
    with_whole size q.first held (cut_into n size q.bytes) old
    (cut_whole n size q.bytes (omega (arith, bytes, upper)))
whole_after size count n q held d old cmds.Delete is =
    with_whole size q.first held (zero_sectors n size) old (zeros_whole n size)
whole_after size count n q held d old cmds.Read is = old
whole_after size count n q held d old cmds.Flush is = old

-- they stay as many
pub many_after : (size count n : ℕ) (q : Request) (held : List (List ℕ)) → Done size count n q → length held ≡ count
    → (cmd : BioCmd) → length (after_command size cmd q n held) ≡ count
many_after size count n q held d old cmds.Write =
    let many : length (cut_into n size q.bytes) ≡ n = length-cut_into n size q.bytes in
    with_sectors_length held q.first (cut_into n size q.bytes) (omega (arith, many, d.inside, d.part, old)) ∙ old
many_after size count n q held d old cmds.Delete =
    let many : length (zero_sectors n size) ≡ n = length-replicate n (replicate size 0) in
    with_sectors_length held q.first (zero_sectors n size) (omega (arith, many, d.inside, d.part, old)) ∙ old
many_after size count n q held d old cmds.Read = old
many_after size count n q held d old cmds.Flush = old

-- an answer that fits a request did no more sectors than were asked
done_fits : (size : ℕ) (q : Request) (got : DeviceResult) → IsTrue (fits_request size q got)
    → done_sectors q got ≤ q.count
done_fits size q (devices.Bytes bytes) fits = omega arith
done_fits size q devices.Done fits = omega arith
done_fits size q (devices.Failed done) fits = by (is_read q.cmd || is_flush q.cmd) fits
  where
    by : (c : Bool) → IsTrue (if c then done == 0 else nat_le done q.count) → done ≤ q.count
    by true none = grind arith
    by false some = grind arith

-- a request that a disk can be asked, by an answer that fits it
done : (q : Request) (old : DriveView) (got : DeviceResult) → CanServe old q → IsTrue (fits_request old.sector q got)
    → Done old.sector old.count (done_sectors q got) q
done q old got can fits =
    record { inside = can.inside; bytes = can.bytes; part = done_fits old.sector q got fits }

-- a drive that served tells whole sectors, if it did
pub kept_whole : (q : Request) (old new : DriveView) (got : DeviceResult) → CanServe old q
    → IsTrue (fits_request old.sector q got) → new.held ≡ held_after old.sector q got old.held
    → new.sector ≡ old.sector → HasWholeSectors old → HasWholeSectors new
kept_whole q old new got can fits held same whole =
    subst (λ z. IfSome new.held (AreOf z)) (sym same) (subst (λ o. IfSome o (AreOf old.sector)) (sym held)
    (by old.held whole))
  where
    by : (o : Option (List (List ℕ))) → IfSome o (AreOf old.sector)
        → IfSome (held_after old.sector q got o) (AreOf old.sector)
    by None w = tt
    by (Some sectors) w =
        whole_after old.sector old.count (done_sectors q got) q sectors (done q old got can fits) w q.cmd refl

-- it tells as many sectors as it has, if it did
pub kept_all : (q : Request) (old new : DriveView) (got : DeviceResult) → CanServe old q
    → IsTrue (fits_request old.sector q got) → new.held ≡ held_after old.sector q got old.held
    → new.count ≡ old.count → HasAllSectors old → HasAllSectors new
kept_all q old new got can fits held same all =
    subst (λ n. IfSome new.held (λ sectors. length sectors ≡ n)) (sym same)
    (subst (λ o. IfSome o (λ sectors. length sectors ≡ old.count)) (sym held) (by old.held all))
  where
    by : (o : Option (List (List ℕ))) → IfSome o (λ sectors. length sectors ≡ old.count)
        → IfSome (held_after old.sector q got o) (λ sectors. length sectors ≡ old.count)
    by None a = tt
    by (Some sectors) a =
        many_after old.sector old.count (done_sectors q got) q sectors (done q old got can fits) a q.cmd
