-- What a disk did by the entries of its seat it did by the whole log, and what it did by two parts by both (g_bio(9)).
use Rattle.std.specs.Prelude.{◌≡◌, ℕ, List, ◌++◌, All}
use Rattle.geo_model.specs.declared.step.Entry.{Entry}
use Rattle.geo_model.specs.declared.step.Step.TheVariants as steps
use Rattle.geo_model.specs.Laws.{OfEachLegalLog}
use Rattle.geo_model.specs.Passes.{entries_of_seat}
use Rattle.geo_serve.specs.Drives.{DriveView}
use Rattle.geo_serve.specs.Served.{IsServed}
use Rattle.geo_laws_disks.specs.Deliveries.{deliveries}
use Rattle.geo_laws_disks.specs.DriveLaws.{AreTaken}

-- each Take of a disk is of its seat, and each Deliver of a seat has its Take among the entries of that seat
pub record AreBySeats (seat_of_disk : ℕ → ℕ) (log : List Entry) : Type 0 where
  pub takes : All (λ e. (disk b : ℕ) → e.step ≡ steps.Take disk b → e.seat ≡ seat_of_disk disk) log
  pub delivers : (seat : ℕ) → AreTaken (entries_of_seat seat log) (entries_of_seat seat log)

-- the entries of a disk's seat deliver of the disk what the log does
abbrev pub SeatsDeliver : Type 0
SeatsDeliver =
    OfEachLegalLog (λ opened log.
    (seat_of_disk : ℕ → ℕ) (disk : ℕ) → AreBySeats seat_of_disk log
    → deliveries (entries_of_seat (seat_of_disk disk) log) disk ≡ deliveries log disk)

-- two parts, the second of which has the Takes of its Delivers, deliver of a disk what both do
abbrev pub PartsDeliver : Type 0
PartsDeliver =
    OfEachLegalLog (λ opened log.
    (earlier later : List Entry) (disk : ℕ) → log ≡ earlier ++ later → AreTaken later later
    → deliveries log disk ≡ deliveries earlier disk ++ deliveries later disk)

-- so what a drive did by the entries of its seat it did by the log
abbrev pub SeatsServe : Type 0
SeatsServe =
    OfEachLegalLog (λ opened log.
    (seat_of_disk : ℕ → ℕ) (disk : ℕ) (before after : DriveView) → AreBySeats seat_of_disk log
    → IsServed (entries_of_seat (seat_of_disk disk) log) disk before after → IsServed log disk before after)

-- and a drive that served one part of a log and then the other served both
abbrev pub PartsServe : Type 0
PartsServe =
    OfEachLegalLog (λ opened log.
    (earlier later : List Entry) (disk : ℕ) (before mid after : DriveView) → log ≡ earlier ++ later
    → AreTaken later later → IsServed earlier disk before mid → IsServed later disk mid after
    → IsServed log disk before after)
