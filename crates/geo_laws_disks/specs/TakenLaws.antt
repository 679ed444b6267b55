-- What a seat took stands as it was taken, whatever other seats do (g_bio(9)).
use Rattle.std.specs.Prelude.{◌≡◌, ◌≢◌, ℕ, List, ◌∷◌, ◌++◌, slice_get, Some, Ok, IsTrue, All}
use Rattle.geo_model.specs.declared.step.DeviceResult.{DeviceResult}
use Rattle.geo_model.specs.declared.step.Entry.{Entry}
use Rattle.geo_model.specs.declared.step.Outcome.{Outcome}
use Rattle.geo_model.specs.declared.step.Outcome.TheVariants as outcomes
use Rattle.geo_model.specs.declared.step.Phase.TheVariants as phases
use Rattle.geo_model.specs.declared.step.Request.{Request}
use Rattle.geo_model.specs.declared.step.Step.{Step}
use Rattle.geo_model.specs.declared.step.Step.TheVariants as steps
use Rattle.geo_model.specs.World.{World, Bio, HeaderDisk, bio_at}
use Rattle.geo_model.specs.Bios.{sector_of_bio}
use Rattle.geo_model.specs.Fitting.{Firm}
use Rattle.geo_model.specs.Step.{is_enabled, step}
use Rattle.geo_model.specs.Laws.{OfEachLegalLog}
use Rattle.geo_model.specs.Log.{replay}
use Rattle.geo_serve.specs.Serve.{fits_request}

-- a bio that a seat took stands, Busy at the seat: its command and its length are those of its Take, and so is the
-- sector size of the provider to which it goes
pub record StandsTaken (w : World) (seat : ℕ) (sector : ℕ) (x : Bio) : Type 0 where
  pub now : Bio
  pub at : bio_at w x.number ≡ Some now
  pub busy : now.phase ≡ phases.Busy seat
  pub cmd : now.cmd ≡ x.cmd
  pub len : now.len ≡ x.len
  pub sector_is : sector_of_bio w now ≡ sector

-- one step of another seat leaves it so
abbrev pub OthersLeaveIt : Type 0
OthersLeaveIt =
    (w v : World) (seat other : ℕ) (s : Step) (o : Outcome) (sector : ℕ) (x : Bio)
    → Firm w → other ≢ seat → step w other s ≡ Ok (v, o) → StandsTaken w seat sector x → StandsTaken v seat sector x

-- an answer that a seat can deliver, it can deliver after a step of another seat
abbrev pub DeliversStayEnabled : Type 0
DeliversStayEnabled =
    (w v : World) (seat other b : ℕ) (s : Step) (o : Outcome) (got : DeviceResult)
    → Firm w → other ≢ seat → step w other s ≡ Ok (v, o) → IsTrue (is_enabled w seat (steps.Deliver b got))
    → IsTrue (is_enabled v seat (steps.Deliver b got))

-- in each legal log an answer that fits the request of a Take can be delivered by the seat that took the bio, as long
-- as the Take is that seat's last entry, whatever other seats did since
abbrev pub TakenCanBeAnswered : Type 0
TakenCanBeAnswered =
    OfEachLegalLog (λ opened log.
    (earlier later : List Entry) (e : Entry) (disk b : ℕ) (q : Request) (header : HeaderDisk) (got : DeviceResult)
    → log ≡ earlier ++ e ∷ later → e.step ≡ steps.Take disk b → e.outcome ≡ outcomes.Asked q
    → All (λ x. x.seat ≢ e.seat) later → slice_get opened.disks disk ≡ Some header
    → IsTrue (fits_request header.sector q got)
    → IsTrue (is_enabled (replay opened log) e.seat (steps.Deliver b got)))
