-- Where a step finds no place in the log, the log is nearly as long as it can be, and so it stays.
use Rattle.std.specs.Prelude.{ℕ, ◌+◌, ◌-◌, ◌≤◌, List, ◌++◌, length, IsTrue}
use Rattle.geo_base.specs.declared.limits.TheConstants.{MAX_LOG_ENTRIES}
use Rattle.geo_model.specs.declared.step.Entry.{Entry}
use Rattle.geo_model.specs.declared.step.Step.{Step}
use Rattle.geo_model.specs.World.{World}
use Rattle.geo_model.specs.Log.{is_full, owed, replay}
use Rattle.geo_model.specs.Fitting.{Firm}

-- where a step has no place, the log with what is owed is at its limit but for one place
abbrev pub FullLogsAreLong : Type 0
FullLogsAreLong =
    (log : List Entry) (w : World) (seat : ℕ) (s : Step) → Firm w → IsTrue (is_full log w seat s)
    → MAX_LOG_ENTRIES - 1 ≤ length log + owed w

-- the length of a log with the places that are owed after it doesn't fall as the log grows
abbrev pub OwedNeverFalls : Type 0
OwedNeverFalls =
    (opened : World) (earlier later : List Entry) → Firm opened
    → length earlier + owed (replay opened earlier)
    ≤ length (earlier ++ later) + owed (replay opened (earlier ++ later))
