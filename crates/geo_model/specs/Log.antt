-- The log: what was done, in order, and the world that it leads to.
use Rattle.std.specs.Prelude.{◌≡◌, ℕ, ◌+◌, ◌≤◌, nat_lt, Bool, false, List, [], ◌∷◌, ◌++◌, length, count_by, Ok, Err, IsOkAnd, ⊤}
use Rattle.geo_base.specs.declared.limits.TheConstants.{MAX_LOG_ENTRIES}
use Rattle.geo_model.specs.declared.step.Entry.{Entry}
use Rattle.geo_model.specs.declared.step.Step.{Step}
use Rattle.geo_model.specs.World.{World, is_busy}
use Rattle.geo_model.specs.Step.{Answer, step}

-- the world after an answer; a step that isn't enabled changes nothing
abbrev pub world_after : World → Answer → World
world_after w (Ok made) = made.0
world_after w (Err found) = w

-- the world after an entry, and after a log
abbrev pub after_entry : World → Entry → World
after_entry w e = world_after w (step w e.seat e.step)

abbrev pub replay : World → List Entry → World
replay w [] = w
replay w (e ∷ log) = replay (after_entry w e) log

-- the log that these seats and steps make, up to the first step that isn't enabled
abbrev pub entry_by : ℕ × Step → Answer → List Entry → List Entry
entry_by item (Ok made) log = record { seat = item.0; step = item.1; outcome = made.1 } ∷ log
entry_by item (Err found) log = []

abbrev pub made : World → List (ℕ × Step) → List Entry
made w [] = []
made w (item ∷ rest) = entry_by item (step w item.0 item.1) (made (world_after w (step w item.0 item.1)) rest)

-- the step of the entry is enabled, and its outcome is what the step does
abbrev pub IsMade : World → Entry → Type 0
IsMade w e = IsOkAnd (step w e.seat e.step) (λ made. made.1 ≡ e.outcome)

-- each entry is what its step does in the world before it
abbrev pub Legal : World → List Entry → Type 0
Legal w [] = ⊤
Legal w (e ∷ log) = IsMade w e × Legal (after_entry w e) log

-- an entry with the world before it
pub record Moment : Type 0 where
  pub before : World
  pub entry : Entry

-- the entries of a log, each with the world before it
abbrev pub moments : World → List Entry → List Moment
moments w [] = []
moments w (e ∷ log) = record { before = w; entry = e } ∷ moments (after_entry w e) log

-- the log is this one, then the entry, then more
abbrev pub IsSplitBy : List Entry → List Entry → Entry → Type 0
IsSplitBy log earlier e = (later : List Entry) × (log ≡ earlier ++ e ∷ later)

-- one log begins another
abbrev pub IsPrefixOf : List Entry → List Entry → Type 0
IsPrefixOf earlier log = (later : List Entry) × (log ≡ earlier ++ later)

-- the places of the log that are owed: one for the close of each handle, one for the Deliver of each Busy bio
abbrev pub owed : World → ℕ
owed w = length w.handles + count_by (λ x. is_busy x.phase) w.bios

-- there is a place in the log for everything that is owed one
abbrev pub Fits : World → List Entry → Type 0
Fits opened log = length log + owed (replay opened log) ≤ MAX_LOG_ENTRIES

-- a log that a mesh can have
abbrev pub IsLawful : World → List Entry → Type 0
IsLawful opened log = Legal opened log × Fits opened log

-- whether an answer would bring the log and what is then owed above the limit
abbrev pub is_full_after : ℕ → Answer → Bool
is_full_after entries (Ok made) = nat_lt MAX_LOG_ENTRIES (entries + 1 + owed made.0)
is_full_after entries (Err found) = false

-- whether the step is enabled and there is no place for it in the log
unfoldable pub is_full : List Entry → World → ℕ → Step → Bool
is_full log w seat s = is_full_after (length log) (step w seat s)
