-- A sink in memory.
use Rattle.std.specs.Prelude.{ℕ, ◌-◌, min, Bool, true, false, List, ◌++◌, length, Some}
use Rattle.geo_io.specs.Counts.{raised}
use Rattle.geo_io.specs.Sink.{SinkView}

-- the bytes written, how many it can hold, how many a call takes at most, the numbers of the calls that fail, and the
-- calls and faults so
-- far, and whether the last call failed
pub record Store : Type 0 where
  pub written : List ℕ
  pub room : ℕ
  pub piece : ℕ
  pub fails : List ℕ
  pub calls : ℕ
  pub faults : ℕ
  pub failed : Bool

-- a sink in memory holds what it took
abbrev pub sink_view : Store → SinkView
sink_view s = record { taken = s.written; held = Some s.written; faults = s.faults; failed = s.failed }

-- how many of so many bytes a call takes
abbrev pub stored_count : Store → ℕ → ℕ
stored_count s count = min (min count (s.room - length s.written)) s.piece

-- after a call that took these bytes
abbrev pub after_taking : Store → List ℕ → Store
after_taking s bytes = record s { written = s.written ++ bytes; calls = raised s.calls; failed = false }

-- after a call that failed
abbrev pub after_failed_write : Store → Store
after_failed_write s = record s { calls = raised s.calls; faults = raised s.faults; failed = true }
