-- A source in memory.
use Rattle.std.specs.Prelude.{ℕ, ◌==◌, min, Bool, true, false, List, ◌++◌, length, take, drop, Some}
use Rattle.geo_io.specs.Counts.{raised}
use Rattle.geo_io.specs.Source.{SourceView}

-- the bytes given and those left, whether a read found the end, how many a call gives at most, the numbers of the calls
-- that fail, the calls and faults so far, and whether the last call failed
pub record Feed : Type 0 where
  pub given : List ℕ
  pub ended : Bool
  pub left : List ℕ
  pub piece : ℕ
  pub fails : List ℕ
  pub calls : ℕ
  pub faults : ℕ
  pub failed : Bool

-- a source in memory tells what is left, and counts its reads
abbrev pub source_view : Feed → SourceView
source_view f = record {
  given = f.given;
  ended = f.ended;
  left = Some f.left;
  reads = f.calls;
  faults = f.faults;
  failed = f.failed;
}

-- how many bytes a call with so much room gives
abbrev pub fed_count : Feed → ℕ → ℕ
fed_count f room = min (min (length f.left) room) f.piece

-- after a call that gave so many bytes
abbrev pub after_read : Feed → ℕ → Feed
after_read f n =
    record f {
      given = f.given ++ take n f.left;
      ended = n == 0;
      left = drop n f.left;
      calls = raised f.calls;
      failed = false;
    }

-- after a call that failed
abbrev pub after_failed_read : Feed → Feed
after_failed_read f = record f { calls = raised f.calls; faults = raised f.faults; failed = true }
