-- The course of a session over its streams: steps one behind the other, of which exactly what they read was read, and
-- exactly what they say was written.
use Rattle.std.specs.Prelude.{◌≡◌, ℕ, List, [], ◌++◌}
use Rattle.geo_io.specs.Sink.{SinkView, Takes}
use Rattle.geo_io.specs.Source.{Gives, GivesAtMost, SourceView}
use Rattle.geo_serving.specs.declared.halt.Halt.{Halt}
use Rattle.geo_serving.specs.declared.halt.Halt.TheVariants as halts
use Rattle.geo_serving.specs.Points.{Point}
use Rattle.geo_serving.specs.Steps.{Step, awaited_at}
use Rattle.geo_serving.specs.Streams.{Breaks, CutsShort}

-- one step
pub record Makes (from : Point) (source : SourceView) (sink : SinkView) (to : Point) (read : SourceView)
    (written : SinkView) : Type 0 where
  pub bytes : List ℕ
  pub said : List ℕ
  pub step : Step from bytes said to
  pub gives : Gives source bytes read
  pub takes : Takes sink said written

-- any number of steps, with all that they read and say
pub data Steps (from : Point) : List ℕ → List ℕ → Point → Type 0 where
  none : Steps from [] [] from
  and_one : (read said bytes sent : List ℕ) (at to : Point) → Steps from read said at → Step at bytes sent to
      → Steps from (read ++ bytes) (said ++ sent) to

pub record Course (from : Point) (source : SourceView) (sink : SinkView) (to : Point) (read : SourceView)
    (written : SinkView) : Type 0 where
  pub bytes : List ℕ
  pub said : List ℕ
  pub steps : Steps from bytes said to
  pub gives : Gives source bytes read
  pub takes : Takes sink said written

-- Where a session halts

-- the bytes of the step were read, and what it says was written only in part
pub record BreaksOff (at : Point) (source : SourceView) (sink : SinkView) (read : SourceView) (written : SinkView)
    : Type 0 where
  pub bytes : List ℕ
  pub said : List ℕ
  pub next : Point
  pub step : Step at bytes said next
  pub gives : Gives source bytes read
  pub breaks : Breaks said sink written

-- the next step isn't made: the client is gone, a read failed, or a write did; where memory was wanting, nothing of the
-- step was written
abbrev pub HaltsAt : Point → Halt → SourceView → SinkView → SourceView → SinkView → Type 0
HaltsAt at halts.WriteFault source sink read written = BreaksOff at source sink read written
HaltsAt at halts.NoMemory source sink read written = GivesAtMost source (awaited_at at) read × (written ≡ sink)
HaltsAt at halt source sink read written = CutsShort halt (awaited_at at) source read × (written ≡ sink)

-- a session went so far, and halted there
pub record Halted (from : Point) (source : SourceView) (sink : SinkView) (halt : Halt) (read : SourceView)
    (written : SinkView) : Type 0 where
  pub at : Point
  pub come : SourceView
  pub told : SinkView
  pub course : Course from source sink at come told
  pub halts : HaltsAt at halt come told read written
