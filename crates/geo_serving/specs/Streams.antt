-- Messages that are read or written only in part.
use Rattle.std.specs.Prelude.{◌≡◌, ℕ, ◌<◌, ◌≤◌, List, [], length, take}
use Rattle.geo_connection.specs.declared.stage.Heard.{Heard}
use Rattle.geo_connection.specs.declared.stage.Stage.{Stage}
use Rattle.geo_io.specs.Counts.{FailedAtLast}
use Rattle.geo_io.specs.Sink.{SinkView, Takes}
use Rattle.geo_io.specs.Source.{Gives, IsAtEnd, SourceView}
use Rattle.geo_serving.specs.declared.halt.Halt.{Halt}
use Rattle.geo_serving.specs.declared.halt.Halt.TheVariants as halts

-- why nothing more is read: the end was found, or a read failed, of all the only one
abbrev pub IsCause : Halt → SourceView → SourceView → Type 0
IsCause halts.Gone old new = IsAtEnd new
IsCause halts.ReadFault old new = FailedAtLast old.faults new.faults new.failed
IsCause _ old new = ⊥

-- only the first bytes of a message of so many were read
pub record CutsShort (halt : Halt) (count : ℕ) (old new : SourceView) : Type 0 where
  pub bytes : List ℕ
  pub fewer : length bytes < count
  pub gives : Gives old bytes new
  pub cause : IsCause halt old new

-- the same, or memory was wanting for the message, and nothing was read
abbrev pub ReadsShort : Halt → ℕ → SourceView → SourceView → Type 0
ReadsShort halts.NoMemory count old new = new ≡ old
ReadsShort halt count old new = CutsShort halt count old new

-- only the first bytes were written: a write failed, of all the only one
pub record Breaks (bytes : List ℕ) (old new : SinkView) : Type 0 where
  pub count : ℕ
  pub fewer : count < length bytes
  pub takes : Takes old (take count bytes) new
  pub fault : FailedAtLast old.faults new.faults new.failed

abbrev pub WritesShort : Halt → List ℕ → SinkView → SinkView → Type 0
WritesShort halts.WriteFault bytes old new = Breaks bytes old new
WritesShort _ bytes old new = ⊥

-- the same of what is said in the handshake; or memory was wanting for it, and nothing was written
abbrev pub SaysShort : Halt → List ℕ → SinkView → SinkView → Type 0
SaysShort halts.NoMemory bytes old new = new ≡ old
SaysShort halt bytes old new = WritesShort halt bytes old new

-- all that is said was written
pub record SaysWhole (heard : Heard) (next : Stage) (old new : SinkView) : Type 0 where
  pub takes : Takes old heard.sent new
  pub leads : next ≡ heard.next

-- one read, to a place in a buffer and on: what was read before stands in front
pub record IsReadOn (done now : ℕ) (old : SourceView) (before : List ℕ) (new : SourceView) (after : List ℕ)
    : Type 0 where
  pub on : done < now
  pub inside : now ≤ length before
  pub grown : (first : SourceView) → Gives first (take done before) old → Gives first (take now after) new

-- the end was found, or the read failed, and nothing was read
pub record BreaksAt (halt : Halt) (old new : SourceView) : Type 0 where
  pub gives : Gives old [] new
  pub cause : IsCause halt old new
