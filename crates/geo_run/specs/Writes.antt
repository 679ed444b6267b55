-- What is written at the end.
use Rattle.std.specs.Prelude.{◌≡◌, ◌≢◌, ℕ, List, [], ◌++◌}
use Rattle.geo_io.specs.Counts.{FailedAtLast}
use Rattle.geo_headline.specs.Endings.{Ending, status_of, due_text}
use Rattle.geo_headline.specs.Outside.{SinkView}

-- a text is only begun: one write failed, the last, and these are its first bytes, with some left
pub record IsBegun (text written : List ℕ) (before after : SinkView) : Type 0 where
  pub fault : FailedAtLast before.faults after.faults after.failed
  pub rest : List ℕ
  pub some_left : rest ≢ []
  pub front : written ++ rest ≡ text

-- the whole text was written under its status, or, where the sink failed, a first part of it under status 4
pub record Writes (status due : ℕ) (text : List ℕ) (before after : SinkView) : Type 0 where
  pub written : List ℕ
  pub took : after.taken ≡ before.taken ++ written
  pub cut_off : status ≡ 4 → IsBegun text written before after
  pub whole : status ≢ 4 → (status ≡ due) × (written ≡ text)
  pub told : status ≢ 4 → after.faults ≡ before.faults

-- what an ending is due was written
abbrev pub WritesEnding : List ℕ → Ending → ℕ → SinkView → SinkView → Type 0
WritesEnding reported ending status before after =
    Writes status (status_of ending) (due_text reported ending) before after
