-- A source as its calls show it: what it gave, and what is left in it where it tells that.
use Rattle.std.specs.Prelude.{◌≡◌, ℕ, ◌<◌, ◌≤◌, Bool, IsTrue, List, [], ◌++◌, length, Option, Some, None}

-- a source at one moment
pub record SourceView : Type 0 where
  -- the bytes that its reads gave so far, in order
  pub given : List ℕ
  -- whether the last read that didn't fail found the end
  pub ended : Bool
  -- the bytes left, where it tells them
  pub left : Option (List ℕ)
  -- how often it was read, as far as it counts that
  pub reads : ℕ
  -- how many reads failed; each counts one, and no call that went through counts
  pub faults : ℕ
  -- whether the last read failed
  pub failed : Bool

-- these bytes were taken from the front; a source that doesn't tell what is left goes on not telling
abbrev pub Goes : Option (List ℕ) → List ℕ → Option (List ℕ) → Type 0
Goes None bytes None = Unit {0}
Goes None bytes (Some new) = ⊥
Goes (Some old) bytes None = ⊥
Goes (Some old) bytes (Some new) = old ≡ bytes ++ new

-- these bytes were given, and taken from the front of what was left
pub record Gives (old : SourceView) (bytes : List ℕ) (new : SourceView) : Type 0 where
  pub given : new.given ≡ old.given ++ bytes
  pub goes : Goes old.left bytes new.left

-- nothing was given, found or taken
pub record GivesNothing (old new : SourceView) : Type 0 where
  pub given : new.given ≡ old.given
  pub ended : new.ended ≡ old.ended
  pub left : new.left ≡ old.left

-- nothing is left
abbrev pub IsEnd : Option (List ℕ) → Type 0
IsEnd None = Unit {0}
IsEnd (Some left) = left ≡ []

-- something is left
abbrev pub IsMore : Option (List ℕ) → Type 0
IsMore None = Unit {0}
IsMore (Some left) = 0 < length left

-- its end was found, and nothing is left
pub record IsAtEnd (source : SourceView) : Type 0 where
  pub ended : IsTrue source.ended
  pub none_left : IsEnd source.left

-- so many bytes were given
pub record GivesMany (old : SourceView) (count : ℕ) (new : SourceView) : Type 0 where
  pub bytes : List ℕ
  pub many : length bytes ≡ count
  pub gives : Gives old bytes new

-- at most so many bytes were given
pub record GivesAtMost (old : SourceView) (limit : ℕ) (new : SourceView) : Type 0 where
  pub bytes : List ℕ
  pub few : length bytes ≤ limit
  pub gives : Gives old bytes new
