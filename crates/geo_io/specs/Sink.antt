-- A sink as its calls show it: what it took, and what it holds where it tells that.
use Rattle.std.specs.Prelude.{◌≡◌, ℕ, Bool, List, ◌++◌, Option, Some, None}

-- a sink at one moment
pub record SinkView : Type 0 where
  -- the bytes that its writes took so far, in order
  pub taken : List ℕ
  -- the bytes that it holds, where it tells them
  pub held : Option (List ℕ)
  -- how many writes failed; each counts one, and no call that went through counts
  pub faults : ℕ
  -- whether the last write failed
  pub failed : Bool

-- these bytes were added at the end; a sink that doesn't tell what it holds goes on not telling
abbrev pub Grows : Option (List ℕ) → List ℕ → Option (List ℕ) → Type 0
Grows None bytes None = Unit {0}
Grows None bytes (Some new) = ⊥
Grows (Some old) bytes None = ⊥
Grows (Some old) bytes (Some new) = new ≡ old ++ bytes

-- these bytes were taken, and added at the end of what is held
pub record Takes (old : SinkView) (bytes : List ℕ) (new : SinkView) : Type 0 where
  pub taken : new.taken ≡ old.taken ++ bytes
  pub grows : Grows old.held bytes new.held

-- nothing was taken, and what is held stays
pub record TakesNothing (old new : SinkView) : Type 0 where
  pub taken : new.taken ≡ old.taken
  pub held : new.held ≡ old.held
