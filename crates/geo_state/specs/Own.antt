-- What is kept of actors' own requests, after one more is out, and after one is out no more.
use Rattle.std.specs.Prelude.{ℕ, ◌+◌, ◌-◌, ◌==◌, min, List, Option, Some, None, slice_get, slice_set, if◌then◌else◌}
use Rattle.geo_state.specs.declared.state.OwnBios.{OwnBios}

-- a number below which there is none, where there were so many from a low number on, and one of this number came
abbrev pub lower : ℕ → ℕ → ℕ → ℕ
lower count low number = if count == 0 then number else min low number

-- with one more, of this number
abbrev pub with_bio : ℕ → OwnBios → OwnBios
with_bio number x = record { count = x.count + 1; low = lower x.count x.low number }

-- with one less
abbrev pub with_one_less : OwnBios → OwnBios
with_one_less x = record { count = x.count - 1; low = x.low }

-- those of an actor changed, if there is the actor
abbrev pub change_own : (OwnBios → OwnBios) → List OwnBios → ℕ → Option OwnBios → List OwnBios
change_own change owns actor None = owns
change_own change owns actor (Some x) = slice_set owns actor (change x)

-- with one more request of an actor
abbrev pub entered : List OwnBios → ℕ → ℕ → List OwnBios
entered owns actor number = change_own (with_bio number) owns actor (slice_get owns actor)

-- with one less
abbrev pub left_by : List OwnBios → ℕ → List OwnBios
left_by owns actor = change_own with_one_less owns actor (slice_get owns actor)
