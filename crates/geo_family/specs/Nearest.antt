-- The nearest child of a parent, in one direction of the numbers.
use Rattle.std.specs.Prelude.{◌≡◌, ℕ, ◌<◌, ◌≤◌, ◌==◌, Option, Some, None, if◌then◌else◌}

-- f names the parent of each number: among the numbers of S, in the order R, this is the first one whose parent is p
abbrev pub IsNearest : (ℕ → Type 0) → (ℕ → ℕ → Type 0) → (ℕ → Option ℕ) → ℕ → Option ℕ → Type 0
IsNearest S R f p None = (d : ℕ) → S d → f d ≡ Some p → ⊥
IsNearest S R f p (Some c) = S c × (f c ≡ Some p) × ((d : ℕ) → S d → R d c → f d ≡ Some p → ⊥)

-- a function with another value at a number
abbrev pub put : (ℕ → Option ℕ) → ℕ → Option ℕ → ℕ → Option ℕ
put f c o d = if d == c then o else f d

-- the same at a number that may be there
abbrev pub put_at : (ℕ → Option ℕ) → Option ℕ → Option ℕ → ℕ → Option ℕ
put_at f None o = f
put_at f (Some c) o = put f c o

-- the same at a number, where another one isn't there
abbrev pub put_unless : (ℕ → Option ℕ) → Option ℕ → ℕ → Option ℕ → ℕ → Option ℕ
put_unless f None p o = put f p o
put_unless f (Some c) p o = f

-- for each child, the next one of its parent in the order R
abbrev pub NextIsNearest : (ℕ → ℕ → Type 0) → (ℕ → Option ℕ) → (ℕ → Option ℕ) → Type 0
NextIsNearest R f next = (c p : ℕ) → f c ≡ Some p → IsNearest (λ d. R c d) R f p (next c)

-- for each parent, the first one of all its children in the order R
abbrev pub IsFirst : (ℕ → ℕ → Type 0) → (ℕ → Option ℕ) → (ℕ → Option ℕ) → Type 0
IsFirst R f first = (p : ℕ) → IsNearest (λ d. Unit {0}) R f p (first p)

-- the two orders of numbers
abbrev pub Up : ℕ → ℕ → Type 0
Up a b = a < b

-- downwards: the greater number comes first
abbrev pub Down : ℕ → ℕ → Type 0
Down a b = b < a

-- a child of the parent that isn't above any of those from a number on; None only where there is none
abbrev pub IsOnWayUp : (ℕ → Option ℕ) → ℕ → ℕ → Option ℕ → Type 0
IsOnWayUp f p number None = (d : ℕ) → number ≤ d → f d ≡ Some p → ⊥
IsOnWayUp f p number (Some c) = (f c ≡ Some p) × ((d : ℕ) → number ≤ d → f d ≡ Some p → c ≤ d)

-- a child of the parent among the numbers of S, or none
abbrev pub IsChildIn : (ℕ → Type 0) → (ℕ → Option ℕ) → ℕ → Option ℕ → Type 0
IsChildIn S f p None = Unit {0}
IsChildIn S f p (Some c) = S c × (f c ≡ Some p)

-- the place of a number is between two children that may be there: one below it, and one that isn't
abbrev pub IsBetween : (ℕ → Option ℕ) → ℕ → ℕ → Option ℕ → Option ℕ → Type 0
IsBetween f p number low high = IsChildIn (λ d. d < number) f p low × IsChildIn (λ d. number ≤ d) f p high
