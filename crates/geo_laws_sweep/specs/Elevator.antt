-- The elevator by itself: what a disk takes of what waits, while nothing comes.
use Rattle.std.specs.Prelude.{◌≡◌, ℕ, ◌≤◌, Bool, true, false, List, [], ◌∷◌, Some, IsSome, ⊤}
use Rattle.std.specs.List.{AllByRecursion, list_all}
use Rattle.geo_headline.specs.Sweep.{Waiting, before_flush, candidates, next_of}
use Rattle.geo_laws_sweep.specs.SweepLaws.{falls}

-- none of these is behind a place
abbrev pub AreAhead : ℕ → List Waiting → Type 0
AreAhead head xs = AllByRecursion (λ (x : Waiting). head ≤ x.first) xs

-- what stands before the first FLUSH afterwards stood there before, as far as places go
abbrev pub Shrinks : List Waiting → List Waiting → Type 0
Shrinks xs ys = (h : ℕ) → AreAhead h (before_flush xs) → AreAhead h (before_flush ys)

-- from a head, with this waiting, requests that aren't FLUSHes are taken at these places, one after the other
abbrev pub TakesFrom : ℕ → List Waiting → List ℕ → Type 0
TakesFrom head xs [] = ⊤
TakesFrom head xs (p ∷ ps) =
    (x : Waiting) × (ys : List Waiting) × (next_of head (candidates xs) ≡ Some x) × (x.flush ≡ false) × (x.first ≡ p)
    × Shrinks xs ys × TakesFrom p ys ps

-- then the place falls at most once
abbrev pub TakesFallOnce : Type 0
TakesFallOnce = (head : ℕ) (xs : List Waiting) (ps : List ℕ) → TakesFrom head xs ps → falls ps ≤ 1

-- where something waits, something is next
abbrev pub SomeIsNext : Type 0
SomeIsNext = (head : ℕ) (x : Waiting) (xs : List Waiting) → IsSome (next_of head (candidates (x ∷ xs)))

-- what is next waits: what all pass that wait, it passes
abbrev pub NextIsAmong : Type 0
NextIsAmong =
    (test : Waiting → Bool) (head : ℕ) (xs : List Waiting) (x : Waiting) → list_all test xs ≡ true
    → next_of head (candidates xs) ≡ Some x → test x ≡ true
