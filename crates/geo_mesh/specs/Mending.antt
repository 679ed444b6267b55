-- Functions over the numbers of geoms that rise along a graph, and how they are mended after the graph changed. The
-- graph is given by the geoms directly below each geom.
use Rattle.std.specs.Prelude.{◌≡◌, ◌⊎◌, ℕ, zero, suc, ◌+◌, ◌<◌, ◌≤◌, max, Bool, true, List, [], ◌∷◌, map}
use Rattle.geo_model.specs.Words.{largest}

-- whether a number is in a list
abbrev pub IsAmong : List ℕ → ℕ → Type 0
IsAmong [] n = ⊥
IsAmong (m ∷ ms) n = (m ≡ n) ⊎ IsAmong ms n

-- one more than the largest value below, and 1 where nothing is below
abbrev pub above : (ℕ → List ℕ) → (ℕ → ℕ) → ℕ → ℕ
above below f g = 1 + largest (map f (below g))

-- each value is one more than the largest below
abbrev pub AreLocal : (ℕ → List ℕ) → (ℕ → ℕ) → Type 0
AreLocal below f = (g : ℕ) → f g ≡ above below f g

-- no value is smaller than one more than the largest below
abbrev pub AreEnough : (ℕ → List ℕ) → (ℕ → ℕ) → Type 0
AreEnough below f = (g : ℕ) → above below f g ≤ f g

-- the value of a geom is no greater than one more than the largest below
abbrev pub IsLow : (ℕ → List ℕ) → (ℕ → ℕ) → ℕ → Type 0
IsLow below f g = f g ≤ above below f g

-- the height over so many levels
abbrev pub height : (ℕ → List ℕ) → ℕ → ℕ → ℕ
height below zero g = 1
height below (suc levels) g = 1 + largest (map (height below levels) (below g))

-- each value is greater than those below
abbrev pub ExceedsThoseBelow : (ℕ → List ℕ) → (ℕ → ℕ) → Type 0
ExceedsThoseBelow below f = (x h : ℕ) → IsAmong (below x) h → f h < f x

-- whether one is the other or stands above it: it has each property that the other has, and that goes upwards
abbrev pub StandsAbove : (ℕ → List ℕ) → ℕ → ℕ → Type 0
StandsAbove below x g = (has : ℕ → Bool) → has g ≡ true
    → ((y h : ℕ) → IsAmong (below y) h → has h ≡ true → has y ≡ true) → has x ≡ true

-- from `f` to `r` values only grew: each that grew stands above the geom and again has greater ones above it; no
-- value is greater than it has to be, where the geom itself may have `least`
pub record Lifted (below : ℕ → List ℕ) (geom least : ℕ) (f r : ℕ → ℕ) : Type 0 where
  pub grows : (x : ℕ) → f x ≤ r x
  pub mended : (x h : ℕ) → IsAmong (below x) h → f h < r h → r h < r x
  pub here : r geom ≤ max (max (f geom) least) (above below r geom)
  pub bounded : (x : ℕ) → (x ≡ geom → ⊥) → r x ≤ max (f x) (above below r x)
  pub reached : (x : ℕ) → f x < r x → StandsAbove below x geom

-- from `f` to `r` values only fell, not below what they have to be; where one was no greater than it has to be it
-- still is
pub record Lowered (below : ℕ → List ℕ) (f r : ℕ → ℕ) : Type 0 where
  pub falls : (x : ℕ) → r x ≤ f x
  pub enough : AreEnough below r
  pub stays : (x : ℕ) → IsLow below f x → IsLow below r x

-- the second graph is the first with one more geom below a geom
pub record Joined (apart joined : ℕ → List ℕ) (geom under : ℕ) : Type 0 where
  pub here : (f : ℕ → ℕ) → largest (map f (joined geom)) ≡ max (largest (map f (apart geom))) (f under)
  pub others : (f : ℕ → ℕ) (x : ℕ) → (x ≡ geom → ⊥) → largest (map f (joined x)) ≡ largest (map f (apart x))

-- the values with one more geom below a geom, which doesn't stand below it already
pub record IsJoinable (below : ℕ → List ℕ) (upper lower : ℕ) (f : ℕ → ℕ) : Type 0 where
  pub apart : StandsAbove below lower upper → ⊥
  pub local : (joined : ℕ → List ℕ) → Joined below joined upper lower → AreLocal joined f
