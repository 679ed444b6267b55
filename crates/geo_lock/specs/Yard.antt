-- What contracts say of a yard, its passes and its end.
use Rattle.std.specs.Prelude.{◌≡◌, ℕ, ◌<◌, List, [], ◌∷◌, ◌++◌, length, Some, All, Any, slice_get}
use mathlib.Core.List.{IsPrefix}
use Rattle.atomic_table.specs.Seated.{TableId}
use Rattle.geo_lock.specs.Pass.{PassView, IsGoodIn}

-- which yard it is, and the start of its state
pub record YardView (B : Type 0) : Type 0 where
  pub yard : TableId
  pub start : B

module _ {B E : Type 0} where
  -- the pass 0 of a new yard
  abbrev pub first_pass : YardView B → PassView B E
  first_pass y = record { yard = y.yard; start = Some y.start; number = 0; seen = []; own = []; made = 1 }

  -- the pass is of the yard
  pub record IsPassOf (y : YardView B) (p : PassView B E) : Type 0 where
    pub yard : p.yard ≡ y.yard
    pub start : p.start ≡ Some y.start

  -- the entry ends what the pass has seen now, and is one more of its own. What it had seen begins the log before the
  -- entry, of which `then` holds
  pub record Makes (p q : PassView B E) (e : E) (then : List E → Type 0) : Type 0 where
    pub before : List E
    pub ends : q.seen ≡ before ++ e ∷ []
    pub longer : IsPrefix p.seen before
    pub one_more : q.own ≡ p.own ++ e ∷ []
    pub answers : then before

  -- the list has every pass that was made, in order of numbers
  pub record IsWhole (y : YardView B) (ps : List (PassView B E)) : Type 0 where
    pub some_pass : 0 < length ps
    pub of_yard : (k : ℕ) (p : PassView B E) → slice_get ps k ≡ Some p → IsPassOf y p × (p.number ≡ k)
    pub count : (p : PassView B E) → slice_get ps 0 ≡ Some p → p.made ≡ length ps

-- the state at the end: it has the yard's start, its log is lawful, each pass is good in it, and each entry has the
-- number of a pass of the list
pub record IsEnd {L B E : Type 0} (start : L → B) (log : L → List E) (lawful : B → List E → Type 0) (seat_of : E
    → ℕ) (y : YardView B) (ps : List (PassView B E)) (x : L) : Type 0 where
  pub begun : start x ≡ y.start
  pub law : lawful y.start (log x)
  pub good : All (λ p. IsGoodIn seat_of p (log x)) ps
  pub numbers : All (λ e. Any (λ p. p.number ≡ seat_of e) ps) (log x)
