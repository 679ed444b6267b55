-- The entries of a log by their seats, and want of memory among answers.
use Rattle.std.specs.Prelude.{◌≡◌, ℕ, List, filter, eqb, Bool, false, Result, Ok, Err}
use mathlib.Core.List.{IsPrefix}

-- the entries of a seat, in order
abbrev pub entries_with_seat : {E : Type 0} → (E → ℕ) → ℕ → List E → List E
entries_with_seat seat_of n log = filter (λ e. eqb (seat_of e) n) log

-- is it a refusal for want of memory
abbrev pub lacks_memory : {O R : Type 0} → (R → Bool) → Result O R → Bool
lacks_memory is_no_memory (Ok o) = false
lacks_memory is_no_memory (Err r) = is_no_memory r

-- the log grew, if at all, by entries of one seat
pub record Grows {E : Type 0} (seat_of : E → ℕ) (number : ℕ) (before after : List E) : Type 0 where
  pub longer : IsPrefix before after
  pub others : (n : ℕ) → (n ≡ number → ⊥) → entries_with_seat seat_of n after ≡ entries_with_seat seat_of n before
