-- Numbers that can be reaped, over the family that keeps them.
use Rattle.std.specs.Prelude.{◌≡◌, ℕ, ◌==◌, nat_le, Bool, true, false, List, [], ◌∷◌, Option, Some, None, map}
use Rattle.std.proofs.Common.{refl, sym, arith}
use Rattle.std.proofs.lemmas.Bool.{le-leb}
use Rattle.geo_slots.specs.Slots.{with_value, without}
use Rattle.geo_slots.proofs.RowLemmas.{filter-items, with_value-twice}
use Rattle.geo_family.specs.Family.{FamilyView, names, first_child}
use Rattle.geo_handles.specs.Handles.{first_ready}
use Rattle.geo_handles.specs.Inside.{ready_row}

-- one number less
pub ready-without : (n : ℕ) (rows : List (ℕ × Option ℕ))
    → map ready_row (without rows n) ≡ without (map ready_row rows) n
ready-without n rows = sym (filter-items ready_row (λ (row : ℕ × Bool). row.0) (λ row. refl) n rows)

-- another parent of a number, or none
pub ready-set : (n : ℕ) (o : Option ℕ) (rows : List (ℕ × Option ℕ))
    → map ready_row (with_value rows n o) ≡ with_value (map ready_row rows) n (names o 1)
ready-set n o [] = refl
ready-set n o (row ∷ rows) = at (row.0 == n) refl (ready-set n o rows) where
  at : (b : Bool) → (row.0 == n) ≡ b
      → map ready_row (with_value rows n o) ≡ with_value (map ready_row rows) n (names o 1)
      → map ready_row (with_value (row ∷ rows) n o) ≡ with_value (map ready_row (row ∷ rows)) n (names o 1)
  at true e rest = rw (e, rest) refl
  at false e rest = rw (e, rest) refl

-- a number that was taken off and put below parent 1 is there
pub relinked : (old between new : FamilyView) (k id : ℕ)
    → between ≡ record old { children = with_value old.children k None }
    → new ≡ record between { children = with_value between.children k (Some 1) } → k ≡ id
    → new ≡ record old { children = with_value old.children id (Some 1) }
relinked old between new k id off on same = rw (on, off, same, with_value-twice id None (Some 1) old.children) refl

-- the first child of parent 1 is the first number that is noted
pub first-ready : (rows : List (ℕ × Option ℕ)) → first_child rows 1 0 ≡ first_ready (map ready_row rows)
first-ready [] = refl
first-ready (row ∷ rows) = at (names row.1 1) refl (le-leb 0 row.0 (omega arith)) (first-ready rows) where
  at : (b : Bool) → names row.1 1 ≡ b → nat_le 0 row.0 ≡ true
      → first_child rows 1 0 ≡ first_ready (map ready_row rows)
      → first_child (row ∷ rows) 1 0 ≡ first_ready (map ready_row (row ∷ rows))
  at true e le rest = rw (le, e) refl
  at false e le rest = rw (le, e) rest
