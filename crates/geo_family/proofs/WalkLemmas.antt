-- Walks up over the children of a parent.
use Rattle.std.proofs.Common.{◌≡◌, ℕ, ◌+◌, ◌-◌, ◌<◌, ◌≤◌, List, [], ◌∷◌, Bool, true, false, Some, None, Option, refl, ◌∙◌, subst, rules}
use Rattle.std.specs.Prelude.{◌&&◌, nat_le}
use Rattle.std.specs.Option.{option_map_or}
use Rattle.std.proofs.lemmas.Bool.{eq-eqb}
use Rattle.geo_slots.specs.Slots.{IsRising}
use Rattle.geo_slots.proofs.RowLemmas.{value_at_below}
use Rattle.geo_family.specs.declared.family.Link.{Link}
use Rattle.geo_family.specs.Nearest.{IsNearest, IsOnWayUp, Up}
use Rattle.geo_family.specs.Family.{names, first_child}
use Rattle.geo_family.specs.Links.{part_at, parent_of, child_rows}

module _ (f : ℕ → Option ℕ) (p n : ℕ) where
  -- a walk up goes on to the child after
  pub way_up_goes_on : (at : Option ℕ) (c : ℕ) → at ≡ Some c → c < n → IsOnWayUp f p n at → (after : ℕ → Option ℕ)
      → ((c q : ℕ) → f c ≡ Some q → IsNearest (λ d. c < d) Up f q (after c)) → IsOnWayUp f p n (after c)
  way_up_goes_on at c here below way after afters = search rules

  -- each step up leaves less of the way, so the walk ends
  pub way_up_falls : (at : Option ℕ) (c : ℕ) → at ≡ Some c → c < n → IsOnWayUp f p n at → (after : ℕ → Option ℕ)
      → ((c q : ℕ) → f c ≡ Some q → IsNearest (λ d. c < d) Up f q (after c))
      → option_map_or (λ b. n + 1 - b) (after c) 0 < option_map_or (λ b. n + 1 - b) at 0
  way_up_falls at c here below way after afters = search rules

  -- it ends at the first child that isn't below the number
  pub way_up_ends : (at : Option ℕ) (c : ℕ) → at ≡ Some c → n ≤ c → IsOnWayUp f p n at
      → IsNearest (λ d. n ≤ d) Up f p (Some c)
  way_up_ends at c here from way = search rules

  -- where it has come to none, the parent has no child from the number on
  pub way_up_none : (at : Option ℕ) → at ≡ None → IsOnWayUp f p n at → IsNearest (λ d. n ≤ d) Up f p None
  way_up_none at here way = subst (λ o. IsOnWayUp f p n o) here way

module _ (p n : ℕ) where
  -- the part of the first row, and of the others
  here_at : (row : ℕ × Link) (rows : List (ℕ × Link)) → part_at parent_of (row ∷ rows) row.0 ≡ row.1.parent
  here_at row rows = rw (eq-eqb row.0 row.0 refl) refl

  -- below the first number no child has the parent
  none_below : (low high : ℕ) (rows : List (ℕ × Link)) → IsRising low rows high → (d : ℕ) → d < low
      → part_at parent_of rows d ≡ Some p → ⊥
  none_below low high rows rising d below had = let no = rw (value_at_below d low rows high rising below) at had in cc

  -- a first row that is the parent's, from the number on, is the nearest child
  found_row : (low high : ℕ) (row : ℕ × Link) (rows : List (ℕ × Link)) → IsRising low (row ∷ rows) high → n ≤ row.0
      → row.1.parent ≡ Some p
      → (o : Option ℕ) → IsNearest (λ d. n ≤ d) Up (part_at parent_of (row ∷ rows)) p o → Some row.0 ≡ o
  found_row low high row rows rising from under None is = absurd (is row.0 from (here_at row rows ∙ under))
  found_row low high row rows rising from under (Some c) is =
      search (rules, here_at row rows, none_below (row.0 + 1) high rows rising.1 c)

  -- a first row that isn't so leaves the nearest child to the other rows
  other_row : (low high : ℕ) (row : ℕ × Link) (rows : List (ℕ × Link)) → IsRising low (row ∷ rows) high
      → (nat_le n row.0 && names row.1.parent p) ≡ false
      → (o : Option ℕ) → IsNearest (λ d. n ≤ d) Up (part_at parent_of (row ∷ rows)) p o
      → IsNearest (λ d. n ≤ d) Up (part_at parent_of rows) p o
  other_row low high row rows rising fails None is = search (rules, none_below (row.0 + 1) high rows rising.1)
  other_row low high row rows rising fails (Some c) is = search (rules, none_below (row.0 + 1) high rows rising.1)

  -- one row more in front: it is the first child, or the other rows tell
  first_step : (low high : ℕ) (row : ℕ × Link) (rows : List (ℕ × Link)) (o : Option ℕ) (b : Bool)
      → (nat_le n row.0 && names row.1.parent p) ≡ b
      → IsRising low (row ∷ rows) high → IsNearest (λ d. n ≤ d) Up (part_at parent_of (row ∷ rows)) p o
      → (IsNearest (λ d. n ≤ d) Up (part_at parent_of rows) p o → first_child (child_rows rows) p n ≡ o)
      → first_child (child_rows (row ∷ rows)) p n ≡ o
  first_step low high row rows o true e rising is so = search (rules, found_row low high row rows rising)
  first_step low high row rows o false e rising is so = rw e (so (other_row low high row rows rising e o is))

  -- the nearest child from a number on is the first row of the parent
  pub first_child_is : (low high : ℕ) (rows : List (ℕ × Link)) (o : Option ℕ) → IsRising low rows high
      → IsNearest (λ d. n ≤ d) Up (part_at parent_of rows) p o
      → first_child (child_rows rows) p n ≡ o
  first_child_is low high [] None rising is = refl
  first_child_is low high [] (Some c) rising is = let no : None ≡ Some p = is.1 in absurd (cc)
  first_child_is low high (row ∷ rows) o rising is =
      first_step low high row rows o (nat_le n row.0 && names row.1.parent p) refl rising is
      (λ h. first_child_is (row.0 + 1) high rows o rising.1 h)
