-- The last child of a parent is the last row of it.
use Rattle.std.proofs.Common.{◌≡◌, ℕ, ◌+◌, ◌<◌, List, [], ◌∷◌, Bool, true, false, Some, None, Option, refl, ap, inl, inr, arith, filter, rules}
use Rattle.std.proofs.lemmas.Bool.{cases_eq, eq-eqb, ne_eqb}
use Rattle.std.specs.List.{last_or}
use Rattle.std.specs.Option.{option_map}
use Rattle.geo_slots.specs.Slots.{IsRising}
use Rattle.geo_slots.proofs.RowLemmas.{value_at_below}
use Rattle.geo_family.specs.declared.family.Link.{Link}
use Rattle.geo_family.specs.Nearest.{IsNearest, Down}
use Rattle.geo_family.specs.Family.{names, last_child}
use Rattle.geo_family.specs.Links.{part_at, parent_of, child_rows}

-- another parent, or none, isn't the one that is named
not_named : (p : ℕ) (o : Option ℕ) → (o ≡ Some p → ⊥) → names o p ≡ false
not_named p None other = refl
not_named p (Some q) other = ne_eqb q p (λ same. other (ap (λ m. Some m) same))

module _ (p : ℕ) where
  -- the child of a later row isn't that of the first row
  later : (low high : ℕ) (row : ℕ × Link) (rows : List (ℕ × Link)) → IsRising low (row ∷ rows) high → (d : ℕ)
      → part_at parent_of rows d ≡ Some p
      → (row.0 < d) × (part_at parent_of (row ∷ rows) d ≡ Some p)
  later low high row rows rising d had = search (rules, value_at_below d (row.0 + 1) rows high rising.1)

  -- where a parent has no child, the last one is the one before
  last_none : (low high : ℕ) (rows : List (ℕ × Link)) → IsRising low rows high
      → ((d : ℕ) → part_at parent_of rows d ≡ Some p → ⊥)
      → (before : Option (ℕ × Option ℕ)) → last_or before (filter (λ row. names row.1 p) (child_rows rows)) ≡ before
  last_none low high [] rising none before = refl
  last_none low high (row ∷ rows) rising none before =
      rw (not_named p row.1.parent (λ is. none row.0 (rw (eq-eqb row.0 row.0 refl) is)))
      (last_none (row.0 + 1) high rows rising.1 (λ d had. none d (later low high row rows rising d had).1) before)

  -- one row more in front, whether it is the parent's or not, leaves the last child that the others have
  either : (row : ℕ × Link) (rows : List (ℕ × Link)) (c : ℕ) (before : Option (ℕ × Option ℕ)) (b : Bool)
      → names row.1.parent p ≡ b
      → ((before : Option (ℕ × Option ℕ))
      → option_map (λ row. row.0) (last_or before (filter (λ row. names row.1 p) (child_rows rows))) ≡ Some c)
      → option_map (λ row. row.0) (last_or before (filter (λ row. names row.1 p) (child_rows (row ∷ rows)))) ≡ Some c
  either row rows c before true e so = rw e (so (Some (row.0, row.1.parent)))
  either row rows c before false e so = rw e (so before)

  -- a child of the parent with no greater one behind it is the last one
  last_some : (low high : ℕ) (rows : List (ℕ × Link)) (c : ℕ) → IsRising low rows high
      → part_at parent_of rows c ≡ Some p → ((d : ℕ) → c < d → part_at parent_of rows d ≡ Some p → ⊥)
      → (before : Option (ℕ × Option ℕ))
      → option_map (λ row. row.0) (last_or before (filter (λ row. names row.1 p) (child_rows rows))) ≡ Some c
  last_some low high [] c rising had none before = let never : None ≡ Some p = had in absurd (cc)
  last_some low high (row ∷ rows) c rising had none before =
      elim (cases_eq row.0 c) [
        | inl same ↦
            let under : row.1.parent ≡ Some p = rw (eq-eqb row.0 c same) at had in
            let named : names row.1.parent p ≡ true = rw (under, eq-eqb p p refl) refl in
            let rest = last_none (row.0 + 1) high rows rising.1 (λ d is. let up =
            later low high row rows rising d is in none d (omega (arith, same, up.0)) up.1)
            (Some (row.0, row.1.parent)) in
            rw (named, rest) (ap (λ m. Some m) same)
        | inr other ↦
            either row rows c before (names row.1.parent p) refl
            (last_some (row.0 + 1) high rows c rising.1 (rw (ne_eqb row.0 c other) at had)
            (λ d above is. none d above (later low high row rows rising d is).1))
      ]

  -- the nearest child from above is the last row of the parent
  pub last_child_is : (low high : ℕ) (rows : List (ℕ × Link)) (o : Option ℕ) → IsRising low rows high
      → IsNearest (λ d. Unit {0}) Down (part_at parent_of rows) p o
      → last_child (child_rows rows) p ≡ o
  last_child_is low high rows None rising is =
      ap (option_map (λ row. row.0)) (last_none low high rows rising (λ d had. is d tt had) None)
  last_child_is low high rows (Some c) rising is =
      last_some low high rows c rising is.1 (λ d above had. is.2 d tt above had) None
