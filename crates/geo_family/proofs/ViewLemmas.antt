-- The parents and the children that the rows stand for, after each change.
use Rattle.std.proofs.Common.{◌≡◌, ℕ, ◌+◌, ◌==◌, List, [], ◌∷◌, ◌++◌, map, true, false, Some, None, Option, IsSome, refl, ap, ◌∙◌, inl, inr, not, filter, rules}
use Rattle.std.proofs.lemmas.Bool.{cases_eq, eq-eqb, ne_eqb}
use Rattle.std.specs.Option.{option_map, option_and_then}
use Rattle.geo_slots.specs.Slots.{IsRising, value_at, with_value, without}
use Rattle.geo_slots.proofs.RowLemmas.{value_at_below, IsRising_ends}
use Rattle.geo_family.specs.declared.family.Link.{Link}
use Rattle.geo_family.specs.declared.family.Ends.{Ends}
use Rattle.geo_family.specs.Family.{is_parent, has_child}
use Rattle.geo_family.specs.Links.{change_at, part_at, parent_of, child_rows, with_after, with_before, with_first, with_last_child, with_child_link}

-- the numbers of rows
abbrev pub numbers_of : {T : Type 0} → List (ℕ × T) → List ℕ
numbers_of rows = map (λ row. row.0) rows

-- a change under one number leaves the numbers
numbers-change : {T : Type 0} (g : T → T) (n : ℕ) (rows : List (ℕ × T))
    → numbers_of (change_at g rows n) ≡ numbers_of rows
numbers-change g n [] = refl
numbers-change g n (row ∷ rows) = search (rules, numbers-change g n rows)

-- another first child leaves the numbers of the parents
pub numbers-with_first : (o : Option ℕ) (p : ℕ) (to : Option ℕ) (ends : List (ℕ × Ends))
    → numbers_of (with_first o p to ends) ≡ numbers_of ends
numbers-with_first None p to ends = numbers-change (λ e. record e { first = to }) p ends
numbers-with_first (Some c) p to ends = refl

-- another last child leaves the numbers of the parents
pub numbers-with_last : (o : Option ℕ) (p : ℕ) (to : Option ℕ) (ends : List (ℕ × Ends))
    → numbers_of (with_last_child o p to ends) ≡ numbers_of ends
numbers-with_last None p to ends = numbers-change (λ e. record e { last = to }) p ends
numbers-with_last (Some c) p to ends = refl

-- the numbers once a row was taken away
pub numbers-without : {T : Type 0} (n : ℕ) (rows : List (ℕ × T))
    → numbers_of (without rows n) ≡ filter (λ m. not (m == n)) (numbers_of rows)
numbers-without n [] = refl
numbers-without n (row ∷ rows) = search (rules, ap (λ xs. row.0 ∷ xs) (numbers-without n rows))

-- the numbers with one more row at the end
pub numbers-push : {T : Type 0} (n : ℕ) (v : T) (rows : List (ℕ × T))
    → numbers_of (rows ++ (n, v) ∷ []) ≡ numbers_of rows ++ n ∷ []
numbers-push n v [] = refl
numbers-push n v (row ∷ rows) = ap (λ xs. row.0 ∷ xs) (numbers-push n v rows)

-- a parent that is named has its row
pub parent_stands : {T : Type 0} (p : ℕ) (rows : List (ℕ × T)) → is_parent (numbers_of rows) p ≡ true
    → IsSome (value_at rows p)
parent_stands p [] never = absurd (cc)
parent_stands p (row ∷ rows) stands = search (rules, parent_stands p rows)

-- a change that keeps the parent leaves each child with its parent
children-change : (g : Link → Link) → ((l : Link) → parent_of (g l) ≡ parent_of l)
    → (n : ℕ) (links : List (ℕ × Link)) → child_rows (change_at g links n) ≡ child_rows links
children-change g same n [] = refl
children-change g same n (row ∷ rows) = search (rules, children-change g same n rows)

-- another number after a child leaves each child with its parent
pub children-with_after : (o to : Option ℕ) (links : List (ℕ × Link))
    → child_rows (with_after o to links) ≡ child_rows links
children-with_after None to links = refl
children-with_after (Some c) to links = children-change (λ l. record l { after = to }) (λ l. refl) c links

-- another number before a child leaves each child with its parent
pub children-with_before : (o to : Option ℕ) (links : List (ℕ × Link))
    → child_rows (with_before o to links) ≡ child_rows links
children-with_before None to links = refl
children-with_before (Some c) to links = children-change (λ l. record l { before = to }) (λ l. refl) c links

-- another link of a child gives it the parent of that link
pub children-with_link : (n : ℕ) (l : Link) (links : List (ℕ × Link))
    → child_rows (with_child_link n l links) ≡ with_value (child_rows links) n l.parent
children-with_link n l [] = refl
children-with_link n l (row ∷ rows) =
    search (rules, ap (λ xs. (row.0, row.1.parent) ∷ xs) (children-with_link n l rows))

-- all the changes at once
pub children-relinked : (child : ℕ) (link : Link) (prev behind to_after to_before : Option ℕ) (links : List (ℕ × Link))
    → child_rows (with_child_link child link (with_before behind to_before (with_after prev to_after links)))
    ≡ with_value (child_rows links) child link.parent
children-relinked child link prev behind to_after to_before links =
    children-with_link child link (with_before behind to_before (with_after prev to_after links))
    ∙ ap (λ rows. with_value rows child link.parent)
    (children-with_before behind to_before (with_after prev to_after links)
    ∙ children-with_after prev to_after links)

-- the children once one was taken away
pub children-without : (n : ℕ) (links : List (ℕ × Link)) → child_rows (without links n) ≡ without (child_rows links) n
children-without n [] = refl
children-without n (row ∷ rows) = search (rules, ap (λ xs. (row.0, row.1.parent) ∷ xs) (children-without n rows))

-- the parent of a child, by the rows and by what they stand for
pub value_at-children : (n : ℕ) (links : List (ℕ × Link))
    → value_at (child_rows links) n ≡ option_map parent_of (value_at links n)
value_at-children n [] = refl
value_at-children n (row ∷ rows) = search (rules, value_at-children n rows)

-- a child without a parent
pub free_child : (n : ℕ) (links : List (ℕ × Link)) → value_at (child_rows links) n ≡ Some None
    → (part_at parent_of links n ≡ None) × IsSome (value_at links n)
free_child n links free = search (rules, value_at-children n links)

-- taking no parent away changes nothing
pub children-kept : (n low high : ℕ) (links : List (ℕ × Link)) → IsRising low links high
    → part_at parent_of links n ≡ None → with_value (child_rows links) n None ≡ child_rows links
children-kept n low high [] rising free = refl
children-kept n low high (row ∷ rows) rising free =
    search (rules, value_at_below n (row.0 + 1) rows high rising.1, children-kept n (row.0 + 1) high rows rising.1)

-- without a child it doesn't matter what parent it had
pub without-with_value : {T : Type 0} (n : ℕ) (v : T) (rows : List (ℕ × T))
    → without (with_value rows n v) n ≡ without rows n
without-with_value n v [] = refl
without-with_value n v (row ∷ rows) = search (rules, ap (λ xs. row ∷ xs) (without-with_value n v rows))

-- after it, the child has no parent
pub value_at-with_none : (n : ℕ) (rows : List (ℕ × Option ℕ)) (links : List (ℕ × Link))
    → child_rows links ≡ with_value rows n None → part_at parent_of links n ≡ None
value_at-with_none n rows links same =
    from (value_at links n) (search (rules, after rows, value_at-children n links))
  where
    from : (o : Option Link) → ((p : ℕ) → option_map parent_of o ≡ Some (Some p) → ⊥)
        → option_and_then parent_of o ≡ None
    from None never = refl
    from (Some l) never = parent_none l.parent (λ p is. never p (ap (λ x. Some x) is))
      where
        parent_none : (o : Option ℕ) → ((p : ℕ) → o ≡ Some p → ⊥) → o ≡ None
        parent_none None never = refl
        parent_none (Some p) never = absurd (never p refl)

    after : (rows : List (ℕ × Option ℕ)) (p : ℕ) → value_at (with_value rows n None) n ≡ Some (Some p) → ⊥
    after [] p never = cc
    after (row ∷ rows) p is =
        elim (cases_eq row.0 n) [
          | inl here ↦ let e : Some None ≡ Some (Some p) = rw (eq-eqb row.0 n here, eq-eqb n n refl) at is in cc
          | inr other ↦ after rows p (rw (ne_eqb row.0 n other, ne_eqb row.0 n other) at is)
        ]

-- who has no child is nobody's parent
pub childless : (p : ℕ) (links : List (ℕ × Link)) → has_child (child_rows links) p ≡ false → (d : ℕ)
    → part_at parent_of links d ≡ Some p → ⊥
childless p [] none d had = let never : None ≡ Some p = had in cc
childless p (row ∷ rows) none d had = search (rules, childless p rows)

-- the numbers of the children rise as those of their rows
pub children_rise : (low high : ℕ) (links : List (ℕ × Link)) → IsRising low links high
    → IsRising low (child_rows links) high
children_rise low high [] rising = rising
children_rise low high (row ∷ rows) rising = (rising.0, children_rise (row.0 + 1) high rows rising.1)

module _ {T : Type 0} (n : ℕ) where
  -- the value that was put at the end is found there
  pub value_at-push : (v : T) (low : ℕ) (rows : List (ℕ × T)) → IsRising low rows n
      → value_at (rows ++ (n, v) ∷ []) n ≡ Some v
  value_at-push v low [] rising = rw (eq-eqb n n refl) refl
  value_at-push v low (row ∷ rows) rising =
      search (rules, IsRising_ends (row.0 + 1) rows n rising.1, value_at-push v (row.0 + 1) rows rising.1)

  -- and is changed there
  pub with_value-push : (v w : T) (low : ℕ) (rows : List (ℕ × T)) → IsRising low rows n
      → with_value (rows ++ (n, v) ∷ []) n w ≡ rows ++ (n, w) ∷ []
  with_value-push v w low [] rising = rw (eq-eqb n n refl) refl
  with_value-push v w low (row ∷ rows) rising =
      search (rules, IsRising_ends (row.0 + 1) rows n rising.1, with_value-push v w (row.0 + 1) rows rising.1)

-- Numbers still rise where values change

rising-changed : {T : Type 0} (change : T → T) (n low high : ℕ) (rows : List (ℕ × T)) → IsRising low rows high
    → IsRising low (change_at change rows n) high
rising-changed change n low high [] rising = rising
rising-changed {T} change n low high (row ∷ rows) rising =
    search (rules, rising-changed change n (row.0 + 1) high rows rising.1)

rising-after : (child to : Option ℕ) (high : ℕ) (links : List (ℕ × Link)) → IsRising 1 links high
    → IsRising 1 (with_after child to links) high
rising-after None to high links rising = rising
rising-after (Some n) to high links rising = rising-changed (λ l. record l { after = to }) n 1 high links rising

rising-before : (child to : Option ℕ) (high : ℕ) (links : List (ℕ × Link)) → IsRising 1 links high
    → IsRising 1 (with_before child to links) high
rising-before None to high links rising = rising
rising-before (Some n) to high links rising = rising-changed (λ l. record l { before = to }) n 1 high links rising

-- so they do where a child gets another link, and its neighbours hear of it
pub rising-relinked : (child : ℕ) (link : Link) (before after to from_child : Option ℕ) (high : ℕ)
    (links : List (ℕ × Link)) → IsRising 1 links high
    → IsRising 1 (with_child_link child link (with_before after to (with_after before from_child links))) high
rising-relinked child link before after to from_child high links rising =
    rising-changed (λ _. link) child 1 high (with_before after to (with_after before from_child links))
    (rising-before after to high (with_after before from_child links)
    (rising-after before from_child high links rising))
