-- Rows of links and of ends after a change under one number, and what is read there.
use Rattle.std.proofs.Common.{◌≡◌, ℕ, ◌+◌, ◌<◌, List, [], ◌∷◌, Some, None, Option, IsSome, refl, arith, rules, false}
use Rattle.std.specs.Option.{option_map, is_some}
use Rattle.geo_slots.specs.Slots.{IsRising, value_at, with_value}
use Rattle.geo_family.specs.Nearest.{put}
use Rattle.geo_family.specs.Links.{change_at, part_at}

module _ {T : Type 0} (n : ℕ) where
  -- past a number there is nothing to change
  change_at_below : (g : T → T) (low high : ℕ) (rows : List (ℕ × T)) → IsRising low rows high → n < low
      → change_at g rows n ≡ rows
  change_at_below g low high [] rising below = refl
  change_at_below g low high (row ∷ rows) rising below =
      search (rules, change_at_below g (row.0 + 1) high rows rising.1 (omega (arith, rising.0)))

  -- past a number no row gets another value
  with_value_below : (w : T) (low high : ℕ) (rows : List (ℕ × T)) → IsRising low rows high → n < low
      → with_value rows n w ≡ rows
  with_value_below w low high [] rising below = refl
  with_value_below w low high (row ∷ rows) rising below =
      search (rules, with_value_below w (row.0 + 1) high rows rising.1 (omega (arith, rising.0)))

  -- another value under a number is a change of the one that is there
  pub with_value-change : (g : T → T) (v w : T) → g v ≡ w → (low high : ℕ) (rows : List (ℕ × T))
      → IsRising low rows high → Some v ≡ value_at rows n
      → with_value rows n w ≡ change_at g rows n
  with_value-change g v w so low high [] rising at = absurd cc
  with_value-change g v w so low high (row ∷ rows) rising at =
      search (
        rules,
        with_value_below w (row.0 + 1) high rows rising.1,
        change_at_below g (row.0 + 1) high rows rising.1,
        with_value-change g v w so (row.0 + 1) high rows rising.1,
      )

  -- where there is none, nothing changes
  pub change_at-absent : (g : T → T) (rows : List (ℕ × T)) → None ≡ value_at rows n → change_at g rows n ≡ rows
  change_at-absent g [] absent = refl
  change_at-absent g (row ∷ rows) absent = search (rules, change_at-absent g rows)

  -- the value under the number is the changed one
  pub value_at-change_here : (g : T → T) (rows : List (ℕ × T))
      → value_at (change_at g rows n) n ≡ option_map g (value_at rows n)
  value_at-change_here g [] = refl
  value_at-change_here g (row ∷ rows) = search (rules, value_at-change_here g rows)

  -- the value under another number stays
  pub value_at-change_other : (g : T → T) (c : ℕ) → (c ≡ n → ⊥) → (rows : List (ℕ × T))
      → value_at (change_at g rows n) c ≡ value_at rows c
  value_at-change_other g c apart [] = refl
  value_at-change_other g c apart (row ∷ rows) = search (rules, value_at-change_other g c apart rows)

  -- a part that the change leaves alone stays everywhere
  pub part-kept : (part : T → Option ℕ) (g : T → T) → ((v : T) → part (g v) ≡ part v) → (rows : List (ℕ × T))
      → part_at part (change_at g rows n) ≡ part_at part rows
  part-kept part g same rows = search (rules, value_at-change_here g rows, value_at-change_other g)

  -- a part that the change sets
  pub part-set : (part : T → Option ℕ) (g : T → T) (o : Option ℕ) → ((v : T) → part (g v) ≡ o)
      → (rows : List (ℕ × T)) → IsSome (value_at rows n)
      → part_at part (change_at g rows n) ≡ put (part_at part rows) n o
  part-set part g o sets rows there = search (rules, value_at-change_here g rows, value_at-change_other g)

  -- who is there stays there
  pub IsSome-change : (g : T → T) (c : ℕ) (rows : List (ℕ × T)) → IsSome (value_at rows c)
      → IsSome (value_at (change_at g rows n) c)
  IsSome-change g c rows there = search (rules, value_at-change_here g rows, value_at-change_other g c)

-- what isn't there
pub is_none : {X : Type 0} (o : Option X) → is_some o ≡ false → o ≡ None
is_none None e = refl
is_none (Some x) e = absurd (cc)
