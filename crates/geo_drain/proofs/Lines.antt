-- The actor whose next line is the smallest, found from the last actor to the first.
use Rattle.std.specs.Prelude.{◌≡◌, ℕ, zero, suc, ◌+◌, ◌<◌, ◌≤◌, nat_le, Bool, true, false, ◌&&◌, List, [], ◌∷◌, ◌++◌, length, drop, flat_map, Option, Some, None, option_map, slice_get, if◌then◌else◌}
use Rattle.std.specs.List.{enumerate_from, list_all}
use Rattle.std.specs.Option.{option_map_or}
use Rattle.std.proofs.Common.{refl, sym, ◌∙◌, ap, arith}
use Rattle.std.proofs.lemmas.Bool.{leb-false, leb-true}
use Rattle.geo_model.specs.declared.command.LineCommand.{LineCommand}
use Rattle.geo_model.specs.declared.step.Step.TheVariants as steps
use Rattle.geo_model.specs.World.{World}
use Rattle.geo_model.specs.Step.{is_enabled}
use Rattle.geo_model.specs.Order.{earliest, ready_actor, ready_actors}
use Rattle.geo_drain.specs.Earliest.{earlier_of, earliest_item, ready_at}

-- the earliest among the actors from one on
abbrev pub earliest_from : World → ℕ → Option (ℕ × ℕ)
earliest_from w k = earliest_item (flat_map (ready_actor w) (enumerate_from k (drop k w.actors)))

-- an actor with the line of its next command, as a list of at most one
ready_list : (w : World) (k : ℕ) (cs : List LineCommand) (rest : List (ℕ × ℕ)) → slice_get w.actors k ≡ Some cs
    → earliest_item (ready_actor w (k, cs) ++ rest) ≡ earlier_of (ready_at w k) (earliest_item rest)
ready_list w k [] rest at = rw at refl
ready_list w k (c ∷ cs) rest at = by (is_enabled w 0 (steps.Go k)) refl
  where
    by : (b : Bool) → is_enabled w 0 (steps.Go k) ≡ b
        → earliest_item (ready_actor w (k, c ∷ cs) ++ rest) ≡ earlier_of (ready_at w k) (earliest_item rest)
    by true is = rw at (rw is refl)
    by false is = rw at (rw is refl)

-- the item at a place, and those behind it
drop_at : {X : Type 0} (xs : List X) (k : ℕ) → k < length xs
    → (x : X) × (slice_get xs k ≡ Some x) × (drop k xs ≡ x ∷ drop (k + 1) xs)
drop_at [] k below = absurd (omega arith)
drop_at (x ∷ xs) zero below = (x, refl, refl)
drop_at (x ∷ xs) (suc k) below =
    let rest = drop_at xs k (omega arith) in
    let next : suc (k + 1) ≡ suc k + 1 = omega arith in
    (rest.0, rest.1, rest.2 ∙ ap (λ n. rest.0 ∷ drop n (x ∷ xs)) next)

-- one actor more, in front
pub earliest_more : (w : World) (k : ℕ) → k < length w.actors
    → earliest_from w k ≡ earlier_of (ready_at w k) (earliest_from w (k + 1))
earliest_more w k below =
    let here = drop_at w.actors k below in
    ap (λ xs. earliest_item (flat_map (ready_actor w) (enumerate_from k xs))) here.2
    ∙ ready_list w k here.0 (flat_map (ready_actor w) (enumerate_from (k + 1) (drop (k + 1) w.actors))) here.1

-- a line isn't above the smaller of two exactly if it isn't above either
smaller : (line a b : ℕ) → (nat_le line a && nat_le line b) ≡ (if nat_le a b then nat_le line a else nat_le line b)
smaller line a b = by (nat_le a b) refl (nat_le line a) refl (nat_le line b) refl
  where
    by : (p : Bool) → nat_le a b ≡ p → (q : Bool) → nat_le line a ≡ q → (r : Bool) → nat_le line b ≡ r
        → (nat_le line a && nat_le line b) ≡ (if nat_le a b then nat_le line a else nat_le line b)
    by true first true second true third = rw (first, second, third) refl
    by true first true second false third =
        absurd (let one : a ≤ b = leb-true a b first in
        let two : line ≤ a = leb-true line a second in
        let not : b < line = leb-false line b third in
        omega (arith, one, two, not))
    by true first false second r third = rw (first, second) refl
    by false first true second r third = rw (first, second, third) (same r)
      where
        same : (c : Bool) → (true && c) ≡ c
        same true = refl
        same false = refl
    by false first false second true third =
        absurd (let one : b < a = leb-false a b first in
        let two : a < line = leb-false line a second in
        let not : line ≤ b = leb-true line b third in
        omega (arith, one, two, not))
    by false first false second false third = rw (first, second, third) refl

-- a line isn't above an item, nor above the earliest of others
with_item : (line : ℕ) (item : ℕ × ℕ) (o : Option (ℕ × ℕ))
    → (nat_le line item.1 && option_map_or (λ (best : ℕ × ℕ). nat_le line best.1) o true)
    ≡ option_map_or (λ (best : ℕ × ℕ). nat_le line best.1) (earlier_of (Some item) o) true
with_item line item None = same (nat_le line item.1)
  where
    same : (c : Bool) → (c && true) ≡ c
    same true = refl
    same false = refl
with_item line item (Some other) = smaller line item.1 other.1 ∙ by (nat_le item.1 other.1)
  where
    by : (c : Bool) → (if c then nat_le line item.1 else nat_le line other.1)
        ≡ option_map_or (λ (best : ℕ × ℕ). nat_le line best.1) (if c then Some item else Some other) true
    by true = refl
    by false = refl

-- a line isn't above those of some exactly if it isn't above that of the earliest
all_later : (line : ℕ) (items : List (ℕ × ℕ))
    → list_all (λ (other : ℕ × ℕ). nat_le line other.1) items
    ≡ option_map_or (λ (best : ℕ × ℕ). nat_le line best.1) (earliest_item items) true
all_later line [] = refl
all_later line (item ∷ items) =
    ap (λ c. nat_le line item.1 && c) (all_later line items) ∙ with_item line item (earliest_item items)

-- an item before others
first_of : (item : ℕ × ℕ) (items : List (ℕ × ℕ)) (o : Option (ℕ × ℕ))
    → earliest items ≡ option_map (λ (x : ℕ × ℕ). x.0) o
    → (if option_map_or (λ (best : ℕ × ℕ). nat_le item.1 best.1) o true then Some item.0 else earliest items)
    ≡ option_map (λ (x : ℕ × ℕ). x.0) (earlier_of (Some item) o)
first_of item items None rest = refl
first_of item items (Some other) rest = by (nat_le item.1 other.1)
  where
    by : (c : Bool) → (if c then Some item.0 else earliest items)
        ≡ option_map (λ (x : ℕ × ℕ). x.0) (if c then Some item else Some other)
    by true = refl
    by false = rest

-- the definitions' earliest is the actor of the earliest
pub earliest_is : (items : List (ℕ × ℕ)) → earliest items ≡ option_map (λ (x : ℕ × ℕ). x.0) (earliest_item items)
earliest_is [] = refl
earliest_is (item ∷ items) =
    ap (λ (c : Bool). if c then Some item.0 else earliest items) (all_later item.1 items)
    ∙ first_of item items (earliest_item items) (earliest_is items)

-- the best of all actors is the one that the definitions name
pub earliest_found : (w : World) (k : ℕ) (best : Option (ℕ × ℕ)) → best ≡ earliest_from w k → k ≡ 0
    → option_map (λ (x : ℕ × ℕ). x.0) best ≡ earliest (ready_actors w)
earliest_found w k best is zero_is =
    ap (λ o. option_map (λ (x : ℕ × ℕ). x.0) o) (is ∙ ap (earliest_from w) zero_is) ∙ sym (earliest_is (ready_actors w))
