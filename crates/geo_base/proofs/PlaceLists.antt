-- The places of a list: what stands at one, what is changed there, and the items with their numbers.
use Rattle.std.specs.Prelude.{◌≡◌, ◌≢◌, ℕ, zero, suc, ◌+◌, ◌<◌, Bool, true, false, List, [], ◌∷◌, ◌++◌, length, map, take, drop, Option, Some, None, is_none, slice_get, slice_set}
use Rattle.std.specs.List.{enumerate_from, list_any}
use Rattle.std.specs.Option.{option_flatten}
use Rattle.std.proofs.Common.{refl, sym, ◌∙◌, ap, arith, get_or, drop-cons, add-one, take-suc}
use Rattle.std.proofs.lemmas.List.{append_assoc, map-append, take-append-drop}
use Rattle.std.proofs.lemmas.Option.{get_or_from_slice_get, slice_get_within}

-- What is changed

-- at the place stands what was put there
pub slot-same : {X : Type 0} (xs : List X) (i : ℕ) (v x : X) → slice_get xs i ≡ Some x
    → slice_get (slice_set xs i v) i ≡ Some v
slot-same [] i v x never = absurd cc
slot-same (y ∷ ys) zero v x is = refl
slot-same (y ∷ ys) (suc i) v x is = slot-same ys i v x is

-- at another place stands what stood there
pub slot-other : {X : Type 0} (xs : List X) (i j : ℕ) (v : X) → j ≢ i
    → slice_get (slice_set xs i v) j ≡ slice_get xs j
slot-other [] i j v other = refl
slot-other (y ∷ ys) zero zero v other = absurd (other refl)
slot-other (y ∷ ys) zero (suc j) v other = refl
slot-other (y ∷ ys) (suc i) zero v other = refl
slot-other (y ∷ ys) (suc i) (suc j) v other = slot-other ys i j v (λ e. other (ap (λ n. suc n) e))

-- what is seen of the items stays
pub slot-seen : {X Y : Type 0} (f : X → Y) (xs : List X) (i : ℕ) (v x : X) → slice_get xs i ≡ Some x → f v ≡ f x
    → map f (slice_set xs i v) ≡ map f xs
slot-seen f [] i v x never same = refl
slot-seen f (y ∷ ys) zero v x is same =
    let e : y ≡ x = (let s : Some y ≡ Some x = is in cc) in
    ap (λ z. z ∷ map f ys) (same ∙ sym (ap f e))
slot-seen f (y ∷ ys) (suc i) v x is same = ap (λ zs. f y ∷ zs) (slot-seen f ys i v x is same)

-- What stands there

-- the first items and one more
pub take_one : {X : Type 0} (xs : List X) (k : ℕ) (x : X) → slice_get xs k ≡ Some x
    → take (suc k) xs ≡ take k xs ++ x ∷ []
take_one {X} xs k x at =
    take-suc xs k x (slice_get_within xs k x at)
    ∙ ap (λ (y : X). take k xs ++ y ∷ []) (get_or_from_slice_get xs k x x at)

-- a list is what stands before a place, what stands there and what stands after it
pub parted : {X : Type 0} (xs : List X) (k : ℕ) (x : X) → slice_get xs k ≡ Some x
    → xs ≡ take k xs ++ x ∷ drop (suc k) xs
parted {X} xs k x at =
    sym (take-append-drop (suc k) xs) ∙ ap (λ (front : List X). front ++ drop (suc k) xs) (take_one xs k x at)
    ∙ append_assoc (take k xs) (x ∷ []) (drop (suc k) xs)

-- the first of the items that are left
pub first_left : {X : Type 0} (xs : List X) (i : ℕ) (x : X) → i < length xs → x ≡ get_or xs i x
    → drop i xs ≡ x ∷ drop (i + 1) xs
first_left xs i x less is = rw (add-one, drop-cons xs i x, ← is) refl

-- where a place is free, some place is free
pub free_at : (places : List (Option ℕ)) (k : ℕ) → k < length places
    → is_none (option_flatten (slice_get places k)) ≡ true → list_any is_none places ≡ true
free_at [] k short e = absurd (omega (arith, short))
free_at (None ∷ places) k short e = refl
free_at (Some c ∷ places) zero short e = absurd (let no : ⊥ = cc in no)
free_at (Some c ∷ places) (suc k) short e = free_at places k (omega (arith, short)) e

-- Items with their numbers

-- numbered items in a row
pub numbered_both : {X : Type 0} (n : ℕ) (xs ys : List X)
    → enumerate_from n (xs ++ ys) ≡ enumerate_from n xs ++ enumerate_from (n + length xs) ys
numbered_both n [] ys = ap (λ k. enumerate_from k ys) (let e : n ≡ n + 0 = omega arith in e)
numbered_both n (x ∷ xs) ys =
    ap (λ zs. (n, x) ∷ zs)
    (numbered_both (n + 1) xs ys
    ∙ ap (λ k. enumerate_from (n + 1) xs ++ enumerate_from k ys)
    (let e : (n + 1) + length xs ≡ n + length (x ∷ xs) = omega arith in e))

-- a row more
pub row_more : {X V : Type 0} (row : X → ℕ × V) (xs : List X) (x : X) (rows : List (ℕ × V)) → rows ≡ map row xs
    → rows ++ row x ∷ [] ≡ map row (xs ++ x ∷ [])
row_more row xs x rows is = ap (λ rs. rs ++ row x ∷ []) is ∙ sym (map-append row xs (x ∷ []))
