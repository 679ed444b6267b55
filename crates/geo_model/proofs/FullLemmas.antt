-- A Deliver and a close spend a place of the log that was owed.
use Rattle.std.specs.Prelude.{◌≡◌, ◌+◌, ◌≤◌, Bool, true, false, not, List, [], ◌∷◌, length, filter, find, count_by, Some, cond}
use Rattle.std.proofs.Common.{refl, arith}
use Rattle.std.proofs.lemmas.List.Sums.{sum_by-cons}
use Rattle.geo_model.specs.Words.{change_where}

module _ {X : Type 0} (p test : X → Bool) (f : X → X) (after : (x : X) → p (f x) ≡ false) where
  -- a changed item counts no more than before
  changed-less : (x : X) (b : Bool) → test x ≡ b → cond (p (cond (test x) (f x) x)) 1 0 ≤ cond (p x) 1 0
  changed-less x true e = rw (e, after x) (omega arith)
  changed-less x false e = rw e (omega arith)

  -- and one that counted before counts one less
  changed-one-less : (x : X) → test x ≡ true → p x ≡ true → cond (p (cond (test x) (f x) x)) 1 0 + 1 ≤ cond (p x) 1 0
  changed-one-less x e was = rw (e, after x, was) (omega arith)

  count-cons : (x : X) (xs : List X) →
      count_by p (change_where test f (x ∷ xs)) ≡ cond (p (cond (test x) (f x) x)) 1 0
      + count_by p (change_where test f xs)
  count-cons x xs = sum_by-cons (λ (y : X). cond (p y) 1 0) (cond (test x) (f x) x) (change_where test f xs)

  -- so do all of them
  pub change_where-count : (xs : List X) → count_by p (change_where test f xs) ≤ count_by p xs
  change_where-count [] = omega arith
  change_where-count (x ∷ xs) =
      omega (
        arith,
        count-cons x xs,
        sum_by-cons (λ (y : X). cond (p y) 1 0) x xs,
        changed-less x (test x) refl,
        change_where-count xs,
      )

  find-change : (x y : X) (xs : List X) (b : Bool) → test y ≡ b → find test (y ∷ xs) ≡ Some x → p x ≡ true
      → (find test xs ≡ Some x → count_by p (change_where test f xs) + 1 ≤ count_by p xs)
      → count_by p (change_where test f (y ∷ xs)) + 1 ≤ count_by p (y ∷ xs)
  find-change x y xs true e found was rest =
      let same : y ≡ x = cc in
      omega (
        arith,
        count-cons y xs,
        sum_by-cons (λ (z : X). cond (p z) 1 0) y xs,
        changed-one-less y e (rw same was),
        change_where-count xs,
      )
  find-change x y xs false e found was rest =
      omega (
        arith,
        count-cons y xs,
        sum_by-cons (λ (z : X). cond (p z) 1 0) y xs,
        changed-less y false e,
        rest (rw e at found),
      )

  -- where the item that is found counted, one less is counted
  pub change_where-count-found : (xs : List X) (x : X) → find test xs ≡ Some x → p x ≡ true
      → count_by p (change_where test f xs) + 1 ≤ count_by p xs
  change_where-count-found [] x found was = cc
  change_where-count-found (y ∷ xs) x found was =
      find-change x y xs (test y) refl found was (λ e. change_where-count-found xs x e was)

module _ {X : Type 0} (test other : X → Bool) where
  kept : List X → List X
  kept xs = filter (λ x. not (test x)) xs

  kept-cons : (x : X) (xs : List X) (b : Bool) → test x ≡ b → length (filter (λ y. not (test y)) xs) ≤ length xs
      → length (filter (λ y. not (test y)) (x ∷ xs)) ≤ length (x ∷ xs)
  kept-cons x xs true e rest = rw e (omega (arith, rest))
  kept-cons x xs false e rest = rw e (omega (arith, rest))

  pub kept-length : (xs : List X) → length (filter (λ y. not (test y)) xs) ≤ length xs
  kept-length [] = omega arith
  kept-length (x ∷ xs) = kept-cons x xs (test x) refl (kept-length xs)

  kept-found : (x y : X) (xs : List X) (b c : Bool) → other y ≡ b → test y ≡ c → find other (y ∷ xs) ≡ Some x
      → test x ≡ true
      → (find other xs ≡ Some x → length (filter (λ z. not (test z)) xs) + 1 ≤ length xs)
      → length (filter (λ z. not (test z)) (y ∷ xs)) + 1 ≤ length (y ∷ xs)
  kept-found x y xs b true e t found goes rest = rw t (omega (arith, kept-length xs))
  kept-found x y xs true false e t found goes rest = let same : y ≡ x = cc in absurd (let no : ⊥ = cc in no)
  kept-found x y xs false false e t found goes rest = rw t (omega (arith, rest (rw e at found)))

  -- where an item that is found goes, the list is shorter
  pub kept-length-found : (xs : List X) (x : X) → find other xs ≡ Some x → test x ≡ true
      → length (filter (λ y. not (test y)) xs) + 1 ≤ length xs
  kept-length-found [] x found goes = cc
  kept-length-found (y ∷ xs) x found goes =
      kept-found x y xs (other y) (test y) refl refl found goes (λ e. kept-length-found xs x e goes)
