-- Beginnings of lists, places in lists and the entries of a number.
use Rattle.std.proofs.Common.{◌≡◌, ℕ, zero, suc, ◌<◌, ◌≢◌, ◌⊎◌, inl, inr, ⊎_elim, List, [], ◌∷◌, ◌++◌, length, eqb, cond, Bool, true, false, sym, refl, ap, ◌∙◌, arith, ne_eqb, eq-eqb, Some, slice_get}
use mathlib.Core.Option.{some, some-injective, some-ne-none}
use mathlib.Core.List.{IsPrefix}
use lib.ListN.{get_elem?}
use Rattle.std.proofs.lemmas.List.{append-nil, append_assoc}
use Rattle.std.proofs.lemmas.List.Elements.{filter-append}
use Rattle.std.proofs.lemmas.Option.{same_Some}
use Rattle.geo_lock.specs.Logged.{entries_with_seat, Grows}

module _ {A : Type 0} where
  pub prefix_self : (xs : List A) → IsPrefix xs xs
  prefix_self xs = ([], append-nil xs)

  pub prefix_more : (xs ys : List A) → IsPrefix xs (xs ++ ys)
  prefix_more xs ys = (ys, refl)

  pub prefix_trans : (xs ys zs : List A) → IsPrefix xs ys → IsPrefix ys zs → IsPrefix xs zs
  prefix_trans xs ys zs p q = (p.0 ++ q.0, sym (append_assoc xs p.0 q.0) ∙ (ap (λ (z : List A). z ++ q.0) p.1 ∙ q.1))

  pub at_bound : (l : List A) (i : ℕ) (a : A) → get_elem? l i ≡ some a → i < length l
  at_bound [] i a e = absurd (some-ne-none a (sym e))
  at_bound (x ∷ xs) zero a e = omega arith
  at_bound (x ∷ xs) (suc i) a e = let n = at_bound xs i a e in omega arith

  pub at_end : (l : List A) (a b : A) (j : ℕ) → get_elem? (l ++ a ∷ []) j ≡ some b → (get_elem? l j ≡ some b)
      ⊎ ((j ≡ length l) × (a ≡ b))
  at_end [] a b zero e = inr (refl, some-injective a b e)
  at_end [] a b (suc j) e = absurd (some-ne-none b (sym e))
  at_end (x ∷ xs) a b zero e = inl e
  at_end (x ∷ xs) a b (suc j) e =
      ⊎_elim inl (λ (t : (j ≡ length xs) × (a ≡ b)). inr (ap suc t.0, t.1)) (at_end xs a b j e)

  -- a place in two lists in a row
  pub at_either : (l m : List A) (j : ℕ) (b : A) → get_elem? (l ++ m) j ≡ some b → (get_elem? l j ≡ some b)
      ⊎ ((i : ℕ) × (get_elem? m i ≡ some b))
  at_either [] m j b e = inr (j, e)
  at_either (x ∷ xs) m zero b e = inl e
  at_either (x ∷ xs) m (suc j) b e = at_either xs m j b e

  pub at_only : (a b : A) (i : ℕ) → get_elem? (a ∷ []) i ≡ some b → a ≡ b
  at_only a b zero e = some-injective a b e
  at_only a b (suc i) e = absurd (some-ne-none b (sym e))

not_nothing : {A : Type 0} (a : A) (xs : List A) → a ∷ xs ≡ [] → ⊥
not_nothing a xs e = cc e

abbrev keep_if : {A : Type 0} → Bool → A → List A → List A
keep_if b a xs = cond b (a ∷ xs) xs

rest_none : {A : Type 0} (b : Bool) (a : A) (xs : List A) → keep_if b a xs ≡ [] → xs ≡ []
rest_none true a xs e = absurd (not_nothing a xs e)
rest_none false a xs e = e

module _ {E : Type 0} (seat_of : E → ℕ) where
  other_entry : (n : ℕ) (e : E) → n ≢ seat_of e → entries_with_seat seat_of n (e ∷ []) ≡ []
  other_entry n e ne = rw (ne_eqb (seat_of e) n (λ h. ne (sym h))) refl

  pub own_entry : (n : ℕ) (e : E) → seat_of e ≡ n → (h : List E)
      → entries_with_seat seat_of n (h ++ e ∷ []) ≡ entries_with_seat seat_of n h ++ e ∷ []
  own_entry n e is h = filter-append (λ (x : E). eqb (seat_of x) n) h (e ∷ [])
      ∙ ap (λ (z : List E). entries_with_seat seat_of n h ++ z) (rw (eq-eqb (seat_of e) n is) refl)

  pub grows_none : (n : ℕ) (h : List E) → Grows seat_of n h h
  grows_none n h = record { longer = prefix_self h; others = λ m ne. refl }

  pub grows_one : (n : ℕ) (h : List E) (e : E) → seat_of e ≡ n → Grows seat_of n h (h ++ e ∷ [])
  grows_one n h e is = record {
    longer = prefix_more h (e ∷ []);
    others = λ m ne. filter-append (λ (x : E). eqb (seat_of x) m) h (e ∷ [])
        ∙ (ap (λ (z : List E). entries_with_seat seat_of m h ++ z) (other_entry m e (λ s. ne (s ∙ is)))
        ∙ append-nil (entries_with_seat seat_of m h));
  }

  nothing_first : (xs ys : List E) → xs ++ ys ≡ [] → xs ≡ []
  nothing_first [] ys e = refl
  nothing_first (x ∷ xs) ys e = absurd (cc e)

  pub prefix_none : (n : ℕ) (xs ys : List E) → IsPrefix xs ys → entries_with_seat seat_of n ys ≡ []
      → entries_with_seat seat_of n xs ≡ []
  prefix_none n xs ys p none_there = nothing_first (entries_with_seat seat_of n xs) (entries_with_seat seat_of n p.0)
      (sym (filter-append (λ (x : E). eqb (seat_of x) n) xs p.0)
      ∙ (ap (λ (z : List E). entries_with_seat seat_of n z) p.1 ∙ none_there))

  -- where a number has no entry, none of the entries has it
  pub none_has : (n : ℕ) (h : List E) (k : ℕ) (e : E) → entries_with_seat seat_of n h ≡ [] → slice_get h k ≡ Some e
      → seat_of e ≢ n
  none_has n [] k e none_there at same = absurd (cc at)
  none_has n (x ∷ h) zero e none_there at same = let is : seat_of x ≡ n = ap seat_of (same_Some x e at) ∙ same in
      absurd (not_nothing x (entries_with_seat seat_of n h)
      (sym (ap (λ (b : Bool). keep_if b x (entries_with_seat seat_of n h)) (eq-eqb (seat_of x) n is)) ∙ none_there))
  none_has n (x ∷ h) (suc k) e none_there at same =
      none_has n h k e (rest_none (eqb (seat_of x) n) x (entries_with_seat seat_of n h) none_there) at same
