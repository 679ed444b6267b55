-- Counts and searches in lists, after one more item, after some are gone, and around the one item of a number.
use Rattle.std.specs.Prelude.{◌≡◌, ℕ, ◌+◌, ◌==◌, Bool, true, false, not, List, [], ◌∷◌, ◌++◌, map, filter, find, count_by, Some, None, if◌then◌else◌, Option}
use Rattle.std.specs.List.{AllByRecursion}
use Rattle.std.proofs.Common.{refl, sym, ◌∙◌, ap, arith, inl, rules}
use Rattle.std.proofs.lemmas.Bool.{eqb-true}
use Rattle.std.proofs.lemmas.List.Sums.{sum_by-append}
use Rattle.geo_base.proofs.AllLists.{all_appended}
use Rattle.geo_model.specs.Graph.{AreNumbers}
use Rattle.geo_model.specs.Words.{change_where}
use Rattle.geo_laws_graph.proofs.Lists.{Rise, rise-from, none_outside, unhit, find-changed}

module _ {X : Type 0} (p : X → Bool) where
  -- how many pass of two lists
  pub count-append : (xs ys : List X) → count_by p (xs ++ ys) ≡ count_by p xs + count_by p ys
  count-append xs ys = sum_by-append (λ x. if p x then 1 else 0) xs ys

  -- whether it passes, as a number
  abbrev pub counts : X → ℕ
  counts x = if p x then 1 else 0

  -- how many pass with one in front
  pub count-step : (x : X) (xs : List X) → count_by p (x ∷ xs) ≡ counts x + count_by p xs
  count-step x xs = search (rules, count-append (x ∷ []) xs)

  pub count-skip : (x : X) (xs : List X) → p x ≡ false → count_by p (x ∷ xs) ≡ count_by p xs
  count-skip x xs fails =
      let e : counts x ≡ 0 = ap (λ b. if b then 1 else 0) fails in
      search rules

  -- none passes
  pub count-none : (xs : List X) → AllByRecursion (λ x. p x ≡ false) xs → count_by p xs ≡ 0
  count-none [] none = refl
  count-none (x ∷ xs) none = search (rules, count-none xs none.1)

  pub find-none : (xs : List X) → AllByRecursion (λ x. p x ≡ false) xs → find p xs ≡ None
  find-none [] none = refl
  find-none (x ∷ xs) none = rw none.0 (find-none xs none.1)

  -- where none of the first passes, it is found among the last
  pub find-past : (xs ys : List X) → AllByRecursion (λ x. p x ≡ false) xs → find p (xs ++ ys) ≡ find p ys
  find-past [] ys none = refl
  find-past (x ∷ xs) ys none = rw none.0 (find-past xs ys none.1)

  -- where none of the last passes, it is found among the first
  pub find-before : (xs ys : List X) → AllByRecursion (λ x. p x ≡ false) ys → find p (xs ++ ys) ≡ find p xs
  find-before [] ys none = find-none ys none
  find-before (x ∷ xs) ys none = search (rules, find-before xs ys none)

  module _ (keep : X → Bool) where
    -- where only what doesn't pass goes, as many pass, and the same is found
    pub count-kept : (xs : List X) → AllByRecursion (λ x. keep x ≡ false → p x ≡ false) xs
        → count_by p (filter keep xs) ≡ count_by p xs
    count-kept [] gone = refl
    count-kept (x ∷ xs) gone =
        search (rules, count-kept xs gone.1, count-step x (filter keep xs), count-step x xs, count-skip x xs)

    pub find-kept_by : (xs : List X) → AllByRecursion (λ x. keep x ≡ false → p x ≡ false) xs
        → find p (filter keep xs) ≡ find p xs
    find-kept_by [] gone = refl
    find-kept_by (x ∷ xs) gone = search (rules, find-kept_by xs gone.1)

-- as many pass another test that gives the same at each
pub count-same : {X : Type 0} (p q : X → Bool) (xs : List X) → AllByRecursion (λ x. q x ≡ p x) xs
    → count_by q xs ≡ count_by p xs
count-same p q [] same = refl
count-same p q (x ∷ xs) same =
    count-step q x xs
    ∙ (let e : counts q x ≡ counts p x = ap (λ b. if b then 1 else 0) same.0 in
    search (rules, count-same p q xs same.1))
    ∙ sym (count-step p x xs)

module _ {X : Type 0} (P : X → Type 0) where
  pub all-front : (xs ys : List X) → AllByRecursion P (xs ++ ys) → AllByRecursion P xs
  all-front [] ys all = tt
  all-front (x ∷ xs) ys all = (all.0, all-front xs ys all.1)

  pub all-back : (xs ys : List X) → AllByRecursion P (xs ++ ys) → AllByRecursion P ys
  all-back [] ys all = all
  all-back (x ∷ xs) ys all = all-back xs ys all.1

-- what is read of the item that is found, where a change of items leaves what finds it and what is read of it
pub found-changed : {X Y : Type 0} (hit : X → Bool) (change : X → X) (test : X → Bool) (read : Option X → Y)
    → ((x : X) → hit x ≡ true → test (change x) ≡ test x)
    → ((x : X) → hit x ≡ true → read (Some (change x)) ≡ read (Some x)) → (xs : List X)
    → read (find test (change_where hit change xs)) ≡ read (find test xs)
found-changed {X} hit change test read same kept xs = search (rules, find-changed hit change test same xs)

-- The one item of a number

module _ {X : Type 0} (number : X → ℕ) where
  -- a list with the item of a number, and the items before and after it, which have other numbers
  pub record Around (n : ℕ) (x : X) (xs : List X) : Type 0 where
    pub front : List X
    pub back : List X
    pub is : xs ≡ front ++ x ∷ back
    pub here : (number x == n) ≡ true
    pub before : AllByRecursion (λ y. (number y == n) ≡ false) front
    pub after : AllByRecursion (λ y. (number y == n) ≡ false) back

  around_on : (low high n : ℕ) (x : X) (xs : List X) → Rise low (map number xs) high
      → find (λ y. number y == n) xs ≡ Some x → Around n x xs
  around_on low high n x [] rise never = absurd cc
  around_on low high n x (z ∷ zs) rise found = at (number z == n) refl (around_on (number z + 1) high n x zs rise.2)
    where
      at : (b : Bool) → (number z == n) ≡ b → (find (λ y. number y == n) zs ≡ Some x → Around n x zs)
          → Around n x (z ∷ zs)
      at true e rest =
          let some : Some z ≡ Some x = (rw e at found) in
          let same : z ≡ x = cc in
          record {
            front = [];
            back = zs;
            is = ap (λ y. y ∷ zs) same;
            here = rw same at e;
            before = tt;
            after =
                none_outside number (number z + 1) high n zs rise.2
                (let is : number z ≡ n = eqb-true (number z) n e in inl (omega arith));
          }
      at false e rest =
          let r : Around n x zs = rest (rw e at found) in
          record {
            front = z ∷ r.front;
            back = r.back;
            is = ap (λ ys. z ∷ ys) r.is;
            here = r.here;
            before = (e, r.before);
            after = r.after;
          }

  -- where numbers are in order, the item that is found is the only one
  pub around : (next n : ℕ) (x : X) (xs : List X) → AreNumbers (map number xs) next
      → find (λ y. number y == n) xs ≡ Some x → Around n x xs
  around next n x xs are found = around_on 0 next n x xs (rise-from next (map number xs) are) found

  module _ (n : ℕ) (x : X) (xs : List X) (r : Around n x xs) where
    -- the list with it changed
    pub around-changed : (change : X → X)
        → change_where (λ y. number y == n) change xs ≡ r.front ++ change x ∷ r.back
    around-changed change = ap (change_where (λ y. number y == n) change) r.is ∙ on r.front r.before
      where
        on : (ys : List X) → AllByRecursion (λ y. (number y == n) ≡ false) ys
            → change_where (λ y. number y == n) change (ys ++ x ∷ r.back) ≡ ys ++ change x ∷ r.back
        on [] others =
            rw r.here (ap (λ zs. change x ∷ zs) (unhit (λ y. number y == n) change r.back r.after))
        on (y ∷ ys) others = rw (others.0, on ys others.1) refl

    -- the list without it
    pub around-gone : filter (λ y. not (number y == n)) xs ≡ r.front ++ r.back
    around-gone = ap (filter (λ y. not (number y == n))) r.is ∙ on r.front r.before
      where
        all : (ys : List X) → AllByRecursion (λ y. (number y == n) ≡ false) ys
            → filter (λ y. not (number y == n)) ys ≡ ys
        all [] others = refl
        all (y ∷ ys) others = rw (others.0, all ys others.1) refl

        on : (ys : List X) → AllByRecursion (λ y. (number y == n) ≡ false) ys
            → filter (λ y. not (number y == n)) (ys ++ x ∷ r.back) ≡ ys ++ r.back
        on [] others = rw (r.here, all r.back r.after) refl
        on (y ∷ ys) others = rw (others.0, on ys others.1) refl

    -- it is in the list
    pub around-fact : (P : X → Type 0) → AllByRecursion P xs → P x
    around-fact P all = (all-back P r.front (x ∷ r.back) (rw r.is at all)).0

    -- what holds of it holds of each item of its number
    pub around-all : (P : X → Type 0) → P x → AllByRecursion (λ y. (number y == n) ≡ true → P y) xs
    around-all P fact =
        rw r.is
        (all_appended (λ y. (number y == n) ≡ true → P y) r.front (x ∷ r.back)
        (others r.front r.before)
        ((λ e. fact), others r.back r.after))
      where
        others : (ys : List X) → AllByRecursion (λ y. (number y == n) ≡ false) ys
            → AllByRecursion (λ y. (number y == n) ≡ true → P y) ys
        others [] none = tt
        others (y ∷ ys) none = (λ e. let never : false ≡ true = sym none.0 ∙ e in absurd cc, others ys none.1)

    -- how many pass with it, and without it
    pub around-count : (p : X → Bool) (z : X) (c : ℕ) → count_by p (z ∷ []) ≡ c
        → count_by p (r.front ++ z ∷ r.back) ≡ count_by p (r.front ++ r.back) + c
    around-count p z c one =
        count-append p r.front (z ∷ r.back)
        ∙ (let more : count_by p (z ∷ r.back) ≡ count_by p (z ∷ []) + count_by p r.back =
        count-append p (z ∷ []) r.back in
        let rest : count_by p (r.front ++ r.back) ≡ count_by p r.front + count_by p r.back =
        count-append p r.front r.back in
        omega (arith, more, rest, one))

    -- how many pass: without it, and it
    pub around-with : (p : X → Bool) → count_by p xs ≡ count_by p (r.front ++ r.back) + counts p x
    around-with p = ap (count_by p) r.is ∙ around-count p x (counts p x) (omega arith)
