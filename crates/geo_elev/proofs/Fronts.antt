-- Keys in ascending order, whatever the order in which two heaps have them.
use Rattle.std.specs.Prelude.{◌≡◌, ◌⊎◌, ℕ, zero, suc, ◌+◌, ◌*◌, ◌/◌, ◌^◌, ◌<◌, ◌≤◌, ◌==◌, nat_le, nat_lt, Bool, true, false, ◌&&◌, ◌||◌, List, [], ◌∷◌, ◌++◌, Option, Some, None, map, length, IsPermutation, Result, Ok, Err, OnOk, OnErr, slice_index_or, IfSome, is_some, if◌then◌else◌}
use Rattle.std.specs.BinaryHeap.{IsHeap, IsUpperBound}
use Rattle.std.specs.BTreeMap.{is_at}
use Rattle.std.specs.Slice.{IsItemAt}
use Rattle.std.specs.List.{AllByRecursion, list_all, list_any, swap}
use Rattle.std.specs.Ordering.{nat_cmp}
use Rattle.std.specs.declared.cmp.Reverse.{Reverse}
use Rattle.std.proofs.Common.{inl, inr, refl, sym, ◌∙◌, ap, subst, arith, rules, set, get_or, Bor}
use Rattle.std.proofs.Permutation.{every_shuffled, which as cases_eq}
use Rattle.std.proofs.lemmas.List.{length-set, get_or-set_same, get_or-set_other}
use Rattle.std.proofs.lemmas.Bool.{eqb-true, eq-eqb, cases_Bool, or_left, or_right, leb-true, leb-false, ltb-true, ltb-false}
use Rattle.std.proofs.lemmas.Bool.Decides.{nat_tests}
use Rattle.std.proofs.lemmas.List.Folds.{list_any-append, list_all-append}
use Rattle.std.proofs.lemmas.List.Sorted.{IsPermutation-keeps, IsPermutation-map, IsPermutation-trans, IsPermutation-sym, IsPermutation-append_left, IsPermutation-append_right, IsPermutation-append_comm, IsPermutation-middle}
use Rattle.geo_elev.specs.Front.{AreParted, IsNextKey, IsTop, in_order, is_kept, is_none_of, key_order, keys_in, keys_of, least_with, lesser, with_key}

-- One more key

-- of two it is the same which comes first
pub with_both : (a b : ℕ) (s : List ℕ) → with_key a (with_key b s) ≡ with_key b (with_key a s)
with_both a b [] = grind (arith, nat_tests)
with_both a b (j ∷ js) = grind (arith, nat_tests, with_both a b js)

-- without one
abbrev without_key : ℕ → List ℕ → List ℕ
without_key k [] = []
without_key k (j ∷ js) = if k == j then js else j ∷ without_key k js

-- so the others are left
left_with : (k : ℕ) (s : List ℕ) → without_key k (with_key k s) ≡ s
left_with k [] = grind (arith, nat_tests)
left_with k (j ∷ js) = grind (arith, nat_tests, left_with k js)

module _ (p : ℕ → Bool) where
  -- whether one passes, with one more
  any_with : (k : ℕ) (s : List ℕ) → list_any p (with_key k s) ≡ (p k || list_any p s)
  any_with k [] = refl
  any_with k (j ∷ js) = search (rules, ap (λ (c : Bool). p j || c) (any_with k js))

  -- and in ascending order
  any_order : (xs : List ℕ) → list_any p (in_order xs) ≡ list_any p xs
  any_order [] = refl
  any_order (x ∷ xs) = any_with x (in_order xs) ∙ ap (λ (c : Bool). p x || c) (any_order xs)

  -- whether all pass, with one more
  all_with : (k : ℕ) (s : List ℕ) → list_all p (with_key k s) ≡ (p k && list_all p s)
  all_with k [] = refl
  all_with k (j ∷ js) = search (rules, ap (λ (c : Bool). p j && c) (all_with k js))

  -- and in ascending order
  pub all_order : (xs : List ℕ) → list_all p (in_order xs) ≡ list_all p xs
  all_order [] = refl
  all_order (x ∷ xs) = all_with x (in_order xs) ∙ ap (λ (c : Bool). p x && c) (all_order xs)

-- what has a key more has one
pub some_with : (k : ℕ) (s : List ℕ) → is_none_of (with_key k s) ≡ false
some_with k [] = refl
some_with k (j ∷ js) = search rules

-- whether there are none
pub none_order : (xs : List ℕ) → is_none_of (in_order xs) ≡ is_none_of xs
none_order [] = refl
none_order (x ∷ xs) = some_with x (in_order xs)

-- Two heaps

-- whether both are empty
pub none_of_both : (ahead behind : List (Reverse ℕ)) → is_none_of ahead ≡ true
    → is_none_of (keys_of ahead behind) ≡ is_none_of behind
none_of_both [] behind none = none_order (keys_in behind) ∙ none_in behind
  where
    none_in : (rs : List (Reverse ℕ)) → is_none_of (keys_in rs) ≡ is_none_of rs
    none_in [] = refl
    none_in (r ∷ rs) = refl
none_of_both (r ∷ rs) behind none = absurd (let bad : ⊥ = cc in bad)

pub some_of_first : (ahead behind : List (Reverse ℕ)) → is_none_of ahead ≡ false
    → is_none_of (keys_of ahead behind) ≡ false
some_of_first [] behind some = absurd (let bad : ⊥ = cc in bad)
some_of_first (r ∷ rs) behind some = none_order (keys_in (r ∷ rs) ++ keys_in behind)

-- whether all pass in both
pub all_of_both : (p : ℕ → Bool) (ahead behind : List (Reverse ℕ))
    → list_all p (keys_of ahead behind) ≡ (list_all p (keys_in ahead) && list_all p (keys_in behind))
all_of_both p ahead behind =
    all_order p (keys_in ahead ++ keys_in behind) ∙ list_all-append p (keys_in ahead) (keys_in behind)

-- In another order

-- with one key in another's place
order_set : (l : List ℕ) (i a d : ℕ) → i < length l
    → with_key (get_or l i d) (in_order (set l i a)) ≡ with_key a (in_order l)
order_set [] i a d within = absurd (omega (arith, within))
order_set (x ∷ xs) zero a d within = with_both x a (in_order xs)
order_set (x ∷ xs) (suc i) a d within =
    with_both (get_or xs i d) x (in_order (set xs i a))
    ∙ ap (with_key x) (order_set xs i a d (omega (arith, within))) ∙ with_both x a (in_order xs)

-- with two in each other's
order_swap : (l : List ℕ) (i j : ℕ) → i < length l → j < length l → in_order (swap l i j) ≡ in_order l
order_swap [] i j p q = refl
order_swap (e ∷ ys) i j p q =
    same_rest (in_order (set w j a)) (in_order (e ∷ ys))
    (ap (λ (n : ℕ). with_key n (in_order (set w j a))) (sym there)
    ∙ order_set w j a e (omega (arith, q, length-set (e ∷ ys) i b)) ∙ order_set (e ∷ ys) i b e p)
  where
    a : ℕ
    a = get_or (e ∷ ys) i e

    b : ℕ
    b = get_or (e ∷ ys) j e

    w : List ℕ
    w = set (e ∷ ys) i b

    there : get_or w j e ≡ b
    there =
        elim (cases_eq j i) [
          | inl s ↦ ap (λ (n : ℕ). get_or w n e) s ∙ get_or-set_same (e ∷ ys) i b e p
          | inr n ↦ get_or-set_other (e ∷ ys) i j b e n
        ]

    same_rest : (s t : List ℕ) → with_key b s ≡ with_key b t → s ≡ t
    same_rest s t is = sym (left_with b s) ∙ ap (without_key b) is ∙ left_with b t

-- in any
pub same_order : (xs ys : List ℕ) → IsPermutation xs ys → in_order ys ≡ in_order xs
same_order xs ys =
    IsPermutation-keeps xs (λ l. in_order l ≡ in_order xs) refl (λ l i j p q h. order_swap l i j p q ∙ h) ys

-- One key more, and one less

module _ (k : ℕ) (xs ys zs : List ℕ) where
  -- in the first part
  pub more_first : IsPermutation (k ∷ xs) ys → in_order (ys ++ zs) ≡ with_key k (in_order (xs ++ zs))
  more_first is = same_order (k ∷ xs ++ zs) (ys ++ zs) (IsPermutation-append_left zs (k ∷ xs) ys is)

  -- in the second
  pub more_second : IsPermutation (k ∷ xs) ys → in_order (zs ++ ys) ≡ with_key k (in_order (zs ++ xs))
  more_second is =
      same_order (k ∷ zs ++ xs) (zs ++ ys)
      (IsPermutation-trans _ _ _ (IsPermutation-sym _ _ (IsPermutation-middle zs k xs))
      (IsPermutation-append_right zs (k ∷ xs) ys is))

-- with both parts in each other's place
pub swapped : (xs ys : List ℕ) → in_order (ys ++ xs) ≡ in_order (xs ++ ys)
swapped xs ys = same_order (xs ++ ys) (ys ++ xs) (IsPermutation-append_comm xs ys)

-- Which key is next

-- what a key is found by
is_same : (key n : ℕ) → is_at (nat_cmp key) n ≡ (n == key)
is_same key n = grind (arith, nat_tests)

-- a key of a heap is in both
kept_of_both : (key : ℕ) (ahead behind : List (Reverse ℕ))
    → is_kept key (keys_of ahead behind) ≡ (is_kept key (keys_in ahead) || is_kept key (keys_in behind))
kept_of_both key ahead behind =
    any_order (is_at (nat_cmp key)) (keys_in ahead ++ keys_in behind)
    ∙ list_any-append (is_at (nat_cmp key)) (keys_in ahead) (keys_in behind)

-- what isn't in the second is in the first
in_first : (a b : Bool) → b ≡ false → (a || b) ≡ true → a ≡ true
in_first true b none is = refl
in_first false b none is = absurd (let no : false ≡ true = sym none ∙ is in let bad : ⊥ = cc in bad)

-- what holds of all holds of each that is kept
of_kept : (P : ℕ → Type 0) (xs : List ℕ) → AllByRecursion P xs → (key : ℕ) → is_kept key xs ≡ true → P key
of_kept P [] all key kept = absurd (let bad : ⊥ = cc in bad)
of_kept P (x ∷ xs) all key kept =
    elim (cases_Bool (x == key)) [
      | inl e ↦ subst P (eqb-true x key e) all.0
      | inr e ↦
          of_kept P xs all.1 key
          (sym (ap (λ (c : Bool). c || is_kept key xs) (is_same key x ∙ e)) ∙ kept)
    ]

-- what follows of each follows of all
all_weaker : (P Q : ℕ → Type 0) (xs : List ℕ) → ((key : ℕ) → P key → Q key) → AllByRecursion P xs
    → AllByRecursion Q xs
all_weaker P Q [] gives all = tt
all_weaker P Q (x ∷ xs) gives all = (gives x all.0, all_weaker P Q xs gives all.1)

-- the greatest of a heap's order has the least key
below_all : (x : Reverse ℕ) (rs : List (Reverse ℕ)) → IsUpperBound key_order x rs
    → AllByRecursion (λ (j : ℕ). x.0 ≤ j) (keys_in rs)
below_all x [] upper = tt
below_all x (r ∷ rs) upper = (search (rules, upper.0), below_all x rs upper.1)

-- the top has the least key
pub is_top : (rs : List (Reverse ℕ)) (x : Bor (Reverse ℕ)) → IsItemAt rs 0 (Some x) → IsUpperBound key_order x.now rs
    → IsTop rs (Some x.now.0)
is_top [] x item upper = absurd (let least = item.3.0 in omega (arith, least))
is_top (r ∷ rs) x item upper = (first_kept, below_all x.now (r ∷ rs) upper)
  where
    first_kept : is_kept x.now.0 (keys_in (r ∷ rs)) ≡ true
    first_kept =
        let is : x.now ≡ r = search rules in
        ap (λ (c : Bool). c || is_kept x.now.0 (keys_in rs))
        (is_same x.now.0 r.0 ∙ eq-eqb r.0 x.now.0 (ap (λ (y : Reverse ℕ). y.0) (sym is)))

-- what holds of all keys of a heap holds of those that are left
left_keep : (P : ℕ → Type 0) (k : ℕ) (xs ys : List ℕ) → IsPermutation xs (k ∷ ys) → AllByRecursion P xs
    → P k × AllByRecursion P ys
left_keep P k xs ys is all = every_shuffled P xs (k ∷ ys) is all

module _ (ahead behind : List (Reverse ℕ)) (head : ℕ) (are : AreParted ahead behind head) where
  -- the top of those ahead is the least from the head on
  pub top_ahead : (o : Option ℕ) → IsTop ahead o → IsNextKey (keys_of ahead behind) (head * 2 ^ 64) o
  top_ahead None none =
      λ key high. elim (cases_Bool (is_kept key (keys_of ahead behind))) [
        | inl e ↦
            absurd (let low = of_kept (λ k. k < head * 2 ^ 64) (keys_in behind) are.behind_low key
            (sym (ap (λ (rs : List (Reverse ℕ)). is_kept key (keys_in rs) || is_kept key (keys_in behind)) none)
            ∙ sym (kept_of_both key ahead behind) ∙ e) in omega (arith, high, low))
        | inr e ↦ e
      ]
  top_ahead (Some k) is_least = (
    kept_of_both k ahead behind ∙ or_left (is_kept k (keys_in ahead)) (is_kept k (keys_in behind)) is_least.0,
    of_kept (λ j. head * 2 ^ 64 ≤ j) (keys_in ahead) are.ahead_high k is_least.0,
    λ key is high. elim (cases_Bool (is_kept key (keys_in ahead))) [
      | inl e ↦ of_kept (λ j. k ≤ j) (keys_in ahead) is_least.1 key e
      | inr e ↦
          absurd (let low = of_kept (λ j. j < head * 2 ^ 64) (keys_in behind) are.behind_low key
          (sym (ap (λ (c : Bool). c || is_kept key (keys_in behind)) e) ∙ sym (kept_of_both key ahead behind) ∙ is)
          in omega (arith, high, low))
    ],
  )

  -- the top of those behind is the least of all
  pub top_behind : (k : ℕ) → IsTop behind (Some k) → IsNextKey (keys_of ahead behind) 0 (Some k)
  top_behind k (kept, least) = (
    kept_of_both k ahead behind ∙ or_right (is_kept k (keys_in ahead)) (is_kept k (keys_in behind)) kept,
    omega arith,
    λ key is high. elim (cases_Bool (is_kept key (keys_in behind))) [
      | inl e ↦ of_kept (λ j. k ≤ j) (keys_in behind) least key e
      | inr e ↦
          let low = of_kept (λ j. j < head * 2 ^ 64) (keys_in behind) are.behind_low k kept in
          let far = of_kept (λ j. head * 2 ^ 64 ≤ j) (keys_in ahead) are.ahead_high key
          (in_first (is_kept key (keys_in ahead)) (is_kept key (keys_in behind)) e
          (sym (kept_of_both key ahead behind) ∙ is)) in
          omega (arith, low, far)
    ],
  )

  -- where none is behind, the top of those ahead is the least of all
  pub top_alone : (o : Option ℕ) → behind ≡ [] → IsTop ahead o → IsNextKey (keys_of ahead behind) 0 o
  top_alone None none empty =
      λ key high. kept_of_both key ahead behind
      ∙ ap (λ (rs : List (Reverse ℕ)). is_kept key (keys_in rs) || is_kept key (keys_in behind)) empty
      ∙ ap (λ (rs : List (Reverse ℕ)). is_kept key (keys_in rs)) none
  top_alone (Some k) none is_least = (
    kept_of_both k ahead behind ∙ or_left (is_kept k (keys_in ahead)) (is_kept k (keys_in behind)) is_least.0,
    omega arith,
    λ key is high. of_kept (λ j. k ≤ j) (keys_in ahead) is_least.1 key
        (in_first (is_kept key (keys_in ahead)) (is_kept key (keys_in behind))
        (ap (λ (rs : List (Reverse ℕ)). is_kept key (keys_in rs)) none)
        (sym (kept_of_both key ahead behind) ∙ is)),
  )

module _ {T E : Type 0} (ahead behind : List (Reverse ℕ)) (head : ℕ) (are : AreParted ahead behind head) (key : ℕ)
    (new : List (Reverse ℕ)) (r : Result T E) where
  -- one more behind, where that went well
  pub add_behind : OnOk r (IsPermutation (key ∷ keys_in behind) (keys_in new)) → OnErr r (new ≡ behind)
      → (IsHeap key_order behind → IsHeap key_order new) → key < head * 2 ^ 64 → AreParted ahead new head
  add_behind more stays order low = by r more stays
    where
      by : (s : Result T E) → OnOk s (IsPermutation (key ∷ keys_in behind) (keys_in new)) → OnErr s (new ≡ behind)
          → AreParted ahead new head
      by (Ok t) is other = record {
        ahead_order = are.ahead_order;
        behind_order = order are.behind_order;
        ahead_high = are.ahead_high;
        behind_low = every_shuffled (λ k. k < head * 2 ^ 64) (key ∷ keys_in behind) (keys_in new) is
            (low, are.behind_low);
      }
      by (Err e) is other = subst (λ (rs : List (Reverse ℕ)). AreParted ahead rs head) (sym other) are

  -- one more ahead
  pub add_ahead : OnOk r (IsPermutation (key ∷ keys_in ahead) (keys_in new)) → OnErr r (new ≡ ahead)
      → (IsHeap key_order ahead → IsHeap key_order new) → head * 2 ^ 64 ≤ key → AreParted new behind head
  add_ahead more stays order high = by r more stays
    where
      by : (s : Result T E) → OnOk s (IsPermutation (key ∷ keys_in ahead) (keys_in new)) → OnErr s (new ≡ ahead)
          → AreParted new behind head
      by (Ok t) is other = record {
        ahead_order = order are.ahead_order;
        behind_order = are.behind_order;
        ahead_high = every_shuffled (λ k. head * 2 ^ 64 ≤ k) (key ∷ keys_in ahead) (keys_in new) is
            (high, are.ahead_high);
        behind_low = are.behind_low;
      }
      by (Err e) is other = subst (λ (rs : List (Reverse ℕ)). AreParted rs behind head) (sym other) are

-- A key less

module _ (ys : List (Reverse ℕ)) (x : Bor (Reverse ℕ)) (k : ℕ) (same : x.now.0 ≡ k) where
  -- what was taken is the top
  taken_is : (rs : List (Reverse ℕ)) → IsItemAt rs 0 (Some x) → (y : Reverse ℕ) → y ≡ slice_index_or rs 0 y → y.0 ≡ k
  taken_is [] item y top = absurd (let least = item.3.0 in omega (arith, least))
  taken_is (r ∷ rs) item y top = search rules

  -- so the others are left
  pub top_taken : (rs : List (Reverse ℕ)) (r : Option (Reverse ℕ)) → IsItemAt rs 0 (Some x)
      → IfSome r (λ y. y ≡ slice_index_or rs 0 y) → IfSome r (λ y. IsPermutation rs (y ∷ ys)) → is_some r ≡ true
      → IsPermutation (keys_in rs) (k ∷ keys_in ys)
  top_taken rs None item top moved some = absurd (let bad : ⊥ = cc in bad)
  top_taken rs (Some y) item top moved some =
      subst (λ (n : ℕ). IsPermutation (keys_in rs) (n ∷ keys_in ys)) (taken_is rs item y top)
      (IsPermutation-map (λ r. r.0) rs (y ∷ ys) moved)

  -- and none of them is less
  pub least_left : (rs : List (Reverse ℕ)) (r : Option (Reverse ℕ)) → IsItemAt rs 0 (Some x)
      → IfSome r (λ y. y ≡ slice_index_or rs 0 y) → IsHeap key_order rs
      → IfSome r (λ y. IsHeap key_order rs → IsUpperBound key_order y ys) → is_some r ≡ true
      → AllByRecursion (λ j. k ≤ j) (keys_in ys)
  least_left rs None item top order upper some = absurd (let bad : ⊥ = cc in bad)
  least_left rs (Some y) item top order upper some =
      subst (λ (n : ℕ). AllByRecursion (λ j. n ≤ j) (keys_in ys)) (taken_is rs item y top)
      (below_all y ys (upper order))

module _ (ahead behind : List (Reverse ℕ)) (head : ℕ) (are : AreParted ahead behind head) (k : ℕ)
    (new : List (Reverse ℕ)) (order : IsHeap key_order new) where
  -- from those behind
  pub left_behind : IsPermutation (keys_in behind) (k ∷ keys_in new) → AreParted ahead new head
  left_behind is = record {
    ahead_order = are.ahead_order;
    behind_order = order;
    ahead_high = are.ahead_high;
    behind_low = (left_keep (λ j. j < head * 2 ^ 64) k (keys_in behind) (keys_in new) is are.behind_low).1;
  }

  -- from those ahead
  pub left_ahead : IsPermutation (keys_in ahead) (k ∷ keys_in new) → AreParted new behind head
  left_ahead is = record {
    ahead_order = order;
    behind_order = are.behind_order;
    ahead_high = (left_keep (λ j. head * 2 ^ 64 ≤ j) k (keys_in ahead) (keys_in new) is are.ahead_high).1;
    behind_low = are.behind_low;
  }

  -- and the head moves to its place
  pub left_moved : (to : ℕ) → to ≡ k / 2 ^ 64 → IsPermutation (keys_in ahead) (k ∷ keys_in new)
      → AllByRecursion (λ j. k ≤ j) (keys_in new) → AreParted new behind to
  left_moved to place is least = record {
    ahead_order = order;
    behind_order = are.behind_order;
    ahead_high = all_weaker (λ j. k ≤ j) (λ j. to * 2 ^ 64 ≤ j) (keys_in new)
        (λ j more. omega (arith, more, place)) least;
    behind_low =
        let high = (left_keep (λ j. head * 2 ^ 64 ≤ j) k (keys_in ahead) (keys_in new) is are.ahead_high).0 in
        all_weaker (λ j. j < head * 2 ^ 64) (λ j. j < to * 2 ^ 64) (keys_in behind)
        (λ j low. omega (arith, low, high, place)) are.behind_low;
  }

-- The least of all that are looked at

module _ (low k : ℕ) (seen : List ℕ) where
  -- it is the key, or was seen before
  either : (key : ℕ) → is_kept key (k ∷ seen) ≡ true → (k ≡ key) ⊎ (is_kept key seen ≡ true)
  either key is =
      elim (cases_Bool (k == key)) [
        | inl e ↦ inl (eqb-true k key e)
        | inr e ↦ inr (sym (ap (λ (c : Bool). c || is_kept key seen) (is_same key k ∙ e)) ∙ is)
      ]

  -- what was seen is seen
  still : (key : ℕ) → is_kept key seen ≡ true → is_kept key (k ∷ seen) ≡ true
  still key is = search rules

  -- the one that was found is still the least
  stays : (j : ℕ) → (low ≤ k → j ≤ k) → IsNextKey seen low (Some j) → IsNextKey (k ∷ seen) low (Some j)
  stays j less is = (
    still j is.0,
    is.1,
    λ key has high. elim (either key has) [
      | inl e ↦ subst (λ (n : ℕ). j ≤ n) e (less (omega (arith, e, high)))
      | inr e ↦ is.2 key e high
    ],
  )

  -- the key is
  comes : low ≤ k → ((key : ℕ) → is_kept key seen ≡ true → low ≤ key → k ≤ key) → IsNextKey (k ∷ seen) low (Some k)
  comes most less = (
    search (rules, is_same k k),
    most,
    λ key has high. elim (either key has) [
      | inl e ↦ omega (arith, e)
      | inr e ↦ less key e high
    ],
  )

  -- by whether it is low, and whether it is less
  next_step : (found : Option ℕ) → IsNextKey seen low found → IsNextKey (k ∷ seen) low (lesser low k found)
  next_step None none =
      elim (cases_Bool (nat_lt k low)) [
        | inl e ↦
            subst (IsNextKey (k ∷ seen) low) (sym (ap (λ (c : Bool). if c then None else Some k) e))
            (λ key high. elim (cases_Bool (is_kept key (k ∷ seen))) [
              | inl has ↦ elim (either key has) [
                | inl is ↦ absurd (let less = ltb-true k low e in omega (arith, less, is, high))
                | inr is ↦ absurd (let no : false ≡ true = sym (none key high) ∙ is in let bad : ⊥ = cc in bad)
              ]
              | inr has ↦ has
            ])
        | inr e ↦
            subst (IsNextKey (k ∷ seen) low) (sym (ap (λ (c : Bool). if c then None else Some k) e))
            (comes (ltb-false k low e) (λ key is high.
            absurd (let no : false ≡ true = sym (none key high) ∙ is in let bad : ⊥ = cc in bad)))
      ]
  next_step (Some j) is =
      elim (cases_Bool (nat_lt k low)) [
        | inl e ↦
            subst (IsNextKey (k ∷ seen) low)
            (sym (ap (λ (c : Bool). if c then Some j else (if nat_le j k then Some j else Some k)) e))
            (stays j (λ most. absurd (let less = ltb-true k low e in omega (arith, less, most))) is)
        | inr e ↦
            subst (IsNextKey (k ∷ seen) low)
            (sym (ap (λ (c : Bool). if c then Some j else (if nat_le j k then Some j else Some k)) e))
            (elim (cases_Bool (nat_le j k)) [
              | inl f ↦
                  subst (IsNextKey (k ∷ seen) low) (sym (ap (λ (c : Bool). if c then Some j else Some k) f))
                  (stays j (λ most. leb-true j k f) is)
              | inr f ↦
                  subst (IsNextKey (k ∷ seen) low) (sym (ap (λ (c : Bool). if c then Some j else Some k) f))
                  (comes (ltb-false k low e) (λ key has high.
                  let less = leb-false j k f in let most = is.2 key has high in omega (arith, less, most)))
            ])
      ]

-- the same keys have the same least one
next_same : (xs ys : List ℕ) (low : ℕ) → ((key : ℕ) → is_kept key ys ≡ is_kept key xs) → (o : Option ℕ)
    → IsNextKey xs low o → IsNextKey ys low o
next_same xs ys low same None none = λ key high. same key ∙ none key high
next_same xs ys low same (Some k) is =
    (same k ∙ is.0, is.1, λ key has high. is.2 key (sym (same key) ∙ has) high)

-- so of those that are left
next_more : (low : ℕ) (ks seen all : List ℕ) (found : Option ℕ) → IsNextKey seen low found
    → ((key : ℕ) → is_kept key all ≡ (is_kept key ks || is_kept key seen)) → IsNextKey all low (least_with low ks found)
next_more low [] seen all found is same = next_same seen all low same found is
next_more low (k ∷ ks) seen all found is same =
    next_more low ks (k ∷ seen) all (lesser low k found) (next_step low k seen found is)
    (λ key. same key ∙ turned (is_at (nat_cmp key) k) (is_kept key ks) (is_kept key seen))
  where
    turned : (a b c : Bool) → ((a || b) || c) ≡ (b || (a || c))
    turned true true c = refl
    turned true false c = refl
    turned false b c = refl

-- and of both heaps
pub next_of_both : (low : ℕ) (ahead behind : List (Reverse ℕ))
    → IsNextKey (keys_of ahead behind) low (least_with low (keys_in behind) (least_with low (keys_in ahead) None))
next_of_both low ahead behind =
    next_more low (keys_in behind) (keys_in ahead) (keys_of ahead behind) (least_with low (keys_in ahead) None)
    (next_more low (keys_in ahead) [] (keys_in ahead) None (λ key high. refl)
    (λ key. or_none (is_kept key (keys_in ahead))))
    (λ key. kept_of_both key ahead behind ∙ or_turned (is_kept key (keys_in ahead)) (is_kept key (keys_in behind)))
  where
    or_none : (a : Bool) → a ≡ (a || false)
    or_none true = refl
    or_none false = refl

    or_turned : (a b : Bool) → (a || b) ≡ (b || a)
    or_turned true true = refl
    or_turned true false = refl
    or_turned false true = refl
    or_turned false false = refl
