-- What a list contains, after a filter, a map and the like.
use Rattle.std.specs.Prelude.{◌≡◌, ◌⊎◌, ℕ, zero, suc, ◌<◌, ◌≤◌, Bool, true, false, List, [], ◌∷◌, length, map, filter, filter_map, flat_map, find, Option, Some, None, Contains, slice_get}
use Rattle.std.specs.List.{AllByRecursion, AllZip}
use Rattle.std.proofs.Common.{inl, inr, refl, sym, ◌∙◌, ap, subst, arith, get_or}
use Rattle.std.proofs.lemmas.List.Elements.{Contains-append_left, Contains-append_right, Contains-append_cases}
use Rattle.std.proofs.lemmas.Option.{slice_get_within, get_or_from_slice_get}

-- where a member of a list with a fact is found
pub record Origin {X : Type 0} (R : X → Type 0) (xs : List X) : Type 0 where
  pub item : X
  pub stands : Contains xs item
  pub fact : R item

module _ {X : Type 0} where
  -- the first is contained
  pub Contains-here : (x : X) (xs : List X) → Contains (x ∷ xs) x
  Contains-here x xs = Contains-append_left (x ∷ []) xs x (0, omega arith, refl)

  -- so is what the rest contains
  pub Contains-there : (x y : X) (xs : List X) → Contains xs y → Contains (x ∷ xs) y
  Contains-there x y xs c = Contains-append_right (x ∷ []) xs y c

  -- no list without an item contains one
  pub nothing_in : (y : X) → Contains [] y → ⊥
  nothing_in y c = omega (arith, c.1)

  -- what stands at a place of a list of one item is that item
  only_one : (x y : X) (k : ℕ) → k < length (x ∷ []) → get_or (x ∷ []) k y ≡ y → x ≡ y
  only_one x y zero l e = e
  only_one x y (suc k) l e = absurd (omega (arith, l))

  -- what is contained is the first, or is in the rest
  pub Contains-cases : (x y : X) (xs : List X) → Contains (x ∷ xs) y → (x ≡ y) ⊎ Contains xs y
  Contains-cases x y xs c =
      elim (Contains-append_cases (x ∷ []) xs y c) [
        | inl one ↦ inl (only_one x y one.0 one.1 one.2)
        | inr rest ↦ inr rest
      ]

  -- a fact of each that is contained
  pub All-from_contained : (P : X → Type 0) (xs : List X) → ((x : X) → Contains xs x → P x) → AllByRecursion P xs
  All-from_contained P [] so = tt
  All-from_contained P (x ∷ xs) so =
      (so x (Contains-here x xs), All-from_contained P xs (λ y c. so y (Contains-there x y xs c)))

  -- what holds of all items holds of each that is contained
  pub at_contained : (P : X → Type 0) (xs : List X) (y : X) → AllByRecursion P xs → Contains xs y → P y
  at_contained P [] y facts c = absurd (nothing_in y c)
  at_contained P (x ∷ xs) y facts c =
      elim (Contains-cases x y xs c) [
        | inl same ↦ rw same at facts.0
        | inr rest ↦ at_contained P xs y facts.1 rest
      ]

  -- what is contained and passes a filter, is kept
  kept_first : (test : X → Bool) (x y : X) (xs : List X) (b : Bool) → test x ≡ b → x ≡ y → test y ≡ true
      → Contains (filter test (x ∷ xs)) y
  kept_first test x y xs true e same passes =
      rw e (subst (λ z. Contains (x ∷ filter test xs) z) same (Contains-here x (filter test xs)))
  kept_first test x y xs false e same passes = let here : test x ≡ true = rw same passes in absurd cc

  -- what is kept of the rest is kept of the whole list
  kept_behind : (test : X → Bool) (x y : X) (xs : List X) (b : Bool) → test x ≡ b → Contains (filter test xs) y
      → Contains (filter test (x ∷ xs)) y
  kept_behind test x y xs true e rest = rw e (Contains-there x y (filter test xs) rest)
  kept_behind test x y xs false e rest = rw e rest

  -- so each that is contained and passes is kept, wherever it stands
  pub Contains-filter : (test : X → Bool) (xs : List X) (y : X) → Contains xs y → test y ≡ true
      → Contains (filter test xs) y
  Contains-filter test [] y c passes = c
  Contains-filter test (x ∷ xs) y c passes =
      elim (Contains-cases x y xs c) [
        | inl same ↦ kept_first test x y xs (test x) refl same passes
        | inr rest ↦ kept_behind test x y xs (test x) refl (Contains-filter test xs y rest passes)
      ]

  -- what a filter keeps, is contained and passes
  passed_step : (test : X → Bool) (x y : X) (xs : List X) (b : Bool) → test x ≡ b
      → (Contains (filter test xs) y → Contains xs y × (test y ≡ true)) → Contains (filter test (x ∷ xs)) y
      → Contains (x ∷ xs) y × (test y ≡ true)
  passed_step test x y xs true e so c =
      elim (Contains-cases x y (filter test xs) (rw e at c)) [
        | inl same ↦ (rw same (Contains-here y xs), rw same at e)
        | inr rest ↦ (Contains-there x y xs (so rest).0, (so rest).1)
      ]
  passed_step test x y xs false e so c = let more = so (rw e at c) in (Contains-there x y xs more.0, more.1)

  -- so for the whole list
  pub filter-Contains : (test : X → Bool) (xs : List X) (y : X) → Contains (filter test xs) y
      → Contains xs y × (test y ≡ true)
  filter-Contains test [] y c = absurd (nothing_in y c)
  filter-Contains test (x ∷ xs) y c = passed_step test x y xs (test x) refl (λ h. filter-Contains test xs y h) c

  -- a member of the rest with a fact is one of the whole list
  further : (R : X → Type 0) (x : X) (xs : List X) → Origin R xs → Origin R (x ∷ xs)
  further R x xs o = record { item = o.item; stands = Contains-there x o.item xs o.stands; fact = o.fact }

module _ {X Y : Type 0} where
  -- what a map gives of a member
  pub Contains-map : (f : X → Y) (xs : List X) (x : X) → Contains xs x → Contains (map f xs) (f x)
  Contains-map f [] x c = absurd (nothing_in x c)
  Contains-map f (y ∷ xs) x c =
      elim (Contains-cases y x xs c) [
        | inl same ↦ subst (λ z. Contains (f y ∷ map f xs) (f z)) same (Contains-here (f y) (map f xs))
        | inr rest ↦ Contains-there (f y) (f x) (map f xs) (Contains-map f xs x rest)
      ]

  -- where a member of a map comes from
  pub map-Contains : (f : X → Y) (xs : List X) (y : Y) → Contains (map f xs) y → Origin (λ x. f x ≡ y) xs
  map-Contains f [] y c = absurd (nothing_in y c)
  map-Contains f (x ∷ xs) y c =
      elim (Contains-cases (f x) y (map f xs) c) [
        | inl same ↦ record { item = x; stands = Contains-here x xs; fact = same }
        | inr rest ↦ further (λ x. f x ≡ y) x xs (map-Contains f xs y rest)
      ]

  -- what filter_map gives of a member
  mapped_first : (h : X → Option Y) (z x : X) (xs : List X) (y : Y) → z ≡ x → h x ≡ Some y
      → Contains (filter_map h (z ∷ xs)) y
  mapped_first h z x xs y same e = rw (same, e) (Contains-here y (filter_map h xs))

  -- what filter_map gives of the rest, it gives of the whole list
  mapped_behind : (h : X → Option Y) (z : X) (xs : List X) (y : Y) (o : Option Y) → h z ≡ o
      → Contains (filter_map h xs) y → Contains (filter_map h (z ∷ xs)) y
  mapped_behind h z xs y None none rest = rw none rest
  mapped_behind h z xs y (Some v) some rest = rw some (Contains-there v y (filter_map h xs) rest)

  -- so what it gives of any member is contained
  pub Contains-filter_map : (h : X → Option Y) (xs : List X) (x : X) (y : Y) → Contains xs x → h x ≡ Some y
      → Contains (filter_map h xs) y
  Contains-filter_map h [] x y c e = absurd (nothing_in x c)
  Contains-filter_map h (z ∷ xs) x y c e =
      elim (Contains-cases z x xs c) [
        | inl same ↦ mapped_first h z x xs y same e
        | inr rest ↦ mapped_behind h z xs y (h z) refl (Contains-filter_map h xs x y rest e)
      ]

  -- where a member of what filter_map gives comes from
  origin_step : (h : X → Option Y) (x : X) (xs : List X) (y : Y) (o : Option Y) → h x ≡ o
      → (Contains (filter_map h xs) y → Origin (λ x. h x ≡ Some y) xs) → Contains (filter_map h (x ∷ xs)) y
      → Origin (λ x. h x ≡ Some y) (x ∷ xs)
  origin_step h x xs y None e so c = further (λ x. h x ≡ Some y) x xs (so (rw e at c))
  origin_step h x xs y (Some v) e so c =
      elim (Contains-cases v y (filter_map h xs) (rw e at c)) [
        | inl same ↦ record { item = x; stands = Contains-here x xs; fact = e ∙ ap (λ z. Some z) same }
        | inr rest ↦ further (λ x. h x ≡ Some y) x xs (so rest)
      ]

  -- so for the whole list
  pub filter_map-Contains : (h : X → Option Y) (xs : List X) (y : Y) → Contains (filter_map h xs) y
      → Origin (λ x. h x ≡ Some y) xs
  filter_map-Contains h [] y c = absurd (nothing_in y c)
  filter_map-Contains h (x ∷ xs) y c = origin_step h x xs y (h x) refl (λ k. filter_map-Contains h xs y k) c

-- what stands at a place is contained
pub slot-contained : {X : Type 0} (xs : List X) (i : ℕ) (x : X) → slice_get xs i ≡ Some x → Contains xs x
slot-contained xs i x is = (i, slice_get_within xs i x is, get_or_from_slice_get xs i x x is)

-- what is in the list of one of the items
pub in_flat_map : {X Y : Type 0} (f : X → List Y) (xs : List X) (x : X) (y : Y) → Contains xs x → Contains (f x) y
    → Contains (flat_map f xs) y
in_flat_map f [] x y there inside = absurd (nothing_in x there)
in_flat_map f (z ∷ zs) x y there inside =
    elim (Contains-cases z x zs there) [
      | inl same ↦ Contains-append_left (f z) (flat_map f zs) y (subst (λ b. Contains (f b) y) (sym same) inside)
      | inr rest ↦ Contains-append_right (f z) (flat_map f zs) y (in_flat_map f zs x y rest inside)
    ]

-- what is in the joined list is in the list of one of the items
pub flat_map_cases : {X Y : Type 0} (f : X → List Y) (xs : List X) (y : Y) → Contains (flat_map f xs) y
    → (x : X) × Contains xs x × Contains (f x) y
flat_map_cases f [] y there = absurd (nothing_in y there)
flat_map_cases f (x ∷ xs) y there =
    elim (Contains-append_cases (f x) (flat_map f xs) y there) [
      | inl here ↦ (x, Contains-here x xs, here)
      | inr rest ↦ let found = flat_map_cases f xs y rest in (found.0, Contains-there x found.0 xs found.1, found.2)
    ]

-- two members of a list of one are one
pub one_only : {X : Type 0} (xs : List X) (a b : X) → length xs ≤ 1 → Contains xs a → Contains xs b → a ≡ b
one_only [] a b short first second = absurd (nothing_in a first)
one_only (x ∷ []) a b short first second =
    elim (Contains-cases x a [] first) [
      | inl same ↦
          elim (Contains-cases x b [] second) [
            | inl too ↦ sym same ∙ too
            | inr rest ↦ absurd (nothing_in b rest)
          ]
      | inr rest ↦ absurd (nothing_in a rest)
    ]
one_only (x ∷ y ∷ xs) a b short first second = absurd (omega (arith, short))

-- a fact of each two items of two lists, with the membership of the first
pub zip_members : {A B : Type 0} (R S : A → B → Type 0) (xs : List A) (ys : List B)
    → ((a : A) (b : B) → Contains xs a → R a b → S a b) → AllZip R xs ys → AllZip S xs ys
zip_members R S [] [] so facts = facts
zip_members R S [] (y ∷ ys) so facts = facts
zip_members R S (x ∷ xs) [] so facts = facts
zip_members R S (x ∷ xs) (y ∷ ys) so facts = (
  so x y (Contains-here x xs) facts.0,
  zip_members R S xs ys (λ a b here. so a b (Contains-there x a xs here)) facts.1,
)
