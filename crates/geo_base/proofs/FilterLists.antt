-- What a filter keeps, and how much.
use Rattle.std.specs.Prelude.{◌≡◌, ℕ, ◌≤◌, Bool, true, false, cond, List, [], ◌∷◌, length, map, filter, filter_map, count_by, Option}
use Rattle.std.specs.List.{AllByRecursion}
use Rattle.std.proofs.Common.{refl, ◌∙◌, ap, arith}
use Rattle.std.proofs.lemmas.List.Sums.{count_by-le-length, length-filter}

-- a test that all items pass keeps them all
pub keeps_all : {X : Type 0} (test : X → Bool) (xs : List X) → AllByRecursion (λ x. test x ≡ true) xs
    → filter test xs ≡ xs
keeps_all test [] facts = refl
keeps_all test (x ∷ xs) facts = rw (facts.0, keeps_all test xs facts.1) refl

-- what is kept of items seen otherwise is what is kept of them, seen so
pub filter-map : {X Y : Type 0} (test : Y → Bool) (see : X → Y) (xs : List X)
    → filter test (map see xs) ≡ map see (filter (λ x. test (see x)) xs)
filter-map test see [] = refl
filter-map {Y = Y} test see (x ∷ xs) = step (test (see x)) (filter-map test see xs)
  where
    step : (b : Bool) → filter test (map see xs) ≡ map see (filter (λ x. test (see x)) xs)
        → cond b (see x ∷ filter test (map see xs)) (filter test (map see xs))
        ≡ map see (cond b (x ∷ filter (λ x. test (see x)) xs) (filter (λ x. test (see x)) xs))
    step true more = ap (λ ys. see x ∷ ys) more
    step false more = more

-- a filter makes no list longer
pub length-kept : {X : Type 0} (keep : X → Bool) (xs : List X) → length (filter keep xs) ≤ length xs
length-kept keep xs = omega (arith, length-filter keep xs, count_by-le-length keep xs)

module _ {X : Type 0} (keep test : X → Bool) where
  -- one item more of the two filters
  twice_step : (x : X) (xs : List X) (b c : Bool) → test x ≡ b → keep x ≡ c
      → filter test (filter keep xs) ≡ filter keep (filter test xs)
      → filter test (filter keep (x ∷ xs)) ≡ filter keep (filter test (x ∷ xs))
  twice_step x xs true true e f rest = rw (f, e, f, rest) refl
  twice_step x xs true false e f rest = rw (f, e, f) rest
  twice_step x xs false true e f rest = rw (f, e) rest
  twice_step x xs false false e f rest = rw (f, e) rest

  -- two filters in either order
  pub filter-filter : (xs : List X) → filter test (filter keep xs) ≡ filter keep (filter test xs)
  filter-filter [] = refl
  filter-filter (x ∷ xs) = twice_step x xs (test x) (keep x) refl refl (filter-filter xs)

-- of what a filter keeps no more pass
pub count-kept : {X : Type 0} (test keep : X → Bool) (xs : List X) → count_by test (filter keep xs) ≤ count_by test xs
count-kept test keep xs =
    let one = length-filter test (filter keep xs) in
    let two = ap (λ ys. length ys) (filter-filter keep test xs) in
    let three = length-filter keep (filter test xs) in
    let four = count_by-le-length keep (filter test xs) in
    let five = length-filter test xs in
    omega (arith, one, two, three, four, five)

-- two functions that give the same of each item give the same of a list
pub filter_map-same : {X Y : Type 0} (f h : X → Option Y) → ((x : X) → f x ≡ h x)
    → (xs : List X) → filter_map f xs ≡ filter_map h xs
filter_map-same f h same [] = refl
filter_map-same f h same (x ∷ xs) = rw (same x, filter_map-same f h same xs) refl
