-- Lists after a change or a removal that spares what passes a test.
use Rattle.std.specs.Prelude.{◌≡◌, Bool, true, false, not, List, [], ◌∷◌, filter, find}
use Rattle.std.specs.List.{AllByRecursion, list_any}
use Rattle.std.proofs.Common.{refl, ap}
use Rattle.std.proofs.lemmas.Bool.{or_parts}
use Rattle.geo_model.specs.Words.{change_where}
use Rattle.geo_laws_graph.proofs.Lists.{find-same, any-same}

module _ {X : Type 0} (hit test : X → Bool) where
  module _ (change : X → X) where
    -- where it is changed, an item passes neither before nor after
    abbrev pub IsUntouched : X → Type 0
    IsUntouched x = hit x ≡ true → (test x ≡ false) × (test (change x) ≡ false)

    -- one item more of those that are kept
    filter_step : (x : X) (xs : List X) (a b : Bool) → hit x ≡ a → test x ≡ b → IsUntouched x
        → filter test (change_where hit change xs) ≡ filter test xs
        → filter test (change_where hit change (x ∷ xs)) ≡ filter test (x ∷ xs)
    filter_step x xs true b e f un rest = let both = un e in let before : test x ≡ false = both.0 in
        let after : test (change x) ≡ false = both.1 in rw (e, after, before) rest
    filter_step x xs false true e f un rest = rw (e, f) (ap (λ ys. x ∷ ys) rest)
    filter_step x xs false false e f un rest = rw (e, f) rest

    -- what is kept is as before
    pub filter-untouched : (xs : List X) → AllByRecursion IsUntouched xs
        → filter test (change_where hit change xs) ≡ filter test xs
    filter-untouched [] un = refl
    filter-untouched (x ∷ xs) un = filter_step x xs (hit x) (test x) refl refl un.0 (filter-untouched xs un.1)

    -- so the same is found
    pub find-untouched : (xs : List X) → AllByRecursion IsUntouched xs
        → find test (change_where hit change xs) ≡ find test xs
    find-untouched xs un = find-same test (change_where hit change xs) xs (filter-untouched xs un)

    -- and some item passes just where one did
    pub any-untouched : (xs : List X) → AllByRecursion IsUntouched xs
        → list_any test (change_where hit change xs) ≡ list_any test xs
    any-untouched xs un = any-same test (change_where hit change xs) xs (filter-untouched xs un)

    -- one item more of those that are kept, where what is changed passes no more
    away_step : (x : X) (xs : List X) (a b : Bool) → hit x ≡ a → test x ≡ b → (hit x ≡ true → test (change x) ≡ false)
        → filter test (change_where hit change xs) ≡ filter (λ y. not (hit y)) (filter test xs)
        → filter test (change_where hit change (x ∷ xs)) ≡ filter (λ y. not (hit y)) (filter test (x ∷ xs))
    away_step x xs true true e f so rest = let after : test (change x) ≡ false = so e in rw (e, after, f, e) rest
    away_step x xs true false e f so rest = let after : test (change x) ≡ false = so e in rw (e, after, f) rest
    away_step x xs false true e f so rest = rw (e, f, e) (ap (λ ys. x ∷ ys) rest)
    away_step x xs false false e f so rest = rw (e, f) rest

    -- what is changed passes no more: the others are kept
    pub filter-away : ((x : X) → hit x ≡ true → test (change x) ≡ false) → (xs : List X)
        → filter test (change_where hit change xs) ≡ filter (λ y. not (hit y)) (filter test xs)
    filter-away so [] = refl
    filter-away so (x ∷ xs) = away_step x xs (hit x) (test x) refl refl (so x) (filter-away so xs)

    -- one item more, which didn't pass
    fewer_step : (x : X) (xs : List X) (a : Bool) → hit x ≡ a → test x ≡ false
        → (hit x ≡ true → test (change x) ≡ false)
        → list_any test (change_where hit change xs) ≡ false → list_any test (change_where hit change (x ∷ xs)) ≡ false
    fewer_step x xs true e none so rest = let after : test (change x) ≡ false = so e in rw (e, after) rest
    fewer_step x xs false e none so rest = rw (e, none) rest

    -- and where none passed none does
    pub any-fewer : ((x : X) → hit x ≡ true → test (change x) ≡ false) → (xs : List X) → list_any test xs ≡ false
        → list_any test (change_where hit change xs) ≡ false
    any-fewer so [] none = refl
    any-fewer so (x ∷ xs) none =
        let parts = or_parts (test x) (list_any test xs) none in
        fewer_step x xs (hit x) refl parts.0 (so x) (any-fewer so xs parts.1)

  -- what goes doesn't pass
  abbrev pub IsSpared : X → Type 0
  IsSpared x = hit x ≡ true → test x ≡ false

  -- one item more of those that are kept, where it stays or goes
  kept_step : (x : X) (xs : List X) (a b : Bool) → hit x ≡ a → test x ≡ b → IsSpared x
      → filter test (filter (λ y. not (hit y)) xs) ≡ filter test xs
      → filter test (filter (λ y. not (hit y)) (x ∷ xs)) ≡ filter test (x ∷ xs)
  kept_step x xs true b e f spared rest = let out : test x ≡ false = spared e in rw (e, out) rest
  kept_step x xs false true e f spared rest = rw (e, f) (ap (λ ys. x ∷ ys) rest)
  kept_step x xs false false e f spared rest = rw (e, f) rest

  -- what is kept is as before
  pub filter-spared : (xs : List X) → AllByRecursion IsSpared xs
      → filter test (filter (λ y. not (hit y)) xs) ≡ filter test xs
  filter-spared [] spared = refl
  filter-spared (x ∷ xs) spared = kept_step x xs (hit x) (test x) refl refl spared.0 (filter-spared xs spared.1)

  -- so the same is found
  pub find-spared : (xs : List X) → AllByRecursion IsSpared xs → find test (filter (λ y. not (hit y)) xs) ≡ find test xs
  find-spared xs spared = find-same test (filter (λ y. not (hit y)) xs) xs (filter-spared xs spared)

  -- and some item passes just where one did
  pub any-spared : (xs : List X) → AllByRecursion IsSpared xs
      → list_any test (filter (λ y. not (hit y)) xs) ≡ list_any test xs
  any-spared xs spared = any-same test (filter (λ y. not (hit y)) xs) xs (filter-spared xs spared)
