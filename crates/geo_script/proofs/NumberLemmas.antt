-- The number of decimal digits, from the first on.
use Rattle.std.proofs.Common.{◌≡◌, ℕ, ◌+◌, ◌-◌, ◌*◌, ◌^◌, ◌<◌, ◌≤◌, nat_lt, true, false, List, [], ◌∷◌, length, drop, Some, None, refl, sym, ◌∙◌, ap, arith, get_or, fold}
use Rattle.std.proofs.lemmas.Bool.Decides.{nat_tests}
use Rattle.std.proofs.Math.ListN.{drop_of_length-le}
use Rattle.std.proofs.lemmas.List.{drop_more}
use Rattle.geo_script.specs.Reads.{fitting}

-- the value of digits behind a number
abbrev pub value_behind : ℕ → List ℕ → ℕ
value_behind value digits = fold (λ n b. 10 * n + (b - 48)) value digits

-- one digit more
value_next : (xs : List ℕ) (i value : ℕ) → i < length xs
    → value_behind value (drop i xs) ≡ value_behind (10 * value + (get_or xs i 0 - 48)) (drop (i + 1) xs)
value_next xs i value lt = ap (value_behind value) (drop_more xs i 0 lt)

-- digits make a number no smaller
value_grows : (value : ℕ) (xs : List ℕ) → value ≤ value_behind value xs
value_grows value [] = omega arith
value_grows value (x ∷ xs) = let more : 10 * value + (x - 48) ≤ value_behind (10 * value + (x - 48)) xs =
    value_grows (10 * value + (x - 48)) xs in omega arith

-- a number that fits is itself
fitting-tells : (n m : ℕ) → fitting n ≡ Some m → n ≡ m
fitting-tells n m e = grind (arith, nat_tests)

-- a number that doesn't fit is 2 ^ 64 at least
fitting-none : (n : ℕ) → fitting n ≡ None → 2 ^ 64 ≤ n
fitting-none n e = grind (arith, nat_tests)

-- a number that fits is below 2 ^ 64
pub value_fits : (n m : ℕ) → Some m ≡ fitting n → m < 2 ^ 64
value_fits n m e = let back : fitting n ≡ Some m = sym e in grind (arith, nat_tests)

-- a digit more is read
pub value_on : (xs : List ℕ) (i value more all : ℕ) → i < length xs
    → Some more ≡ fitting (10 * value + (get_or xs i 0 - 48)) → value_behind value (drop i xs) ≡ all
    → value_behind more (drop (i + 1) xs) ≡ all
value_on xs i value more all lt e whole =
    ap (λ n. value_behind n (drop (i + 1) xs))
    (sym (fitting-tells (10 * value + (get_or xs i 0 - 48)) more (sym e))) ∙ sym (value_next xs i value lt) ∙ whole

-- a number that doesn't fit stays so with the digits behind it
pub value_too_large : (xs : List ℕ) (i value all : ℕ) → i < length xs
    → None ≡ fitting (10 * value + (get_or xs i 0 - 48)) → value_behind value (drop i xs) ≡ all → None ≡ fitting all
value_too_large xs i value all lt e whole =
    let large : 2 ^ 64 ≤ 10 * value + (get_or xs i 0 - 48) = fitting-none (10 * value + (get_or xs i 0 - 48)) (sym e) in
    let grown : 10 * value + (get_or xs i 0 - 48)
    ≤ value_behind (10 * value + (get_or xs i 0 - 48)) (drop (i + 1) xs) =
    value_grows (10 * value + (get_or xs i 0 - 48)) (drop (i + 1) xs) in
    let same : value_behind (10 * value + (get_or xs i 0 - 48)) (drop (i + 1) xs) ≡ all =
    sym (value_next xs i value lt) ∙ whole in
    let above : nat_lt all (2 ^ 64) ≡ false = grind (arith, nat_tests) in
    rw above refl

-- no digit is left
pub value_end : (xs : List ℕ) (i value all : ℕ) → length xs ≤ i → value < 2 ^ 64
    → value_behind value (drop i xs) ≡ all → Some value ≡ fitting all
value_end xs i value all le fits whole =
    let same : value ≡ all = sym (ap (value_behind value) (drop_of_length-le xs le)) ∙ whole in
    let below : nat_lt all (2 ^ 64) ≡ true = grind (arith, nat_tests) in
    rw below (ap Some same)
