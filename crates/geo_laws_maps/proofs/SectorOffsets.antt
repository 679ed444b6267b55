-- Offsets of sectors in turn, and parts of bytes in turn.
use Rattle.std.specs.Prelude.{◌≡◌, ℕ, zero, suc, ◌+◌, ◌*◌, ◌/◌, ◌%◌, ◌<◌, List, [], ◌∷◌, ◌++◌, map, take, drop}
use Rattle.std.specs.List.{range_with_len}
use Rattle.std.proofs.Common.{refl, sym, ◌∙◌, ap, arith, take-add}
use Rattle.std.proofs.Math.Nat.{add-mul, div-mul_cancel, mul-add-div_right, dvd_of_mod-eq-zero, zero-div}
use Rattle.geo_model.specs.Results.{sector_offsets}

-- two functions that agree at numbers in turn give the same list
pub range-same : {X : Type 0} (f g : ℕ → X) (i j n : ℕ) → ((k : ℕ) → k < n → f (i + k) ≡ g (j + k))
    → map f (range_with_len i n) ≡ map g (range_with_len j n)
range-same f g i j zero so = refl
range-same {X} f g i j (suc n) so =
    let a : i + 0 ≡ i = omega arith in
    let b : j + 0 ≡ j = omega arith in
    let first : f i ≡ g j = ap f (sym a) ∙ so 0 (omega arith) ∙ ap g b in
    let rest : map f (range_with_len (i + 1) n) ≡ map g (range_with_len (j + 1) n) =
    range-same f g (i + 1) (j + 1) n (λ k less.
    let c : i + 1 + k ≡ i + (k + 1) = omega arith in
    let d : j + 1 + k ≡ j + (k + 1) = omega arith in
    ap f c ∙ so (k + 1) (omega (arith, less)) ∙ ap g (sym d)) in
    ap (λ x. x ∷ map f (range_with_len (i + 1) n)) first ∙ ap (λ xs. g j ∷ xs) rest

-- numbers in turn are some and then the rest
range-split : {X : Type 0} (f : ℕ → X) (a i j : ℕ)
    → map f (range_with_len a (i + j)) ≡ map f (range_with_len a i) ++ map f (range_with_len (a + i) j)
range-split f a zero j =
    let e : zero + j ≡ j = omega arith in
    let d : a + zero ≡ a = omega arith in
    ap (λ n. map f (range_with_len a n)) e ∙ sym (ap (λ n. map f (range_with_len n j)) d)
range-split f a (suc i) j =
    let e : suc i + j ≡ suc (i + j) = omega arith in
    let d : a + 1 + i ≡ a + suc i = omega arith in
    ap (λ n. map f (range_with_len a n)) e
    ∙ ap (λ xs. f a ∷ xs) (range-split f (a + 1) i j)
    ∙ ap (λ n. f a ∷ map f (range_with_len (a + 1) i) ++ map f (range_with_len n j)) d

-- the offsets of a range are those of its first part and those of the rest
pub offsets-split : (s o l m : ℕ) → 0 < s → l % s ≡ 0
    → sector_offsets s o (l + m) ≡ sector_offsets s o l ++ sector_offsets s (o + l) m
offsets-split s o l m some whole =
    let f : ℕ → ℕ = λ k. o + k * s in
    let times : l / s * s ≡ l = div-mul_cancel s (dvd_of_mod-eq-zero s whole) in
    let parts : (l + m) / s ≡ l / s + m / s =
    ap (λ n. (n + m) / s) (sym times) ∙ mul-add-div_right some (l / s) m in
    ap (λ n. map (λ k. o + k * s) (range_with_len 0 n)) parts
    ∙ range-split (λ k. o + k * s) 0 (l / s) (m / s)
    ∙ ap (λ xs. sector_offsets s o l ++ xs)
    (range-same (λ k. o + k * s) (λ k. o + l + k * s) (0 + l / s) 0 (m / s) (λ k less.
    let a : 0 + l / s + k ≡ l / s + k = omega arith in
    let b : 0 + k ≡ k = omega arith in
    let c : (l / s + k) * s ≡ l / s * s + k * s = add-mul (l / s) k s in
    ap (λ n. o + n * s) a ∙ ap (λ n. o + n) (c ∙ ap (λ n. n + k * s) times)
    ∙ (let d : o + (l + k * s) ≡ o + l + k * s = omega arith in d) ∙ sym (ap (λ n. o + l + n * s) b)))

-- no range has no offsets
pub offsets-none : (s o n : ℕ) → n ≡ 0 → sector_offsets s o n ≡ []
offsets-none s o n none =
    ap (λ m. map (λ k. o + k * s) (range_with_len 0 m)) (ap (λ m. m / s) none ∙ zero-div s)

-- a part of some bytes and the part after it
pub part-split : (n m : ℕ) (xs : List ℕ) → take (n + m) xs ≡ take n xs ++ take m (drop n xs)
part-split n m xs = take-add n m xs
