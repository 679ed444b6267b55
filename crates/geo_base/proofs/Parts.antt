-- Parts of bytes.
use Rattle.std.specs.Prelude.{◌≡◌, ℕ, ◌+◌, ◌-◌, ◌≤◌, List, length, take, drop, min, slice_range}
use Rattle.std.proofs.Common.{sym, ◌∙◌, ap, subst, arith, inl, inr}
use Rattle.std.proofs.Math.Seq.{take-length, take-nil}
use Rattle.std.proofs.lemmas.Bool.{cases_lt}
use Rattle.std.proofs.lemmas.List.{drop_all, drop-drop, drop-take, length-drop, length-take, take_all, take-take}

-- the first of the first: as many as the lesser number
take_min : (r len : ℕ) (xs : List ℕ) → take len (take r xs) ≡ take (min r len) xs
take_min r len xs = elim (cases_lt r len) [
  | inl less ↦
      let short : length (take r xs) ≤ len = let is = length-take r xs in omega (arith, is) in
      let most : min r len ≡ r = omega arith in
      take_all len (take r xs) short ∙ ap (λ n. take n xs) (sym most)
  | inr more ↦
      let least : min r len ≡ len = omega arith in
      take-take len r xs (omega arith) ∙ ap (λ n. take n xs) (sym least)
]

-- the first bytes, as many as there are
take_most : (len : ℕ) (xs : List ℕ) → take (min (length xs) len) xs ≡ take len xs
take_most len xs = sym (take_min (length xs) len xs) ∙ ap (take len) (take-length xs)

module _ (xs : List ℕ) (from len : ℕ) where
  -- the place at which the part begins
  abbrev start : ℕ
  start = min (length xs) from

  -- so many bytes from a place on, or as many as there are
  part_from : slice_range xs start (start + min (length xs - start) len) ≡ take len (drop from xs)
  part_from = elim (cases_lt (length xs) from) [
    | inl past ↦
        let short : length xs ≤ from = omega arith in
        let none : start + min (length xs - start) len - start ≡ 0 = omega arith in
        ap (λ n. take n (drop start xs)) none ∙ sym (ap (take len) (drop_all from xs short) ∙ take-nil len)
    | inr within ↦
        let first : start ≡ from = omega arith in
        let rest = length-drop from xs in
        let many : start + min (length xs - start) len - start ≡ min (length (drop from xs)) len =
        omega (arith, rest) in
        ap (λ n. take n (drop start xs)) many
        ∙ ap (λ n. take (min (length (drop from xs)) len) (drop n xs)) first
        ∙ take_most len (drop from xs)
  ]

-- a part of a part, whose places are counted from the part's first byte
part_of_part : (xs : List ℕ) (s e from to : ℕ) → from ≤ to → to ≤ e - s
    → slice_range xs (s + from) (s + to) ≡ slice_range (slice_range xs s e) from to
part_of_part xs s e from to rising inside =
    let many : s + to - (s + from) ≡ to - from = omega arith in
    let all : e - s ≡ from + (e - s - from) = omega (arith, rising, inside) in
    let few : to - from ≤ e - s - from = omega (arith, rising, inside) in
    ap (λ n. take n (drop (s + from) xs)) many
    ∙ ap (take (to - from)) (sym (drop-drop from s xs))
    ∙ sym (ap (λ n. take (to - from) (drop from (take n (drop s xs)))) all
    ∙ ap (take (to - from)) (drop-take from (e - s - from) (drop s xs))
    ∙ take-take (to - from) (e - s - from) (drop from (drop s xs)) few)

-- so many bytes from a place on, or as many as there are, of the bytes from a start on and before an end
pub part_within : (xs : List ℕ) (s e from len : ℕ) → s ≤ e → e ≤ length xs
    → slice_range xs (s + min (e - s) from) (s + min (e - s) from + min (e - (s + min (e - s) from)) len)
    ≡ take len (drop from (slice_range xs s e))
part_within xs s e from len rising inside =
    let ys = slice_range xs s e in
    let fits : e - s ≤ length (drop s xs) = let is = length-drop s xs in omega (arith, is, rising, inside) in
    let many : length ys ≡ e - s = let is = length-take (e - s) (drop s xs) in omega (arith, is, fits) in
    let first = min (e - s) from in
    let most = min (e - s - first) len in
    let last : s + first + min (e - (s + first)) len ≡ s + (first + most) = omega arith in
    ap (slice_range xs (s + first)) last
    ∙ part_of_part xs s e first (first + most) (omega arith) (omega arith)
    ∙ subst (λ n. slice_range ys (min n from) (min n from + min (n - min n from) len) ≡ take len (drop from ys)) many
    (part_from ys from len)
