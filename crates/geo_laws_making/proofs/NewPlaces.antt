-- The places of a new concat or stripe: one for each provider, filled by consumers one after another, with whole
-- sizes.
use Rattle.std.specs.Prelude.{◌≡◌, ◌≢◌, ℕ, zero, suc, ◌+◌, ◌-◌, ◌*◌, ◌/◌, ◌%◌, ◌<◌, ◌≤◌, nat_lt, Bool, true, false, List, [], ◌∷◌, length, map, flat_map, sum, Option, Some, is_none, IsSome, Contains, slice_get}
use Rattle.std.specs.List.{AllByRecursion, AllZip, list_any, range_with_len}
use Rattle.std.specs.Option.{option_to_list}
use Rattle.std.proofs.Common.{inl, inr, refl, sym, ap, subst, arith}
use Rattle.std.proofs.lemmas.Bool.{ltb-true, ltb-false}
use Rattle.std.proofs.lemmas.List.Sums.{sum_by-cons}
use Rattle.std.proofs.lemmas.Nat.Gcd.{dvd-zero, dvd_of_mod-eq-zero}
use Rattle.std.proofs.Math.Nat.{dvd-add, div-lt_iff_lt-mul, mul-le-mul_left, mod-lt}
use Prim.Native.Nat.{◌∣◌}
use Rattle.geo_model.specs.Topology.{Provider}
use Rattle.geo_model.specs.Place.{Spot, concat_spot, stripe_spot}
use Rattle.geo_model.specs.Acceptance.{smallest}
use Rattle.geo_model.proofs.DemandLemmas.{all_weaker}
use Rattle.geo_laws_graph.proofs.Members.{has, Contains-cases, nothing_in}
use Rattle.geo_laws_life.proofs.Standers.{PairsByRecursion}
use Rattle.geo_laws_life.proofs.Found.{FoundWith, some-there}
use Rattle.geo_laws_making.specs.MakingLaws.{below_new}
use Rattle.geo_laws_making.proofs.Over.{below-here, below-there}

-- the places of so many consumers from a number on
abbrev pub places_from : ℕ → List Provider → List (Option ℕ)
places_from n ps = map (λ c. Some c) (range_with_len n (length ps))

-- the sizes of the components
abbrev pub whole_sizes : List Provider → List ℕ
whole_sizes ps = map (λ p. p.size) ps

-- what is in places that are filled
pub filled-list : (xs : List ℕ) → flat_map option_to_list (map (λ c. Some c) xs) ≡ xs
filled-list [] = refl
filled-list (x ∷ xs) = ap (λ ys. x ∷ ys) (filled-list xs)

-- none of them is free
pub none-free : (xs : List ℕ) → list_any is_none (map (λ c. Some c) xs) ≡ false
none-free [] = refl
none-free (x ∷ xs) = none-free xs

-- each consumer is at a provider
pub all-filled : (n : ℕ) (ps : List Provider)
    → AllByRecursion (λ c. IsSome (below_new n ps c)) (range_with_len n (length ps))
all-filled n [] = tt
all-filled n (p ∷ ps) = (
  some-there (below_new n (p ∷ ps) n) p (below-here n p ps n refl),
  all_weaker (λ c. IsSome (below_new (n + 1) ps c)) (λ c. IsSome (below_new n (p ∷ ps) c)) (λ c there.
      let q = has (below_new (n + 1) ps c) there in
      some-there (below_new n (p ∷ ps) c) q.item (below-there n p ps c q.item q.is))
      (range_with_len (n + 1) (length ps)) (all-filled (n + 1) ps),
)

-- numbers that follow are others
others_follow : (low n m : ℕ) → low < n → AllByRecursion (λ b. low ≢ b) (range_with_len n m)
others_follow low n zero less = tt
others_follow low n (suc m) less = ((λ same. omega arith), others_follow low (n + 1) m (omega arith))

-- so all of them differ
pub all-differ : (n m : ℕ) → PairsByRecursion (λ a b. a ≢ b) (range_with_len n m)
all-differ n zero = tt
all-differ n (suc m) = (others_follow n (n + 1) m (omega arith), all-differ (n + 1) m)

-- a fact of each place and the size of its provider
pub zip-places : (n : ℕ) (ps : List Provider) (R : Option ℕ → ℕ → Type 0)
    → ((c : ℕ) (q : Provider) → below_new n ps c ≡ Some q → R (Some c) q.size)
    → AllZip R (places_from n ps) (whole_sizes ps)
zip-places n [] R so = tt
zip-places n (p ∷ ps) R so = (
  so n p (below-here n p ps n refl),
  zip-places (n + 1) ps R (λ c q e. so c q (below-there n p ps c q e)),
)

-- the consumer at a place, and its provider
pub record IsAtPlace (n : ℕ) (ps : List Provider) (k : ℕ) : Type 0 where
  pub consumer : ℕ
  pub provider : Provider
  pub at : slice_get (places_from n ps) k ≡ Some (Some consumer)
  pub below : below_new n ps consumer ≡ Some provider

-- so for each place
pub at-place : (n : ℕ) (ps : List Provider) (k : ℕ) → k < length ps → IsAtPlace n ps k
at-place n [] k short = absurd (omega (arith, short))
at-place n (p ∷ ps) zero short =
    record { consumer = n; provider = p; at = refl; below = below-here n p ps n refl }
at-place n (p ∷ ps) (suc k) short =
    let rest = at-place (n + 1) ps k (omega (arith, short)) in
    record {
      consumer = rest.consumer;
      provider = rest.provider;
      at = rest.at;
      below = below-there n p ps rest.consumer rest.provider rest.below;
    }

-- Concats

-- a spot is at a place, counted from k, and inside its provider
pub record LandsInside (n : ℕ) (ps : List Provider) (k : ℕ) (spot : Spot) : Type 0 where
  pub place : ℕ
  pub is : spot.component ≡ k + place
  pub there : IsAtPlace n ps place
  pub inside : spot.offset < there.provider.size

-- where the first component ends, by whether the offset is in it
concat_by : (k n : ℕ) (p : Provider) (ps : List Provider) (o : ℕ)
    → (p.size ≤ o → FoundWith (concat_spot (k + 1) (whole_sizes ps) (o - p.size)) (LandsInside (n + 1) ps (k + 1)))
    → (b : Bool) → nat_lt o p.size ≡ b
    → FoundWith (concat_spot k (p.size ∷ whole_sizes ps) o) (LandsInside n (p ∷ ps) k)
concat_by k n p ps o rest true e = record {
  item = record { component = k; offset = o };
  is = rw e refl;
  fact = record {
    place = 0;
    is = omega arith;
    there = record { consumer = n; provider = p; at = refl; below = below-here n p ps n refl };
    inside = ltb-true o p.size e;
  };
}
concat_by k n p ps o rest false e =
    let more = rest (ltb-false o p.size e) in
    let is : more.item.component ≡ k + 1 + more.fact.place = more.fact.is in
    record {
      item = more.item;
      is = rw e more.is;
      fact = record {
        place = suc more.fact.place;
        is = omega arith;
        there = record {
          consumer = more.fact.there.consumer;
          provider = more.fact.there.provider;
          at = more.fact.there.at;
          below = below-there n p ps more.fact.there.consumer more.fact.there.provider more.fact.there.below;
        };
        inside = more.fact.inside;
      };
    }

-- each offset of a concat lands inside a component
pub concat-lands : (k n : ℕ) (ps : List Provider) (o : ℕ) → o < sum (whole_sizes ps)
    → FoundWith (concat_spot k (whole_sizes ps) o) (LandsInside n ps k)
concat-lands k n [] o short = absurd (omega (arith, short))
concat-lands k n (p ∷ ps) o short =
    let all : sum (whole_sizes (p ∷ ps)) ≡ p.size + sum (whole_sizes ps) =
    sum_by-cons (λ (m : ℕ). m) p.size (whole_sizes ps) in
    concat_by k n p ps o (λ high. concat-lands (k + 1) (n + 1) ps (o - p.size) (omega arith)) (nat_lt o p.size) refl

-- the sum of sizes in whole sectors is one
pub sum-whole : (s : ℕ) (ps : List Provider) → AllByRecursion (λ (p : Provider). p.size % s ≡ 0) ps
    → s ∣ sum (whole_sizes ps)
sum-whole s [] whole = dvd-zero s
sum-whole s (p ∷ ps) whole =
    subst (λ m. s ∣ m) (sym (sum_by-cons (λ (m : ℕ). m) p.size (whole_sizes ps)))
    (dvd-add s (dvd_of_mod-eq-zero s whole.0) (sum-whole s ps whole.1))

-- Stripes

-- the smallest is no greater than any
pub smallest-le : (ns : List ℕ) (n : ℕ) → Contains ns n → smallest ns ≤ n
smallest-le [] n here = absurd (nothing_in n here)
smallest-le (m ∷ []) n here =
    elim (Contains-cases m n [] here) [
      | inl same ↦ omega arith
      | inr rest ↦ absurd (nothing_in n rest)
    ]
smallest-le (m ∷ k ∷ ns) n here =
    elim (Contains-cases m n (k ∷ ns) here) [
      | inl same ↦ omega arith
      | inr rest ↦ (let less : smallest (k ∷ ns) ≤ n = smallest-le (k ∷ ns) n rest in omega arith)
    ]

-- where an offset of a stripe lands: in one of the n components, before the end of its m strips
pub record LandsStriped (n m stripe : ℕ) (spot : Spot) : Type 0 where
  pub component : spot.component < n
  pub inside : spot.offset < m * stripe

-- so each does
pub stripe-lands : (n m stripe o : ℕ) → 1 ≤ stripe → o < n * (m * stripe)
    → LandsStriped n m stripe (stripe_spot n stripe o)
stripe-lands n m stripe o some short =
    let strips : o / stripe < m * n = (div-lt_iff_lt-mul {k = stripe} {x = o} {y = m * n} (omega arith)).1
    (let same : n * (m * stripe) ≡ m * n * stripe = omega arith in omega arith) in
    let components : 0 < n = some_of n (m * stripe) o short in
    let row : o / stripe / n < m = (div-lt_iff_lt-mul {k = n} {x = o / stripe} {y = m} components).1 strips in
    let rest : o % stripe < stripe = mod-lt o (omega arith) in
    let below : stripe * (o / stripe / n + 1) ≤ stripe * m = mul-le-mul_left stripe (omega arith) in
    record { component = mod-lt (o / stripe) components; inside = omega arith }
  where
    -- there is a component
    some_of : (n m o : ℕ) → o < n * m → 0 < n
    some_of zero m o short = absurd (omega (arith, short))
    some_of (suc n) m o short = omega arith
