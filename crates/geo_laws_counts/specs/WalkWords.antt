-- Words for walks downwards from a provider, which try what a demand makes the counts below gain (g_access(9)).
use Rattle.std.specs.Prelude.{◌≡◌, ℕ, zero, suc, ◌==◌, min, Bool, List, [], ◌∷◌, fold, map, Contains, if◌then◌else◌}
use Rattle.std.specs.List.{list_any}
use Rattle.std.specs.Option.{option_map_or}
use Rattle.geo_model.specs.Counts.{Counts}
use Rattle.geo_model.specs.Topology.{Topology, Consumer, attached_to}
use Rattle.geo_model.specs.Rank.{geoms_under}
use Rattle.geo_model.specs.Demand.{no_counts, add_counts, sum_counts}

-- whether a number is on the list
abbrev pub has_number : List ℕ → ℕ → Bool
has_number xs x = list_any (λ y. y == x) xs

-- no geom comes twice, and each comes before all geoms directly under it, which are there
abbrev pub IsOrder : {C : Type 0} → Topology C → List ℕ → Type 0
IsOrder t [] = Unit {0}
IsOrder t (x ∷ xs) = (Contains xs x → ⊥) × ((h : ℕ) → Contains (geoms_under t x) h → Contains xs h) × IsOrder t xs

-- with a geom, and over so many levels all that is reached downwards from it, in front of the geoms that are there
abbrev pub order_from : {C : Type 0} → ℕ → Topology C → ℕ → List ℕ → List ℕ
order_from zero t x xs = xs
order_from (suc levels) t x xs =
    x ∷ fold (λ ys h. if has_number ys h then ys else order_from levels t h ys) xs (geoms_under t x)

-- the counts, each at most the greatest number of 32 bits
abbrev pub cap : Counts → Counts
cap a = record { r = min a.r 4294967295; w = min a.w 4294967295; e = min a.e 4294967295 }

-- the function with another value at one number
abbrev pub set_at : {V : Type 0} → (ℕ → V) → ℕ → V → ℕ → V
set_at f n v m = if m == n then v else f m

-- with what a consumer gains at the provider to which it is attached
abbrev pub hand_at : Counts → (ℕ → Counts) → Consumer → ℕ → Counts
hand_at gain gains c = option_map_or (λ q. set_at gains q (cap (add_counts (gains q) gain))) c.provider gains

-- what providers and consumers gain by what the provider p gains first; only consumers of the geoms of the list gain
pub record Flow {C : Type 0} (t : Topology C) (p : ℕ) (first : Counts) (gain : ℕ → Counts) (more : Consumer
    → Counts) (order : List ℕ) : Type 0 where
  pub sums : (q : ℕ)
      → gain q ≡ add_counts (if p == q then first else no_counts) (sum_counts (map more (attached_to t q)))
  pub around : (c : Consumer) → Contains t.consumers c → (Contains order c.geom → ⊥) → more c ≡ no_counts

-- what a provider has gained so far, while the consumers of these geoms haven't
abbrev pub gain_without : {C : Type 0} → Topology C → ℕ → Counts → (Consumer → Counts) → List ℕ → ℕ → Counts
gain_without t p first more rest q =
    cap
    (add_counts (if p == q then first else no_counts)
    (sum_counts (map (λ c. if has_number rest c.geom then no_counts else more c) (attached_to t q))))
