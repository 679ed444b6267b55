-- The pieces of a request follow each other from its beginning to its end.
use Rattle.std.specs.Prelude.{◌≡◌, ℕ, zero, suc, ◌+◌, ◌-◌, ◌*◌, ◌/◌, ◌<◌, ◌≤◌, nat_lt, min, max, Bool, true, false, List, [], ◌∷◌, Option, Some, None, map, filter_map, length, sum, IsSome}
use Rattle.std.specs.List.{range_with_len}
use Rattle.std.proofs.Common.{refl, arith}
use Rattle.std.proofs.lemmas.Bool.{ltb-true, ltb-false}
use Rattle.std.proofs.lemmas.List.Sums.{sum_by-cons}
use Rattle.std.proofs.Math.Nat.{lt-div-mul-add, div-mul-le_self}
use Rattle.std.proofs.lemmas.Nat.{le-div}
use Rattle.geo_model.specs.declared.class.EbrPart.{EbrPart}
use Rattle.geo_model.specs.declared.class.Slice.{Slice}
use Rattle.geo_model.specs.World.{Config, Nothing, Disk, Mbr, Ebr, Label, Concat, Stripe, Nop}
use Rattle.geo_model.specs.Topology.{Provider}
use Rattle.geo_model.specs.declared.span.Stretch.{Stretch}
use Rattle.geo_model.specs.Place.{concat_stretches, strip, strips, pieces, piece_in, slice_at, part_at, Follow}
use Rattle.geo_model.specs.Laws.{HasRange}

-- the stretches follow each other from a to b
abbrev pub Chain : ℕ → ℕ → List Stretch → Type 0
Chain a b [] = a ≡ b
Chain a b (s ∷ stretches) = (s.start ≡ a) × Chain (a + s.len) b stretches

-- the pieces of the stretches from the first on
follow_cons : (o len a b : ℕ) (s : Stretch) (rest : List Stretch) (t : Bool)
    → nat_lt (max o s.start) (min (o + len) (s.start + s.len)) ≡ t
    → s.start ≡ a
    → Follow (min (max o (a + s.len)) (o + len) - o) len (filter_map (piece_in o len) rest)
    → Follow (min (max o a) (o + len) - o) len (filter_map (piece_in o len) (s ∷ rest))
follow_cons o len a b s rest true e at_a next =
    let inside : max o s.start < min (o + len) (s.start + s.len) = ltb-true _ _ e in
    let first : max o s.start - o ≡ min (max o a) (o + len) - o = omega (arith, inside, at_a) in
    let some : 0 < min (o + len) (s.start + s.len) - max o s.start = omega (arith, inside) in
    let after : min (max o (a + s.len)) (o + len) - o
    ≡ min (max o a) (o + len) - o + (min (o + len) (s.start + s.len) - max o s.start) =
    omega (arith, inside, at_a) in
    rw e (first, some, rw after at next)
follow_cons o len a b s rest false e at_a next =
    let outside : min (o + len) (s.start + s.len) ≤ max o s.start = omega (arith, ltb-false _ _ e) in
    let same : min (max o (a + s.len)) (o + len) - o ≡ min (max o a) (o + len) - o = omega (arith, outside, at_a) in
    rw e (rw same at next)

pub chain-follow : (o len a b : ℕ) (stretches : List Stretch) → Chain a b stretches → o + len ≤ b
    → Follow (min (max o a) (o + len) - o) len (filter_map (piece_in o len) stretches)
chain-follow o len a b [] chain inside = omega (arith, chain, inside)
chain-follow o len a b (s ∷ rest) chain inside =
    follow_cons o len a b s rest (nat_lt (max o s.start) (min (o + len) (s.start + s.len))) refl chain.0
    (chain-follow o len (a + s.len) b rest chain.1 inside)

-- concat
concat-chain : (k start : ℕ) (sizes : List ℕ) → Chain start (start + sum sizes) (concat_stretches k start sizes)
concat-chain k start [] = omega arith
concat-chain k start (size ∷ sizes) =
    let total : start + size + sum sizes ≡ start + sum (size ∷ sizes) =
    omega (arith, sum_by-cons (λ x. x) size sizes) in
    (refl, rw total at (concat-chain (k + 1) (start + size) sizes))

pub concat-follow : (id : Option ℕ) (places : List (Option ℕ)) (sizes : List ℕ) (x : Provider) (o len : ℕ)
    → o + len ≤ sum sizes
    → Follow 0 len (pieces (Concat id places sizes) x o len)
concat-follow id places sizes x o len inside =
    let begin : min (max o 0) (o + len) - o ≡ 0 = omega arith in
    rw begin at (chain-follow o len 0 (0 + sum sizes) (concat_stretches 0 0 sizes) (concat-chain 0 0 sizes)
    (omega (arith, inside)))

-- stripe
next_strip : (j stripe : ℕ) → (j + 1) * stripe ≡ j * stripe + stripe
next_strip j stripe = grind arith

stripe-chain : (n stripe j m : ℕ) → Chain (j * stripe) ((j + m) * stripe) (map (strip n stripe) (range_with_len j m))
stripe-chain n stripe j zero = let e : j + 0 ≡ j = omega arith in rw e refl
stripe-chain n stripe j (suc m) =
    let total : j + 1 + m ≡ j + suc m = omega arith in
    (refl, rw (total, next_strip j stripe) at (stripe-chain n stripe (j + 1) m))

pub stripe-follow : (id : Option ℕ) (stripe : ℕ) (places : List (Option ℕ)) (sizes : List ℕ) (x : Provider) (o len : ℕ)
    → 0 < stripe → 0 < len → Follow 0 len (pieces (Stripe id stripe places sizes) x o len)
stripe-follow id stripe places sizes x o len some some_byte =
    let low : (o / stripe) * stripe ≤ o = div-mul-le_self o stripe in
    let rising : o / stripe ≤ (o + len - 1) / stripe =
    le-div (o / stripe) (o + len - 1) stripe some (omega (arith, low, some_byte)) in
    let count : (o / stripe) + ((o + len - 1) / stripe + 1 - o / stripe) ≡ (o + len - 1) / stripe + 1 =
    omega (arith, rising) in
    let last : o + len - 1 < (o + len - 1) / stripe * stripe + stripe = lt-div-mul-add some in
    let high : o + len ≤ ((o / stripe) + ((o + len - 1) / stripe + 1 - o / stripe)) * stripe =
    rw (count, next_strip ((o + len - 1) / stripe) stripe) (omega (arith, last, some_byte)) in
    let begin : min (max o ((o / stripe) * stripe)) (o + len) - o ≡ 0 = omega (arith, low) in
    rw begin at (chain-follow o len ((o / stripe) * stripe) _ (strips (length sizes) stripe o len)
    (stripe-chain (length sizes) stripe (o / stripe) ((o + len - 1) / stripe + 1 - o / stripe)) high)

-- one stretch over the whole provider
pub whole-follow : (o len size : ℕ) (s : Stretch) → s.start ≡ 0 → s.len ≡ size → o + len ≤ size → 0 < len
    → Follow 0 len (filter_map (piece_in o len) (s ∷ []))
whole-follow o len size s at_zero of_size inside some_byte =
    let begin : min (max o 0) (o + len) - o ≡ 0 = omega arith in
    let end : 0 + s.len ≡ size = omega (arith, of_size) in
    rw begin at (chain-follow o len 0 size (s ∷ []) (at_zero, end) inside)

mbr-follow : (slices : List (Option Slice)) (x : Provider) (below : Option ℕ) (o len : ℕ) (found : Option Slice)
    → slice_at slices x.name ≡ found
    → IsSome (slice_at slices x.name) → o + len ≤ x.size → 0 < len → Follow 0 len (pieces (Mbr below slices) x o len)
mbr-follow slices x below o len None e some inside some_byte = let h : IsSome {T = Slice} None = rw e at some in
    let no : ⊥ = cc in absurd no
mbr-follow slices x below o len (Some s) e some inside some_byte =
    rw e (whole-follow o len x.size (record { start = 0; len = x.size; component = 0; offset = s.first * 512 })
    refl refl inside some_byte)

ebr-follow : (parts : List (Option EbrPart)) (x : Provider) (below : Option ℕ) (o len : ℕ) (found : Option EbrPart)
    → part_at parts x.name ≡ found
    → IsSome (part_at parts x.name) → o + len ≤ x.size → 0 < len → Follow 0 len (pieces (Ebr below parts) x o len)
ebr-follow parts x below o len None e some inside some_byte =
    let h : IsSome {T = EbrPart} None = rw e at some in let no : ⊥ = cc in absurd no
ebr-follow parts x below o len (Some s) e some inside some_byte =
    rw e (whole-follow o len x.size (record { start = 0; len = x.size; component = 0; offset = s.first * 512 })
    refl refl inside some_byte)

pub pieces-follow : (config : Config) (x : Provider) (o len : ℕ) → 0 < len → HasRange config x o len
    → Follow 0 len (pieces config x o len)
pieces-follow Nothing x o len some inside = absurd inside
pieces-follow (Disk disk) x o len some inside = absurd inside
pieces-follow (Mbr below slices) x o len some inside =
    mbr-follow slices x below o len (slice_at slices x.name) refl inside.0 inside.1 some
pieces-follow (Ebr below parts) x o len some inside =
    ebr-follow parts x below o len (part_at parts x.name) refl inside.0 inside.1 some
pieces-follow (Label below) x o len some inside =
    whole-follow o len x.size (record { start = 0; len = x.size; component = 0; offset = 0 }) refl refl inside some
pieces-follow (Concat id places sizes) x o len some inside = concat-follow id places sizes x o len inside
pieces-follow (Stripe id stripe places sizes) x o len some inside =
    stripe-follow id stripe places sizes x o len inside some
pieces-follow (Nop below offset fail) x o len some inside =
    whole-follow o len x.size (record { start = 0; len = x.size; component = 0; offset = offset }) refl refl inside some
