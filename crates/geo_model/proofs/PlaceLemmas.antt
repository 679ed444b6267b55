-- Each sector of a piece lies where the address map says.
use Rattle.std.specs.Prelude.{◌≡◌, ℕ, ◌+◌, ◌-◌, ◌*◌, ◌/◌, ◌<◌, ◌≤◌, nat_lt, min, max, Bool, true, false, List, [], ◌∷◌, Option, Some, None, filter_map, length}
use Rattle.std.specs.List.{AllByRecursion, range_with_len}
use Rattle.std.proofs.Common.{refl, subst, arith}
use Rattle.std.proofs.lemmas.Bool.{lt-ltb, le-ltb}
use Rattle.std.proofs.lemmas.Nat.{div-mul-add, mod-mul-add}
use Rattle.geo_model.specs.declared.class.EbrPart.{EbrPart}
use Rattle.geo_model.specs.declared.class.Slice.{Slice}
use Rattle.geo_model.specs.Topology.{Provider}
use Rattle.geo_model.specs.World.{Config, Nothing, Disk, Mbr, Ebr, Label, Concat, Stripe, Nop}
use Rattle.geo_model.specs.declared.span.Piece.{Piece}
use Rattle.geo_model.specs.declared.span.Stretch.{Stretch}
use Rattle.geo_model.specs.Place.{Spot, place, concat_spot, stripe_spot, concat_stretches, strip, strips, stretches, pieces, slice_at, part_at, piece_in, StretchIsPlaced, PieceIsPlaced}
use Rattle.geo_model.proofs.DemandLemmas.{all_weaker, map_all}
use Rattle.geo_model.proofs.RankLemmas.{mapped_by}

-- the part of a range that lies in a stretch, where there is some
abbrev pub cut_piece : ℕ → ℕ → Stretch → Piece
cut_piece o len s = record {
  child = s.component;
  span = record {
    offset = s.offset + (max o s.start - s.start);
    len =
        min (o + len) (s.start + s.len) - max o s.start;
  };
  at = max o s.start - o;
}

cut_placed : (at_offset : ℕ → Option Spot) (o len : ℕ) (s : Stretch) → StretchIsPlaced at_offset s
    → PieceIsPlaced at_offset o (cut_piece o len s)
cut_placed at_offset o len s placed j below =
    let a : o + (max o s.start - o) + j ≡ s.start + (max o s.start - s.start + j) = omega arith in
    let b : s.offset + (max o s.start - s.start) + j ≡ s.offset + (max o s.start - s.start + j) = omega arith in
    let inside : max o s.start - s.start + j < s.len = omega (arith, below) in
    rw (a, b) (placed (max o s.start - s.start + j) inside)

-- a piece of a stretch that is placed is placed
piece_by : (at_offset : ℕ → Option Spot) (o len : ℕ) (s : Stretch) (x : Piece) (b : Bool)
    → nat_lt (max o s.start) (min (o + len) (s.start + s.len)) ≡ b
    → piece_in o len s ≡ Some x → StretchIsPlaced at_offset s → PieceIsPlaced at_offset o x
piece_by at_offset o len s x true e found placed =
    let h : Some (cut_piece o len s) ≡ Some x = rw e at found in
    let same : cut_piece o len s ≡ x = cc in
    subst (PieceIsPlaced at_offset o) same (cut_placed at_offset o len s placed)
piece_by at_offset o len s x false e found placed =
    let h : None ≡ Some x = rw e at found in
    let no : ⊥ = cc in absurd no

pub piece_placed : (at_offset : ℕ → Option Spot) (o len : ℕ) (s : Stretch) (x : Piece)
    → piece_in o len s ≡ Some x → StretchIsPlaced at_offset s → PieceIsPlaced at_offset o x
piece_placed at_offset o len s x found placed =
    piece_by at_offset o len s x (nat_lt (max o s.start) (min (o + len) (s.start + s.len))) refl found placed

-- pieces of stretches that are placed are placed
pub pieces_placed : (at_offset : ℕ → Option Spot) (o len : ℕ) (stretches : List Stretch)
    → AllByRecursion (StretchIsPlaced at_offset) stretches
    → AllByRecursion (PieceIsPlaced at_offset o) (filter_map (piece_in o len) stretches)
pieces_placed at_offset o len stretches placed =
    mapped_by (StretchIsPlaced at_offset) (PieceIsPlaced at_offset o) (piece_in o len)
    (λ s x found h. piece_placed at_offset o len s x found h) stretches placed

-- concat: each component's range
concat_from : (k start : ℕ) (sizes : List ℕ)
    → AllByRecursion (λ (s : Stretch). (start ≤ s.start)
    × ((j : ℕ) → j < s.len
    → concat_spot k sizes (s.start + j - start) ≡ Some (record { component = s.component; offset = s.offset + j })))
    (concat_stretches k start sizes)
concat_from k start [] = tt
concat_from k start (size ∷ sizes) = (
  (omega arith, λ j below. concat_head k start size sizes j below),
  all_weaker
      (λ (s : Stretch). (start + size ≤ s.start)
      × ((j : ℕ) → j < s.len
      → concat_spot (k + 1) sizes (s.start + j - (start + size))
      ≡ Some (record { component = s.component; offset = s.offset + j })))
      (λ (s : Stretch). (start ≤ s.start)
      × ((j : ℕ) → j < s.len
      → concat_spot k (size ∷ sizes) (s.start + j - start)
      ≡ Some (record { component = s.component; offset = s.offset + j })))
      (λ s h. (omega (arith, h.0), λ j below. concat_tail k start size sizes s j h.0 (h.1 j below)))
      (concat_stretches (k + 1) (start + size) sizes)
      (concat_from (k + 1) (start + size) sizes),
)
  where
    concat_head : (k start size : ℕ) (sizes : List ℕ) (j : ℕ) → j < size
        → concat_spot k (size ∷ sizes) (start + j - start) ≡ Some (record { component = k; offset = 0 + j })
    concat_head k start size sizes j below =
        let a : start + j - start ≡ j = omega arith in
        let b : 0 + j ≡ j = omega arith in
        rw (a, b, lt-ltb j size below) refl

    concat_tail : (k start size : ℕ) (sizes : List ℕ) (s : Stretch) (j : ℕ) → start + size ≤ s.start
        → concat_spot (k + 1) sizes (s.start + j - (start + size))
        ≡ Some (record { component = s.component; offset = s.offset + j })
        → concat_spot k (size ∷ sizes) (s.start + j - start)
        ≡ Some (record { component = s.component; offset = s.offset + j })
    concat_tail k start size sizes s j high rest =
        let not_here : nat_lt (s.start + j - start) size ≡ false = le-ltb _ _ (omega (arith, high)) in
        let a : s.start + j - start - size ≡ s.start + j - (start + size) = omega arith in
        rw (not_here, a) rest

pub concat_placed : (sizes : List ℕ)
    → AllByRecursion (StretchIsPlaced (concat_spot 0 sizes)) (concat_stretches 0 0 sizes)
concat_placed sizes =
    all_weaker
    (λ (s : Stretch). (0 ≤ s.start)
    × ((j : ℕ) → j < s.len
    → concat_spot 0 sizes (s.start + j - 0) ≡ Some (record { component = s.component; offset = s.offset + j })))
    (StretchIsPlaced (concat_spot 0 sizes))
    (λ s h j below. let a : s.start + j - 0 ≡ s.start + j = omega arith in rw a at (h.1 j below))
    (concat_stretches 0 0 sizes)
    (concat_from 0 0 sizes)

-- stripe: each strip
strip_placed : (n stripe k : ℕ) → StretchIsPlaced (λ o. Some (stripe_spot n stripe o)) (strip n stripe k)
strip_placed n stripe k j below = rw (div-mul-add k stripe j below, mod-mul-add k stripe j below) refl

pub strips_placed : (n stripe o len : ℕ)
    → AllByRecursion (StretchIsPlaced (λ at_o. Some (stripe_spot n stripe at_o))) (strips n stripe o len)
strips_placed n stripe o len =
    map_all (StretchIsPlaced (λ at_o. Some (stripe_spot n stripe at_o))) (strip n stripe) (strip_placed n stripe)
    (range_with_len (o / stripe) ((o + len - 1) / stripe + 1 - o / stripe))

-- each class
mbr_placed : (slices : List (Option Slice)) (x : Provider) (below : Option ℕ) (o len : ℕ) (found : Option Slice)
    → slice_at slices x.name ≡ found
    → AllByRecursion (StretchIsPlaced (place (Mbr below slices) x.name)) (stretches (Mbr below slices) x o len)
mbr_placed slices x below o len None e = rw e tt
mbr_placed slices x below o len (Some s) e =
    rw e ((λ j inside. let a : s.first * 512 + (0 + j) ≡ s.first * 512 + j = omega arith in rw (e, a) refl), tt)

ebr_placed : (parts : List (Option EbrPart)) (x : Provider) (below : Option ℕ) (o len : ℕ) (found : Option EbrPart)
    → part_at parts x.name ≡ found
    → AllByRecursion (StretchIsPlaced (place (Ebr below parts) x.name)) (stretches (Ebr below parts) x o len)
ebr_placed parts x below o len None e = rw e tt
ebr_placed parts x below o len (Some s) e =
    rw e ((λ j inside. let a : s.first * 512 + (0 + j) ≡ s.first * 512 + j = omega arith in rw (e, a) refl), tt)

pub stretches_placed : (config : Config) (x : Provider) (o len : ℕ)
    → AllByRecursion (StretchIsPlaced (place config x.name)) (stretches config x o len)
stretches_placed Nothing x o len = tt
stretches_placed (Disk disk) x o len = tt
stretches_placed (Mbr below slices) x o len = mbr_placed slices x below o len (slice_at slices x.name) refl
stretches_placed (Ebr below parts) x o len = ebr_placed parts x below o len (part_at parts x.name) refl
stretches_placed (Label below) x o len = ((λ j inside. refl), tt)
stretches_placed (Concat id places sizes) x o len = concat_placed sizes
stretches_placed (Stripe id stripe places sizes) x o len = strips_placed (length sizes) stripe o len
stretches_placed (Nop below offset fail) x o len =
    ((λ j inside. let a : offset + (0 + j) ≡ offset + j = omega arith in rw a refl), tt)

pub pieces-placed : (config : Config) (x : Provider) (o len : ℕ)
    → AllByRecursion (PieceIsPlaced (place config x.name) o) (pieces config x o len)
pieces-placed config x o len =
    pieces_placed (place config x.name) o len (stretches config x o len) (stretches_placed config x o len)
