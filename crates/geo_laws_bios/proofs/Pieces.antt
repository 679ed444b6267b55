-- No piece of a request is lost, each is of whole sectors, and the consumers below have the counts for it.
use Rattle.std.specs.Prelude.{◌≡◌, ◌≢◌, ℕ, zero, suc, ◌==◌, Bool, true, false, List, [], ◌∷◌, flat_map, Option, Some, None, Contains, slice_get, if◌then◌else◌, ◌⊎◌, ◌+◌, ◌-◌, ◌<◌, ◌≤◌, nat_lt, map, filter_map, sum, IsSome, IsSomeAnd, option_and_then, option_map, ◌*◌, ◌/◌, ◌%◌, min, max, length, IfSome, IsTrue, ⊤}
use Rattle.std.specs.Option.{option_to_list, option_flatten, option_map_or}
use Rattle.std.proofs.Common.{subst, inl, inr, refl, sym, ◌∙◌, ap, arith, ltb-true, ltb-false}
use Rattle.std.specs.List.{AllByRecursion, AllZip, range_with_len}
use Rattle.std.proofs.lemmas.Bool.{eq-eqb, false_from_ne_true, cases_lt, lt-ltb, le-ltb}
use Rattle.std.proofs.lemmas.List.Elements.{All-contains}
use Rattle.std.proofs.lemmas.List.Sums.{sum_by-cons}
use Rattle.std.proofs.lemmas.Simd.{map-map}
use Rattle.std.proofs.lemmas.Nat.Gcd.{dvd-zero, dvd_of_mod-eq-zero}
use Rattle.std.proofs.Math.Nat.{dvd-add, dvd-sub, dvd-mul_left_of_dvd, dvd-mul_left}
use Rattle.geo_model.specs.World.{Config, Nothing, Disk, Concat, Stripe, World, Bio, Mbr, Ebr, granted_in, Label, Nop}
use Rattle.geo_model.specs.Place.{component, components, Spot, place, pieces, disk_of, slice_at, part_at, concat_spot, PieceIsPlaced, Follow, piece_in, window, strip, stretches, concat_stretches}
use Rattle.geo_model.specs.Counts.{Counts}
use Rattle.geo_model.specs.declared.span.Piece.{Piece}
use Rattle.geo_model.specs.Words.{is_read, is_flush, names_number, is_kind, is_granted_kind}
use Rattle.geo_model.specs.Topology.{Topology, Geom, Provider, Consumer, geom_at, provider_at, consumer_at, attached_to, providers_of}
use Rattle.geo_model.specs.Demand.{have, want, is_zero, sum_counts, no_counts, want_of_kind}
use Rattle.geo_model.specs.Bios.{PieceTarget, piece_targets}
use Rattle.geo_model.specs.Laws.{HasRange}
use Rattle.geo_model.specs.Sound.{LeadsDown, IsPlaced, IsPlaceInside, fits_kind, IsOfItsClass, IsMediaSize}
use Rattle.geo_model.specs.SoundBios.{IsBioInOrder, IsRangeInside, HasCountFor}
use Rattle.geo_model.specs.Fitting.{Firm, FitsBelow, IsWholeIn, FitsPlace}
use Rattle.geo_model.proofs.DemandLemmas.{all_weaker, have-sum, map_all}
use Rattle.geo_model.proofs.PlaceLemmas.{pieces-placed, cut_piece}
use Rattle.geo_model.proofs.PartitionLemmas.{pieces-follow}
use Rattle.geo_model.proofs.Options.{some_and_of}
use Rattle.geo_model.specs.Kind.{Kind}
use Rattle.geo_model.specs.Kind.TheVariants as kinds
use Rattle.geo_model.specs.declared.class.Slice.{Slice}
use Rattle.geo_model.specs.declared.class.EbrPart.{EbrPart}
use Rattle.geo_model.specs.declared.span.Stretch.{Stretch}
use Rattle.geo_model.proofs.RankLemmas.{mapped_by}
use Rattle.geo_laws_graph.proofs.Members.{Contains-here, Contains-there, nothing_in, find-Contains, Contains-filter, Contains-map, Contains-cases}
use Rattle.geo_laws_graph.proofs.Numbered.{number_found, each_found}
use Rattle.geo_laws_graph.proofs.Classes.{bare_config}
use Rattle.geo_laws_counts.proofs.Sums.{zero-test, at_most-trans}
use Rattle.geo_laws_counts.specs.CountWords.{IsAtMost}
use Rattle.geo_laws_bios.specs.PieceLaws.{FirmMeshesLoseNoPiece, Serves}
use Rattle.geo_laws_bios.proofs.Items.{both_by_recursion}
use Prim.Native.Nat.{◌∣◌}

-- the one component there may be
one_among : (b : Bool) (below : Option ℕ) (c : ℕ) → (if b then below else None) ≡ Some c
    → Contains (option_to_list below) c
one_among true None c e = absurd (let no : ⊥ = cc in no)
one_among true (Some d) c e = let same : d ≡ c = cc in subst (Contains (d ∷ [])) same (Contains-here d [])
one_among false below c e = absurd (let no : ⊥ = cc in no)

-- the one at a place of many
place_among : (places : List (Option ℕ)) (k c : ℕ) → option_flatten (slice_get places k) ≡ Some c
    → Contains (flat_map option_to_list places) c
place_among [] k c e = absurd (let no : ⊥ = cc in no)
place_among (None ∷ places) zero c e = absurd (let no : ⊥ = cc in no)
place_among (Some d ∷ places) zero c e =
    let same : d ≡ c = cc in
    subst (Contains (d ∷ flat_map option_to_list places)) same (Contains-here d (flat_map option_to_list places))
place_among (None ∷ places) (suc k) c e = place_among places k c e
place_among (Some d ∷ places) (suc k) c e =
    Contains-there d c (flat_map option_to_list places) (place_among places k c e)

-- what stands at a place of a configuration is one of its components
pub component-among : (config : Config) (k c : ℕ) → component config k ≡ Some c → Contains (components config) c
component-among Nothing k c e = absurd (let no : ⊥ = cc in no)
component-among (Disk disk) k c e = absurd (let no : ⊥ = cc in no)
component-among (Concat id places sizes) k c e = place_among places k c e
component-among (Stripe id stripe places sizes) k c e = place_among places k c e
component-among config k c e = one_among (k == 0) (component config 0) c e

-- so a configuration with a component has some
pub some_components : (config : Config) (k c : ℕ) → component config k ≡ Some c → components config ≢ []
some_components config k c e none = nothing_in c (subst (λ cs. Contains cs c) none (component-among config k c e))

-- No piece of a request is lost in a firm mesh: the pieces follow each other, and each goes down through a consumer.

-- Pieces that follow each other

-- they go upwards
follow-up : (a b : ℕ) (xs : List Piece) → Follow a b xs → a ≤ b
follow-up a b [] follow = omega (arith, follow)
follow-up a b (x ∷ xs) follow = omega (arith, follow-up (a + x.span.len) b xs follow.2)

-- a piece with some bytes, between two places of its request
pub record IsBetween (a b : ℕ) (x : Piece) : Type 0 where
  pub some : 0 < x.span.len
  pub from_low : a ≤ x.at
  pub to_high : x.at + x.span.len ≤ b

-- each has some bytes, and lies between the ends
pub follow-between : (a b : ℕ) (xs : List Piece) → Follow a b xs → AllByRecursion (IsBetween a b) xs
follow-between a b [] follow = tt
follow-between a b (x ∷ xs) follow =
    let up : a + x.span.len ≤ b = follow-up (a + x.span.len) b xs follow.2 in
    let begin : x.at ≡ a = follow.0 in
    let some : 0 < x.span.len = follow.1 in (
      record { some = some; from_low = omega arith; to_high = omega arith },
      all_weaker (IsBetween (a + x.span.len) b) (IsBetween a b)
          (λ y is. record { some = is.some; from_low = omega (arith, is.from_low); to_high = is.to_high }) xs
          (follow-between (a + x.span.len) b xs follow.2),
    )

-- their lengths together are the length between the ends
follow-sum : (a b : ℕ) (xs : List Piece) → Follow a b xs → a + sum (map (λ (x : Piece). x.span.len) xs) ≡ b
follow-sum a b [] follow = omega (arith, follow)
follow-sum a b (x ∷ xs) follow =
    let rest : a + x.span.len + sum (map (λ (y : Piece). y.span.len) xs) ≡ b =
    follow-sum (a + x.span.len) b xs follow.2 in
    let one_more : sum (x.span.len ∷ map (λ (y : Piece). y.span.len) xs) ≡ x.span.len + sum
    (map (λ (y : Piece). y.span.len) xs) =
    sum_by-cons (λ m. m) x.span.len (map (λ (y : Piece). y.span.len) xs) in
    rw one_more (omega (arith, rest))

-- The range of the address map

-- an offset that has a place in a concat is below the sum of the sizes
concat_by : (P : Spot → Type 0) (k size : ℕ) (sizes : List ℕ) (o : ℕ) (b : Bool) → nat_lt o size ≡ b
    → (IsSomeAnd (concat_spot (k + 1) sizes (o - size)) P → o - size < sum sizes)
    → IsSomeAnd (concat_spot k (size ∷ sizes) o) P → o < sum (size ∷ sizes)
concat_by P k size sizes o true e rest has = let low : o < size = ltb-true o size e in
    omega (arith, sum_by-cons (λ m. m) size sizes)
concat_by P k size sizes o false e rest has =
    let high : size ≤ o = ltb-false o size e in
    let below : o - size < sum sizes = rest (rw e at has) in
    omega (arith, sum_by-cons (λ m. m) size sizes)

-- so for all components
concat_inside : (P : Spot → Type 0) (k : ℕ) (sizes : List ℕ) (o : ℕ) → IsSomeAnd (concat_spot k sizes o) P
    → o < sum sizes
concat_inside P k [] o has = absurd has
concat_inside P k (size ∷ sizes) o has =
    concat_by P k size sizes o (nat_lt o size) refl (λ h. concat_inside P (k + 1) sizes (o - size) h) has

-- what is made of something, is made of something that is there
made_of_some : {A : Type 0} (P : Spot → Type 0) (f : A → Spot) (o : Option A) → IsSomeAnd (option_map f o) P → IsSome o
made_of_some P f None has = absurd has
made_of_some P f (Some a) has = refl

-- the range of a request is one of the map, where each offset is placed
has_range : (t : Topology Config) (g : Geom Config) (p : Provider) (o len : ℕ) (config : Config) → 0 < len
    → o + len ≤ p.size
    → ((n : ℕ) → n < p.size → IsSomeAnd (place config p.name n) (IsPlaceInside t g p))
    → ((id : Option ℕ) (stripe : ℕ) (places : List (Option ℕ)) (sizes : List ℕ)
    → config ≡ Stripe id stripe places sizes → 0 < stripe)
    → HasRange config p o len
has_range t g p o len Nothing some inside placed strips = absurd (placed o (omega arith))
has_range t g p o len (Disk disk) some inside placed strips = absurd (placed o (omega arith))
has_range t g p o len (Mbr below slices) some inside placed strips =
    (made_of_some (IsPlaceInside t g p) _ (slice_at slices p.name) (placed o (omega arith)), inside)
has_range t g p o len (Ebr below parts) some inside placed strips =
    (made_of_some (IsPlaceInside t g p) _ (part_at parts p.name) (placed o (omega arith)), inside)
has_range t g p o len (Concat id places sizes) some inside placed strips =
    let last : o + len - 1 < sum sizes =
    concat_inside (IsPlaceInside t g p) 0 sizes (o + len - 1) (placed (o + len - 1) (omega arith)) in
    omega arith
has_range t g p o len (Stripe id stripe places sizes) some inside placed strips = strips id stripe places sizes refl
has_range t g p o len _ some inside placed strips = inside

-- Targets

-- the target of a piece, by its consumer
abbrev target_of : Config → Piece → Option PieceTarget
target_of config s = option_map (λ c. record { consumer = c; piece = s }) (component config s.child)

-- one piece more that isn't lost
kept_step : (config : Config) (s : Piece) (ss : List Piece) (o : Option ℕ) → component config s.child ≡ o → IsSome o
    → map (λ (z : PieceTarget). z.piece) (filter_map (target_of config) ss) ≡ ss
    → map (λ (z : PieceTarget). z.piece) (filter_map (target_of config) (s ∷ ss)) ≡ s ∷ ss
kept_step config s ss None e some rest = absurd (let bad : ⊥ = cc in bad)
kept_step config s ss (Some c) e some rest = rw e (ap (λ (xs : List Piece). s ∷ xs) rest)

-- where each piece has its consumer, none is lost
kept : (config : Config) (ss : List Piece) → AllByRecursion (λ (s : Piece). IsSome (component config s.child)) ss
    → map (λ (z : PieceTarget). z.piece) (filter_map (target_of config) ss) ≡ ss
kept config [] all = refl
kept config (s ∷ ss) all = kept_step config s ss (component config s.child) refl all.0 (kept config ss all.1)

-- what is found through another thing, and that one
and_then_of : {X Y : Type 0} (f : X → Option Y) (P : Y → Type 0) (o : Option X) → IsSomeAnd (option_and_then f o) P
    → (x : X) × (o ≡ Some x) × ((y : Y) × (f x ≡ Some y) × P y)
and_then_of f P None fact = absurd fact
and_then_of f P (Some x) fact = (x, refl, some_and_of P (f x) fact)

-- the consumer at a place, and the provider below it
pub record Below (t : Topology Config) (g : Geom Config) (p : Provider) (spot : Spot) : Type 0 where
  pub number : ℕ
  pub is : component g.config spot.component ≡ Some number
  pub consumer : Consumer
  pub found : consumer_at t number ≡ Some consumer
  pub of_geom : consumer.geom ≡ g.number
  pub under : ℕ
  pub to_it : consumer.provider ≡ Some under
  pub provider : Provider
  pub stands : provider_at t under ≡ Some provider
  pub low : spot.offset < provider.size
  pub sector : provider.sector ≡ p.sector

module _ (t : Topology Config) (g : Geom Config) (p : Provider) (spot : Spot) where
  -- what is asked of the consumer there
  abbrev IsInside : Consumer → Type 0
  IsInside c = (c.geom ≡ g.number)
      × IsSomeAnd (option_and_then (provider_at t) c.provider) (λ q. (spot.offset < q.size) × (q.sector ≡ p.sector))

  -- where a place is inside, there is something below
  pub below_of : IsPlaceInside t g p spot → Below t g p spot
  below_of inside =
      let c = and_then_of (consumer_at t) IsInside (component g.config spot.component) inside in
      let q = and_then_of (provider_at t) (λ (q : Provider). (spot.offset < q.size) × (q.sector ≡ p.sector))
      c.2.0.provider c.2.2.1 in
      record {
        number = c.0;
        is = c.1;
        consumer = c.2.0;
        found = c.2.1;
        of_geom = c.2.2.0;
        under = q.0;
        to_it = q.1;
        provider = q.2.0;
        stands = q.2.1;
        low = q.2.2.0;
        sector = q.2.2.1;
      }

-- A bio of a firm mesh

-- each of some counts is at most their sum
sum_above : (xs : List Counts) (a : Counts) → Contains xs a → IsAtMost a (sum_counts xs)
sum_above [] a here = absurd (nothing_in a here)
sum_above (x ∷ xs) a here =
    elim (Contains-cases x a xs here) [
      | inl same ↦ subst (λ (b : Counts). IsAtMost b (sum_counts (x ∷ xs))) same
          (record { r = omega arith; w = omega arith; e = omega arith })
      | inr rest ↦ let more = sum_above xs a rest in
          record { r = omega (arith, more.r); w = omega (arith, more.w); e = omega (arith, more.e) }
    ]

module _ (w : World) (firm : Firm w) (x : Bio) (here : Contains w.bios x) where
  -- the graph
  abbrev t : Topology Config
  t = w.topology

  -- it is in order
  in_order : IsBioInOrder (granted_in w) w.topology x
  in_order = All-contains (IsBioInOrder (granted_in w) w.topology) w.bios x firm.bios.order here

  -- a consumer with the count that it needs wants something
  wants_some : (c : Consumer) (b : Bool) → is_read x.cmd ≡ b → HasCountFor (granted_in w) w.topology x c
      → IsAtMost (want (granted_in w) t c) no_counts → ⊥
  wants_some c true e has less = let some : 0 < (want (granted_in w) t c).r = has.0 e in omega (arith, less.r)
  wants_some c false e has less = let some : 0 < (want (granted_in w) t c).w = has.1 e in omega (arith, less.w)

  module _ (p : Provider) (at_target : provider_at t x.target ≡ Some p) where
    -- the provider has what a consumer of it wants
    pub want_held : (granted : ℕ → Counts) (c : Consumer) → Contains t.consumers c → c.provider ≡ Some x.target
        → IsAtMost (want granted t c) (have granted t x.target)
    want_held granted c stands to_it =
        subst (IsAtMost (want granted t c))
        (sym (have-sum granted t firm.graph.ranks.ranked
        (each_found (λ (v : Provider). v.number) t.next_provider t.providers firm.graph.numbers.providers)
        x.target p at_target))
        (sum_above (map (want granted t) (attached_to t x.target)) (want granted t c)
        (Contains-map (want granted t) (attached_to t x.target) c
        (Contains-filter (λ (v : Consumer). names_number v.provider x.target) t.consumers c stands
        (rw to_it (eq-eqb x.target x.target refl)))))

    -- so the provider has a count
    open_there : is_zero (have (granted_in w) t x.target) ≡ false
    open_there = false_from_ne_true (is_zero (have (granted_in w) t x.target)) (λ zero.
        let c = some_and_of (λ (c : Consumer). (c.provider ≡ Some x.target) × HasCountFor (granted_in w) w.topology x c)
        (consumer_at t x.source) in_order.source in
        wants_some c.0 (is_read x.cmd) refl c.2.1
        (subst (IsAtMost (want (granted_in w) t c.0)) (zero-test (have (granted_in w) t x.target) zero)
        (want_held (granted_in w) c.0
        (find-Contains (λ (v : Consumer). v.number == x.source) t.consumers c.0 c.1) c.2.0)))

    -- the provider's number
    its_number : p.number ≡ x.target
    its_number = number_found (λ (v : Provider). v.number) t.providers x.target p at_target

    -- it is open
    pub is_open : is_zero (have (granted_in w) t p.number) ≡ false
    is_open = rw its_number open_there

    -- the range of the bio
    pub range_of : is_flush x.cmd ≡ false → IsRangeInside x p
    range_of moves = (rw at_target at in_order.target) moves

    module _ (g : Geom Config) (of_it : geom_at t p.geom ≡ Some g) (no_disk : disk_of g.config ≡ None) where
      -- each offset is placed
      placed_by : IsSome (disk_of g.config) ⊎ IsPlaced t g p → IsPlaced t g p
      placed_by (inl disk) =
          absurd (let bad : IsSome {T = ℕ} None = rw no_disk at disk in let no_way : ⊥ = cc in no_way)
      placed_by (inr placed) = placed

      -- by what leads down
      pub is_placed : IsPlaced t g p
      is_placed =
          let stands : Contains t.providers p =
          find-Contains (λ (v : Provider). v.number == x.target) t.providers p at_target in
          let leads : LeadsDown (granted_in w) w.topology p =
          All-contains (LeadsDown (granted_in w) w.topology) t.providers p firm.demand.places stands in
          placed_by ((rw of_it at leads) (inl is_open))

      -- the geom's number
      geom_number : g.number ≡ p.geom
      geom_number = number_found (λ (v : Geom Config). v.number) t.geoms p.geom g of_it

      -- the geom's configuration fits the provider below each of its places
      pub whole_below : (spot : Spot) (b : Below t g p spot) → IsWholeIn g.config b.provider.sector
      whole_below spot b =
          let stands : Contains t.consumers b.consumer =
          find-Contains (λ (v : Consumer). v.number == b.number) t.consumers b.consumer b.found in
          let fits : FitsBelow t b.consumer =
          All-contains (FitsBelow t) t.consumers b.consumer firm.sizes.wholes stands in
          let same : b.consumer.geom ≡ p.geom = b.of_geom ∙ geom_number in
          let geom : geom_at t b.consumer.geom ≡ Some g = subst (λ (n : ℕ). geom_at t n ≡ Some g) (sym same) of_it in
          let to_it : b.consumer.provider ≡ Some b.under = b.to_it in
          let there : provider_at t b.under ≡ Some b.provider = b.stands in
          rw (geom, to_it, there) at fits

      module _ (moves : is_flush x.cmd ≡ false) where
        -- the range
        range : IsRangeInside x p
        range = range_of moves

        -- strips aren't empty
        strips : (id : Option ℕ) (stripe : ℕ) (places : List (Option ℕ)) (sizes : List ℕ)
            → g.config ≡ Stripe id stripe places sizes → 0 < stripe
        strips id stripe places sizes is =
            let first = some_and_of (IsPlaceInside t g p) (place g.config p.name x.offset)
            (is_placed x.offset (omega (arith, range.some_byte, range.inside))) in
            let b = below_of t g p first.0 first.2 in
            let whole : IsWholeIn (Stripe id stripe places sizes) b.provider.sector =
            subst (λ (c : Config). IsWholeIn c b.provider.sector) is (whole_below first.0 b) in
            omega (arith, whole.0)

        -- the pieces follow each other
        pub follow : Follow 0 x.len (pieces g.config p x.offset x.len)
        follow =
            pieces-follow g.config p x.offset x.len (omega (arith, range.some_byte))
            (has_range t g p x.offset x.len g.config (omega (arith, range.some_byte)) range.inside is_placed strips)

        -- what is below a byte of a piece
        pub piece_below : (s : Piece) → IsBetween 0 x.len s → PieceIsPlaced (place g.config p.name) x.offset s
            → (j : ℕ) → j < s.span.len
            → Below t g p (record { component = s.child; offset = s.span.offset + j })
        piece_below s between placed j short =
            let inside : IsPlaceInside t g p (record { component = s.child; offset = s.span.offset + j }) =
            subst (λ (o : Option Spot). IsSomeAnd o (IsPlaceInside t g p)) (placed j short)
            (is_placed (x.offset + s.at + j) (omega (arith, range.inside, between.to_high))) in
            below_of t g p (record { component = s.child; offset = s.span.offset + j }) inside

        -- a piece with what is below each of its bytes
        abbrev pub LiesBelow : Piece → Type 0
        LiesBelow s = IsBetween 0 x.len s
            × ((j : ℕ) → j < s.span.len → Below t g p (record { component = s.child; offset = s.span.offset + j }))

        -- so each piece lies below
        pub pieces_below : AllByRecursion LiesBelow (pieces g.config p x.offset x.len)
        pieces_below =
            all_weaker (λ (s : Piece). IsBetween 0 x.len s × PieceIsPlaced (place g.config p.name) x.offset s) LiesBelow
            (λ s both. (both.0, piece_below s both.0 both.1)) (pieces g.config p x.offset x.len)
            (both_by_recursion (IsBetween 0 x.len) (PieceIsPlaced (place g.config p.name) x.offset)
            (pieces g.config p x.offset x.len)
            (follow-between 0 x.len (pieces g.config p x.offset x.len) follow)
            (pieces-placed g.config p x.offset x.len))

        -- and has its consumer
        each_consumer : AllByRecursion (λ (s : Piece). IsSome (component g.config s.child))
            (pieces g.config p x.offset x.len)
        each_consumer =
            all_weaker LiesBelow (λ (s : Piece). IsSome (component g.config s.child))
            (λ s lies. let b = lies.1 0 lies.0.some in let is : component g.config s.child ≡ Some b.number = b.is in
            rw is refl)
            (pieces g.config p x.offset x.len) pieces_below

        -- so none is lost
        pub no_piece_lost : map (λ (z : PieceTarget). z.piece)
            (piece_targets g.config p x) ≡ pieces g.config p x.offset x.len
        no_piece_lost = rw moves (kept g.config (pieces g.config p x.offset x.len) each_consumer)

        -- and their lengths together are that of the bio
        pub lengths : sum (map (λ (z : PieceTarget). z.piece.span.len) (piece_targets g.config p x)) ≡ x.len
        lengths =
            let total : 0 + sum (map (λ (s : Piece). s.span.len) (pieces g.config p x.offset x.len)) ≡ x.len =
            follow-sum 0 x.len (pieces g.config p x.offset x.len) follow in
            let same : map (λ (z : PieceTarget). z.piece.span.len) (piece_targets g.config p x) ≡ map
            (λ (s : Piece). s.span.len) (pieces g.config p x.offset x.len) =
            sym (map-map (λ (s : Piece). s.span.len) (λ (z : PieceTarget). z.piece) (piece_targets g.config p x))
            ∙ ap (λ ss. map (λ (s : Piece). s.span.len) ss) no_piece_lost in
            rw same (omega (arith, total))

-- a firm mesh loses no piece
pub firm_meshes_lose_no_piece : FirmMeshesLoseNoPiece
firm_meshes_lose_no_piece w x p g firm here at_target of_it no_disk moves = (
  no_piece_lost w firm x here p at_target g of_it no_disk moves,
  follow w firm x here p at_target g of_it no_disk
      moves,
)

-- The pieces of a request of whole sectors are whole sectors, where the stretches of the provider are.

-- Of numbers

-- the greater of two multiples
whole_max : (d a b : ℕ) → d ∣ a → d ∣ b → d ∣ max a b
whole_max d a b first second =
    elim (cases_lt a b) [
      | inl low ↦ subst (λ (n : ℕ). d ∣ n) (let e : b ≡ max a b = omega arith in e) second
      | inr high ↦ subst (λ (n : ℕ). d ∣ n) (let e : a ≡ max a b = omega arith in e) first
    ]

-- and the lesser
whole_min : (d a b : ℕ) → d ∣ a → d ∣ b → d ∣ min a b
whole_min d a b first second =
    elim (cases_lt a b) [
      | inl low ↦ subst (λ (n : ℕ). d ∣ n) (let e : a ≡ min a b = omega arith in e) first
      | inr high ↦ subst (λ (n : ℕ). d ∣ n) (let e : b ≡ min a b = omega arith in e) second
    ]

-- Of stretches

-- a stretch of whole sectors
pub record IsWholeStretch (d : ℕ) (s : Stretch) : Type 0 where
  pub start : d ∣ s.start
  pub len : d ∣ s.len
  pub offset : d ∣ s.offset

-- a piece of whole sectors
pub record IsWholePiece (d : ℕ) (z : Piece) : Type 0 where
  pub offset : d ∣ z.span.offset
  pub len : d ∣ z.span.len

-- it is of whole sectors
whole_cut : (d o len : ℕ) (s : Stretch) → d ∣ o → d ∣ len → IsWholeStretch d s → IsWholePiece d (cut_piece o len s)
whole_cut d o len s at_o of_len whole =
    let begin : d ∣ max o s.start = whole_max d o s.start at_o whole.start in
    let end : d ∣ min (o + len) (s.start + s.len) =
    whole_min d (o + len) (s.start + s.len) (dvd-add d at_o of_len) (dvd-add d whole.start whole.len) in
    record { offset = dvd-add d whole.offset (dvd-sub d begin whole.start); len = dvd-sub d end begin }

-- where there is one
whole_in : (d o len : ℕ) (s : Stretch) (z : Piece) (b : Bool)
    → nat_lt (max o s.start) (min (o + len) (s.start + s.len)) ≡ b → piece_in o len s ≡ Some z
    → d ∣ o → d ∣ len → IsWholeStretch d s → IsWholePiece d z
whole_in d o len s z true e found at_o of_len whole =
    let is : Some (cut_piece o len s) ≡ Some z = rw e at found in
    let same : cut_piece o len s ≡ z = cc in
    subst (IsWholePiece d) same (whole_cut d o len s at_o of_len whole)
whole_in d o len s z false e found at_o of_len whole = let bad : None ≡ Some z = rw e at found in absurd cc

-- so for all pieces
whole_pieces : (d o len : ℕ) (ss : List Stretch) → d ∣ o → d ∣ len → AllByRecursion (IsWholeStretch d) ss
    → AllByRecursion (IsWholePiece d) (filter_map (piece_in o len) ss)
whole_pieces d o len ss at_o of_len whole =
    mapped_by (IsWholeStretch d) (IsWholePiece d) (piece_in o len)
    (λ s z found is. whole_in d o len s z
    (nat_lt (max o s.start) (min (o + len) (s.start + s.len))) refl found at_o of_len is) ss whole

-- Of configurations

-- the window over a whole provider
whole_window : (d offset size : ℕ) → d ∣ offset → d ∣ size → AllByRecursion (IsWholeStretch d) (window offset size ∷ [])
whole_window d offset size at_offset of_size = (record { start = dvd-zero d; len = of_size; offset = at_offset }, tt)

-- the components of a concat
whole_concat : (d k start : ℕ) (sizes : List ℕ) → d ∣ start → AllByRecursion (λ (n : ℕ). d ∣ n) sizes
    → AllByRecursion (IsWholeStretch d) (concat_stretches k start sizes)
whole_concat d k start [] at_start whole = tt
whole_concat d k start (size ∷ sizes) at_start whole = (
  record { start = at_start; len = whole.0; offset = dvd-zero d },
  whole_concat d (k + 1) (start + size) sizes
      (dvd-add d at_start whole.0) whole.1,
)

-- a strip
whole_strip : (d n stripe j : ℕ) → d ∣ stripe → IsWholeStretch d (strip n stripe j)
whole_strip d n stripe j whole =
    record { start = dvd-mul_left_of_dvd d whole j; len = whole; offset = dvd-mul_left_of_dvd d whole (j / n) }

-- the slice of an MBR or the partition of an EBR
whole_part : {A : Type 0} (first : A → ℕ) (d size : ℕ) (o : Option A) → d ≡ 512 → d ∣ size
    → AllByRecursion (IsWholeStretch d) (option_map_or (λ s. window (first s * 512) size ∷ []) o [])
whole_part first d size None is of_size = tt
whole_part first d size (Some s) is of_size =
    whole_window d (first s * 512) size (subst (λ (n : ℕ). d ∣ first s * n) is (dvd-mul_left d (first s))) of_size

-- what a configuration has in whole sectors beside what it asks of the provider below
abbrev pub AreWholeSizes : ℕ → Config → Type 0
AreWholeSizes d (Concat id places sizes) = AllByRecursion (λ (n : ℕ). d ∣ n) sizes
AreWholeSizes d _ = ⊤

-- the stretches of a provider are of whole sectors
whole_stretches : (d : ℕ) (p : Provider) (o len : ℕ) (config : Config) → d ∣ p.size → IsWholeIn config d
    → AreWholeSizes d config
    → AllByRecursion (IsWholeStretch d) (stretches config p o len)
whole_stretches d p o len (Mbr below slices) of_size whole sizes =
    whole_part (λ (s : Slice). s.first) d p.size (slice_at slices p.name) whole of_size
whole_stretches d p o len (Ebr below parts) of_size whole sizes =
    whole_part (λ (s : EbrPart). s.first) d p.size (part_at parts p.name) whole of_size
whole_stretches d p o len (Label below) of_size whole sizes = whole_window d 0 p.size (dvd-zero d) of_size
whole_stretches d p o len (Concat id places ns) of_size whole sizes = whole_concat d 0 0 ns (dvd-zero d) sizes
whole_stretches d p o len (Stripe id stripe places ns) of_size whole sizes =
    map_all (IsWholeStretch d) (strip (length ns) stripe)
    (λ j. whole_strip d (length ns) stripe j (dvd_of_mod-eq-zero d whole.1))
    (range_with_len (o / stripe) ((o + len - 1) / stripe + 1 - o / stripe))
whole_stretches d p o len (Nop below offset fail) of_size whole sizes =
    whole_window d offset p.size (dvd_of_mod-eq-zero d whole) of_size
whole_stretches d p o len _ of_size whole sizes = tt

-- so are the pieces of a request of whole sectors
pub pieces_whole : (d : ℕ) (p : Provider) (o len : ℕ) (config : Config) → d ∣ o → d ∣ len → d ∣ p.size
    → IsWholeIn config d → AreWholeSizes d config
    → AllByRecursion (IsWholePiece d) (pieces config p o len)
pieces_whole d p o len config at_o of_len of_size whole sizes =
    whole_pieces d o len (stretches config p o len) at_o of_len (whole_stretches d p o len config of_size whole sizes)

-- The sizes of a concat

module _ (t : Topology Config) (g : Geom Config) (p : Provider) where
  -- the size of one place, where something lies there
  size_at : (n size : ℕ) (spot : Spot) (b : Below t g p spot) → b.number ≡ n → FitsPlace t g.number (Some n) size
      → p.sector ∣ size
  size_at n size spot b same fits =
      let found : consumer_at t n ≡ Some b.consumer =
      subst (λ (m : ℕ). consumer_at t m ≡ Some b.consumer) same b.found in
      let to_it : b.consumer.provider ≡ Some b.under = b.to_it in
      let stands : provider_at t b.under ≡ Some b.provider = b.stands in
      let fact : b.consumer.geom ≡ g.number
      → IfSome (option_and_then (provider_at t) b.consumer.provider)
      (λ q. (size ≤ q.size) × (size % q.sector ≡ 0)) = rw found at fits in
      let both : (size ≤ b.provider.size) × (size % b.provider.sector ≡ 0) = rw (to_it, stands) at (fact b.of_geom) in
      dvd_of_mod-eq-zero p.sector (subst (λ (m : ℕ). size % m ≡ 0) b.sector both.1)

  -- the first place
  size_first : (k : ℕ) (place : Option ℕ) (size : ℕ) (sizes : List ℕ) → component g.config k ≡ place
      → FitsPlace t g.number place size
      → (0 < size → IsPlaceInside t g p (record { component = k; offset = 0 })) → (n : ℕ) → size ≡ n → p.sector ∣ size
  size_first k place size sizes is fits inside zero e = subst (λ (m : ℕ). p.sector ∣ m) (sym e) (dvd-zero p.sector)
  size_first k place size sizes is fits inside (suc n) e =
      let b = below_of t g p (record { component = k; offset = 0 }) (inside (omega (arith, e))) in
      let there : component g.config k ≡ Some b.number = b.is in
      let same : place ≡ Some b.number = sym is ∙ there in
      size_at b.number size (record { component = k; offset = 0 }) b refl
      (subst (λ (o : Option ℕ). FitsPlace t g.number o size) same fits)

  -- the first place holds the first offset
  first_spot : (k size : ℕ) (sizes : List ℕ)
      → ((o : ℕ) → o < sum (size ∷ sizes) → IsSomeAnd (concat_spot k (size ∷ sizes) o) (IsPlaceInside t g p))
      → 0 < size → IsPlaceInside t g p (record { component = k; offset = 0 })
  first_spot k size sizes placed some =
      let low : nat_lt 0 size ≡ true = lt-ltb 0 size some in
      rw low at (placed 0 (omega (arith, sum_by-cons (λ m. m) size sizes)))

  -- the other places hold the offsets behind it
  other_spots : (k size : ℕ) (sizes : List ℕ)
      → ((o : ℕ) → o < sum (size ∷ sizes) → IsSomeAnd (concat_spot k (size ∷ sizes) o) (IsPlaceInside t g p))
      → (o : ℕ) → o < sum sizes → IsSomeAnd (concat_spot (k + 1) sizes o) (IsPlaceInside t g p)
  other_spots k size sizes placed o below =
      let high : nat_lt (size + o) size ≡ false = le-ltb (size + o) size (omega arith) in
      let back : size + o - size ≡ o = omega arith in
      rw (high, back) at (placed (size + o) (omega (arith, sum_by-cons (λ m. m) size sizes)))

  -- all sizes
  pub sizes_whole : (k : ℕ) (places : List (Option ℕ)) (sizes : List ℕ) → AllZip (FitsPlace t g.number) places sizes
      → ((i : ℕ) → component g.config (k + i) ≡ option_flatten (slice_get places i))
      → ((o : ℕ) → o < sum sizes → IsSomeAnd (concat_spot k sizes o) (IsPlaceInside t g p))
      → AllByRecursion (λ (n : ℕ). p.sector ∣ n) sizes
  sizes_whole k places [] fits is placed = tt
  sizes_whole k [] (size ∷ sizes) fits is placed = absurd fits
  sizes_whole k (place ∷ places) (size ∷ sizes) fits is placed =
      let here : component g.config k ≡ place =
      subst (λ (n : ℕ). component g.config n ≡ place) (let e : k + 0 ≡ k = omega arith in e) (is 0 ∙ flat place) in (
        size_first k place size sizes here fits.0 (first_spot k size sizes placed) size refl,
        sizes_whole (k + 1) places sizes fits.1
            (λ i. subst (λ (n : ℕ). component g.config n ≡ option_flatten (slice_get places i))
            (let e : k + suc i ≡ k + 1 + i = omega arith in e) (is (suc i)))
            (other_spots k size sizes placed),
      )
    where
      -- what is there of a place is the place
      flat : (o : Option ℕ) → option_flatten (Some o) ≡ o
      flat o = refl

-- the class CONCAT has such a configuration
pub concat_kind : (kind : Kind) (id : Option ℕ) (places : List (Option ℕ)) (sizes : List ℕ)
    → IsTrue (fits_kind kind (Concat id places sizes)) → kind ≡ kinds.Concat
concat_kind kinds.Concat id places sizes fits = refl
concat_kind _ id places sizes fits = absurd cc

-- In a firm mesh the consumers of an open geom have the counts for each request to one of its providers.

-- a consumer of a class that adds up wants at least what the providers have
want_over : (kind : Kind) (haves : List Counts) (granted : Counts) → is_granted_kind kind ≡ false
    → is_kind kind kinds.Disk ≡ false
    → IsAtMost (sum_counts haves) (want_of_kind kind haves granted)
want_over kinds.Disk haves granted other no_disk = absurd cc
want_over kinds.Dev haves granted other no_disk = absurd cc
want_over kinds.Taste haves granted other no_disk = absurd cc
want_over _ haves granted other no_disk = record { r = omega arith; w = omega arith; e = omega arith }

-- the class DISK has a disk
disk_config : (kind : Kind) (config : Config) → is_kind kind kinds.Disk ≡ true → IsTrue (fits_kind kind config)
    → IsSome (disk_of config)
disk_config kinds.Disk (Disk disk) is fits = refl
disk_config _ _ is fits = absurd cc

-- more counts serve too
count_up : (granted : ℕ → Counts) (u : Topology Config) (x : Bio) (c d : Consumer)
    → IsAtMost (want granted u c) (want granted u d) → Serves granted u x c → Serves granted u x d
count_up granted u x c d more has =
    ((λ read. omega (arith, more.r, has.0 read)), (λ other. omega (arith, more.w, has.1 other)))

module _ (w : World) (firm : Firm w) (x : Bio) (here : Contains w.bios x) (p : Provider)
    (at_target : provider_at w.topology x.target ≡ Some p)
    (g : Geom Config) (of_it : geom_at w.topology p.geom ≡ Some g) (no_disk : disk_of g.config ≡ None) where
  -- the graph
  abbrev u : Topology Config
  u = w.topology

  -- the provider stands
  p_stands : Contains u.providers p
  p_stands = find-Contains (λ (v : Provider). v.number == x.target) u.providers p at_target

  -- something lies at its first byte
  pub first_below : (spot : Spot) × Below u g p spot
  first_below =
      let size : IsMediaSize p.size p.sector =
      All-contains (λ (v : Provider). IsMediaSize v.size v.sector) u.providers p firm.graph.providers.sizes p_stands in
      let spot = some_and_of (IsPlaceInside u g p) (place g.config p.name 0)
      (is_placed w firm x here p at_target g of_it no_disk 0 (omega (arith, size.positive))) in
      (spot.0, below_of u g p spot.0 spot.2)

  -- its geom is of its class
  class : IsOfItsClass g
  class = All-contains IsOfItsClass u.geoms g firm.graph.numbers.classes
      (find-Contains (λ (v : Geom Config). v.number == p.geom) u.geoms g of_it)

  -- the geom isn't DEV or TASTE
  not_granted : is_granted_kind g.kind ≡ false
  not_granted = false_from_ne_true (is_granted_kind g.kind) (λ granted.
      let bare : g.config ≡ Nothing = bare_config g.kind g.config granted class.config in
      let first = first_below in
      let is : component g.config first.0.component ≡ Some first.1.number = first.1.is in
      let none : component Nothing first.0.component ≡ Some first.1.number =
      subst (λ (c : Config). component c first.0.component ≡ Some first.1.number) bare is in
      cc)

  -- nor a disk's
  not_disk : is_kind g.kind kinds.Disk ≡ false
  not_disk = false_from_ne_true (is_kind g.kind kinds.Disk) (λ is.
      let some : IsSome (disk_of g.config) = disk_config g.kind g.config is class.config in
      let none : IsSome {T = ℕ} None = rw no_disk at some in
      cc)

  -- the geom's number
  number_of_geom : g.number ≡ p.geom
  number_of_geom = number_found (λ (v : Geom Config). v.number) u.geoms p.geom g of_it

  module _ (granted : ℕ → Counts) where
    -- what its provider has, a consumer of it wants
    want_below : (c : Consumer) → c.geom ≡ g.number → IsAtMost (have granted u x.target) (want granted u c)
    want_below c of_geom =
        let number : p.number ≡ x.target = number_found (λ (v : Provider). v.number) u.providers x.target p at_target in
        let its : (p.geom == g.number) ≡ true = eq-eqb p.geom g.number (sym number_of_geom) in
        let offered : Contains (providers_of u g.number) p =
        Contains-filter (λ (v : Provider). v.geom == g.number) u.providers p p_stands its in
        let haves : List Counts = map (λ (v : Provider). have granted u v.number) (providers_of u g.number) in
        let among : Contains haves (have granted u p.number) =
        Contains-map (λ (v : Provider). have granted u v.number) (providers_of u g.number) p offered in
        let geom : geom_at u c.geom ≡ Some g =
        subst (λ (n : ℕ). geom_at u n ≡ Some g) (sym (of_geom ∙ number_of_geom)) of_it in
        let through : IsAtMost (have granted u p.number) (want_of_kind g.kind haves (granted c.number)) =
        at_most-trans (have granted u p.number) (sum_counts haves) (want_of_kind g.kind haves (granted c.number))
        (sum_above haves (have granted u p.number) among)
        (want_over g.kind haves (granted c.number) not_granted not_disk) in
        subst (λ (n : ℕ). IsAtMost (have granted u n) (want granted u c)) number (rw geom through)

    -- where the source of the bio has the counts, so has a consumer of the geom below
    pub serves_below : (s c : Consumer) → Contains u.consumers s → s.provider ≡ Some x.target → c.geom ≡ g.number
        → Serves granted u x s → Serves granted u x c
    serves_below s c stands to_it of_geom has =
        count_up granted u x s c
        (at_most-trans (want granted u s) (have granted u x.target) (want granted u c)
        (want_held w firm x here p at_target granted s stands to_it) (want_below c of_geom)) has

  -- each consumer of the geom has the count for the request
  pub counted : (c : Consumer) → c.geom ≡ g.number → HasCountFor (granted_in w) w.topology x c
  counted c of_geom =
      let order : IsBioInOrder (granted_in w) w.topology x =
      All-contains (IsBioInOrder (granted_in w) w.topology) w.bios x firm.bios.order here in
      let s = some_and_of
      (λ (s : Consumer). (s.provider ≡ Some x.target) × HasCountFor (granted_in w) w.topology x s)
      (consumer_at u x.source) order.source in
      serves_below (granted_in w) s.0 c (find-Contains (λ (v : Consumer). v.number == x.source) u.consumers s.0 s.1)
      s.2.0 of_geom s.2.1
