-- The leaves of the children of a Waiting bio cover it together.
use Rattle.std.specs.Prelude.{◌≡◌, ℕ, ◌+◌, ◌-◌, ◌*◌, ◌/◌, ◌%◌, ◌<◌, ◌≤◌, ◌==◌, Bool, true, false, not, List, [], ◌∷◌, ◌++◌, length, map, flat_map, filter_map, take, drop, Option, Some, None, Contains, IsTrue, All, option_and_then, option_map}
use Rattle.std.specs.List.{AllByRecursion, AllZip, list_all, enumerate_from, range_with_len}
use Rattle.std.proofs.Common.{inl, inr, refl, sym, ◌∙◌, ap, subst, arith}
use Rattle.std.proofs.Math.Nat.{add-mul, one-mul, div-mul_cancel, dvd_of_mod-eq-zero}
use Rattle.std.proofs.lemmas.Bool.{not-true}
use Rattle.std.proofs.lemmas.Grind.{flat_map-append}
use Rattle.std.proofs.lemmas.List.{map-append, drop-drop, take_all}
use Rattle.std.proofs.lemmas.List.Elements.{All-contains, All-append, All-nil}
use Rattle.std.proofs.lemmas.Simd.{map-map}
use Rattle.geo_laws_bios.proofs.Joined.{no_pieces}
use Rattle.geo_base.specs.Sectors.{IsSectorSize}
use Rattle.geo_model.specs.declared.span.Piece.{Piece}
use Rattle.geo_model.specs.Words.{is_flush, is_write, same_cmd}
use Rattle.geo_model.specs.Topology.{Topology, Geom, Provider, Consumer, geom_at, provider_at, consumer_at, provider_of_consumer}
use Rattle.geo_model.specs.World.{World, Config, Bio, children_of, is_waiting, is_done, is_child_of, granted_in}
use Rattle.geo_model.specs.Place.{DiskSector, Spot, place, component, components, disk_of, pieces, flat, ends, PieceIsPlaced, Follow}
use Rattle.geo_model.specs.Bios.{PieceTarget, piece_targets, empty_piece, bytes_of_piece, is_complete}
use Rattle.geo_model.specs.SoundBios.{IsBioInOrder, IsFamilyInOrder, IsRangeInside, HasCountFor, ChildShape, shape_of_child, shape_of_piece}
use Rattle.geo_model.specs.Results.{Leaf, sectors_of_request, sector_offsets, CoversRange, CoversEnds}
use Rattle.geo_model.specs.Fitting.{Firm}
use Rattle.geo_model.proofs.PlaceLemmas.{pieces-placed}
use Rattle.geo_laws_graph.proofs.Members.{find-Contains, filter-Contains, filter_map-Contains, All-from_contained, at_contained}
use Rattle.geo_laws_graph.proofs.Numbered.{number_found}
use Rattle.geo_laws_life.proofs.Found.{found-with, some-with, at-some, one-found}
use Rattle.geo_laws_bios.proofs.Pieces.{Below, IsBetween, follow, follow-between, piece_below, no_piece_lost}
use Rattle.geo_laws_maps.specs.Ways.{IsOpen}
use Rattle.geo_laws_maps.specs.Covers.{CoversBy, IsCovered, JoinedCovers}
use Rattle.geo_laws_maps.proofs.Opened.{live-open, open-down}
use Rattle.geo_laws_maps.proofs.MapSteps.{flat_step-place, ends_step-down}
use Rattle.geo_laws_maps.proofs.Levels.{flat-down, ends-down}
use Rattle.geo_laws_maps.proofs.SectorOffsets.{range-same, offsets-split, offsets-none, part-split}

-- Children and their pieces

-- the child is the one for the piece of a bio
record IsPieceOf (x : Bio) (y : Bio) (z : PieceTarget) : Type 0 where
  cmd : y.cmd ≡ x.cmd
  source : y.source ≡ z.consumer
  offset : y.offset ≡ z.piece.span.offset
  len : y.len ≡ z.piece.span.len
  bytes : y.bytes ≡ bytes_of_piece x.bytes z.piece

-- children with the shapes of some pieces are those for them
matched : (x : Bio) (k : ℕ) (cs : List Bio) (zs : List PieceTarget)
    → map shape_of_child cs
    ≡ map (λ (item : ℕ × PieceTarget). shape_of_piece x item.0 item.1) (enumerate_from k zs)
    → AllZip (IsPieceOf x) cs zs
matched x k [] [] e = tt
matched x k [] (z ∷ zs) e = absurd (let no : ⊥ = cc in no)
matched x k (y ∷ ys) [] e = absurd (let no : ⊥ = cc in no)
matched x k (y ∷ ys) (z ∷ zs) e =
    let first : shape_of_child y ≡ shape_of_piece x k z = cc in
    let rest : map shape_of_child ys
    ≡ map (λ (item : ℕ × PieceTarget). shape_of_piece x item.0 item.1) (enumerate_from (k + 1) zs) = cc in (
      record {
        cmd = ap (λ (s : ChildShape). s.cmd) first;
        source = ap (λ (s : ChildShape). s.source) first;
        offset = ap (λ (s : ChildShape). s.offset) first;
        len = ap (λ (s : ChildShape). s.len) first;
        bytes = ap (λ (s : ChildShape). s.bytes) first;
      },
      matched x (k + 1) ys zs rest,
    )

-- what has no shapes is empty
no_shapes : (cs : List Bio) → map shape_of_child cs ≡ [] → cs ≡ []
no_shapes [] e = refl
no_shapes (y ∷ ys) e = absurd (let no : ⊥ = cc in no)

-- a number of sectors below a count lies inside their bytes
inside-count : (s n k : ℕ) → 0 < s → k < n → k * s < n * s
inside-count s n k some less =
    let d : ℕ = n - (k + 1) in
    let all : k + 1 + d ≡ n = omega (arith, less) in
    let one : (k + 1 + d) * s ≡ (k + 1) * s + d * s = add-mul (k + 1) d s in
    let two : (k + 1) * s ≡ k * s + 1 * s = add-mul k 1 s in
    let three : 1 * s ≡ s = one-mul s in
    subst (λ m. k * s < m * s) all (omega (arith, one, two, three, some))

module _ (w : World) (firm : Firm w) (x : Bio) (here : Contains w.bios x) (waiting : IsTrue (is_waiting x.phase))
    (found : Bio → List Leaf) (p : Provider) (at_target : provider_at w.topology x.target ≡ Some p)
    (g : Geom Config) (of : geom_at w.topology p.geom ≡ Some g) where
  -- the graph
  abbrev t : Topology Config
  t = w.topology

  -- its children
  abbrev cs : List Bio
  cs = children_of w x.number

  -- it is in order
  family : IsFamilyInOrder t w.bios x
  family = All-contains (IsFamilyInOrder t w.bios) w.bios x firm.bios.families here

  -- its children are its pieces
  shapes : map shape_of_child cs
      ≡ map (λ (item : ℕ × PieceTarget). shape_of_piece x item.0 item.1)
      (enumerate_from 0 (piece_targets g.config p x))
  shapes =
      at-some (geom_at t p.geom) _ g of
      (at-some (provider_at t x.target) _ p at_target (family.pieces waiting))

  -- each for its piece
  each_piece : AllZip (IsPieceOf x) cs (piece_targets g.config p x)
  each_piece = matched x 0 cs (piece_targets g.config p x) shapes

  -- it isn't at a disk, which has no pieces
  no_disk : disk_of g.config ≡ None
  no_disk = by (disk_of g.config) refl where
    -- by the disk
    by : (o : Option ℕ) → disk_of g.config ≡ o → disk_of g.config ≡ None
    by None e = e
    by (Some d) e =
        let none : cs ≡ [] =
        no_shapes cs (shapes ∙ ap (λ zs. map (λ (item : ℕ × PieceTarget). shape_of_piece x item.0 item.1)
        (enumerate_from 0 zs)) (no_pieces g.config p x d e)) in
        let complete : is_complete w x.number ≡ true =
        ap (λ (ys : List Bio). list_all (λ (y : Bio). is_done y.phase) ys) none in
        absurd (let no : true ≡ false = sym complete ∙ family.not_complete waiting in let bad : ⊥ = cc in bad)

  -- the provider's number
  number : p.number ≡ x.target
  number = number_found (λ (z : Provider). z.number) t.providers x.target p at_target

  -- it is open
  opened : IsOpen w x.target
  opened = live-open w firm x here

  -- a sector isn't empty
  some_sector : 0 < p.sector
  some_sector =
      elim (All-contains (λ (z : Provider). IsSectorSize z.sector) t.providers p firm.sizes.sectors
      (find-Contains (λ (z : Provider). z.number == x.target) t.providers p at_target)) [
        | inl small ↦ omega (arith, small)
        | inr large ↦ omega (arith, large)
      ]

  -- A child

  -- it stands, and its leaves cover it
  abbrev IsCoveredChild : Bio → Type 0
  IsCoveredChild y = Contains w.bios y × IsCovered w found y

  -- its source is attached to its target
  child_source : (y : Bio) → Contains w.bios y → provider_of_consumer t y.source ≡ Some y.target
  child_source y stands =
      let order : IsBioInOrder (granted_in w) t y =
      All-contains (IsBioInOrder (granted_in w) t) w.bios y firm.bios.order stands in
      let c = found-with (consumer_at t y.source)
      (λ c. (c.provider ≡ Some y.target) × HasCountFor (granted_in w) t y c) order.source in
      ap (option_and_then (λ (z : Consumer). z.provider)) c.is ∙ c.fact.0

  -- a FLUSH

  -- the disks of the children are those that are reached through the components
  flushed : (ys : List Bio) (ns : List ℕ) → is_flush x.cmd ≡ true
      → AllZip (IsPieceOf x) ys (map (λ c. record { consumer = c; piece = empty_piece }) ns)
      → AllByRecursion IsCoveredChild ys
      → map (λ (leaf : Leaf). leaf.request.disk) (flat_map found ys)
      ≡ flat_map (ends t) (filter_map (provider_of_consumer t) ns)
  flushed [] [] flush zipped covered = refl
  flushed [] (n ∷ ns) flush zipped covered = absurd zipped
  flushed (y ∷ ys) [] flush zipped covered = absurd zipped
  flushed (y ∷ ys) (n ∷ ns) flush zipped covered =
      let is : IsPieceOf x y (record { consumer = n; piece = empty_piece }) = zipped.0 in
      let q = found-with (provider_at t y.target) (λ q. CoversBy w y q (found y)) covered.0.1 in
      let to_it : provider_of_consumer t n ≡ Some y.target =
      subst (λ m. provider_of_consumer t m ≡ Some y.target) is.source (child_source y covered.0.0) in
      let its : CoversEnds w y q.item (found y) = q.fact.flush (ap is_flush is.cmd ∙ flush) in
      let same : q.item.number ≡ y.target =
      number_found (λ (z : Provider). z.number) t.providers y.target q.item q.is in
      let first : map (λ (leaf : Leaf). leaf.request.disk) (found y) ≡ ends t y.target =
      its.disks ∙ ap (ends t) same in
      rw to_it
      (map-append (λ (leaf : Leaf). leaf.request.disk) (found y) (flat_map found ys)
      ∙ ap (λ ds. ds ++ map (λ (leaf : Leaf). leaf.request.disk) (flat_map found ys)) first
      ∙ ap (λ ds. ends t y.target ++ ds) (flushed ys ns flush zipped.1 covered.1))

  -- commands of children that are the bio's
  joined_commands : (ys : List Bio)
      → AllByRecursion (λ y. All (λ leaf. IsTrue (same_cmd leaf.request.cmd x.cmd)) (found y)) ys
      → All (λ leaf. IsTrue (same_cmd leaf.request.cmd x.cmd)) (flat_map found ys)
  joined_commands [] facts = All-nil (λ (leaf : Leaf). IsTrue (same_cmd leaf.request.cmd x.cmd))
  joined_commands (y ∷ ys) facts =
      All-append (λ (leaf : Leaf). IsTrue (same_cmd leaf.request.cmd x.cmd)) (found y) (flat_map found ys) facts.0
      (joined_commands ys facts.1)

  -- the commands of each child's leaves are the bio's
  each_command : (ys : List Bio) (zs : List PieceTarget) → AllZip (IsPieceOf x) ys zs
      → AllByRecursion IsCoveredChild ys
      → AllByRecursion (λ y. All (λ leaf. IsTrue (same_cmd leaf.request.cmd x.cmd)) (found y)) ys
  each_command [] zs zipped covered = tt
  each_command (y ∷ ys) [] zipped covered = absurd zipped
  each_command (y ∷ ys) (z ∷ zs) zipped covered =
      let is : IsPieceOf x y z = zipped.0 in
      let q = found-with (provider_at t y.target) (λ q. CoversBy w y q (found y)) covered.0.1 in (
        subst (λ c. All (λ leaf. IsTrue (same_cmd leaf.request.cmd c)) (found y)) is.cmd
            (its_commands y q.item q.fact (is_flush y.cmd) refl),
        each_command ys zs zipped.1 covered.1,
      )
    where
      -- by whether it is a FLUSH
      its_commands : (y : Bio) (q : Provider) → CoversBy w y q (found y) → (b : Bool) → is_flush y.cmd ≡ b
          → All (λ leaf. IsTrue (same_cmd leaf.request.cmd y.cmd)) (found y)
      its_commands y q covers true e = (covers.flush e).commands
      its_commands y q covers false e = (covers.range (ap not e)).commands

  -- Ranges

  module _ (moves : is_flush x.cmd ≡ false) where
    -- a piece with its consumer, placed as the map says, inside the bio
    record IsGood (z : PieceTarget) : Type 0 where
      is : component g.config z.piece.child ≡ Some z.consumer
      placed : PieceIsPlaced (place g.config p.name) x.offset z.piece
      between : IsBetween 0 x.len z.piece

    -- the target of a piece, by its consumer
    target_by : (z : PieceTarget) (s : Piece) (o : Option ℕ) → component g.config s.child ≡ o
        → option_map (λ c. record { consumer = c; piece = s }) o ≡ Some z
        → PieceIsPlaced (place g.config p.name) x.offset s → IsBetween 0 x.len s → IsGood z
    target_by z s None e made placed between = absurd (let no : ⊥ = cc in no)
    target_by z s (Some c) e made placed between =
        let it : record { consumer = c; piece = s } ≡ z = cc in
        subst IsGood it (record { is = e; placed = placed; between = between })

    -- the target of a piece
    abbrev made : Piece → Option PieceTarget
    made s = option_map (λ c. record { consumer = c; piece = s }) (component g.config s.child)

    -- the targets are those of the pieces
    targets_made : piece_targets g.config p x ≡ filter_map made (pieces g.config p x.offset x.len)
    targets_made = rw moves refl

    -- so each is good
    all_good : AllByRecursion IsGood (piece_targets g.config p x)
    all_good =
        subst (AllByRecursion IsGood) (sym targets_made)
        (All-from_contained IsGood (filter_map made (pieces g.config p x.offset x.len)) (λ z among.
        let o = filter_map-Contains made (pieces g.config p x.offset x.len) z among in
        target_by z o.item (component g.config o.item.child) refl o.fact
        (at_contained (PieceIsPlaced (place g.config p.name) x.offset) (pieces g.config p x.offset x.len) o.item
        (pieces-placed g.config p x.offset x.len) o.stands)
        (at_contained (IsBetween 0 x.len) (pieces g.config p x.offset x.len) o.item
        (follow-between 0 x.len (pieces g.config p x.offset x.len)
        (follow w firm x here p at_target g of no_disk moves))
        o.stands)))

    module _ (y : Bio) (z : PieceTarget) (is : IsPieceOf x y z) (good : IsGood z) (stands : Contains w.bios y)
        (q : Provider) (at_child : provider_at t y.target ≡ Some q) where
      -- what is below its first byte
      below : Below t g p (record { component = z.piece.child; offset = z.piece.span.offset + 0 })
      below = piece_below w firm x here p at_target g of no_disk moves z.piece good.between good.placed 0
          good.between.some

      -- its target is there
      same_target : y.target ≡ below.under
      same_target =
          let consumer : z.consumer ≡ below.number =
          one-found (component g.config z.piece.child) z.consumer below.number good.is below.is in
          one-found (provider_of_consumer t y.source) y.target below.under (child_source y stands)
          (ap (provider_of_consumer t) (is.source ∙ consumer)
          ∙ ap (option_and_then (λ (c : Consumer). c.provider)) below.found ∙ below.to_it)

      -- with the same sectors
      same_sector : q.sector ≡ p.sector
      same_sector =
          ap (λ (v : Provider). v.sector)
          (one-found (provider_at t y.target) q below.provider at_child
          (ap (provider_at t) same_target ∙ below.stands))
          ∙ below.sector

      -- its range is in whole sectors
      whole : y.len % p.sector ≡ 0
      whole =
          let order : IsBioInOrder (granted_in w) t y =
          All-contains (IsBioInOrder (granted_in w) t) w.bios y firm.bios.order stands in
          subst (λ n. y.len % n ≡ 0) same_sector
          (at-some (provider_at t y.target)
          (λ v. is_flush y.cmd ≡ false → IsRangeInside y v) q at_child order.target
          (ap is_flush is.cmd ∙ moves)).len_whole

      -- a byte of it lies where the bio's lies
      same_byte : (j : ℕ) → j < y.len
          → flat t y.target (y.offset + j) ≡ flat t x.target (x.offset + z.piece.at + j)
      same_byte j less =
          let spot : Spot = record { component = z.piece.child; offset = z.piece.span.offset + j } in
          ap (λ n. flat t y.target (n + j)) is.offset
          ∙ sym (flat-down t firm.graph.ranks.ranked (IsOpen w) (open-down w firm) x.target opened p g at_target of
          (x.offset + z.piece.at + j)
          ∙ flat_step-place (flat t) t g.config p (x.offset + z.piece.at + j) spot y.target
          (good.placed j (subst (λ n. j < n) is.len less))
          (ap (option_and_then (provider_of_consumer t)) good.is
          ∙ subst (λ c. provider_of_consumer t c ≡ Some y.target) is.source (child_source y stands)))

      -- so its sectors lie where the bio's lie
      same_sectors : map (flat t q.number) (sector_offsets q.sector y.offset y.len)
          ≡ map (flat t x.target) (sector_offsets p.sector (x.offset + z.piece.at) y.len)
      same_sectors =
          let s : ℕ = p.sector in
          let count : ℕ = y.len / s in
          let back : count * s ≡ y.len = div-mul_cancel s (dvd_of_mod-eq-zero s whole) in
          let name : q.number ≡ y.target =
          number_found (λ (v : Provider). v.number) t.providers y.target q at_child in
          ap (λ n. map (flat t n) (sector_offsets q.sector y.offset y.len)) name
          ∙ ap (λ n. map (flat t y.target) (sector_offsets n y.offset y.len)) same_sector
          ∙ map-map (flat t y.target) (λ k. y.offset + k * p.sector) (range_with_len 0 (y.len / p.sector))
          ∙ range-same (λ k. flat t y.target (y.offset + k * p.sector))
          (λ k. flat t x.target (x.offset + z.piece.at + k * p.sector)) 0 0 (y.len / p.sector) (λ k less.
          let e : 0 + k ≡ k = omega arith in
          let low : k * p.sector < y.len / p.sector * p.sector =
          inside-count p.sector (y.len / p.sector) k some_sector less in
          ap (λ n. flat t y.target (y.offset + n * p.sector)) e
          ∙ same_byte (k * p.sector) (subst (λ n. k * p.sector < n) back low)
          ∙ sym (ap (λ n. flat t x.target (x.offset + z.piece.at + n * p.sector)) e))
          ∙ sym (map-map (flat t x.target) (λ k. x.offset + z.piece.at + k * p.sector)
          (range_with_len 0 (y.len / p.sector)))

    -- the sectors of some leaves
    abbrev sectors : List Leaf → List DiskSector
    sectors ls = flat_map (λ (leaf : Leaf). sectors_of_request leaf.request) ls

    -- and their bytes
    abbrev bytes : List Leaf → List ℕ
    bytes ls = flat_map (λ (leaf : Leaf). leaf.request.bytes) ls

    -- what the leaves of some children cover together, from a place of the bio to another
    record JoinedFrom (a b : ℕ) (ys : List Bio) : Type 0 where
      order : a ≤ b
      sectors_are : map (λ s. Some s) (sectors (flat_map found ys))
          ≡ map (flat t x.target) (sector_offsets p.sector (x.offset + a) (b - a))
      bytes_are : IsTrue (is_write x.cmd) → bytes (flat_map found ys) ≡ take (b - a) (drop a x.bytes)

    -- one child more
    one_more : (a b : ℕ) (y : Bio) (ys : List Bio) (z : PieceTarget) → IsPieceOf x y z → IsGood z → IsCoveredChild y
        → z.piece.at ≡ a → JoinedFrom (a + z.piece.span.len) b ys → JoinedFrom a b (y ∷ ys)
    one_more a b y ys z is good covered begins rest =
        let q = found-with (provider_at t y.target) (λ q. CoversBy w y q (found y)) covered.1 in
        let its : CoversRange w y q.item (found y) = q.fact.range
        (ap (λ c. not (is_flush c)) is.cmd ∙ ap not moves) in
        let len : ℕ = y.len in
        let more : ℕ = b - (a + z.piece.span.len) in
        let order = rest.order in
        let all : z.piece.span.len + (b - (a + z.piece.span.len)) ≡ b - a = omega (arith, order) in
        let whole_len = whole y z is good covered.0 q.item q.is in
        let first : map (λ s. Some s) (sectors (found y))
        ≡ map (flat t x.target) (sector_offsets p.sector (x.offset + a) z.piece.span.len) =
        its.sectors ∙ same_sectors y z is good covered.0 q.item q.is
        ∙ ap (λ n. map (flat t x.target) (sector_offsets p.sector (x.offset + n) y.len)) begins
        ∙ ap (λ n. map (flat t x.target) (sector_offsets p.sector (x.offset + a) n)) is.len in
        let further : x.offset + (a + z.piece.span.len) ≡ x.offset + a + z.piece.span.len = omega arith in
        record {
          order = omega (arith, order);
          sectors_are =
              ap (map (λ s. Some s))
              (flat_map-append (λ (leaf : Leaf). sectors_of_request leaf.request) (found y) (flat_map found ys))
              ∙ map-append (λ s. Some s) (sectors (found y)) (sectors (flat_map found ys))
              ∙ ap (λ l. l ++ map (λ s. Some s) (sectors (flat_map found ys))) first
              ∙ ap (λ l. map (flat t x.target) (sector_offsets p.sector (x.offset + a) z.piece.span.len) ++ l)
              (rest.sectors_are
              ∙ ap (λ o. map (flat t x.target) (sector_offsets p.sector o (b - (a + z.piece.span.len)))) further)
              ∙ sym (map-append (flat t x.target) (sector_offsets p.sector (x.offset + a) z.piece.span.len)
              (sector_offsets p.sector (x.offset + a + z.piece.span.len) (b - (a + z.piece.span.len))))
              ∙ ap (map (flat t x.target))
              (sym (offsets-split p.sector (x.offset + a) z.piece.span.len (b - (a + z.piece.span.len)) some_sector
              (subst (λ n. n % p.sector ≡ 0) is.len whole_len))
              ∙ ap (sector_offsets p.sector (x.offset + a)) all);
          bytes_are = λ write.
              flat_map-append (λ (leaf : Leaf). leaf.request.bytes) (found y) (flat_map found ys)
              ∙ ap (λ l. l ++ bytes (flat_map found ys))
              (its.bytes (ap is_write is.cmd ∙ write) ∙ is.bytes
              ∙ ap (λ n. take z.piece.span.len (drop n x.bytes)) begins)
              ∙ ap (λ l. take z.piece.span.len (drop a x.bytes) ++ l)
              (rest.bytes_are write
              ∙ ap (take (b - (a + z.piece.span.len))) (sym (drop-drop z.piece.span.len a x.bytes)))
              ∙ sym (part-split z.piece.span.len (b - (a + z.piece.span.len)) (drop a x.bytes))
              ∙ ap (λ n. take n (drop a x.bytes)) all;
        }

    -- so all of them
    joined_from : (a b : ℕ) (ys : List Bio) (zs : List PieceTarget) → AllZip (IsPieceOf x) ys zs
        → Follow a b (map (λ (z : PieceTarget). z.piece) zs) → AllByRecursion IsGood zs
        → AllByRecursion IsCoveredChild ys → JoinedFrom a b ys
    joined_from a b [] [] zipped follows good covered =
        let none : b - a ≡ 0 = omega (arith, follows) in
        record {
          order = omega (arith, follows);
          sectors_are = sym (ap (map (flat t x.target)) (offsets-none p.sector (x.offset + a) (b - a) none));
          bytes_are = λ write. sym (ap (λ n. take n (drop a x.bytes)) none);
        }
    joined_from a b [] (z ∷ zs) zipped follows good covered = absurd zipped
    joined_from a b (y ∷ ys) [] zipped follows good covered = absurd zipped
    joined_from a b (y ∷ ys) (z ∷ zs) zipped follows good covered =
        one_more a b y ys z zipped.0 good.0 covered.0 follows.0
        (joined_from (a + z.piece.span.len) b ys zs zipped.1 follows.2 good.1 covered.1)

    -- so they cover the bio's range
    range_covered : AllByRecursion IsCoveredChild cs → CoversRange w x p (flat_map found cs)
    range_covered covered =
        let joined = joined_from 0 x.len cs (piece_targets g.config p x) each_piece
        (subst (Follow 0 x.len) (sym (no_piece_lost w firm x here p at_target g of no_disk moves))
        (follow w firm x here p at_target g of no_disk moves))
        all_good covered in
        let start : x.offset + 0 ≡ x.offset = omega arith in
        let size : x.len - 0 ≡ x.len = omega arith in
        record {
          sectors = joined.sectors_are
              ∙ ap (λ o. map (flat t x.target) (sector_offsets p.sector o (x.len - 0))) start
              ∙ ap (λ n. map (flat t x.target) (sector_offsets p.sector x.offset n)) size
              ∙ ap (λ n. map (flat t n) (sector_offsets p.sector x.offset x.len)) (sym number);
          commands = joined_commands cs (each_command cs (piece_targets g.config p x) each_piece covered);
          bytes = λ write.
              let order : IsBioInOrder (granted_in w) t x =
              All-contains (IsBioInOrder (granted_in w) t) w.bios x firm.bios.order here in
              let long : length x.bytes ≡ x.len = order.bytes write in
              joined.bytes_are write
              ∙ ap (λ n. take n (drop 0 x.bytes)) size
              ∙ take_all x.len x.bytes (omega (arith, long));
        }

  -- or its FLUSH
  flush_covered : is_flush x.cmd ≡ true → AllByRecursion IsCoveredChild cs → CoversEnds w x p (flat_map found cs)
  flush_covered flush covered =
      let targets : piece_targets g.config p x
      ≡ map (λ c. record { consumer = c; piece = empty_piece }) (components g.config) = rw flush refl in
      record {
        disks = flushed cs (components g.config) flush (subst (AllZip (IsPieceOf x) cs) targets each_piece) covered
            ∙ sym (ends_step-down (ends t) t g.config no_disk)
            ∙ sym (ends-down t firm.graph.ranks.ranked (IsOpen w)
            (open-down w firm) x.target opened p g at_target of)
            ∙ ap (ends t) (sym number);
        commands = joined_commands cs (each_command cs (piece_targets g.config p x) each_piece covered);
      }

  -- what is told of the children
  children_covered : All (IsCovered w found) cs → AllByRecursion IsCoveredChild cs
  children_covered all =
      All-from_contained IsCoveredChild cs (λ y among. (
        (filter-Contains (λ (z : Bio). is_child_of z.owner x.number) w.bios y among).0,
        All-contains (IsCovered w found) cs y all among,
      ))

  -- so they cover it
  pub covered-by : All (IsCovered w found) cs → CoversBy w x p (flat_map found cs)
  covered-by all = record {
    range = λ moves. range_covered (not-true (is_flush x.cmd) moves) (children_covered all);
    flush = λ flush. flush_covered flush (children_covered all);
  }

-- so for each Waiting bio
pub joined_covers : JoinedCovers
joined_covers w x found firm here waiting all =
    let down = open-down w firm x.target (live-open w firm x here) in
    some-with (provider_at w.topology x.target) (λ p. CoversBy w x p (flat_map found (children_of w x.number)))
    down.provider down.found
    (covered-by w firm x here waiting found down.provider down.found down.geom down.of all)
