-- The results of children, joined, are a result that their parent can have; and where the sources of the roots have the
-- counts, those of all bios have them.
use Rattle.std.specs.Prelude.{◌≡◌, ℕ, ◌+◌, Bool, true, false, List, [], ◌∷◌, length, map, flat_map, sum, Option, Some, None, Contains, IsSomeAnd, unwrap_or, if◌then◌else◌, zero, suc, ◌<◌, ◌==◌, IsTrue}
use Rattle.std.specs.List.{AllByRecursion, enumerate_from}
use Rattle.std.proofs.Common.{inl, inr, refl, sym, ◌∙◌, ap, subst, arith, length-append}
use Rattle.std.proofs.lemmas.Simd.{map-map}
use Rattle.std.proofs.lemmas.List.Sums.{sum_by-cons}
use Rattle.std.proofs.lemmas.Bool.{cases_Bool, eq-eqb}
use Rattle.std.proofs.lemmas.List.Elements.{All-contains}
use Rattle.geo_model.proofs.BioLemmas.{read_moves}
use Rattle.geo_model.specs.Errno.{Errno}
use Rattle.geo_model.specs.declared.step.BioResult.{BioResult}
use Rattle.geo_model.specs.declared.step.BioResult.TheVariants as results
use Rattle.geo_model.specs.Words.{is_read, is_flush}
use Rattle.geo_model.specs.Topology.{Geom, Provider, geom_at, provider_at, Topology, Consumer, consumer_at}
use Rattle.geo_model.specs.World.{World, Bio, Config, bio_at, children_of, is_root, is_waiting, is_child_of, granted_in}
use Rattle.geo_model.specs.Place.{disk_of}
use Rattle.geo_model.specs.Bios.{PieceTarget, piece_targets, error_of_result, bytes_of_result, first_failure, joined_result}
use Rattle.geo_model.specs.SoundBios.{ChildShape, shape_of_child, shape_of_piece, IsBioInOrder, IsFamilyInOrder, HasCountFor}
use Rattle.geo_model.specs.Steady.{FitsBio, ComesFromItsOwner}
use Rattle.geo_model.specs.Fitting.{Firm}
use Rattle.geo_model.specs.Counts.{Counts}
use Rattle.geo_model.specs.BioCmd.{BioCmd}
use Rattle.geo_model.specs.declared.step.Owner.{Owner}
use Rattle.geo_model.specs.declared.step.Owner.TheVariants as owners
use Rattle.geo_model.specs.Demand.{want}
use Rattle.geo_laws_graph.proofs.Classes.{is_disk}
use Rattle.geo_model.proofs.Options.{some_and_of}
use Rattle.geo_laws_graph.proofs.Members.{nothing_in, find-Contains, Contains-filter, at_contained}
use Rattle.geo_laws_graph.proofs.Numbered.{number_found}
use Rattle.geo_laws_bios.proofs.Items.{both_by_recursion}
use Rattle.geo_laws_bios.proofs.Pieces.{lengths, serves_below}
use Rattle.geo_laws_bios.proofs.Turned.{AreItsPieces, HasPiecesAt, pieces_at}
use Rattle.geo_laws_bios.specs.PieceLaws.{Serves, SourceServes}
use Rattle.geo_laws_bios.specs.ServingLaws.{SourcesServeAll}
use Rattle.geo_laws_bios.proofs.Splitting.{GoesDown, all_go}

-- numbers beside items don't change what is seen of them
numbered : {X Y : Type 0} (f : X → Y) (k : ℕ) (xs : List X)
    → map (λ (item : ℕ × X). f item.1) (enumerate_from k xs) ≡ map f xs
numbered f k [] = refl
numbered f k (x ∷ xs) = ap (λ ys. f x ∷ ys) (numbered f (k + 1) xs)

-- what the results of a child came to
abbrev pub got : Bio → BioResult
got c = unwrap_or c.result results.Done

-- a child that is a READ and has a result that isn't an error, has as many bytes as it asked for
bytes_of_child : (c : Bio) (o : Option BioResult) → IsSomeAnd o (FitsBio c) → is_read c.cmd ≡ true
    → error_of_result (unwrap_or o results.Done) ≡ None → length (bytes_of_result (unwrap_or o results.Done)) ≡ c.len
bytes_of_child c None has read none = absurd has
bytes_of_child c (Some results.Done) has read none = absurd (let bad : ⊥ = cc in bad)
bytes_of_child c (Some (results.Bytes bytes)) has read none = has.1
bytes_of_child c (Some (results.Failed e)) has read none = absurd (let bad : ⊥ = cc in bad)

-- where there is no failure, the first is none and there is none behind it
no_failure_by : (r : BioResult) (rs : List BioResult) (o : Option Errno) → error_of_result r ≡ o
    → first_failure (r ∷ rs) ≡ None
    → (error_of_result r ≡ None) × (first_failure rs ≡ None)
no_failure_by r rs None e none = (e, rw e at none)
no_failure_by r rs (Some failure) e none = let bad : Some failure ≡ None = rw e at none in absurd cc

-- the command of each child, and a result of it
abbrev HasEnded : Bio → Bio → Type 0
HasEnded y c = IsSomeAnd c.result (FitsBio c) × (c.cmd ≡ y.cmd)

-- the bytes joined are as many as the children asked for
joined_bytes : (y : Bio) (cs : List Bio) → is_read y.cmd ≡ true → AllByRecursion (HasEnded y) cs
    → first_failure (map got cs) ≡ None
    → length (flat_map bytes_of_result (map got cs)) ≡ sum (map (λ (c : Bio). c.len) cs)
joined_bytes y [] read ended none = refl
joined_bytes y (c ∷ cs) read ended none =
    let no_failure = no_failure_by (got c) (map got cs) (error_of_result (got c)) refl none in
    let reads : is_read c.cmd ≡ true = ap is_read ended.0.1 ∙ read in
    let first : length (bytes_of_result (got c)) ≡ c.len = bytes_of_child c c.result ended.0.0 reads no_failure.0 in
    let rest : length (flat_map bytes_of_result (map got cs)) ≡ sum (map (λ (v : Bio). v.len) cs) =
    joined_bytes y cs read ended.1 no_failure.1 in
    length-append (bytes_of_result (got c)) (flat_map bytes_of_result (map got cs))
    ∙ (let both : length (bytes_of_result (got c)) + length (flat_map bytes_of_result (map got cs)) ≡ sum
    (map (λ (v : Bio). v.len) (c ∷ cs)) =
    omega (arith, first, rest, sum_by-cons (λ m. m) c.len (map (λ (v : Bio). v.len) cs)) in both)

-- what is seen the same of a list and of a constant
constant : {X Y Z : Type 0} (see : X → Y) (v : Y) (xs : List X) (zs : List Z) → map see xs ≡ map (λ (z : Z). v) zs
    → AllByRecursion (λ (x : X). see x ≡ v) xs
constant see v [] zs same = tt
constant see v (x ∷ xs) [] same = absurd cc
constant see v (x ∷ xs) (z ∷ zs) same =
    let head : see x ≡ v = cc in
    let tail : map see xs ≡ map (λ z. v) zs = cc in
    (head, constant see v xs zs tail)

module _ (y : Bio) (cs : List Bio) (targets : List PieceTarget)
    (shapes : map shape_of_child cs ≡ map (λ item. shape_of_piece y item.0 item.1) (enumerate_from 0 targets)) where
  -- each child has the command
  commands : AllByRecursion (λ (c : Bio). c.cmd ≡ y.cmd) cs
  commands =
      constant (λ (c : Bio). c.cmd) y.cmd cs (enumerate_from 0 targets)
      (sym (map-map (λ (s : ChildShape). s.cmd) shape_of_child cs)
      ∙ ap (λ ss. map (λ (s : ChildShape). s.cmd) ss) shapes
      ∙ map-map (λ (s : ChildShape). s.cmd) (λ (item : ℕ × PieceTarget). shape_of_piece y item.0 item.1)
      (enumerate_from 0 targets))

  -- together they are as long as the pieces
  same_lengths : map (λ (c : Bio). c.len) cs ≡ map (λ (z : PieceTarget). z.piece.span.len) targets
  same_lengths =
      sym (map-map (λ (s : ChildShape). s.len) shape_of_child cs)
      ∙ ap (λ ss. map (λ (s : ChildShape). s.len) ss) shapes
      ∙ map-map (λ (s : ChildShape). s.len) (λ (item : ℕ × PieceTarget). shape_of_piece y item.0 item.1)
      (enumerate_from 0 targets)
      ∙ numbered (λ (z : PieceTarget). z.piece.span.len) 0 targets

  -- by whether it is a READ
  fits_by_read : AllByRecursion (λ (c : Bio). IsSomeAnd c.result (FitsBio c)) cs → first_failure (map got cs) ≡ None
      → (is_read y.cmd ≡ true → sum (map (λ (z : PieceTarget). z.piece.span.len) targets) ≡ y.len)
      → (b : Bool) → is_read y.cmd ≡ b
      → FitsBio y (if is_read y.cmd then results.Bytes (flat_map bytes_of_result (map got cs)) else results.Done)
  fits_by_read ended none total true e =
      let ends = both_by_recursion (λ (c : Bio). IsSomeAnd c.result (FitsBio c))
      (λ (c : Bio). c.cmd ≡ y.cmd) cs ended commands in
      let bytes : length (flat_map bytes_of_result (map got cs)) ≡ y.len =
      joined_bytes y cs e ends none ∙ ap sum same_lengths ∙ total e in
      subst (λ (b : Bool). FitsBio y
      (if b then results.Bytes (flat_map bytes_of_result (map got cs)) else results.Done)) (sym e) (e, bytes)
  fits_by_read ended none total false e =
      subst (λ (b : Bool). FitsBio y
      (if b then results.Bytes (flat_map bytes_of_result (map got cs)) else results.Done)) (sym e) e

  -- by the first failure
  fits_by_failure : AllByRecursion (λ (c : Bio). IsSomeAnd c.result (FitsBio c)) cs
      → (is_read y.cmd ≡ true → sum (map (λ (z : PieceTarget). z.piece.span.len) targets) ≡ y.len)
      → (o : Option Errno) → first_failure (map got cs) ≡ o → FitsBio y (joined_result y.cmd (map got cs))
  fits_by_failure ended total (Some failure) e = rw e tt
  fits_by_failure ended total None e = rw e (fits_by_read ended e total (is_read y.cmd) refl)

  -- so the joined result fits
  joined_fits : AllByRecursion (λ (c : Bio). IsSomeAnd c.result (FitsBio c)) cs
      → (is_read y.cmd ≡ true → sum (map (λ (z : PieceTarget). z.piece.span.len) targets) ≡ y.len)
      → FitsBio y (joined_result y.cmd (map got cs))
  joined_fits ended total = fits_by_failure ended total (first_failure (map got cs)) refl

-- nothing goes down at the geom of a disk
pub no_pieces : (config : Config) (p : Provider) (y : Bio) (disk : ℕ) → disk_of config ≡ Some disk
    → piece_targets config p y ≡ []
no_pieces config p y disk is =
    rw (is_disk config disk is)
    (elim (cases_Bool (is_flush y.cmd)) [ inl e ↦ rw e refl | inr e ↦ rw e refl ])

-- a list that has an item isn't mapped to nothing
pub not_nothing : {X Y : Type 0} (f : X → Y) (xs : List X) (x : X) → Contains xs x → map f xs ≡ [] → ⊥
not_nothing f [] x here none = nothing_in x here
not_nothing f (y ∷ xs) x here none = cc

-- a bio with a child isn't at the geom of a disk
not_at_disk : (w : World) (y : Bio) (cs : List Bio) (child : Bio) → Contains cs child
    → (there : HasPiecesAt w y (map shape_of_child cs)) (o : Option ℕ) → disk_of there.geom.config ≡ o → o ≡ None
not_at_disk w y cs child has there None e = refl
not_at_disk w y cs child has there (Some disk) e =
    absurd (not_nothing shape_of_child cs child has
    (there.are ∙ ap
    (λ (zs : List PieceTarget). map (λ (item : ℕ × PieceTarget). shape_of_piece y item.0 item.1)
    (enumerate_from 0 zs)) (no_pieces there.geom.config there.provider y disk e)))

-- the joined result of children that are the pieces fits
pub result_fits : (w : World) → Firm w → (y : Bio) → Contains w.bios y → (cs : List Bio) (child : Bio)
    → Contains cs child → AllByRecursion (λ (c : Bio). IsSomeAnd c.result (FitsBio c)) cs
    → AreItsPieces w y (map shape_of_child cs) → FitsBio y (joined_result y.cmd (map got cs))
result_fits w firm y here cs child has ended shapes =
    let there = pieces_at w y (map shape_of_child cs) shapes in
    joined_fits y cs (piece_targets there.geom.config there.provider y) there.are ended (λ read.
    lengths w firm y here there.provider there.to_it there.geom there.of_it
    (not_at_disk w y cs child has there (disk_of there.geom.config) refl) (read_moves y.cmd read))

-- Where the sources of the roots have the counts by some grants, the sources of all bios have them.

-- what a child is a piece of
record IsPieceOf (w : World) (y c : Bio) : Type 0 where
  target : PieceTarget
  goes : GoesDown w y target
  source : c.source ≡ target.consumer
  cmd : c.cmd ≡ y.cmd

-- the children are pieces that go down
from_pieces : (w : World) (y : Bio) (cs : List Bio) (k : ℕ) (zs : List PieceTarget)
    → map shape_of_child cs ≡ map (λ item. shape_of_piece y item.0 item.1) (enumerate_from k zs)
    → AllByRecursion (GoesDown w y) zs → AllByRecursion (IsPieceOf w y) cs
from_pieces w y [] k zs shapes go = tt
from_pieces w y (c ∷ cs) k [] shapes go = absurd (let bad : ⊥ = cc in bad)
from_pieces w y (c ∷ cs) k (z ∷ zs) shapes go =
    let head : shape_of_child c ≡ shape_of_piece y k z = cc in
    let tail : map shape_of_child cs ≡ map (λ (item : ℕ × PieceTarget). shape_of_piece y item.0 item.1)
    (enumerate_from (k + 1) zs) = cc in (
      record {
        target = z;
        goes = go.0;
        source = ap (λ (s : ChildShape). s.source) head;
        cmd = ap (λ (s : ChildShape). s.cmd) head;
      },
      from_pieces w y cs (k + 1) zs tail go.1,
    )

module _ (w : World) (firm : Firm w) (granted : ℕ → Counts) where
  -- the graph
  abbrev t : Topology Config
  t = w.topology

  module _ (y z : Bio) (y_here : Contains w.bios y) (z_here : Contains w.bios z)
      (child : Contains (children_of w y.number) z)
      (served : SourceServes granted t y) where
    -- the child, by its own source
    by_source : (c : Consumer) → consumer_at t z.source ≡ Some c → Serves granted t z c → SourceServes granted t z
    by_source c found serves =
        let order : IsBioInOrder (granted_in w) w.topology z =
        All-contains (IsBioInOrder (granted_in w) w.topology) w.bios z firm.bios.order z_here in
        let source : (c.provider ≡ Some z.target) × HasCountFor (granted_in w) w.topology z c =
        rw found at order.source in
        rw found (source.0, serves)

    -- the child, by what it is a piece of
    by_piece : (p : Provider) (g : Geom Config) → provider_at t y.target ≡ Some p → geom_at t p.geom ≡ Some g
        → disk_of g.config ≡ None → IsPieceOf w y z → SourceServes granted t z
    by_piece p g to_it of_it no_disk piece =
        let s = some_and_of (λ (s : Consumer). (s.provider ≡ Some y.target) × Serves granted t y s)
        (consumer_at t y.source) served in
        let c : Consumer = piece.goes.consumer in
        let found : consumer_at t z.source ≡ Some c =
        subst (λ (n : ℕ). consumer_at t n ≡ Some c) (sym piece.source) piece.goes.found in
        let number : g.number ≡ p.geom = number_found (λ (v : Geom Config). v.number) t.geoms p.geom g of_it in
        let of_geom : c.geom ≡ g.number = piece.goes.of_geom p to_it ∙ sym number in
        let serves : Serves granted t y c =
        serves_below w firm y y_here p to_it g of_it no_disk granted s.0 c
        (find-Contains (λ (v : Consumer). v.number == y.source) t.consumers s.0 s.1) s.2.0 of_geom s.2.1 in
        by_source c found
        (subst (λ (cmd : BioCmd). (IsTrue (is_read cmd) → 0 < (want granted t c).r)
        × (is_read cmd ≡ false → 0 < (want granted t c).w)) (sym piece.cmd) serves)

    -- so a child of a bio whose source has the counts has them
    child_serves : is_waiting y.phase ≡ true → SourceServes granted t z
    child_serves waits =
        let family : IsFamilyInOrder w.topology w.bios y =
        All-contains (IsFamilyInOrder w.topology w.bios) w.bios y firm.bios.families y_here in
        let there = pieces_at w y (map shape_of_child (children_of w y.number)) (family.pieces waits) in
        let no_disk = not_at_disk w y (children_of w y.number) z child there (disk_of there.geom.config) refl in
        by_piece there.provider there.geom there.to_it there.of_it no_disk
        (at_contained (IsPieceOf w y) (children_of w y.number) z
        (from_pieces w y (children_of w y.number) 0 (piece_targets there.geom.config there.provider y) there.are
        (all_go w firm y y_here there.provider there.to_it there.geom there.of_it no_disk)) child)

  module _ (keep : Bio → Bool)
      (roots : (z : Bio) → Contains w.bios z → is_root z.owner ≡ true → keep z ≡ true → SourceServes granted t z)
      (waiting : (z : Bio) → Contains w.bios z → is_waiting z.phase ≡ true → keep z ≡ true) where
    -- a child of a parent that has them
    by_parent : (z : Bio) → Contains w.bios z → (parent index : ℕ) → z.owner ≡ owners.Child parent index
        → ((y : Bio) → Contains w.bios y → y.number < z.number → keep y ≡ true → SourceServes granted t y)
        → IsSomeAnd (bio_at w parent) (λ y. IsTrue (is_waiting y.phase)) → SourceServes granted t z
    by_parent z here parent index owner so has =
        let y = some_and_of (λ (y : Bio). IsTrue (is_waiting y.phase)) (bio_at w parent) has in
        let y_here : Contains w.bios y.0 = find-Contains (λ (v : Bio). v.number == parent) w.bios y.0 y.1 in
        let number : y.0.number ≡ parent = number_found (λ (v : Bio). v.number) w.bios parent y.0 y.1 in
        let comes : ComesFromItsOwner w.handles w.taste z z.owner =
        All-contains (λ (v : Bio). ComesFromItsOwner w.handles w.taste v v.owner) w.bios z firm.bios.owners here in
        let above : parent < z.number = rw owner at comes in
        let is_child : is_child_of z.owner y.0.number ≡ true = rw owner (eq-eqb parent y.0.number (sym number)) in
        child_serves y.0 z y_here here
        (Contains-filter (λ (v : Bio). is_child_of v.owner y.0.number) w.bios z here is_child)
        (so y.0 y_here (omega arith) (waiting y.0 y_here y.2)) y.2

    -- by the owner
    by_owner : (z : Bio) → Contains w.bios z → keep z ≡ true
        → ((y : Bio) → Contains w.bios y → y.number < z.number → keep y ≡ true → SourceServes granted t y)
        → (o : Owner) → z.owner ≡ o → SourceServes granted t z
    by_owner z here kept so (owners.Child parent index) e =
        let family : IsFamilyInOrder w.topology w.bios z =
        All-contains (IsFamilyInOrder w.topology w.bios) w.bios z firm.bios.families here in
        by_parent z here parent index e so (rw e at family.parent)
    by_owner z here kept so _ e = roots z here (rw e refl) kept

    -- for all numbers below one
    by_number : (n : ℕ) (z : Bio) → Contains w.bios z → z.number < n → keep z ≡ true → SourceServes granted t z
    by_number zero z here below kept = absurd (omega arith)
    by_number (suc n) z here below kept =
        by_owner z here kept (λ y y_here low y_kept. by_number n y y_here (omega arith) y_kept) z.owner refl

    -- for all
    pub all_serve : (z : Bio) → Contains w.bios z → keep z ≡ true → SourceServes granted t z
    all_serve z here kept = by_number (z.number + 1) z here (omega arith) kept

-- where the sources of the roots serve, the sources of all serve
pub sources_serve_all : SourcesServeAll
sources_serve_all w granted keep firm roots waiting z here kept =
    all_serve w firm granted keep roots waiting z here kept
