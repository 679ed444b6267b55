-- One bio changes its phase and its result, and a Take, a Deliver or a Start that turns it keeps a mesh firm.
use Rattle.std.specs.Prelude.{◌≡◌, ℕ, List, Option, IsSomeAnd, IsTrue, ◌==◌, Bool, true, false, Some, None, length, ◌≢◌, ◌↔◌, ◌<◌, ◌&&◌, ◌||◌, map, All, AllPairs, IsSome, if◌then◌else◌, ◌+◌}
use Rattle.std.proofs.Common.{sym, refl, ◌∙◌, ap, subst, arith, get_or}
use Rattle.std.proofs.lemmas.Bool.{eqb-true, and_parts, not-true, eq-eqb, eqb-false}
use Rattle.std.specs.List.{list_any, enumerate_from}
use Rattle.std.specs.Option.{option_map_or}
use Rattle.std.proofs.lemmas.List.{get_or-map, length-map}
use Rattle.std.proofs.lemmas.List.Elements.{All-from_recursion}
use Rattle.std.proofs.lemmas.List.Kept.{AllPairs-from_increasing}
use Rattle.geo_model.specs.declared.step.Owner.{Owner}
use Rattle.geo_model.specs.declared.step.Owner.TheVariants as owners
use Rattle.geo_model.specs.World.{Bio, Handle, Taste, bio_among, is_waiting, World, is_sent, is_busy, Config, bio_at, children_of, is_root, is_done, is_up, is_child_of, is_taste_root, is_read_out, granted_in, Disk, Nop, is_down}
use Rattle.geo_model.specs.SoundBios.{HasItsParent, IsRangeInside, IsBioInOrder, IsFamilyInOrder, HasItsPieces, ChildShape, shape_of_child, shape_of_piece, NotBothBusy}
use Rattle.geo_model.specs.Steady.{ComesFromItsOwner, FitsBio, HasItsResult}
use Rattle.geo_model.proofs.Options.{none-mapped, some_and_of, some_weaker}
use Rattle.geo_model.specs.declared.step.DeviceResult.{DeviceResult}
use Rattle.geo_model.specs.declared.step.DeviceResult.TheVariants as devices
use Rattle.geo_model.specs.declared.step.Found.TheVariants as found
use Rattle.geo_model.specs.declared.step.Phase.{Phase}
use Rattle.geo_model.specs.declared.step.Phase.TheVariants as phases
use Rattle.geo_model.specs.Words.{is_read, change_where, is_flush}
use Rattle.geo_model.specs.Bios.{disk_of_bio, busy_bio, is_fitting, fits_bio, result_of_device, piece_targets, is_complete, Bounces, Fails, Sends, Passes, way_at, way_of, is_hit, sector_of_bio, take_bio, deliver}
use Rattle.geo_model.specs.Step.{take_found, disk_found, deliver_found, take_of, deliver_of, unless_found}
use Rattle.geo_model.proofs.FindLists.{none_passes}
use Rattle.geo_model.specs.declared.step.BioResult.{BioResult}
use Rattle.geo_model.specs.declared.step.BioResult.TheVariants as results
use Rattle.geo_model.specs.Topology.{Geom, Provider, geom_at, provider_at, is_errored, note_started}
use Rattle.geo_model.specs.Fitting.{Firm, BiosOf}
use Rattle.geo_model.specs.Errno.TheVariants.{ENXIO, EIO}
use Rattle.geo_model.specs.declared.step.Found.{Found}
use Rattle.geo_model.specs.Place.{disk_of}
use Rattle.geo_model.specs.Log.{world_after}
use Rattle.geo_laws_graph.proofs.Lists.{filter-changed, map-changed, any-changed, numbers-changed}
use Rattle.geo_laws_graph.proofs.Numbered.{at-unchanged, number_found}
use Rattle.geo_laws_bios.specs.BioFrames.{BiosAreApart, CommandsAreApart}
use Rattle.geo_laws_bios.specs.BioSteps.{turned, turn, TakesStayFirm, DeliversStayFirm, BouncesStayFirm, FailsStayFirm, SendsStayFirm}
use Rattle.geo_laws_bios.proofs.Items.{pairs_map, count-changed, all-fewer, all_changed, only_one}
use Rattle.geo_laws_bios.proofs.Restarted.{noted_stays_firm}

-- a firm mesh with other bios is firm where these are in order
pub bios_are_apart : BiosAreApart
bios_are_apart w bios next firm hold = record {
  graph = firm.graph;
  demand = firm.demand;
  sizes = firm.sizes;
  handles = firm.handles;
  taste = firm.taste;
  bios = hold;
  commands = firm.commands;
}

-- with other commands left a mesh stays firm
pub commands_are_apart : CommandsAreApart
commands_are_apart w actors are firm = record {
  graph = firm.graph;
  demand = firm.demand;
  sizes = firm.sizes;
  handles = firm.handles;
  taste = firm.taste;
  bios = firm.bios;
  commands = are;
}

-- Where the owner of a bio stays as it was.

-- where what is Waiting stays so, a parent stays
pub parent_stays : (xs ys : List Bio)
    → ((n : ℕ) → IsSomeAnd (bio_among xs n) (λ y. IsTrue (is_waiting y.phase))
    → IsSomeAnd (bio_among ys n) (λ y. IsTrue (is_waiting y.phase)))
    → (o : Owner) → HasItsParent xs o → HasItsParent ys o
parent_stays xs ys so (owners.Child parent index) has = so parent has
parent_stays xs ys so _ has = has

-- an owner stays after a change of the bio's phase
pub owner_stays : (hs : List Handle) (taste : Option Taste) (x y : Bio) → x.number ≡ y.number → x.source ≡ y.source
    → x.target ≡ y.target → (o : Owner) → ComesFromItsOwner hs taste x o → ComesFromItsOwner hs taste y o
owner_stays hs taste x y number source target (owners.Line handle line) comes = rw (sym source) comes
owner_stays hs taste x y number source target owners.Taste comes = rw (sym source, sym target) comes
owner_stays hs taste x y number source target (owners.Child parent index) comes = rw (sym number) comes

-- Facts of phases, of what isn't against a step, and of the disk of a bio.

-- a bio in a phase that passes a test which Waiting doesn't, isn't Waiting
pub not_waiting : (test : Phase → Bool) → test phases.Waiting ≡ false → (p : Phase) → test p ≡ true
    → is_waiting p ≡ false
not_waiting test out phases.Waiting e = absurd cc
not_waiting test out _ e = refl

-- a bio that can be taken: it is Sent to this disk, which isn't Busy
pub record CanTake (w : World) (disk : ℕ) (x : Bio) : Type 0 where
  pub sent : is_sent x.phase ≡ true
  pub disk_is : disk_of_bio w x ≡ Some disk
  pub free : busy_bio w disk ≡ None

module _ (w : World) (disk : ℕ) (x : Bio) where
  -- by whether it is this disk
  same_disk : (d : ℕ) (b : Bool) → (d == disk) ≡ b → is_sent x.phase ≡ true → disk_of_bio w x ≡ Some d
      → disk_found w disk x (Some d) ≡ None → CanTake w disk x
  same_disk d true e sent is none =
      let same : d ≡ disk = eqb-true d disk e in
      let free : busy_bio w disk ≡ None =
      none-mapped (λ (y : Bio). found.DiskBusy y.number) (busy_bio w disk) (rw e at none) in
      let disk_is : disk_of_bio w x ≡ Some disk = cc in
      record { sent = sent; disk_is = disk_is; free = free }
  same_disk d false e sent is none = let bad : Some (found.OtherDisk d) ≡ None = rw e at none in absurd cc

  -- by the disk to which it goes
  has_disk : (o : Option ℕ) → disk_of_bio w x ≡ o → is_sent x.phase ≡ true → disk_found w disk x o ≡ None
      → CanTake w disk x
  has_disk None is sent none = absurd cc
  has_disk (Some d) is sent none = same_disk d (d == disk) refl sent is none

  -- by its phase
  can_take_by : (b : Bool) → is_sent x.phase ≡ b → take_found w disk x ≡ None → CanTake w disk x
  can_take_by true e none = has_disk (disk_of_bio w x) refl e (rw e at none)
  can_take_by false e none = let bad : Some (found.InPhase x.phase) ≡ None = rw e at none in absurd cc

  -- where nothing is against a Take, the bio can be taken
  pub can_take : take_found w disk x ≡ None → CanTake w disk x
  can_take none = can_take_by (is_sent x.phase) refl none

module _ (w : World) (seat : ℕ) (x : Bio) (got : DeviceResult) where
  -- a bio that is Busy and whose answer fits
  abbrev pub CanDeliver : Phase → Type 0
  CanDeliver p = (is_busy p ≡ true) × (is_fitting w x got ≡ true)

  -- by whether the answer fits
  fit_by : (holder : ℕ) (a b : Bool) → (holder == seat) ≡ a → is_fitting w x got ≡ b
      → deliver_found w seat x got (phases.Busy holder) ≡ None
      → is_fitting w x got ≡ true
  fit_by holder true true e f none = f
  fit_by holder true false e f none = let bad : Some found.Unfit ≡ None = rw (e, f) at none in absurd cc
  fit_by holder false b e f none = let bad : Some (found.OtherSeat holder) ≡ None = rw e at none in absurd cc

  -- where nothing is against a Deliver, the bio is Busy and the answer fits
  pub can_deliver : (p : Phase) → deliver_found w seat x got p ≡ None → CanDeliver p
  can_deliver (phases.Busy holder) none = (refl, fit_by holder (holder == seat) (is_fitting w x got) refl refl none)
  can_deliver _ none = absurd cc

-- an answer that fits is a result that the bio can have
pub fitting_result : (sector : ℕ) (x : Bio) (got : DeviceResult) → fits_bio sector x got ≡ true
    → FitsBio x (result_of_device got)
fitting_result sector x (devices.Bytes bytes) fits =
    let parts = and_parts (is_read x.cmd) (length bytes == x.len) fits in
    (parts.0, eqb-true (length bytes) x.len parts.1)
fitting_result sector x devices.Done fits = not-true (is_read x.cmd) fits
fitting_result sector x (devices.Failed done) fits = tt

-- One bio changes its phase and its result: the bios stay in order, where it may.

-- when a bio may be in another phase, with its result changed
pub record MayTurn (w : World) (x : Bio) (phase : Phase) (result : Option BioResult → Option BioResult) : Type 0 where
  pub found : bio_at w x.number ≡ Some x
  pub waited : is_waiting x.phase ≡ false
  pub waits : is_waiting phase ≡ false
  pub root : IsTrue (is_root x.owner) → is_done phase ≡ false
  pub incomplete : (n : ℕ) → is_complete w n ≡ false → is_complete (turn w x phase result) n ≡ false
  pub at_disk : IsTrue (is_sent phase || is_busy phase) → IsSome (disk_of_bio w x)
  pub alone : IsTrue (is_busy phase) → (d : ℕ) → disk_of_bio w x ≡ Some d → busy_bio w d ≡ None
  pub gives : IsTrue (is_up phase || is_done phase) → IsSomeAnd (result x.result) (FitsBio x)

-- some shapes are those of the pieces of a bio
abbrev pub AreItsPieces : World → Bio → List ChildShape → Type 0
AreItsPieces w x shapes =
    IsSomeAnd (provider_at w.topology x.target) (λ p. IsSomeAnd (geom_at w.topology p.geom) (λ g.
    shapes ≡ map (λ item. shape_of_piece x item.0 item.1) (enumerate_from 0 (piece_targets g.config p x))))

-- the provider and the geom at which some shapes are those of the pieces of a bio
pub record HasPiecesAt (w : World) (x : Bio) (shapes : List ChildShape) : Type 0 where
  pub provider : Provider
  pub to_it : provider_at w.topology x.target ≡ Some provider
  pub geom : Geom Config
  pub of_it : geom_at w.topology provider.geom ≡ Some geom
  pub are : shapes ≡ map (λ item. shape_of_piece x item.0 item.1)
      (enumerate_from 0 (piece_targets geom.config provider x))

-- they are there
pub pieces_at : (w : World) (x : Bio) (shapes : List ChildShape) → AreItsPieces w x shapes → HasPiecesAt w x shapes
pieces_at w x shapes are =
    let p = some_and_of
    (λ (p : Provider). IsSomeAnd (geom_at w.topology p.geom) (λ g.
    shapes ≡ map (λ item. shape_of_piece x item.0 item.1) (enumerate_from 0 (piece_targets g.config p x))))
    (provider_at w.topology x.target) are in
    let g = some_and_of
    (λ (g : Geom Config). shapes
    ≡ map (λ item. shape_of_piece x item.0 item.1) (enumerate_from 0 (piece_targets g.config p.0 x)))
    (geom_at w.topology p.0.geom) p.2 in
    record { provider = p.0; to_it = p.1; geom = g.0; of_it = g.1; are = g.2 }

-- a bio that is at a disk or goes there has one
abbrev pub HasItsDisk : World → Bio → Type 0
HasItsDisk w y = IsTrue (is_sent y.phase || is_busy y.phase) → IsSome (disk_of_bio w y)

-- a bio comes from its owner
abbrev pub HasItsOwner : World → Bio → Type 0
HasItsOwner w y = ComesFromItsOwner w.handles w.taste y y.owner

-- a bio isn't Busy at the disk of another one, where that is to be Busy
abbrev IsElsewhere : World → Bio → Phase → Bio → Type 0
IsElsewhere w x phase y =
    IsTrue (is_busy phase) → (d : ℕ) → disk_of_bio w x ≡ Some d
    → (is_busy y.phase && option_map_or (λ e. e == d) (disk_of_bio w y) false) ≡ false

-- the result of a bio fits it in another phase
pub fits_turned : (x : Bio) (phase : Phase) (result : Option BioResult → Option BioResult) (o : Option BioResult)
    → IsSomeAnd o (FitsBio x) → IsSomeAnd o (FitsBio (turned phase result x))
fits_turned x phase result (Some (results.Bytes bytes)) has = has
fits_turned x phase result _ has = has

-- so does its range
range_turned : (x : Bio) (phase : Phase) (result : Option BioResult → Option BioResult) (p : Provider)
    → (is_flush x.cmd ≡ false → IsRangeInside x p) → is_flush x.cmd ≡ false → IsRangeInside (turned phase result x) p
range_turned x phase result p inside moves =
    let range = inside moves in
    record {
      some_byte = range.some_byte;
      not_long = range.not_long;
      offset_whole = range.offset_whole;
      len_whole = range.len_whole;
      inside = range.inside;
    }

-- it is still in order
pub order_turned : (w : World) (x : Bio) (phase : Phase) (result : Option BioResult → Option BioResult)
    → IsBioInOrder (granted_in w) w.topology x → IsBioInOrder (granted_in w) w.topology (turned phase result x)
order_turned w x phase result is = record {
  source = is.source;
  target = some_weaker (λ (p : Provider). is_flush x.cmd ≡ false → IsRangeInside x p)
      (λ (p : Provider). is_flush x.cmd ≡ false → IsRangeInside (turned phase result x) p)
      (range_turned x phase result) (provider_at w.topology x.target) is.target;
  bytes = is.bytes;
}

-- of two bios, of which some are changed and aren't Busy then, not both are Busy at one disk
apart_turned : (w : World) (hit : Bio → Bool) (change : Bio → Bio) → ((x : Bio) → is_busy (change x).phase ≡ false)
    → (x y : Bio) (a b : Bool) → hit x ≡ a → hit y ≡ b → NotBothBusy w.topology x y
    → NotBothBusy w.topology (if hit x then change x else x) (if hit y then change y else y)
apart_turned w hit change idle x y true b e f apart = rw e (λ busy.
    let free : is_busy (change x).phase ≡ false = idle x in absurd cc)
apart_turned w hit change idle x y false true e f apart = rw (e, f) (λ other busy.
    let free : is_busy (change y).phase ≡ false = idle y in absurd cc)
apart_turned w hit change idle x y false false e f apart = rw (e, f) apart

-- so for all pairs
pub pairs_turned : (w : World) (hit : Bio → Bool) (change : Bio → Bio) → ((x : Bio) → is_busy (change x).phase ≡ false)
    → (xs : List Bio) → AllPairs (NotBothBusy w.topology) xs
    → AllPairs (NotBothBusy w.topology) (change_where hit change xs)
pairs_turned w hit change idle xs pairs =
    pairs_map (NotBothBusy w.topology) (λ (x : Bio). if hit x then change x else x) xs
    (λ i j d less short. apart_turned w hit change idle _ _ _ _ refl refl (pairs i j d less short))

-- no bio is Busy at a disk at which it isn't
no_two_at : (busy : Bool) (o : Option ℕ) (d : ℕ) → (busy && option_map_or (λ e. e == d) o false) ≡ false
    → busy ≡ true → o ≡ Some d → ⊥
no_two_at busy o d free is at =
    let out : (d == d) ≡ false = rw (is, at) at free in
    let same : (d == d) ≡ true = eq-eqb d d refl in
    cc

-- the read of a taste is of one sector
abbrev pub ReadsSector : World → Bio → Type 0
ReadsSector w y = IsTrue (is_taste_root y.owner) → IsSomeAnd (provider_at w.topology y.target) (λ p. y.len ≡ p.sector)

-- a bio, and where it is the one, changed
abbrev with_change : (w : World) (x : Bio) (phase : Phase) (result : Option BioResult → Option BioResult) → Bio → Bio
with_change w x phase result y = if y.number == x.number then turned phase result y else y

module _ (w : World) (x : Bio) (phase : Phase) (result : Option BioResult → Option BioResult) where
  -- the world in which it is so
  abbrev after : World
  after = turn w x phase result

  -- whether a bio is the one
  abbrev is_it : Bio → Bool
  is_it y = y.number == x.number

  -- how it is changed
  abbrev change : Bio → Bio
  change = turned phase result

  -- the children of a bio are those that it had, changed
  pub children_kept : (n : ℕ) → children_of after n ≡ change_where is_it change (children_of w n)
  children_kept n = filter-changed is_it change (λ (y : Bio). is_child_of y.owner n) (λ y e. refl) w.bios

  -- as pieces they are as before
  shapes_kept : (n : ℕ) → map shape_of_child (children_of after n) ≡ map shape_of_child (children_of w n)
  shapes_kept n = ap (λ (ys : List Bio). map shape_of_child ys) (children_kept n)
      ∙ map-changed is_it change shape_of_child (λ y e. refl) (children_of w n)

  -- so the pieces of each bio stay
  pieces_kept : (y : Bio) → HasItsPieces w.topology w.bios y → HasItsPieces w.topology after.bios y
  pieces_kept y has = subst (AreItsPieces w y) (sym (shapes_kept y.number)) has

  -- where the new phase isn't Done, no bio becomes complete
  stays_incomplete : is_done phase ≡ false → (n : ℕ) → is_complete w n ≡ false → is_complete after n ≡ false
  stays_incomplete not_done n none =
      rw (children_kept n)
      (all-fewer is_it (λ (y : Bio). is_done y.phase) change (λ y e. not_done) (children_of w n) none)

  module _ (hold : BiosOf w) (may : MayTurn w x phase result) where
    -- a fact of each bio afterwards
    each_after : (P Q : Bio → Type 0) → (Q x → P (change x)) → ((y : Bio) → is_it y ≡ false → Q y → P y)
        → All Q w.bios → All P after.bios
    each_after P Q here there facts =
        all_changed (λ (y : Bio). y.number) change w.next_bio w.bios x hold.numbers may.found P Q here there facts

    -- what is Waiting stays so
    waiting_at : (n : ℕ) (b : Bool) → (n == x.number) ≡ b → IsSomeAnd (bio_at w n) (λ y. IsTrue (is_waiting y.phase))
        → IsSomeAnd (bio_at after n) (λ y. IsTrue (is_waiting y.phase))
    waiting_at n true e has =
        let same : n ≡ x.number = eqb-true n x.number e in
        let found : bio_at w n ≡ Some x = subst (λ (m : ℕ). bio_at w m ≡ Some x) (sym same) may.found in
        let waiting : is_waiting x.phase ≡ true = rw found at has in
        let not_waiting : is_waiting x.phase ≡ false = may.waited in
        absurd cc
    waiting_at n false e has =
        let other : n ≢ x.number = eqb-false n x.number e in
        let same : bio_at after n ≡ bio_at w n =
        at-unchanged (λ (y : Bio). y.number) change (λ y. refl) x.number n other w.bios in
        rw same has

    -- a parent is as it was
    parent_kept : (o : Owner) → HasItsParent w.bios o → HasItsParent after.bios o
    parent_kept = parent_stays w.bios after.bios (λ n has. waiting_at n (n == x.number) refl has)

    -- the family of the one that changes
    family_here : IsFamilyInOrder w.topology w.bios x → IsFamilyInOrder w.topology after.bios (change x)
    family_here is = record {
      parent = parent_kept x.owner is.parent;
      pieces = λ waiting. let not_waiting : is_waiting phase ≡ false = may.waits in absurd cc;
      not_complete = λ waiting. let not_waiting : is_waiting phase ≡ false = may.waits in absurd cc;
      root = may.root;
    }

    -- the family of another one
    family_there : (y : Bio) → IsFamilyInOrder w.topology w.bios y → IsFamilyInOrder w.topology after.bios y
    family_there y is = record {
      parent = parent_kept y.owner is.parent;
      pieces = λ waiting. pieces_kept y (is.pieces waiting);
      not_complete = λ waiting. may.incomplete y.number (is.not_complete waiting);
      root = is.root;
    }

    -- no bio is Busy where this one is to be
    elsewhere : All (IsElsewhere w x phase) w.bios
    elsewhere = λ k e short busy d at.
        All-from_recursion
        (λ (y : Bio). (is_busy y.phase && option_map_or (λ e. e == d) (disk_of_bio w y) false) ≡ false) w.bios
        (none_passes (λ (y : Bio). is_busy y.phase && option_map_or (λ e. e == d) (disk_of_bio w y) false) w.bios
        (may.alone busy d at))
        k e short

    -- only the one has its number
    only : All (λ (y : Bio). is_it y ≡ true → y ≡ x) w.bios
    only = only_one (λ (y : Bio). y.number) change w.next_bio w.bios x hold.numbers may.found

    -- numbers rise
    number_below : (i j : ℕ) (d : Bio) → i < j → j < length w.bios
        → (get_or w.bios i d).number < (get_or w.bios j d).number
    number_below i j d less short =
        let near : i < length w.bios = omega arith in
        let inside : j < length (map (λ (y : Bio). y.number) w.bios) =
        omega (arith, length-map w.bios (λ (y : Bio). y.number)) in
        let rise : get_or (map (λ (y : Bio). y.number) w.bios) i 0 < get_or (map (λ (y : Bio). y.number) w.bios) j 0 =
        AllPairs-from_increasing (map (λ (y : Bio). y.number) w.bios) hold.numbers.0 i j 0 less inside in
        let at_i : get_or (map (λ (y : Bio). y.number) w.bios) i 0 ≡ (get_or w.bios i d).number =
        get_or-map (λ (y : Bio). y.number) w.bios i d 0 near in
        let at_j : get_or (map (λ (y : Bio). y.number) w.bios) j 0 ≡ (get_or w.bios j d).number =
        get_or-map (λ (y : Bio). y.number) w.bios j d 0 short in
        omega arith

    -- of two bios after the change not both are Busy at one disk
    not_both_by : (y z : Bio) (a b : Bool) → is_it y ≡ a → is_it z ≡ b → (is_it y ≡ true → y ≡ x)
        → (is_it z ≡ true → z ≡ x)
        → IsElsewhere w x phase y → IsElsewhere w x phase z → y.number < z.number → NotBothBusy w.topology y z
        → NotBothBusy w.topology (with_change w x phase result y) (with_change w x phase result z)
    not_both_by y z true true e f only_y only_z first second below apart =
        let same : y.number ≡ z.number = ap (λ (v : Bio). v.number) (only_y e ∙ sym (only_z f)) in
        absurd (omega arith)
    not_both_by y z true false e f only_y only_z first second below apart = rw (e, f) (λ busy other d at at_other.
        let here : disk_of_bio w x ≡ Some d = subst (λ (v : Bio). disk_of_bio w v ≡ Some d) (only_y e) at in
        no_two_at (is_busy z.phase) (disk_of_bio w z) d (second busy d here) other at_other)
    not_both_by y z false true e f only_y only_z first second below apart = rw (e, f) (λ other busy d at_other at.
        let here : disk_of_bio w x ≡ Some d = subst (λ (v : Bio). disk_of_bio w v ≡ Some d) (only_z f) at in
        no_two_at (is_busy y.phase) (disk_of_bio w y) d (first busy d here) other at_other)
    not_both_by y z false false e f only_y only_z first second below apart = rw (e, f) apart

    -- so for all pairs
    one_busy : AllPairs (NotBothBusy w.topology) after.bios
    one_busy =
        pairs_map (NotBothBusy w.topology) (with_change w x phase result) w.bios (λ i j d less short.
        let near : i < length w.bios = omega arith in
        not_both_by (get_or w.bios i d) (get_or w.bios j d) (is_it (get_or w.bios i d))
        (is_it (get_or w.bios j d)) refl refl
        (only i d near) (only j d short) (elsewhere i d near) (elsewhere j d short)
        (number_below i j d less short) (hold.disks.one_busy i j d less short))

    -- whether the read of a taste is out stays
    read_out : IsTrue (list_any (λ y. is_taste_root y.owner) after.bios) ↔ IsTrue
        (option_map_or (λ s. is_read_out s.asked) w.taste false)
    read_out =
        subst (λ (b : Bool). IsTrue b ↔ IsTrue (option_map_or (λ s. is_read_out s.asked) w.taste false))
        (sym (any-changed is_it change (λ (y : Bio). is_taste_root y.owner) (λ y e. refl) w.bios)) hold.read_out

    -- the bios are in order afterwards
    turns_hold : BiosOf after
    turns_hold = record {
      numbers = numbers-changed (λ (y : Bio). y.number) is_it change (λ y e. refl) w.next_bio w.bios hold.numbers;
      order = each_after (IsBioInOrder (granted_in w) w.topology) (IsBioInOrder (granted_in w) w.topology)
          (order_turned w x phase result) (λ y e is. is) hold.order;
      families = each_after (IsFamilyInOrder w.topology after.bios) (IsFamilyInOrder w.topology w.bios) family_here
          (λ y e is. family_there y is) hold.families;
      disks = record {
        at_disk = each_after (HasItsDisk w) (HasItsDisk w) (λ at. may.at_disk) (λ y e at. at) hold.disks.at_disk;
        one_busy = one_busy;
      };
      read_out = read_out;
      owners = each_after (HasItsOwner w) (HasItsOwner w)
          (owner_stays w.handles w.taste x (change x) refl refl refl x.owner) (λ y e comes. comes) hold.owners;
      results = each_after HasItsResult HasItsResult
          (λ has up. fits_turned x phase result (result x.result) (may.gives up)) (λ y e has. has) hold.results;
      read = record {
        one = rw (count-changed is_it change (λ (y : Bio). is_taste_root y.owner) (λ y e. refl) w.bios) hold.read.one;
        sector = each_after (ReadsSector w) (ReadsSector w) (λ reads. reads) (λ y e reads. reads) hold.read.sector;
      };
    }

-- so a bio that may turn leaves a firm mesh firm
pub turns_stay_firm : (w : World) (x : Bio) (phase : Phase) (result : Option BioResult → Option BioResult)
    → MayTurn w x phase result → Firm w → Firm (turn w x phase result)
turns_stay_firm w x phase result may firm =
    let after : World = turn w x phase result in
    bios_are_apart w after.bios after.next_bio firm (turns_hold w x phase result firm.bios may)

-- Take, Deliver and the Starts that bounce or send a bio keep a mesh firm.

-- what is found is found at its own number
pub found_there : (w : World) (b : ℕ) (x : Bio) → bio_at w b ≡ Some x → bio_at w x.number ≡ Some x
found_there w b x found =
    let same : x.number ≡ b = number_found (λ (y : Bio). y.number) w.bios b x found in
    subst (λ (n : ℕ). bio_at w n ≡ Some x) (sym same) found

-- Take

-- a bio that can be taken may be Busy
taken : (w : World) (seat disk : ℕ) (x : Bio) → bio_at w x.number ≡ Some x → CanTake w disk x
    → MayTurn w x (phases.Busy seat) (λ r. r)
taken w seat disk x found can = record {
  found = found;
  waited = not_waiting is_sent refl x.phase can.sent;
  waits = refl;
  root = λ root. refl;
  incomplete = stays_incomplete w x (phases.Busy seat) (λ r. r) refl;
  at_disk = λ at. rw can.disk_is refl;
  alone = λ busy d at.
      let is : disk_of_bio w x ≡ Some disk = can.disk_is in
      let same : disk ≡ d = cc in
      subst (λ (e : ℕ). busy_bio w e ≡ None) same can.free;
  gives = λ up. absurd cc;
}

-- whatever is against the Take
take_by : (w : World) (seat disk : ℕ) (x : Bio) → bio_at w x.number ≡ Some x → (o : Option Found)
    → take_found w disk x ≡ o → Firm w
    → Firm (world_after w (unless_found o (take_bio w seat disk x)))
unfolding take_bio
take_by w seat disk x found (Some against) e firm = firm
take_by w seat disk x found None e firm =
    turns_stay_firm w x (phases.Busy seat) (λ r. r) (taken w seat disk x found (can_take w disk x e)) firm

-- whatever bio is found
take_at : (w : World) (seat disk b : ℕ) (o : Option Bio) → bio_at w b ≡ o → Firm w
    → Firm (world_after w (take_of w seat disk o))
take_at w seat disk b None found firm = firm
take_at w seat disk b (Some x) found firm =
    take_by w seat disk x (found_there w b x found) (take_found w disk x) refl firm

-- a Take keeps a mesh firm
pub takes_stay_firm : TakesStayFirm
takes_stay_firm w seat disk b firm = take_at w seat disk b (bio_at w b) refl firm

-- Deliver

-- a bio in whose phase it isn't Waiting may go up with a result that it can have
goes_up : (w : World) (x : Bio) (result : BioResult) → bio_at w x.number ≡ Some x → (test : Phase → Bool)
    → test phases.Waiting ≡ false
    → test x.phase ≡ true → FitsBio x result → MayTurn w x phases.Up (λ r. Some result)
goes_up w x result found test out passes fits = record {
  found = found;
  waited = not_waiting test out x.phase passes;
  waits = refl;
  root = λ root. refl;
  incomplete = stays_incomplete w x phases.Up (λ r. Some result) refl;
  at_disk = λ at. absurd cc;
  alone = λ busy d at. absurd cc;
  gives = λ up. fits;
}

-- whatever is against the Deliver
deliver_by : (w : World) (seat : ℕ) (x : Bio) (got : DeviceResult) → bio_at w x.number ≡ Some x → (o : Option Found)
    → deliver_found w seat x got x.phase ≡ o → Firm w → Firm (world_after w (unless_found o (deliver w x got)))
unfolding deliver
deliver_by w seat x got found (Some against) e firm = firm
deliver_by w seat x got found None e firm =
    let can = can_deliver w seat x got x.phase e in
    turns_stay_firm w x phases.Up (λ r. Some (result_of_device got))
    (goes_up w x (result_of_device got) found is_busy refl can.0 (fitting_result (sector_of_bio w x) x got can.1)) firm

-- whatever bio is found
deliver_at : (w : World) (seat b : ℕ) (got : DeviceResult) (o : Option Bio) → bio_at w b ≡ o → Firm w
    → Firm (world_after w (deliver_of w seat got o))
deliver_at w seat b got None found firm = firm
deliver_at w seat b got (Some x) found firm =
    deliver_by w seat x got (found_there w b x found) (deliver_found w seat x got x.phase) refl firm

-- a Deliver keeps a mesh firm
pub delivers_stay_firm : DeliversStayFirm
delivers_stay_firm w seat b got firm = deliver_at w seat b got (bio_at w b) refl firm

-- Start

-- a Start that bounces keeps a mesh firm
pub bounces_stay_firm : BouncesStayFirm
bounces_stay_firm w b x e found down firm =
    turns_stay_firm w x phases.Up (λ r. Some (results.Failed e))
    (goes_up w x (results.Failed e) (found_there w b x found) is_down refl down tt) firm

-- so does one that fails at a NOP geom
pub fails_stay_firm : FailsStayFirm
fails_stay_firm w b x g found down firm =
    bounces_stay_firm (record w { topology = note_started w.topology g }) b x EIO found down (noted_stays_firm w g firm)

-- no request goes from a NOP geom to a disk
not_at_nop : (x : Bio) (p : Provider) (g : Geom Config) (below : Option ℕ) (offset fail disk : ℕ) (b : Bool)
    → is_hit (g.started + 1) fail ≡ b
    → way_at x p g (Nop below offset fail) ≡ Sends disk → ⊥
not_at_nop x p g below offset fail disk true e way =
    let bad : Fails g.number ≡ Sends disk = rw e at way in cc
not_at_nop x p g below offset fail disk false e way =
    let bad : Passes g.number (piece_targets g.config p x) ≡ Sends disk = rw e at way in cc

-- a way to a disk, by the configuration
sent_by : (x : Bio) (p : Provider) (g : Geom Config) (disk : ℕ) (config : Config) → way_at x p g config ≡ Sends disk
    → disk_of config ≡ Some disk
sent_by x p g disk (Disk d) way = let same : d ≡ disk = cc in rw same refl
sent_by x p g disk (Nop below offset fail) way =
    absurd (not_at_nop x p g below offset fail disk (is_hit (g.started + 1) fail) refl way)
sent_by x p g disk _ way = absurd cc

module _ (w : World) (x : Bio) (disk : ℕ) where
  -- the disk of the bio, by the geom of the provider
  sent_geom : (p : Provider) (b : Option (Geom Config)) → provider_at w.topology x.target ≡ Some p
      → geom_at w.topology p.geom ≡ b
      → way_of w.topology x ≡ Sends disk → is_errored w.topology x.target ≡ false → disk_of_bio w x ≡ Some disk
  sent_geom p None e f way fine = let bad : Bounces EIO ≡ Sends disk = rw (fine, e, f) at way in absurd cc
  sent_geom p (Some g) e f way fine = rw (e, f) (sent_by x p g disk g.config (rw (fine, e, f) at way))

  -- by the provider
  sent_provider : (a : Option Provider) → provider_at w.topology x.target ≡ a → way_of w.topology x ≡ Sends disk
      → is_errored w.topology x.target ≡ false → disk_of_bio w x ≡ Some disk
  sent_provider None e way fine = let bad : Bounces EIO ≡ Sends disk = rw (fine, e) at way in absurd cc
  sent_provider (Some p) e way fine = sent_geom p (geom_at w.topology p.geom) e refl way fine

  -- by whether the provider carries an error
  sent_fine : (b : Bool) → is_errored w.topology x.target ≡ b → way_of w.topology x ≡ Sends disk
      → disk_of_bio w x ≡ Some disk
  sent_fine true e way = let bad : Bounces ENXIO ≡ Sends disk = rw e at way in absurd cc
  sent_fine false e way = sent_provider (provider_at w.topology x.target) refl way e

  -- a bio that is sent to a disk has it
  pub sent_disk : way_of w.topology x ≡ Sends disk → disk_of_bio w x ≡ Some disk
  sent_disk way = sent_fine (is_errored w.topology x.target) refl way

  -- a bio that is Down may be Sent to its disk
  sent : bio_at w x.number ≡ Some x → is_down x.phase ≡ true → disk_of_bio w x ≡ Some disk
      → MayTurn w x phases.Sent (λ r. r)
  sent found down is = record {
    found = found;
    waited = not_waiting is_down refl x.phase down;
    waits = refl;
    root = λ root. refl;
    incomplete = stays_incomplete w x phases.Sent (λ r. r) refl;
    at_disk = λ at. rw is refl;
    alone = λ busy d at. absurd cc;
    gives = λ up. absurd cc;
  }

-- a Start that sends a bio to its disk keeps a mesh firm
pub sends_stay_firm : SendsStayFirm
sends_stay_firm w b x disk found down way firm =
    turns_stay_firm w x phases.Sent (λ r. r)
    (sent w x disk (found_there w b x found) down (sent_disk w x disk way)) firm
