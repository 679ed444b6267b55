-- What a step of a bio does to the places that are owed.
use Rattle.std.specs.Prelude.{◌≡◌, ℕ, ◌+◌, ◌==◌, Bool, true, false, not, List, [], ◌∷◌, ◌++◌, map, sum_by, Option, Some, None, Contains, IsSomeAnd, IsTrue, cond, if◌then◌else◌, option_map}
use Rattle.std.specs.List.{AllByRecursion, enumerate_from}
use Rattle.std.specs.Option.{option_map_or}
use Rattle.std.proofs.Common.{refl, sym, ◌∙◌, ap, subst, arith}
use Rattle.std.proofs.lemmas.Bool.{not-false}
use Rattle.std.proofs.lemmas.List.Elements.{All-contains}
use Rattle.std.proofs.lemmas.List.Sums.{sum_by-cons, sum_by-append}
use Rattle.geo_model.proofs.BioLemmas.{quiet_phase}
use Rattle.geo_base.specs.declared.errno.Errno.TheVariants.{EIO}
use Rattle.geo_model.specs.declared.step.BioResult.TheVariants as results
use Rattle.geo_model.specs.declared.step.Owner.{Owner}
use Rattle.geo_model.specs.declared.step.Owner.TheVariants as owners
use Rattle.geo_model.specs.declared.step.Phase.{Phase}
use Rattle.geo_model.specs.declared.step.Phase.TheVariants as phases
use Rattle.geo_model.specs.Topology.{Topology}
use Rattle.geo_model.specs.Graph.{AreNumbers}
use Rattle.geo_model.specs.World.{World, Config, Bio, bio_at, change_bio, children_of, is_busy, is_up, is_down, is_done, is_waiting, is_child_of}
use Rattle.geo_model.specs.Bios.{PieceTarget, Way, Bounces, Fails, Sends, Splits, Passes, piece_child, piece_children, split_bio, up_to, up_child, up_with, without_bio, complete_parent, is_complete, joined_result, child_results, start_by}
use Rattle.geo_model.specs.SoundBios.{IsFamilyInOrder, HasItsParent}
use Rattle.geo_model.specs.Fitting.{Firm}
use Rattle.geo_model.specs.Log.{owed}
use Rattle.geo_laws_graph.proofs.Lists.{changed, find-changed, map-changed}
use Rattle.geo_laws_graph.proofs.Members.{find-Contains, All-from_contained, map-Contains, Contains-filter}
use Rattle.geo_laws_graph.proofs.Numbered.{number_found}
use Rattle.geo_laws_counts.proofs.LimitFacts.{all_true}
use Rattle.geo_laws_owed.proofs.Counting.{sum_gone, sum_changed, sum_of_kept}

-- a bio counts while it is Busy
abbrev pub busy : Bio → ℕ
busy x = cond (is_busy x.phase) 1 0

-- the numbers of bios are in order
abbrev pub BiosInOrder : World → Type 0
BiosInOrder w = AreNumbers (map (λ (x : Bio). x.number) w.bios) w.next_bio

-- so it counts nothing
pub idle : (test : Phase → Bool) → ((seat : ℕ) → test (phases.Busy seat) ≡ false) → (x : Bio) → test x.phase ≡ true
    → busy x ≡ 0
idle test out x e = rw (quiet_phase test out x.phase e) refl

-- a bio that is changed
pub change_owes : (w : World) (x : Bio) (change : Bio → Bio) → BiosInOrder w → bio_at w x.number ≡ Some x
    → owed (change_bio w x.number change) + busy x ≡ owed w + busy (change x)
change_owes w x change order found =
    let sums = sum_changed (λ (y : Bio). y.number) x.number busy x change w.next_bio w.bios order found in
    omega (arith, sums)

-- a bio that goes
pub gone_owes : (w : World) (x : Bio) → BiosInOrder w → bio_at w x.number ≡ Some x
    → owed (without_bio w x.number) + busy x ≡ owed w
gone_owes w x order found =
    let sums = sum_gone (λ (y : Bio). y.number) x.number busy x w.next_bio w.bios order found in
    omega (arith, sums)

-- Start

-- children count nothing
quiet_children : (t : Topology Config) (next : ℕ) (x : Bio) (items : List (ℕ × PieceTarget))
    → sum_by busy (map (λ item. piece_child t next x item.0 item.1) items) ≡ 0
quiet_children t next x [] = refl
quiet_children t next x (item ∷ items) =
    omega (
      arith,
      sum_by-cons busy (piece_child t next x item.0 item.1)
          (map (λ item. piece_child t next x item.0 item.1) items),
      quiet_children t next x items,
    )

-- a bio that is split
split_owes : (w : World) (x : Bio) (targets : List PieceTarget) → BiosInOrder w → bio_at w x.number ≡ Some x
    → busy x ≡ 0 → owed (split_bio w x targets).0 ≡ owed w
split_owes w x targets order found quiet =
    let waiting : World = change_bio w x.number (λ y. record y { phase = phases.Waiting }) in
    let same = change_owes w x (λ y. record y { phase = phases.Waiting }) order found in
    let children : List Bio = piece_children w.topology w.next_bio x targets in
    let none : sum_by busy children ≡ 0 = quiet_children w.topology w.next_bio x (enumerate_from 0 targets) in
    let both : sum_by busy (waiting.bios ++ children) ≡ sum_by busy waiting.bios + sum_by busy children =
    sum_by-append busy waiting.bios children in
    omega (arith, same, none, both, quiet)

module _ (w : World) (x : Bio) (order : BiosInOrder w) (found : bio_at w x.number ≡ Some x)
    (down : is_down x.phase ≡ true) where
  -- the bio counts nothing
  down_idle : busy x ≡ 0
  down_idle = idle is_down (λ seat. refl) x down

  -- by the way that it goes
  pub way_owes : (way : Way) → owed (start_by w x way).0 ≡ owed w
  way_owes (Bounces e) =
      let same = change_owes w x (up_with (results.Failed e)) order found in omega (arith, same, down_idle)
  way_owes (Fails g) =
      let same = change_owes w x (up_with (results.Failed EIO)) order found in omega (arith, same, down_idle)
  way_owes (Sends disk) =
      let same = change_owes w x (λ y. record y { phase = phases.Sent }) order found in
      omega (arith, same, down_idle)
  way_owes (Splits targets) = split_owes w x targets order found down_idle
  way_owes (Passes g targets) = split_owes w x targets order found down_idle

-- Up

module _ (w : World) (firm : Firm w) (x : Bio) (found : bio_at w x.number ≡ Some x)
    (up_now : is_up x.phase ≡ true) where
  -- the bio counts nothing
  up_idle : busy x ≡ 0
  up_idle = idle is_up (λ seat. refl) x up_now

  -- a root that goes
  pub root_owes : owed (without_bio w x.number) ≡ owed w
  root_owes = let same = gone_owes w x firm.bios.numbers found in omega (arith, same, up_idle)

  -- whether it is the bio, and how it is Done
  abbrev is_it : Bio → Bool
  is_it y = y.number == x.number

  abbrev as_done : Bio → Bio
  as_done y = record y { phase = phases.Done }

  -- the world in which it is Done
  abbrev gathered : World
  gathered = change_bio w x.number as_done

  -- owes the same
  gathered_owes : owed gathered ≡ owed w
  gathered_owes =
      let same = change_owes w x as_done firm.bios.numbers found in omega (arith, same, up_idle)

  -- its bios are in order
  gathered_order : BiosInOrder gathered
  gathered_order =
      subst (λ (ns : List ℕ). AreNumbers ns w.next_bio)
      (sym (map-changed is_it as_done (λ (y : Bio). y.number) (λ y e. refl) w.bios)) firm.bios.numbers

  module _ (parent index : ℕ) (own : x.owner ≡ owners.Child parent index) where
    -- the parent waited
    parent_waits : IsSomeAnd (bio_at w parent) (λ y. IsTrue (is_waiting y.phase))
    parent_waits =
        let here : Contains w.bios x = find-Contains is_it w.bios x found in
        let family : IsFamilyInOrder w.topology w.bios x =
        All-contains (IsFamilyInOrder w.topology w.bios) w.bios x firm.bios.families here in
        let has : HasItsParent w.bios x.owner = family.parent in
        subst (HasItsParent w.bios) own has

    -- a bio that waited counts nothing, Done or not
    done_idle : (z : Bio) → is_waiting z.phase ≡ true → (b : Bool) → is_it z ≡ b → busy (changed is_it as_done z) ≡ 0
    done_idle z waits true h = rw h refl
    done_idle z waits false h = rw h (idle is_waiting (λ seat. refl) z waits)

    -- so the parent, by what was found
    parent_by : (y : Bio) (o : Option Bio) → bio_at w parent ≡ o → IsSomeAnd o (λ z. IsTrue (is_waiting z.phase))
        → bio_at gathered parent ≡ Some y → busy y ≡ 0
    parent_by y None e waits at = absurd waits
    parent_by y (Some z) e waits at =
        let now = find-changed is_it as_done (λ (v : Bio). v.number == parent) (λ v h. refl) w.bios in
        let is : Some (changed is_it as_done z) ≡ Some y =
        sym (now ∙ ap (option_map (changed is_it as_done)) e) ∙ at in
        let same : changed is_it as_done z ≡ y = cc in
        subst (λ (v : Bio). busy v ≡ 0) same (done_idle z waits (is_it z) refl)

    -- a child of the parent counts nothing, where all are Done
    module _ (y : Bio) (at : bio_at gathered parent ≡ Some y) (all : is_complete gathered parent ≡ true) where
      -- whether it is the parent, and how it is Up
      abbrev is_parent : Bio → Bool
      is_parent z = z.number == y.number

      abbrev as_up : Bio → Bio
      as_up z = up_with (joined_result y.cmd (child_results gathered y.number)) z

      -- the number of the parent
      number_is : y.number ≡ parent
      number_is = number_found (λ (z : Bio). z.number) gathered.bios parent y at

      -- it is found by it
      there : bio_at gathered y.number ≡ Some y
      there = subst (λ (n : ℕ). bio_at gathered n ≡ Some y) (sym number_is) at

      -- a child, by whether it is the parent itself
      child_idle : (z : Bio) → Contains gathered.bios z → (b : Bool) → is_parent z ≡ b
          → is_child_of (changed is_parent as_up z).owner y.number ≡ true → busy (changed is_parent as_up z) ≡ 0
      child_idle z here true h child = rw h refl
      child_idle z here false h child =
          let of : is_child_of z.owner y.number ≡ true = rw h at child in
          let of_parent : is_child_of z.owner parent ≡ true =
          subst (λ (n : ℕ). is_child_of z.owner n ≡ true) number_is of in
          let is_done_now = all_true (λ (v : Bio). is_done v.phase) (children_of gathered parent) all z
          (Contains-filter (λ (v : Bio). is_child_of v.owner parent) gathered.bios z here of_parent) in
          rw h (idle is_done (λ seat. refl) z is_done_now)

      -- the world in which the parent is Up
      abbrev risen : World
      risen = change_bio gathered y.number as_up

      -- each that goes counts nothing
      goes_idle : AllByRecursion
          (λ (z : Bio). not (is_child_of z.owner y.number) ≡ false → busy z ≡ 0) risen.bios
      goes_idle =
          All-from_contained (λ (z : Bio). not (is_child_of z.owner y.number) ≡ false → busy z ≡ 0) risen.bios
          (λ z here out.
          let o = map-Contains (changed is_parent as_up) gathered.bios z here in
          let child : is_child_of z.owner y.number ≡ true = not-false (is_child_of z.owner y.number) out in
          subst (λ (v : Bio). busy v ≡ 0) o.fact
          (child_idle o.item o.stands (is_parent o.item) refl
          (subst (λ (v : Bio). is_child_of v.owner y.number ≡ true) (sym o.fact) child)))

      -- so the world with the parent Up owes the same
      complete_owes : owed (complete_parent gathered y) ≡ owed gathered
      complete_owes =
          let same = change_owes gathered y as_up gathered_order there in
          let quiet = parent_by y (bio_at w parent) refl parent_waits at in
          let kept = sum_of_kept busy (λ (z : Bio). not (is_child_of z.owner y.number)) risen.bios goes_idle in
          omega (arith, same, quiet, kept)

    -- by whether all children are Done, and the parent that is found
    child_by : (b : Bool) → is_complete gathered parent ≡ b → (o : Option Bio) → bio_at gathered parent ≡ o
        → owed (if b then option_map_or (λ y. complete_parent gathered y) o gathered else gathered) ≡ owed gathered
    child_by false e o at = refl
    child_by true e None at = refl
    child_by true e (Some y) at = complete_owes y at e

    -- a child
    child_owes : owed (up_child w x parent).0 ≡ owed w
    child_owes =
        child_by (is_complete gathered parent) refl (bio_at gathered parent) refl ∙ gathered_owes

  -- by the owner
  pub owner_owes : (o : Owner) → x.owner ≡ o → owed (up_to w x o).0 ≡ owed w
  owner_owes (owners.Line handle line) own = root_owes
  owner_owes owners.Taste own = root_owes
  owner_owes (owners.Child parent index) own = child_owes parent index own
