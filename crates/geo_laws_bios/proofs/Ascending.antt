-- An Up keeps a mesh firm: a root goes, or a child is Done, the last one with its parent Up.
use Rattle.std.specs.Prelude.{◌≡◌, ◌≢◌, ◌↔◌, ℕ, ◌==◌, Bool, true, false, not, ◌||◌, List, map, Some, All, IsSomeAnd, IsTrue, filter, find, Option, None, Contains, if◌then◌else◌}
use Rattle.std.specs.List.{AllByRecursion, list_all, list_any}
use Rattle.std.specs.Option.{option_map_or}
use Rattle.std.proofs.Common.{refl, sym, ◌∙◌, ap, subst, arith}
use Rattle.std.proofs.lemmas.Bool.{eqb-true, eqb-false, ne_eqb, not-true, not_from_false, false_from_ne_true, eq-eqb, or_left, or_right}
use Rattle.std.proofs.lemmas.List.Elements.{All-filter, All-weaker, All-contains, filter_passes}
use Rattle.std.proofs.lemmas.List.Kept.{AllPairs-filter}
use Rattle.geo_model.specs.declared.step.Owner.{Owner}
use Rattle.geo_model.specs.declared.step.Owner.TheVariants as owners
use Rattle.geo_model.specs.declared.step.Phase.TheVariants as phases
use Rattle.geo_model.specs.World.{World, Bio, bio_at, children_of, is_root, is_done, is_up, is_waiting, is_child_of, is_taste_root, is_read_out, granted_in}
use Rattle.geo_model.specs.Bios.{is_complete, without_bio, joined_result, child_results, complete_parent, up_child}
use Rattle.geo_model.specs.SoundBios.{IsBioInOrder, IsFamilyInOrder, HasItsParent, shape_of_child, NotBothBusy}
use Rattle.geo_model.specs.Steady.{ComesFromItsOwner, HasItsResult, FitsBio}
use Rattle.geo_model.specs.Fitting.{BiosOf, Firm}
use Rattle.geo_model.proofs.DemandLemmas.{all_weaker}
use Rattle.geo_model.proofs.Options.{some_and_of}
use Rattle.geo_model.specs.declared.step.BioResult.{BioResult}
use Rattle.geo_model.specs.Words.{change_where}
use Rattle.geo_model.specs.Graph.{AreNumbers}
use Rattle.geo_laws_graph.proofs.Lists.{numbers-kept, numbers-changed, filter-changed, map-changed, any-changed, found_itself}
use Rattle.geo_laws_graph.proofs.Members.{find-Contains, Contains-filter, All-from_contained, filter-Contains, Contains-map, at_contained}
use Rattle.geo_laws_graph.proofs.Numbered.{unique, at-kept, at-unchanged, number_found}
use Rattle.geo_laws_graph.proofs.Spared.{IsSpared, IsUntouched, filter-spared, any-spared, filter-untouched, find-spared}
use Rattle.geo_laws_counts.proofs.LimitFacts.{all_true}
use Rattle.geo_laws_bios.specs.BioSteps.{turned, turn}
use Rattle.geo_laws_bios.specs.UpLaws.{LineUpsStayFirm, ChildUpsStayFirm}
use Rattle.geo_laws_bios.proofs.Turned.{bios_are_apart, not_waiting, MayTurn, AreItsPieces, HasItsDisk, HasItsOwner, ReadsSector, found_there, parent_stays, fits_turned, order_turned, pairs_turned, owner_stays, children_kept, turns_stay_firm}
use Rattle.geo_laws_bios.proofs.Items.{count-spared, all_both, all_changed, all-fewer, each_of, count-changed}
use Rattle.geo_laws_bios.proofs.Serving.{got, result_fits}

-- a root is no child
pub root_no_child : (o : Owner) (n : ℕ) → is_root o ≡ true → is_child_of o n ≡ false
root_no_child (owners.Child parent index) n root = absurd cc
root_no_child _ n root = refl

module _ (w : World) (x : Bio) (hold : BiosOf w) (found : bio_at w x.number ≡ Some x) where
  -- whether a bio is the one
  abbrev is_it : Bio → Bool
  is_it y = y.number == x.number

  -- only the one has its number
  only : AllByRecursion (λ (y : Bio). is_it y ≡ true → y ≡ x) w.bios
  only = unique (λ (y : Bio). y.number) w.next_bio x.number w.bios x hold.numbers found

  -- what the one doesn't pass, is spared
  spared : (test : Bio → Bool) → test x ≡ false → AllByRecursion (IsSpared is_it test) w.bios
  spared test out = all_weaker (λ (y : Bio). is_it y ≡ true → y ≡ x) (IsSpared is_it test)
      (λ y same e. ap test (same e) ∙ out) w.bios only

  -- what it passes neither before nor after a change, isn't touched
  untouched : (test : Bio → Bool) (change : Bio → Bio) → test x ≡ false → test (change x) ≡ false
      → AllByRecursion (IsUntouched is_it test change) w.bios
  untouched test change out out_after = all_weaker (λ (y : Bio). is_it y ≡ true → y ≡ x) (IsUntouched is_it test change)
      (λ y same e. (ap test (same e) ∙ out, ap (λ (z : Bio). test (change z)) (same e) ∙ out_after)) w.bios only

  -- the world without it
  abbrev after : World
  after = without_bio w x.number

  -- a fact of each bio that stays
  each_after : (P Q : Bio → Type 0) → ((y : Bio) → Q y → P y) → All Q w.bios → All P after.bios
  each_after P Q so facts = All-filter (λ (y : Bio). not (is_it y)) P w.bios (All-weaker Q P so w.bios facts)

  module _ (root : is_root x.owner ≡ true) (waited : is_waiting x.phase ≡ false) where
    -- the children of a bio are those that it had
    children_left : (n : ℕ) → children_of after n ≡ children_of w n
    children_left n = filter-spared is_it (λ (y : Bio). is_child_of y.owner n) w.bios
        (spared (λ (y : Bio). is_child_of y.owner n) (root_no_child x.owner n root))

    -- what is Waiting stays
    waiting_at : (n : ℕ) (b : Bool) → (n == x.number) ≡ b → IsSomeAnd (bio_at w n) (λ y. IsTrue (is_waiting y.phase))
        → IsSomeAnd (bio_at after n) (λ y. IsTrue (is_waiting y.phase))
    waiting_at n true e has =
        let same : n ≡ x.number = eqb-true n x.number e in
        let here : bio_at w n ≡ Some x = subst (λ (m : ℕ). bio_at w m ≡ Some x) (sym same) found in
        let waiting : is_waiting x.phase ≡ true = rw here at has in
        absurd cc
    waiting_at n false e has =
        let other : n ≢ x.number = eqb-false n x.number e in
        let same : bio_at after n ≡ bio_at w n = at-kept (λ (y : Bio). y.number) x.number n other w.bios in
        rw same has

    -- a parent stays
    parent_kept : (o : Owner) → HasItsParent w.bios o → HasItsParent after.bios o
    parent_kept = parent_stays w.bios after.bios (λ n has. waiting_at n (n == x.number) refl has)

    -- the family of each
    pub family_kept : (y : Bio) → IsFamilyInOrder w.topology w.bios y → IsFamilyInOrder w.topology after.bios y
    family_kept y is = record {
      parent = parent_kept y.owner is.parent;
      pieces = λ waiting. subst (λ (ys : List Bio). AreItsPieces w y (map shape_of_child ys))
          (sym (children_left y.number)) (is.pieces waiting);
      not_complete = λ waiting. subst (λ (ys : List Bio). list_all (λ (z : Bio). is_done z.phase) ys ≡ false)
          (sym (children_left y.number)) (is.not_complete waiting);
      root = is.root;
    }

    module _ (reads : is_taste_root x.owner ≡ false) where
      -- no read of a taste goes
      reads_stay : AllByRecursion (IsSpared is_it (λ (y : Bio). is_taste_root y.owner)) w.bios
      reads_stay = spared (λ (y : Bio). is_taste_root y.owner) reads

      -- without a root that isn't Waiting and reads for no taste the bios are in order
      leaves_hold : BiosOf after
      leaves_hold = record {
        numbers = numbers-kept (λ (y : Bio). y.number) (λ (y : Bio). not (is_it y)) w.next_bio w.bios hold.numbers;
        order = All-filter (λ (y : Bio). not (is_it y)) (IsBioInOrder (granted_in w) w.topology) w.bios hold.order;
        families = each_after (IsFamilyInOrder w.topology after.bios) (IsFamilyInOrder w.topology w.bios)
            family_kept hold.families;
        disks = record {
          at_disk = All-filter (λ (y : Bio). not (is_it y)) (HasItsDisk w) w.bios hold.disks.at_disk;
          one_busy = AllPairs-filter (NotBothBusy w.topology) (λ (y : Bio). not (is_it y)) w.bios hold.disks.one_busy;
        };
        read_out = subst (λ (b : Bool). IsTrue b ↔ IsTrue (option_map_or (λ s. is_read_out s.asked) w.taste false))
            (sym (any-spared is_it (λ (y : Bio). is_taste_root y.owner) w.bios reads_stay)) hold.read_out;
        owners = All-filter (λ (y : Bio). not (is_it y)) (HasItsOwner w) w.bios hold.owners;
        results = All-filter (λ (y : Bio). not (is_it y)) HasItsResult w.bios hold.results;
        read = record {
          one = rw (count-spared is_it (λ (y : Bio). is_taste_root y.owner) w.bios reads_stay) hold.read.one;
          sector = All-filter (λ (y : Bio). not (is_it y)) (ReadsSector w) w.bios hold.read.sector;
        };
      }

  -- what has a result keeps it
  pub has_result : HasItsResult x
  has_result = All-contains HasItsResult w.bios x hold.results
      (find-Contains (λ (y : Bio). y.number == x.number) w.bios x found)

-- an Up of a root of a line keeps a mesh firm
pub line_ups_stay_firm : LineUpsStayFirm
line_ups_stay_firm w b x handle line found up owner firm =
    let there = found_there w b x found in
    let after : World = without_bio w x.number in
    let root : is_root x.owner ≡ true = rw owner refl in
    let reads : is_taste_root x.owner ≡ false = rw owner refl in
    bios_are_apart w after.bios after.next_bio firm
    (leaves_hold w x firm.bios there root (not_waiting is_up refl x.phase up) reads)

-- A child

module _ (w : World) (x : Bio) (parent index : ℕ) (hold : BiosOf w) (found : bio_at w x.number ≡ Some x)
    (owner : x.owner ≡ owners.Child parent index) where
  -- another bio has no new child that is Done
  other_kept : (n : ℕ) → n ≢ parent → is_complete (turn w x phases.Done (λ r. r)) n ≡ is_complete w n
  other_kept n other =
      let no_child : is_child_of x.owner n ≡ false = rw owner (ne_eqb parent n (λ same. other (sym same))) in
      ap (λ (ys : List Bio). list_all (λ (z : Bio). is_done z.phase) ys)
      (filter-untouched (λ (y : Bio). y.number == x.number) (λ (y : Bio). is_child_of y.owner n)
      (turned phases.Done (λ r. r)) w.bios
      (untouched w x hold found (λ (y : Bio). is_child_of y.owner n) (turned phases.Done (λ r. r)) no_child no_child))

  -- so no bio becomes complete, where the parent doesn't
  incomplete_by : is_complete (turn w x phases.Done (λ r. r)) parent ≡ false → (n : ℕ) (b : Bool) → (n == parent) ≡ b
      → is_complete w n ≡ false → is_complete (turn w x phases.Done (λ r. r)) n ≡ false
  incomplete_by last n true e none =
      subst (λ (m : ℕ). is_complete (turn w x phases.Done (λ r. r)) m ≡ false) (sym (eqb-true n parent e)) last
  incomplete_by last n false e none = other_kept n (eqb-false n parent e) ∙ none

  -- a child that is Up may be Done, where its parent isn't complete then
  may_end : is_up x.phase ≡ true → is_complete (turn w x phases.Done (λ r. r)) parent ≡ false
      → MayTurn w x phases.Done (λ r. r)
  may_end up last = record {
    found = found;
    waited = not_waiting is_up refl x.phase up;
    waits = refl;
    root = λ root. let no_root : is_root x.owner ≡ false = rw owner refl in absurd cc;
    incomplete = λ n none. incomplete_by last n (n == parent) refl none;
    at_disk = λ at. absurd cc;
    alone = λ busy d at. absurd cc;
    gives = λ ends. has_result w x hold found (rw up refl);
  }

-- The last child of a bio goes up: the bio is Up with a result, and its children are gone.

-- a child of one bio isn't one of another
child_of_one : (o : Owner) (a b : ℕ) → b ≢ a → is_child_of o a ≡ true → is_child_of o b ≡ false
child_of_one (owners.Child parent index) a b other child =
    let same : parent ≡ a = eqb-true parent a child in
    ne_eqb parent b (λ is. other (sym is ∙ same))
child_of_one _ a b other child = absurd cc

-- a child is no root of a taste
child_no_read : (o : Owner) (a : ℕ) → is_child_of o a ≡ true → is_taste_root o ≡ false
child_no_read owners.Taste a child = absurd cc
child_no_read _ a child = refl

-- a bio isn't its own child
pub not_own_child : (w : World) (y : Bio) (o : Owner) → ComesFromItsOwner w.handles w.taste y o
    → is_child_of o y.number ≡ false
not_own_child w y (owners.Child parent index) comes = ne_eqb parent y.number (λ same. omega (arith, same, comes))
not_own_child w y _ comes = refl

module _ (w : World) (y : Bio) (result : BioResult) where
  -- whether a bio is a child of it
  abbrev pub is_gone : Bio → Bool
  is_gone z = is_child_of z.owner y.number

  -- the bios that stay
  abbrev pub staying : List Bio
  staying = filter (λ z. not (is_gone z)) w.bios

  -- whether a bio is it
  abbrev pub is_parent : Bio → Bool
  is_parent z = z.number == y.number

  -- how it is changed
  abbrev pub risen : Bio → Bio
  risen = turned phases.Up (λ r. Some result)

  -- the world in which it is Up with a result, and has no children
  abbrev pub completed : World
  completed = record w { bios = change_where is_parent risen staying }

  module _ (hold : BiosOf w) (found : bio_at w y.number ≡ Some y) (own : is_gone y ≡ false)
      (ended : (q : Bio) → Contains w.bios q → is_gone q ≡ true → is_waiting q.phase ≡ false)
      (fits : FitsBio y result) where
    -- the numbers of those that stay
    staying_numbers : AreNumbers (map (λ z. z.number) staying) w.next_bio
    staying_numbers = numbers-kept (λ (z : Bio). z.number) (λ (z : Bio). not (is_gone z)) w.next_bio w.bios hold.numbers

    -- it stays
    stays : Contains staying y
    stays = Contains-filter (λ (z : Bio). not (is_gone z)) w.bios y (find-Contains is_parent w.bios y found)
        (not_from_false (is_gone y) own)

    -- and is found
    found_staying : find is_parent staying ≡ Some y
    found_staying = found_itself (λ (z : Bio). z.number) w.next_bio staying y staying_numbers stays

    -- a fact of each bio afterwards
    each_completed : (P Q : Bio → Type 0) → (Q y → P (risen y))
        → ((z : Bio) → is_parent z ≡ false → is_gone z ≡ false → Q z → P z)
        → All Q w.bios → All P completed.bios
    each_completed P Q here there facts =
        all_changed (λ (z : Bio). z.number) risen w.next_bio staying y staying_numbers found_staying
        P (λ (z : Bio). (is_gone z ≡ false) × Q z) (λ both. here both.1) (λ z e both. there z e both.0 both.1)
        (all_both (λ (z : Bio). is_gone z ≡ false) Q staying
        (All-weaker (λ (z : Bio). not (is_gone z) ≡ true) (λ (z : Bio). is_gone z ≡ false)
        (λ z passes. not-true (is_gone z) passes) staying
        (filter_passes (λ (z : Bio). not (is_gone z)) w.bios))
        (All-filter (λ (z : Bio). not (is_gone z)) Q w.bios facts))

    -- a bio of the number of one that is Waiting doesn't go
    spared_parent : (p : ℕ) (q : Bio) → bio_at w p ≡ Some q → is_waiting q.phase ≡ true
        → AllByRecursion (IsSpared is_gone (λ z. z.number == p)) w.bios
    spared_parent p q at waiting = All-from_contained (IsSpared is_gone (λ z. z.number == p)) w.bios (λ z here gone.
        false_from_ne_true (z.number == p) (λ e.
        let itself : bio_at w z.number ≡ Some z =
        found_itself (λ (v : Bio). v.number) w.next_bio w.bios z hold.numbers here in
        let there : bio_at w p ≡ Some z = subst (λ (n : ℕ). bio_at w n ≡ Some z) (eqb-true z.number p e) itself in
        let same : z ≡ q = cc in
        let waits : is_waiting z.phase ≡ true = subst (λ (v : Bio). is_waiting v.phase ≡ true) (sym same) waiting in
        let waits_not : is_waiting z.phase ≡ false = ended z here gone in
        cc))

    -- what is Waiting stays so, where it isn't the one
    waiting_completed : (p : ℕ) → p ≢ y.number → (o : Option Bio) → bio_at w p ≡ o
        → IsSomeAnd o (λ q. IsTrue (is_waiting q.phase))
        → IsSomeAnd (bio_at completed p) (λ q. IsTrue (is_waiting q.phase))
    waiting_completed p other None at has = absurd has
    waiting_completed p other (Some q) at has =
        let unchanged : bio_at completed p ≡ find (λ (z : Bio). z.number == p) staying =
        at-unchanged (λ (z : Bio). z.number) risen (λ z. refl) y.number p other staying in
        let kept : find (λ (z : Bio). z.number == p) staying ≡ bio_at w p =
        find-spared is_gone (λ (z : Bio). z.number == p) w.bios (spared_parent p q at has) in
        subst (λ (o : Option Bio). IsSomeAnd o (λ q. IsTrue (is_waiting q.phase))) (sym (unchanged ∙ kept ∙ at)) has

    -- a parent stays
    parent_completed : (o : Owner) → is_child_of o y.number ≡ false → HasItsParent w.bios o
        → HasItsParent completed.bios o
    parent_completed (owners.Child parent index) apart has =
        waiting_completed parent (eqb-false parent y.number apart) (bio_at w parent) refl has
    parent_completed _ apart has = has

    -- the children of another bio are those that it had, but for the one
    children_completed : (n : ℕ) → n ≢ y.number
        → children_of completed n ≡ change_where is_parent risen (children_of w n)
    children_completed n other =
        filter-changed is_parent risen (λ (z : Bio). is_child_of z.owner n) (λ z e. refl) staying
        ∙ ap (λ (zs : List Bio). change_where is_parent risen zs)
        (filter-spared is_gone (λ (z : Bio). is_child_of z.owner n) w.bios
        (each_of (IsSpared is_gone (λ (z : Bio). is_child_of z.owner n))
        (λ z gone. child_of_one z.owner y.number n other gone) w.bios))

    -- as pieces they are as before
    shapes_kept : (n : ℕ) → n ≢ y.number
        → map shape_of_child (children_of completed n) ≡ map shape_of_child (children_of w n)
    shapes_kept n other =
        ap (λ (zs : List Bio). map shape_of_child zs) (children_completed n other)
        ∙ map-changed is_parent risen shape_of_child (λ z e. refl) (children_of w n)

    -- the family of the one
    family_here : IsFamilyInOrder w.topology w.bios y → IsFamilyInOrder w.topology completed.bios (risen y)
    family_here is = record {
      parent = parent_completed y.owner own is.parent;
      pieces = λ waiting. absurd cc;
      not_complete = λ waiting. absurd cc;
      root = λ root. refl;
    }

    -- the family of another one
    family_there : (z : Bio) → is_parent z ≡ false → is_gone z ≡ false → IsFamilyInOrder w.topology w.bios z
        → IsFamilyInOrder w.topology completed.bios z
    family_there z e stays is =
        let other : z.number ≢ y.number = eqb-false z.number y.number e in
        record {
          parent = parent_completed z.owner stays is.parent;
          pieces = λ waiting. subst (AreItsPieces w z) (sym (shapes_kept z.number other)) (is.pieces waiting);
          not_complete = λ waiting.
              subst (λ (zs : List Bio). list_all (λ (v : Bio). is_done v.phase) zs ≡ false)
              (sym (children_completed z.number other))
              (all-fewer is_parent (λ (v : Bio). is_done v.phase) risen (λ v e. refl) (children_of w z.number)
              (is.not_complete waiting));
          root = is.root;
        }

    -- those that go read for no taste
    reads_completed : AllByRecursion (IsSpared is_gone (λ z. is_taste_root z.owner)) w.bios
    reads_completed = each_of (IsSpared is_gone (λ (z : Bio). is_taste_root z.owner))
        (λ z gone. child_no_read z.owner y.number gone) w.bios

    -- whether the read of a taste is out stays
    any_same : list_any (λ (z : Bio). is_taste_root z.owner) completed.bios ≡ list_any
        (λ (z : Bio). is_taste_root z.owner) w.bios
    any_same = any-changed is_parent risen (λ (z : Bio). is_taste_root z.owner) (λ z e. refl) staying
        ∙ any-spared is_gone (λ (z : Bio). is_taste_root z.owner) w.bios reads_completed

    -- the bios are in order afterwards
    completed_hold : BiosOf completed
    completed_hold = record {
      numbers = numbers-changed (λ (z : Bio). z.number) is_parent risen (λ z e. refl) w.next_bio staying
          staying_numbers;
      order = each_completed (IsBioInOrder (granted_in w) w.topology) (IsBioInOrder (granted_in w) w.topology)
          (order_turned w y phases.Up (λ r. Some result)) (λ z e stays is. is) hold.order;
      families = each_completed (IsFamilyInOrder w.topology completed.bios) (IsFamilyInOrder w.topology w.bios)
          family_here family_there hold.families;
      disks = record {
        at_disk = each_completed (HasItsDisk w) (HasItsDisk w) (λ at sent. absurd cc) (λ z e stays at. at)
            hold.disks.at_disk;
        one_busy = pairs_turned w is_parent risen (λ z. refl) staying
            (AllPairs-filter (NotBothBusy w.topology) (λ (z : Bio). not (is_gone z)) w.bios hold.disks.one_busy);
      };
      read_out = subst (λ (b : Bool). IsTrue b ↔ IsTrue (option_map_or (λ s. is_read_out s.asked) w.taste false))
          (sym any_same) hold.read_out;
      owners = each_completed (HasItsOwner w) (HasItsOwner w)
          (owner_stays w.handles w.taste y (risen y) refl refl refl y.owner) (λ z e stays comes. comes) hold.owners;
      results = each_completed HasItsResult HasItsResult
          (λ has up. fits_turned y phases.Up (λ r. Some result) (Some result) fits) (λ z e stays has. has) hold.results;
      read = record {
        one = rw (count-changed is_parent risen (λ (z : Bio). is_taste_root z.owner) (λ z e. refl) staying
            ∙ count-spared is_gone (λ (z : Bio). is_taste_root z.owner) w.bios reads_completed) hold.read.one;
        sector = each_completed (ReadsSector w) (ReadsSector w) (λ reads. reads) (λ z e stays reads. reads)
            hold.read.sector;
      };
    }

-- An Up of a child keeps a mesh firm, whether it is the last or not.

module _ (w : World) (firm : Firm w) (x y : Bio) (index : ℕ) (found : bio_at w x.number ≡ Some x)
    (up : is_up x.phase ≡ true)
    (owner : x.owner ≡ owners.Child y.number index) (there : bio_at w y.number ≡ Some y)
    (waits : is_waiting y.phase ≡ true)
    (complete : is_complete (turn w x phases.Done (λ r. r)) y.number ≡ true) where
  -- the bios of the world
  hold : BiosOf w
  hold = firm.bios

  -- the world in which the child is Done
  abbrev pub gathered : World
  gathered = turn w x phases.Done (λ r. r)

  -- whether a bio is the child
  abbrev pub is_one : Bio → Bool
  is_one c = c.number == x.number

  -- how it is changed
  abbrev pub ended_one : Bio → Bio
  ended_one = turned phases.Done (λ r. r)

  -- the children of the parent
  abbrev pub cs : List Bio
  cs = children_of w y.number

  -- the child is one of them
  is_child : is_child_of x.owner y.number ≡ true
  is_child = rw owner (eq-eqb y.number y.number refl)

  -- it stands among the bios, and so does the parent
  x_stands : Contains w.bios x
  x_stands = find-Contains is_one w.bios x found

  -- the parent stands
  y_stands : Contains w.bios y
  y_stands = find-Contains (λ (v : Bio). v.number == y.number) w.bios y there

  -- only_the_child the child has its number
  only_the_child : AllByRecursion (λ (c : Bio). is_one c ≡ true → c ≡ x) w.bios
  only_the_child = unique (λ (c : Bio). c.number) w.next_bio x.number w.bios x hold.numbers found

  -- after the change each child of the parent is Done
  done_after : (c : Bio) → Contains cs c → is_done (if is_one c then ended_one c else c).phase ≡ true
  done_after c here =
      let all_done : list_all (λ (v : Bio). is_done v.phase) (change_where is_one ended_one cs) ≡ true =
      subst (λ (vs : List Bio). list_all (λ (v : Bio). is_done v.phase) vs ≡ true)
      (children_kept w x phases.Done (λ r. r) y.number) complete in
      all_true (λ (v : Bio). is_done v.phase) (change_where is_one ended_one cs) all_done
      (if is_one c then ended_one c else c)
      (Contains-map (λ (v : Bio). if is_one v then ended_one v else v) cs c here)

  -- so it is Up or Done before
  over_by : (c : Bio) (b : Bool) → is_one c ≡ b → (is_one c ≡ true → c ≡ x)
      → is_done (if is_one c then ended_one c else c).phase ≡ true
      → (is_up c.phase || is_done c.phase) ≡ true
  over_by c true e same done = subst (λ (v : Bio). (is_up v.phase || is_done v.phase) ≡ true) (sym (same e))
      (or_left (is_up x.phase) (is_done x.phase) up)
  over_by c false e same done = or_right (is_up c.phase) (is_done c.phase) (rw e at done)

  -- each child of the parent
  pub over : (c : Bio) → Contains cs c → (is_up c.phase || is_done c.phase) ≡ true
  over c here =
      let stands = filter-Contains (λ (v : Bio). is_child_of v.owner y.number) w.bios c here in
      over_by c (is_one c) refl (at_contained (λ (v : Bio). is_one v ≡ true → v ≡ x) w.bios c only_the_child stands.0)
      (done_after c here)

  -- so none of them is Waiting
  none_waits : (c : Bio) → Contains w.bios c → is_child_of c.owner y.number ≡ true → is_waiting c.phase ≡ false
  none_waits c here gone =
      not_waiting (λ p. is_up p || is_done p) refl c.phase
      (over c (Contains-filter (λ (v : Bio). is_child_of v.owner y.number) w.bios c here gone))

  -- and each has its result
  results_there : AllByRecursion (λ (c : Bio). IsSomeAnd c.result (FitsBio c)) cs
  results_there = All-from_contained (λ (c : Bio). IsSomeAnd c.result (FitsBio c)) cs (λ c here.
      let stands = filter-Contains (λ (v : Bio). is_child_of v.owner y.number) w.bios c here in
      All-contains HasItsResult w.bios c hold.results stands.0 (over c here))

  -- the parent's family
  family : IsFamilyInOrder w.topology w.bios y
  family = All-contains (IsFamilyInOrder w.topology w.bios) w.bios y hold.families y_stands

  -- what the children came to is what they come to then
  pub same_results : child_results gathered y.number ≡ map got cs
  same_results =
      ap (λ (vs : List Bio). map got vs) (children_kept w x phases.Done (λ r. r) y.number)
      ∙ map-changed is_one ended_one got (λ c e. refl) cs

  -- the result of the parent
  abbrev pub result : BioResult
  result = joined_result y.cmd (child_results gathered y.number)

  -- it fits
  fits : FitsBio y result
  fits =
      subst (λ rs. FitsBio y (joined_result y.cmd rs)) (sym same_results)
      (result_fits w firm y y_stands cs x
      (Contains-filter (λ (v : Bio). is_child_of v.owner y.number) w.bios x x_stands is_child)
      results_there (family.pieces waits))

  -- the bios then are those without the children, the parent Up
  pub same_bios : (complete_parent gathered y).bios ≡ (completed w y result).bios
  same_bios =
      let goes : not (is_child_of x.owner y.number) ≡ false = rw is_child refl in
      filter-changed (λ (v : Bio). v.number == y.number) (turned phases.Up (λ r. Some result))
      (λ (v : Bio). not (is_child_of v.owner y.number))
      (λ v e. refl) gathered.bios
      ∙ ap (λ (vs : List Bio). change_where (λ v. v.number == y.number) (turned phases.Up (λ r. Some result)) vs)
      (filter-untouched is_one (λ (v : Bio). not (is_child_of v.owner y.number)) ended_one w.bios
      (untouched w x hold found (λ (v : Bio). not (is_child_of v.owner y.number)) ended_one goes goes))

  -- the world then is firm
  parent_firm : Firm (complete_parent gathered y)
  parent_firm =
      let own : is_child_of y.owner y.number ≡ false =
      not_own_child w y y.owner
      (All-contains (λ (v : Bio). ComesFromItsOwner w.handles w.taste v v.owner) w.bios y hold.owners y_stands) in
      subst (λ (vs : List Bio). Firm (record w { bios = vs })) (sym same_bios)
      (bios_are_apart w (completed w y result).bios w.next_bio firm
      (completed_hold w y result hold there own none_waits fits))

  -- the parent isn't the child
  pub apart : y.number ≢ x.number
  apart same =
      let here : bio_at w x.number ≡ Some y = subst (λ (n : ℕ). bio_at w n ≡ Some y) same there in
      let one : y ≡ x = cc in
      let waiting : is_waiting x.phase ≡ true = subst (λ (v : Bio). is_waiting v.phase ≡ true) one waits in
      let not_it : is_waiting x.phase ≡ false = not_waiting is_up refl x.phase up in
      cc

  -- the parent is found as it was
  pub found_then : bio_at gathered y.number ≡ Some y
  found_then = at-unchanged (λ (v : Bio). v.number) ended_one (λ v. refl) x.number y.number apart w.bios ∙ there

  -- so the last child goes up
  last_up : Firm (up_child w x y.number).0
  last_up = rw (complete, found_then) parent_firm

module _ (w : World) (firm : Firm w) (x : Bio) (parent index : ℕ) (found : bio_at w x.number ≡ Some x)
    (up : is_up x.phase ≡ true)
    (owner : x.owner ≡ owners.Child parent index) where
  -- by the parent
  by_parent : (y : Bio) → bio_at w parent ≡ Some y → is_waiting y.phase ≡ true
      → is_complete (turn w x phases.Done (λ r. r)) parent ≡ true → Firm (up_child w x parent).0
  by_parent y at has complete =
      let same : y.number ≡ parent = number_found (λ (v : Bio). v.number) w.bios parent y at in
      let of_it : x.owner ≡ owners.Child y.number index =
      subst (λ (n : ℕ). x.owner ≡ owners.Child n index) (sym same) owner in
      let there : bio_at w y.number ≡ Some y = subst (λ (n : ℕ). bio_at w n ≡ Some y) (sym same) at in
      let all_done : is_complete (turn w x phases.Done (λ r. r)) y.number ≡ true =
      subst (λ (n : ℕ). is_complete (turn w x phases.Done (λ r. r)) n ≡ true) (sym same) complete in
      subst (λ (n : ℕ). Firm (up_child w x n).0) same (last_up w firm x y index found up of_it there has all_done)

  -- whether it is the last
  by_last : (b : Bool) → is_complete (turn w x phases.Done (λ r. r)) parent ≡ b → Firm (up_child w x parent).0
  by_last true e =
      let family : IsFamilyInOrder w.topology w.bios x =
      All-contains (IsFamilyInOrder w.topology w.bios) w.bios x firm.bios.families
      (find-Contains (λ (v : Bio). v.number == x.number) w.bios x found) in
      let has : IsSomeAnd (bio_at w parent) (λ v. IsTrue (is_waiting v.phase)) = rw owner at family.parent in
      let y = some_and_of (λ (v : Bio). IsTrue (is_waiting v.phase)) (bio_at w parent) has in
      by_parent y.0 y.1 y.2 e
  by_last false e = rw e
      (turns_stay_firm w x phases.Done (λ r. r) (may_end w x parent index firm.bios found owner up e) firm)

-- an Up of a child keeps a mesh firm
pub child_ups_stay_firm : ChildUpsStayFirm
child_ups_stay_firm w b x parent index found up owner firm =
    by_last w firm x parent index (found_there w b x found) up owner
    (is_complete (turn w x phases.Done (λ r. r)) parent) refl
