-- A bio goes up: what becomes of the rows, and what contracts see of it.
use Rattle.std.proofs.Common.{◌≡◌, ◌≢◌, ◌⊎◌, ℕ, ◌+◌, ◌^◌, ◌<◌, ◌≤◌, List, [], ◌∷◌, map, length, not, true, Option, Some, Result, Ok, Err, sym, refl, ap, ◌∙◌, subst, inl, inr, arith, IfOk, OnOk, OnErr, IfSome, rules}
use Rattle.std.proofs.lemmas.Bool.{cases_eq}
use Rattle.std.specs.Option.{option_map, option_map_or}
use Rattle.geo_model.specs.declared.step.Owner.{Owner}
use Rattle.geo_model.specs.declared.step.Owner.TheVariants as owners
use Rattle.geo_model.specs.declared.step.Phase.TheVariants as phases
use Rattle.geo_model.specs.World.{BioOf, is_up, is_root, is_child_of, change_number, bio_among}
use Rattle.geo_slots.specs.Slots.{SlotsView, IsRising, value_at, with_value, without}
use Rattle.geo_slots.proofs.RowLemmas.{IsRising_ends, filter-items}
use Rattle.geo_bio.specs.declared.bio.Bio.{Bio}
use Rattle.geo_bio.specs.declared.bio.Held.{Held}
use Rattle.geo_bio.specs.declared.bio.Risen.{Risen}
use Rattle.geo_bio.specs.declared.bio.Risen.TheVariants as risen
use Rattle.geo_bio.specs.BioTable.{BioTableView, AreInOrder, has_phase, with_phase}
use Rattle.geo_bio.specs.Rows.{as_bio, seen_row, Child, family, FollowFrom, IsTable}
use Rattle.geo_bio.specs.Gather.{counted, changed_at, is_last, rows_up}
use Rattle.geo_bio.specs.Up.{resolved, are_in, after_up, told_of_up}
use Rattle.geo_bio.proofs.TableLemmas.{value_at-filter, table_without_root, up_facts, bio_among-rows, seen, in_phase, in_order}
use Rattle.geo_bio.proofs.FamilyLemmas.{IsChildUp, done_rows, parent_done, split, fewer, are_in-last, are_in-other, seen_counted, table_counted, gone, no_child, table_complete, completed_is}

-- the numbers of a family stay below the next number
family_below : (p low : ℕ) (rows : List (ℕ × Bio)) (high first place : ℕ) → IsRising low rows high
    → FollowFrom first place (family rows p)
    → (length (family rows p) ≡ 0) ⊎ (first + length (family rows p) ≤ high)
family_below p low [] high first place rising follow = inl refl
family_below p low (row ∷ rows) high first place rising follow =
    search (
      rules,
      IsRising_ends (row.0 + 1) rows high rising.1,
      family_below p (row.0 + 1) rows high (first + 1) (place + 1) rising.1,
      family_below p (row.0 + 1) rows high first place rising.1,
    )

changed_at-some : (change : Bio → Bio) (rows : List (ℕ × Bio)) (n : ℕ) (x : Bio) → value_at rows n ≡ Some x
    → changed_at change rows n ≡ with_value rows n (change x)
changed_at-some change rows n x found = ap (λ o. option_map_or (λ (v : Bio). with_value rows n (change v)) o rows) found

-- a child that goes up, with its parent
pub child_up : (rows : List (ℕ × Bio)) (next n p k : ℕ) (x : Bio) → IsTable rows next → value_at rows n ≡ Some x
    → is_up x.phase ≡ true → x.owner ≡ owners.Child p k → (y : Bio) × IsChildUp rows n p k x y
child_up rows next n p k x t found up owner = search (rules, t.parents n x p k found owner)

module _ (rows : List (ℕ × Bio)) (next n p k : ℕ) (x y : Bio) (t : IsTable rows next)
    (u : IsChildUp rows n p k x y) where
  pub children_below : y.first_child + y.children ≤ next
  children_below =
      let s = split rows next n p k x y t u in
      let less = fewer rows next n p k x y t u in
      elim (family_below p 1 rows next y.first_child 0 t.rising s.follow) [
        | inl none ↦ absurd (omega (arith, less, s.count, none))
        | inr below ↦ omega (arith, below, s.count)
      ]

  module _ (log : ℕ → Option (List ℕ)) where
    pub record IsRisen (after : List (ℕ × Bio)) : Type 0 where
      pub table : IsTable after next
      pub seen_rows : map seen_row after ≡ after_up log (map seen_row rows) (as_bio n x) (owners.Child p k)
      pub told : is_last y ≡ are_in (change_number n (with_phase phases.Done) (map seen_row rows)) p

    last_up : y.finished + 1 ≡ y.children → IsRisen (rows_up log rows n p y)
    last_up last =
        search (
          rules,
          gone rows next n p k x y t u last,
          value_at-filter (λ row. not (is_child_of row.1.owner p)) rows p y u.parent
              (ap not (no_child rows next n p k x y t u last)),
          are_in-last rows next n p k x y t u last,
          table_complete rows next n p k x y t u last,
          completed_is rows next n p k x y t u last log,
        )

    other_up : y.finished + 1 < y.children → IsRisen (rows_up log rows n p y)
    other_up more =
        search (
          rules,
          changed_at-some counted (done_rows rows next n p k x y t u) p y (parent_done rows next n p k x y t u),
          are_in-other rows next n p k x y t u more,
          table_counted rows next n p k x y t u,
          seen_counted rows next n p k x y t u,
        )

    pub is_risen : IsRisen (rows_up log rows n p y)
    is_risen = search (rules, cases_eq (y.finished + 1) y.children, last_up, other_up, fewer rows next n p k x y t u)

-- A root goes up

told_root : (log : ℕ → Option (List ℕ)) (bios : List (BioOf Held)) (x : BioOf Held) (owner : Owner)
    → is_root owner ≡ true → told_of_up log bios x owner ≡ risen.Root (resolved log x.result)
told_root log bios x (owners.Child p k) root = absurd (cc)
told_root log bios x _ root = refl

after_root : (log : ℕ → Option (List ℕ)) (rows : List (ℕ × Bio)) (n : ℕ) (x : BioOf Held) (owner : Owner)
    → x.number ≡ n → is_root owner ≡ true → map seen_row (without rows n) ≡ after_up log (map seen_row rows) x owner
after_root log rows n x (owners.Child p k) same root = absurd (cc)
after_root log rows n x _ same root = search (rules, filter-items seen_row (λ y. y.number) (λ row. refl) n rows)

root_unless_child : (owner : Owner) → ((p k : ℕ) → owner ≡ owners.Child p k → ⊥) → is_root owner ≡ true
root_unless_child (owners.Child p k) other = absurd (other p k refl)
root_unless_child _ other = refl

-- What the calls of `up` leave

either_answer : {T E : Type 0} (r : Result T E) (P Q : Type 0) → OnOk r P → OnErr r Q → P ⊎ Q
either_answer (Ok v) P Q ok err = inl ok
either_answer (Err e) P Q ok err = inr err

-- what became of a bio that went up, as contracts see it
pub record IsRaised {E : Type 0} (log : ℕ → Option (List ℕ)) (v : BioTableView) (new : SlotsView Bio) (n : ℕ)
    (r : Result Risen E) : Type 0 where
  pub table : IsTable new.rows new.next
  pub told : IfSome (bio_among v.bios n) (λ z. IfOk r (λ w. w ≡ told_of_up log v.bios z z.owner))
  pub rises : IfSome (bio_among v.bios n) (λ z. OnOk r (map seen_row new.rows ≡ after_up log v.bios z z.owner))
  pub bios_stay : OnErr r (map seen_row new.rows ≡ v.bios)
  pub next_stays : new.next ≡ v.next
  pub room_stays : new.spare ≡ v.spare
  pub ordered : AreInOrder (seen new)

-- the bio that is up, which was asked for by its number
pub record IsGot (s : SlotsView Bio) (v : BioTableView) (m n : ℕ) (x : Bio) : Type 0 where
  pub view : seen s ≡ v
  pub table : IsTable s.rows s.next
  pub same : m ≡ n
  pub found : value_at s.rows n ≡ Some x
  pub up : is_up x.phase ≡ true

-- it was found
module _ (s : SlotsView Bio) {v : BioTableView} {m n : ℕ} {o : Option Bio} {x : Bio} (view : seen s ≡ v)
    (table : IsTable s.rows s.next) (same : m ≡ n) (got : o ≡ value_at s.rows m) (some : o ≡ Some x)
    (is : has_phase is_up v.bios n ≡ true) where
  pub up_got : IsGot s v m n x
  up_got = search (rules, in_phase is_up s view same is got x some)

-- so that is what became of it, where its going leaves these rows
module _ {old : SlotsView Bio} {v : BioTableView} {m n : ℕ} {x : Bio} (got : IsGot old v m n x) {E : Type 0}
    (log : ℕ → Option (List ℕ)) (new : SlotsView Bio) (r : Result Risen E) (after : List (ℕ × Bio))
    (table : IsTable after old.next)
    (seen_after : map seen_row after ≡ after_up log (map seen_row old.rows) (as_bio n x) x.owner)
    (told : IfOk r (λ w. w ≡ told_of_up log (map seen_row old.rows) (as_bio n x) x.owner))
    (rises : OnOk r (new ≡ record old { rows = after })) (stays : OnErr r (new ≡ old)) where
  among : bio_among (map seen_row old.rows) n ≡ Some (as_bio n x)
  among = bio_among-rows old.rows n ∙ ap (option_map (as_bio n)) got.found

  became : (new ≡ record old { rows = after }) ⊎ (new ≡ old)
  became = either_answer r _ _ rises stays

  table_now : IsTable new.rows new.next
  table_now = search rules

  raised : IsRaised log v new n r
  raised = search (rules, in_order new.rows new.next new.spare table_now.rising, among)

-- A child goes up

module _ {old : SlotsView Bio} {v : BioTableView} {m n p k : ℕ} {x : Bio} (got : IsGot old v m n x)
    (owner : x.owner ≡ owners.Child p k) where
  -- its parent waits for it
  its_parent : (y : Bio) × IsChildUp old.rows n p k x y
  its_parent = child_up old.rows old.next n p k x got.table got.found got.up owner

  -- it isn't its own parent
  pub apart : p ≢ m
  apart = search (rules, its_parent)

  -- one more can be counted in the parent
  pub counts : IfSome (value_at old.rows p) (λ y. y.finished + 1 < 2 ^ 32)
  counts = search (rules, its_parent, fewer old.rows old.next n p k x, split old.rows old.next n p k x)

  -- and the numbers of its children are below the next one
  pub follow : old.next < 2 ^ 64 → IfSome (value_at old.rows p) (λ y. y.first_child + y.children < 2 ^ 64)
  follow bound = search (rules, its_parent, children_below old.rows old.next n p k x)

  module _ {E : Type 0} (log : ℕ → Option (List ℕ)) (new : SlotsView Bio) (r : Result Risen E)
      (told : IfSome (value_at old.rows p) (λ y. IfOk r (λ z. z ≡ risen.InParent p (is_last y))))
      (rises : IfSome (value_at old.rows p)
      (λ y. OnOk r (new ≡ record old { rows = rows_up log old.rows m p y })))
      (stays : OnErr r (new ≡ old)) where
    rises_there : OnOk r (new ≡ record old { rows = rows_up log old.rows n p its_parent.0 })
    rises_there = search rules

    risen_rows : IsRisen old.rows old.next n p k x its_parent.0 got.table its_parent.1 log
        (rows_up log old.rows n p its_parent.0)
    risen_rows = is_risen old.rows old.next n p k x its_parent.0 got.table its_parent.1 log

    told_there : IfOk r (λ w. w ≡ told_of_up log (map seen_row old.rows) (as_bio n x) x.owner)
    told_there = search (rules, ap (risen.InParent p) risen_rows.told)

    -- so that is what became of a child
    pub raised_child : IsRaised log v new n r
    raised_child =
        raised got log new r (rows_up log old.rows n p its_parent.0) risen_rows.table
        (risen_rows.seen_rows ∙ ap (after_up log (map seen_row old.rows) (as_bio n x)) (sym owner)) told_there
        rises_there stays

-- A root goes up

module _ {old : SlotsView Bio} {v : BioTableView} {m n : ℕ} {x : Bio} (got : IsGot old v m n x)
    (other : (p k : ℕ) → x.owner ≡ owners.Child p k → ⊥) {E : Type 0} (log : ℕ → Option (List ℕ))
    (new : SlotsView Bio) (r : Result Risen E)
    (told : IfSome (value_at old.rows m) (λ y. IfOk r (λ z. z ≡ risen.Root (resolved log y.held))))
    (gone : OnOk r (new ≡ record old { rows = without old.rows m })) (stays : OnErr r (new ≡ old)) where
  -- it is a root, since it is no child
  is_a_root : is_root x.owner ≡ true
  is_a_root = root_unless_child x.owner other

  -- so that is what became of a root
  pub raised_root : IsRaised log v new n r
  raised_root =
      raised got log new r (without old.rows n)
      (table_without_root old.rows old.next n x got.table got.found is_a_root (up_facts x.phase got.up).1)
      (after_root log old.rows n (as_bio n x) x.owner refl is_a_root)
      (subst (λ w. IfOk r (λ z. z ≡ w))
      (sym (told_root log (map seen_row old.rows) (as_bio n x) x.owner is_a_root))
      (subst (λ o. IfSome o (λ y. IfOk r (λ z. z ≡ risen.Root (resolved log y.held))))
      (ap (value_at old.rows) got.same ∙ got.found) told))
      (subst (λ l. OnOk r (new ≡ record old { rows = without old.rows l })) got.same gone) stays
