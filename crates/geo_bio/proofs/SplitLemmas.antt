-- A bio is split: its children stand at the end of the table, and it waits for them.
use Rattle.std.proofs.Common.{◌≡◌, ◌≢◌, ℕ, suc, ◌+◌, ◌-◌, ◌^◌, ◌<◌, ◌≤◌, max, List, [], ◌∷◌, ◌++◌, map, length, ◌==◌, true, false, Option, Some, sym, refl, ap, ◌∙◌, subst, inl, inr, arith, append_assoc, append-nil, rules}
use Rattle.std.proofs.lemmas.Bool.{cases_eq, eq-eqb, ne_eqb, MatchBool-at_false}
use Rattle.std.proofs.lemmas.List.{map-append}
use Rattle.std.proofs.lemmas.Option.{same_Some, MatchOption-at_some}
use Rattle.std.specs.Prelude.{count_by, if◌then◌else◌}
use Rattle.std.specs.Option.{option_or, MatchOption, IfSome}
use Rattle.geo_model.specs.declared.span.Piece.{Piece}
use Rattle.geo_model.specs.declared.step.Owner.TheVariants as owners
use Rattle.geo_model.specs.declared.step.Phase.TheVariants as phases
use Rattle.geo_model.specs.World.{is_done, is_down, is_waiting, change_number, bio_among}
use Rattle.geo_bio.specs.BioTable.{BioTableView, has_phase, with_phase}
use Rattle.geo_slots.specs.Slots.{SlotsView, IsRising, value_at, with_value, with_insert}
use Rattle.geo_slots.proofs.RowLemmas.{IsRising-with_value, with_value_below, value_at_next}
use Rattle.geo_bio.proofs.TableLemmas.{at_written, each_written, value_at-append, each_appended, family-append, family-with_value, no_family, waits_written, waits_appended, down_facts, bio_among-rows, seen_changed, seen, in_phase}
use Rattle.geo_bio.specs.declared.bio.Bio.{Bio}
use Rattle.geo_bio.specs.Rows.{as_bio, seen_row, child_of, family, FollowFrom, HasFamily, IsSplitInto, WaitsIn, IsTable}
use Rattle.geo_bio.specs.Split.{child_for, children_for, waiting, with_all, numbered, split_into}

-- the children come at the end
pub with_all-numbered : {T : Type 0} → (s : SlotsView T) (xs : List T)
    → with_all s xs ≡ record {
      rows = s.rows ++ numbered s.next xs;
      next = s.next + length xs;
      spare =
          s.spare - length xs;
    }
with_all-numbered s [] = search rules
with_all-numbered s (x ∷ xs) =
    let next : s.next + 1 + length xs ≡ s.next + suc (length xs) = omega arith in
    let spare : s.spare - 1 - length xs ≡ s.spare - suc (length xs) = omega arith in
    let rows = append_assoc s.rows ((s.next, x) ∷ []) (numbered (s.next + 1) xs) in
    with_all-numbered (with_insert s x) xs ∙ (λ i. record { rows = rows i; next = next i; spare = spare i })

pub length-children_for : (p : ℕ) (x : Bio) (k : ℕ) (pieces : List Piece) (targets : List (ℕ × ℕ))
    → length targets ≡ length pieces → length (children_for p x k pieces targets) ≡ length pieces
length-children_for p x k [] targets same = refl
length-children_for p x k (piece ∷ pieces) [] same = absurd (omega (arith, same))
length-children_for p x k (piece ∷ pieces) (target ∷ targets) same =
    ap suc (length-children_for p x (k + 1) pieces targets (omega (arith, same)))

-- the children as contracts see them
pub seen-children : (first p : ℕ) (x : Bio) (k n : ℕ) (pieces : List Piece) (targets : List (ℕ × ℕ))
    → n ≡ first + k
    → map seen_row (numbered n (children_for p x k pieces targets)) ≡ split_into first (as_bio p x) k pieces targets
seen-children first p x k n [] targets place = refl
seen-children first p x k n (piece ∷ pieces) [] place = refl
seen-children first p x k n (piece ∷ pieces) (target ∷ targets) place =
    search (rules, seen-children first p x (k + 1) (n + 1) pieces targets (omega (arith, place)))

pub IsRising-numbered : {T : Type 0} → (low : ℕ) (rows : List (ℕ × T)) (next : ℕ) (xs : List T)
    → IsRising low rows next → IsRising low (rows ++ numbered next xs) (next + length xs)
IsRising-numbered low [] next [] rising = omega (arith, rising)
IsRising-numbered low [] next (x ∷ xs) rising =
    let more : next + 1 + length xs ≡ next + suc (length xs) = omega arith in (
      rising,
      subst (λ high. IsRising (next + 1) (numbered (next + 1) xs) high) more
          (IsRising-numbered (next + 1) [] (next + 1) xs (omega arith)),
    )
IsRising-numbered low (row ∷ rows) next xs rising = (rising.0, IsRising-numbered (row.0 + 1) rows next xs rising.1)

-- a child that was made for a parent
pub record IsNewChild (p : ℕ) (y : Bio) : Type 0 where
  pub index : ℕ
  pub owner : y.owner ≡ owners.Child p index
  pub idle : is_waiting y.phase ≡ false

new_child : (p : ℕ) (x : Bio) (k n : ℕ) (pieces : List Piece) (targets : List (ℕ × ℕ)) (m : ℕ) (y : Bio)
    → value_at (numbered n (children_for p x k pieces targets)) m ≡ Some y → IsNewChild p y
new_child p x k n [] targets m y found = absurd (cc)
new_child p x k n (piece ∷ pieces) [] m y found = absurd (cc)
new_child p x k n (piece ∷ pieces) (target ∷ targets) m y found =
    elim (cases_eq n m) [
      | inl same ↦
          let y_is : child_for p x k piece target ≡ y = same_Some _ _ (rw (eq-eqb n m same) at found) in
          search (rules, ap (λ (z : Bio). z.owner) (sym y_is))
      | inr other ↦ new_child p x (k + 1) (n + 1) pieces targets m y (rw (ne_eqb n m other) at found)
    ]

-- the new children are the family of their parent, and of no other
family-other : (q p : ℕ) (x : Bio) (k n : ℕ) (pieces : List Piece) (targets : List (ℕ × ℕ)) → p ≢ q
    → family (numbered n (children_for p x k pieces targets)) q ≡ []
family-other q p x k n [] targets differs = refl
family-other q p x k n (piece ∷ pieces) [] differs = refl
family-other q p x k n (piece ∷ pieces) (target ∷ targets) differs =
    rw (ne_eqb p q differs) (family-other q p x (k + 1) (n + 1) pieces targets differs)

family-follows : (p : ℕ) (x : Bio) (k n : ℕ) (pieces : List Piece) (targets : List (ℕ × ℕ))
    → FollowFrom n k (family (numbered n (children_for p x k pieces targets)) p)
family-follows p x k n [] targets = tt
family-follows p x k n (piece ∷ pieces) [] = tt
family-follows p x k n (piece ∷ pieces) (target ∷ targets) =
    rw (eq-eqb p p refl) (refl, (refl, family-follows p x (k + 1) (n + 1) pieces targets))

family-length : (p : ℕ) (x : Bio) (k n : ℕ) (pieces : List Piece) (targets : List (ℕ × ℕ))
    → length (family (numbered n (children_for p x k pieces targets)) p) ≡ length (children_for p x k pieces targets)
family-length p x k n [] targets = refl
family-length p x k n (piece ∷ pieces) [] = refl
family-length p x k n (piece ∷ pieces) (target ∷ targets) =
    rw (eq-eqb p p refl) (ap suc (family-length p x (k + 1) (n + 1) pieces targets))

family-none_done : (p : ℕ) (x : Bio) (k n : ℕ) (pieces : List Piece) (targets : List (ℕ × ℕ))
    → count_by (λ c. c.done) (family (numbered n (children_for p x k pieces targets)) p) ≡ 0
family-none_done p x k n [] targets = refl
family-none_done p x k n (piece ∷ pieces) [] = refl
family-none_done p x k n (piece ∷ pieces) (target ∷ targets) =
    rw (eq-eqb p p refl) (family-none_done p x (k + 1) (n + 1) pieces targets)

module _ (rows : List (ℕ × Bio)) (next n : ℕ) (x : Bio) (pieces : List Piece) (targets : List (ℕ × ℕ)) where
  -- the rows after a split
  abbrev pub kids : List (ℕ × Bio)
  kids = numbered next (children_for n x 0 pieces targets)

  abbrev pub parent : Bio
  parent = waiting (length pieces) next x

  abbrev pub split_rows : List (ℕ × Bio)
  split_rows = with_value (rows ++ kids) n parent

  module _ (t : IsTable rows next) (found : value_at rows n ≡ Some x) (done : is_done x.phase ≡ false)
      (was : is_waiting x.phase ≡ false) (same : length targets ≡ length pieces) (few : length pieces < 2 ^ 32) where
    rising_all : IsRising 1 (rows ++ kids) (next + length (children_for n x 0 pieces targets))
    rising_all = IsRising-numbered 1 rows next (children_for n x 0 pieces targets) t.rising

    pub found_all : value_at (rows ++ kids) n ≡ Some x
    found_all = value_at-append rows kids n ∙ ap (λ o. option_or o (value_at kids n)) found

    at_parent : value_at split_rows n ≡ Some parent
    at_parent = at_written (rows ++ kids) n x parent found_all

    kin : (p : ℕ) → family split_rows p ≡ family rows p ++ family kids p
    kin p = family-with_value p n x (rows ++ kids) (next + length (children_for n x 0 pieces targets)) rising_all
        found_all parent (ap (λ b. child_of p n b x.owner) (sym done)) ∙ family-append p rows kids

    waits : (p : ℕ) → WaitsIn rows p → WaitsIn split_rows p
    waits p q = waits_written (rows ++ kids) n x parent found_all was p (waits_appended rows kids p q)

    own_family : HasFamily (family split_rows n) parent
    own_family =
        let none : family rows n ≡ [] = MatchBool-at_false _ _ was (t.families n x found) in
        let split : IsSplitInto (family kids n) parent = record {
          follow = family-follows n x 0 next pieces targets;
          count = family-length n x 0 next pieces targets ∙ length-children_for n x 0 pieces targets same;
          finished = family-none_done n x 0 next pieces targets;
          few = few;
        } in
        rw (kin n, none) split

    families : (m : ℕ) (y : Bio) → value_at split_rows m ≡ Some y → HasFamily (family split_rows m) y
    families =
        each_written (rows ++ kids) n x parent found_all (λ m y. HasFamily (family split_rows m) y) own_family
        (λ m y other at.
        let no_kids = family-other m n x 0 next pieces targets (λ here. other (sym here)) in
        each_appended rows kids (λ k z. family kids k ≡ [] → HasFamily (family split_rows k) z)
        (λ k z old none. rw (kin k, none, append-nil) (t.families k z old))
        (λ k z absent new none.
        rw (kin k, no_family rows next k t absent, none, (new_child n x 0 next pieces targets k z new).idle) refl)
        m y at no_kids)

    parents : (m : ℕ) (y : Bio) (p k : ℕ) → value_at split_rows m ≡ Some y → y.owner ≡ owners.Child p k
        → WaitsIn split_rows p
    parents m y p k =
        each_written (rows ++ kids) n x parent found_all (λ l z. z.owner ≡ owners.Child p k → WaitsIn split_rows p)
        (λ of. waits p (t.parents n x p k found of))
        (λ l z other. each_appended rows kids (λ i v. v.owner ≡ owners.Child p k → WaitsIn split_rows p)
        (λ i v old of. waits p (t.parents i v p k old of))
        (λ i v absent new of.
        let is : n ≡ p = let e = sym (new_child n x 0 next pieces targets i v new).owner ∙ of in cc in
        subst (λ q. WaitsIn split_rows q) is (parent, at_parent, refl)) l z) m y

    -- the table after a split
    pub table_split : IsTable split_rows (next + length (children_for n x 0 pieces targets))
    table_split = record {
      rising = IsRising-with_value n parent 1 (rows ++ kids)
          (next + length (children_for n x 0 pieces targets)) rising_all;
      families = families;
      parents = parents;
    }

-- what the two steps of a split leave: that the bio waits changes neither the next number nor the room
pub split_left : (mid new : SlotsView Bio) (rows : List (ℕ × Bio)) (high room n : ℕ) (change : Bio → Bio)
    → mid ≡ record { rows = rows; next = high; spare = room }
    → MatchOption (value_at mid.rows n) (new ≡ mid) (λ x. new
    ≡ record mid { rows = with_value mid.rows n (change x) })
    → IfSome (value_at rows n) (λ x. new.rows ≡ with_value rows n (change x)) × (new.next ≡ high)
    × (new.spare ≡ room)
split_left mid new rows high room n change all step = search rules

-- room that was made where it was wanting, and then taken, leaves what there was beyond it
pub room_left : (old made count : ℕ) → old ≤ made → count ≤ made → made ≤ max old count → made - count ≡ old - count
room_left old made count kept enough no_more = omega (arith, kept, enough, no_more)

-- What the public call makes of the rows

pub record IsSplit (rows : List (ℕ × Bio)) (next n : ℕ) (x : Bio) (pieces : List Piece) (targets : List (ℕ × ℕ))
    (new : List (ℕ × Bio)) (high : ℕ) : Type 0 where
  pub table : IsTable new high
  pub seen_rows : map seen_row new ≡ change_number n (with_phase phases.Waiting) (map seen_row rows)
      ++ split_into next (as_bio n x) 0 pieces targets
  pub grows : high ≡ next + length pieces

module _ (rows : List (ℕ × Bio)) (next n : ℕ) (x : Bio) (pieces : List Piece) (targets : List (ℕ × ℕ))
    (t : IsTable rows next) (found : value_at rows n ≡ Some x) (done : is_done x.phase ≡ false)
    (was : is_waiting x.phase ≡ false) (same : length targets ≡ length pieces) (few : length pieces < 2 ^ 32) where
  below_next : n < next
  below_next = search (rules, value_at_next n 1 rows next t.rising)

  rows_split : split_rows rows next n x pieces targets ≡ with_value rows n (parent rows next n x pieces targets)
      ++ kids rows next n x pieces targets
  rows_split =
      let w = parent rows next n x pieces targets in
      let rising = IsRising-numbered next [] next (children_for n x 0 pieces targets) (omega arith) in
      map-append (λ row. if row.0 == n then (n, w) else row) rows (kids rows next n x pieces targets)
      ∙ ap (λ more. with_value rows n w ++ more)
      (with_value_below n next w (kids rows next n x pieces targets)
      (next + length (children_for n x 0 pieces targets)) rising below_next)

  seen_split : map seen_row (split_rows rows next n x pieces targets)
      ≡ change_number n (with_phase phases.Waiting) (map seen_row rows) ++ split_into next (as_bio n x) 0 pieces targets
  seen_split =
      let w = parent rows next n x pieces targets in
      let before = seen_changed rows next n x w (with_phase phases.Waiting) t found refl in
      let after = seen-children next n x 0 next pieces targets (omega arith) in
      ap (map seen_row) rows_split ∙ map-append seen_row (with_value rows n w) (kids rows next n x pieces targets)
      ∙ (λ i. before i ++ after i)

  -- the rows that a split leaves
  pub is_split : (mid new : SlotsView Bio) (room : ℕ) (y : Bio) (children : List Bio)
      → mid ≡ record { rows = rows; next = next; spare = room } → y ≡ x
      → children ≡ children_for n y 0 pieces targets
      → IfSome (value_at (mid.rows ++ numbered mid.next children) n) (λ z. new.rows
      ≡ with_value (mid.rows ++ numbered mid.next children) n (waiting (length children) mid.next z))
      → new.next ≡ mid.next + length children → IsSplit rows next n x pieces targets new.rows new.next
  is_split mid new room y children mid_is y_is children_is after grows =
      let kids_are = children_is ∙ ap (λ z. children_for n z 0 pieces targets) y_is in
      let count = length-children_for n x 0 pieces targets same in
      let there = found_all rows next n x pieces targets t found done was same few in
      let rows_are =
      MatchOption-at_some _ _ x there
      (subst (λ cs. IfSome (value_at (rows ++ numbered next cs) n) (λ z. new.rows
      ≡ with_value (rows ++ numbered next cs) n (waiting (length cs) next z))) kids_are
      (subst (λ m. IfSome (value_at (m.rows ++ numbered m.next children) n) (λ z. new.rows
      ≡ with_value (m.rows ++ numbered m.next children) n
      (waiting (length children) m.next z))) mid_is after)) in
      let split_is : new.rows ≡ split_rows rows next n x pieces targets =
      rows_are ∙ ap (λ k. with_value (rows ++ kids rows next n x pieces targets) n (waiting k next x)) count in
      let high : new.next ≡ next + length (children_for n x 0 pieces targets) =
      grows ∙ (λ i. (mid_is i).next + length (kids_are i)) in
      record {
        table = rw (split_is, high) (table_split rows next n x pieces targets t found done was same few);
        seen_rows = ap (map seen_row) split_is ∙ seen_split;
        grows = high ∙ ap (λ k. next + k) count;
      }

-- What the public call leaves

-- the children are as many as the pieces
module _ (n : ℕ) (x : Bio) {items pieces : List Piece} {goals targets : List (ℕ × ℕ)} {children : List Bio}
    (made : children ≡ children_for n x 0 items goals) (items_are : items ≡ pieces) (goals_are : goals ≡ targets)
    (as_many : length targets ≡ length pieces) where
  pub children_counted : length children ≡ length pieces
  children_counted = search (rules, length-children_for n x 0 pieces targets as_many)

-- a bio was split, as contracts see it
pub record IsStarted (v : BioTableView) (new : SlotsView Bio) (n : ℕ) (pieces : List Piece) (targets : List (ℕ × ℕ))
    : Type 0 where
  pub table : IsTable new.rows new.next
  pub split : IfSome (bio_among v.bios n) (λ z. map seen_row new.rows
      ≡ change_number n (with_phase phases.Waiting) v.bios ++ split_into v.next z 0 pieces targets)
  pub grows : new.next ≡ v.next + length pieces

-- the bio, which is Down, was asked for by its number and found, and room was made for its children
module _ (s mid new : SlotsView Bio) {v : BioTableView} {m n : ℕ} {o : Option Bio} {x : Bio}
    {items pieces : List Piece} {goals targets : List (ℕ × ℕ)} {children : List Bio} (view : seen s ≡ v)
    (t : IsTable s.rows s.next) (same : m ≡ n) (got : o ≡ value_at s.rows m) (some : o ≡ Some x)
    (down : has_phase is_down v.bios n ≡ true) (items_are : items ≡ pieces) (goals_are : goals ≡ targets)
    (as_many : length targets ≡ length pieces) (few : length pieces < 2 ^ 32)
    (made : children ≡ children_for n x 0 items goals) (roomed : mid ≡ record s { spare = mid.spare })
    (rows_are : IfSome (value_at (mid.rows ++ numbered mid.next children) m) (λ z. new.rows
    ≡ with_value (mid.rows ++ numbered mid.next children) m (waiting (length children) mid.next z)))
    (grown : new.next ≡ mid.next + length children) where
  pub started : IsStarted v new n pieces targets
  started =
      let there = in_phase is_down s view same down got x some in
      let facts = down_facts x.phase there.1 in
      search (
        rules,
        is_split s.rows s.next n x pieces targets t there.0 facts.0 facts.1 as_many few mid new mid.spare x children
            roomed,
        bio_among-rows s.rows n,
      )
