-- The rows of a table of bios: what stands where after a change, the families, and what contracts see of it all.
use Rattle.std.specs.Prelude.{is_some, count_by}
use Rattle.std.specs.List.{cons_option, list_all}
use Rattle.std.specs.Option.{option_map, option_or, MatchOption}
use Rattle.std.specs.List.Sorted.{IsStrictlyIncreasing}
use Rattle.std.proofs.Common.{◌≡◌, ◌≢◌, ℕ, zero, suc, ◌+◌, ◌<◌, ◌≤◌, ◌==◌, nat_le, cond, List, [], ◌∷◌, ◌++◌, map, filter, find, length, Bool, true, false, Option, Some, None, IfSome, All, sym, refl, ap, ◌∙◌, subst, inl, inr, arith, rules}
use Rattle.std.proofs.lemmas.Bool.{cases_Bool, cases_eq, eq-eqb, ne_eqb, MatchBool-at_true, MatchBool-at_false}
use Rattle.std.proofs.lemmas.List.Elements.{All-cons, All-nil, filter_map-append}
use Rattle.std.proofs.lemmas.List.Folds.{find-append}
use Rattle.std.proofs.lemmas.List.Sums.{sum_by-cons}
use Rattle.std.proofs.lemmas.Option.{same_Some, MatchOption-at_some}
use Rattle.geo_model.specs.Errno.{Errno}
use Rattle.geo_model.specs.declared.step.Owner.{Owner}
use Rattle.geo_model.specs.declared.step.Owner.TheVariants as owners
use Rattle.geo_model.specs.declared.step.Phase.{Phase}
use Rattle.geo_model.specs.declared.step.Phase.TheVariants as phases
use Rattle.geo_model.specs.World.{BioOf, is_down, is_busy, is_up, is_done, is_waiting, is_root, is_child_of, children_among, change_number, bio_among}
use Rattle.geo_model.proofs.FindLists.{find-map}
use Rattle.geo_slots.specs.Slots.{SlotsView, IsRising, value_at, with_value, without}
use Rattle.geo_slots.proofs.RowLemmas.{IsRising_ends, IsRising_from, IsRising-push, IsRising-with_value, IsRising-without, with_value_below, without_below, value_at_below, value_at-set, value_at-kept, value_at-without, value_at-gone, find-items, change-items}
use Rattle.geo_bio.specs.declared.bio.Bio.{Bio}
use Rattle.geo_bio.specs.declared.bio.Held.{Held}
use Rattle.geo_bio.specs.BioTable.{BioTableView, AreInOrder, HasParent, has_phase, is_going, with_phase, delivered, delivered_result}
use Rattle.geo_bio.specs.Rows.{as_bio, seen_row, at_phase, up_holding, Child, child_of, family, FollowFrom, StandFrom, HasFamily, WaitsIn, IsTable, KnowsChildren}

-- Values under numbers

-- rows that have a value under a number: those before it, and those behind
pub record StandsAt {T : Type 0} (rows : List (ℕ × T)) (n : ℕ) (x : T) : Type 0 where
  pub front : List (ℕ × T)
  pub back : List (ℕ × T)
  pub rows_are : rows ≡ front ++ (n, x) ∷ back
  pub written : (w : T) → with_value rows n w ≡ front ++ (n, w) ∷ back
  pub gone : without rows n ≡ front ++ back

pub stands_at : {T : Type 0} (n : ℕ) (x : T) (low : ℕ) (rows : List (ℕ × T)) (high : ℕ) → IsRising low rows high
    → value_at rows n ≡ Some x → StandsAt rows n x
stands_at n x low [] high rising found = absurd (cc)
stands_at n x low (row ∷ rows) high rising found =
    elim (cases_eq row.0 n) [
      | inl here ↦
          let is : row.1 ≡ x = same_Some _ _ (rw (eq-eqb row.0 n here) at found) in
          let below : n < row.0 + 1 = omega (arith, here) in
          record {
            front = [];
            back = rows;
            rows_are = λ i. (here i, is i) ∷ rows;
            written = λ w. rw (eq-eqb row.0 n here)
                (ap (λ more. (n, w) ∷ more) (with_value_below n (row.0 + 1) w rows high rising.1 below));
            gone = rw (eq-eqb row.0 n here) (without_below n (row.0 + 1) rows high rising.1 below);
          }
      | inr other ↦
          let s = stands_at n x (row.0 + 1) rows high rising.1 (rw (ne_eqb row.0 n other) at found) in
          record {
            front = row ∷ s.front;
            back = s.back;
            rows_are = ap (λ more. row ∷ more) s.rows_are;
            written = λ w. rw (ne_eqb row.0 n other) (ap (λ more. row ∷ more) (s.written w));
            gone = rw (ne_eqb row.0 n other) (ap (λ more. row ∷ more) s.gone);
          }
    ]

module _ {T : Type 0} (rows : List (ℕ × T)) (n : ℕ) (x w : T) (found : value_at rows n ≡ Some x) where
  pub at_written : value_at (with_value rows n w) n ≡ Some w
  at_written = value_at-set n w rows (ap is_some found)

  -- what holds of the value that was written, and of the others as they stood, holds of each
  pub each_written : (P : ℕ → T → Type 0) → P n w
      → ((m : ℕ) (y : T) → m ≢ n → value_at rows m ≡ Some y → P m y)
      → (m : ℕ) (y : T) → value_at (with_value rows n w) m ≡ Some y → P m y
  each_written P here others m y at =
      elim (cases_eq m n) [
        | inl same ↦
            search (rules, same_Some _ _ (sym at_written ∙ ap (value_at (with_value rows n w)) (sym same) ∙ at))
        | inr other ↦ others m y other (sym (value_at-kept n m w rows other) ∙ at)
      ]

module _ {T : Type 0} (rows more : List (ℕ × T)) where
  -- a look-up in rows and those behind them
  pub value_at-append : (m : ℕ) → value_at (rows ++ more) m ≡ option_or (value_at rows m) (value_at more m)
  value_at-append m = search (rules, find-append (λ (row : ℕ × T). row.0 == m) rows more)

  -- what holds of each value of these and of each behind them holds of each
  pub each_appended : (P : ℕ → T → Type 0) → ((m : ℕ) (y : T) → value_at rows m ≡ Some y → P m y)
      → ((m : ℕ) (y : T) → value_at rows m ≡ None → value_at more m ≡ Some y → P m y)
      → (m : ℕ) (y : T) → value_at (rows ++ more) m ≡ Some y → P m y
  each_appended P old new m y at = search (rules, value_at-append m)

module _ {T : Type 0} (test : ℕ × T → Bool) where
  pub IsRising-filter : (low : ℕ) (rows : List (ℕ × T)) (high : ℕ) → IsRising low rows high
      → IsRising low (filter test rows) high
  IsRising-filter low [] high rising = rising
  IsRising-filter low (row ∷ rows) high rising =
      let rest = IsRising-filter (row.0 + 1) rows high rising.1 in
      elim (cases_Bool (test row)) [
        | inl passes ↦ rw passes (rising.0, rest)
        | inr fails ↦ rw fails (IsRising_from low (row.0 + 1) (filter test rows) high (omega (arith, rising.0)) rest)
      ]

  -- what stands among them stood before, and passes
  pub value_at-filter_back : (low : ℕ) (rows : List (ℕ × T)) (high m : ℕ) (y : T) → IsRising low rows high
      → value_at (filter test rows) m ≡ Some y → (value_at rows m ≡ Some y) × (test (m, y) ≡ true)
  value_at-filter_back low [] high m y rising found = absurd (cc)
  value_at-filter_back low (row ∷ rows) high m y rising found =
      elim (cases_Bool (test row)) [
        | inl passes ↦
            kept passes (λ at. value_at-filter_back (row.0 + 1) rows high m y rising.1 at) (rw passes at found)
        | inr fails ↦
            let later = value_at-filter_back (row.0 + 1) rows high m y rising.1 (rw fails at found) in
            let other : row.0 ≢ m = λ same. let absent =
            value_at_below m (row.0 + 1) rows high rising.1 (omega (arith, same)) in let e =
            sym absent ∙ later.0 in absurd (cc) in
            (rw (ne_eqb row.0 m other) later.0, later.1)
      ]
    where
      kept : test row ≡ true
          → (value_at (filter test rows) m ≡ Some y → (value_at rows m ≡ Some y) × (test (m, y) ≡ true))
          → value_at (row ∷ filter test rows) m ≡ Some y → (value_at (row ∷ rows) m ≡ Some y) × (test (m, y) ≡ true)
      kept passes back at =
          elim (cases_eq row.0 m) [
            | inl same ↦
                search rules
            | inr other ↦
                search rules
          ]

  -- what passes still stands
  pub value_at-filter : (rows : List (ℕ × T)) (m : ℕ) (y : T) → value_at rows m ≡ Some y → test (m, y) ≡ true
      → value_at (filter test rows) m ≡ Some y
  value_at-filter [] m y found passes = absurd (cc)
  value_at-filter (row ∷ rows) m y found passes =
      elim (cases_eq row.0 m) [
        | inl same ↦
            search rules
        | inr other ↦
            search (rules, value_at-filter rows m y (rw (ne_eqb row.0 m other) at found) passes)
      ]

-- A search from a number on goes through what contracts see
pub find-from_seen : (n : ℕ) (rows : List (ℕ × Bio))
    → option_map (λ x. x.number) (find (λ x. nat_le n x.number) (map seen_row rows))
    ≡ option_map (λ row. row.0) (find (λ row. nat_le n row.0) rows)
find-from_seen n rows = search (rules, find-map (λ (x : BioOf Held). nat_le n x.number) seen_row rows)

-- after a change of one number, what a look-up finds at another
pub value_at-changed_other : {T : Type 0} → (old new : SlotsView T) (n m : ℕ) (change : T → T) → m ≢ n
    → MatchOption (value_at old.rows n) (new ≡ old) (λ x. new
    ≡ record old { rows = with_value old.rows n (change x) }) → value_at new.rows m ≡ value_at old.rows m
value_at-changed_other {T} old new n m change differs changed = by_case (value_at old.rows n) changed
  where
    by_case : (o : Option T)
        → MatchOption o (new ≡ old) (λ x. new ≡ record old { rows = with_value old.rows n (change x) })
        → value_at new.rows m ≡ value_at old.rows m
    by_case (Some x) is = ap (λ s. value_at s.rows m) is ∙ value_at-kept n m (change x) old.rows differs
    by_case None is = ap (λ s. value_at s.rows m) is

-- Families

pub family-append : (p : ℕ) (rows more : List (ℕ × Bio)) → family (rows ++ more) p ≡ family rows p ++ family more p
family-append p rows more =
    filter_map-append (λ (row : ℕ × Bio). child_of p row.0 (is_done row.1.phase) row.1.owner) rows more

-- a child in the family of its parent
pub own_child : (p n k : ℕ) (done : Bool)
    → child_of p n done (owners.Child p k) ≡ Some (record { number = n; place = k; done = done })
own_child p n k done = rw (eq-eqb p p refl) refl

family-push : (p n : ℕ) (w : Bio) (rows : List (ℕ × Bio)) → is_root w.owner ≡ true
    → family (rows ++ (n, w) ∷ []) p ≡ family rows p
family-push p n w rows root = search (rules, family-append p rows ((n, w) ∷ []))

module _ (p n : ℕ) (x : Bio) (rows : List (ℕ × Bio)) (high : ℕ) (rising : IsRising 1 rows high)
    (found : value_at rows n ≡ Some x) where
  -- the rows with the bio
  pub family-with : (s : StandsAt rows n x) → family rows p
      ≡ family s.front p ++ cons_option (child_of p n (is_done x.phase) x.owner) (family s.back p)
  family-with s = ap (λ r. family r p) s.rows_are ∙ family-append p s.front ((n, x) ∷ s.back)

  -- a change that leaves the owner, and whether the bio is Done, leaves every family
  pub family-with_value : (w : Bio)
      → child_of p n (is_done w.phase) w.owner ≡ child_of p n (is_done x.phase) x.owner
      → family (with_value rows n w) p ≡ family rows p
  family-with_value w same = search (rules, stands_at n x 1 rows high rising found, family-append p)

  -- a root that goes was in no family
  pub family-without_root : is_root x.owner ≡ true → family (without rows n) p ≡ family rows p
  family-without_root root = search (rules, stands_at n x 1 rows high rising found, family-append p)

-- a bio that no bio names as its parent has no family
pub family-none : (p low : ℕ) (rows : List (ℕ × Bio)) (high : ℕ) → IsRising low rows high
    → ((m : ℕ) (x : Bio) (k : ℕ) → value_at rows m ≡ Some x → x.owner ≡ owners.Child p k → ⊥) → family rows p ≡ []
family-none p low [] high rising none = refl
family-none p low (row ∷ rows) high rising none =
    let rest = family-none p (row.0 + 1) rows high rising.1 (λ m x k found. none m x k (later m x found)) in
    let first : value_at (row ∷ rows) row.0 ≡ Some row.1 = rw (eq-eqb row.0 row.0 refl) refl in
    rw (no_child row.1.owner (λ k. none row.0 row.1 k first)) rest
  where
    later : (m : ℕ) (x : Bio) → value_at rows m ≡ Some x → value_at (row ∷ rows) m ≡ Some x
    later m x found = search (rules, value_at_below m (row.0 + 1) rows high rising.1)

    no_child : (owner : Owner) → ((k : ℕ) → owner ≡ owners.Child p k → ⊥)
        → child_of p row.0 (is_done row.1.phase) owner ≡ None
    no_child (owners.Child parent index) other =
        rw (ne_eqb parent p (λ same. other index (ap (λ q. owners.Child q index) same))) refl
    no_child _ other = refl

-- a number without a bio has no family
pub no_family : (rows : List (ℕ × Bio)) (next n : ℕ) → IsTable rows next → value_at rows n ≡ None → family rows n ≡ []
no_family rows next n t absent =
    family-none n 1 rows next t.rising (λ m x k at of. let q = t.parents m x n k at of in let e = sym absent ∙ q.1 in
    absurd (cc))

-- a bio that doesn't wait is another than one that does
pub not_it : (rows : List (ℕ × Bio)) (n : ℕ) (x : Bio) → value_at rows n ≡ Some x → is_waiting x.phase ≡ false
    → (p : ℕ) → WaitsIn rows p → p ≢ n
not_it rows n x found was p q same = search rules

-- so one that waits still waits once the other is written
pub waits_written : (rows : List (ℕ × Bio)) (n : ℕ) (x w : Bio) → value_at rows n ≡ Some x
    → is_waiting x.phase ≡ false → (p : ℕ) → WaitsIn rows p → WaitsIn (with_value rows n w) p
waits_written rows n x w found was p q = search (rules, value_at-kept n p w rows (not_it rows n x found was p q))

-- and once more come behind
pub waits_appended : (rows more : List (ℕ × Bio)) (p : ℕ) → WaitsIn rows p → WaitsIn (rows ++ more) p
waits_appended rows more p q = (q.0, value_at-append rows more p ∙ ap (λ o. option_or o (value_at more p)) q.1, q.2)

-- A table keeps its families

-- a bio that isn't Waiting changes to another phase without Done
pub table_changed : (rows : List (ℕ × Bio)) (next n : ℕ) (x w : Bio) → IsTable rows next → value_at rows n ≡ Some x
    → w.owner ≡ x.owner → is_done w.phase ≡ is_done x.phase → is_waiting x.phase ≡ false
    → is_waiting w.phase ≡ false → IsTable (with_value rows n w) next
table_changed rows next n x w t found owner done was is =
    record {
      rising = IsRising-with_value n w 1 rows next t.rising;
      families = each_written rows n x w found (λ m y. HasFamily (family (with_value rows n w) m) y)
          (let none : family rows n ≡ [] = MatchBool-at_false _ _ was (t.families n x found) in
          rw (kin n, none, is) refl)
          (λ m y other at. rw (kin m) (t.families m y at));
      parents = λ m y p k. each_written rows n x w found
          (λ l z. z.owner ≡ owners.Child p k → WaitsIn (with_value rows n w) p)
          (λ of. waits_written rows n x w found was p (t.parents n x p k found (sym owner ∙ of)))
          (λ l z other at of. waits_written rows n x w found was p (t.parents l z p k at of)) m y;
    }
  where
    kin : (p : ℕ) → family (with_value rows n w) p ≡ family rows p
    kin p = family-with_value p n x rows next t.rising found w (λ i. child_of p n (done i) (owner i))

-- a root is added
pub table_pushed : (rows : List (ℕ × Bio)) (next : ℕ) (w : Bio) → IsTable rows next → is_root w.owner ≡ true
    → is_waiting w.phase ≡ false → IsTable (rows ++ (next, w) ∷ []) (next + 1)
table_pushed rows next w t root is =
    record {
      rising = IsRising-push 1 rows next w t.rising;
      families = each_appended rows ((next, w) ∷ []) (λ m y. HasFamily (family (rows ++ (next, w) ∷ []) m) y)
          (λ m y at. rw (family-push m next w rows root) (t.families m y at))
          (λ m y absent at.
          rw (family-push m next w rows root, no_family rows next m t absent, ← it_is m y at, is) refl);
      parents = λ m y p k. each_appended rows ((next, w) ∷ [])
          (λ l z. z.owner ≡ owners.Child p k → WaitsIn (rows ++ (next, w) ∷ []) p)
          (λ l z at of. waits_appended rows ((next, w) ∷ []) p (t.parents l z p k at of))
          (λ l z absent at of.
          let not_root : true ≡ false = sym root ∙ ap is_root (ap (λ (v : Bio). v.owner) (it_is l z at) ∙ of) in
          absurd (cc)) m y;
    }
  where
    it_is : (m : ℕ) (y : Bio) → value_at ((next, w) ∷ []) m ≡ Some y → w ≡ y
    it_is m y at =
        elim (cases_eq next m) [
          | inl same ↦ same_Some _ _ (rw (eq-eqb next m same) at at)
          | inr other ↦ absurd (let no = rw (ne_eqb next m other) at at in cc)
        ]

-- a root goes
pub table_without_root : (rows : List (ℕ × Bio)) (next n : ℕ) (x : Bio) → IsTable rows next
    → value_at rows n ≡ Some x → is_root x.owner ≡ true → is_waiting x.phase ≡ false → IsTable (without rows n) next
table_without_root rows next n x t found root was =
    record {
      rising = IsRising-without n 1 rows next t.rising;
      families = search (rules, family-without_root, stood);
      parents = λ m y p k at of. search (rules, t.parents m y p k (stood m y at) of, value_at-without n p rows);
    }
  where
    stood : (m : ℕ) (y : Bio) → value_at (without rows n) m ≡ Some y → value_at rows m ≡ Some y
    stood m y at = search (rules, value_at-gone n rows, value_at-without n m rows)

-- a bio in one of these phases is neither Done nor Waiting

pub down_facts : (phase : Phase) → is_down phase ≡ true → (is_done phase ≡ false) × (is_waiting phase ≡ false)
down_facts phases.Down e = (refl, refl)
down_facts _ e = absurd (cc)

pub busy_facts : (phase : Phase) → is_busy phase ≡ true → (is_done phase ≡ false) × (is_waiting phase ≡ false)
busy_facts (phases.Busy seat) e = (refl, refl)
busy_facts _ e = absurd (cc)

pub up_facts : (phase : Phase) → is_up phase ≡ true → (is_done phase ≡ false) × (is_waiting phase ≡ false)
up_facts phases.Up e = (refl, refl)
up_facts _ e = absurd (cc)

-- nor is one that is on its way itself
pub going_facts : (phase : Phase) → is_going phase ≡ true → (is_done phase ≡ false) × (is_waiting phase ≡ false)
going_facts phases.Waiting e = absurd (cc)
going_facts phases.Done e = absurd (cc)
going_facts _ e = (refl, refl)

-- and one that waits isn't Done
pub waiting_not_done : (phase : Phase) → is_waiting phase ≡ true → is_done phase ≡ false
waiting_not_done phases.Waiting e = refl
waiting_not_done _ e = absurd (cc)

-- The bios stand in order of their numbers

-- an empty list of numbers is increasing
no_numbers : IsStrictlyIncreasing []
no_numbers k less = absurd (omega (arith, less))

-- increasing numbers still increase with a lower one before them
increases_on : (n : ℕ) (rows : List (ℕ × Bio)) (high : ℕ) → IsRising (n + 1) rows high
    → IsStrictlyIncreasing (map (λ x. x.number) (map seen_row rows))
    → IsStrictlyIncreasing (n ∷ map (λ x. x.number) (map seen_row rows))
increases_on n [] high rising up zero less = absurd (omega (arith, less))
increases_on n [] high rising up (suc k) less = absurd (omega (arith, less))
increases_on n (row ∷ rows) high rising up zero less = omega (arith, rising.0)
increases_on n (row ∷ rows) high rising up (suc k) less = search rules

-- the numbers of rising rows increase
increases : (low : ℕ) (rows : List (ℕ × Bio)) (high : ℕ) → IsRising low rows high
    → IsStrictlyIncreasing (map (λ x. x.number) (map seen_row rows))
increases low [] high rising = no_numbers
increases low (row ∷ rows) high rising =
    increases_on row.0 rows high rising.1 (increases (row.0 + 1) rows high rising.1)

-- they are below the end
below : (low : ℕ) (rows : List (ℕ × Bio)) (high : ℕ) → IsRising low rows high
    → All (λ n. n < high) (map (λ x. x.number) (map seen_row rows))
below low [] high rising = All-nil (λ n. n < high)
below low (row ∷ rows) high rising =
    search (rules, IsRising_ends (row.0 + 1) rows high rising.1, below (row.0 + 1) rows high rising.1)

-- none is below the beginning
above : (least low : ℕ) (rows : List (ℕ × Bio)) (high : ℕ) → least ≤ low → IsRising low rows high
    → All (λ x. least ≤ x.number) (map seen_row rows)
above least low [] high under rising = All-nil (λ x. least ≤ x.number)
above least low (row ∷ rows) high under rising =
    All-cons (λ x. least ≤ x.number) (seen_row row) (map seen_row rows) (omega (arith, under, rising.0))
    (above least (row.0 + 1) rows high (omega (arith, under, rising.0)) rising.1)

-- so a table's bios are in order
pub in_order : (rows : List (ℕ × Bio)) (next spare : ℕ) → IsRising 1 rows next
    → AreInOrder (record { bios = map seen_row rows; next = next; spare = spare })
in_order rows next spare rising = record {
  numbers = (increases 1 rows next rising, below 1 rows next rising);
  from_one = above 1 1 rows next (omega arith) rising;
  next = IsRising_ends 1 rows next rising;
}

-- What contracts see

-- the bio of a number among what contracts see
pub bio_among-rows : (rows : List (ℕ × Bio)) (n : ℕ)
    → bio_among (map seen_row rows) n ≡ option_map (as_bio n) (value_at rows n)
bio_among-rows rows n = find-items seen_row (λ x. x.number) (λ row. refl) n rows

-- a bio in a phase is there
pub bio_of_phase : (test : Phase → Bool) (rows : List (ℕ × Bio)) (n : ℕ)
    → has_phase test (map seen_row rows) n ≡ true → (x : Bio) × (value_at rows n ≡ Some x) × (test x.phase ≡ true)
bio_of_phase test rows n e = search (rules, bio_among-rows rows n)

-- a changed bio among what contracts see
pub seen_changed : (rows : List (ℕ × Bio)) (next n : ℕ) (x w : Bio) (change : BioOf Held → BioOf Held)
    → IsTable rows next → value_at rows n ≡ Some x → change (as_bio n x) ≡ as_bio n w
    → map seen_row (with_value rows n w) ≡ change_number n change (map seen_row rows)
seen_changed rows next n x w change t found changed =
    sym (change-items seen_row (λ y. y.number) (λ row. refl) n w change 1 rows next t.rising
    (λ value at. ap (λ y. change (as_bio n y)) (same_Some _ _ (sym at ∙ found)) ∙ changed))

-- what contracts see of a table
abbrev pub seen : SlotsView Bio → BioTableView
seen s = record { bios = map seen_row s.rows; next = s.next; spare = s.spare }

-- the phase of a bio that is there
pub phase_there : (test : Phase → Bool) (rows : List (ℕ × Bio)) (n : ℕ) (x : Bio) → value_at rows n ≡ Some x
    → has_phase test (map seen_row rows) n ≡ true → test x.phase ≡ true
phase_there test rows n x found e = search (rules, bio_among-rows rows n)

-- a bio of the number that was asked for is seen in a phase
module _ (test : Phase → Bool) (s : SlotsView Bio) {v : BioTableView} {m n : ℕ} (view : seen s ≡ v) (same : m ≡ n)
    (is : has_phase test v.bios n ≡ true) where
  -- it has it among the rows too
  has : has_phase test (map seen_row s.rows) n ≡ true
  has = subst (λ (w : BioTableView). has_phase test w.bios n ≡ true) (sym view) is

  module _ {o : Option Bio} (got : o ≡ value_at s.rows m) where
    -- so it was found
    pub never_none : o ≡ None → ⊥
    never_none none = search (rules, bio_of_phase test s.rows n has)

    -- at its number, and in the phase
    pub in_phase : (x : Bio) → o ≡ Some x → (value_at s.rows n ≡ Some x) × (test x.phase ≡ true)
    in_phase x some = search (rules, phase_there test s.rows n x)

-- What is left

-- the bio of a number changed, and the rest of the table stayed
pub record Leaves (v : BioTableView) (new : SlotsView Bio) (n : ℕ) (change : BioOf Held → BioOf Held) : Type 0 where
  pub table : IsTable new.rows new.next
  pub seen_is : seen new ≡ record v { bios = change_number n change v.bios }
  pub ordered : AreInOrder (seen new)

-- a bio and the one that it became have the same owner, and are neither Done nor Waiting
pub record Moves (change : BioOf Held → BioOf Held) (n : ℕ) (x w : Bio) : Type 0 where
  pub owner : w.owner ≡ x.owner
  pub undone : is_done w.phase ≡ false
  pub idle : is_waiting w.phase ≡ false
  pub changed : change (as_bio n x) ≡ as_bio n w

module _ {v : BioTableView} (s new : SlotsView Bio) (view : seen s ≡ v) (table : IsTable s.rows s.next) {m n : ℕ}
    (same : m ≡ n) where
  -- the bio in a phase, which is neither Done nor Waiting, changed so
  pub one_changed : (test : Phase → Bool)
      → ((phase : Phase) → test phase ≡ true → (is_done phase ≡ false) × (is_waiting phase ≡ false))
      → has_phase test v.bios n ≡ true → (change : BioOf Held → BioOf Held) (write : Bio → Bio)
      → ((x : Bio) → Moves change n x (write x))
      → MatchOption (value_at s.rows m) (new ≡ s)
      (λ x. new ≡ record s { rows = with_value s.rows m (write x) }) → Leaves v new n change
  one_changed test facts is change write moves became =
      let had : has_phase test (map seen_row s.rows) n ≡ true =
      subst (λ (w : BioTableView). has_phase test w.bios n ≡ true) (sym view) is in
      let x = bio_of_phase test s.rows n had in
      let after : new ≡ record s { rows = with_value s.rows n (write x.0) } =
      MatchOption-at_some _ _ x.0 x.1
      (subst (λ k. MatchOption (value_at s.rows k) (new ≡ s)
      (λ y. new ≡ record s { rows = with_value s.rows k (write y) })) same became) in
      let was = facts x.0.phase x.2 in
      let is_so = moves x.0 in
      let bios = seen_changed s.rows s.next n x.0 (write x.0) change table x.1 is_so.changed in
      let kept = table_changed s.rows s.next n x.0 (write x.0) table x.1 is_so.owner (is_so.undone ∙ sym was.0) was.1
      is_so.idle in
      subst (λ (w : BioTableView). Leaves w new n change) view
      (subst (λ (t : SlotsView Bio). Leaves (seen s) t n change) (sym after) (record {
        table = kept;
        seen_is = λ i. record { bios = bios i; next = s.next; spare = s.spare };
        ordered = in_order (with_value s.rows n (write x.0)) s.next s.spare kept.rising;
      }))

-- so it is with one that its disk has answered
pub one_delivered : {v : BioTableView} (s : SlotsView Bio) → seen s ≡ v → IsTable s.rows s.next → {m n : ℕ} → m ≡ n
    → has_phase is_busy v.bios n ≡ true → (place : ℕ) (errno : Option Errno) {held : Held} {x : Bio}
    → value_at s.rows m ≡ Some x → held ≡ delivered_result x.cmd place errno
    → Leaves v (record s { rows = with_value s.rows m (up_holding held x) }) n (delivered place errno)
one_delivered s view table {m} same is place errno {held} {x} found holds =
    let new : SlotsView Bio = record s { rows = with_value s.rows m (up_holding held x) } in
    let write : Bio → Bio = λ y. up_holding (delivered_result y.cmd place errno) y in
    one_changed s new view table same is_busy busy_facts is (delivered place errno) write
    (λ y. record { owner = refl; undone = refl; idle = refl; changed = refl })
    (subst (λ o. MatchOption o (new ≡ s) (λ y. new ≡ record s { rows = with_value s.rows m (write y) })) (sym found)
    (ap (λ h. record s { rows = with_value s.rows m (up_holding h x) }) holds))

-- and with one that comes to another phase
pub one_set : {v : BioTableView} (s : SlotsView Bio) → seen s ≡ v → IsTable s.rows s.next → {m n : ℕ} → m ≡ n
    → has_phase is_going v.bios n ≡ true → (phase : Phase) → is_going phase ≡ true → {x : Bio}
    → value_at s.rows m ≡ Some x
    → Leaves v (record s { rows = with_value s.rows m (at_phase phase x) }) n (with_phase phase)
one_set s view table {m} same is phase goes {x} found =
    let new : SlotsView Bio = record s { rows = with_value s.rows m (at_phase phase x) } in
    let facts = going_facts phase goes in
    one_changed s new view table same is_going going_facts is (with_phase phase) (at_phase phase)
    (λ y. record { owner = refl; undone = facts.0; idle = facts.1; changed = refl })
    (subst (λ o. MatchOption o (new ≡ s) (λ y. new ≡ record s { rows = with_value s.rows m (at_phase phase y) }))
    (sym found) refl)

-- The children of a bio

-- a row is a child of a bio, or not
pub data Standing (p number : ℕ) (done : Bool) (owner : Owner) : Type 0 where
  kid : (index : ℕ) → owner ≡ owners.Child p index → is_child_of owner p ≡ true
      → child_of p number done owner ≡ Some (record { number = number; place = index; done = done })
      → Standing p number done owner
  stranger : is_child_of owner p ≡ false → child_of p number done owner ≡ None → Standing p number done owner

pub standing : (p number : ℕ) (done : Bool) (owner : Owner) → Standing p number done owner
standing p number done (owners.Line handle line) = stranger refl refl
standing p number done owners.Taste = stranger refl refl
standing p number done (owners.Child q index) =
    elim (cases_eq q p) [
      | inl same ↦
          kid index (ap (λ r. owners.Child r index) same) (rw (eq-eqb q p same) refl) (rw (eq-eqb q p same) refl)
      | inr differs ↦ stranger (rw (ne_eqb q p differs) refl) (rw (ne_eqb q p differs) refl)
    ]

-- the family of a bio among what contracts see
pub record IsSeenFamily (p : ℕ) (seen_children : List (BioOf Held)) (children : List Child) : Type 0 where
  pub same_length : length seen_children ≡ length children
  pub same_count : count_by (λ x. is_done x.phase) seen_children ≡ count_by (λ c. c.done) children
  pub same_all : list_all (λ x. is_done x.phase) seen_children ≡ list_all (λ c. c.done) children
  pub same_places : (first place : ℕ) → FollowFrom first place children → StandFrom p first place seen_children

-- one child more
one_seen : (p : ℕ) (x : BioOf Held) (c : Child) (xs : List (BioOf Held)) (cs : List Child) → x.number ≡ c.number
    → x.owner ≡ owners.Child p c.place → is_done x.phase ≡ c.done → IsSeenFamily p xs cs
    → IsSeenFamily p (x ∷ xs) (c ∷ cs)
one_seen p x c xs cs number owner same rest =
    search (
      rules,
      sum_by-cons (λ (y : BioOf Held). cond (is_done y.phase) 1 0) x xs,
      sum_by-cons (λ (d : Child). cond d.done 1 0) c cs,
    )

pub seen_family : (p : ℕ) (rows : List (ℕ × Bio))
    → IsSeenFamily p (children_among (map seen_row rows) p) (family rows p)
seen_family p [] = search rules
seen_family p (row ∷ rows) =
    let rest = seen_family p rows in
    elim (standing p row.0 (is_done row.1.phase) row.1.owner) [
      | kid index owner inside mine ↦
          rw (inside, mine)
          (one_seen p (seen_row row) (record { number = row.0; place = index; done = is_done row.1.phase }) _ _
          refl owner refl rest)
      | stranger outside none ↦ rw (outside, none) rest
    ]

-- a Waiting bio knows its children
pub family_told : (rows : List (ℕ × Bio)) (next n : ℕ) → IsTable rows next → (o : Option Bio) → o ≡ value_at rows n
    → IfSome o (λ x. is_waiting x.phase ≡ true → KnowsChildren n (children_among (map seen_row rows) n) x)
family_told rows next n t None found = tt
family_told rows next n t (Some x) found =
    λ waits.
    search (rules, MatchBool-at_true _ _ waits (t.families n x (sym found)), seen_family n rows)

-- the parent of a child waits
pub parent_told : (rows : List (ℕ × Bio)) (next n : ℕ) → IsTable rows next → (o : Option Bio) → o ≡ value_at rows n
    → IfSome o (λ x. HasParent (map seen_row rows) x.owner)
parent_told rows next n t None found = tt
parent_told rows next n t (Some x) found = at x.owner refl where
  at : (owner : Owner) → x.owner ≡ owner → HasParent (map seen_row rows) owner
  at (owners.Line handle line) is = tt
  at owners.Taste is = tt
  at (owners.Child parent index) is =
      search (rules, t.parents n x parent index (sym found) is, bio_among-rows rows parent)
