-- A child comes in: its family counts one more that is Done, and the last one completes its parent.
use Rattle.std.specs.Prelude.{count_by, flat_map, if◌then◌else◌}
use Rattle.std.specs.List.{cons_option, list_all}
use Rattle.std.specs.Option.{option_map_or, option_and_then}
use Rattle.std.proofs.Common.{◌≡◌, ◌≢◌, ℕ, suc, ◌+◌, ◌<◌, ◌≤◌, ◌==◌, ◌&&◌, cond, not, List, [], ◌∷◌, ◌++◌, map, filter, length, Bool, true, false, Option, Some, sym, refl, ap, ◌∙◌, subst, arith, ◌-◌, append_assoc, rules}
use Rattle.std.proofs.lemmas.Bool.{eq-eqb, and_parts, not-true, MatchBool-at_true, MatchBool-at_false}
use Rattle.std.proofs.lemmas.List.{map-append}
use Rattle.std.proofs.lemmas.List.Elements.{filter-append}
use Rattle.std.proofs.lemmas.List.Folds.{list_all-append}
use Rattle.std.proofs.lemmas.List.Sums.{count_by-le-length, sum_by-cons}
use Rattle.std.proofs.lemmas.Option.{same_Some}
use Rattle.geo_model.specs.Errno.{Errno}
use Rattle.geo_model.specs.declared.step.BioResult.{BioResult}
use Rattle.geo_model.specs.declared.step.Owner.{Owner}
use Rattle.geo_model.specs.declared.step.Phase.{Phase}
use Rattle.geo_model.specs.World.{BioOf, is_done, is_waiting, is_child_of, children_among, change_number}
use Rattle.geo_model.specs.Bios.{up_with, bytes_of_result, first_failure}
use Rattle.geo_model.proofs.FilterLists.{filter-map}
use Rattle.geo_slots.specs.Slots.{IsRising, value_at, with_value, without}
use Rattle.geo_slots.proofs.RowLemmas.{IsRising-with_value, IsRising-without, value_at-kept, without_below, change-items}
use Rattle.geo_bio.specs.declared.bio.Bio.{Bio}
use Rattle.geo_bio.specs.declared.bio.Held.{Held}
use Rattle.geo_bio.specs.BioTable.{with_phase}
use Rattle.geo_bio.specs.Rows.{as_bio, seen_row, at_phase, up_holding, Child, child_of, family, FollowFrom, HasFamily, IsSplitInto, WaitsIn, IsTable}
use Rattle.geo_bio.specs.Gather.{counted, held_error, error_from, bytes_from, without_all, held_from}
use Rattle.geo_bio.specs.Up.{are_in, resolved, gathered, completed}
use Rattle.geo_bio.proofs.TableLemmas.{stands_at, at_written, each_written, waits_written, not_it, IsRising-filter, value_at-filter_back, value_at-filter, family-append, family-with, family-with_value, own_child, waiting_not_done, bio_among-rows, seen_changed, seen_family}
use Rattle.geo_model.specs.declared.step.BioResult.TheVariants as results
use Rattle.geo_model.specs.declared.step.Owner.TheVariants as owners
use Rattle.geo_model.specs.declared.step.Phase.TheVariants as phases
use Rattle.geo_bio.specs.declared.bio.Held.TheVariants as held

-- whether all are Done, by their number

count_first : (c : Child) (cs : List Child)
    → count_by (λ x. x.done) (c ∷ cs) ≡ cond c.done 1 0 + count_by (λ x. x.done) cs
count_first c cs = sum_by-cons (λ (x : Child). cond x.done 1 0) c cs

count_done : (c : Child) (cs : List Child) → c.done ≡ true
    → count_by (λ x. x.done) (c ∷ cs) ≡ 1 + count_by (λ x. x.done) cs
count_done c cs done = count_first c cs ∙ ap (λ b. cond b 1 0 + count_by (λ (x : Child). x.done) cs) done

count_open : (c : Child) (cs : List Child) → c.done ≡ false
    → count_by (λ x. x.done) (c ∷ cs) ≡ 0 + count_by (λ x. x.done) cs
count_open c cs done = count_first c cs ∙ ap (λ b. cond b 1 0 + count_by (λ (x : Child). x.done) cs) done

pub all_in : (xs : List Child) → count_by (λ c. c.done) xs ≡ length xs → list_all (λ c. c.done) xs ≡ true
all_in [] e = refl
all_in (c ∷ cs) e = search (rules, all_in cs, count_done c cs, count_by-le-length (λ (x : Child). x.done) cs)

pub not_all_in : (xs : List Child) → count_by (λ c. c.done) xs < length xs → list_all (λ c. c.done) xs ≡ false
not_all_in [] less = absurd (omega (arith, less))
not_all_in (c ∷ cs) less = search (rules, not_all_in cs, count_done c cs)

-- one more child is Done

pub record IsOneMoreDone (before after : List Child) : Type 0 where
  pub same_length : length after ≡ length before
  pub one_more : count_by (λ c. c.done) after ≡ count_by (λ c. c.done) before + 1
  pub follows : (f j : ℕ) → FollowFrom f j before → FollowFrom f j after

-- of the children in a row one that was open is Done
one_done : (number place : ℕ) (xs ys : List Child)
    → IsOneMoreDone (xs ++ record { number = number; place = place; done = false } ∷ ys)
    (xs ++ record { number = number; place = place; done = true } ∷ ys)
one_done number place [] ys =
    let c : Child = record { number = number; place = place; done = false } in
    let d : Child = record { number = number; place = place; done = true } in
    record {
      same_length = refl;
      one_more = omega (arith, count_open c ys refl, count_done d ys refl);
      follows = λ f j w. (w.0, (w.1.0, w.1.1));
    }
one_done number place (x ∷ xs) ys =
    let more = one_done number place xs ys in
    let c : Child = record { number = number; place = place; done = false } in
    let d : Child = record { number = number; place = place; done = true } in
    record {
      same_length = ap suc more.same_length;
      one_more = omega (arith, more.one_more, count_first x (xs ++ c ∷ ys), count_first x (xs ++ d ∷ ys));
      follows = λ f j w. (w.0, (w.1.0, more.follows (f + 1) (j + 1) w.1.1));
    }

pub family-done : (p n k : ℕ) (x : Bio) → x.owner ≡ owners.Child p k → is_done x.phase ≡ false
    → (rows : List (ℕ × Bio)) (high : ℕ) → IsRising 1 rows high → value_at rows n ≡ Some x
    → IsOneMoreDone (family rows p) (family (with_value rows n (at_phase phases.Done x)) p)
family-done p n k x owner busy rows high rising found =
    let s = stands_at n x 1 rows high rising found in
    let was : child_of p n (is_done x.phase) x.owner ≡ Some (record { number = n; place = k; done = false }) =
    (λ i. child_of p n (busy i) (owner i)) ∙ own_child p n k false in
    let is : child_of p n true x.owner ≡ Some (record { number = n; place = k; done = true }) =
    ap (child_of p n true) owner ∙ own_child p n k true in
    let before = family-with p n x rows high rising found s
    ∙ ap (λ o. family s.front p ++ cons_option o (family s.back p)) was in
    let after = ap (λ r. family r p) (s.written (at_phase phases.Done x))
    ∙ family-append p s.front ((n, at_phase phases.Done x) ∷ s.back)
    ∙ ap (λ o. family s.front p ++ cons_option o (family s.back p)) is in
    subst (λ (xs : List Child). IsOneMoreDone xs (family (with_value rows n (at_phase phases.Done x)) p)) (sym before)
    (subst (λ (ys : List Child). IsOneMoreDone (family s.front p
    ++ record { number = n; place = k; done = false } ∷ family s.back p) ys) (sym after)
    (one_done n k (family s.front p) (family s.back p)))

-- a change of what isn't seen
pub seen_same : (p : ℕ) (x w : Bio) (rows : List (ℕ × Bio)) (high : ℕ) → IsRising 1 rows high
    → value_at rows p ≡ Some x → as_bio p w ≡ as_bio p x → map seen_row (with_value rows p w) ≡ map seen_row rows
seen_same p x w rows high rising found same =
    search (rules, stands_at p x 1 rows high rising found, map-append seen_row)

other_child : (q p n k : ℕ) (b c : Bool) (owner : Owner) → owner ≡ owners.Child p k → p ≢ q
    → child_of q n b owner ≡ child_of q n c owner
other_child q p n k b c owner is differs = search rules

-- A child that goes up: it is Done, and counts in its parent

pub record IsChildUp (rows : List (ℕ × Bio)) (n p k : ℕ) (x y : Bio) : Type 0 where
  pub child : value_at rows n ≡ Some x
  pub owner : x.owner ≡ owners.Child p k
  pub busy : is_done x.phase ≡ false
  pub idle : is_waiting x.phase ≡ false
  pub parent : value_at rows p ≡ Some y
  pub waits : is_waiting y.phase ≡ true

module _ (rows : List (ℕ × Bio)) (next n p k : ℕ) (x y : Bio) (t : IsTable rows next)
    (u : IsChildUp rows n p k x y) where
  abbrev pub done_rows : List (ℕ × Bio)
  done_rows = with_value rows n (at_phase phases.Done x)

  pub rising_done : IsRising 1 done_rows next
  rising_done = IsRising-with_value n (at_phase phases.Done x) 1 rows next t.rising

  pub parent_done : value_at done_rows p ≡ Some y
  parent_done =
      value_at-kept n p (at_phase phases.Done x) rows
      (not_it rows n x u.child u.idle p (y, u.parent, u.waits)) ∙ u.parent

  pub split : IsSplitInto (family rows p) y
  split = MatchBool-at_true _ _ u.waits (t.families p y u.parent)

  pub one_more : IsOneMoreDone (family rows p) (family done_rows p)
  one_more = family-done p n k x u.owner u.busy rows next t.rising u.child

  pub seen_done : map seen_row done_rows ≡ change_number n (with_phase phases.Done) (map seen_row rows)
  seen_done = seen_changed rows next n x (at_phase phases.Done x) (with_phase phases.Done) t u.child refl

  pub kin : (q : ℕ) → q ≢ p → family done_rows q ≡ family rows q
  kin q differs =
      family-with_value q n x rows next t.rising u.child (at_phase phases.Done x)
      (other_child q p n k true (is_done x.phase) x.owner u.owner (λ same. differs (sym same)))

  -- whether all are in, by the count of those that were
  pub fewer : y.finished < y.children
  fewer = omega (
    arith,
    split.count,
    split.finished,
    one_more.same_length,
    one_more.one_more,
    count_by-le-length (λ (c : Child). c.done) (family done_rows p),
  )

  pub all_done : y.finished + 1 ≡ y.children → list_all (λ c. c.done) (family done_rows p) ≡ true
  all_done last =
      all_in (family done_rows p)
      (omega (arith, last, split.count, split.finished, one_more.same_length, one_more.one_more))

  pub are_in-last : y.finished + 1 ≡ y.children
      → are_in (change_number n (with_phase phases.Done) (map seen_row rows)) p ≡ true
  are_in-last last = ap (λ bios. are_in bios p) (sym seen_done) ∙ (seen_family p done_rows).same_all ∙ all_done last

  pub are_in-other : y.finished + 1 < y.children
      → are_in (change_number n (with_phase phases.Done) (map seen_row rows)) p ≡ false
  are_in-other more = ap (λ bios. are_in bios p) (sym seen_done) ∙ (seen_family p done_rows).same_all
      ∙ not_all_in (family done_rows p)
      (omega (arith, more, split.count, split.finished, one_more.same_length, one_more.one_more))

  -- the rows where others are still to come in
  abbrev pub counted_rows : List (ℕ × Bio)
  counted_rows = with_value done_rows p (counted y)

  pub seen_counted : map seen_row counted_rows ≡ change_number n (with_phase phases.Done) (map seen_row rows)
  seen_counted = seen_same p y (counted y) done_rows next rising_done parent_done refl ∙ seen_done

  kin_counted : (q : ℕ) → family counted_rows q ≡ family done_rows q
  kin_counted q = family-with_value q p y done_rows next rising_done parent_done (counted y) refl

  waits_counted : (q : ℕ) → WaitsIn rows q → WaitsIn counted_rows q
  waits_counted q w =
      search (
        rules,
        waits_written rows n x (at_phase phases.Done x) u.child u.idle q w,
        at_written done_rows p y (counted y) parent_done,
        value_at-kept p q (counted y) done_rows,
      )

  has_family : HasFamily (family counted_rows p) (counted y)
  has_family =
      let into : IsSplitInto (family done_rows p) (counted y) = record {
        follow = one_more.follows _ _ split.follow;
        count = one_more.same_length ∙ split.count;
        finished = one_more.one_more ∙ ap (λ v. v + 1) split.finished;
        few = split.few;
      } in
      rw u.waits (subst (λ f. IsSplitInto f (counted y)) (sym (kin_counted p)) into)

  families_counted : (m : ℕ) (z : Bio) → value_at counted_rows m ≡ Some z → HasFamily (family counted_rows m) z
  families_counted =
      each_written done_rows p y (counted y) parent_done (λ m z. HasFamily (family counted_rows m) z) has_family
      (λ m z other at.
      each_written rows n x (at_phase phases.Done x) u.child
      (λ l v. l ≢ p → HasFamily (family counted_rows l) v)
      (λ apart. let none : family rows n ≡ [] = MatchBool-at_false _ _ u.idle (t.families n x u.child) in
      kin_counted n ∙ kin n apart ∙ none)
      (λ l v differs stood apart.
      subst (λ f. HasFamily f v) (sym (kin_counted l ∙ kin l apart)) (t.families l v stood))
      m z at other)

  parents_counted : (m : ℕ) (z : Bio) (q j : ℕ) → value_at counted_rows m ≡ Some z → z.owner ≡ owners.Child q j
      → WaitsIn counted_rows q
  parents_counted m z q j =
      each_written done_rows p y (counted y) parent_done (λ l v. v.owner ≡ owners.Child q j → WaitsIn counted_rows q)
      (λ of. waits_counted q (t.parents p y q j u.parent of))
      (λ l v other.
      each_written rows n x (at_phase phases.Done x) u.child
      (λ i b. b.owner ≡ owners.Child q j → WaitsIn counted_rows q)
      (λ of. waits_counted q (t.parents n x q j u.child of))
      (λ i b differs stood of. waits_counted q (t.parents i b q j stood of)) l v) m z

  pub table_counted : IsTable counted_rows next
  table_counted =
      search (rules, IsRising-with_value p (counted y) 1 done_rows next rising_done, families_counted, parents_counted)

-- The last child comes in

-- the rows that aren't children of a bio
abbrev pub others : List (ℕ × Bio) → ℕ → List (ℕ × Bio)
others rows p = filter (λ row. not (is_child_of row.1.owner p)) rows

-- a bio whose children are Done is the parent of no bio but those
pub done_if_child : (p j m : ℕ) (y : Bio) (rows : List (ℕ × Bio)) (high : ℕ) → IsRising 1 rows high
    → list_all (λ c. c.done) (family rows p) ≡ true → value_at rows m ≡ Some y → y.owner ≡ owners.Child p j
    → is_done y.phase ≡ true
done_if_child p j m y rows high rising all found owner =
    let s = stands_at m y 1 rows high rising found in
    let mine : child_of p m (is_done y.phase) y.owner
    ≡ Some (record { number = m; place = j; done = is_done y.phase }) =
    ap (child_of p m (is_done y.phase)) owner ∙ own_child p m j (is_done y.phase) in
    let parts : (list_all (λ (c : Child). c.done) (family s.front p)
    && (is_done y.phase && list_all (λ (c : Child). c.done) (family s.back p))) ≡ true =
    sym (ap (list_all (λ (c : Child). c.done)) (family-with p m y rows high rising found s
    ∙ ap (λ o. family s.front p ++ cons_option o (family s.back p)) mine)
    ∙ list_all-append (λ (c : Child). c.done) (family s.front p) _) ∙ all in
    (and_parts (is_done y.phase) _ (and_parts (list_all (λ (c : Child). c.done) (family s.front p)) _ parts).1).0

-- The rows without the children

pub head_is : {a b : Child} {xs ys : List Child} → a ∷ xs ≡ b ∷ ys → a ≡ b
head_is e = cc

family-above : (p low : ℕ) (rows : List (ℕ × Bio)) (high : ℕ) (c : Child) (cs : List Child)
    → IsRising low rows high → family rows p ≡ c ∷ cs → low ≤ c.number
family-above p low [] high c cs rising is = absurd (cc)
family-above p low (row ∷ rows) high c cs rising is = search (rules, family-above p (row.0 + 1) rows high c cs rising.1)

record IsFirstGone (p first : ℕ) (rest : List Child) (rows : List (ℕ × Bio)) : Type 0 where
  pub family_is : family (without rows first) p ≡ rest
  pub others_are : others (without rows first) p ≡ others rows p

first_gone : (p low : ℕ) (rows : List (ℕ × Bio)) (high : ℕ) (c : Child) (cs : List Child) → IsRising low rows high
    → family rows p ≡ c ∷ cs → IsFirstGone p c.number cs rows
first_gone p low [] high c cs rising is = absurd (cc)
first_gone p low (row ∷ rows) high c cs rising is =
    search (
      rules,
      without_below c.number (row.0 + 1) rows high rising.1,
      family-above p (row.0 + 1) rows high c cs rising.1,
      first_gone p (row.0 + 1) rows high c cs rising.1,
    )

others-none : (p : ℕ) (rows : List (ℕ × Bio)) → family rows p ≡ [] → others rows p ≡ rows
others-none p [] none = refl
others-none p (row ∷ rows) none = search (rules, others-none p rows)

pub without_all-family : (p first place : ℕ) (fam : List Child) (rows : List (ℕ × Bio)) (high : ℕ)
    → IsRising 1 rows high → family rows p ≡ fam → FollowFrom first place fam
    → without_all rows first (length fam) ≡ others rows p
without_all-family p first place [] rows high rising is follow = sym (others-none p rows is)
without_all-family p first place (c ∷ cs) rows high rising is follow =
    let gone = subst (λ n. IsFirstGone p n cs rows) follow.0 (first_gone p 1 rows high c cs rising is) in
    without_all-family p (first + 1) (place + 1) cs (without rows first) high
    (IsRising-without first 1 rows high rising) gone.family_is follow.1.1 ∙ gone.others_are

-- What the children hold

-- the results of the children of a bio
abbrev pub results_of : (ℕ → Option (List ℕ)) → List (BioOf Held) → ℕ → List BioResult
results_of log bios p = map (λ x. resolved log x.result) (children_among bios p)

pub record IsGathered (log : ℕ → Option (List ℕ)) (all : List (ℕ × Bio)) (first count : ℕ)
    (xs : List BioResult) : Type 0 where
  pub error : error_from all first count ≡ first_failure xs
  pub bytes : bytes_from log all first count ≡ flat_map bytes_of_result xs

pub gathered-family : (log : ℕ → Option (List ℕ)) (all : List (ℕ × Bio)) (p low : ℕ) (rows : List (ℕ × Bio))
    (high first place : ℕ) (fam : List Child) → IsRising low rows high
    → ((m : ℕ) → low ≤ m → value_at all m ≡ value_at rows m) → family rows p ≡ fam → FollowFrom first place fam
    → IsGathered log all first (length fam) (results_of log (map seen_row rows) p)
gathered-family log all p low [] high first place fam rising same is follow = search rules
gathered-family log all p low (row ∷ rows) high first place fam rising same is follow =
    search (
      rules,
      eq-eqb row.0 first,
      gathered-family log all p (row.0 + 1) rows high (first + 1) (place + 1) (family rows p) rising.1,
      gathered-family log all p (row.0 + 1) rows high first place fam rising.1,
    )

-- a change of phase leaves the results
results-change : (log : ℕ → Option (List ℕ)) (n p : ℕ) (phase : Phase) (bios : List (BioOf Held))
    → results_of log (change_number n (with_phase phase) bios) p ≡ results_of log bios p
results-change log n p phase [] = refl
results-change log n p phase (x ∷ bios) = search (rules, results-change log n p phase bios)

-- What goes, and what stays

-- a changed bio stays if it stayed, and goes if it went
others-changed : (p q : ℕ) (h : Held) (bios : List (BioOf Held))
    → filter (λ z. not (is_child_of z.owner q)) (change_number p (up_with h) bios)
    ≡ change_number p (up_with h) (filter (λ z. not (is_child_of z.owner q)) bios)
others-changed p q h bios =
    search (
      rules,
      filter-map (λ (z : BioOf Held). not (is_child_of z.owner q))
          (λ (z : BioOf Held). if z.number == p then up_with h z else z) bios,
    )

-- a changed child goes as it would have gone
others-with_child : (p n : ℕ) (x w : Bio) (rows : List (ℕ × Bio)) (high : ℕ) → IsRising 1 rows high
    → value_at rows n ≡ Some x → is_child_of x.owner p ≡ true → is_child_of w.owner p ≡ true
    → others (with_value rows n w) p ≡ others rows p
others-with_child p n x w rows high rising found was is =
    search (rules, stands_at n x 1 rows high rising found, filter-append)

family-others_none : (p : ℕ) (rows : List (ℕ × Bio)) → family (others rows p) p ≡ []
family-others_none p [] = refl
family-others_none p (row ∷ rows) = search (rules, family-others_none p rows)

family-others : (p q : ℕ) (rows : List (ℕ × Bio)) → q ≢ p → family (others rows p) q ≡ family rows q
family-others p q [] differs = refl
family-others p q (row ∷ rows) differs = search (rules, family-others p q rows differs)

module _ (rows : List (ℕ × Bio)) (next n p k : ℕ) (x y : Bio) (t : IsTable rows next)
    (u : IsChildUp rows n p k x y) (last : y.finished + 1 ≡ y.children) where
  -- a Waiting bio isn't one of the children
  stays : (q : ℕ) (z : Bio) → value_at rows q ≡ Some z → is_waiting z.phase ≡ true → is_child_of z.owner p ≡ false
  stays q z at waits =
      search (
        rules,
        value_at-kept n q (at_phase phases.Done x) rows (not_it rows n x u.child u.idle q (z, at, waits)),
        done_if_child p,
        rising_done rows next n p k x y t u,
        all_done rows next n p k x y t u last,
        waiting_not_done z.phase waits,
      )

  pub gone : without_all rows y.first_child y.children ≡ others rows p
  gone =
      let s = split rows next n p k x y t u in
      subst (λ c. without_all rows y.first_child c ≡ others rows p) s.count
      (without_all-family p y.first_child 0 (family rows p) rows next t.rising refl s.follow)

  pub no_child : is_child_of y.owner p ≡ false
  no_child = stays p y u.parent u.waits

  module _ (h : Held) where
    -- the rows once the parent is complete
    abbrev pub complete_rows : List (ℕ × Bio)
    complete_rows = with_value (without_all rows y.first_child y.children) p (up_holding h y)

    -- which are those that stay, with the parent that goes up
    abbrev kept_rows : List (ℕ × Bio)
    kept_rows = others rows p

    rising_kept : IsRising 1 kept_rows next
    rising_kept = IsRising-filter (λ row. not (is_child_of row.1.owner p)) 1 rows next t.rising

    stood : (m : ℕ) (z : Bio) → value_at kept_rows m ≡ Some z
        → (value_at rows m ≡ Some z) × (not (is_child_of z.owner p) ≡ true)
    stood m z at = value_at-filter_back (λ row. not (is_child_of row.1.owner p)) 1 rows next m z t.rising at

    parent_kept : value_at kept_rows p ≡ Some y
    parent_kept = value_at-filter (λ row. not (is_child_of row.1.owner p)) rows p y u.parent (ap not no_child)

    kin_kept : (m : ℕ) → family (with_value kept_rows p (up_holding h y)) m ≡ family kept_rows m
    kin_kept m =
        family-with_value m p y kept_rows next rising_kept parent_kept (up_holding h y)
        (ap (λ b. child_of m p b y.owner) (sym (waiting_not_done y.phase u.waits)))

    families_kept : (m : ℕ) (z : Bio) → value_at (with_value kept_rows p (up_holding h y)) m ≡ Some z
        → HasFamily (family (with_value kept_rows p (up_holding h y)) m) z
    families_kept =
        each_written kept_rows p y (up_holding h y) parent_kept
        (λ m z. HasFamily (family (with_value kept_rows p (up_holding h y)) m) z)
        (kin_kept p ∙ family-others_none p rows)
        (λ m z other at. subst (λ f. HasFamily f z) (sym (kin_kept m ∙ family-others p m rows other))
        (t.families m z (stood m z at).0))

    -- a parent of one that stays stays, and isn't the one that goes up
    waits_kept : (owner : Owner) (q j : ℕ) → is_child_of owner p ≡ false → owner ≡ owners.Child q j
        → WaitsIn rows q → WaitsIn (with_value kept_rows p (up_holding h y)) q
    waits_kept owner q j outside of v =
        search (
          rules,
          value_at-kept p q (up_holding h y) kept_rows,
          value_at-filter (λ row. not (is_child_of row.1.owner p)) rows q v.0 v.1 (ap not (stays q v.0 v.1 v.2)),
        )

    parents_kept : (m : ℕ) (z : Bio) (q j : ℕ) → value_at (with_value kept_rows p (up_holding h y)) m ≡ Some z
        → z.owner ≡ owners.Child q j → WaitsIn (with_value kept_rows p (up_holding h y)) q
    parents_kept m z q j =
        each_written kept_rows p y (up_holding h y) parent_kept
        (λ l v. v.owner ≡ owners.Child q j → WaitsIn (with_value kept_rows p (up_holding h y)) q)
        (λ of. waits_kept y.owner q j no_child of (t.parents p y q j u.parent of))
        (λ l v other at of.
        waits_kept v.owner q j (not-true (is_child_of v.owner p) (stood l v at).1) of
        (t.parents l v q j (stood l v at).0 of)) m z

    pub table_complete : IsTable complete_rows next
    table_complete = subst (λ r. IsTable (with_value r p (up_holding h y)) next) (sym gone) (record {
      rising = IsRising-with_value p (up_holding h y) 1 kept_rows next rising_kept;
      families = families_kept;
      parents = parents_kept;
    })

    seen_complete : filter (λ z. not (is_child_of z.owner p))
        (change_number p (up_with h) (change_number n (with_phase phases.Done) (map seen_row rows)))
        ≡ map seen_row complete_rows
    seen_complete =
        let own : is_child_of x.owner p ≡ true = ap (λ o. is_child_of o p) u.owner ∙ rw (eq-eqb p p refl) refl in
        others-changed p p h (change_number n (with_phase phases.Done) (map seen_row rows))
        ∙ ap (λ bios. change_number p (up_with h) (filter (λ z. not (is_child_of z.owner p)) bios))
        (sym (seen_done rows next n p k x y t u))
        ∙ ap (change_number p (up_with h))
        (filter-map (λ (z : BioOf Held). not (is_child_of z.owner p)) seen_row (done_rows rows next n p k x y t u)
        ∙ ap (map seen_row) (others-with_child p n x (at_phase phases.Done x) rows next t.rising u.child own own))
        ∙ change-items seen_row (λ z. z.number) (λ row. refl) p (up_holding h y) (up_with h) 1 kept_rows next
        rising_kept (λ value found. ap (λ (v : Bio). up_with h (as_bio p v)) (same_Some _ _ (sym found ∙ parent_kept)))
        ∙ ap (λ r. map seen_row (with_value r p (up_holding h y))) (sym gone)

  module _ (log : ℕ → Option (List ℕ)) where
    gathered_is : gathered log (change_number n (with_phase phases.Done) (map seen_row rows)) (as_bio p y)
        ≡ held_from log rows y
    gathered_is =
        search (
          rules,
          split rows next n p k x y t u,
          gathered-family log rows p 1 rows next y.first_child 0 (family rows p) t.rising (λ m from. refl),
          results-change log n p phases.Done (map seen_row rows),
        )

    pub completed_is : completed log (change_number n (with_phase phases.Done) (map seen_row rows)) p
        ≡ map seen_row (complete_rows (held_from log rows y))
    completed_is =
        search (
          rules,
          seen_done rows next n p k x y t u,
          bio_among-rows (done_rows rows next n p k x y t u) p,
          parent_done rows next n p k x y t u,
          gathered_is,
          seen_complete (held_from log rows y),
        )

-- One more number of those that a parent gathers.

pub error_from-more : (rows : List (ℕ × Bio)) (first place count : ℕ) → place < count
    → error_from rows (first + place) (count - place)
    ≡ option_map_or (λ e. Some e) (option_and_then (λ x. held_error x.held) (value_at rows (first + place)))
    (error_from rows (first + (place + 1)) (count - (place + 1)))
error_from-more rows first place count more =
    let one : count - place ≡ suc (count - (place + 1)) = omega arith in
    search rules

-- the error of one bio is the first one, or else it is among the bios after it
pub error_from-at : (rows : List (ℕ × Bio)) (first place count : ℕ) (o : Option Errno) → place < count
    → o ≡ option_and_then (λ (x : Bio). held_error x.held) (value_at rows (first + place))
    → error_from rows (first + place) (count - place) ≡ error_from rows first count
    → option_map_or (λ e. Some e) o (error_from rows (first + (place + 1)) (count - (place + 1)))
    ≡ error_from rows first count
error_from-at rows first place count o more here so_far = search (rules, error_from-more rows first place count more)

pub bytes_from-more : (log : ℕ → Option (List ℕ)) (rows : List (ℕ × Bio)) (first place count : ℕ) → place < count
    → bytes_from log rows (first + place) (count - place)
    ≡ option_map_or (λ x. bytes_of_result (resolved log x.held)) (value_at rows (first + place)) []
    ++ bytes_from log rows (first + (place + 1)) (count - (place + 1))
bytes_from-more log rows first place count more = search rules

pub without_all-more : (rows : List (ℕ × Bio)) (first place count : ℕ) → place < count
    → without_all rows (first + place) (count - place)
    ≡ without_all (without rows (first + place)) (first + (place + 1)) (count - (place + 1))
without_all-more rows first place count more = search rules

-- one more part is joined
pub join_step : (new old part rest tail all : List ℕ) → new ≡ old ++ part → tail ≡ part ++ rest → old ++ tail ≡ all
    → new ++ rest ≡ all
join_step new old part rest tail all pushed more so_far = search (rules, append_assoc old part rest)
