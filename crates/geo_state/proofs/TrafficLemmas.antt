-- What is kept beside the bios of the table stays so when one comes, changes its phase, is split and goes up.
use Rattle.std.proofs.Common.{◌≡◌, ℕ, ◌+◌, ◌-◌, ◌≤◌, List, [], ◌∷◌, ◌++◌, length, cond, Bool, true, false, Option, Some, sym, refl, ap, ◌∙◌, arith, option_map, ◌≢◌, ◌<◌, ◌==◌, filter, not, subst, IfSome, ◌^◌, rules}
use Rattle.std.specs.List.{AllByRecursion}
use Rattle.std.proofs.lemmas.List.{length-append, length-map}
use Rattle.std.proofs.lemmas.List.Folds.{find-append}
use Rattle.std.proofs.lemmas.List.Sums.{sum_by-append, sum_by-cons, length-filter, count_by-le-length}
use Rattle.geo_model.specs.declared.span.Piece.{Piece}
use Rattle.geo_model.specs.declared.step.Phase.{Phase}
use Rattle.geo_model.specs.declared.step.Phase.TheVariants as phases
use Rattle.geo_model.specs.World.{BioOf, change_number, is_down, is_sent, is_busy, is_up, bio_among, children_among, is_child_of, is_waiting, is_done}
use Rattle.geo_bio.specs.declared.bio.Held.{Held}
use Rattle.geo_bio.specs.Split.{split_into}
use Rattle.geo_state.specs.declared.cursor.Cursor.{Cursor}
use Rattle.geo_state.specs.Traffic.{first_in, count_in}
use Rattle.geo_state.specs.Cursors.{others, IsCursor, with_one, with_last, IsCounted, up_after, family_size, gone_by, IsKept}
use Rattle.geo_state.proofs.OrderLemmas.{Rising, stands_at, StandsAt, change_is, bio_in, fewer_than_next, number_below, table_rises, phase_up, phase_done}
use Rattle.geo_state.proofs.CursorLemmas.{stays, left, entered, count_stays, count_comes, count_goes, length_moved, others_cursor, count_others, length_others, reached_above, reached_there, room_for_one}
use Rattle.std.proofs.lemmas.List.Filters.{length-filter_both}
use Rattle.geo_model.proofs.BioLemmas.{phase_waiting, phase_down}
use Rattle.geo_model.specs.declared.step.Owner.{Owner}
use Rattle.geo_model.specs.declared.step.Owner.TheVariants as owners
use Rattle.geo_model.specs.Bios.{up_with}
use Rattle.geo_bio.specs.declared.bio.Risen.TheVariants as risen
use Rattle.geo_bio.specs.BioTable.{HasParent, with_phase, BioTableView, AreInOrder, bio_from, has_phase}
use Rattle.geo_bio.specs.Up.{gathered, are_in, completed, after_up, told_of_up}
use Rattle.geo_laws_graph.proofs.Lists.{all-changed}
use Rattle.geo_laws_graph.proofs.Numbered.{at-unchanged}
use Rattle.geo_laws_graph.proofs.Spared.{find-spared, filter-spared}
use Rattle.geo_state.proofs.ShownLemmas.{count-map}
use Rattle.geo_bio.specs.declared.bio.Risen.{Risen}
use Rattle.geo_base.proofs.AllLists.{all_appended, of_each, all_weaker}
use Rattle.geo_state.proofs.Lists.{all-front, all-back, count-none, find-before}

-- A bio comes, or comes to another phase

-- a Busy one is in no other phase
pub record IsBusy (p : Phase) : Type 0 where
  pub down : is_down p ≡ false
  pub sent : is_sent p ≡ false
  pub up : is_up p ≡ false

pub busy_is : (p : Phase) → is_busy p ≡ true → IsBusy p
busy_is phases.Down e = absurd cc
busy_is phases.Sent e = absurd cc
busy_is (phases.Busy seat) e = record { down = refl; sent = refl; up = refl }
busy_is phases.Waiting e = absurd cc
busy_is phases.Up e = absurd cc
busy_is phases.Done e = absurd cc

-- A bio comes to another phase

module _ (bios : List (BioOf Held)) (n : ℕ) (x : BioOf Held) (rising : Rising bios)
    (found : bio_among bios n ≡ Some x) (down sent up : Cursor) (busy live : ℕ)
    (is : IsCounted bios down sent up busy live) where
  -- its number
  number : x.number ≡ n
  number = (stands_at bios n x rising found).number

  module _ (g : BioOf Held → BioOf Held) (same : (g x).number ≡ x.number) where
    -- as many bios as before
    all_stay : live ≡ length (change_number n g bios)
    all_stay = is.all ∙ sym (length_moved is_busy bios n x rising found g (same ∙ number))

    -- a count that the change leaves
    busy_stay : is_busy (g x).phase ≡ is_busy x.phase → busy ≡ count_in is_busy (change_number n g bios)
    busy_stay e = is.taken ∙ sym (count_stays is_busy bios n x rising found g (same ∙ number) e)

    -- from Down to Up
    pub from_down_up : (d : Cursor) → x.phase ≡ phases.Down → (g x).phase ≡ phases.Up
        → IsCursor is_down (others n bios) d
        → IsCounted (change_number n g bios) d sent (with_one up n) busy live
    from_down_up d was now c = record {
      starts = left is_down bios n x rising found g (same ∙ number) d (ap is_down now) c;
      takes = stays is_sent bios n x rising found g (same ∙ number) sent (ap is_sent was) (ap is_sent now) is.takes;
      ups = entered is_up bios n x rising found g (same ∙ number) up (ap is_up was) (ap is_up now) is.ups;
      taken = busy_stay (ap is_busy now ∙ sym (ap is_busy was));
      all = all_stay;
    }

    -- from Down to Sent
    pub from_down_sent : (d : Cursor) → x.phase ≡ phases.Down → (g x).phase ≡ phases.Sent
        → IsCursor is_down (others n bios) d
        → IsCounted (change_number n g bios) d (with_one sent n) up busy live
    from_down_sent d was now c = record {
      starts = left is_down bios n x rising found g (same ∙ number) d (ap is_down now) c;
      takes = entered is_sent bios n x rising found g (same ∙ number) sent (ap is_sent was) (ap is_sent now) is.takes;
      ups = stays is_up bios n x rising found g (same ∙ number) up (ap is_up was) (ap is_up now) is.ups;
      taken = busy_stay (ap is_busy now ∙ sym (ap is_busy was));
      all = all_stay;
    }

    -- from Down to Waiting
    pub from_down_waiting : (d : Cursor) → x.phase ≡ phases.Down → (g x).phase ≡ phases.Waiting
        → IsCursor is_down (others n bios) d
        → IsCounted (change_number n g bios) d sent up busy live
    from_down_waiting d was now c = record {
      starts = left is_down bios n x rising found g (same ∙ number) d (ap is_down now) c;
      takes = stays is_sent bios n x rising found g (same ∙ number) sent (ap is_sent was) (ap is_sent now) is.takes;
      ups = stays is_up bios n x rising found g (same ∙ number) up (ap is_up was) (ap is_up now) is.ups;
      taken = busy_stay (ap is_busy now ∙ sym (ap is_busy was));
      all = all_stay;
    }

    -- from Sent to Busy
    pub from_sent_busy : (s : Cursor) (seat : ℕ) → x.phase ≡ phases.Sent → (g x).phase ≡ phases.Busy seat
        → IsCursor is_sent (others n bios) s
        → IsCounted (change_number n g bios) down s up (busy + 1) live
    from_sent_busy s seat was now c = record {
      starts = stays is_down bios n x rising found g (same ∙ number) down (ap is_down was) (ap is_down now) is.starts;
      takes = left is_sent bios n x rising found g (same ∙ number) s (ap is_sent now) c;
      ups = stays is_up bios n x rising found g (same ∙ number) up (ap is_up was) (ap is_up now) is.ups;
      taken = ap (λ k. k + 1) is.taken
          ∙ sym (count_comes is_busy bios n x rising found g (same ∙ number) (ap is_busy was) (ap is_busy now));
      all = all_stay;
    }

    -- from Busy to Up
    pub from_busy_up : is_busy x.phase ≡ true → (g x).phase ≡ phases.Up
        → IsCounted (change_number n g bios) down sent (with_one up n) (busy - 1) live
    from_busy_up was now =
        let other = busy_is x.phase was in
        let less = count_goes is_busy bios n x rising found g (same ∙ number) was (ap is_busy now) in
        record {
          starts =
              stays is_down bios n x rising found g (same ∙ number) down other.down (ap is_down now) is.starts;
          takes = stays is_sent bios n x rising found g (same ∙ number) sent other.sent (ap is_sent now) is.takes;
          ups = entered is_up bios n x rising found g (same ∙ number) up other.up (ap is_up now) is.ups;
          taken = omega (arith, is.taken, less);
          all = all_stay;
        }

    -- there is a Busy one
    pub some_busy : is_busy x.phase ≡ true → (g x).phase ≡ phases.Up → 1 ≤ busy
    some_busy was now = search (rules, count_goes is_busy bios n x rising found g (same ∙ number) was (ap is_busy now))

    -- from Up to Done
    pub from_up_done : (u : Cursor) → x.phase ≡ phases.Up → (g x).phase ≡ phases.Done
        → IsCursor is_up (others n bios) u
        → IsCounted (change_number n g bios) down sent u busy live
    from_up_done u was now c = record {
      starts = stays is_down bios n x rising found g (same ∙ number) down (ap is_down was) (ap is_down now) is.starts;
      takes = stays is_sent bios n x rising found g (same ∙ number) sent (ap is_sent was) (ap is_sent now) is.takes;
      ups = left is_up bios n x rising found g (same ∙ number) u (ap is_up now) c;
      taken = busy_stay (ap is_busy now ∙ sym (ap is_busy was));
      all = all_stay;
    }

    -- from Waiting to Up
    pub from_waiting_up : x.phase ≡ phases.Waiting → (g x).phase ≡ phases.Up
        → IsCounted (change_number n g bios) down sent (with_one up n) busy live
    from_waiting_up was now = record {
      starts = stays is_down bios n x rising found g (same ∙ number) down (ap is_down was) (ap is_down now) is.starts;
      takes = stays is_sent bios n x rising found g (same ∙ number) sent (ap is_sent was) (ap is_sent now) is.takes;
      ups = entered is_up bios n x rising found g (same ∙ number) up (ap is_up was) (ap is_up now) is.ups;
      taken = busy_stay (ap is_busy now ∙ sym (ap is_busy was));
      all = all_stay;
    }

-- Bios come

module _ (test : Phase → Bool) (bios more : List (BioOf Held)) where
  -- counts are added
  count_both : count_in test (bios ++ more) ≡ count_in test bios + count_in test more
  count_both = sum_by-append (λ (y : BioOf Held). cond (test y.phase) 1 0) bios more

  -- bios that pass come behind the others
  pub appended : (c : Cursor) (first k : ℕ) → IsCursor test bios c → count_in test more ≡ k
      → first_in test more ≡ Some first
      → IsCursor test (bios ++ more) (with_last c first k)
  appended c first k is count head =
      search (rules, count_both, find-append (λ (y : BioOf Held). test y.phase) bios more)

  -- bios that don't pass come
  pub appended_others : (c : Cursor) → IsCursor test bios c
      → AllByRecursion (λ (y : BioOf Held). test y.phase ≡ false) more → IsCursor test (bios ++ more) c
  appended_others c is fail = record {
    count = is.count ∙ sym (count_both
        ∙ ap (λ k. count_in test bios + k) (count-none (λ (y : BioOf Held). test y.phase) more fail) ∙ omega arith);
    first = is.first ∙ ap (option_map (λ (y : BioOf Held). y.number))
        (sym (find-before (λ (y : BioOf Held). test y.phase) bios more fail));
  }

-- where all are Down, a test passes all or none
module _ (test : Phase → Bool) where
  pub down_counted : (more : List (BioOf Held)) → AllByRecursion (λ y. y.phase ≡ phases.Down) more
      → test phases.Down ≡ true → count_in test more ≡ length more
  down_counted [] all e = refl
  down_counted (y ∷ ys) all e =
      search (rules, down_counted ys all.1 e, sum_by-cons (λ (z : BioOf Held). cond (test z.phase) 1 0) y ys)

  pub down_found : (y : BioOf Held) (ys : List (BioOf Held)) → y.phase ≡ phases.Down → test phases.Down ≡ true
      → first_in test (y ∷ ys) ≡ Some y.number
  down_found y ys is e = let hit : test y.phase ≡ true = ap test is ∙ e in rw hit refl

  pub down_fail : (more : List (BioOf Held)) → AllByRecursion (λ y. y.phase ≡ phases.Down) more
      → test phases.Down ≡ false → AllByRecursion (λ (y : BioOf Held). test y.phase ≡ false) more
  down_fail more all e =
      all_weaker (λ (y : BioOf Held). y.phase ≡ phases.Down) (λ y. test y.phase ≡ false) (λ y is. ap test is ∙ e) more
      all

-- the children of a split are Down
pub split_down : (first : ℕ) (x : BioOf Held) (k : ℕ) (pieces : List Piece) (targets : List (ℕ × ℕ))
    → AllByRecursion (λ y. y.phase ≡ phases.Down) (split_into first x k pieces targets)
split_down first x k [] targets = tt
split_down first x k (piece ∷ pieces) [] = tt
split_down first x k (piece ∷ pieces) (target ∷ targets) = (refl, split_down first x (k + 1) pieces targets)

-- there is one for each piece
pub split_length : (first : ℕ) (x : BioOf Held) (k : ℕ) (pieces : List Piece) (targets : List (ℕ × ℕ))
    → length targets ≡ length pieces → length (split_into first x k pieces targets) ≡ length pieces
split_length first x k [] targets same = refl
split_length first x k (piece ∷ pieces) [] same = absurd (omega (arith, same))
split_length first x k (piece ∷ pieces) (target ∷ targets) same =
    search (rules, split_length first x (k + 1) pieces targets (omega (arith, same)))

-- the first of them has the next number
pub split_first : (first : ℕ) (x : BioOf Held) (pieces : List Piece) (targets : List (ℕ × ℕ))
    → length targets ≡ length pieces → 1 ≤ length pieces
    → first_in is_down (split_into first x 0 pieces targets) ≡ Some first
split_first first x [] targets same some = absurd (omega (arith, some))
split_first first x (piece ∷ pieces) [] same some = absurd (omega (arith, same))
split_first first x (piece ∷ pieces) (target ∷ targets) same some = search rules

-- bios that are Down come
pub down_come : (bios more : List (BioOf Held)) (down sent up : Cursor) (busy live first k : ℕ)
    → IsCounted bios down sent up busy live → AllByRecursion (λ y. y.phase ≡ phases.Down) more → length more ≡ k
    → first_in is_down more ≡ Some first
    → IsCounted (bios ++ more) (with_last down first k) sent up busy (live + k)
down_come bios more down sent up busy live first k is all count head = record {
  starts = appended is_down bios more down first k is.starts (down_counted is_down more all refl ∙ count) head;
  takes = appended_others is_sent bios more sent is.takes (down_fail is_sent more all refl);
  ups = appended_others is_up bios more up is.ups (down_fail is_up more all refl);
  taken = is.taken ∙ sym (count_both is_busy bios more
      ∙ ap (λ j. count_in is_busy bios + j)
      (count-none (λ (y : BioOf Held). is_busy y.phase) more (down_fail is_busy more all refl)) ∙ omega arith);
  all = (λ i. is.all i + sym count i) ∙ sym (length-append bios more);
}

-- A bio goes up

-- Order and counts after a change of one

module _ (n : ℕ) (g : BioOf Held → BioOf Held) (same : (y : BioOf Held) → (g y).number ≡ y.number) where
  -- each keeps its number
  number_stays : (y : BioOf Held) (b : Bool) → (cond b (g y) y).number ≡ y.number
  number_stays y true = same y
  number_stays y false = refl

  -- so the numbers still rise
  pub rising_moved : (bios : List (BioOf Held)) → Rising bios → Rising (change_number n g bios)
  rising_moved [] rising = tt
  rising_moved (x ∷ xs) rising = (
    subst (λ m. AllByRecursion (λ (y : BioOf Held). m < y.number) (change_number n g xs))
        (sym (number_stays x (x.number == n)))
        (all-changed (λ (y : BioOf Held). y.number == n) g (λ (y : BioOf Held). x.number < y.number)
        (λ y e less. subst (λ m. x.number < m) (sym (same y)) less) xs rising.0),
    rising_moved xs rising.1,
  )

-- a bio has as many children after a change that leaves the owners
children_stay : (p n : ℕ) (g : BioOf Held → BioOf Held) → ((y : BioOf Held) → (g y).owner ≡ y.owner)
    → (bios : List (BioOf Held))
    → length (children_among (change_number n g bios) p) ≡ length (children_among bios p)
children_stay p n g same bios =
    search (
      rules,
      length-filter (λ (y : BioOf Held). is_child_of y.owner p) (change_number n g bios),
      count-map (λ (y : BioOf Held). cond (y.number == n) (g y) y) (λ (y : BioOf Held). is_child_of y.owner p) bios,
      of_each (λ (y : BioOf Held). is_child_of (cond (y.number == n) (g y) y).owner p ≡ is_child_of y.owner p),
      length-filter (λ (y : BioOf Held). is_child_of y.owner p) bios,
    )

-- Children go

-- the children of a bio are done
abbrev pub ChildIsDone : ℕ → BioOf Held → Type 0
ChildIsDone p z = is_child_of z.owner p ≡ true → is_done z.phase ≡ true

-- where all are in, each is done
pub each_done : (p : ℕ) (zs : List (BioOf Held)) → are_in zs p ≡ true → AllByRecursion (ChildIsDone p) zs
each_done p [] all = tt
each_done p (z ∷ zs) all = search (rules, each_done p zs)

-- a cursor of a phase in which no child is, once the children are gone
module _ (p : ℕ) (bios : List (BioOf Held)) (all : AllByRecursion (ChildIsDone p) bios) where
  -- the bios without the children
  abbrev pub childless : List (BioOf Held)
  childless = filter (λ z. not (is_child_of z.owner p)) bios

  module _ (test : Phase → Bool) (fails : test phases.Done ≡ false) where
    spared : (zs : List (BioOf Held)) → AllByRecursion (ChildIsDone p) zs
        → AllByRecursion (λ (z : BioOf Held). is_child_of z.owner p ≡ true → test z.phase ≡ false) zs
    spared [] each = tt
    spared (z ∷ zs) each = search (rules, spared zs each.1)

    pub count_spared : count_in test childless ≡ count_in test bios
    count_spared =
        sym (length-filter (λ (z : BioOf Held). test z.phase) childless)
        ∙ ap length (filter-spared (λ (z : BioOf Held). is_child_of z.owner p) (λ (z : BioOf Held). test z.phase) bios
        (spared bios all))
        ∙ length-filter (λ (z : BioOf Held). test z.phase) bios

    pub cursor_spared : (c : Cursor) → IsCursor test bios c → IsCursor test childless c
    cursor_spared c is = record {
      count = is.count ∙ sym count_spared;
      first = is.first ∙ ap (option_map (λ (z : BioOf Held). z.number))
          (sym (find-spared (λ (z : BioOf Held). is_child_of z.owner p) (λ (z : BioOf Held). test z.phase) bios
          (spared bios all)));
    }

  -- there are so many less
  pub length_spared : length childless + length (children_among bios p) ≡ length bios
  length_spared =
      search (rules, length-filter_both (λ (z : BioOf Held). not (is_child_of z.owner p)) (λ z. is_child_of z.owner p))

-- A bio goes up

module _ (bios : List (BioOf Held)) (x : BioOf Held) (rising : Rising bios) (found : bio_among bios x.number ≡ Some x)
    (was : x.phase ≡ phases.Up) (down sent up : Cursor) (busy live : ℕ)
    (is : IsCounted bios down sent up busy live) (u : Cursor) (c : IsCursor is_up (others x.number bios) u) where
  -- a root is gone
  root_gone : IsCounted (others x.number bios) down sent u busy (live - 1)
  root_gone = record {
    starts = others_cursor is_down bios x.number x rising found down (ap is_down was) is.starts;
    takes = others_cursor is_sent bios x.number x rising found sent (ap is_sent was) is.takes;
    ups = c;
    taken = is.taken ∙ count_others is_busy bios x.number x rising found
        ∙ (let miss : is_busy x.phase ≡ false = ap is_busy was in rw miss (omega arith));
    all = (let less = length_others is_busy bios x.number x rising found in omega (arith, less, is.all));
  }

  -- there is one
  some_live : 1 ≤ live
  some_live = let less = length_others is_busy bios x.number x rising found in omega (arith, less, is.all)

  -- the bios with the one done
  abbrev gathering : List (BioOf Held)
  gathering = change_number x.number (with_phase phases.Done) bios

  still_counted : IsCounted gathering down sent u busy live
  still_counted =
      from_up_done bios x.number x rising found down sent up busy live is (with_phase phases.Done) refl u was refl c

  -- the parent
  module _ (p : ℕ) (y : BioOf Held) (there : bio_among bios p ≡ Some y) (waits : is_waiting y.phase ≡ true) where
    apart : p ≢ x.number
    apart same = search rules

    still_there : bio_among gathering p ≡ Some y
    still_there =
        at-unchanged (λ (z : BioOf Held). z.number) (with_phase phases.Done) (λ z. refl) x.number p apart bios ∙ there

    still_rising : Rising gathering
    still_rising = rising_moved x.number (with_phase phases.Done) (λ z. refl) bios rising

    module _ (h : Held) where
      -- the bios with the parent Up
      abbrev ended : List (BioOf Held)
      ended = change_number p (up_with h) gathering

      ended_counted : IsCounted ended down sent (with_one u p) busy live
      ended_counted =
          from_waiting_up gathering p y still_rising still_there down sent u busy live still_counted (up_with h) refl
          (phase_waiting y.phase waits) refl

      -- its children are still done
      children_done : are_in gathering p ≡ true → AllByRecursion (ChildIsDone p) ended
      children_done all =
          let s : StandsAt gathering p y = stands_at gathering p y still_rising still_there in
          let each = subst (AllByRecursion (ChildIsDone p)) s.is (each_done p gathering all) in
          let from_it = all-back (ChildIsDone p) s.front (y ∷ s.back) each in
          let here : ChildIsDone p (up_with h y) =
          λ child. absurd (let never : phases.Waiting ≡ phases.Done = sym (phase_waiting y.phase waits)
          ∙ phase_done y.phase (from_it.0 child) in cc) in
          subst (AllByRecursion (ChildIsDone p)) (sym (change_is p gathering y s (up_with h)))
          (all_appended (ChildIsDone p) s.front (up_with h y ∷ s.back)
          (all-front (ChildIsDone p) s.front (y ∷ s.back) each) (here, from_it.1))

      -- as many are gone as the parent had children
      length_gone : (all : are_in gathering p ≡ true)
          → length (childless p ended (children_done all)) + length (children_among bios p) ≡ live
      length_gone all =
          let less = length_spared p ended (children_done all) in
          let one = children_stay p p (up_with h) (λ z. refl) gathering in
          let other = children_stay p x.number (with_phase phases.Done) (λ z. refl) bios in
          let whole = ended_counted.all in
          omega (arith, less, one, other, whole)

      complete_counted : (all : are_in gathering p ≡ true)
          → IsCounted (childless p ended (children_done all)) down sent (with_one u p) busy
          (live - length (children_among bios p))
      complete_counted all = record {
        starts = cursor_spared p ended (children_done all) is_down refl down ended_counted.starts;
        takes = cursor_spared p ended (children_done all) is_sent refl sent ended_counted.takes;
        ups = cursor_spared p ended (children_done all) is_up refl (with_one u p) ended_counted.ups;
        taken = ended_counted.taken ∙ sym (count_spared p ended (children_done all) is_busy refl);
        all = (let gone = length_gone all in omega (arith, gone));
      }

    module _ (log : ℕ → Option (List ℕ)) where
      -- the child counts in its parent, or completes it
      child_goes : (b : Bool) → are_in gathering p ≡ b
          → IsCounted (cond b (completed log gathering p) gathering) down sent (up_after u (risen.InParent p b)) busy
          (live - gone_by (length (children_among bios p)) (risen.InParent p b))
          × (gone_by (length (children_among bios p)) (risen.InParent p b) ≤ live)
      child_goes true e =
          let h = gathered log gathering y in
          let gone = length_gone h e in
          (rw still_there (complete_counted h e), omega (arith, gone))
      child_goes false e = search (rules, still_counted)

  -- each owner
  pub goes_up : (log : ℕ → Option (List ℕ)) (owner : Owner) → HasParent bios owner
      → IsCounted (after_up log bios x owner) down sent (up_after u (told_of_up log bios x owner)) busy
      (live - gone_by (family_size bios owner) (told_of_up log bios x owner))
      × (gone_by (family_size bios owner) (told_of_up log bios x owner) ≤ live)
  goes_up log (owners.Line handle line) parent = (root_gone, some_live)
  goes_up log owners.Taste parent = (root_gone, some_live)
  goes_up log (owners.Child p k) parent =
      let y = bio_in is_waiting bios p parent in
      child_goes p y.0 y.1 y.2 log (are_in gathering p) refl

-- The table's calls: a split, and one that goes up

-- a bio in a phase, by what contracts see of the table
pub bio_seen : (test : Phase → Bool) (t : BioTableView) {v : BioTableView} → t ≡ v → (n : ℕ)
    → has_phase test v.bios n ≡ true → (x : BioOf Held) × (bio_among t.bios n ≡ Some x) × (test x.phase ≡ true)
bio_seen test t view n is = search rules

-- with one more bio in a phase in which this one isn't, there are still fewer than numbers
pub room_in_phase : (test : Phase → Bool) (t : BioTableView) → AreInOrder t → (n : ℕ) (x : BioOf Held)
    → bio_among t.bios n ≡ Some x → test x.phase ≡ false → count_in test t.bios + 2 ≤ t.next
room_in_phase test t order n x found miss =
    search (rules, room_for_one test t.bios n x (table_rises t order) found miss, fewer_than_next t order)

-- all is kept once bios have changed, where what is counted is right for them
pub kept_turned : (t u : BioTableView) {bios : List (BioOf Held)} → u ≡ record t { bios = bios } → AreInOrder u
    → t.next < 2 ^ 64 → {down sent up : Cursor} {busy live : ℕ} → IsCounted bios down sent up busy live
    → IsKept u down sent up busy live
kept_turned t u is order bound counted = search rules

-- where the bios and the next number stay, all is kept
module _ (t u : BioTableView) (bios : u.bios ≡ t.bios) (next : u.next ≡ t.next) where
  order_same : AreInOrder t → AreInOrder u
  order_same order = record {
    numbers = rw (bios, next) order.numbers;
    from_one = rw bios order.from_one;
    next = rw next order.next;
  }

  pub kept_same : {down sent up : Cursor} {busy live : ℕ} → IsKept t down sent up busy live
      → IsKept u down sent up busy live
  kept_same kept = record {
    in_order = order_same kept.in_order;
    bound = rw next kept.bound;
    counted = rw bios kept.counted;
  }

-- with one bio more there are still fewer than numbers
pub fewer_with_one : (bios : List (BioOf Held)) (x : BioOf Held) (u : BioTableView) → AreInOrder u
    → u.bios ≡ bios ++ x ∷ [] → length bios + 2 ≤ u.next
fewer_with_one bios x u order more = search (rules, fewer_than_next u order, length-append bios (x ∷ []))

-- the number that a walk reaches isn't below the one from which it goes on, and is below the next one
module _ (t : BioTableView) (low n : ℕ) {o : Option ℕ} (order : AreInOrder t) (reached : o ≡ bio_from t.bios low)
    (some : o ≡ Some n) where
  pub next_reached : (low ≤ n) × (n + 1 ≤ t.next)
  next_reached =
      let first : bio_from t.bios low ≡ Some n = sym reached ∙ some in
      let there = reached_there (λ p. true) low n t.bios (table_rises t order) first in
      let below = number_below t order n there.0 there.1 in
      (reached_above (λ p. true) low n t.bios first, omega (arith, below))

-- A bio that is Down is split, and waits for its children

module _ (t : BioTableView) {v : BioTableView} (view : t ≡ v) (n : ℕ) (down : has_phase is_down v.bios n ≡ true)
    (pieces : List Piece) (targets : List (ℕ × ℕ)) (same : length targets ≡ length pieces) (new : List (BioOf Held))
    (split : IfSome (bio_among t.bios n) (λ y. new
    ≡ change_number n (with_phase phases.Waiting) t.bios ++ split_into t.next y 0 pieces targets)) where
  -- there is one bio more for each piece
  pub split_all : length t.bios + length pieces ≡ length new
  split_all =
      search (
        rules,
        length-append (change_number n (with_phase phases.Waiting) t.bios),
        length-map t.bios (λ (y : BioOf Held). cond (y.number == n) (with_phase phases.Waiting y) y),
        split_length t.next,
      )

module _ (t : BioTableView) {v : BioTableView} (view : t ≡ v) (order : AreInOrder t) (n : ℕ)
    (down : has_phase is_down v.bios n ≡ true) {d sent up e : Cursor} {busy live : ℕ}
    (is : IsCounted t.bios d sent up busy live) (cursor : IsCursor is_down (others n t.bios) e)
    (pieces : List Piece) (targets : List (ℕ × ℕ)) (same : length targets ≡ length pieces) (some : 1 ≤ length pieces)
    (new : List (BioOf Held)) (split : IfSome (bio_among t.bios n) (λ y. new
    ≡ change_number n (with_phase phases.Waiting) t.bios ++ split_into t.next y 0 pieces targets)) where
  -- all is counted with the children
  pub split_counted : IsCounted new (with_last e t.next (length pieces)) sent up busy (live + length pieces)
  split_counted =
      let x = bio_seen is_down t view n down in
      let children = split_into t.next x.0 0 pieces targets in
      let waits = from_down_waiting t.bios n x.0 (table_rises t order) x.1 d sent up busy live is
      (with_phase phases.Waiting) refl e (phase_down x.0.phase x.2) refl cursor in
      let counted = down_come (change_number n (with_phase phases.Waiting) t.bios) children e sent up busy live t.next
      (length pieces) waits (split_down t.next x.0 0 pieces targets) (split_length t.next x.0 0 pieces targets same)
      (split_first t.next x.0 pieces targets same some) in
      let after : new ≡ change_number n (with_phase phases.Waiting) t.bios ++ children =
      subst (λ o. IfSome o (λ (y : BioOf Held). new
      ≡ change_number n (with_phase phases.Waiting) t.bios ++ split_into t.next y 0 pieces targets)) x.1 split in
      subst (λ (xs : List (BioOf Held)). IsCounted xs (with_last e t.next (length pieces)) sent up busy
      (live + length pieces)) (sym after) counted

  -- so many are Down then
  pub split_fewer : e.count + length pieces ≤ length new
  split_fewer =
      let count : e.count + length pieces ≡ count_in is_down new = split_counted.starts.count in
      search (rules, count_by-le-length (λ (y : BioOf Held). is_down y.phase) new)

-- A bio goes up

module _ (t : BioTableView) {v : BioTableView} (view : t ≡ v) (order : AreInOrder t) (n : ℕ)
    (is_there : has_phase is_up v.bios n ≡ true) {down sent u e : Cursor} {busy live : ℕ}
    (is : IsCounted t.bios down sent u busy live) (cursor : IsCursor is_up (others n t.bios) e)
    (log : ℕ → Option (List ℕ)) (family : ℕ) (parent : IfSome (bio_among t.bios n) (λ y. HasParent t.bios y.owner))
    (size : IfSome (bio_among t.bios n) (λ y. family ≡ family_size t.bios y.owner)) (risen : Risen)
    (told : IfSome (bio_among t.bios n) (λ y. risen ≡ told_of_up log t.bios y y.owner)) where
  -- the bio
  bio : (x : BioOf Held) × (bio_among t.bios n ≡ Some x) × (is_up x.phase ≡ true)
  bio = bio_seen is_up t view n is_there

  -- what the call tells of it
  told_is : risen ≡ told_of_up log t.bios bio.0 bio.0.owner
  told_is = subst (λ o. IfSome o (λ (y : BioOf Held). risen ≡ told_of_up log t.bios y y.owner)) bio.1 told

  -- how many children its parent has
  size_is : family ≡ family_size t.bios bio.0.owner
  size_is = subst (λ o. IfSome o (λ (y : BioOf Held). family ≡ family_size t.bios y.owner)) bio.1 size

  -- what is counted after it, and that so many were there
  both : IsCounted (after_up log t.bios bio.0 bio.0.owner) down sent
      (up_after e (told_of_up log t.bios bio.0 bio.0.owner)) busy
      (live - gone_by (family_size t.bios bio.0.owner) (told_of_up log t.bios bio.0 bio.0.owner))
      × (gone_by (family_size t.bios bio.0.owner) (told_of_up log t.bios bio.0 bio.0.owner) ≤ live)
  both =
      let rising = table_rises t order in
      let number : bio.0.number ≡ n = (stands_at t.bios n bio.0 rising bio.1).number in
      let found : bio_among t.bios bio.0.number ≡ Some bio.0 = ap (bio_among t.bios) number ∙ bio.1 in
      goes_up t.bios bio.0 rising found (phase_up bio.0.phase bio.2) down sent u busy live is e
      (subst (λ m. IsCursor is_up (others m t.bios) e) (sym number) cursor) log bio.0.owner
      (subst (λ o. IfSome o (λ (y : BioOf Held). HasParent t.bios y.owner)) bio.1 parent)

  -- no more are gone than there were
  pub up_fewer : gone_by family risen ≤ live
  up_fewer = subst (λ k. k ≤ live) (sym (λ i. gone_by (size_is i) (told_is i))) both.1

  module _ (new : List (BioOf Held))
      (rises : IfSome (bio_among t.bios n) (λ y. new ≡ after_up log t.bios y y.owner)) where
    -- all is counted after it
    pub up_counted : IsCounted new down sent (up_after e risen) busy (live - gone_by family risen)
    up_counted =
        let after : new ≡ after_up log t.bios bio.0 bio.0.owner =
        subst (λ o. IfSome o (λ (y : BioOf Held). new ≡ after_up log t.bios y y.owner)) bio.1 rises in
        subst (λ (xs : List (BioOf Held)). IsCounted xs down sent (up_after e risen) busy
        (live - gone_by family risen)) (sym after)
        (subst (λ (r : Risen). IsCounted (after_up log t.bios bio.0 bio.0.owner) down sent (up_after e r) busy
        (live - gone_by family r)) (sym told_is)
        (subst (λ (k : ℕ). IsCounted (after_up log t.bios bio.0 bio.0.owner) down sent
        (up_after e (told_of_up log t.bios bio.0 bio.0.owner)) busy
        (live - gone_by k (told_of_up log t.bios bio.0 bio.0.owner))) (sym size_is) both.0))
