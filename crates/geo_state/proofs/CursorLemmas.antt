-- Phases of bios, counts of those that pass, and cursors: what becomes of them when a bio leaves or changes its phase.
use Rattle.std.proofs.Common.{◌≡◌, ◌≢◌, ℕ, ◌+◌, ◌<◌, nat_le, min, ◌&&◌, List, [], ◌∷◌, ◌++◌, find, cond, Bool, true, false, Option, Some, None, sym, refl, ap, ◌∙◌, arith, option_map, ◌-◌, ◌≤◌, ◌==◌, length, not, rules}
use Rattle.std.specs.List.{AllByRecursion}
use Rattle.std.specs.Option.{option_map_or, option_or, option_eq}
use Rattle.std.proofs.lemmas.Bool.{le-leb, lt-leb, eq-eqb}
use Rattle.std.proofs.lemmas.List.Folds.{find-append}
use Rattle.std.proofs.lemmas.List.Sums.{sum_by-append, sum_by-cons, count_by-le-length}
use Rattle.geo_base.proofs.FindLists.{find_agree}
use Rattle.geo_model.specs.declared.step.Phase.{Phase}
use Rattle.geo_model.specs.World.{BioOf, change_number, bio_among}
use Rattle.geo_bio.specs.declared.bio.Held.{Held}
use Rattle.geo_laws_graph.proofs.Finding.{found_fact}
use Rattle.geo_state.specs.Traffic.{first_in, count_in}
use Rattle.geo_state.specs.Cursors.{first_from, others, IsCursor, with_one}
use Rattle.std.proofs.lemmas.List.{length-append}
use Rattle.geo_bio.specs.BioTable.{bio_from}
use Rattle.geo_laws_graph.proofs.Lists.{length-changed}
use Rattle.geo_state.specs.declared.cursor.Cursor.{Cursor}
use Rattle.geo_state.proofs.OrderLemmas.{Rising, StandsAt, stands_at, others_are, change_is}

-- What is counted and found in a phase, where one bio stands among others

-- where nothing is counted nothing is found
pub none_counted : (test : Phase → Bool) (bios : List (BioOf Held)) → count_in test bios ≡ 0
    → find (λ (x : BioOf Held). test x.phase) bios ≡ None
none_counted test [] none = refl
none_counted test (x ∷ xs) none =
    search (rules, sum_by-cons (λ (y : BioOf Held). cond (test y.phase) 1 0) x xs, none_counted test xs)

module _ (test : Phase → Bool) (front back : List (BioOf Held)) where
  -- a search by phase
  abbrev search_in : List (BioOf Held) → Option (BioOf Held)
  search_in bios = find (λ x. test x.phase) bios

  -- one bio more among others counts where it passes
  pub count_with : (x : BioOf Held)
      → count_in test (front ++ x ∷ back) ≡ count_in test (front ++ back) + cond (test x.phase) 1 0
  count_with x =
      let value : BioOf Held → ℕ = λ y. cond (test y.phase) 1 0 in
      let with_x = sum_by-append (λ (y : BioOf Held). cond (test y.phase) 1 0) front (x ∷ back) in
      let tail = sum_by-cons (λ (y : BioOf Held). cond (test y.phase) 1 0) x back in
      let without = sum_by-append (λ (y : BioOf Held). cond (test y.phase) 1 0) front back in
      omega (arith, with_x, tail, without)

  -- one that doesn't pass isn't found
  pub find_with_miss : (x : BioOf Held) → test x.phase ≡ false
      → search_in (front ++ x ∷ back) ≡ search_in (front ++ back)
  find_with_miss x e =
      find-append (λ (y : BioOf Held). test y.phase) front (x ∷ back)
      ∙ ap (option_or (search_in front)) (rw e refl)
      ∙ sym (find-append (λ (y : BioOf Held). test y.phase) front back)

  module _ (n : ℕ) (below : AllByRecursion (λ (y : BioOf Held). y.number < n) front)
      (above : AllByRecursion (λ (y : BioOf Held). n < y.number) back) where
    -- what is found before it
    found_below : (z : BioOf Held) → search_in front ≡ Some z → z.number < n
    found_below z e =
        (found_fact (λ (y : BioOf Held). y.number < n) (λ (y : BioOf Held). test y.phase) front z below e).0

    -- what is found behind it
    found_above : (z : BioOf Held) → search_in back ≡ Some z → n < z.number
    found_above z e =
        (found_fact (λ (y : BioOf Held). n < y.number) (λ (y : BioOf Held). test y.phase) back z above e).0

    -- one that passes is the first, or the first of the others is
    pub first_with_hit : (x : BioOf Held) → test x.phase ≡ true → x.number ≡ n
        → first_in test (front ++ x ∷ back)
        ≡ Some (option_map_or (λ m. min m n) (first_in test (front ++ back)) n)
    first_with_hit x e number =
        search (
          rules,
          find-append (λ (y : BioOf Held). test y.phase) front (x ∷ back),
          find-append (λ (y : BioOf Held). test y.phase) front back,
          found_below,
          found_above,
        )

    -- where another is found first, it is so without the one
    pub first_without_other : (x : BioOf Held) → x.number ≡ n → test x.phase ≡ true
        → first_in test (front ++ x ∷ back) ≢ Some n
        → first_in test (front ++ back) ≡ first_in test (front ++ x ∷ back)
    first_without_other x number e differs =
        search (
          rules,
          find-append (λ (y : BioOf Held). test y.phase) front back,
          find-append (λ (y : BioOf Held). test y.phase) front (x ∷ back),
          ap (option_map (λ (y : BioOf Held). y.number))
              (find-append (λ (y : BioOf Held). test y.phase) front (x ∷ back)),
        )

    -- where the one is found first, the next is the first behind its number
    pub first_without_first : (x : BioOf Held) → x.number ≡ n → test x.phase ≡ true
        → first_in test (front ++ x ∷ back) ≡ Some n
        → first_in test (front ++ back) ≡ first_from test (front ++ x ∷ back) (n + 1)
    first_without_first x number e first =
        ap (option_map (λ (y : BioOf Held). y.number))
        (find-append (λ (y : BioOf Held). test y.phase) front back ∙ ap (λ o. option_or o (search_in back)) none_before
        ∙ find_agree (λ (y : BioOf Held). test y.phase) (λ y. nat_le (n + 1) y.number && test y.phase) back
        (passed back above)
        ∙ sym (find-append (λ (y : BioOf Held). nat_le (n + 1) y.number && test y.phase) front (x ∷ back)
        ∙ ap (λ o. option_or o (find (λ (y : BioOf Held). nat_le (n + 1) y.number && test y.phase) (x ∷ back)))
        (out front below)
        ∙ rw (lt-leb (n + 1) x.number (omega (arith, number))) refl))
      where
        none_before : search_in front ≡ None
        none_before = search (rules, found_below, find-append (λ (y : BioOf Held). test y.phase) front (x ∷ back))

        passed : (ys : List (BioOf Held)) → AllByRecursion (λ y. n < y.number) ys
            → AllByRecursion (λ y. test y.phase ≡ (nat_le (n + 1) y.number && test y.phase)) ys
        passed [] all = tt
        passed (y ∷ ys) all = (rw (le-leb (n + 1) y.number (omega (arith, all.0))) refl, passed ys all.1)

        out : (ys : List (BioOf Held)) → AllByRecursion (λ y. y.number < n) ys
            → find (λ (y : BioOf Held). nat_le (n + 1) y.number && test y.phase) ys ≡ None
        out [] all = refl
        out (y ∷ ys) all = rw (lt-leb (n + 1) y.number (omega (arith, all.0))) (out ys all.1)

-- What becomes of a cursor when a bio leaves its phase, and when one comes

-- The walk from a number on

module _ (test : Phase → Bool) where
  -- the first number from one on isn't below it
  pub reached_above : (low b : ℕ) (bios : List (BioOf Held)) → bio_from bios low ≡ Some b → low ≤ b
  reached_above low b [] first = absurd cc
  reached_above low b (x ∷ xs) first = search (rules, reached_above low b xs)

  -- it is the number of a bio
  pub reached_there : (low b : ℕ) (bios : List (BioOf Held)) → Rising bios → bio_from bios low ≡ Some b
      → (x : BioOf Held) × (bio_among bios b ≡ Some x)
  reached_there low b [] rising first = absurd cc
  reached_there low b (x ∷ xs) rising first = at (nat_le low x.number) refl (reached_there low b xs rising.1) where
    at : (d : Bool) → nat_le low x.number ≡ d
        → (bio_from xs low ≡ Some b → (y : BioOf Held) × (bio_among xs b ≡ Some y))
        → (y : BioOf Held) × (bio_among (x ∷ xs) b ≡ Some y)
    at true e later =
        let here : Some x.number ≡ Some b = rw e at first in
        let same : x.number ≡ b = cc in
        (x, rw (eq-eqb x.number b same) refl)
    at false e later = search (rules, reached_above low b xs)

-- What a comparison of the first tells

-- it is another
pub is_other : (o : Option ℕ) (m n : ℕ) → m ≡ n → not (option_eq (λ a b. a == b) o (Some m)) ≡ true → o ≢ Some n
is_other None m n same e = λ here. absurd cc
is_other (Some k) m n same e = search rules

-- it is the one
pub is_same : (o : Option ℕ) (m n : ℕ) → m ≡ n → not (option_eq (λ a b. a == b) o (Some m)) ≡ false → o ≡ Some n
is_same None m n same e = absurd cc
is_same (Some k) m n same e = search rules

-- A bio leaves

module _ (test : Phase → Bool) (bios : List (BioOf Held)) (n : ℕ) (x : BioOf Held) (rising : Rising bios)
    (found : bio_among bios n ≡ Some x) where
  -- where the bio stands
  abbrev place : StandsAt bios n x
  place = stands_at bios n x rising found

  -- the others, counted
  pub count_others : count_in test bios ≡ count_in test (others n bios) + cond (test x.phase) 1 0
  count_others = search (rules, count_with test place.front place.back x, test x.phase, others_are n bios x place)

  module _ (hit : test x.phase ≡ true) (c : Cursor) (is : IsCursor test bios c) where
    -- one less
    pub count_left : count_in test (others n bios) + 1 ≡ c.count
    count_left = search (rules, count_others)

    less_one : c.count - 1 ≡ count_in test (others n bios)
    less_one = omega (arith, count_left)

    -- where it wasn't the first, the first stays
    pub left_other : c.first ≢ Some n
        → IsCursor test (others n bios) (record { count = c.count - 1; first = c.first })
    left_other differs = record {
      count = less_one;
      first = is.first ∙ ap (first_in test) place.is
          ∙ sym (first_without_other test place.front place.back n place.below place.above x place.number hit
          (λ here. differs (is.first ∙ ap (first_in test) place.is ∙ here)))
          ∙ ap (first_in test) (sym (others_are n bios x place));
    }

    -- where none is left, there is no first
    pub left_none : c.count - 1 ≡ 0 → IsCursor test (others n bios) (record { count = c.count - 1; first = None })
    left_none none = search (rules, less_one, none_counted test (others n bios) (sym less_one ∙ none))

    -- where it was the first, the next one is
    pub left_first : c.first ≡ Some n
        → IsCursor test (others n bios) (record { count = c.count - 1; first = first_from test bios (n + 1) })
    left_first first = record {
      count = less_one;
      first = ap (λ ys. first_from test ys (n + 1)) place.is
          ∙ sym (first_without_first test place.front place.back n place.below place.above x place.number hit
          (sym (is.first ∙ ap (first_in test) place.is) ∙ first))
          ∙ ap (first_in test) (sym (others_are n bios x place));
    }

  -- the cursor of the others is that of all, where the bio doesn't pass
  pub others_cursor : (c : Cursor) → test x.phase ≡ false → IsCursor test bios c → IsCursor test (others n bios) c
  others_cursor c miss is = record {
    count = is.count ∙ count_others ∙ rw miss (omega arith);
    first = search (rules, find_with_miss test place.front place.back x miss, others_are n bios x place);
  }

  -- there is one less of the others
  pub length_others : length (others n bios) + 1 ≡ length bios
  length_others =
      let all = ap length place.is ∙ length-append place.front (x ∷ place.back) in
      let some = ap length (others_are n bios x place) ∙ length-append place.front place.back in
      omega (arith, all, some)

  -- where it doesn't pass, there is room for one more that does
  pub room_for_one : test x.phase ≡ false → count_in test bios + 1 ≤ length bios
  room_for_one miss =
      search (rules, count_others, count_by-le-length (λ (y : BioOf Held). test y.phase) (others n bios), length_others)

  -- A bio comes to another phase

  module _ (g : BioOf Held → BioOf Held) (number : (g x).number ≡ n) where
    -- the bios with the one changed
    abbrev moved : List (BioOf Held)
    moved = change_number n g bios

    -- how many pass then
    pub count_moved : count_in test moved ≡ count_in test (others n bios) + cond (test (g x).phase) 1 0
    count_moved =
        ap (count_in test) (change_is n bios x place g) ∙ count_with test place.front place.back (g x)
        ∙ ap (λ ys. count_in test ys + cond (test (g x).phase) 1 0) (sym (others_are n bios x place))

    -- there are as many
    pub length_moved : length moved ≡ length bios
    length_moved = length-changed (λ (y : BioOf Held). y.number == n) g bios

    -- a count of those that pass, where the bio passes as before, and where it comes or goes
    pub count_stays : test (g x).phase ≡ test x.phase → count_in test moved ≡ count_in test bios
    count_stays same = search (rules, count_moved, count_others)

    pub count_comes : test x.phase ≡ false → test (g x).phase ≡ true → count_in test moved ≡ count_in test bios + 1
    count_comes before after = search (rules, count_moved, count_others)

    pub count_goes : test x.phase ≡ true → test (g x).phase ≡ false → count_in test moved + 1 ≡ count_in test bios
    count_goes before after = search (rules, count_moved, count_others)

    -- so it is once the bio has left
    pub left : (c : Cursor) → test (g x).phase ≡ false → IsCursor test (others n bios) c → IsCursor test moved c
    left c miss is = record {
      count = is.count ∙ sym (count_moved ∙ rw miss (omega arith));
      first = is.first ∙ ap (first_in test) (others_are n bios x place)
          ∙ sym (ap (option_map (λ (y : BioOf Held). y.number)) (find_with_miss test place.front place.back (g x) miss))
          ∙ ap (first_in test) (sym (change_is n bios x place g));
    }

    -- where it doesn't pass before and after, the cursor stays
    pub stays : (c : Cursor) → test x.phase ≡ false → test (g x).phase ≡ false → IsCursor test bios c
        → IsCursor test moved c
    stays c before after is = left c after (others_cursor c before is)

    -- where it passes then, it is one more
    pub entered : (c : Cursor) → test x.phase ≡ false → test (g x).phase ≡ true → IsCursor test bios c
        → IsCursor test moved (with_one c n)
    entered c before hit is =
        let rest = others_cursor c before is in
        record {
          count = ap (λ k. k + 1) rest.count ∙ sym (count_moved ∙ rw hit refl);
          first = ap (λ o. Some (option_map_or (λ m. min m n) o n))
              (rest.first ∙ ap (first_in test) (others_are n bios x place))
              ∙ sym (first_with_hit test place.front place.back n place.below place.above (g x) hit number)
              ∙ ap (first_in test) (sym (change_is n bios x place g));
        }
