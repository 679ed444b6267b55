-- Bios in order of their numbers, and the one of a number among them.
use Rattle.std.proofs.Common.{◌≡◌, ℕ, suc, ◌+◌, ◌<◌, ◌≤◌, ◌==◌, List, [], ◌∷◌, ◌++◌, length, map, not, cond, Bool, true, false, Some, None, sym, refl, ap, ◌∙◌, subst, arith, rules}
use Rattle.std.specs.List.{AllByRecursion}
use Rattle.std.specs.List.Sorted.{IsStrictlyIncreasing}
use Rattle.std.proofs.lemmas.Bool.{eqb-true, eq-eqb, ne_eqb}
use Rattle.std.proofs.lemmas.List.{map-append}
use Rattle.std.proofs.lemmas.List.Elements.{filter-append, recursion_from_All}
use Rattle.geo_base.proofs.FilterLists.{keeps_all}
use Rattle.geo_model.specs.declared.step.Phase.{Phase}
use Rattle.geo_model.specs.declared.step.Phase.TheVariants as phases
use Rattle.geo_model.specs.World.{BioOf, change_number, bio_among, is_up, is_done}
use Rattle.geo_bio.specs.declared.bio.Held.{Held}
use Rattle.geo_bio.specs.BioTable.{BioTableView, AreInOrder, has_phase}
use Rattle.geo_laws_graph.proofs.Finding.{found_fact}
use Rattle.geo_laws_graph.proofs.Lists.{unhit}
use Rattle.geo_state.specs.Cursors.{others}

-- what the phases are that pass
pub phase_up : (p : Phase) → is_up p ≡ true → p ≡ phases.Up
phase_up phases.Down e = absurd cc
phase_up phases.Sent e = absurd cc
phase_up (phases.Busy seat) e = absurd cc
phase_up phases.Waiting e = absurd cc
phase_up phases.Up e = refl
phase_up phases.Done e = absurd cc

pub phase_done : (p : Phase) → is_done p ≡ true → p ≡ phases.Done
phase_done phases.Down e = absurd cc
phase_done phases.Sent e = absurd cc
phase_done (phases.Busy seat) e = absurd cc
phase_done phases.Waiting e = absurd cc
phase_done phases.Up e = absurd cc
phase_done phases.Done e = refl

-- each number is below all later ones
abbrev pub Rising : List (BioOf Held) → Type 0
Rising [] = Unit {0}
Rising (x ∷ xs) = AllByRecursion (λ y. x.number < y.number) xs × Rising xs

-- what is above a number is above a lower one
higher : (a b : ℕ) → a < b → (ys : List (BioOf Held)) → AllByRecursion (λ z. b < z.number) ys
    → AllByRecursion (λ z. a < z.number) ys
higher a b less [] above = tt
higher a b less (y ∷ ys) above = (omega (arith, less, above.0), higher a b less ys above.1)

-- increasing numbers increase behind the first
later : (n : ℕ) (ns : List ℕ) → IsStrictlyIncreasing (n ∷ ns) → IsStrictlyIncreasing ns
later n ns up k less = search (rules, up (suc k) (omega (arith, less)))

-- bios whose numbers increase
rising_from : (bios : List (BioOf Held)) → IsStrictlyIncreasing (map (λ x. x.number) bios) → Rising bios
rising_from [] up = tt
rising_from (x ∷ []) up = (tt, tt)
rising_from (x ∷ y ∷ ys) up =
    let rest = rising_from (y ∷ ys) (later x.number (map (λ z. z.number) (y ∷ ys)) up) in
    let first : x.number < y.number = up 0 (omega arith) in
    ((first, higher x.number y.number first ys rest.0), rest)

-- so do those of a table
pub table_rises : (t : BioTableView) → AreInOrder t → Rising t.bios
table_rises t order = rising_from t.bios order.numbers.0

-- numbers from one on, below another, leave room for no more than lie between
fits_between : (low high : ℕ) (bios : List (BioOf Held)) → Rising bios → low ≤ high
    → AllByRecursion (λ x. low ≤ x.number) bios → AllByRecursion (λ n. n < high) (map (λ x. x.number) bios)
    → low + length bios ≤ high
fits_between low high [] rising under above below = omega (arith, under)
fits_between low high (x ∷ xs) rising under above below =
    let rest = fits_between (low + 1) high xs rising.1 (omega (arith, above.0, below.0)) (next xs rising.0) below.1 in
    omega (arith, rest)
  where
    next : (ys : List (BioOf Held)) → AllByRecursion (λ y. x.number < y.number) ys
        → AllByRecursion (λ y. low + 1 ≤ y.number) ys
    next [] over = tt
    next (y ∷ ys) over = (omega (arith, over.0, above.0), next ys over.1)

-- there are fewer bios than numbers were given out
pub fewer_than_next : (t : BioTableView) → AreInOrder t → length t.bios + 1 ≤ t.next
fewer_than_next t order =
    let some = fits_between 1 t.next t.bios (table_rises t order) order.next
    (recursion_from_All (λ (x : BioOf Held). 1 ≤ x.number) t.bios order.from_one)
    (recursion_from_All (λ (n : ℕ). n < t.next) (map (λ x. x.number) t.bios) order.numbers.1) in
    omega (arith, some)

-- a bio of a number is below the next one
pub number_below : (t : BioTableView) → AreInOrder t → (n : ℕ) (x : BioOf Held) → bio_among t.bios n ≡ Some x
    → n < t.next
number_below t order n x found =
    let fact = found_fact (λ (y : BioOf Held). y.number < t.next) (λ (y : BioOf Held). y.number == n) t.bios x
    (by_number t.bios (recursion_from_All (λ (m : ℕ). m < t.next) (map (λ y. y.number) t.bios) order.numbers.1))
    found in
    search rules
  where
    by_number : (ys : List (BioOf Held)) → AllByRecursion (λ m. m < t.next) (map (λ y. y.number) ys)
        → AllByRecursion (λ y. y.number < t.next) ys
    by_number [] all = tt
    by_number (y ∷ ys) all = (all.0, by_number ys all.1)

-- a bio that is there in a phase that passes
pub bio_in : (test : Phase → Bool) (bios : List (BioOf Held)) (n : ℕ) → has_phase test bios n ≡ true
    → (x : BioOf Held) × (bio_among bios n ≡ Some x) × (test x.phase ≡ true)
bio_in test bios n passes = search rules

-- so none of its number isn't
pub bio_stands : (test : Phase → Bool) (bios : List (BioOf Held)) (n : ℕ) → has_phase test bios n ≡ true
    → bio_among bios n ≡ None → ⊥
bio_stands test bios n passes none = search (rules, bio_in test bios n passes)

-- where the bio of a number stands: those before it have lower numbers, those behind it higher ones
pub record StandsAt (bios : List (BioOf Held)) (n : ℕ) (x : BioOf Held) : Type 0 where
  pub front : List (BioOf Held)
  pub back : List (BioOf Held)
  pub is : bios ≡ front ++ x ∷ back
  pub number : x.number ≡ n
  pub below : AllByRecursion (λ y. y.number < n) front
  pub above : AllByRecursion (λ y. n < y.number) back

pub stands_at : (bios : List (BioOf Held)) (n : ℕ) (x : BioOf Held) → Rising bios → bio_among bios n ≡ Some x
    → StandsAt bios n x
stands_at [] n x rising found = absurd cc
stands_at (y ∷ ys) n x rising found = at (y.number == n) refl (stands_at ys n x rising.1) where
  at : (b : Bool) → (y.number == n) ≡ b → (bio_among ys n ≡ Some x → StandsAt ys n x) → StandsAt (y ∷ ys) n x
  at true e later =
      let same : y ≡ x = (let here : Some y ≡ Some x = rw e at found in cc) in
      let number : y.number ≡ n = eqb-true y.number n e in
      record {
        front = [];
        back = ys;
        is = ap (λ z. z ∷ ys) same;
        number = sym (ap (λ z. z.number) same) ∙ number;
        below = tt;
        above = subst (λ m. AllByRecursion (λ z. m < z.number) ys) number rising.0;
      }
  at false e later =
      let there : bio_among ys n ≡ Some x = rw e at found in
      let rest = later there in
      let less = (found_fact (λ (z : BioOf Held). y.number < z.number) (λ (z : BioOf Held). z.number == n) ys x rising.0
      there).0 in
      record {
        front = y ∷ rest.front;
        back = rest.back;
        is = ap (λ zs. y ∷ zs) rest.is;
        number = rest.number;
        below = (subst (λ m. y.number < m) rest.number less, rest.below);
        above = rest.above;
      }

module _ (n : ℕ) where
  -- lower numbers are other ones
  differ_below : (ys : List (BioOf Held)) → AllByRecursion (λ y. y.number < n) ys
      → AllByRecursion (λ y. (y.number == n) ≡ false) ys
  differ_below [] all = tt
  differ_below (y ∷ ys) all = (ne_eqb y.number n (λ same. omega (arith, same, all.0)), differ_below ys all.1)

  -- so are higher ones
  differ_above : (ys : List (BioOf Held)) → AllByRecursion (λ y. n < y.number) ys
      → AllByRecursion (λ y. (y.number == n) ≡ false) ys
  differ_above [] all = tt
  differ_above (y ∷ ys) all = (ne_eqb y.number n (λ same. omega (arith, same, all.0)), differ_above ys all.1)

  -- those of other numbers stay
  kept : (ys : List (BioOf Held)) → AllByRecursion (λ y. (y.number == n) ≡ false) ys → others n ys ≡ ys
  kept ys all = keeps_all (λ y. not (y.number == n)) ys (passes ys all) where
    passes : (zs : List (BioOf Held)) → AllByRecursion (λ y. (y.number == n) ≡ false) zs
        → AllByRecursion (λ y. not (y.number == n) ≡ true) zs
    passes [] all = tt
    passes (z ∷ zs) all = (rw all.0 refl, passes zs all.1)

  module _ (bios : List (BioOf Held)) (x : BioOf Held) (s : StandsAt bios n x) where
    front_differs : AllByRecursion (λ (y : BioOf Held). (y.number == n) ≡ false) s.front
    front_differs = differ_below s.front s.below

    back_differs : AllByRecursion (λ (y : BioOf Held). (y.number == n) ≡ false) s.back
    back_differs = differ_above s.back s.above

    -- the others are those before and behind
    pub others_are : others n bios ≡ s.front ++ s.back
    others_are =
        ap (others n) s.is ∙ filter-append (λ (y : BioOf Held). not (y.number == n)) s.front (x ∷ s.back)
        ∙ (λ i. kept s.front front_differs i ++ without i)
      where
        without : others n (x ∷ s.back) ≡ s.back
        without = rw (eq-eqb x.number n s.number) (kept s.back back_differs)

    -- a change of the number changes it alone
    pub change_is : (g : BioOf Held → BioOf Held) → change_number n g bios ≡ s.front ++ g x ∷ s.back
    change_is g =
        ap (change_number n g) s.is
        ∙ map-append (λ (y : BioOf Held). cond (y.number == n) (g y) y) s.front (x ∷ s.back)
        ∙ (λ i. unhit (λ (y : BioOf Held). y.number == n) g s.front front_differs i ++ there i)
      where
        there : change_number n g (x ∷ s.back) ≡ g x ∷ s.back
        there =
            rw (eq-eqb x.number n s.number)
            (ap (λ ys. g x ∷ ys) (unhit (λ (y : BioOf Held). y.number == n) g s.back back_differs))
