-- While nothing comes the place falls at most once; and where something waits, something is next.
use Rattle.std.proofs.Common.{◌≡◌, ℕ, ◌≤◌, nat_le, Bool, true, false, List, [], ◌∷◌, Option, Some, None, IsSome, if◌then◌else◌, refl, ◌∙◌, subst, arith, leb-true, leb-false, le-leb}
use Rattle.std.specs.List.{AllByRecursion, list_all}
use Rattle.std.specs.Option.{option_or}
use Rattle.std.proofs.lemmas.Grind.{common_steps}
use Rattle.std.proofs.lemmas.List.Elements.{filter_passes, recursion_from_All}
use Rattle.std.proofs.lemmas.List.Sums.{AllPass-from_list_all}
use Rattle.geo_base.proofs.AllLists.{all_kept, all_weaker}
use Rattle.geo_base.proofs.FilterLists.{keeps_all}
use Rattle.geo_laws_sweep.specs.SweepLaws.{falls}
use Rattle.geo_laws_sweep.specs.Elevator.{AreAhead, TakesFrom, TakesFallOnce, SomeIsNext, NextIsAmong}
use Rattle.geo_headline.specs.Sweep.{Waiting, before_flush, candidates, least_place, ahead_of, next_of}

-- Lists

-- where not all pass, one that has P doesn't
one_fails : (test : Waiting → Bool) (P : Waiting → Type 0) (Q : Type 0) (xs : List Waiting) → list_all test xs ≡ false
    → AllByRecursion P xs → ((x : Waiting) → P x → test x ≡ false → Q) → Q
one_fails test P Q [] none all f = absurd (let no : ⊥ = cc in no)
one_fails test P Q (x ∷ xs) none all f = by (test x) refl (λ e. one_fails test P Q xs e all.1 f)
  where
    by : (b : Bool) → test x ≡ b → (list_all test xs ≡ false → Q) → Q
    by true e rest = rest (grind (arith, none, e))
    by false e rest = f x all.0 e

-- where all pass, each has what the test tells
all_tell : (test : Waiting → Bool) (P : Waiting → Type 0) → ((x : Waiting) → test x ≡ true → P x) → (xs : List Waiting)
    → list_all test xs ≡ true → AllByRecursion P xs
all_tell test P f xs all =
    all_weaker (λ x. test x ≡ true) P f xs
    (recursion_from_All (λ x. test x ≡ true) xs (AllPass-from_list_all test xs all))

-- The least

-- by whether the first is the least
either : (b : Bool) (y x : Waiting) (o : Option Waiting) (Q : Type 0) → (if b then Some y else o) ≡ Some x
    → (b ≡ true → y ≡ x → Q) → (b ≡ false → o ≡ Some x → Q) → Q
either true y x o Q is here there = here refl (let one : y ≡ x = cc in one)
either false y x o Q is here there = there refl is

-- it is one of them
least_holds : (P : Waiting → Type 0) (xs : List Waiting) (x : Waiting) → AllByRecursion P xs → least_place xs ≡ Some x
    → P x
least_holds P [] x all is = absurd (let no : ⊥ = cc in no)
least_holds P (y ∷ ys) x all is =
    either (list_all (λ z. nat_le y.first z.first) ys) y x (least_place ys) (P x) is
    (λ e same. subst P same all.0) (λ e rest. least_holds P ys x all.1 rest)

-- and none of them is before it
least_is : (xs : List Waiting) (x : Waiting) → least_place xs ≡ Some x → AreAhead x.first xs
least_is [] x is = tt
least_is (y ∷ ys) x is =
    either (list_all (λ z. nat_le y.first z.first) ys) y x (least_place ys) (AreAhead x.first (y ∷ ys)) is
    (λ e same.
    let first : AreAhead y.first (y ∷ ys) = (
      omega arith,
      all_tell (λ z. nat_le y.first z.first) (λ z. y.first ≤ z.first) (λ z. leb-true y.first z.first) ys e,
    ) in
    subst (λ (z : Waiting). AreAhead z.first (y ∷ ys)) same first)
    (λ e rest.
    let later = least_is ys x rest in (
      one_fails (λ z. nat_le y.first z.first) (λ z. x.first ≤ z.first) (x.first ≤ y.first) ys e later
          (λ z low fails. let less = leb-false y.first z.first fails in omega (arith, low, less)),
      later,
    ))

-- of some there is a least
least_some : (x : Waiting) (xs : List Waiting) → IsSome (least_place (x ∷ xs))
least_some x [] = refl
least_some x (y ∷ ys) = grind (arith, least_some y ys)

-- The next

-- so of what waits there is a next
pub some_is_next : SomeIsNext
some_is_next head x xs = grind (arith, least_some, common_steps)

-- where the next is no FLUSH, it is next of what stands before the first one
before : (head : ℕ) (xs : List Waiting) (x : Waiting) → next_of head (candidates xs) ≡ Some x → x.flush ≡ false
    → next_of head (before_flush xs) ≡ Some x
before head [] x is not_flush = is
before head (y ∷ ys) x is not_flush = grind (arith, is, not_flush)

-- what holds of all holds of those before the first FLUSH
front_all : (P : Waiting → Type 0) (xs : List Waiting) → AllByRecursion P xs → AllByRecursion P (before_flush xs)
front_all P [] all = tt
front_all P (x ∷ xs) all = by x.flush (front_all P xs all.1)
  where
    by : (b : Bool) → AllByRecursion P (before_flush xs) → AllByRecursion P (if b then [] else x ∷ before_flush xs)
    by true rest = tt
    by false rest = (all.0, rest)

-- what holds of all that waits holds of the candidates
candidates_all : (P : Waiting → Type 0) (xs : List Waiting) → AllByRecursion P xs → AllByRecursion P (candidates xs)
candidates_all P [] all = tt
candidates_all P (x ∷ xs) all = by x.flush
  where
    by : (b : Bool) → AllByRecursion P (if b then x ∷ [] else x ∷ before_flush xs)
    by true = (all.0, tt)
    by false = (all.0, front_all P xs all.1)

-- what holds of all candidates holds of the next
pub among_candidates : (P : Waiting → Type 0) (head : ℕ) (xs : List Waiting) (x : Waiting) → AllByRecursion P xs
    → next_of head xs ≡ Some x → P x
among_candidates P head xs x all is = by (least_place (ahead_of head xs)) refl is
  where
    by : (a : Option Waiting) → least_place (ahead_of head xs) ≡ a → option_or a (least_place xs) ≡ Some x → P x
    by None one is = least_holds P xs x all is
    by (Some y) one is =
        least_holds P (ahead_of head xs) x (all_kept P (λ z. nat_le head z.first) xs all) (one ∙ is)

-- what holds of all that waits
pub next_holds : (P : Waiting → Type 0) (head : ℕ) (xs : List Waiting) (x : Waiting) → AllByRecursion P xs
    → next_of head (candidates xs) ≡ Some x → P x
next_holds P head xs x all is = among_candidates P head (candidates xs) x (candidates_all P xs all) is

-- so for a test
pub next_is_among : NextIsAmong
next_is_among test head xs x all is =
    next_holds (λ y. test y ≡ true) head xs x (all_tell test (λ y. test y ≡ true) (λ y e. e) xs all) is

-- which of two places the next has
data Turn (head : ℕ) (xs : List Waiting) (x : Waiting) : Type 0 where
  -- ahead
  Goes : (high : head ≤ x.first) → Turn head xs x
  -- the smallest of all
  Turns : (least : AreAhead x.first xs) → Turn head xs x

-- so of the next
turn : (head : ℕ) (xs : List Waiting) (x : Waiting) → next_of head xs ≡ Some x → Turn head xs x
turn head xs x is = by (least_place (ahead_of head xs)) refl is
  where
    passing : AllByRecursion (λ z. head ≤ z.first) (ahead_of head xs)
    passing =
        all_weaker (λ z. nat_le head z.first ≡ true) (λ z. head ≤ z.first) (λ z. leb-true head z.first)
        (ahead_of head xs) (recursion_from_All _ (ahead_of head xs) (filter_passes (λ z. nat_le head z.first) xs))

    by : (a : Option Waiting) → least_place (ahead_of head xs) ≡ a → option_or a (least_place xs) ≡ Some x
        → Turn head xs x
    by (Some y) one is = Goes (least_holds (λ z. head ≤ z.first) (ahead_of head xs) x passing (one ∙ is))
    by None one is = Turns (least_is xs x is)

-- where none is behind the head, the next is the least of all
least_ahead : (head : ℕ) (xs : List Waiting) (x : Waiting) → AreAhead head xs → next_of head xs ≡ Some x
    → least_place xs ≡ Some x
least_ahead head xs x high is =
    let all : ahead_of head xs ≡ xs =
    keeps_all (λ z. nat_le head z.first) xs
    (all_weaker (λ z. head ≤ z.first) (λ z. nat_le head z.first ≡ true) (λ z. le-leb head z.first) xs high) in
    grind (arith, all, is)

-- Falls

-- where none is behind the head, the place doesn't fall any more
rises : (head : ℕ) (xs : List Waiting) (ps : List ℕ) → AreAhead head (before_flush xs) → TakesFrom head xs ps
    → falls (head ∷ ps) ≡ 0
rises head xs [] high takes = refl
rises head xs (p ∷ ps) high (x, ys, next, not_flush, place, shrinks, rest) =
    let least : least_place (before_flush xs) ≡ Some x =
    least_ahead head (before_flush xs) x high (before head xs x next not_flush) in
    let low : head ≤ p =
    subst (λ (n : ℕ). head ≤ n) place (least_holds (λ z. head ≤ z.first) (before_flush xs) x high least) in
    let later : AreAhead p (before_flush ys) =
    shrinks p (subst (λ (n : ℕ). AreAhead n (before_flush xs)) place (least_is (before_flush xs) x least)) in
    let none = rises p ys ps later rest in
    grind (arith, low, none)

-- from any head it falls at most once
falls_once : (head : ℕ) (xs : List Waiting) (ps : List ℕ) → TakesFrom head xs ps → falls (head ∷ ps) ≤ 1
falls_once head xs [] takes = omega arith
falls_once head xs (p ∷ ps) (x, ys, next, not_flush, place, shrinks, rest) =
    by (turn head (before_flush xs) x (before head xs x next not_flush)) (falls_once p ys ps rest)
  where
    by : Turn head (before_flush xs) x → falls (p ∷ ps) ≤ 1 → falls (head ∷ p ∷ ps) ≤ 1
    by (Goes high) most =
        let low : head ≤ p = subst (λ (n : ℕ). head ≤ n) place high in
        grind (arith, low, most)
    by (Turns least) most =
        let later : AreAhead p (before_flush ys) =
        shrinks p (subst (λ (n : ℕ). AreAhead n (before_flush xs)) place least) in
        let none = rises p ys ps later rest in
        grind (arith, none)

-- so without the head
pub takes_fall_once : TakesFallOnce
takes_fall_once head xs [] takes = omega arith
takes_fall_once head xs (p ∷ ps) takes = let most = falls_once head xs (p ∷ ps) takes in grind (arith, most)
