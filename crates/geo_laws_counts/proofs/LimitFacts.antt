-- Exclusiveness and the limit as facts, when they cannot begin to fail, and which write counts leave zero or come to
-- it.
use Rattle.std.specs.Prelude.{◌≡◌, ◌≢◌, ◌⊎◌, ◌↔◌, ℕ, ◌==◌, nat_le, Bool, true, ◌&&◌, ◌||◌, List, All, Contains, IsTrue, filter, ◌≤◌, false, not, [], ◌∷◌, map}
use Rattle.std.specs.List.{list_all}
use Rattle.std.proofs.Common.{inl, inr, eq-eqb, refl, sym, ◌∙◌, ap, subst, arith}
use Rattle.std.proofs.lemmas.Bool.{eqb-true, cases_Bool, false_from_ne_true}
use Rattle.std.proofs.lemmas.Bool.Decides.{nat_tests}
use Rattle.std.proofs.lemmas.List.Elements.{All-from_recursion, All-contains, All-map}
use Rattle.std.proofs.lemmas.List.Sums.{AllPass-from_list_all, list_all-from_AllPass}
use Rattle.std.proofs.Math.Bool.{and-not_self, not-and_self}
use Rattle.geo_model.specs.Counts.{Counts}
use Rattle.geo_model.specs.TheConstants.{MAX_ACCESS_COUNT}
use Rattle.geo_model.specs.Topology.{Topology, Provider, Consumer, attached_to}
use Rattle.geo_model.specs.Demand.{have, want, is_exclusive, fits_limit, stand_together, no_counts, risen, fallen}
pub use Rattle.geo_model.proofs.MemberLists.{All-from_contained as each_of, filter-Contains as of_filter}
use Rattle.geo_model.specs.Words.{names_number}
use Rattle.geo_model.proofs.FindLists.{some-passes, any-contained}
use Rattle.geo_model.proofs.MemberLists.{Contains-filter}
use Rattle.geo_laws_counts.specs.CountWords.{IsAtMost, AreAtMost, keep_consumers}
use Rattle.geo_laws_counts.specs.LimitLaws.{NoneInTheWay, greatest_counts}
use Rattle.geo_laws_counts.proofs.Sums.{at_most-trans, at_most-zero, kept-at_most, kept_want-at_most, keep_all}
use Rattle.geo_laws_counts.specs.DemandLaws.{StaysAround}
use Rattle.geo_laws_counts.specs.WalkWords.{has_number}

-- a test that holds of all items, by what the list contains
pub all_true : {X : Type 0} (p : X → Bool) (xs : List X) → list_all p xs ≡ true → (x : X) → Contains xs x → p x ≡ true
all_true p xs e x there = All-contains (λ x. p x ≡ true) xs x (AllPass-from_list_all p xs e) there

-- a fact of all that a list contains
pub all_of : {X : Type 0} (P : X → Type 0) (xs : List X) → ((x : X) → Contains xs x → P x) → All P xs
all_of P xs so = All-from_recursion P xs (each_of P xs so)

-- a test that holds of all that a list contains
true_all : {X : Type 0} (p : X → Bool) (xs : List X) → ((x : X) → Contains xs x → p x ≡ true) → list_all p xs ≡ true
true_all p xs so = list_all-from_AllPass p xs (all_of (λ x. p x ≡ true) xs so)

-- what the test of two numbers and two counts says
free_from : (m n x y : ℕ) → ((m == n) || ((x == 0) || (y == 0))) ≡ true → m ≢ n → (x ≡ 0) ⊎ (y ≡ 0)
free_from m n x y e other = grind (arith, nat_tests)

-- and that it holds where this does
free_true : (m n x y : ℕ) → (m ≢ n → (x ≡ 0) ⊎ (y ≡ 0)) → ((m == n) || ((x == 0) || (y == 0))) ≡ true
free_true m n x y so = grind (arith, nat_tests)

module _ {C : Type 0} (granted : ℕ → Counts) (t : Topology C) where
  -- whether one isn't in the way of another
  abbrev is_free : Consumer → Consumer → Bool
  is_free a b = (a.number == b.number) || (((want granted t a).w == 0) || ((want granted t b).e == 0))

  -- the same as a fact
  abbrev IsFree : Consumer → Consumer → Type 0
  IsFree a b = a.number ≢ b.number → ((want granted t a).w ≡ 0) ⊎ ((want granted t b).e ≡ 0)

  -- at each provider none stands in another's way
  abbrev pub Apart : Type 0
  Apart = (x : Provider) (a b : Consumer) → Contains t.providers x → Contains (attached_to t x.number) a
      → Contains (attached_to t x.number) b → IsFree a b

  -- the test of the whole graph gives the fact
  pub apart_from : is_exclusive granted t ≡ true → Apart
  apart_from e x a b there first second =
      free_from a.number b.number (want granted t a).w (want granted t b).e
      (all_true (is_free a) (attached_to t x.number)
      (all_true (λ c. list_all (is_free c) (attached_to t x.number)) (attached_to t x.number)
      (all_true (λ y. stand_together granted t (attached_to t y.number)) t.providers e x there) a first) b second)

  -- and the fact gives the test
  pub exclusive_from : Apart → is_exclusive granted t ≡ true
  exclusive_from so =
      true_all (λ x. stand_together granted t (attached_to t x.number)) t.providers (λ x there.
      true_all (λ a. list_all (is_free a) (attached_to t x.number)) (attached_to t x.number) (λ a first.
      true_all (is_free a) (attached_to t x.number) (λ b second.
      free_true a.number b.number (want granted t a).w (want granted t b).e (so x a b there first second))))

  -- what it says of any two consumers that none is in the way
  none_in_way : (cs : List Consumer) → NoneInTheWay granted t cs → (a b : Consumer) → Contains cs a → Contains cs b
      → IsFree a b
  none_in_way cs none a b first second =
      All-contains (IsFree a) cs b (All-contains (λ c. All (IsFree c) cs) cs a none first) second

  -- the same as a fact of each provider
  pub exclusive_means : IsTrue (is_exclusive granted t)
      ↔ All (λ x. NoneInTheWay granted t (attached_to t x.number)) t.providers
  exclusive_means = (
    (λ e.
        all_of (λ x. NoneInTheWay granted t (attached_to t x.number)) t.providers (λ x there.
        all_of (λ a. All (IsFree a) (attached_to t x.number)) (attached_to t x.number) (λ a first.
        all_of (IsFree a) (attached_to t x.number) (λ b second. apart_from e x a b there first second)))),
    (λ facts.
        exclusive_from (λ x a b there first second.
        none_in_way (attached_to t x.number)
        (All-contains (λ (y : Provider). NoneInTheWay granted t (attached_to t y.number)) t.providers x facts there)
        a b first second)),
  )

  -- the counts of a provider are within the limit
  limited_from : (a : Counts)
      → (nat_le a.r MAX_ACCESS_COUNT && (nat_le a.w MAX_ACCESS_COUNT && nat_le a.e MAX_ACCESS_COUNT)) ≡ true
      → IsAtMost a greatest_counts
  limited_from a e = record {
    r = grind (arith, nat_tests);
    w = grind (arith, nat_tests);
    e = grind (arith, nat_tests);
  }

  -- and that the test holds where this does
  limited_true : (a : Counts) → IsAtMost a greatest_counts
      → (nat_le a.r MAX_ACCESS_COUNT && (nat_le a.w MAX_ACCESS_COUNT && nat_le a.e MAX_ACCESS_COUNT)) ≡ true
  limited_true a h = grind (arith, nat_tests)

  -- the test of the limit gives a fact of each provider
  pub within_limit : fits_limit granted t ≡ true → (x : Provider) → Contains t.providers x
      → IsAtMost (have granted t x.number) greatest_counts
  within_limit e x there =
      limited_from (have granted t x.number)
      (all_true (λ y. let a = have granted t y.number in
      nat_le a.r MAX_ACCESS_COUNT && (nat_le a.w MAX_ACCESS_COUNT && nat_le a.e MAX_ACCESS_COUNT))
      t.providers e x there)

  -- and the facts give the test
  pub limit_from : ((x : Provider) → Contains t.providers x → IsAtMost (have granted t x.number) greatest_counts)
      → fits_limit granted t ≡ true
  limit_from so =
      true_all (λ y. let a = have granted t y.number in
      nat_le a.r MAX_ACCESS_COUNT && (nat_le a.w MAX_ACCESS_COUNT && nat_le a.e MAX_ACCESS_COUNT)) t.providers
      (λ x there. limited_true (have granted t x.number) (so x there))

  -- the same as one fact
  pub limit_means : IsTrue (fits_limit granted t)
      ↔ All (λ x. IsAtMost (have granted t x.number) greatest_counts) t.providers
  limit_means = (
    (λ e. all_of (λ x. IsAtMost (have granted t x.number) greatest_counts) t.providers (within_limit e)),
    (λ facts. limit_from
        (λ x there. All-contains (λ (y : Provider). IsAtMost (have granted t y.number) greatest_counts) t.providers
        x facts there)),
  )

-- When exclusiveness and the limit can't begin to fail.

module _ {C D : Type 0} (granted : ℕ → Counts) (t : Topology C) (other : ℕ → Counts) (u : Topology D) where
  -- before, a consumer of that number at that provider wanted no less
  pub record HasElder (n : ℕ) (a : Consumer) : Type 0 where
    pub provider : Provider
    pub stands : Contains t.providers provider
    pub leads : provider.number ≡ n
    pub elder : Consumer
    pub attached : Contains (attached_to t n) elder
    pub same : elder.number ≡ a.number
    pub at_most : IsAtMost (want other u a) (want granted t elder)

  -- where each that wants anything wanted no less before, none comes to stand in another's way
  pub exclusive_keeps
      : ((x : Provider) → Contains u.providers x → (a : Consumer) → Contains (attached_to u x.number) a
      → (want other u a ≡ no_counts) ⊎ HasElder x.number a)
      → is_exclusive granted t ≡ true → is_exclusive other u ≡ true
  exclusive_keeps each e =
      exclusive_from other u
      (λ x a b there first second differ.
      elim (each x there a first) [
        | inl none ↦ inl (ap (λ (c : Counts). c.w) none)
        | inr ea ↦
            elim (each x there b second) [
              | inl none ↦ inr (ap (λ (c : Counts). c.e) none)
              | inr eb ↦
                  elim
                  (apart_from granted t e ea.provider ea.elder eb.elder ea.stands
                  (subst (λ n. Contains (attached_to t n) ea.elder) (sym ea.leads) ea.attached)
                  (subst (λ n. Contains (attached_to t n) eb.elder) (sym ea.leads) eb.attached)
                  (λ same. differ (sym ea.same ∙ same ∙ eb.same))) [
                    | inl w ↦ inl (omega (arith, w, ea.at_most.w))
                    | inr z ↦ inr (omega (arith, z, eb.at_most.e))
                  ]
            ]
      ])

  -- before, the provider had no less
  pub record HadNoLess (x : Provider) : Type 0 where
    pub provider : Provider
    pub stands : Contains t.providers provider
    pub at_most : IsAtMost (have other u x.number) (have granted t provider.number)

  -- where each provider with counts had no less before, none comes above the limit
  pub limit_keeps : ((x : Provider) → Contains u.providers x → (have other u x.number ≡ no_counts) ⊎ HadNoLess x)
      → fits_limit granted t ≡ true → fits_limit other u ≡ true
  limit_keeps each e =
      limit_from other u
      (λ x there.
      elim (each x there) [
        | inl none ↦ subst (λ a. IsAtMost a greatest_counts) (sym none) (at_most-zero greatest_counts)
        | inr elder ↦
            at_most-trans (have other u x.number) (have granted t elder.provider.number) greatest_counts
            elder.at_most (within_limit granted t e elder.provider elder.stands)
      ])

module _ {C : Type 0} (small large : ℕ → Counts) (grants : AreAtMost small large) (t : Topology C) where
  -- less demand, by smaller grants and fewer consumers
  pub exclusive_left : (keep : Consumer → Bool) → is_exclusive large t ≡ true
      → is_exclusive small (keep_consumers t keep) ≡ true
  exclusive_left keep e =
      exclusive_keeps large t small (keep_consumers t keep)
      (λ x there a attached.
      let inside = of_filter (λ c. names_number c.provider x.number) (filter keep t.consumers) a attached in
      let before = of_filter keep t.consumers a inside.0 in
      inr (record {
        provider = x;
        stands = there;
        leads = refl;
        elder = a;
        attached = Contains-filter (λ c. names_number c.provider x.number) t.consumers a before.0 inside.1;
        same = refl;
        at_most = kept_want-at_most small large grants t keep a;
      }))
      e

  -- nor does a count come above the limit
  pub limit_left : (keep : Consumer → Bool) → fits_limit large t ≡ true
      → fits_limit small (keep_consumers t keep) ≡ true
  limit_left keep e =
      limit_keeps large t small (keep_consumers t keep)
      (λ x there. inr (record {
        provider = x;
        stands = there;
        at_most = kept-at_most small large grants t keep x.number;
      }))
      e

  -- the same with smaller grants alone
  pub exclusive_less : is_exclusive large t ≡ true → is_exclusive small t ≡ true
  exclusive_less e = subst (λ u. is_exclusive small u ≡ true) (keep_all t) (exclusive_left (λ x. true) e)

  -- and for the limit
  pub limit_less : fits_limit large t ≡ true → fits_limit small t ≡ true
  limit_less e = subst (λ u. fits_limit small u ≡ true) (keep_all t) (limit_left (λ x. true) e)

-- what `less_is_allowed` says
pub ruleset less_is_allowed = (exclusive_left, limit_left, exclusive_less, limit_less)

-- Which write counts leave zero or come to it, and that looking at what changes is enough.

-- Write counts that leave zero or come to it

-- a test that never holds keeps nothing
filter_none : {X : Type 0} (test : X → Bool) (xs : List X) → ((x : X) → test x ≡ false) → filter test xs ≡ []
filter_none test [] so = refl
filter_none test (x ∷ xs) so = rw (so x) (filter_none test xs so)

-- a number that the test finds is there
pub has-contains : (xs : List ℕ) (x : ℕ) → has_number xs x ≡ true → Contains xs x
has-contains xs x found =
    let o = some-passes (λ y. y == x) xs found in subst (Contains xs) (eqb-true o.item x o.passes) o.here

-- and the test finds one that is there
pub contains-has : (xs : List ℕ) (x : ℕ) → Contains xs x → has_number xs x ≡ true
contains-has xs x there = any-contained (λ y. y == x) xs x there (eq-eqb x x refl)

-- where it finds none, there is none
pub has_not : (xs : List ℕ) (x : ℕ) → has_number xs x ≡ false → Contains xs x → ⊥
has_not xs x none there = let no : true ≡ false = sym (contains-has xs x there) ∙ none in cc

-- and where there is none, it finds none
pub not-has : (xs : List ℕ) (x : ℕ) → (Contains xs x → ⊥) → has_number xs x ≡ false
not-has xs x none = false_from_ne_true (has_number xs x) (λ e. none (has-contains xs x e))

-- whether a list of numbers contains a number
is_there : (xs : List ℕ) (n : ℕ) → Contains xs n ⊎ (Contains xs n → ⊥)
is_there xs n =
    elim (cases_Bool (has_number xs n)) [ inl e ↦ inl (has-contains xs n e) | inr e ↦ inr (has_not xs n e) ]

-- a count that is at most one which is zero is zero
rises_not : (a b : ℕ) → b ≤ a → ((a == 0) && not (b == 0)) ≡ false
rises_not a b h = grind (arith, nat_tests)

-- a count that is at least one which is not zero is not zero
falls_not : (a b : ℕ) → a ≤ b → (not (a == 0) && (b == 0)) ≡ false
falls_not a b h = grind (arith, nat_tests)

module _ {C : Type 0} (granted : ℕ → Counts) (t : Topology C) (after : ℕ → Counts) (u : Topology C) where
  -- where counts don't rise, no write count leaves zero
  pub risen_none : ((p : ℕ) → IsAtMost (have after u p) (have granted t p)) → risen granted t after u ≡ []
  risen_none less =
      ap (map (λ (x : Provider). x.number))
      (filter_none (λ x. ((have granted t x.number).w == 0) && not ((have after u x.number).w == 0)) t.providers
      (λ x. rises_not (have granted t x.number).w (have after u x.number).w (less x.number).w))

  -- where counts don't fall, no write count comes to zero
  pub fallen_none : ((p : ℕ) → IsAtMost (have granted t p) (have after u p)) → fallen granted t after u ≡ []
  fallen_none more =
      ap (map (λ (x : Provider). x.number))
      (filter_none (λ x. not ((have granted t x.number).w == 0) && ((have after u x.number).w == 0)) t.providers
      (λ x. falls_not (have granted t x.number).w (have after u x.number).w (more x.number).w))

  module _ (ns : List ℕ) (stay : (q : ℕ) → (Contains ns q → ⊥) → have after u q ≡ have granted t q) where
    -- what rises and what falls is among what changes
    changed_in : (test : ℕ → ℕ → Bool) → ((n : ℕ) → test n n ≡ false) → (x : Provider)
        → test (have granted t x.number).w (have after u x.number).w ≡ true → Contains ns x.number
    changed_in test never x e =
        elim (is_there ns x.number) [
          | inl there ↦ there
          | inr away ↦
              absurd
              (let same : (have after u x.number).w ≡ (have granted t x.number).w =
              ap (λ (a : Counts). a.w) (stay x.number away) in
              let no : true ≡ false =
              sym e ∙ ap (test (have granted t x.number).w) same ∙ never (have granted t x.number).w in
              (cc))
        ]

    -- so for each such test
    moved_in : (test : ℕ → ℕ → Bool) → ((n : ℕ) → test n n ≡ false)
        → All (Contains ns) (map (λ (x : Provider). x.number)
        (filter (λ x. test (have granted t x.number).w (have after u x.number).w) t.providers))
    moved_in test never =
        let xs : List Provider = filter (λ x. test (have granted t x.number).w (have after u x.number).w) t.providers in
        All-map (Contains ns) (λ (x : Provider). x.number) xs
        (all_of (λ (x : Provider). Contains ns x.number) xs (λ x there.
        changed_in test never x
        (of_filter (λ y. test (have granted t y.number).w (have after u y.number).w) t.providers x there).1))

    pub risen_in : All (Contains ns) (risen granted t after u)
    risen_in = moved_in (λ a b. (a == 0) && not (b == 0)) (λ n. and-not_self (n == 0))

    pub fallen_in : All (Contains ns) (fallen granted t after u)
    fallen_in = moved_in (λ a b. not (a == 0) && (b == 0)) (λ n. not-and_self (n == 0))

  -- where only some providers change, it is enough to look at these
  module _ (ns : List ℕ) (stay : StaysAround granted t after u ns) (providers : u.providers ≡ t.providers) where
    pub changed_exclusive : is_exclusive granted t ≡ true
        → All (λ x. Contains ns x.number → NoneInTheWay after u (attached_to u x.number)) t.providers
        → is_exclusive after u ≡ true
    changed_exclusive e facts =
        exclusive_from after u
        (λ x a b there first second other.
        let stood : Contains t.providers x = subst (λ xs. Contains xs x) providers there in
        elim (is_there ns x.number) [
          | inl near ↦
              none_in_way after u (attached_to u x.number)
              (All-contains (λ (y : Provider). Contains ns y.number
              → NoneInTheWay after u (attached_to u y.number)) t.providers x facts stood near)
              a b first second other
          | inr away ↦
              let one : Contains (attached_to t x.number) a =
              subst (λ cs. Contains cs a) (stay.attached x.number away) first in
              let two : Contains (attached_to t x.number) b =
              subst (λ cs. Contains cs b) (stay.attached x.number away) second in
              elim (apart_from granted t e x a b stood one two other) [
                | inl w ↦ inl (ap (λ (z : Counts). z.w) (stay.wants x.number away a one) ∙ w)
                | inr z ↦ inr (ap (λ (y : Counts). y.e) (stay.wants x.number away b two) ∙ z)
              ]
        ])

    pub changed_limit : fits_limit granted t ≡ true
        → All (λ x. Contains ns x.number → IsAtMost (have after u x.number) greatest_counts) t.providers
        → fits_limit after u ≡ true
    changed_limit e facts =
        limit_from after u
        (λ x there.
        let stood : Contains t.providers x = subst (λ xs. Contains xs x) providers there in
        elim (is_there ns x.number) [
          | inl near ↦
              All-contains (λ (y : Provider). Contains ns y.number
              → IsAtMost (have after u y.number) greatest_counts) t.providers x facts stood near
          | inr away ↦
              subst (λ a. IsAtMost a greatest_counts) (sym (stay.haves x.number away))
              (within_limit granted t e x stood)
        ])

-- what `rises_and_falls_are_among_changes` says
pub ruleset rises_and_falls_are_among_changes = (risen_none, fallen_none, risen_in, fallen_in)
