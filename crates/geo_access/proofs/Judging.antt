-- What the judgement of a tried demand says.
use Rattle.std.specs.Prelude.{◌≡◌, ◌≢◌, ◌⊎◌, ℕ, ◌==◌, ◌≤◌, min, Bool, true, false, not, ◌&&◌, List, [], ◌∷◌, flat_map, find, fold, Option, Some, None, Contains, option_map, if◌then◌else◌}
use Rattle.std.specs.Option.{option_map_or, option_and_then, option_or}
use Rattle.std.proofs.Common.{refl, sym, ◌∙◌, ap, subst, arith, inl, inr, eq-eqb, rules}
use Rattle.std.proofs.lemmas.Bool.{cases_eq, ne_eqb, and_parts}
use Rattle.std.proofs.lemmas.List.Sums.{fold-append}
use Rattle.geo_base.proofs.FindLists.{found_in, none_passes}
use Rattle.geo_base.proofs.Options.{none-mapped}
use Rattle.geo_base.proofs.Tests.{passes_apart}
use Rattle.geo_base.specs.declared.request.Counts.{Counts}
use Rattle.geo_base.proofs.MemberLists.{at_contained, Contains-there, Contains-cases, nothing_in, Contains-here}
use Rattle.geo_model.specs.Words.{names_number}
use Rattle.geo_model.specs.Topology.{Topology, Provider, Consumer, provider_at, attached_to, providers_under}
use Rattle.geo_mesh.specs.Topo.{TopoView}
use Rattle.geo_laws_counts.proofs.LimitFacts.{of_filter}
use Rattle.geo_laws_counts.specs.WalkWords.{cap}
use Rattle.geo_access.specs.declared.decide.Side.{Side}
use Rattle.geo_access.specs.declared.decide.Side.TheVariants.{Writes, Excludes}
use Rattle.geo_access.specs.Views.{raised, has_side, other, pair_with, pair_at, lesser, smaller, first_errored, first_given}

-- Errors

-- whether a provider is found with an error
abbrev pub errored_at : {C : Type 0} → Topology C → ℕ → Bool
errored_at t q = option_map_or (λ (y : Provider). y.errored) (provider_at t q) false

-- the least of the numbers of a set that have an error
abbrev pub IsLeastOf : {C : Type 0} → Topology C → (ℕ → Type 0) → Option ℕ → Type 0
IsLeastOf t S None = (z : ℕ) → S z → errored_at t z ≡ false
IsLeastOf t S (Some b) = S b × (errored_at t b ≡ true) × ((z : ℕ) → S z → errored_at t z ≡ true → b ≤ z)

module _ {C : Type 0} (v : TopoView C) where
  -- with one number more
  least_one : (S : ℕ → Type 0) (q : ℕ) (best : Option ℕ) → IsLeastOf v.topology S best → (e : Bool)
      → errored_at v.topology q ≡ e
      → IsLeastOf v.topology (λ z. S z ⊎ (z ≡ q)) (if e then Some (smaller best q) else best)
  least_one S q None least false is = λ z among.
      elim among [ inl old ↦ least z old | inr same ↦ ap (errored_at v.topology) same ∙ is ]
  least_one S q (Some b) least false is = search rules
  least_one S q None least true is = search rules
  least_one S q (Some b) least true is = search rules

  -- with some numbers more
  least_all : (qs : List ℕ) (S : ℕ → Type 0) (best : Option ℕ) → IsLeastOf v.topology S best
      → IsLeastOf v.topology (λ z. S z ⊎ Contains qs z) (fold (lesser v) best qs)
  least_all [] S best least = search rules
  least_all (q ∷ qs) S best least =
      search (
        rules,
        least_all qs (λ z. S z ⊎ (z ≡ q)) (lesser v best q) (least_one S q best least (errored_at v.topology q) refl),
        Contains-here q qs,
        Contains-there q,
        Contains-cases q,
      )

  -- a fold over the lists of some items is one over their lists in a row
  fold_flat : (f : Option ℕ → ℕ → Option ℕ) (g : ℕ → List ℕ) (xs : List ℕ) (best : Option ℕ)
      → fold (λ b x. fold f b (g x)) best xs ≡ fold f best (flat_map g xs)
  fold_flat f g [] best = refl
  fold_flat f g (x ∷ xs) best = fold_flat f g xs (fold f best (g x)) ∙ sym (fold-append f best (g x) (flat_map g xs))

  -- the smallest with an error among the provider and what is under the geoms
  pub errored_is : (p : ℕ) (xs : List ℕ)
      → IsLeastOf v.topology (λ z. Contains (p ∷ flat_map (providers_under v.topology) xs) z) (first_errored v p xs)
  errored_is p xs =
      widen (first_errored v p xs)
      (subst (IsLeastOf v.topology (λ z. ⊥ ⊎ Contains (p ∷ flat_map (providers_under v.topology) xs) z))
      (sym (fold_flat (lesser v) (providers_under v.topology) xs (lesser v None p)))
      (least_all (p ∷ flat_map (providers_under v.topology) xs) (λ z. ⊥) None (λ z none. absurd none)))
    where
      widen : (o : Option ℕ)
          → IsLeastOf v.topology (λ z. ⊥ ⊎ Contains (p ∷ flat_map (providers_under v.topology) xs) z) o
          → IsLeastOf v.topology (λ z. Contains (p ∷ flat_map (providers_under v.topology) xs) z) o
      widen None all = λ z there. all z (inr there)
      widen (Some b) all = search rules

-- Look-ups

-- what is found, where its value is
mapped_some : {X : Type 0} (f : X → ℕ) (o : Option X) (n : ℕ) → option_map f o ≡ Some n
    → (x : X) × (o ≡ Some x) × (f x ≡ n)
mapped_some f None n e = absurd (cc)
mapped_some f (Some x) n e = (x, refl, (cc))

-- Sides

-- a count is zero just where it is so stopped
pub zero_min : (n : ℕ) → (min n 4294967295 == 0) ≡ (n == 0)
zero_min n =
    elim (cases_eq n 0) [
      | inl none ↦ eq-eqb (min n 4294967295) 0 (omega arith) ∙ sym (eq-eqb n 0 none)
      | inr some ↦ ne_eqb (min n 4294967295) 0 (λ none. some (omega arith)) ∙ sym (ne_eqb n 0 some)
    ]

-- a side that is stopped is there just where the side is
pub side-cap : (side : Side) (a : Counts) → has_side side (cap a) ≡ has_side side a
side-cap Writes a = ap not (zero_min a.w)
side-cap Excludes a = ap not (zero_min a.e)

-- a test that doesn't hold beside one that does
second_false : (a b : Bool) → (a && b) ≡ false → a ≡ true → b ≡ false
second_false true b e holds = e
second_false false b e holds = absurd (cc)

module _ {C : Type 0} (v : TopoView C) (u : Consumer → Counts)
    (raises : (q : ℕ) (c : Consumer) → Contains (attached_to v.topology q) c → raised v c ≡ cap (u c)) where
  -- a consumer at a provider, other than one, that writes or excludes
  pub record Has (q but : ℕ) (side : Side) (n : ℕ) : Type 0 where
    pub one : Consumer
    pub at : Contains (attached_to v.topology q) one
    pub number : one.number ≡ n
    pub apart : n ≢ but
    pub has : has_side side (u one) ≡ true

  -- what a consumer at a provider has once it is raised
  side_at : (q : ℕ) (side : Side) (c : Consumer) → Contains (attached_to v.topology q) c
      → has_side side (raised v c) ≡ has_side side (u c)
  side_at q side c at = ap (has_side side) (raises q c at) ∙ side-cap side (u c)

  -- where one is found
  pub other_some : (q but : ℕ) (side : Side) (n : ℕ) → other v q but side ≡ Some n → Has q but side n
  other_some q but side n found =
      search (rules, mapped_some (λ (c : Consumer). c.number), found_in, and_parts, passes_apart, side_at q side)

  -- where none is found
  pub other_none : (q but : ℕ) (side : Side) → other v q but side ≡ None → (c : Consumer)
      → Contains (attached_to v.topology q) c → c.number ≢ but
      → has_side side (u c) ≡ false
  other_none q but side none c at apart =
      let test : Consumer → Bool = λ d. not (d.number == but) && has_side side (raised v d) in
      sym (side_at q side c at)
      ∙ second_false (not (c.number == but)) (has_side side (raised v c))
      (at_contained (λ (d : Consumer). test d ≡ false) (attached_to v.topology q) c
      (none_passes test (attached_to v.topology q)
      (none-mapped (λ (d : Consumer). d.number) (find test (attached_to v.topology q)) none)) at)
      (ap not (ne_eqb c.number but apart))

  -- two different consumers at a provider stand in each other's way
  pub record Clash (q w e : ℕ) : Type 0 where
    pub writer : Consumer
    pub exclusive : Consumer
    pub writer_at : Contains (attached_to v.topology q) writer
    pub exclusive_at : Contains (attached_to v.topology q) exclusive
    pub writer_is : writer.number ≡ w
    pub exclusive_is : exclusive.number ≡ e
    pub apart : w ≢ e
    pub writes : has_side Writes (u writer) ≡ true
    pub excludes : has_side Excludes (u exclusive) ≡ true

  -- two that were found do
  clash_of : (q w e but : ℕ) → Has q but Writes w → Has q w Excludes e → Clash q w e
  clash_of q w e but a b = search rules

  -- no two do
  abbrev pub NoClash : ℕ → Type 0
  NoClash q = (a b : Consumer) → Contains (attached_to v.topology q) a → Contains (attached_to v.topology q) b
      → a.number ≢ b.number
      → (has_side Writes (u a) ≡ false) ⊎ (has_side Excludes (u b) ≡ false)

  -- what the look for a second pair says
  abbrev pub Says : ℕ → Option (ℕ × ℕ) → Type 0
  Says q None = NoClash q
  Says q (Some ab) = Clash q ab.0 ab.1

  -- the last look
  third_says : (q n m : ℕ)
      → Has q 0 Writes n → other v q n Excludes ≡ None → Has q n Writes m
      → (o : Option ℕ) → other v q m Excludes ≡ o → Says q (option_map (λ b. (m, b)) o)
  third_says q n m first none second None e = search (rules, other_none q m Excludes e, other_none q n Excludes none)
  third_says q n m first none second (Some b) e = clash_of q m b n second (other_some q m Excludes b e)

  -- where the first writer isn't of the pair
  second_says : (q n : ℕ)
      → Has q 0 Writes n → other v q n Excludes ≡ None
      → (o : Option ℕ) → other v q n Writes ≡ o
      → Says q (option_and_then (λ a. option_map (λ b. (a, b)) (other v q a Excludes)) o)
  second_says q n first none None e = search (rules, other_none q n Writes e, other_none q n Excludes none)
  second_says q n first none (Some m) e =
      third_says q n m first none (other_some q n Writes m e) (other v q m Excludes) refl

  -- where a first writer is found
  first_says : (q n : ℕ) → Has q 0 Writes n
      → (o : Option ℕ) → other v q n Excludes ≡ o → Says q (pair_with v q n o)
  first_says q n first None e = second_says q n first e (other v q n Writes) refl
  first_says q n first (Some b) e = clash_of q n b 0 first (other_some q n Excludes b e)

  -- what the look for a pair says
  pair_step : (positive : (c : Consumer) → Contains v.topology.consumers c → c.number ≢ 0) (q : ℕ) → (o : Option ℕ)
      → other v q 0 Writes ≡ o
      → Says q (option_and_then (λ a. pair_with v q a (other v q a Excludes)) o)
  pair_step positive q None e = λ a b at bt apart.
      inl (other_none q 0 Writes e a at
      (positive a (of_filter (λ (d : Consumer). names_number d.provider q) v.topology.consumers a at).0))
  pair_step positive q (Some n) e = first_says q n (other_some q 0 Writes n e) (other v q n Excludes) refl

  pub pair_says : (positive : (c : Consumer) → Contains v.topology.consumers c → c.number ≢ 0) (q : ℕ)
      → Says q (pair_at v q)
  pair_says positive q = pair_step positive q (other v q 0 Writes) refl

-- The first of some that says something

-- where nothing is said of any
pub first_none : {X Y : Type 0} (f : X → Option Y) (xs : List X) → first_given f xs ≡ None → (x : X) → Contains xs x
    → f x ≡ None
first_none {X} {Y} f [] none x there = absurd (nothing_in x there)
first_none {X} {Y} f (y ∷ ys) none x there = step (f y) refl none (λ h rest. first_none f ys h x rest)
  where
    step : (o : Option Y) → f y ≡ o → option_or o (first_given f ys) ≡ None
        → (first_given f ys ≡ None → Contains ys x → f x ≡ None) → f x ≡ None
    step None e h so =
        elim (Contains-cases y x ys there) [ inl same ↦ subst (λ z. f z ≡ None) same e | inr rest ↦ so h rest ]
    step (Some z) e h so = absurd (cc)

-- where something is, it is said of one of them
pub first_of : {X Y : Type 0} (f : X → Option Y) (xs : List X) (r : Y) → first_given f xs ≡ Some r
    → (x : X) × Contains xs x × (f x ≡ Some r)
first_of f [] r never = absurd (cc)
first_of {X} {Y} f (y ∷ ys) r found = step (f y) refl found (first_of f ys r)
  where
    step : (o : Option Y) → f y ≡ o → option_or o (first_given f ys) ≡ Some r
        → (first_given f ys ≡ Some r → (x : X) × Contains ys x × (f x ≡ Some r))
        → (x : X) × Contains (y ∷ ys) x × (f x ≡ Some r)
    step None e h so = let rest = so h in (rest.0, Contains-there y rest.0 ys rest.1, rest.2)
    step (Some z) e h so = (y, Contains-here y ys, e ∙ h)
