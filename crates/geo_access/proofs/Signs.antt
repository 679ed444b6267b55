-- What counts tell of a demand that was tried: whether a writer stands beside another's exclusive count below.
use Rattle.std.specs.Prelude.{◌≡◌, ◌≢◌, ◌⊎◌, ℕ, ◌+◌, ◌==◌, ◌≤◌, nat_lt, min, Bool, true, false, not, ◌&&◌, ◌||◌, List, [], ◌∷◌, map, Option, Some, None, IsSome, Contains, option_map, if◌then◌else◌}
use Rattle.std.specs.Option.{option_and_then, option_or}
use Rattle.std.proofs.Common.{refl, sym, ◌∙◌, ap, subst, arith, inl, inr, eq-eqb}
use Rattle.std.proofs.lemmas.Bool.{eqb-true, ne_eqb, or_parts}
use Rattle.std.proofs.lemmas.Bool.Decides.{nat_tests}
use Rattle.geo_base.specs.declared.request.Counts.{Counts}
use Rattle.geo_base.proofs.MemberLists.{Contains-there, Contains-here, Contains-cases, Contains-filter, Contains-map, nothing_in}
use Rattle.geo_model.specs.Words.{names_number}
use Rattle.geo_model.specs.Topology.{Provider, Consumer, consumers_of, providers_of, attached_to}
use Rattle.geo_model.specs.Demand.{no_counts, add_counts, sum_counts}
use Rattle.geo_mesh.specs.Topo.{TopoView}
use Rattle.geo_laws_counts.specs.CountWords.{IsAtMost}
use Rattle.geo_laws_counts.specs.WalkWords.{has_number, cap}
use Rattle.geo_laws_counts.proofs.LimitFacts.{of_filter}
use Rattle.geo_laws_counts.proofs.Orders.{has-contains, contains-has}
use Rattle.geo_laws_counts.proofs.Sums.{zero-add}
use Rattle.geo_laws_counts.proofs.Upward.{names_some}
use Rattle.geo_access.specs.declared.decide.Side.{Side}
use Rattle.geo_access.specs.declared.decide.Side.TheVariants.{Writes, Excludes}
use Rattle.geo_access.specs.declared.decide.Asked.TheVariants.{Exclusion}
use Rattle.geo_access.specs.declared.judge.Sign.{Sign}
use Rattle.geo_access.specs.declared.judge.Sign.TheVariants as signs
use Rattle.geo_access.specs.declared.refusal.GrantRefusal.{GrantRefusal}
use Rattle.geo_access.specs.declared.refusal.GrantRefusal.TheVariants.{Eperm}
use Rattle.geo_access.specs.Tries.{stands_beside, is_stopped, sign_of, Apart}
use Rattle.geo_access.specs.Views.{raised, raised_have, has_side, pair_at, fault_at, fault_in, first_given, sign_at, sign_in, CountsTellBelow}
use Rattle.geo_access.proofs.Judging.{Clash, NoClash, Says, pair_says, first_none, first_of}
use Rattle.geo_access.proofs.Verdict.{part_at_most, side_there, side_gone}

-- Sums

-- the write count or the exclusive count
abbrev pub count_of : Side → Counts → ℕ
count_of Writes a = a.w
count_of Excludes a = a.e

-- of a sum it is the sum
count_add : (side : Side) (a b : Counts) → count_of side (add_counts a b) ≡ count_of side a + count_of side b
count_add Writes a b = refl
count_add Excludes a b = refl

-- a side that isn't there is zero
pub no_count : (side : Side) (a : Counts) → has_side side a ≡ false → count_of side a ≡ 0
no_count Writes a none = side_gone a.w none
no_count Excludes a none = side_gone a.e none

module _ (f : Consumer → Counts) where
  -- where none has a side, the sum hasn't it
  pub none_of_side : (side : Side) (cs : List Consumer) → ((c : Consumer) → Contains cs c → count_of side (f c) ≡ 0)
      → count_of side (sum_counts (map f cs)) ≡ 0
  none_of_side Writes [] zero = refl
  none_of_side Excludes [] zero = refl
  none_of_side side (c ∷ cs) zero =
      let rest = none_of_side side cs (λ d there. zero d (Contains-there c d cs there)) in
      let one = zero c (Contains-here c cs) in
      let is = count_add side (f c) (sum_counts (map f cs)) in
      omega (arith, one, rest, is)

  -- where no other consumer has a side, the sum has no more of it than this one
  pub alone : (side : Side) (cs : List Consumer) (one : Consumer) → Contains cs one
      → Apart (map (λ (c : Consumer). c.number) cs)
      → ((c : Consumer) → Contains cs c → one.number ≢ c.number → count_of side (f c) ≡ 0)
      → count_of side (sum_counts (map f cs)) ≤ count_of side (f one)
  alone side [] one at apart zero = absurd (nothing_in one at)
  alone side (c ∷ cs) one at apart zero =
      let is = count_add side (f c) (sum_counts (map f cs)) in
      let away : (d : Consumer) → Contains cs d → c.number ≢ d.number =
      λ d there same. apart.0 (subst (Contains (map (λ (x : Consumer). x.number) cs)) (sym same)
      (Contains-map (λ (x : Consumer). x.number) cs d there)) in
      elim (Contains-cases c one cs at) [
        | inl first ↦
            let none = none_of_side side cs (λ d there. zero d (Contains-there c d cs there)
            (λ same. away d there (ap (λ (x : Consumer). x.number) first ∙ same))) in
            let here = ap (λ x. count_of side (f x)) first in
            omega (arith, none, here, is)
        | inr rest ↦
            let few = alone side cs one rest apart.1 (λ d there. zero d (Contains-there c d cs there)) in
            let none = zero c (Contains-here c cs) (λ same. away one rest (sym same)) in
            omega (arith, none, few, is)
      ]

  -- two consumers have no more than the sum
  pub two_at_most : (side : Side) (cs : List Consumer) (a b : Consumer) → Contains cs a → Contains cs b
      → a.number ≢ b.number → count_of side (f a) + count_of side (f b) ≤ count_of side (sum_counts (map f cs))
  two_at_most side [] a b at bt apart = absurd (nothing_in a at)
  two_at_most side (c ∷ cs) a b at bt apart =
      let is = count_add side (f c) (sum_counts (map f cs)) in
      elim (Contains-cases c a cs at) [
        | inl first ↦
            elim (Contains-cases c b cs bt) [
              | inl also ↦ absurd (apart (ap (λ (x : Consumer). x.number) (sym first ∙ also)))
              | inr rest ↦
                  let least = one_at_most side cs b rest in
                  let here = ap (λ x. count_of side (f x)) first in
                  omega (arith, least, here, is)
            ]
        | inr rest ↦
            elim (Contains-cases c b cs bt) [
              | inl first ↦
                  let least = one_at_most side cs a rest in
                  let here = ap (λ x. count_of side (f x)) first in
                  omega (arith, least, here, is)
              | inr also ↦
                  let least = two_at_most side cs a b rest also apart in
                  omega (arith, least, is)
            ]
      ]
    where
      one_at_most : (s : Side) (ds : List Consumer) (d : Consumer) → Contains ds d
          → count_of s (f d) ≤ count_of s (sum_counts (map f ds))
      one_at_most Writes ds d there = (part_at_most f ds d there).w
      one_at_most Excludes ds d there = (part_at_most f ds d there).e

-- Signs of counts that are stopped

-- where there is no sign both tests fail
no_sign : (x y : Bool) → ◌≡◌ {A = Option Sign} (if x then Some signs.Clash else if y then Some signs.Unclear else None) None
    → (x ≡ false) × (y ≡ false)
no_sign true y none = absurd (cc)
no_sign false true none = absurd (cc)
no_sign false false none = (refl, refl)

-- where there is a clash the first one holds
clash_sign : (x y : Bool)
    → ◌≡◌ {A = Option Sign} (if x then Some signs.Clash else if y then Some signs.Unclear else None) (Some signs.Clash)
    → x ≡ true
clash_sign true y found = refl
clash_sign false true found = absurd (cc)
clash_sign false false found = absurd (cc)

-- counts that are stopped tell of a part beside the one that isn't
beside_from : (w e ae o : ℕ) → w ≢ 0 → o ≢ 0 → e + o ≤ ae
    → (not (min w 4294967295 == 0) && nat_lt (min e 4294967295) (min ae 4294967295)) ≡ false
    → (min e 4294967295 == 4294967295) ≡ false → ⊥
beside_from w e ae o some other most tests stopped = grind (arith, nat_tests)

-- a writer beside another's exclusive count isn't passed over
writer_tells : (mine all : Counts) (other : ℕ) → mine.w ≢ 0 → other ≢ 0 → mine.e + other ≤ all.e
    → sign_of (cap mine) (cap all) ≡ None → ⊥
writer_tells mine all other some excludes most none =
    let fail = no_sign (stands_beside (cap mine) (cap all)) (is_stopped (cap mine)) none in
    beside_from mine.w mine.e all.e other some excludes most (or_parts _ _ fail.0).0 (or_parts _ _ fail.1).1

-- nor an exclusive count beside another writer
excluder_tells : (mine all : Counts) (other : ℕ) → mine.e ≢ 0 → other ≢ 0 → mine.w + other ≤ all.w
    → sign_of (cap mine) (cap all) ≡ None → ⊥
excluder_tells mine all other some writes most none =
    let fail = no_sign (stands_beside (cap mine) (cap all)) (is_stopped (cap mine)) none in
    beside_from mine.e mine.w all.w other some writes most (or_parts _ _ fail.0).1 (or_parts _ _ fail.1).0

-- what two counts that are stopped say of those that aren't
beside_says : (w e ae : ℕ)
    → (not (min w 4294967295 == 0) && nat_lt (min e 4294967295) (min ae 4294967295)) ≡ true
    → (w ≢ 0) × (e + 1 ≤ ae)
beside_says w e ae tests = ((λ none. grind (arith, nat_tests)), grind (arith, nat_tests))

-- what a clash says of the counts
clash_says : (mine all : Counts) → sign_of (cap mine) (cap all) ≡ Some signs.Clash
    → ((mine.w ≢ 0) × (mine.e + 1 ≤ all.e)) ⊎ ((mine.e ≢ 0) × (mine.w + 1 ≤ all.w))
clash_says mine all found =
    by (not (min mine.w 4294967295 == 0) && nat_lt (min mine.e 4294967295) (min all.e 4294967295)) refl
    (clash_sign (stands_beside (cap mine) (cap all)) (is_stopped (cap mine)) found)
  where
    by : (b : Bool) → (not (min mine.w 4294967295 == 0) && nat_lt (min mine.e 4294967295) (min all.e 4294967295)) ≡ b
        → (b || (not (min mine.e 4294967295 == 0) && nat_lt (min mine.w 4294967295) (min all.w 4294967295))) ≡ true
        → ((mine.w ≢ 0) × (mine.e + 1 ≤ all.e)) ⊎ ((mine.e ≢ 0) × (mine.w + 1 ≤ all.w))
    by true e tests = inl (beside_says mine.w mine.e all.e e)
    by false e tests = inr (beside_says mine.e mine.w all.w tests)

-- What is given of some items

-- nothing, where nothing is of each
none_given : {X Y : Type 0} (f : X → Option Y) (xs : List X) → ((x : X) → Contains xs x → f x ≡ None)
    → first_given f xs ≡ None
none_given f [] none = refl
none_given {X} {Y} f (x ∷ xs) none =
    ap (λ o. option_or o (first_given f xs)) (none x (Contains-here x xs))
    ∙ none_given f xs (λ y there. none y (Contains-there x y xs there))

-- something, unless nothing is
pub some_unless : {X : Type 0} (o : Option X) → (o ≡ None → ⊥) → IsSome o
some_unless None never = absurd (never refl)
some_unless (Some x) never = refl

-- what a sign says of where the consumer is
placed_sign : (f : ℕ → Option Sign) (o : Option ℕ) (r : Sign) → option_and_then f o ≡ Some r
    → (q : ℕ) × (o ≡ Some q) × (f q ≡ Some r)
placed_sign f None r found = absurd (cc)
placed_sign f (Some q) r found = (q, refl, found)

module _ {C : Type 0} (v : TopoView C) (p : ℕ) (first : Counts) (old more : Consumer → Counts) (xs : List ℕ)
    (raises : (q : ℕ) (c : Consumer) → Contains (attached_to v.topology q) c
    → raised v c ≡ cap (add_counts (old c) (more c)))
    (totals : (z : Provider) → Contains v.topology.providers z → raised_have v z.number
    ≡ cap (add_counts (if p == z.number then first else no_counts)
    (sum_counts (map (λ c. add_counts (old c) (more c)) (attached_to v.topology z.number)))))
    (positive : (c : Consumer) → Contains v.topology.consumers c → c.number ≢ 0)
    (differ : (q : ℕ) → Apart (map (λ (c : Consumer). c.number) (attached_to v.topology q)))
    (around : (c : Consumer) → Contains v.topology.consumers c → (Contains xs c.geom → ⊥) → more c ≡ no_counts)
    (above : (c : Consumer) → Contains (attached_to v.topology p) c → Contains xs c.geom → ⊥)
    (places : (c : Consumer) → Contains v.topology.consumers c → Contains xs c.geom → (q : ℕ) → c.provider ≡ Some q
    → (z : Provider) × Contains v.topology.providers z × (z.number ≡ q) × Contains xs z.geom)
    (before : (z : Provider) → Contains v.topology.providers z → (a b : Consumer)
    → Contains (attached_to v.topology z.number) a → Contains (attached_to v.topology z.number) b
    → a.number ≢ b.number → ((old a).w ≡ 0) ⊎ ((old b).e ≡ 0)) where
  -- what a consumer wanted and gains
  abbrev sum_of : Consumer → Counts
  sum_of c = add_counts (old c) (more c)

  -- what all at a provider wanted and gain
  abbrev all_at : ℕ → Counts
  all_at q = sum_counts (map sum_of (attached_to v.topology q))

  -- what the provider would have before it is stopped
  abbrev whole : ℕ → Counts
  whole q = add_counts (if p == q then first else no_counts) (all_at q)

  -- a consumer at a provider stands, and is attached to it
  at_is : (q : ℕ) (c : Consumer) → Contains (attached_to v.topology q) c
      → Contains v.topology.consumers c × (c.provider ≡ Some q)
  at_is q c at =
      let inside = of_filter (λ (d : Consumer). names_number d.provider q) v.topology.consumers c at in
      (inside.0, names_some c.provider q inside.1)

  -- one that gains is of one of the geoms
  gainer : (c : Consumer) → Contains v.topology.consumers c → (more c ≡ no_counts → ⊥) → Contains xs c.geom
  gainer c there gains = by (has_number xs c.geom) refl
    where
      by : (b : Bool) → has_number xs c.geom ≡ b → Contains xs c.geom
      by true e = has-contains xs c.geom e
      by false e = absurd (gains (around c there (λ among.
          let yes : has_number xs c.geom ≡ true = contains-has xs c.geom among in
          let no : false ≡ true = sym e ∙ yes in cc)))

  -- without a sign nothing is told of one that gains
  untold : first_given (sign_in v) xs ≡ None → (z : Provider) → Contains v.topology.providers z → (c : Consumer)
      → Contains (attached_to v.topology z.number) c → (more c ≡ no_counts → ⊥)
      → sign_of (cap (sum_of c)) (cap (whole z.number)) ≡ None
  untold none z there c at gains =
      let is = at_is z.number c at in
      let says : sign_at v c ≡ None =
      first_none (sign_at v) (consumers_of v.topology c.geom)
      (first_none (sign_in v) xs none c.geom (gainer c is.0 gains)) c
      (Contains-filter (λ (d : Consumer). d.geom == c.geom) v.topology.consumers c is.0 (eq-eqb c.geom c.geom refl)) in
      ap (λ a. sign_of a (cap (whole z.number))) (sym (raises z.number c at))
      ∙ ap (sign_of (raised v c)) (sym (totals z there))
      ∙ sym (ap (option_and_then (λ q. sign_of (raised v c) (raised_have v q))) is.1)
      ∙ says

  -- so no two stand in each other's way
  no_clash : first_given (sign_in v) xs ≡ None → (z : Provider) → Contains v.topology.providers z → (w e : ℕ)
      → Clash v sum_of raises z.number w e → ⊥
  no_clash none z there w e clash =
      let a = clash.writer in
      let b = clash.exclusive in
      let writes = side_there (sum_of a).w clash.writes in
      let excludes = side_there (sum_of b).e clash.excludes in
      let differs : a.number ≢ b.number =
      λ same. clash.apart (sym clash.writer_is ∙ same ∙ clash.exclusive_is) in
      let both = two_at_most sum_of Excludes (attached_to v.topology z.number) a b clash.writer_at clash.exclusive_at
      differs in
      let too = two_at_most sum_of Writes (attached_to v.topology z.number) a b clash.writer_at clash.exclusive_at
      differs in
      elim (before z there a b clash.writer_at clash.exclusive_at differs) [
        | inl zero ↦
            writer_tells (sum_of a) (whole z.number) (sum_of b).e writes excludes (omega (arith, both))
            (untold none z there a clash.writer_at
            (λ gains. writes (ap (λ (x : Counts). (old a).w + x.w) gains ∙ omega (arith, zero))))
        | inr zero ↦
            excluder_tells (sum_of b) (whole z.number) (sum_of a).w excludes writes (omega (arith, too))
            (untold none z there b clash.exclusive_at
            (λ gains. excludes (ap (λ (x : Counts). (old b).e + x.e) gains ∙ omega (arith, zero))))
      ]

  -- without a sign nothing is wrong below
  free_below : first_given (sign_in v) xs ≡ None → first_given (fault_in v Exclusion) xs ≡ None
  free_below none =
      none_given (fault_in v Exclusion) xs (λ x among.
      none_given (λ (y : Provider). fault_at v Exclusion y.number) (providers_of v.topology x) (λ z of_it.
      let there = (of_filter (λ (y : Provider). y.geom == x) v.topology.providers z of_it).0 in
      by z there ((raised_have v z.number).w == 0 || (raised_have v z.number).e == 0) (pair_at v z.number)
      (pair_says v sum_of raises positive z.number)))
    where
      by : (z : Provider) → Contains v.topology.providers z → (x : Bool) (o : Option (ℕ × ℕ))
          → Says v sum_of raises z.number o
          → ◌≡◌ {A = Option GrantRefusal} (if x then None else option_map (λ ab. Eperm z.number ab.0 ab.1) o) None
      by z there true o says = refl
      by z there false None says = refl
      by z there false (Some ab) says = absurd (no_clash none z there ab.0 ab.1 says)

  -- a provider at which nothing is wrong, though both counts aren't zero, has no clash
  no_pair : (z : Provider) (x y : Bool) (o : Option (ℕ × ℕ)) → Says v sum_of raises z.number o
      → x ≡ false → y ≡ false
      → ◌≡◌ {A = Option GrantRefusal} (if x || y then None else option_map (λ ab. Eperm z.number ab.0 ab.1) o) None
      → NoClash v sum_of raises z.number
  no_pair z true y o says a b fine = absurd (cc)
  no_pair z false true o says a b fine = absurd (cc)
  no_pair z false false None says a b fine = says
  no_pair z false false (Some ab) says a b fine = absurd (cc)

  -- a consumer of one of the geoms with a sign of a clash, at its provider
  record Meets : Type 0 where
    pub one : Consumer
    pub place : Provider
    pub there : Contains v.topology.providers place
    pub among : Contains xs place.geom
    pub at : Contains (attached_to v.topology place.number) one
    pub total : raised_have v place.number ≡ cap (all_at place.number)
    pub sign : sign_of (cap (sum_of one)) (cap (all_at place.number)) ≡ Some signs.Clash

  -- is there where the first sign is one
  meets : first_given (sign_in v) xs ≡ Some signs.Clash → Meets
  meets found =
      let x = first_of (sign_in v) xs signs.Clash found in
      let c = first_of (sign_at v) (consumers_of v.topology x.0) signs.Clash x.2 in
      let inside = of_filter (λ (d : Consumer). d.geom == x.0) v.topology.consumers c.0 c.1 in
      let placed =
      placed_sign (λ q. sign_of (raised v c.0) (raised_have v q)) c.0.provider signs.Clash c.2 in
      let among : Contains xs c.0.geom = subst (Contains xs) (sym (eqb-true c.0.geom x.0 inside.1)) x.1 in
      let z = places c.0 inside.0 among placed.0 placed.1 in
      let at : Contains (attached_to v.topology z.0.number) c.0 =
      Contains-filter (λ (d : Consumer). names_number d.provider z.0.number) v.topology.consumers c.0 inside.0
      (ap (λ o. names_number o z.0.number) placed.1 ∙ eq-eqb placed.0 z.0.number (sym z.2)) in
      let other : p ≢ z.0.number =
      λ same. above c.0 (subst (λ n. Contains (attached_to v.topology n) c.0) (sym same) at) among in
      let total : raised_have v z.0.number ≡ cap (all_at z.0.number) =
      totals z.0 z.1
      ∙ ap cap (ap (λ b. add_counts (if b then first else no_counts) (all_at z.0.number)) (ne_eqb p z.0.number other)
      ∙ zero-add (all_at z.0.number)) in
      record {
        one = c.0;
        place = z.0;
        there = z.1;
        among = z.3;
        at = at;
        total = total;
        sign =
            ap (λ a. sign_of a (cap (all_at z.0.number))) (sym (raises z.0.number c.0 at))
            ∙ ap (sign_of (raised v c.0)) (sym total)
            ∙ ap (λ n. sign_of (raised v c.0) (raised_have v n)) z.2
            ∙ placed.2;
      }

  module _ (m : Meets) where
    -- the provider
    abbrev spot : ℕ
    spot = m.place.number

    -- it has what its consumer has
    least : IsAtMost (sum_of m.one) (all_at spot)
    least = part_at_most sum_of (attached_to v.topology spot) m.one m.at

    -- where nothing is wrong at it, no two there stand in each other's way
    no_two : (all_at spot).w ≢ 0 → (all_at spot).e ≢ 0 → fault_at v Exclusion spot ≡ None
        → NoClash v sum_of raises spot
    no_two writes excludes fine =
        no_pair m.place ((raised_have v spot).w == 0) ((raised_have v spot).e == 0) (pair_at v spot)
        (pair_says v sum_of raises positive spot)
        (ne_eqb (raised_have v spot).w 0 (λ none. writes (let is = ap (λ (a : Counts). a.w) m.total in
        omega (arith, is, none))))
        (ne_eqb (raised_have v spot).e 0 (λ none. excludes (let is = ap (λ (a : Counts). a.e) m.total in
        omega (arith, is, none))))
        fine

    -- so something is wrong at it
    wrong : fault_at v Exclusion spot ≡ None → ⊥
    wrong fine =
        elim (clash_says (sum_of m.one) (all_at spot) m.sign) [
          | inl writes ↦
              let apart = no_two (λ none. writes.0 (omega (arith, least.w, none))) (λ none. omega (arith, writes.1, none))
              fine in
              let few = alone sum_of Excludes (attached_to v.topology spot) m.one m.at (differ spot) (λ d dt other.
              elim (apart m.one d m.at dt other) [
                | inl none ↦ absurd (writes.0 (side_gone (sum_of m.one).w none))
                | inr none ↦ side_gone (sum_of d).e none
              ]) in
              omega (arith, few, writes.1)
          | inr excludes ↦
              let apart = no_two (λ none. omega (arith, excludes.1, none)) (λ none. excludes.0
              (omega (arith, least.e, none))) fine in
              let few = alone sum_of Writes (attached_to v.topology spot) m.one m.at (differ spot) (λ d dt other.
              elim (apart d m.one dt m.at (λ same. other (sym same))) [
                | inl none ↦ side_gone (sum_of d).w none
                | inr none ↦ absurd (excludes.0 (side_gone (sum_of m.one).e none))
              ]) in
              omega (arith, few, excludes.1)
        ]

  -- where the first sign is a clash something is wrong below
  clash_below : first_given (sign_in v) xs ≡ Some signs.Clash → IsSome (first_given (fault_in v Exclusion) xs)
  clash_below found =
      let m = meets found in
      some_unless (first_given (fault_in v Exclusion) xs) (λ none.
      wrong m
      (first_none (λ (y : Provider). fault_at v Exclusion y.number) (providers_of v.topology m.place.geom)
      (first_none (fault_in v Exclusion) xs none m.place.geom m.among) m.place
      (Contains-filter (λ (y : Provider). y.geom == m.place.geom) v.topology.providers m.place m.there
      (eq-eqb m.place.geom m.place.geom refl))))

  -- so counts tell
  pub tells_below : CountsTellBelow v xs
  tells_below = record { free = free_below; clash = clash_below }
