-- The rows in which ranks stand, and the graph below them: after a change of one row, and walked over.
use Rattle.std.specs.Prelude.{◌≡◌, ◌⊎◌, ℕ, ◌+◌, ◌<◌, ◌≤◌, ◌^◌, ◌==◌, nat_le, nat_lt, max, Bool, true, false, not, ◌&&◌, ◌||◌, List, [], ◌∷◌, Option, Some, None, IsSome, map, option_map, if◌then◌else◌, ◌++◌, IfSome}
use Rattle.std.specs.List.{AllByRecursion}
use Rattle.std.proofs.Common.{refl, sym, ap, ◌∙◌, subst, inl, inr, arith, rules}
use Rattle.std.proofs.lemmas.Bool.{eqb-true, eqb-false, eq-eqb, ne_eqb, le-leb, cases_Bool, cases_eq, le-ltb}
use Rattle.std.proofs.Math.Bool.{or_assoc}
use Rattle.geo_model.specs.Kind.{Kind}
use Rattle.geo_model.specs.TheConstants.{MAX_RANK}
use Rattle.geo_model.specs.Words.{largest, is_granted_kind, names_number}
use Rattle.geo_slots.specs.Slots.{SlotsView, IsRising, value_at, with_value, without}
use Rattle.geo_mesh.specs.Rows.{row_with, rows_with, first_row, passes}
use Rattle.geo_mesh.specs.Mending.{IsAmong}
use Rattle.geo_mesh.specs.declared.records.GeomCell.{GeomCell}
use Rattle.geo_mesh.proofs.RankMend.{largest-among, largest-most}
use Rattle.geo_slots.proofs.RowLemmas.{IsRising_ends, with_value_below, without_below, value_at-set, value_at-kept, value_at-behind, value_at-without, value_at-gone}
use Rattle.geo_mesh.proofs.RowLemmas.{map-bare, value_at-rows_with, rows_kept}
use Rattle.geo_mesh.specs.Ranks.{rank_of, without_rank, kinds, bare, stored, number_or, under, rank_through, rank_under, belongs, is_high, IsFirst, FirstIs, rank_at, AreRanks, OwnerLives, UserLives}
use Rattle.geo_model.proofs.DemandLemmas.{kept_by}

module _ {T : Type 0} where
  -- a value that passes stands under a number between the bounds
  pub passing-between : (test : T → Bool) (m low high : ℕ) (rows : List (ℕ × T)) → IsRising low rows high
      → passes test (value_at rows m) ≡ true → (low ≤ m) × (m < high)
  passing-between test m low high [] rising there = absurd cc
  passing-between test m low high (row ∷ rows) rising there =
      search (
        rules,
        IsRising_ends (row.0 + 1) rows high rising.1,
        passing-between test m (row.0 + 1) high rows rising.1,
      )

  -- a value under a number passes the test that all pass
  pub there-passes : (rows : List (ℕ × T)) (m : ℕ) (v : T) → value_at rows m ≡ Some v
      → passes (λ x. true) (value_at rows m) ≡ true
  there-passes rows m v there = rw there refl

  -- putting the value there that stands there changes nothing
  pub with_value-same : (n low high : ℕ) (v : T) (rows : List (ℕ × T)) → IsRising low rows high
      → value_at rows n ≡ Some v → with_value rows n v ≡ rows
  with_value-same n low high v [] rising there = refl
  with_value-same n low high v (row ∷ rows) rising there =
      elim (cases_Bool (row.0 == n)) [
        | inl e ↦
            let same : row.0 ≡ n = eqb-true row.0 n e in
            search (rules, with_value_below n (row.0 + 1) v rows high rising.1 (omega arith))
        | inr e ↦ rw (e, with_value-same n (row.0 + 1) high v rows rising.1 (rw e at there)) refl
      ]

  -- a fact of each row, at the value under a number
  pub all-at : (P : ℕ × T → Type 0) (rows : List (ℕ × T)) (n : ℕ) (v : T) → AllByRecursion P rows
      → value_at rows n ≡ Some v → P (n, v)
  all-at P [] n v all there = absurd cc
  all-at P (row ∷ rows) n v all there = search (rules, all-at P rows n v all.1)

  -- rows seen otherwise rise too
  pub rising-with : {U : Type 0} (h : T → U) (low high : ℕ) (rows : List (ℕ × T)) → IsRising low rows high
      → IsRising low (rows_with h rows) high
  rising-with h low high [] rising = rising
  rising-with h low high (row ∷ rows) rising = (rising.0, rising-with h (row.0 + 1) high rows rising.1)

  -- the first row that passes is the same in the rows seen otherwise
  pub first-with : {U : Type 0} (h : T → U) (test : U → Bool) (at : ℕ) (rows : List (ℕ × T))
      → option_map (λ row. row.0) (first_row (λ x. test (h x)) rows at)
      ≡ option_map (λ row. row.0) (first_row test (rows_with h rows) at)
  first-with h test at [] = refl
  first-with h test at (row ∷ rows) = grind (arith, first-with h test at rows)

module _ {T : Type 0} (test : T → Bool) (at : ℕ) where
  -- what the first row that passes is
  first-found : (n low high : ℕ) (rows : List (ℕ × T)) → IsRising low rows high → high < 2 ^ 64
      → option_map (λ row. row.0) (first_row test rows at) ≡ Some n → IsFirst test rows high at n
  first-found n low high [] rising bound found = absurd cc
  first-found n low high (row ∷ rows) rising bound found =
      here (nat_le at row.0 && test row.1) refl found (λ e. first-found n (row.0 + 1) high rows rising.1 bound e) where
        here : (b : Bool) → (nat_le at row.0 && test row.1) ≡ b
            → option_map (λ row. row.0) (first_row test (row ∷ rows) at) ≡ Some n
            → (option_map (λ row. row.0) (first_row test rows at) ≡ Some n → IsFirst test rows high at n)
            → IsFirst test (row ∷ rows) high at n
        here true e found so = search (rules, passing-between test n low high (row ∷ rows) rising, passing-between test)
        here false e found so =
            let rest : IsFirst test rows high at n = so (rw e at found) in
            let above : row.0 + 1 ≤ n = (passing-between test n (row.0 + 1) high rows rising.1 rest.passing).0 in
            let other : (row.0 == n) ≡ false = ne_eqb row.0 n (λ k. omega arith) in
            record {
              past = rest.past;
              passing = rw other rest.passing;
              least = λ m past there. least rest m past (row.0 == m) refl there;
              known = rest.known;
              bound = bound;
            } where
              least : IsFirst test rows high at n → (m : ℕ) → at ≤ m → (b : Bool) → (row.0 == m) ≡ b
                  → passes test (value_at (row ∷ rows) m) ≡ true → n ≤ m
              least rest m past true k there =
                  let it : test row.1 ≡ true = rw k at there in
                  let low : nat_le at row.0 ≡ true = le-leb at row.0 (omega (arith, eqb-true row.0 m k)) in
                  let no : true ≡ false = rw (low, it) at e in
                  absurd cc
              least rest m past false k there = rest.least m past (rw k at there)

  -- where there is none, each that passes comes before
  first-none : (rows : List (ℕ × T)) → option_map (λ row. row.0) (first_row test rows at) ≡ None → (m : ℕ)
      → passes test (value_at rows m) ≡ true → m < at
  first-none [] none m there = absurd cc
  first-none (row ∷ rows) none m there = search (rules, first-none rows)

  -- what a walk finds from a number on
  pub first-is : (o : Option ℕ) (s : SlotsView T) → IsRising 1 s.rows s.next → s.next < 2 ^ 64
      → o ≡ option_map (λ row. row.0) (first_row test s.rows at) → FirstIs test s at o
  first-is None s rising bound is = first-none s.rows (sym is)
  first-is (Some n) s rising bound is = first-found n 1 s.next s.rows rising bound (sym is)

module _ (owners : List (ℕ × ℕ)) where
  -- a row of the graph that puts a geom below another
  pub record IsWay (users : List (ℕ × (ℕ × Option ℕ))) (x h : ℕ) : Type 0 where
    pub cons : ℕ
    pub prov : ℕ
    pub user : value_at users cons ≡ Some (x, Some prov)
    pub owner : value_at owners prov ≡ Some h

  -- what one row more puts below a geom: nothing, or the geom of the provider to which its consumer is attached
  abbrev Step : ℕ × (ℕ × Option ℕ) → List (ℕ × (ℕ × Option ℕ)) → ℕ → Type 0
  Step row users x = (under owners (row ∷ users) x ≡ under owners users x)
      ⊎ ((h : ℕ) × (p : ℕ) × (row.1 ≡ (x, Some p)) × (value_at owners p ≡ Some h)
      × (under owners (row ∷ users) x ≡ h ∷ under owners users x))

  -- so for any row
  step : (row : ℕ × (ℕ × Option ℕ)) (users : List (ℕ × (ℕ × Option ℕ))) (x : ℕ) → Step row users x
  step row users x = search rules

  -- a geom below another is there by a consumer and a provider
  pub under-way : (low high : ℕ) (users : List (ℕ × (ℕ × Option ℕ))) → IsRising low users high → (x h : ℕ)
      → IsAmong (under owners users x) h → IsWay users x h
  under-way low high [] rising x h there = absurd there
  under-way low high (row ∷ users) rising x h there =
      elim (step row users x) [
        | inl same ↦ later (under-way (row.0 + 1) high users rising.1 x h (subst (λ ms. IsAmong ms h) same there))
        | inr found ↦
            elim (subst (λ ms. IsAmong ms h) found.4 there) [
              | inl same ↦
                  let self : (row.0 == row.0) ≡ true = eq-eqb row.0 row.0 refl in
                  record {
                    cons = row.0;
                    prov = found.1;
                    user = rw self (ap (λ (e : ℕ × Option ℕ). Some e) found.2);
                    owner = found.3 ∙ ap (λ (n : ℕ). Some n) same;
                  }
              | inr deeper ↦ later (under-way (row.0 + 1) high users rising.1 x h deeper)
            ]
      ] where
        later : IsWay users x h → IsWay (row ∷ users) x h
        later way =
            let above : row.0 + 1 ≤ way.cons =
            (passing-between (λ e. true) way.cons (row.0 + 1) high users rising.1
            (there-passes users way.cons (x, Some way.prov) way.user)).0 in
            search rules

  -- a consumer attached to a provider puts the provider's geom below its own
  pub way-under : (users : List (ℕ × (ℕ × Option ℕ))) (c p x h : ℕ) → value_at users c ≡ Some (x, Some p)
      → value_at owners p ≡ Some h → IsAmong (under owners users x) h
  way-under [] c p x h user owner = absurd cc
  way-under (row ∷ users) c p x h user owner = at (row.0 == c) refl user (λ e. way-under users c p x h e owner) where
    at : (b : Bool) → (row.0 == c) ≡ b → value_at (row ∷ users) c ≡ Some (x, Some p)
        → (value_at users c ≡ Some (x, Some p) → IsAmong (under owners users x) h)
        → IsAmong (under owners (row ∷ users) x) h
    at true e user so =
        let found : Some row.1 ≡ Some (x, Some p) = rw e at user in
        search rules
    at false e user so = search rules

  module _ (f : ℕ → ℕ) (x : ℕ) where
    -- what a row adds below a geom
    abbrev pub adds : ℕ × Option ℕ → ℕ
    adds e = if e.0 == x then rank_through f owners e.1 else 0

    -- the greatest that a row adds
    abbrev pub peak : List (ℕ × (ℕ × Option ℕ)) → ℕ
    peak [] = 0
    peak (row ∷ users) = max (adds row.1) (peak users)

    -- the largest value below a geom, row by row
    pub peak-is : (users : List (ℕ × (ℕ × Option ℕ))) → largest (map f (under owners users x)) ≡ peak users
    peak-is [] = refl
    peak-is (row ∷ users) = search (rules, peak-is users)

    -- with another value in one row
    pub peak-with : (c low high : ℕ) (e : ℕ × Option ℕ) (users : List (ℕ × (ℕ × Option ℕ)))
        → IsRising low users high → IsSome (value_at users c)
        → peak (with_value users c e) ≡ max (adds e) (peak (without users c))
    peak-with c low high e [] rising there = absurd cc
    peak-with c low high e (row ∷ users) rising there =
        grind (
          arith,
          with_value_below c (row.0 + 1) e users high rising.1,
          without_below c (row.0 + 1) users high rising.1,
          peak-with c (row.0 + 1) high e users rising.1,
        )

module _ {C : Type 0} (gs : SlotsView (GeomCell C)) (n r : ℕ) (v : GeomCell C)
    (rising : IsRising 1 gs.rows gs.next) (at : Some v ≡ value_at gs.rows n) where
  -- another rank in one cell: all else stays
  pub store-same : bare (record gs { rows = with_value gs.rows n (record v { rank = r }) }) ≡ bare gs
  store-same =
      let w : GeomCell C = record v { rank = r } in
      rw (rows_kept gs n v w rising (sym at) (row_with (without_rank {C = C})) refl) refl

  -- and the rank stands there
  pub store-here : stored (record gs { rows = with_value gs.rows n (record v { rank = r }) }) n ≡ r
  store-here =
      let w : GeomCell C = record v { rank = r } in
      search (rules, value_at-rows_with (rank_of {C = C}) n (with_value gs.rows n w), value_at-set n w gs.rows)

  -- the other geoms keep their ranks
  pub store-others : (x : ℕ) → (x ≡ n → ⊥)
      → stored (record gs { rows = with_value gs.rows n (record v { rank = r }) }) x ≡ stored gs x
  store-others x other =
      let w : GeomCell C = record v { rank = r } in
      rw (
        value_at-rows_with (rank_of {C = C}) x (with_value gs.rows n w),
        value_at-kept n x w gs.rows other,
        value_at-rows_with (rank_of {C = C}) x gs.rows,
      ) refl

module _ (f : ℕ → ℕ) where
  -- where only a geom that isn't listed has another value, whether one is above the limit stays
  high_past : (classes : List (ℕ × Kind)) (r : ℕ → ℕ) (n low high : ℕ) → IsRising low classes high → n < low
      → ((x : ℕ) → (x ≡ n → ⊥) → r x ≡ f x) → is_high classes r ≡ is_high classes f
  high_past [] r n low high rising less others = refl
  high_past (row ∷ classes) r n low high rising less others =
      search (rules, high_past classes r n (row.0 + 1) high rising.1 (omega (arith, rising.0)) others)

  -- whether a geom is above the limit, once one has a greater value
  pub high-more : (r : ℕ → ℕ) (n low high : ℕ) (classes : List (ℕ × Kind)) → IsRising low classes high
      → IsSome (value_at classes n) → f n < r n → ((x : ℕ) → (x ≡ n → ⊥) → r x ≡ f x)
      → is_high classes r
      ≡ (is_high classes f || (nat_lt MAX_RANK (r n) && not (passes is_granted_kind (value_at classes n))))
  high-more r n low high [] rising there more others = absurd cc
  high-more r n low high (row ∷ classes) rising there more others =
      elim (cases_Bool (row.0 == n)) [
        | inl k ↦
            let same : row.0 ≡ n = eqb-true row.0 n k in
            search (rules, high_past classes r n (row.0 + 1) high rising.1 (omega arith) others)
        | inr k ↦
            let here : r row.0 ≡ f row.0 = others row.0 (eqb-false row.0 n k) in
            rw (k, here, high-more r n (row.0 + 1) high classes rising.1 (rw k at there) more others)
            (sym (or_assoc (not (is_granted_kind row.1) && nat_lt MAX_RANK (f row.0)) (is_high classes f)
            (nat_lt MAX_RANK (r n) && not (passes is_granted_kind (value_at classes n)))))
      ]

  -- where no geom is above the limit, none is with smaller values
  pub high-less : (r : ℕ → ℕ) (classes : List (ℕ × Kind)) → ((x : ℕ) → r x ≤ f x) → is_high classes f ≡ false
      → is_high classes r ≡ false
  high-less r [] less none = refl
  high-less r (row ∷ classes) less none = search (rules, high-less r classes less)

module _ {C : Type 0} where
  -- the classes stand beside the ranks
  pub kinds-bare : (gs ns : SlotsView (GeomCell C)) → bare ns ≡ bare gs → kinds ns ≡ kinds gs
  kinds-bare = map-bare (λ row. (row.0, row.1.0.kind))

module _ (f : ℕ → ℕ) (owners : List (ℕ × ℕ)) (users : List (ℕ × (ℕ × Option ℕ))) (g : ℕ) where
  -- the value below a consumer of a geom is at most the largest below the geom
  pub rank_under-most : (c : ℕ) → passes (belongs g) (value_at users c) ≡ true
      → rank_under f owners (value_at users c) ≤ largest (map f (under owners users g))
  rank_under-most c there = search (rules, largest-among f (under owners users g), way-under owners users c)

  -- a bound of the values below the consumers of a geom is one of the largest below the geom
  pub under-most : (n low high : ℕ) → IsRising low users high
      → ((c : ℕ) → passes (belongs g) (value_at users c) ≡ true → rank_under f owners (value_at users c) ≤ n)
      → largest (map f (under owners users g)) ≤ n
  under-most n low high rising so =
      search (rules, largest-most f n (under owners users g), under-way owners low high users rising g)

-- The ranks that stand in the cells, after a change of one row that leaves the graph of geoms.

-- the row's consumer isn't attached to the provider
abbrev pub NotAttached : ℕ → ℕ × (ℕ × Option ℕ) → Type 0
NotAttached n row = names_number row.1.1 n ≡ false

-- the row's consumer isn't the geom's
abbrev pub NotOwned : ℕ → ℕ × (ℕ × Option ℕ) → Type 0
NotOwned n row = (row.1.0 == n) ≡ false

-- the provider on which the rank stands by the row's consumer, if there is one, is of the same geom
abbrev SameOwner : List (ℕ × ℕ) → List (ℕ × ℕ) → ℕ × (ℕ × Option ℕ) → Type 0
SameOwner others owners row = IfSome row.1.1 (λ p. value_at others p ≡ value_at owners p)

-- a fact of each of two lists
pub all-append : {X : Type 0} (P : X → Type 0) (xs ys : List X) → AllByRecursion P xs → AllByRecursion P ys
    → AllByRecursion P (xs ++ ys)
all-append P [] ys one two = two
all-append P (x ∷ xs) ys one two = (one.0, all-append P xs ys one.1 two)

-- a fact of each item that follows from another and a third
pub all-both : {X : Type 0} (P Q R : X → Type 0) → ((x : X) → P x → Q x → R x) → (xs : List X)
    → AllByRecursion P xs → AllByRecursion Q xs → AllByRecursion R xs
all-both P Q R so [] one two = tt
all-both P Q R so (x ∷ xs) one two = (so x one.0 two.0, all-both P Q R so xs one.1 two.1)

-- so from another alone
all-each : {X : Type 0} (P R : X → Type 0) → ((x : X) → P x → R x) → (xs : List X) → AllByRecursion P xs
    → AllByRecursion R xs
all-each P R so xs facts = all-both P P R (λ x fact again. so x fact) xs facts facts

-- a number that is 0 where a test passes, and else 0
zero_either : (b : Bool) (z : ℕ) → z ≡ 0 → (if b then z else 0) ≡ 0
zero_either true z e = e
zero_either false z e = refl

module _ (classes : List (ℕ × Kind)) (standing owners : List (ℕ × ℕ)) (users : List (ℕ × (ℕ × Option ℕ)))
    (ranks : AreRanks classes standing owners users) where
  -- another graph with the same largest values below
  pub ranks-graph : (owners2 : List (ℕ × ℕ)) (users2 : List (ℕ × (ℕ × Option ℕ)))
      → ((f : ℕ → ℕ) (x : ℕ) → largest (map f (under owners2 users2 x)) ≡ largest (map f (under owners users x)))
      → AllByRecursion (UserLives classes) users2
      → AllByRecursion (OwnerLives owners2) users2
      → AreRanks classes standing owners2 users2
  ranks-graph owners2 users2 same owned attached = record {
    local = λ x. omega (arith, ranks.local x, same (rank_at standing) x);
    low = ranks.low;
    owned = owned;
    attached = attached;
  }

  -- other rows of geoms with the same ranks
  pub ranks-geoms : (classes2 : List (ℕ × Kind)) (standing2 : List (ℕ × ℕ))
      → ((x : ℕ) → rank_at standing2 x ≡ rank_at standing x)
      → is_high classes2 (rank_at standing2) ≡ false
      → AllByRecursion (UserLives classes2) users → AreRanks classes2 standing2 owners users
  ranks-geoms classes2 standing2 same low owned = search rules

  -- with a new consumer that is attached to nothing
  pub ranks-new_consumer : (n g : ℕ) → IsSome (value_at classes g)
      → AreRanks classes standing owners (users ++ (n, (g, None)) ∷ [])
  ranks-new_consumer n g lives =
      ranks-graph owners (users ++ (n, (g, None)) ∷ [])
      (λ f x. peak-is owners f x (users ++ (n, (g, None)) ∷ []) ∙ peak_same f x users ∙ sym (peak-is owners f x users))
      (search (rules, all-append (UserLives classes) users ((n, (g, None)) ∷ []) ranks.owned (lives, tt)))
      (search (rules, all-append (OwnerLives owners) users ((n, (g, None)) ∷ []) ranks.attached (tt, tt))) where
        peak_same : (f : ℕ → ℕ) (x : ℕ) (users : List (ℕ × (ℕ × Option ℕ)))
            → peak owners f x (users ++ (n, (g, None)) ∷ []) ≡ peak owners f x users
        peak_same f x [] = omega (arith, zero_either (g == x) 0 refl)
        peak_same f x (row ∷ users) = ap (λ m. max (adds owners f x row.1) m) (peak_same f x users)

  -- without a consumer that is attached to nothing
  pub ranks-destroy_consumer : (c high : ℕ) → IsRising 1 users high
      → ((e : ℕ × Option ℕ) → value_at users c ≡ Some e → e.1 ≡ None)
      → AreRanks classes standing owners (without users c)
  ranks-destroy_consumer c high rising free =
      ranks-graph owners (without users c)
      (λ f x. peak-is owners f x (without users c) ∙ peak_same f x 1 users rising free ∙ sym (peak-is owners f x users))
      (kept_by (UserLives classes) (UserLives classes) (λ row. not (row.0 == c)) (λ row e fact. fact) users ranks.owned)
      (kept_by (OwnerLives owners) (OwnerLives owners)
      (λ row. not (row.0 == c)) (λ row e fact. fact) users ranks.attached) where
        free_adds : (f : ℕ → ℕ) (x : ℕ) (e : ℕ × Option ℕ) → e.1 ≡ None → adds owners f x e ≡ 0
        free_adds f x e is = rw is (zero_either (e.0 == x) 0 refl)

        peak_same : (f : ℕ → ℕ) (x low : ℕ) (users : List (ℕ × (ℕ × Option ℕ))) → IsRising low users high
            → ((e : ℕ × Option ℕ) → value_at users c ≡ Some e → e.1 ≡ None)
            → peak owners f x (without users c) ≡ peak owners f x users
        peak_same f x low [] rising free = refl
        peak_same f x low (row ∷ users) rising free =
            elim (cases_Bool (row.0 == c)) [
              | inl e ↦
                  let number : row.0 ≡ c = eqb-true row.0 c e in
                  let here : row.1.1 ≡ None = free row.1 (rw e refl) in
                  let rest = without_below c (row.0 + 1) users high rising.1 (omega arith) in
                  let nothing : adds owners f x row.1 ≡ 0 = free_adds f x row.1 here in
                  rw (e, rest) (omega arith)
              | inr e ↦
                  rw e (ap (λ m. max (adds owners f x row.1) m)
                  (peak_same f x (row.0 + 1) users rising.1 (λ v found. free v (rw e found))))
            ]

  -- other providers, where each rank stands on the provider of the same geom
  ranks-owners : (others : List (ℕ × ℕ)) → AllByRecursion (SameOwner others owners) users
      → AreRanks classes standing others users
  ranks-owners others same =
      ranks-graph others users
      (λ f x. peak-is others f x users ∙ peak_same f x users same ∙ sym (peak-is owners f x users))
      ranks.owned
      (all-both (SameOwner others owners) (OwnerLives owners) (OwnerLives others)
      (λ row is fact. still row.1.1 is fact) users same ranks.attached) where
        still : (o : Option ℕ) → IfSome o (λ p. value_at others p ≡ value_at owners p)
            → IfSome o (λ p. IsSome (value_at owners p)) → IfSome o (λ p. IsSome (value_at others p))
        still None is fact = tt
        still (Some p) is fact = rw is fact

        through : (f : ℕ → ℕ) (o : Option ℕ) → IfSome o (λ p. value_at others p ≡ value_at owners p)
            → rank_through f others o ≡ rank_through f owners o
        through f None is = refl
        through f (Some p) is = rw is refl

        peak_same : (f : ℕ → ℕ) (x : ℕ) (users : List (ℕ × (ℕ × Option ℕ)))
            → AllByRecursion (SameOwner others owners) users → peak others f x users ≡ peak owners f x users
        peak_same f x [] facts = refl
        peak_same f x (row ∷ users) facts = rw (through f row.1.1 facts.0, peak_same f x users facts.1) refl

  -- with a new provider
  pub ranks-new_provider : (n g : ℕ) → AreRanks classes standing (owners ++ (n, g) ∷ []) users
  ranks-new_provider n g =
      ranks-owners (owners ++ (n, g) ∷ [])
      (all-each (OwnerLives owners) (SameOwner (owners ++ (n, g) ∷ []) owners) (λ row. same row.1.1) users
      ranks.attached) where
        same : (o : Option ℕ) → IfSome o (λ p. IsSome (value_at owners p))
            → IfSome o (λ p. value_at (owners ++ (n, g) ∷ []) p ≡ value_at owners p)
        same None lives = tt
        same (Some p) lives = value_at-behind n p g owners lives

  -- without a provider to which nothing is attached
  pub ranks-destroy_provider : (n : ℕ) → AllByRecursion (NotAttached n) users
      → AreRanks classes standing (without owners n) users
  ranks-destroy_provider n free =
      ranks-owners (without owners n)
      (all-each (NotAttached n) (SameOwner (without owners n) owners) (λ row. same row.1.1) users free) where
        same : (o : Option ℕ) → names_number o n ≡ false
            → IfSome o (λ p. value_at (without owners n) p ≡ value_at owners p)
        same None other = tt
        same (Some p) other = value_at-without n p owners (eqb-false p n other)

  -- a new geom has rank 1
  pub ranks-new_geom : (n : ℕ) (k : Kind) → value_at standing n ≡ None
      → AreRanks (classes ++ (n, k) ∷ []) (standing ++ (n, 1) ∷ []) owners users
  ranks-new_geom n k none =
      ranks-geoms (classes ++ (n, k) ∷ []) (standing ++ (n, 1) ∷ []) (same standing)
      (low classes ranks.low)
      (all-each (UserLives classes) (UserLives (classes ++ (n, k) ∷ []))
      (λ row fact. rw (value_at-behind n row.1.0 k classes fact) fact) users ranks.owned) where
        same : (standing : List (ℕ × ℕ)) (x : ℕ) → rank_at (standing ++ (n, 1) ∷ []) x ≡ rank_at standing x
        same [] x = grind arith
        same (row ∷ standing) x = grind (arith, same standing x)

        here : rank_at (standing ++ (n, 1) ∷ []) n ≡ 1
        here = same standing n ∙ ap (λ (o : Option ℕ). number_or 1 o) none

        low : (classes : List (ℕ × Kind)) → is_high classes (rank_at standing) ≡ false
            → is_high (classes ++ (n, k) ∷ []) (rank_at (standing ++ (n, 1) ∷ [])) ≡ false
        low [] e = search (rules, le-ltb MAX_RANK (rank_at (standing ++ (n, 1) ∷ []) n) (omega (arith, here)))
        low (row ∷ classes) e = search (rules, same standing row.0, low classes)

  -- a geom that has no consumer is taken away
  pub ranks-destroy_geom : (n : ℕ) → AllByRecursion (NotOwned n) users
      → AreRanks (without classes n) (without standing n) owners users
  ranks-destroy_geom n free =
      ranks-geoms (without classes n) (without standing n) (λ x. same x (cases_eq x n)) (low classes ranks.low)
      (all-both (NotOwned n) (UserLives classes) (UserLives (without classes n))
      (λ row other fact. rw (value_at-without n row.1.0 classes (eqb-false row.1.0 n other)) fact) users free
      ranks.owned) where
        nothing : (f : ℕ → ℕ) (users : List (ℕ × (ℕ × Option ℕ)))
            → AllByRecursion (NotOwned n) users → peak owners f n users ≡ 0
        nothing f [] facts = refl
        nothing f (row ∷ users) facts = rw (facts.0, nothing f users facts.1) (omega arith)

        alone : rank_at standing n ≡ 1
        alone = search (rules, peak-is owners (rank_at standing) n users, nothing (rank_at standing) users free)

        same : (x : ℕ) → (x ≡ n) ⊎ (x ≡ n → ⊥) → rank_at (without standing n) x ≡ rank_at standing x
        same x (inl e) = search (rules, value_at-gone n standing, alone)
        same x (inr differs) = rw (value_at-without n x standing differs) refl

        low : (classes : List (ℕ × Kind)) → is_high classes (rank_at standing) ≡ false
            → is_high (without classes n) (rank_at (without standing n)) ≡ false
        low [] e = refl
        low (row ∷ classes) e = search (rules, same row.0, low classes)
