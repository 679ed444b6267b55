-- What one demand makes providers and consumers gain, and how it is handed down geom by geom.
use Rattle.std.specs.Prelude.{◌≡◌, ℕ, ◌==◌, Bool, true, false, ◌||◌, cond, List, [], ◌∷◌, fold, map, filter, Option, Some, None, Contains, if◌then◌else◌, ◌≢◌, IsSomeAnd}
use Rattle.std.proofs.Common.{refl, sym, ◌∙◌, ap, subst, arith, inl, inr, eq-eqb}
use Rattle.std.proofs.lemmas.Bool.{eqb-true, cases_eq, ne_eqb}
use Rattle.std.proofs.lemmas.Bool.Decides.{nat_tests}
use Rattle.std.proofs.lemmas.List.Elements.{All-contains, All-from_recursion}
use Rattle.geo_model.specs.Counts.{Counts}
use Rattle.geo_model.specs.Words.{names_number, is_granted_kind}
use Rattle.geo_model.specs.Topology.{Topology, Provider, Consumer, provider_at, attached_to, consumers_of, Geom, geom_at, providers_of, add_consumer}
use Rattle.geo_model.specs.Rank.{geoms_under, Ranked}
use Rattle.geo_model.specs.Demand.{no_counts, add_counts, sum_counts, have, want}
use Rattle.geo_model.specs.Kind.{Kind}
use Rattle.geo_model.specs.Kind.TheVariants as kinds
use Rattle.geo_model.specs.Opens.{below}
use Rattle.geo_model.proofs.MemberLists.{Contains-cases, nothing_in, Contains-filter}
use Rattle.geo_laws_counts.proofs.Sums.{counts-same, zero-add, add-zero, add-assoc, sum-same, sum-add, add-move, names_some, more-add, want_gains, have_gains, more_of_same}
use Rattle.geo_laws_counts.proofs.LimitFacts.{of_filter, has-contains, has_not, not-has}
pub use Rattle.geo_laws_counts.proofs.LimitFacts.{each_of}
use Rattle.geo_laws_counts.specs.WalkWords.{has_number, IsOrder, cap, set_at, hand_at, Flow, gain_without}
use Rattle.geo_laws_counts.proofs.Reach.{directly_under, is-under, order_first, differing_stays, want_same, sum_nothing}
use Rattle.geo_laws_counts.specs.CountWords.{AreAtMost, more_counts, gain_of_kind, NumbersLead, HoldsGrants}
use Rattle.geo_laws_counts.specs.DemandLaws.{DiffersAt, StaysAround, Comes}
use Rattle.geo_laws_counts.proofs.Openers.{wants_grant, came_gains, came_wants, came_stays}

-- Counts that stop at the greatest number

-- a sum of what was stopped and more is stopped alike
pub cap-add : (a b : Counts) → cap (add_counts (cap a) b) ≡ cap (add_counts a b)
cap-add a b = counts-same (cap (add_counts (cap a) b)) (cap (add_counts a b)) (omega arith) (omega arith) (omega arith)

-- the same on the other side
pub add-cap : (a b : Counts) → cap (add_counts a (cap b)) ≡ cap (add_counts a b)
add-cap a b = counts-same (cap (add_counts a (cap b))) (cap (add_counts a b)) (omega arith) (omega arith) (omega arith)

-- a sum of what was stopped is stopped alike
sum-cap : {X : Type 0} (f : X → Counts) (xs : List X) (a : Counts)
    → cap (add_counts a (sum_counts (map (λ x. cap (f x)) xs))) ≡ cap (add_counts a (sum_counts (map f xs)))
sum-cap f [] a = refl
sum-cap f (x ∷ xs) a =
    ap cap (sym (add-assoc a (cap (f x)) (sum_counts (map (λ y. cap (f y)) xs))))
    ∙ sum-cap f xs (add_counts a (cap (f x)))
    ∙ ap cap (add-assoc a (cap (f x)) (sum_counts (map f xs)) ∙ add-move a (cap (f x)) (sum_counts (map f xs)))
    ∙ cap-add (f x) (add_counts a (sum_counts (map f xs)))
    ∙ ap cap (add-move (f x) a (sum_counts (map f xs)))

-- a sum of nothing is nothing
pub sum-none : {X : Type 0} (f : X → Counts) (xs : List X) → ((x : X) → Contains xs x → f x ≡ no_counts)
    → sum_counts (map f xs) ≡ no_counts
sum-none f xs none = sum_nothing f xs (each_of (λ x. f x ≡ no_counts) xs none)

-- What is handed down

-- a value that is set is there, and the others are as before
pub set_at-value : {V : Type 0} (f : ℕ → V) (n : ℕ) (v : V) (m : ℕ) (b : Bool) → (n == m) ≡ b
    → set_at f n v m ≡ (if b then v else f m)
set_at-value f n v m b e =
    let same : (m == n) ≡ b = grind (arith, nat_tests) in ap (λ c. if c then v else f m) same

-- what a provider has gained once a consumer hands down what it gains
hand-value : (m : Counts) (gains : ℕ → Counts) (c : Consumer) (q : ℕ)
    → hand_at m gains c q ≡ (if names_number c.provider q then cap (add_counts (gains q) m) else gains q)
hand-value m gains c q = by (c.provider) refl
  where
    by : (o : Option ℕ) → c.provider ≡ o
        → hand_at m gains c q ≡ (if names_number c.provider q then cap (add_counts (gains q) m) else gains q)
    by None e = rw e refl
    by (Some p) e = rw e (here (p == q) refl)
      where
        here : (b : Bool) → (p == q) ≡ b
            → set_at gains p (cap (add_counts (gains p) m)) q
            ≡ (if p == q then cap (add_counts (gains q) m) else gains q)
        here true same =
            set_at-value gains p (cap (add_counts (gains p) m)) q true same
            ∙ ap (λ n. cap (add_counts (gains n) m)) (eqb-true p q same)
            ∙ sym (ap (λ b. cond b (cap (add_counts (gains q) m)) (gains q)) same)
        here false other =
            set_at-value gains p (cap (add_counts (gains p) m)) q false other
            ∙ sym (ap (λ b. cond b (cap (add_counts (gains q) m)) (gains q)) other)

-- what a consumer of this geom gains
abbrev pub of_geom : ℕ → Counts → Consumer → Counts
of_geom x m c = if c.geom == x then m else no_counts

-- the same over one consumer more
hand_step : (x : ℕ) (m : Counts) (c : Consumer) (cs : List Consumer) (q : ℕ)
    → ((gains : ℕ → Counts) (a : Counts) → gains q ≡ cap a
    → fold (hand_at m) gains (filter (λ d. d.geom == x) cs) q
    ≡ cap (add_counts a (sum_counts (map (of_geom x m) (filter (λ d. names_number d.provider q) cs)))))
    → (gains : ℕ → Counts) (a : Counts) → gains q ≡ cap a → (b k : Bool) → (c.geom == x) ≡ b
    → names_number c.provider q ≡ k
    → fold (hand_at m) gains (cond b (c ∷ filter (λ d. d.geom == x) cs) (filter (λ d. d.geom == x) cs)) q
    ≡ cap
    (add_counts a
    (sum_counts
    (map (of_geom x m)
    (cond k (c ∷ filter (λ d. names_number d.provider q) cs) (filter (λ d. names_number d.provider q) cs)))))
hand_step x m c cs q so gains a start true true here there =
    let rest : Counts = sum_counts (map (of_geom x m) (filter (λ d. names_number d.provider q) cs)) in
    so (hand_at m gains c) (add_counts a m)
    (hand-value m gains c q ∙ ap (λ k. cond k (cap (add_counts (gains q) m)) (gains q)) there
    ∙ ap (λ z. cap (add_counts z m)) start ∙ cap-add a m)
    ∙ ap cap (add-assoc a m rest)
    ∙ sym (ap (λ b. cap (add_counts a (add_counts (cond b m no_counts) rest))) here)
hand_step x m c cs q so gains a start true false here there =
    so (hand_at m gains c) a (hand-value m gains c q
    ∙ ap (λ k. cond k (cap (add_counts (gains q) m)) (gains q)) there ∙ start)
hand_step x m c cs q so gains a start false true here there =
    let rest : Counts = sum_counts (map (of_geom x m) (filter (λ d. names_number d.provider q) cs)) in
    so gains a start
    ∙ sym (ap (λ b. cap (add_counts a (add_counts (cond b m no_counts) rest))) here
    ∙ ap (λ z. cap (add_counts a z)) (zero-add rest))
hand_step x m c cs q so gains a start false false here there = so gains a start

-- what a provider has gained once each consumer of a geom has handed down what it gains
hand-fold : (x : ℕ) (m : Counts) (cs : List Consumer) (q : ℕ) (gains : ℕ → Counts) (a : Counts) → gains q ≡ cap a
    → fold (hand_at m) gains (filter (λ d. d.geom == x) cs) q
    ≡ cap (add_counts a (sum_counts (map (of_geom x m) (filter (λ d. names_number d.provider q) cs))))
hand-fold x m [] q gains a start = start ∙ ap cap (sym (add-zero a))
hand-fold x m (c ∷ cs) q gains a start =
    hand_step x m c cs q (hand-fold x m cs q) gains a start (c.geom == x) (names_number c.provider q) refl refl

module _ {C : Type 0} (t : Topology C) (p : ℕ) (first : Counts) (more : Consumer → Counts) where
  -- what a consumer has gained while those of some geoms haven't
  abbrev without : List ℕ → Consumer → Counts
  without rest c = if has_number rest c.geom then no_counts else more c

  -- one geom less has not handed down
  without_step : (x : ℕ) (rest : List ℕ) (μ : Counts) (c : Consumer) → (c.geom ≡ x → more c ≡ μ) → (Contains rest x → ⊥)
      → add_counts (without (x ∷ rest) c) (of_geom x μ c) ≡ without rest c
  without_step x rest μ c makes apart =
      elim (cases_eq c.geom x) [
        | inl same ↦
            ap (λ b. add_counts (cond (b || has_number rest c.geom) no_counts (more c)) (of_geom x μ c))
            (eq-eqb x c.geom (sym same))
            ∙ ap (λ b. add_counts no_counts (cond b μ no_counts)) (eq-eqb c.geom x same)
            ∙ zero-add μ
            ∙ sym (makes same)
            ∙ sym (ap (λ b. cond b no_counts (more c))
            (not-has rest c.geom (λ there. apart (subst (Contains rest) same there))))
        | inr other ↦
            ap (λ b. add_counts (cond (b || has_number rest c.geom) no_counts (more c)) (of_geom x μ c))
            (ne_eqb x c.geom (λ e. other (sym e)))
            ∙ ap (λ b. add_counts (without rest c) (cond b μ no_counts)) (ne_eqb c.geom x other)
            ∙ add-zero (without rest c)
      ]

  -- once the consumers of the first geom have handed down what they gain
  pub flow_step : (x : ℕ) (rest : List ℕ) (m μ : Counts) (gains : ℕ → Counts)
      → ((q : ℕ) → gains q ≡ gain_without t p first more (x ∷ rest) q)
      → m ≡ cap μ → ((c : Consumer) → Contains t.consumers c → c.geom ≡ x → more c ≡ μ) → (Contains rest x → ⊥)
      → (q : ℕ) → fold (hand_at m) gains (consumers_of t x) q ≡ gain_without t p first more rest q
  flow_step x rest m μ gains now is makes apart q =
      let start : Counts = if p == q then first else no_counts in
      let cs : List Consumer = attached_to t q in
      let old : Counts = sum_counts (map (without (x ∷ rest)) cs) in
      hand-fold x m t.consumers q gains (add_counts start old) (now q)
      ∙ ap (λ z. cap (add_counts (add_counts start old) (sum_counts (map (of_geom x z) cs)))) is
      ∙ ap (λ z. cap (add_counts (add_counts start old) z))
      (sum-same (of_geom x (cap μ)) (λ c. cap (of_geom x μ c)) cs
      (each_of (λ c. of_geom x (cap μ) c ≡ cap (of_geom x μ c)) cs (λ c there. capped (c.geom == x))))
      ∙ sum-cap (of_geom x μ) cs (add_counts start old)
      ∙ ap cap (add-assoc start old (sum_counts (map (of_geom x μ) cs)))
      ∙ ap (λ z. cap (add_counts start z))
      (sym (sum-add (without (x ∷ rest)) (of_geom x μ) cs)
      ∙ sum-same (λ c. add_counts (without (x ∷ rest) c) (of_geom x μ c)) (without rest) cs
      (each_of (λ c. add_counts (without (x ∷ rest) c) (of_geom x μ c) ≡ without rest c) cs
      (λ c there. without_step x rest μ c
      (makes c (of_filter (λ d. names_number d.provider q) t.consumers c there).0) apart)))
    where
      capped : (b : Bool) → (if b then cap μ else no_counts) ≡ cap (if b then μ else no_counts)
      capped true = refl
      capped false = refl

module _ {C : Type 0} (t : Topology C) (p : ℕ) (first : Counts) (gain : ℕ → Counts) (more : Consumer
    → Counts) (order : List ℕ)
    (flow : Flow t p first gain more order) where
  -- before any has handed down, only the first provider has gained
  pub flow_start : (q : ℕ) → gain_without t p first more order q ≡ cap (if p == q then first else no_counts)
  flow_start q =
      let start : Counts = if p == q then first else no_counts in
      ap (λ z. cap (add_counts start z))
      (sum-none (λ c. if has_number order c.geom then no_counts else more c) (attached_to t q)
      (λ c there. quiet c (of_filter (λ d. names_number d.provider q) t.consumers c there).0
      (has_number order c.geom) refl))
      ∙ ap cap (add-zero start)
    where
      quiet : (c : Consumer) → Contains t.consumers c → (b : Bool) → has_number order c.geom ≡ b
          → (if b then no_counts else more c) ≡ no_counts
      quiet c there true e = refl
      quiet c there false e = flow.around c there (has_not order c.geom e)

  -- once all have, each provider has gained what it gains
  pub flow_end : (q : ℕ) → gain_without t p first more [] q ≡ cap (gain q)
  flow_end q = ap cap (sym (flow.sums q))

  -- and so has a provider of the first geom before its consumers have handed down
  pub flow_first : (x : ℕ) (rest : List ℕ) → IsOrder t (x ∷ rest) → (y : Provider)
      → provider_at t y.number ≡ Some y → y.geom ≡ x
      → gain_without t p first more (x ∷ rest) y.number ≡ cap (gain y.number)
  flow_first x rest ordered y found above =
      ap (λ z. cap (add_counts (if p == y.number then first else no_counts) z))
      (sum-same (λ c. if has_number (x ∷ rest) c.geom then no_counts else more c) more (attached_to t y.number)
      (each_of (λ c. (if has_number (x ∷ rest) c.geom then no_counts else more c) ≡ more c) (attached_to t y.number)
      (λ c there. over c (of_filter (λ d. names_number d.provider y.number) t.consumers c there)
      (has_number (x ∷ rest) c.geom) refl)))
      ∙ ap cap (sym (flow.sums y.number))
    where
      over : (c : Consumer) → Contains t.consumers c × (names_number c.provider y.number ≡ true) → (b : Bool)
          → has_number (x ∷ rest) c.geom ≡ b
          → (if b then no_counts else more c) ≡ more c
      over c stands true e =
          absurd
          (order_first t x rest ordered c.geom (has-contains (x ∷ rest) c.geom e)
          (subst (Contains (geoms_under t c.geom)) above
          (is-under t c.geom y.number y
          (directly_under t c y.number stands.0 (names_some c.provider y.number stands.1)) found)))
      over c stands false e = refl

-- What one demand makes providers and consumers gain: where the grant of one consumer rises, and where a consumer
-- comes.

-- what is no more than it was has nothing more
pub more-same : (a b : Counts) → b ≡ a → more_counts a b ≡ no_counts
more-same a b e = more_of_same a b (sym e)

-- what one of DEV or TASTE gains without a grant
granted_gain : (kind : Kind) (had gains : List Counts) → is_granted_kind kind ≡ true
    → gain_of_kind kind had gains no_counts ≡ no_counts
granted_gain kinds.Dev had gains e = refl
granted_gain kinds.Taste had gains e = refl
granted_gain _ had gains e = absurd cc

-- the same over one item more
swap_step : {X : Type 0} (a b : X → Bool) (f : Counts) (x : X) (xs : List X) (p q : Bool) → a x ≡ p → b x ≡ q
    → sum_counts (map (λ x. if a x then f else no_counts) (filter b xs))
    ≡ sum_counts (map (λ x. if b x then f else no_counts) (filter a xs))
    → sum_counts (map (λ x. if a x then f else no_counts) (cond q (x ∷ filter b xs) (filter b xs)))
    ≡ sum_counts (map (λ x. if b x then f else no_counts) (cond p (x ∷ filter a xs) (filter a xs)))
swap_step a b f x xs true true ea eb so =
    ap (λ z. add_counts (cond z f no_counts) (sum_counts (map (λ x. if a x then f else no_counts) (filter b xs)))) ea
    ∙ ap (add_counts f) so
    ∙ sym (ap (λ z.
    add_counts (cond z f no_counts) (sum_counts (map (λ x. if b x then f else no_counts) (filter a xs)))) eb)
swap_step a b f x xs true false ea eb so =
    so ∙ sym (ap
    (λ z. add_counts (cond z f no_counts) (sum_counts (map (λ x. if b x then f else no_counts) (filter a xs)))) eb
    ∙ zero-add (sum_counts (map (λ x. if b x then f else no_counts) (filter a xs))))
swap_step a b f x xs false true ea eb so =
    ap (λ z. add_counts (cond z f no_counts) (sum_counts (map (λ x. if a x then f else no_counts) (filter b xs)))) ea
    ∙ zero-add (sum_counts (map (λ x. if a x then f else no_counts) (filter b xs))) ∙ so
swap_step a b f x xs false false ea eb so = so

-- the sum over the items that pass one test, of those that pass another
sum-swap : {X : Type 0} (a b : X → Bool) (f : Counts) (xs : List X)
    → sum_counts (map (λ x. if a x then f else no_counts) (filter b xs))
    ≡ sum_counts (map (λ x. if b x then f else no_counts) (filter a xs))
sum-swap a b f [] = refl
sum-swap a b f (x ∷ xs) = swap_step a b f x xs (a x) (b x) refl refl (sum-swap a b f xs)

-- a demand: what it makes providers and consumers gain, from what providers had without it
pub record Demands {C : Type 0} (t : Topology C) (p : ℕ) (first : Counts) (had gain : ℕ → Counts) (more : Consumer
    → Counts) (order : List ℕ) : Type 0 where
  pub flow : Flow t p first gain more order
  pub makes : (x : Consumer) (g : Geom C) → Contains t.consumers x → geom_at t x.geom ≡ Some g
      → more x ≡ gain_of_kind g.kind (map (λ y. had y.number) (providers_of t g.number))
      (map (λ y. gain y.number) (providers_of t g.number)) no_counts

-- each provider that is reached has its geom in the order
abbrev pub Covers : {C : Type 0} → Topology C → ℕ → List ℕ → Type 0
Covers t p order = (y : ℕ) (x : Provider) → Contains (below t p) y → provider_at t y ≡ Some x → Contains order x.geom

module _ {C : Type 0} (t : Topology C) (known : NumbersLead t) (p : ℕ) (order : List ℕ)
    (covers : Covers t p order) where
  -- what stands on a geom outside isn't reached
  pub outside : (g : ℕ) → (Contains order g → ⊥) → (y : Provider) → Contains (providers_of t g) y
      → Contains (below t p) y.number → ⊥
  outside g away y there reached =
      let inside = of_filter (λ x. x.geom == g) t.providers y there in
      let found : provider_at t y.number ≡ Some y =
      All-contains (λ (x : Provider). provider_at t x.number ≡ Some x) t.providers y
      (All-from_recursion (λ (x : Provider). provider_at t x.number ≡ Some x) t.providers known) inside.0 in
      away (subst (Contains order) (eqb-true y.geom g inside.1) (covers y.number y reached found))

module _ {C : Type 0} (t : Topology C) (ranked : Ranked t) (known : NumbersLead t) (small large : ℕ
    → Counts) (grants : AreAtMost small large)
    (c p : ℕ) (d : Consumer) (differs : DiffersAt small large t c p)
    (only : filter (λ (x : Consumer). x.number == c) t.consumers ≡ d ∷ [])
    (attached : d.provider ≡ Some p) (number : d.number ≡ c) (kind : HoldsGrants t d.geom) (order : List ℕ)
    (covers : Covers t p order) where
  -- what a consumer wants more, but for the one whose grant rises
  abbrev pub grant_more : Consumer → Counts
  grant_more x = if x.number == c then no_counts else more_counts (want small t x) (want large t x)

  -- what a provider has more
  abbrev pub grant_gain : ℕ → Counts
  grant_gain q = more_counts (have small t q) (have large t q)

  -- a consumer of that number is that one
  the_one : (x : Consumer) → Contains t.consumers x → x.number ≡ c → x ≡ d
  the_one x there e =
      elim (Contains-cases d x [] (subst (λ xs. Contains xs x) only
      (Contains-filter (λ (y : Consumer). y.number == c) t.consumers x there (eq-eqb x.number c e)))) [
        | inl same ↦ sym same
        | inr none ↦ absurd (nothing_in x none)
      ]

  -- it wants as much more as it is granted
  one_more : (x : Consumer) → Contains t.consumers x → x.number ≡ c
      → more_counts (want small t x) (want large t x) ≡ more_counts (small c) (large c)
  one_more x there e =
      let holds : HoldsGrants t x.geom =
      subst (λ (y : Consumer). HoldsGrants t y.geom) (sym (the_one x there e)) kind in
      ap (λ a. more_counts a (want large t x)) (wants_grant small t x holds ∙ ap small e)
      ∙ ap (more_counts (small c)) (wants_grant large t x holds ∙ ap large e)

  -- what each wants more
  more_split : (x : Consumer) → Contains t.consumers x
      → more_counts (want small t x) (want large t x)
      ≡ add_counts (if x.number == c then more_counts (small c) (large c) else no_counts) (grant_more x)
  more_split x there =
      elim (cases_eq x.number c) [
        | inl same ↦
            one_more x there same ∙ sym (add-zero (more_counts (small c) (large c)))
            ∙ sym (ap (λ b. add_counts (cond b (more_counts (small c) (large c)) no_counts)
            (cond b no_counts (more_counts (want small t x) (want large t x)))) (eq-eqb x.number c same))
        | inr other ↦
            sym (zero-add (more_counts (want small t x) (want large t x)))
            ∙ sym (ap (λ b. add_counts (cond b (more_counts (small c) (large c)) no_counts)
            (cond b no_counts (more_counts (want small t x) (want large t x)))) (ne_eqb x.number c other))
      ]

  -- the grant comes to the one provider
  one_place : (q : ℕ)
      → sum_counts (map (λ (x : Consumer). if x.number == c then more_counts (small c) (large c) else no_counts)
      (attached_to t q))
      ≡ (if p == q then more_counts (small c) (large c) else no_counts)
  one_place q =
      let first : Counts = more_counts (small c) (large c) in
      sum-swap (λ (x : Consumer). x.number == c) (λ (x : Consumer). names_number x.provider q) first t.consumers
      ∙ ap (λ xs. sum_counts (map (λ (x : Consumer). if names_number x.provider q then first else no_counts) xs)) only
      ∙ add-zero (if names_number d.provider q then first else no_counts)
      ∙ ap (λ o. if names_number o q then first else no_counts) attached

  -- each gains the sum of what stands above gains
  grant_sums : (q : ℕ)
      → grant_gain q
      ≡ add_counts (if p == q then more_counts (small c) (large c) else no_counts)
      (sum_counts (map grant_more (attached_to t q)))
  grant_sums q =
      ap (more_counts (have small t q)) (have_gains small large grants t ranked known q)
      ∙ more-add (have small t q)
      (sum_counts (map (λ x. more_counts (want small t x) (want large t x)) (attached_to t q)))
      ∙ sum-same (λ x. more_counts (want small t x) (want large t x))
      (λ x. add_counts (if x.number == c then more_counts (small c) (large c) else no_counts) (grant_more x))
      (attached_to t q)
      (each_of (λ (x : Consumer). more_counts (want small t x) (want large t x)
      ≡ add_counts (if x.number == c then more_counts (small c) (large c) else no_counts) (grant_more x))
      (attached_to t q)
      (λ x there. more_split x (of_filter (λ (y : Consumer). names_number y.provider q) t.consumers x there).0))
      ∙ sum-add (λ (x : Consumer). if x.number == c then more_counts (small c) (large c) else no_counts) grant_more
      (attached_to t q)
      ∙ ap (λ a. add_counts a (sum_counts (map grant_more (attached_to t q)))) (one_place q)

  -- consumers of other geoms gain nothing
  grant_around : (x : Consumer) → Contains t.consumers x → (Contains order x.geom → ⊥) → grant_more x ≡ no_counts
  grant_around x there away =
      elim (cases_eq x.number c) [
        | inl same ↦ ap (λ b. cond b no_counts (more_counts (want small t x) (want large t x))) (eq-eqb x.number c same)
        | inr other ↦
            ap (λ b. cond b no_counts (more_counts (want small t x) (want large t x))) (ne_eqb x.number c other)
            ∙ more-same (want small t x) (want large t x)
            (want_same small t large t x (differs.agree x.number other) refl refl
            (each_of (λ (y : Provider). have large t y.number ≡ have small t y.number) (providers_of t x.geom)
            (λ y stands. StaysAround.haves (differing_stays small large t c p differs ranked known) y.number
            (outside t known p order covers x.geom away y stands))))
      ]

  -- each gains what its class makes of what its geom's providers gain
  grant_makes : (x : Consumer) (g : Geom C) → Contains t.consumers x → geom_at t x.geom ≡ Some g
      → grant_more x ≡ gain_of_kind g.kind (map (λ y. have small t y.number) (providers_of t g.number))
      (map (λ y. grant_gain y.number) (providers_of t g.number)) no_counts
  grant_makes x g there found =
      elim (cases_eq x.number c) [
        | inl same ↦
            let holds : HoldsGrants t x.geom =
            subst (λ (y : Consumer). HoldsGrants t y.geom) (sym (the_one x there same)) kind in
            let granted : is_granted_kind g.kind ≡ true =
            subst (λ o. IsSomeAnd o (λ (y : Geom C). is_granted_kind y.kind ≡ true)) found holds in
            ap (λ b. cond b no_counts (more_counts (want small t x) (want large t x))) (eq-eqb x.number c same)
            ∙ sym (granted_gain g.kind (map (λ y. have small t y.number) (providers_of t g.number))
            (map (λ y. grant_gain y.number) (providers_of t g.number)) granted)
        | inr other ↦
            ap (λ b. cond b no_counts (more_counts (want small t x) (want large t x))) (ne_eqb x.number c other)
            ∙ ap (more_counts (want small t x)) (want_gains small large grants t x g found)
            ∙ more-add (want small t x)
            (gain_of_kind g.kind (map (λ y. have small t y.number) (providers_of t g.number))
            (map (λ y. grant_gain y.number) (providers_of t g.number))
            (more_counts (small x.number) (large x.number)))
            ∙ ap (gain_of_kind g.kind (map (λ y. have small t y.number) (providers_of t g.number))
            (map (λ y. grant_gain y.number) (providers_of t g.number)))
            (more-same (small x.number) (large x.number) (differs.agree x.number other))
      ]

  -- so a grant that rises is a demand
  pub grant_demands : Demands t p (more_counts (small c) (large c)) (have small t) grant_gain grant_more order
  grant_demands = record { flow = record { sums = grant_sums; around = grant_around }; makes = grant_makes }

module _ {C : Type 0} (t : Topology C) (known : NumbersLead t) (granted after : ℕ → Counts) (geom p : ℕ)
    (comes : Comes granted t after geom) (ranked : Ranked (add_consumer t geom (Some p)))
    (bare : providers_of t geom ≡ [])
    (order : List ℕ) (covers : Covers t p order) where
  -- what a consumer wants more once the new one is there
  abbrev pub coming_more : Consumer → Counts
  coming_more x = more_counts (want granted t x) (want after (add_consumer t geom (Some p)) x)

  -- what a provider has more
  abbrev pub coming_gain : ℕ → Counts
  coming_gain q = more_counts (have granted t q) (have after (add_consumer t geom (Some p)) q)

  -- each gains the sum of what stands above gains, and p the new grant
  coming_sums : (q : ℕ)
      → coming_gain q
      ≡ add_counts (if p == q then after t.next_consumer else no_counts)
      (sum_counts (map coming_more (attached_to t q)))
  coming_sums q =
      let first : Counts = if p == q then after t.next_consumer else no_counts in
      let sum : Counts = sum_counts (map coming_more (attached_to t q)) in
      ap (more_counts (have granted t q))
      (came_gains granted after t geom p comes.free comes.kind comes.agree ranked known q)
      ∙ more-add (have granted t q) (add_counts sum first)
      ∙ counts-same (add_counts sum first) (add_counts first sum) (omega arith) (omega arith) (omega arith)

  -- consumers of other geoms gain nothing
  coming_around : (x : Consumer) → Contains t.consumers x → (Contains order x.geom → ⊥) → coming_more x ≡ no_counts
  coming_around x there away =
      more-same (want granted t x) (want after (add_consumer t geom (Some p)) x)
      (want_same granted t after (add_consumer t geom (Some p)) x
      (comes.agree x.number (All-contains (λ (y : Consumer). y.number ≢ t.next_consumer) t.consumers x comes.free
      there)) refl refl
      (each_of (λ (y : Provider). have after (add_consumer t geom (Some p)) y.number ≡ have granted t y.number)
      (providers_of t x.geom)
      (λ y stands.
      StaysAround.haves (came_stays granted after t geom p comes.free comes.kind comes.agree ranked known bare)
      y.number (outside t known p order covers x.geom away y stands))))

  -- each gains what its class makes of what its geom's providers gain
  coming_makes : (x : Consumer) (g : Geom C) → Contains t.consumers x → geom_at t x.geom ≡ Some g
      → coming_more x ≡ gain_of_kind g.kind (map (λ y. have granted t y.number) (providers_of t g.number))
      (map (λ y. coming_gain y.number) (providers_of t g.number)) no_counts
  coming_makes x g there found =
      ap (more_counts (want granted t x))
      (came_wants granted after t geom p comes.free comes.kind comes.agree x g there found)
      ∙ more-add (want granted t x)
      (gain_of_kind g.kind (map (λ y. have granted t y.number) (providers_of t g.number))
      (map (λ y. coming_gain y.number) (providers_of t g.number)) no_counts)

  -- so a consumer that comes makes a demand
  pub coming_demands : Demands t p (after t.next_consumer) (have granted t) coming_gain coming_more order
  coming_demands = record { flow = record { sums = coming_sums; around = coming_around }; makes = coming_makes }
