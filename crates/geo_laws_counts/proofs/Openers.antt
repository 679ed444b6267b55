-- Consumers of DEV or TASTE come and go with a grant, and which demands are refused.
use Rattle.std.specs.Prelude.{◌≡◌, ◌≢◌, ℕ, zero, suc, ◌==◌, Bool, true, false, not, cond, List, [], ◌∷◌, ◌++◌, map, filter, filter_map, flat_map, Option, Some, None, All, Contains, length, if◌then◌else◌, IsSomeAnd, ◌↔◌}
use Rattle.std.specs.List.{AllByRecursion, list_any}
use Rattle.std.specs.Option.{option_map_or}
use Rattle.std.proofs.Common.{refl, sym, ◌∙◌, ap, subst, arith, inl, inr, eq-eqb}
use Rattle.std.proofs.lemmas.Bool.{eqb-true, ne_eqb, not-false, cases_eq, not_from_true}
use Rattle.std.proofs.lemmas.List.{append-nil}
use Rattle.std.proofs.lemmas.List.Elements.{All-contains, All-weaker, All-push, filter-append, recursion_from_All}
use Rattle.geo_model.proofs.FindLists.{found_in}
use Rattle.geo_model.specs.Counts.{Counts}
use Rattle.geo_model.specs.Words.{names_number, first_error}
use Rattle.geo_model.specs.Topology.{Topology, Geom, Provider, Consumer, geom_at, provider_at, providers_of, providers_under, attached_to, add_consumer, remove_consumer, find_provider, is_errored}
use Rattle.geo_model.specs.Rank.{Ranked}
use Rattle.geo_model.specs.Opens.{below, below_within, with_grant, has_error_below, grant_refusal, with_opener, open_refusal, open_refusal_at}
use Rattle.geo_model.specs.Demand.{no_counts, add_counts, sum_counts, have, want, is_exclusive, fits_limit}
use Rattle.geo_model.proofs.MemberLists.{Contains-cases, nothing_in, Contains-filter}
use Rattle.geo_model.proofs.Options.{some_weaker}
use Rattle.geo_model.proofs.Tests.{passes_apart}
use Rattle.geo_model.proofs.DemandLemmas.{all_weaker}
use Rattle.geo_model.specs.Errno.TheVariants.{ENXIO, EPERM, EOVERFLOW}
use Rattle.geo_laws_counts.specs.CountWords.{IsAtMost, AreAtMost, more_counts, gain_of_kind, NumbersLead, DemandStays, AgreeExcept, HoldsGrants, IsOnlyOne}
use Rattle.geo_laws_counts.specs.DemandLaws.{StaysAround}
use Rattle.geo_laws_counts.proofs.Sums.{at_most-same, at_most-zero, add-zero, zero-add, add-assoc, counts-same, sum-same, add-move, have-at_most, want_gains_by, have_gains}
use Rattle.geo_laws_counts.proofs.Reach.{kept_members, below_self, stays, wants_stay}
use Rattle.geo_laws_counts.proofs.Stays.{grant_over, opener_came, opener_went, grants_agree}
use Rattle.geo_laws_counts.proofs.LimitFacts.{all_of, of_filter, exclusive_less, limit_less}
use Rattle.geo_laws_counts.specs.AllowedLaws.{IsAllowed}

-- functions that agree on what is found give the same
flat_map-same : {X Y : Type 0} (f g : X → List Y) → ((x : X) → f x ≡ g x) → (xs : List X)
    → flat_map f xs ≡ flat_map g xs
flat_map-same f g same [] = refl
flat_map-same f g same (x ∷ xs) = ap (λ ys. ys ++ flat_map f xs) (same x)
    ∙ ap (λ ys. g x ++ ys) (flat_map-same f g same xs)

-- the same below a found provider
below_over : {C : Type 0} (t u : Topology C) (k : ℕ) → ((p : ℕ) → below_within k u p ≡ below_within k t p)
    → (o : Option Provider)
    → ((x : Provider) → o ≡ Some x → providers_under u x.geom ≡ providers_under t x.geom)
    → option_map_or (λ x. flat_map (below_within k u) (providers_under u x.geom)) o []
    ≡ option_map_or (λ x. flat_map (below_within k t) (providers_under t x.geom)) o []
below_over t u k same None under = refl
below_over t u k same (Some x) under =
    ap (flat_map (below_within k u)) (under x refl)
    ∙ flat_map-same (below_within k u) (below_within k t) same (providers_under t x.geom)

-- consumers of geoms without providers change nothing below
pub below_same : {C : Type 0} (t u : Topology C) → ((p : ℕ) → provider_at u p ≡ provider_at t p)
    → ((x : Provider) → Contains t.providers x → providers_under u x.geom ≡ providers_under t x.geom)
    → (k p : ℕ) → below_within k u p ≡ below_within k t p
below_same t u look under zero p = refl
below_same t u look under (suc k) p =
    ap (λ ps. p ∷ ps)
    (ap (λ o. option_map_or (λ x. flat_map (below_within k u) (providers_under u x.geom)) o []) (look p)
    ∙ below_over t u k (below_same t u look under k) (provider_at t p)
    (λ x found. under x (found_in (λ y. y.number == p) t.providers x found).0))

-- a geom without providers isn't that of a provider
other_geom : {C : Type 0} (t : Topology C) (g : ℕ) → providers_of t g ≡ [] → (x : Provider)
    → Contains t.providers x → x.geom ≢ g
other_geom t g bare x there e =
    nothing_in x
    (subst (λ xs. Contains xs x) bare (Contains-filter (λ y. y.geom == g) t.providers x there (eq-eqb x.geom g e)))

-- what is directly under another geom than that of a new consumer
under_came : {C : Type 0} (t : Topology C) (geom : ℕ) (to : Option ℕ) (n : ℕ) → n ≢ geom
    → providers_under (add_consumer t geom to) n ≡ providers_under t n
under_came t geom to n other =
    ap (filter_map (λ (x : Consumer). x.provider))
    (filter-append (λ x. x.geom == n) t.consumers (record {
      number = t.next_consumer;
      geom = geom;
      provider = to;
      spoiled = false;
    } ∷ [])
    ∙ ap (λ b. filter (λ (x : Consumer). x.geom == n) t.consumers
    ++ cond b (record { number = t.next_consumer; geom = geom; provider = to; spoiled = false } ∷ []) [])
    (ne_eqb geom n (λ e. other (sym e)))
    ∙ append-nil (filter (λ (x : Consumer). x.geom == n) t.consumers))

-- a new consumer of a geom without providers changes nothing below
pub below_came : {C : Type 0} (t : Topology C) (geom : ℕ) (to : Option ℕ) → providers_of t geom ≡ []
    → (p : ℕ) → below (add_consumer t geom to) p ≡ below t p
below_came t geom to bare p =
    below_same t (add_consumer t geom to) (λ q. refl)
    (λ x there. under_came t geom to x.geom (other_geom t geom bare x there)) (length t.geoms) p

-- what is directly under a geom that has no consumer of the number
filter_out : {X : Type 0} (test keep : X → Bool) → (xs : List X)
    → AllByRecursion (λ x. keep x ≡ false → test x ≡ false) xs
    → filter test (filter keep xs) ≡ filter test xs
filter_out test keep [] so = refl
filter_out {X = X} test keep (x ∷ xs) so = out (keep x) refl (filter_out test keep xs so.1)
  where
    out : (b : Bool) → keep x ≡ b → filter test (filter keep xs) ≡ filter test xs
        → filter test (cond b (x ∷ filter keep xs) (filter keep xs))
        ≡ cond (test x) (x ∷ filter test xs) (filter test xs)
    out true e rest = ap (λ ys. cond (test x) (x ∷ ys) ys) rest
    out false e rest = rw (so.0 e) rest

-- nor does a removed one
pub below_went : {C : Type 0} (t : Topology C) (c : ℕ)
    → All (λ x. x.number ≡ c → providers_of t x.geom ≡ []) t.consumers
    → (p : ℕ) → below (remove_consumer t c) p ≡ below t p
below_went t c bare p =
    below_same t (remove_consumer t c) (λ q. refl)
    (λ x there.
    ap (filter_map (λ (d : Consumer). d.provider))
    (filter_out (λ d. d.geom == x.geom) (λ d. not (d.number == c)) t.consumers
    (recursion_from_All _ t.consumers
    (All-weaker (λ (d : Consumer). d.number ≡ c → providers_of t d.geom ≡ [])
    (λ (d : Consumer). not (d.number == c) ≡ false → (d.geom == x.geom) ≡ false)
    (λ d so gone.
    ne_eqb d.geom x.geom
    (λ e. other_geom t d.geom (so (eqb-true d.number c (not-false (d.number == c) gone))) x there (sym e)))
    t.consumers bare))))
    (length t.geoms) p

-- the grants without that of one consumer
grant_at : (granted : ℕ → Counts) (c : ℕ) (a : Counts) → with_grant granted c a c ≡ a
grant_at granted c a = rw (eq-eqb c c refl) refl

-- at other numbers the grants stay
grant_elsewhere : (granted : ℕ → Counts) (c : ℕ) (a : Counts) → AgreeExcept c granted (with_grant granted c a)
grant_elsewhere granted c a d other = rw (ne_eqb d c other) refl

-- grants that differ at one number, where the first are none, are at most the others
less_at : (granted after : ℕ → Counts) (c : ℕ) → AgreeExcept c granted after → granted c ≡ no_counts
    → AreAtMost granted after
less_at granted after c agree none n =
    elim (cases_eq n c) [
      | inl same ↦
          subst (λ m. IsAtMost (granted m) (after m)) (sym same)
          (subst (λ a. IsAtMost a (after c)) (sym none) (at_most-zero (after c)))
      | inr other ↦ subst (λ a. IsAtMost (granted n) a) (sym (agree n other)) (at_most-same (granted n))
    ]

-- a sum with one more item at the end
sum-end_more : {X : Type 0} (f : X → Counts) (test : X → Bool) (xs : List X) (x : X)
    → sum_counts (map f (filter test (xs ++ x ∷ [])))
    ≡ add_counts (sum_counts (map f (filter test xs))) (if test x then f x else no_counts)
sum-end_more f test [] x = end (test x)
  where
    end : (b : Bool) → sum_counts (map f (cond b (x ∷ []) [])) ≡ add_counts no_counts (if b then f x else no_counts)
    end true = add-zero (f x) ∙ sym (zero-add (f x))
    end false = refl
sum-end_more f test (y ∷ ys) x = more (test y) (sum-end_more f test ys x)
  where
    more : (b : Bool)
        → sum_counts (map f (filter test (ys ++ x ∷ [])))
        ≡ add_counts (sum_counts (map f (filter test ys))) (if test x then f x else no_counts)
        → sum_counts (map f (cond b (y ∷ filter test (ys ++ x ∷ [])) (filter test (ys ++ x ∷ []))))
        ≡ add_counts (sum_counts (map f (cond b (y ∷ filter test ys) (filter test ys))))
        (if test x then f x else no_counts)
    more true rest = ap (add_counts (f y)) rest
        ∙ sym (add-assoc (f y) (sum_counts (map f (filter test ys))) (if test x then f x else no_counts))
    more false rest = rest

-- what a consumer of DEV or TASTE wants is what it is granted
pub wants_grant : {C : Type 0} (granted : ℕ → Counts) (t : Topology C) (c : Consumer) → HoldsGrants t c.geom
    → want granted t c ≡ granted c.number
wants_grant granted t c kind = grant_over (have granted t) (granted c.number) t (geom_at t c.geom) kind

-- what counts have more than none is these
more_than_none : (a : Counts) → more_counts no_counts a ≡ a
more_than_none a = counts-same (more_counts no_counts a) a (omega arith) (omega arith) (omega arith)

-- what one has more, from equal counts
more-same : (a b c d : Counts) → a ≡ b → c ≡ d → more_counts a c ≡ more_counts b d
more-same a b c d x y = ap (λ z. more_counts z c) x ∙ ap (more_counts b) y

-- a sum split by a test
sum-split : {X : Type 0} (f : X → Counts) (test out : X → Bool) (xs : List X)
    → sum_counts (map f (filter test xs))
    ≡ add_counts (sum_counts (map f (filter test (filter (λ x. not (out x)) xs))))
    (sum_counts (map f (filter test (filter out xs))))
sum-split f test out [] = refl
sum-split {X = X} f test out (x ∷ xs) = split (out x) (test x) refl (sum-split f test out xs)
  where
    split : (a b : Bool) → test x ≡ b
        → sum_counts (map f (filter test xs))
        ≡ add_counts (sum_counts (map f (filter test (filter (λ y. not (out y)) xs))))
        (sum_counts (map f (filter test (filter out xs))))
        → sum_counts (map f (cond b (x ∷ filter test xs) (filter test xs)))
        ≡ add_counts
        (sum_counts (map f
        (filter test (cond (not a) (x ∷ filter (λ y. not (out y)) xs) (filter (λ y. not (out y)) xs)))))
        (sum_counts (map f (filter test (cond a (x ∷ filter out xs) (filter out xs)))))
    split true true e rest =
        rw e
        (ap (add_counts (f x)) rest
        ∙ add-move (f x) (sum_counts (map f (filter test (filter (λ y. not (out y)) xs))))
        (sum_counts (map f (filter test (filter out xs)))))
    split true false e rest = rw e rest
    split false true e rest =
        rw e
        (ap (add_counts (f x)) rest
        ∙ sym (add-assoc (f x) (sum_counts (map f (filter test (filter (λ y. not (out y)) xs))))
        (sum_counts (map f (filter test (filter out xs))))))
    split false false e rest = rw e rest

module _ {C : Type 0} (granted after : ℕ → Counts) (t : Topology C) (geom p : ℕ)
    (free : All (λ c. c.number ≢ t.next_consumer) t.consumers) (kind : HoldsGrants t geom)
    (agree : AgreeExcept t.next_consumer granted after) where
  -- the grants without that of the new consumer
  before : ℕ → Counts
  before = with_grant granted t.next_consumer no_counts

  -- it has none by them
  before_zero : before t.next_consumer ≡ no_counts
  unfolding before
  before_zero = grant_at granted t.next_consumer no_counts

  -- the others stay
  before_agrees : AgreeExcept t.next_consumer granted before
  unfolding before
  before_agrees = grant_elsewhere granted t.next_consumer no_counts

  -- without its grant the new consumer changes nothing
  came_first : DemandStays granted t before (add_consumer t geom (Some p)) (Contains t.consumers)
  came_first = opener_came granted before t geom p free kind before_agrees before_zero

  -- they are at most the grants afterwards
  before_less : AreAtMost before after
  before_less =
      less_at before after t.next_consumer (λ n other. agree n other ∙ sym (before_agrees n other)) before_zero

  -- no count falls
  pub came_more : (q : ℕ) → IsAtMost (have granted t q) (have after (add_consumer t geom (Some p)) q)
  came_more q =
      subst (λ a. IsAtMost a (have after (add_consumer t geom (Some p)) q)) (came_first.haves q)
      (have-at_most before after before_less (add_consumer t geom (Some p)) q)

  -- what isn't reached downwards stays
  pub came_stays : Ranked (add_consumer t geom (Some p)) → NumbersLead t → providers_of t geom ≡ []
      → StaysAround granted t after (add_consumer t geom (Some p)) (below t p)
  came_stays ranked known bare =
      let u : Topology C = add_consumer t geom (Some p) in
      let new : Consumer = record { number = t.next_consumer; geom = geom; provider = Some p; spoiled = false } in
      let others : (n : ℕ) → n ≢ t.next_consumer → before n ≡ after n = λ n other. before_agrees n other
      ∙ sym (agree n other) in
      let place : All (λ d. d.number ≡ t.next_consumer → d.provider ≡ Some p) u.consumers =
      All-push (λ (d : Consumer). d.number ≡ t.next_consumer → d.provider ≡ Some p) t.consumers new
      (All-weaker (λ (d : Consumer). d.number ≢ t.next_consumer) (λ (d : Consumer). d.number ≡ t.next_consumer
      → d.provider ≡ Some p)
      (λ d other same. absurd (other same)) t.consumers free)
      (λ same. refl) in
      let far : (q : ℕ) → (Contains (below t p) q → ⊥) → Contains (below u p) q → ⊥ =
      λ q away reached. away (subst (λ ps. Contains ps q) (below_came t geom (Some p) bare p) reached) in
      let attached : (q : ℕ) → (Contains (below t p) q → ⊥) → attached_to u q ≡ attached_to t q =
      λ q away.
      filter-append (λ c. names_number c.provider q) t.consumers (new ∷ [])
      ∙ ap (λ b. attached_to t q ++ cond b (new ∷ []) [])
      (ne_eqb p q (λ same. away (subst (Contains (below t p)) same (below_self (length t.geoms) t p))))
      ∙ append-nil (attached_to t q) in
      record {
        haves = λ q away. sym (stays u ranked known before after t.next_consumer p others place q (far q away))
            ∙ came_first.haves q;
        attached = attached;
        wants = λ q away d there.
            sym (wants_stay u ranked known before after t.next_consumer p others place q (far q away) d
            (subst (λ cs. Contains cs d) (sym (attached q away)) there))
            ∙ came_first.wants d (of_filter (λ c. names_number c.provider q) t.consumers d there).0;
      }

  -- what a consumer wants more, from what the providers of its geom have more
  pub came_wants : (c : Consumer) (g : Geom C) → Contains t.consumers c → geom_at t c.geom ≡ Some g
      → want after (add_consumer t geom (Some p)) c
      ≡ add_counts (want granted t c)
      (gain_of_kind g.kind
      (map (λ x. have granted t x.number) (providers_of t g.number))
      (map (λ x. more_counts (have granted t x.number) (have after (add_consumer t geom (Some p)) x.number))
      (providers_of t g.number))
      no_counts)
  came_wants c g there found =
      let other : c.number ≢ t.next_consumer =
      All-contains (λ (x : Consumer). x.number ≢ t.next_consumer) t.consumers c free there in
      want_gains_by before after before_less (add_consumer t geom (Some p)) c g found
      (before_agrees c.number other ∙ sym (agree c.number other)) (have granted t) came_first.haves (want granted t c)
      (came_first.wants c there)

  -- what a provider has more is the sum of what its consumers want more, and at p the new grant
  pub came_gains : Ranked (add_consumer t geom (Some p)) → NumbersLead t → (q : ℕ)
      → have after (add_consumer t geom (Some p)) q
      ≡ add_counts (have granted t q)
      (add_counts
      (sum_counts (map (λ c. more_counts (want granted t c) (want after (add_consumer t geom (Some p)) c))
      (attached_to t q)))
      (if p == q then after t.next_consumer else no_counts))
  came_gains ranked known q =
      let u : Topology C = add_consumer t geom (Some p) in
      let new : Consumer = record { number = t.next_consumer; geom = geom; provider = Some p; spoiled = false } in
      let f : Consumer → Counts = λ c. more_counts (want before u c) (want after u c) in
      let at_new : f new ≡ after t.next_consumer =
      more-same (want before u new) no_counts (want after u new) (after t.next_consumer)
      (wants_grant before u new kind ∙ before_zero) (wants_grant after u new kind)
      ∙ more_than_none (after t.next_consumer) in
      have_gains before after before_less u ranked known q
      ∙ ap (add_counts (have before u q))
      (sum-end_more f (λ c. names_number c.provider q) t.consumers new
      ∙ ap (λ a. add_counts (sum_counts (map f (attached_to t q))) (if p == q then a else no_counts)) at_new
      ∙ ap (λ a. add_counts a (if p == q then after t.next_consumer else no_counts))
      (sum-same f (λ c. more_counts (want granted t c) (want after u c)) (attached_to t q)
      (all_weaker (λ (c : Consumer). Contains t.consumers c × (names_number c.provider q ≡ true))
      (λ (c : Consumer). more_counts (want before u c) (want after u c)
      ≡ more_counts (want granted t c) (want after u c))
      (λ c h. ap (λ a. more_counts a (want after u c)) (came_first.wants c h.0))
      (attached_to t q) (kept_members (λ c. names_number c.provider q) t.consumers))))
      ∙ ap
      (λ a. add_counts a
      (add_counts (sum_counts (map (λ c. more_counts (want granted t c) (want after u c)) (attached_to t q)))
      (if p == q then after t.next_consumer else no_counts)))
      (came_first.haves q)

-- only one consumer has the number
only_it : {C : Type 0} (t : Topology C) (d : Consumer) → IsOnlyOne t d → (P : Consumer → Type 0) → P d
    → All (λ x. x.number ≡ d.number → P x) t.consumers
only_it t d only P fact =
    all_of (λ (x : Consumer). x.number ≡ d.number → P x) t.consumers
    (λ x there same.
    let inside : Contains (d ∷ []) x =
    subst (λ cs. Contains cs x) only
    (Contains-filter (λ y. y.number == d.number) t.consumers x there (eq-eqb x.number d.number same)) in
    elim (Contains-cases d x [] inside) [ inl it ↦ subst P it fact | inr none ↦ absurd (nothing_in x none) ])

module _ {C : Type 0} (granted after : ℕ → Counts) (t : Topology C) (d : Consumer) (only : IsOnlyOne t d)
    (kind : HoldsGrants t d.geom)
    (agree : AgreeExcept d.number granted after) where
  -- the grants without that of the consumer that goes
  without : ℕ → Counts
  without = with_grant granted d.number no_counts

  -- it has none by them
  without_zero : without d.number ≡ no_counts
  unfolding without
  without_zero = grant_at granted d.number no_counts

  -- the others stay
  without_agrees : AgreeExcept d.number granted without
  unfolding without
  without_agrees = grant_elsewhere granted d.number no_counts

  -- without a grant the consumer goes unnoticed
  pub went_quietly : granted d.number ≡ no_counts
      → DemandStays granted t after (remove_consumer t d.number) (Contains (remove_consumer t d.number).consumers)
  went_quietly none =
      opener_went granted after t d.number (only_it t d only (λ x. HoldsGrants t x.geom) kind) agree none

  -- by them it goes unnoticed
  went_last : DemandStays without t after (remove_consumer t d.number) (Contains (remove_consumer t d.number).consumers)
  went_last =
      opener_went without after t d.number (only_it t d only (λ x. HoldsGrants t x.geom) kind)
      (λ n other. agree n other ∙ sym (without_agrees n other)) without_zero

  -- they are at most the grants before
  without_less : AreAtMost without granted
  without_less = less_at without granted d.number (λ n other. sym (without_agrees n other)) without_zero

  -- no count rises
  pub went_less : (q : ℕ) → IsAtMost (have after (remove_consumer t d.number) q) (have granted t q)
  went_less q =
      subst (λ a. IsAtMost a (have granted t q)) (sym (went_last.haves q))
      (have-at_most without granted without_less t q)

  -- what isn't reached downwards stays
  pub went_stays : (p : ℕ) → Ranked t → NumbersLead t → d.provider ≡ Some p
      → StaysAround granted t after (remove_consumer t d.number) (below t p)
  went_stays p ranked known place =
      let u : Topology C = remove_consumer t d.number in
      let others : (n : ℕ) → n ≢ d.number → without n ≡ granted n = λ n other. without_agrees n other in
      let places : All (λ x. x.number ≡ d.number → x.provider ≡ Some p) t.consumers =
      only_it t d only (λ x. x.provider ≡ Some p) place in
      let attached : (q : ℕ) → (Contains (below t p) q → ⊥) → attached_to u q ≡ attached_to t q =
      λ q away.
      filter_out (λ c. names_number c.provider q) (λ c. not (c.number == d.number)) t.consumers
      (recursion_from_All _ t.consumers
      (All-weaker (λ (x : Consumer). x.number ≡ d.number → x.provider ≡ Some p)
      (λ (x : Consumer). not (x.number == d.number) ≡ false → names_number x.provider q ≡ false)
      (λ x so gone.
      ap (λ o. names_number o q) (so (eqb-true x.number d.number (not-false (x.number == d.number) gone)))
      ∙ ne_eqb p q (λ same. away (subst (Contains (below t p)) same (below_self (length t.geoms) t p))))
      t.consumers places)) in
      record {
        haves = λ q away. went_last.haves q ∙ stays t ranked known without granted d.number p others places q away;
        attached = attached;
        wants = λ q away x there.
            went_last.wants x
            (of_filter (λ c. names_number c.provider q) u.consumers x
            (subst (λ cs. Contains cs x) (sym (attached q away)) there)).0
            ∙ wants_stay t ranked known without granted d.number p others places q away x there;
      }

  -- neither exclusiveness nor the limit begins to fail
  pub went_exclusive : is_exclusive granted t ≡ true → is_exclusive after (remove_consumer t d.number) ≡ true
  went_exclusive e = went_last.exclusive (exclusive_less without granted without_less t e)

  -- nor does a count come above the limit
  pub went_limit : fits_limit granted t ≡ true → fits_limit after (remove_consumer t d.number) ≡ true
  went_limit e = went_last.limit (limit_less without granted without_less t e)

  -- what a consumer wants less, from what the providers of its geom have less
  pub went_wants : (c : Consumer) (g : Geom C) → Contains (remove_consumer t d.number).consumers c
      → geom_at t c.geom ≡ Some g
      → want granted t c
      ≡ add_counts (want after (remove_consumer t d.number) c)
      (gain_of_kind g.kind
      (map (λ x. have after (remove_consumer t d.number) x.number) (providers_of t g.number))
      (map (λ x. more_counts (have after (remove_consumer t d.number) x.number) (have granted t x.number))
      (providers_of t g.number))
      no_counts)
  went_wants c g there found =
      let u : Topology C = remove_consumer t d.number in
      let other : c.number ≢ d.number =
      λ e. passes_apart c.number d.number (of_filter (λ x. not (x.number == d.number)) t.consumers c there).1 e in
      want_gains_by without granted without_less t c g found (without_agrees c.number other) (have after u)
      (λ q. sym (went_last.haves q)) (want after u c) (sym (went_last.wants c there))

  -- what a provider has less is the sum of what its consumers want less, and at p the grant that goes
  pub went_gains : (p : ℕ) → Ranked t → NumbersLead t → d.provider ≡ Some p → (q : ℕ)
      → have granted t q
      ≡ add_counts (have after (remove_consumer t d.number) q)
      (add_counts
      (sum_counts (map (λ c. more_counts (want after (remove_consumer t d.number) c) (want granted t c))
      (attached_to (remove_consumer t d.number) q)))
      (if p == q then granted d.number else no_counts))
  went_gains p ranked known place q =
      let u : Topology C = remove_consumer t d.number in
      let f : Consumer → Counts = λ c. more_counts (want without t c) (want granted t c) in
      let at_it : f d ≡ granted d.number =
      more-same (want without t d) no_counts (want granted t d) (granted d.number)
      (wants_grant without t d kind ∙ without_zero) (wants_grant granted t d kind)
      ∙ more_than_none (granted d.number) in
      have_gains without granted without_less t ranked known q
      ∙ ap (add_counts (have without t q))
      (sum-split f (λ c. names_number c.provider q) (λ c. c.number == d.number) t.consumers
      ∙ ap (λ cs. add_counts (sum_counts (map f (attached_to u q)))
      (sum_counts (map f (filter (λ (c : Consumer). names_number c.provider q) cs)))) only
      ∙ ap (add_counts (sum_counts (map f (attached_to u q))))
      (ap (λ o. sum_counts (map f (cond (names_number o q) (d ∷ []) []))) place ∙ one_of (p == q) (f d) d refl
      ∙ ap (λ a. if p == q then a else no_counts) at_it)
      ∙ ap (λ a. add_counts a (if p == q then granted d.number else no_counts))
      (sum-same f (λ c. more_counts (want after u c) (want granted t c)) (attached_to u q)
      (all_weaker (λ (c : Consumer). Contains u.consumers c × (names_number c.provider q ≡ true))
      (λ (c : Consumer). more_counts (want without t c) (want granted t c)
      ≡ more_counts (want after u c) (want granted t c))
      (λ c h. ap (λ a. more_counts a (want granted t c)) (sym (went_last.wants c h.0)))
      (attached_to u q) (kept_members (λ c. names_number c.provider q) u.consumers))))
      ∙ ap
      (λ a. add_counts a
      (add_counts (sum_counts (map (λ c. more_counts (want after u c) (want granted t c)) (attached_to u q)))
      (if p == q then granted d.number else no_counts)))
      (sym (went_last.haves q))
    where
      one_of : (b : Bool) (a : Counts) (e : Consumer) → more_counts (want without t e) (want granted t e) ≡ a
          → sum_counts (map (λ c. more_counts (want without t c) (want granted t c)) (cond b (e ∷ []) []))
          ≡ (if b then a else no_counts)
      one_of true a e same = add-zero (more_counts (want without t e) (want granted t e)) ∙ same
      one_of false a e same = refl

-- what `demand_goes` says
pub ruleset demand_goes = (went_quietly, went_less, went_stays, below_went, went_gains, went_wants)

-- Demands that aren't refused.

-- no error comes where no test holds
none_of : (a b c : Bool) → first_error ((a, ENXIO) ∷ (b, EPERM) ∷ (c, EOVERFLOW) ∷ []) ≡ None
    → (a ≡ false) × (b ≡ false) × (c ≡ false)
none_of true b c e = cc
none_of false true c e = cc
none_of false false true e = cc
none_of false false false e = (refl, refl, refl)

-- and no test holds where none comes
of_none : (a b c : Bool) → a ≡ false → b ≡ false → c ≡ false
    → first_error ((a, ENXIO) ∷ (b, EPERM) ∷ (c, EOVERFLOW) ∷ []) ≡ None
of_none a b c ea eb ec = rw (ea, eb, ec) refl

module _ {C : Type 0} (granted : ℕ → Counts) (t : Topology C) where
  -- a demand is refused just where it is not allowed
  pub allowed : (p : ℕ) → grant_refusal granted t p ≡ None ↔ IsAllowed granted t p
  allowed p = (
    (λ e.
        let tests = none_of (has_error_below t p) (not (is_exclusive granted t)) (not (fits_limit granted t)) e in
        record {
          errors = tests.0;
          exclusive = not-false (is_exclusive granted t) tests.1;
          limit = not-false (fits_limit granted t) tests.2;
        }),
    (λ facts.
        of_none (has_error_below t p) (not (is_exclusive granted t)) (not (fits_limit granted t))
        facts.errors (not_from_true (is_exclusive granted t) facts.exclusive)
        (not_from_true (fits_limit granted t) facts.limit)),
  )

module _ {C : Type 0} (granted : ℕ → Counts) (t : Topology C) where
  -- the same for an open of a found provider
  open_at : (grant : Counts) (o : Option ℕ)
      → open_refusal_at granted t o grant ≡ None
      ↔ IsSomeAnd o (λ p. IsAllowed (with_grant granted t.next_consumer grant) (with_opener t p) p)
  open_at grant None = ((λ e. cc), (λ none. absurd none))
  open_at grant (Some p) = allowed (with_grant granted t.next_consumer grant) (with_opener t p) p

  -- and for an open by name
  pub open_allowed : (name : List ℕ) (grant : Counts)
      → open_refusal granted t name grant ≡ None
      ↔ IsSomeAnd (find_provider t name) (λ p. IsAllowed (with_grant granted t.next_consumer grant) (with_opener t p) p)
  open_allowed name grant = open_at grant (find_provider t name)

-- an error below is the same with the opener and without
pub errors_came : {C : Type 0} (t : Topology C) (geom p : ℕ) → providers_of t geom ≡ []
    → (q : ℕ) → has_error_below (add_consumer t geom (Some p)) q ≡ has_error_below t q
errors_came t geom p bare q = ap (list_any (is_errored t)) (below_came t geom (Some p) bare q)

-- grants that agree with those of an open
agreed_at : (granted after : ℕ → Counts) (c : ℕ) → AgreeExcept c granted after → (n : ℕ)
    → after n ≡ with_grant granted c (after c) n
agreed_at granted after c agree n =
    elim (cases_eq n c) [
      | inl same ↦ rw (eq-eqb n c same) (ap after same)
      | inr other ↦ rw (ne_eqb n c other) (agree n other)
    ]

-- grants that agree allow the same
allowed_by : {C : Type 0} (granted after : ℕ → Counts) (t : Topology C) → ((n : ℕ) → after n ≡ granted n) → (p : ℕ)
    → IsAllowed granted t p → IsAllowed after t p
allowed_by granted after t agree p facts =
    let stay : DemandStays granted t after t (Contains t.consumers) = grants_agree granted after t (λ k d h. agree _) in
    record { errors = facts.errors; exclusive = stay.exclusive facts.exclusive; limit = stay.limit facts.limit }

-- an open that is not refused leaves what is allowed, by any grants that agree
pub opened_allowed : {C : Type 0} (granted : ℕ → Counts) (t : Topology C) (after : ℕ → Counts) (name : List ℕ)
    → AgreeExcept t.next_consumer granted after → open_refusal granted t name (after t.next_consumer) ≡ None
    → IsSomeAnd (find_provider t name) (λ p. IsAllowed after (with_opener t p) p)
opened_allowed granted t after name agree e =
    let by : ℕ → Counts = with_grant granted t.next_consumer (after t.next_consumer) in
    some_weaker (λ p. IsAllowed by (with_opener t p) p) (λ p. IsAllowed after (with_opener t p) p)
    (λ p. allowed_by by after (with_opener t p) (agreed_at granted after t.next_consumer agree) p)
    (find_provider t name) ((open_allowed granted t name (after t.next_consumer)).0 e)

-- what `demands_are_allowed` says
pub ruleset demands_are_allowed = (allowed, open_allowed, opened_allowed)
