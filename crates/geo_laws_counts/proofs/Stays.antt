-- What changes nothing: parts that are bare and consumers that want nothing, by the counts and by all demand.
use Rattle.std.specs.Prelude.{◌≡◌, ◌≢◌, ℕ, zero, suc, ◌<◌, ◌≤◌, ◌==◌, Bool, true, false, not, cond, List, [], ◌∷◌, ◌++◌, map, filter, find, Option, Some, None, All, length, is_some, IsSomeAnd, if◌then◌else◌, ◌⊎◌, Contains}
use Rattle.std.specs.List.{AllByRecursion}
use Rattle.std.proofs.Common.{refl, sym, ◌∙◌, ap, arith, length-append, subst, inl, inr}
use Rattle.std.proofs.lemmas.Bool.{eqb-true, ne_eqb, not-false}
use Rattle.std.proofs.lemmas.List.{append-nil}
use Rattle.std.proofs.lemmas.List.Elements.{recursion_from_All, filter-append, All-contains, All-weaker, filter_passes, Contains-push_cases}
use Rattle.geo_model.specs.Kind.{Kind}
use Rattle.geo_model.specs.Counts.{Counts}
use Rattle.geo_model.specs.Words.{names_number, change_where, is_granted_kind}
use Rattle.geo_model.specs.Topology.{Topology, Geom, Provider, Consumer, geom_at, providers_of, attached_to, add_geom, add_provider, remove_geom, remove_provider, add_consumer, remove_consumer}
use Rattle.geo_model.specs.Rank.{Ranked}
use Rattle.geo_model.specs.Demand.{no_counts, add_counts, sum_counts, want_given, have_within, have, want}
use Rattle.geo_model.proofs.DemandLemmas.{kept_by, all_weaker}
pub use Rattle.geo_model.proofs.FilterLists.{length-kept}
use Rattle.geo_model.proofs.FindLists.{find-pushed}
use Rattle.geo_model.proofs.MemberLists.{nothing_in, Contains-filter, map-Contains}
use Rattle.geo_model.proofs.Tests.{passes_apart}
use Rattle.geo_laws_counts.specs.CountWords.{NumbersLead, keep_consumers, move_consumer, HoldsGrants, IsAtMost, DemandStays, AnyConsumer, AgreeExcept}
use Rattle.geo_laws_counts.proofs.Sums.{sum-same, zero-add, want_of_sum, want-sum, of_each, want_over, want_given-same, want_given-granted, enough_levels, at_most-under, granted_want, grants-same, want_given-at_most, levels-at_most, at_most-same}
use Rattle.geo_laws_counts.proofs.LimitFacts.{of_filter, exclusive_keeps, limit_keeps}

-- where each level's sums over what is attached are the same, so are all counts
pub levels_same : {C D : Type 0} (granted other : ℕ → Counts) (t : Topology C) (u : Topology D) (limit : ℕ)
    → ((k : ℕ) → k < limit → (p : ℕ)
    → sum_counts (map (want_given other (have_within granted k t) u) (attached_to u p))
    ≡ sum_counts (map (want_given granted (have_within granted k t) t) (attached_to t p)))
    → (k : ℕ) → k ≤ limit → (p : ℕ) → have_within other k u p ≡ have_within granted k t p
levels_same granted other t u limit same zero h p = refl
levels_same granted other t u limit same (suc k) h p =
    sum-same (want_given other (have_within other k u) u) (want_given other (have_within granted k t) u)
    (attached_to u p)
    (of_each (λ c. want_given other (have_within other k u) u c ≡ want_given other (have_within granted k t) u c)
    (λ c.
    want_given-same other (have_within other k u) (have_within granted k t) u c
    (of_each (λ (y : Provider). have_within other k u y.number ≡ have_within granted k t y.number)
    (λ y. levels_same granted other t u limit same k (omega arith) y.number) (providers_of u c.geom)))
    (attached_to u p))
    ∙ same k (omega arith) p

-- Look-ups

-- an item that doesn't pass is not found, with it or without
find-kept : {X : Type 0} (test keep : X → Bool) → ((x : X) → keep x ≡ false → test x ≡ false) → (xs : List X)
    → find test (filter keep xs) ≡ find test xs
find-kept test keep so [] = refl
find-kept {X = X} test keep so (x ∷ xs) = kept (keep x) refl (find-kept test keep so xs)
  where
    kept : (b : Bool) → keep x ≡ b → find test (filter keep xs) ≡ find test xs
        → find test (cond b (x ∷ filter keep xs) (filter keep xs)) ≡ cond (test x) (Some x) (find test xs)
    kept true e rest = ap (cond (test x) (Some x)) rest
    kept false e rest = rw (so x e) rest

-- Grants that agree at all consumers

module _ {C : Type 0} (granted other : ℕ
    → Counts) (t : Topology C) (agree : All (λ c. granted c.number ≡ other c.number) t.consumers) where
  -- they give the same counts
  granted_same : (p : ℕ) → have other t p ≡ have granted t p
  granted_same p =
      levels_same granted other t t (length t.geoms)
      (λ k h q.
      sum-same (want_given other (have_within granted k t) t) (want_given granted (have_within granted k t) t)
      (attached_to t q)
      (kept_by (λ (c : Consumer). granted c.number ≡ other c.number)
      (λ (c : Consumer). want_given other (have_within granted k t) t c
      ≡ want_given granted (have_within granted k t) t c)
      (λ (c : Consumer). names_number c.provider q)
      (λ c e same. want_given-granted other granted (have_within granted k t) t c (sym same))
      t.consumers
      (recursion_from_All _ t.consumers agree)))
      (length t.geoms) (omega arith) p

-- Providers

-- what is wanted, where the sums over each geom's providers are the same
want_over-sums : {C : Type 0} (H : ℕ → Counts) (x : Counts) (t u : Topology C)
    → ((n : ℕ) → sum_counts (map (λ y. H y.number) (providers_of u n))
    ≡ sum_counts (map (λ y. H y.number) (providers_of t n)))
    → (o : Option (Geom C))
    → want_over H x u o ≡ want_over H x t o
want_over-sums H x t u same None = refl
want_over-sums H x t u same (Some g) =
    want-sum g.kind (map (λ p. H p.number) (providers_of u g.number)) x
    ∙ ap (λ s. want_of_sum g.kind s x) (same g.number)
    ∙ sym (want-sum g.kind (map (λ p. H p.number) (providers_of t g.number)) x)

-- nothing is had where nothing is attached
pub none_within : {C : Type 0} (granted : ℕ → Counts) (t : Topology C) (p : ℕ) → attached_to t p ≡ []
    → (k : ℕ) → have_within granted k t p ≡ no_counts
none_within granted t p none zero = refl
none_within granted t p none (suc k) = rw none refl

-- a sum with an item that adds nothing
sum-end_zero : {X : Type 0} (f : X → Counts) (xs : List X) (x : X) → f x ≡ no_counts
    → sum_counts (map f (xs ++ x ∷ [])) ≡ sum_counts (map f xs)
sum-end_zero f [] x none = ap (λ a. add_counts a no_counts) none
sum-end_zero f (y ∷ ys) x none = ap (add_counts (f y)) (sum-end_zero f ys x none)

-- the same, where only what passes a test counts
sum-end : {X : Type 0} (f : X → Counts) (test : X → Bool) (xs : List X) (x : X) → (test x ≡ true → f x ≡ no_counts)
    → sum_counts (map f (filter test (xs ++ x ∷ []))) ≡ sum_counts (map f (filter test xs))
sum-end {X = X} f test xs x none = rw (filter-append test xs (x ∷ [])) (end (test x) none)
  where
    end : (b : Bool) → (b ≡ true → f x ≡ no_counts)
        → sum_counts (map f (filter test xs ++ cond b (x ∷ []) [])) ≡ sum_counts (map f (filter test xs))
    end true so = sum-end_zero f (filter test xs) x (so refl)
    end false so = rw (append-nil (filter test xs)) refl

-- a sum without items that add nothing
sum-left_out : {X : Type 0} (f : X → Counts) (test keep : X → Bool) (xs : List X)
    → AllByRecursion (λ x. keep x ≡ false → f x ≡ no_counts) xs
    → sum_counts (map f (filter test (filter keep xs))) ≡ sum_counts (map f (filter test xs))
sum-left_out f test keep [] none = refl
sum-left_out {X = X} f test keep (x ∷ xs) none =
    out (keep x) (test x) refl refl none.0 (sum-left_out f test keep xs none.1)
  where
    out : (a b : Bool) → keep x ≡ a → test x ≡ b → (keep x ≡ false → f x ≡ no_counts)
        → sum_counts (map f (filter test (filter keep xs))) ≡ sum_counts (map f (filter test xs))
        → sum_counts (map f (filter test (cond a (x ∷ filter keep xs) (filter keep xs))))
        ≡ sum_counts (map f (cond b (x ∷ filter test xs) (filter test xs)))
    out true true ea eb so rest = rw eb (ap (add_counts (f x)) rest)
    out true false ea eb so rest = rw eb rest
    out false true ea eb so rest =
        rest ∙ sym (ap (λ a. add_counts a (sum_counts (map f (filter test xs)))) (so ea)
        ∙ zero-add (sum_counts (map f (filter test xs))))
    out false false ea eb so rest = rest

-- Consumers that want nothing may come, go and be attached without any count changing.

-- what names a provider names something
attached_somewhere : (o : Option ℕ) (q : ℕ) → names_number o q ≡ true → is_some o ≡ true
attached_somewhere None q e = cc
attached_somewhere (Some m) q e = refl

-- a sum over items that change, where what changes adds nothing before and after
sum-changed : {X : Type 0} (f : X → Counts) (test chosen : X → Bool) (change : X → X)
    → ((x : X) → f (change x) ≡ f x) → (xs : List X)
    → AllByRecursion (λ x. chosen x ≡ true → f x ≡ no_counts) xs
    → sum_counts (map f (filter test (change_where chosen change xs))) ≡ sum_counts (map f (filter test xs))
sum-changed f test chosen change same [] quiet = refl
sum-changed {X = X} f test chosen change same (x ∷ xs) quiet =
    step (chosen x) refl (sum-changed f test chosen change same xs quiet.1)
  where
    nothing : (y : X) (b : Bool) → f y ≡ no_counts
        → sum_counts
        (map f (cond b (y ∷ filter test (change_where chosen change xs))
        (filter test (change_where chosen change xs))))
        ≡ sum_counts (map f (filter test (change_where chosen change xs)))
    nothing y true none =
        ap (λ a. add_counts a (sum_counts (map f (filter test (change_where chosen change xs))))) none ∙ zero-add _
    nothing y false none = refl

    same_nothing : (y : X) (b : Bool) → f y ≡ no_counts
        → sum_counts (map f (cond b (y ∷ filter test xs) (filter test xs))) ≡ sum_counts (map f (filter test xs))
    same_nothing y true none = ap (λ a. add_counts a (sum_counts (map f (filter test xs)))) none ∙ zero-add _
    same_nothing y false none = refl

    plain : (b : Bool)
        → sum_counts (map f (filter test (change_where chosen change xs))) ≡ sum_counts (map f (filter test xs))
        → sum_counts
        (map f (cond b (x ∷ filter test (change_where chosen change xs))
        (filter test (change_where chosen change xs))))
        ≡ sum_counts (map f (cond b (x ∷ filter test xs) (filter test xs)))
    plain true more = ap (add_counts (f x)) more
    plain false more = more

    step : (b : Bool) → chosen x ≡ b
        → sum_counts (map f (filter test (change_where chosen change xs))) ≡ sum_counts (map f (filter test xs))
        → sum_counts (map f (filter test ((if b then change x else x) ∷ change_where chosen change xs)))
        ≡ sum_counts (map f (cond (test x) (x ∷ filter test xs) (filter test xs)))
    step true e more =
        nothing (change x) (test (change x)) (same x ∙ quiet.0 e) ∙ more ∙ sym (same_nothing x (test x) (quiet.0 e))
    step false e more = plain (test x) more

module _ {C : Type 0} (granted : ℕ → Counts) (t : Topology C) where
  -- what wants nothing wants nothing at any level
  quiet_within : (k : ℕ) → k < length t.geoms → (c : Consumer) → want granted t c ≡ no_counts
      → want_given granted (have_within granted k t) t c ≡ no_counts
  quiet_within k h c none =
      at_most-under (want_given granted (have_within granted k t) t c) (want granted t c)
      (want_given-at_most granted granted (grants-same granted) (have_within granted k t) (have granted t)
      (λ p. levels-at_most granted granted (grants-same granted) t k (length t.geoms) (omega arith) p) t c)
      none

-- a consumer of a found geom of DEV or TASTE wants its grant
pub grant_over : {C : Type 0} (H : ℕ → Counts) (x : Counts) (t : Topology C) (o : Option (Geom C))
    → IsSomeAnd o (λ g. is_granted_kind g.kind ≡ true)
    → want_over H x t o ≡ x
grant_over H x t None kind = absurd kind
grant_over H x t (Some g) kind = granted_want g.kind (map (λ p. H p.number) (providers_of t g.number)) x kind

-- a consumer of DEV or TASTE without a grant wants nothing
pub granted_wants_nothing : {C : Type 0} (granted : ℕ → Counts) (t : Topology C) (c : Consumer)
    → granted c.number ≡ no_counts
    → HoldsGrants t c.geom → want granted t c ≡ no_counts
granted_wants_nothing granted t c none kind =
    grant_over (have granted t) (granted c.number) t (geom_at t c.geom) kind ∙ none

-- Changes of one thing that leave all of demand as it is.

module _ {C : Type 0} (granted : ℕ → Counts) (t : Topology C) (other : ℕ → Counts) (u : Topology C) where
  -- a consumer that was attached at the same provider, and wanted the same
  pub record WasAttached (n : ℕ) (a : Consumer) : Type 0 where
    pub before : Consumer
    pub attached : Contains (attached_to t n) before
    pub same : before.number ≡ a.number
    pub wanted : want other u a ≡ want granted t before

  -- counts and wants that stay keep exclusiveness and the limit
  pub stays_from : (Of : Consumer → Type 0) → ((p : ℕ) → have other u p ≡ have granted t p)
      → ((c : Consumer) → Of c → want other u c ≡ want granted t c)
      → ((x : Provider) → Contains u.providers x → Contains t.providers x ⊎ (attached_to u x.number ≡ []))
      → ((n : ℕ) (a : Consumer) → Contains (attached_to u n) a → (want other u a ≡ no_counts) ⊎ WasAttached n a)
      → DemandStays granted t other u Of
  stays_from Of haves wants providers attached = record {
    haves = haves;
    wants = wants;
    exclusive = λ e.
        exclusive_keeps granted t other u
        (λ x there a at.
        elim (providers x there) [
          | inl stood ↦
              elim (attached x.number a at) [
                | inl none ↦ inl none
                | inr was ↦
                    inr (record {
                      provider = x;
                      stands = stood;
                      leads = refl;
                      elder = was.before;
                      attached = was.attached;
                      same = was.same;
                      at_most = subst (λ b. IsAtMost (want other u a) b) was.wanted (at_most-same (want other u a));
                    })
              ]
          | inr none ↦ absurd (nothing_in a (subst (λ cs. Contains cs a) none at))
        ])
        e;
    limit = λ e.
        limit_keeps granted t other u
        (λ x there.
        elim (providers x there) [
          | inl stood ↦
              inr (record {
                provider = x;
                stands = stood;
                at_most = subst (λ b. IsAtMost (have other u x.number) b) (haves x.number)
                    (at_most-same (have other u x.number));
              })
          | inr none ↦ inl (none_within other u x.number none (length u.geoms))
        ])
        e;
  }

  -- one that was attached, and wants the same
  stayed : (n : ℕ) (a : Consumer) → Contains (attached_to t n) a → want other u a ≡ want granted t a
      → (want other u a ≡ no_counts) ⊎ WasAttached n a
  stayed n a at same = inr (record { before = a; attached = at; same = refl; wanted = same })

  -- a want that is the same for the same counts
  pub want_from : ((p : ℕ) → have other u p ≡ have granted t p) → (c : Consumer)
      → want_given other (have granted t) u c ≡ want_given granted (have granted t) t c
      → want other u c ≡ want granted t c
  want_from haves c same =
      want_given-same other (have other u) (have granted t) u c
      (of_each (λ (y : Provider). have other u y.number ≡ have granted t y.number) (λ y. haves y.number)
      (providers_of u c.geom))
      ∙ same

-- Other geoms, where each consumer's geom is found as before

module _ {C : Type 0} (granted : ℕ → Counts) (t : Topology C) (gs : List (Geom C)) (next g : ℕ)
    (found : (c : Consumer) → c.geom ≢ g → find (λ x. x.number == c.geom) gs ≡ geom_at t c.geom)
    (bare : All (λ c. c.geom ≢ g) t.consumers) where
  -- the graph with them
  abbrev geoms_changed : Topology C
  geoms_changed = record t { geoms = gs; next_geom = next }

  -- each level has the same counts
  geoms_levels : (k p : ℕ) → have_within granted k geoms_changed p ≡ have_within granted k t p
  geoms_levels k p =
      levels_same granted granted t geoms_changed k
      (λ l h q.
      sum-same (want_given granted (have_within granted l t) geoms_changed)
      (want_given granted (have_within granted l t) t) (attached_to t q)
      (kept_by (λ (c : Consumer). c.geom ≢ g)
      (λ (c : Consumer). want_given granted (have_within granted l t) geoms_changed c
      ≡ want_given granted (have_within granted l t) t c)
      (λ (c : Consumer). names_number c.provider q)
      (λ c e apart. ap (want_over (have_within granted l t) (granted c.number) t) (found c apart)) t.consumers
      (recursion_from_All _ t.consumers bare)))
      k (omega arith) p

  -- where all counts are the same, all demand is
  geoms_stay : ((p : ℕ) → have granted geoms_changed p ≡ have granted t p)
      → DemandStays granted t granted geoms_changed (Contains t.consumers)
  geoms_stay haves =
      let wants : (c : Consumer) → Contains t.consumers c → want granted geoms_changed c ≡ want granted t c =
      λ c there.
      want_from granted t granted geoms_changed haves c
      (ap (want_over (have granted t) (granted c.number) t)
      (found c (All-contains (λ (x : Consumer). x.geom ≢ g) t.consumers c bare there))) in
      stays_from granted t granted geoms_changed (Contains t.consumers) haves wants
      (λ x there. inl there)
      (λ n a at. stayed granted t granted geoms_changed n a at
      (wants a (of_filter (λ x. names_number x.provider n) t.consumers a at).0))

-- Other providers, where the sums over each geom's providers are the same

module _ {C : Type 0} (granted : ℕ → Counts) (t : Topology C) (ps : List Provider) (next : ℕ)
    (sums : (k n : ℕ) → sum_counts (map (λ y. have_within granted k t y.number) (filter (λ y. y.geom == n) ps))
    ≡ sum_counts (map (λ y. have_within granted k t y.number) (providers_of t n))) where
  -- the graph with them
  abbrev providers_changed : Topology C
  providers_changed = record t { providers = ps; next_provider = next }

  -- demand is the same
  providers_stay : ((x : Provider) → Contains ps x → Contains t.providers x ⊎ (attached_to t x.number ≡ []))
      → DemandStays granted t granted providers_changed AnyConsumer
  providers_stay =
      let haves : (p : ℕ) → have granted providers_changed p ≡ have granted t p =
      levels_same granted granted t providers_changed (length t.geoms)
      (λ k h q.
      sum-same (want_given granted (have_within granted k t) providers_changed)
      (want_given granted (have_within granted k t) t) (attached_to t q)
      (of_each (λ c. want_given granted (have_within granted k t) providers_changed c
      ≡ want_given granted (have_within granted k t) t c)
      (λ c. want_over-sums (have_within granted k t) (granted c.number) t providers_changed (sums k)
      (geom_at t c.geom))
      (attached_to t q)))
      (length t.geoms) (omega arith) in
      let wants : (c : Consumer) → want granted providers_changed c ≡ want granted t c =
      λ c.
      want_from granted t granted providers_changed haves c
      (want_over-sums (have granted t) (granted c.number) t providers_changed (sums (length t.geoms))
      (geom_at t c.geom)) in
      λ old.
      stays_from granted t granted providers_changed AnyConsumer haves (λ c any. wants c) old
      (λ n a at. stayed granted t granted providers_changed n a at (wants a))

-- Other consumers, where the sums over those that are attached are the same

module _ {C : Type 0} (granted : ℕ → Counts) (t : Topology C) (cs : List Consumer) (next : ℕ)
    (sums : (k : ℕ) → k < length t.geoms → (q : ℕ)
    → sum_counts (map (want_given granted (have_within granted k t) t) (filter (λ c. names_number c.provider q) cs))
    ≡ sum_counts (map (want_given granted (have_within granted k t) t) (attached_to t q))) where
  -- the graph with them
  abbrev consumers_changed : Topology C
  consumers_changed = record t { consumers = cs; next_consumer = next }

  -- demand is the same
  consumers_stay : ((n : ℕ) (a : Consumer) → Contains (attached_to consumers_changed n) a
      → (want granted t a ≡ no_counts) ⊎ Contains (attached_to t n) a)
      → DemandStays granted t granted consumers_changed AnyConsumer
  consumers_stay old =
      let haves : (p : ℕ) → have granted consumers_changed p ≡ have granted t p =
      levels_same granted granted t consumers_changed (length t.geoms) sums (length t.geoms) (omega arith) in
      let wants : (c : Consumer) → want granted consumers_changed c ≡ want granted t c =
      λ c. want_from granted t granted consumers_changed haves c refl in
      stays_from granted t granted consumers_changed AnyConsumer haves (λ c any. wants c)
      (λ x there. inl there)
      (λ n a at.
      elim (old n a at) [
        | inl none ↦ inl (wants a ∙ none)
        | inr was ↦ stayed granted t granted consumers_changed n a was (wants a)
      ])

module _ {C : Type 0} (granted : ℕ → Counts) (t : Topology C) where
  -- a new geom without parts
  pub geom_came : (kind : Kind) (name : List ℕ) (config : C) (automatic : Bool) → Ranked t → NumbersLead t
      → All (λ c. c.geom ≢ t.next_geom) t.consumers
      → DemandStays granted t granted (add_geom t kind name config automatic) (Contains t.consumers)
  geom_came kind name config automatic ranked known bare =
      let u : Topology C = add_geom t kind name config automatic in
      let found : (c : Consumer) → c.geom ≢ t.next_geom → geom_at u c.geom ≡ geom_at t c.geom =
      λ c other. find-pushed (λ x. x.number == c.geom) t.geoms _ (ne_eqb t.next_geom c.geom (λ e. other (sym e))) in
      geoms_stay granted t u.geoms u.next_geom t.next_geom found bare
      (λ p.
      geoms_levels granted t u.geoms u.next_geom t.next_geom found bare (length u.geoms) p
      ∙ enough_levels t ranked known granted (length u.geoms) (omega (arith, length-append {A = Geom C})) p)

  -- a removed geom without parts
  pub geom_went : (g : ℕ) → Ranked (remove_geom t g) → NumbersLead t → All (λ c. c.geom ≢ g) t.consumers
      → DemandStays granted t granted (remove_geom t g) (Contains t.consumers)
  geom_went g ranked known bare =
      let u : Topology C = remove_geom t g in
      let found : (c : Consumer) → c.geom ≢ g → geom_at u c.geom ≡ geom_at t c.geom =
      λ c other.
      find-kept (λ x. x.number == c.geom) (λ x. not (x.number == g))
      (λ x gone. ne_eqb x.number c.geom (λ e. other (sym e ∙ eqb-true x.number g (not-false (x.number == g) gone))))
      t.geoms in
      geoms_stay granted t u.geoms t.next_geom g found bare
      (λ p.
      sym (enough_levels u ranked known granted (length t.geoms) (length-kept (λ x. not (x.number == g)) t.geoms) p)
      ∙ geoms_levels granted t u.geoms t.next_geom g found bare (length t.geoms) p)

  -- a new provider, to which nothing is attached
  pub provider_came : (geom : ℕ) (name : List ℕ) (size sector : ℕ) → attached_to t t.next_provider ≡ []
      → DemandStays granted t granted (add_provider t geom name size sector) AnyConsumer
  provider_came geom name size sector none =
      let u : Topology C = add_provider t geom name size sector in
      providers_stay granted t u.providers u.next_provider
      (λ k n.
      sum-end (λ y. have_within granted k t y.number) (λ y. y.geom == n) t.providers _
      (λ passes. none_within granted t t.next_provider none k))
      (λ x there.
      elim (Contains-push_cases t.providers _ x there) [
        | inl stood ↦ inl stood
        | inr new ↦ inr (ap (λ (y : Provider). attached_to t y.number) (sym new) ∙ none)
      ])

  -- a removed provider, to which nothing is attached
  pub provider_went : (g : ℕ) → attached_to t g ≡ [] → DemandStays granted t granted (remove_provider t g) AnyConsumer
  provider_went g none =
      providers_stay granted t (remove_provider t g).providers t.next_provider
      (λ k n.
      sum-left_out (λ y. have_within granted k t y.number) (λ y. y.geom == n) (λ y. not (y.number == g)) t.providers
      (of_each (λ (y : Provider). not (y.number == g) ≡ false → have_within granted k t y.number ≡ no_counts)
      (λ y gone. rw (eqb-true y.number g (not-false (y.number == g) gone)) (none_within granted t g none k))
      t.providers))
      (λ x there. inl (of_filter (λ y. not (y.number == g)) t.providers x there).0)

  -- a new consumer that isn't attached, or wants nothing
  pub consumer_came : (geom : ℕ) (to : Option ℕ)
      → (is_some to ≡ true
      → want granted t (record { number = t.next_consumer; geom = geom; provider = to; spoiled = false })
      ≡ no_counts)
      → DemandStays granted t granted (add_consumer t geom to) AnyConsumer
  consumer_came geom to quiet =
      let u : Topology C = add_consumer t geom to in
      let new : Consumer = record { number = t.next_consumer; geom = geom; provider = to; spoiled = false } in
      consumers_stay granted t u.consumers u.next_consumer
      (λ k h q.
      sum-end (want_given granted (have_within granted k t) t) (λ c. names_number c.provider q) t.consumers new
      (λ attached. quiet_within granted t k h new (quiet (attached_somewhere to q attached))))
      (λ n a at.
      let inside = of_filter (λ x. names_number x.provider n) u.consumers a at in
      elim (Contains-push_cases t.consumers new a inside.0) [
        | inl stood ↦ inr (Contains-filter (λ x. names_number x.provider n) t.consumers a stood inside.1)
        | inr is ↦
            inl
            (ap (want granted t) (sym is)
            ∙ quiet (attached_somewhere to n (ap (λ (x : Consumer). names_number x.provider n) is ∙ inside.1)))
      ])

  -- consumers that want nothing go
  pub consumers_went : (keep : Consumer → Bool) → All (λ c. keep c ≡ false → want granted t c ≡ no_counts) t.consumers
      → DemandStays granted t granted (keep_consumers t keep) AnyConsumer
  consumers_went keep quiet =
      consumers_stay granted t (filter keep t.consumers) t.next_consumer
      (λ k h q.
      sum-left_out (want_given granted (have_within granted k t) t) (λ c. names_number c.provider q) keep t.consumers
      (all_weaker (λ (c : Consumer). keep c ≡ false → want granted t c ≡ no_counts)
      (λ (c : Consumer). keep c ≡ false → want_given granted (have_within granted k t) t c ≡ no_counts)
      (λ c so gone. quiet_within granted t k h c (so gone))
      t.consumers
      (recursion_from_All _ t.consumers quiet)))
      (λ n a at.
      let inside = of_filter (λ x. names_number x.provider n) (filter keep t.consumers) a at in
      inr (Contains-filter (λ x. names_number x.provider n) t.consumers a
      (of_filter keep t.consumers a inside.0).0 inside.1))

  -- a consumer that wants nothing is attached elsewhere, or nowhere
  pub consumer_attached : (c : ℕ) (to : Option ℕ) → All (λ x. x.number ≡ c → want granted t x ≡ no_counts) t.consumers
      → DemandStays granted t granted (move_consumer t c to) AnyConsumer
  consumer_attached c to quiet =
      consumers_stay granted t (move_consumer t c to).consumers t.next_consumer
      (λ k h q.
      sum-changed (want_given granted (have_within granted k t) t) (λ x. names_number x.provider q) (λ x. x.number == c)
      (λ x. record x { provider = to }) (λ x. refl) t.consumers
      (all_weaker (λ (x : Consumer). x.number ≡ c → want granted t x ≡ no_counts)
      (λ (x : Consumer). (x.number == c) ≡ true → want_given granted (have_within granted k t) t x ≡ no_counts)
      (λ x so chosen. quiet_within granted t k h x (so (eqb-true x.number c chosen)))
      t.consumers
      (recursion_from_All _ t.consumers quiet)))
      (λ n a at.
      let inside = of_filter (λ x. names_number x.provider n) (move_consumer t c to).consumers a at in
      let from = map-Contains (λ (x : Consumer). if x.number == c then record x { provider = to } else x) t.consumers
      a inside.0 in
      was n a from.item (from.item.number == c) refl from.stands from.fact inside.1)
    where
      was : (n : ℕ) (a x : Consumer) (b : Bool) → (x.number == c) ≡ b → Contains t.consumers x
          → (if x.number == c then record x { provider = to } else x) ≡ a → names_number a.provider n ≡ true
          → (want granted t a ≡ no_counts) ⊎ Contains (attached_to t n) a
      was n a x true e there made passes =
          let changed : record x { provider = to } ≡ a = rw e at made in
          inl (ap (want granted t) (sym changed)
          ∙ All-contains (λ (y : Consumer). y.number ≡ c → want granted t y ≡ no_counts) t.consumers x quiet
          there (eqb-true x.number c e))
      was n a x false e there made passes =
          let kept : x ≡ a = rw e at made in
          inr (Contains-filter (λ y. names_number y.provider n) t.consumers a
          (subst (Contains t.consumers) kept there) passes)

module _ {C : Type 0} (granted other : ℕ → Counts) (t : Topology C) where
  -- grants that agree at each consumer
  pub grants_agree : All (λ c. other c.number ≡ granted c.number) t.consumers
      → DemandStays granted t other t (Contains t.consumers)
  grants_agree agree =
      let haves : (p : ℕ) → have other t p ≡ have granted t p =
      granted_same granted other t (λ k d h. sym (agree k d h)) in
      let wants : (c : Consumer) → Contains t.consumers c → want other t c ≡ want granted t c =
      λ c there.
      want_from granted t other t haves c
      (want_given-granted other granted (have granted t) t c
      (All-contains (λ (x : Consumer). other x.number ≡ granted x.number) t.consumers c agree there)) in
      stays_from granted t other t (Contains t.consumers) haves wants
      (λ x there. inl there)
      (λ n a at. stayed granted t other t n a at
      (wants a (of_filter (λ x. names_number x.provider n) t.consumers a at).0))

  -- a new consumer of DEV or TASTE without a grant
  pub opener_came : (geom p : ℕ) → All (λ c. c.number ≢ t.next_consumer) t.consumers → HoldsGrants t geom
      → AgreeExcept t.next_consumer granted other → other t.next_consumer ≡ no_counts
      → DemandStays granted t other (add_consumer t geom (Some p)) (Contains t.consumers)
  opener_came geom p free kind agree none =
      let first : DemandStays granted t other t (Contains t.consumers) =
      grants_agree (λ k d h. agree _ (free k d h)) in
      let second : DemandStays other t other (add_consumer t geom (Some p)) AnyConsumer =
      consumer_came other t geom (Some p)
      (λ attached.
      granted_wants_nothing other t (record {
        number = t.next_consumer;
        geom = geom;
        provider = Some p;
        spoiled = false;
      }) none kind) in
      record {
        haves = λ q. second.haves q ∙ first.haves q;
        wants = λ c there. second.wants c tt ∙ first.wants c there;
        exclusive = λ e. second.exclusive (first.exclusive e);
        limit = λ e. second.limit (first.limit e);
      }

module _ {C : Type 0} (granted other : ℕ → Counts) (t : Topology C) where
  -- a removed consumer of DEV or TASTE that had no grant
  pub opener_went : (c : ℕ) → All (λ x. x.number ≡ c → HoldsGrants t x.geom) t.consumers
      → AgreeExcept c granted other → granted c ≡ no_counts
      → DemandStays granted t other (remove_consumer t c) (Contains (remove_consumer t c).consumers)
  opener_went c kind agree none =
      let first : DemandStays granted t granted (remove_consumer t c) AnyConsumer =
      consumers_went granted t (λ x. not (x.number == c))
      (All-weaker (λ (x : Consumer). x.number ≡ c → HoldsGrants t x.geom)
      (λ (x : Consumer). not (x.number == c) ≡ false → want granted t x ≡ no_counts)
      (λ x so gone.
      let same : x.number ≡ c = eqb-true x.number c (not-false (x.number == c) gone) in
      granted_wants_nothing granted t x (ap granted same ∙ none) (so same))
      t.consumers kind) in
      let second : DemandStays granted (remove_consumer t c) other (remove_consumer t c)
      (Contains (remove_consumer t c).consumers) =
      grants_agree granted other (remove_consumer t c)
      (All-weaker (λ (x : Consumer). (not (x.number == c)) ≡ true) (λ (x : Consumer). other x.number ≡ granted x.number)
      (λ x stays. agree x.number (λ e. passes_apart x.number c stays e))
      (filter (λ x. not (x.number == c)) t.consumers)
      (filter_passes (λ x. not (x.number == c)) t.consumers)) in
      record {
        haves = λ q. second.haves q ∙ first.haves q;
        wants = λ x there. second.wants x there ∙ first.wants x tt;
        exclusive = λ e. second.exclusive (first.exclusive e);
        limit = λ e. second.limit (first.limit e);
      }

-- what `quiet_consumers_change_nothing` says
pub ruleset quiet_consumers_change_nothing = (consumer_came, consumer_attached, consumers_went)
