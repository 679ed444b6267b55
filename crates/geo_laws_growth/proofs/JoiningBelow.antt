-- What is reached downwards from the provider that a consumer joins, and that all else stays.
use Rattle.std.specs.Prelude.{◌≡◌, ◌≢◌, ℕ, zero, suc, ◌<◌, ◌==◌, true, List, [], ◌∷◌, ◌++◌, map, flat_map, Option, Some, None, Contains, IfSome, IsSomeAnd, length}
use Rattle.std.specs.List.{AllByRecursion, list_any}
use Rattle.std.specs.Option.{option_map_or}
use Rattle.std.proofs.Common.{refl, sym, ◌∙◌, ap, subst, arith, inl, inr}
use Rattle.std.proofs.lemmas.List.Elements.{All-contains, All-from_recursion, recursion_from_All}
use Rattle.geo_model.specs.Counts.{Counts}
use Rattle.geo_model.specs.Words.{names_number}
use Rattle.geo_model.specs.Topology.{Topology, Provider, Consumer, provider_at, providers_of, providers_under, attached_to, is_errored, attach}
use Rattle.geo_model.specs.Rank.{rank, Ranked}
use Rattle.geo_model.specs.Opens.{below, below_within}
use Rattle.geo_model.specs.Demand.{sum_counts, have, want}
use Rattle.geo_model.proofs.DemandLemmas.{all_weaker}
use Rattle.geo_model.proofs.MemberLists.{flat_map_cases}
use Rattle.geo_model.proofs.AllLists.{two_facts}
use Rattle.geo_laws_graph.proofs.Members.{find-Contains, Contains-cases, nothing_in}
use Rattle.geo_laws_graph.proofs.Found.{attached-found}
use Rattle.geo_laws_counts.specs.CountWords.{NumbersLead}
use Rattle.geo_laws_counts.proofs.Sums.{sum-same}
use Rattle.geo_laws_counts.proofs.Members.{kept_members}
use Rattle.geo_laws_counts.proofs.LimitFacts.{of_filter}
use Rattle.geo_laws_counts.proofs.Levels.{of_each}
use Rattle.geo_laws_counts.proofs.Upward.{names_some, want_given-same, have_is_sum, upward, found_of, attached-above}
use Rattle.geo_laws_counts.specs.DemandLaws.{StaysAround}
use Rattle.geo_laws_counts.proofs.Reach.{below_self, below_closed, under-rank}
use Rattle.geo_laws_growth.specs.JoinLaws.{Joins, JoiningKeepsBelow, JoiningChangesBelow}
use Rattle.geo_laws_growth.proofs.Joining.{joined_known, attached_elsewhere}

-- functions that agree on each item give the same
flat_map_each : {X Y : Type 0} (f g : X → List Y) (xs : List X) → AllByRecursion (λ x. f x ≡ g x) xs → flat_map f xs
    ≡ flat_map g xs
flat_map_each f g [] same = refl
flat_map_each f g (x ∷ xs) same = ap (λ ys. ys ++ flat_map f xs) same.0
    ∙ ap (λ ys. g x ++ ys) (flat_map_each f g xs same.1)

module _ {C : Type 0} (v : Topology C) where
  -- the provider stands, and its geom's rank is less
  abbrev pub IsLower : ℕ → Option Provider → Type 0
  IsLower n o = IsSomeAnd o (λ x. rank v x.geom < n)

  -- a lower rank is lower than a higher one
  pub lower_still : (m n : ℕ) → m < n → (o : Option Provider) → IsLower m o → IsLower n o
  lower_still m n less None low = low
  lower_still m n less (Some x) low = omega (arith, less, low)

  module _ (ranked : Ranked v) where
    -- what is directly under a geom is lower
    under_lower : (g q : ℕ) → Contains (providers_under v g) q → IsLower (rank v g) (provider_at v q)
    under_lower g q there =
        All-contains (λ r. IsLower (rank v g) (provider_at v r)) (providers_under v g) q
        (All-from_recursion (λ r. IsLower (rank v g) (provider_at v r)) (providers_under v g) (under-rank v ranked g))
        there

    -- one level further down
    down_over : (k n r : ℕ) → ((q : ℕ) → IsLower n (provider_at v q) → Contains (below_within k v q) r
        → IsLower n (provider_at v r))
        → (o : Option Provider) → IsLower n o
        → Contains (option_map_or (λ x. flat_map (below_within k v) (providers_under v x.geom)) o []) r
        → IsLower n (provider_at v r)
    down_over k n r more None low reached = absurd low
    down_over k n r more (Some x) low reached =
        let way = flat_map_cases (below_within k v) (providers_under v x.geom) r reached in
        more way.0 (lower_still (rank v x.geom) n low (provider_at v way.0) (under_lower x.geom way.0 way.1)) way.2

    -- what is reached downwards from a lower provider is lower
    pub below_lower : (k n r q : ℕ) → IsLower n (provider_at v q) → Contains (below_within k v q) r
        → IsLower n (provider_at v r)
    below_lower zero n r q low reached =
        elim (Contains-cases q r [] reached) [
          | inl same ↦ subst (λ m. IsLower n (provider_at v m)) same low
          | inr none ↦ absurd (nothing_in r none)
        ]
    below_lower (suc k) n r q low reached =
        elim (Contains-cases q r (option_map_or (λ x. flat_map (below_within k v) (providers_under v x.geom))
        (provider_at v q) []) reached) [
          | inl same ↦ subst (λ m. IsLower n (provider_at v m)) same low
          | inr rest ↦ down_over k n r (λ m. below_lower k n r m) (provider_at v q) low rest
        ]

    -- so none of a higher geom's providers is reached
    pub never_reached : NumbersLead v → (p n : ℕ) → IsLower (rank v n) (provider_at v p)
        → AllByRecursion (λ y. Contains (below v p) y.number → ⊥) (providers_of v n)
    never_reached known p n low =
        all_weaker (λ (y : Provider). (provider_at v y.number ≡ Some y) × (y.geom ≡ n))
        (λ (y : Provider). Contains (below v p) y.number → ⊥)
        (λ y h reached. not_lower y h.0 h.1 (below_lower (length v.geoms) (rank v n) y.number p low reached))
        (providers_of v n) (found_of v ranked known n)
      where
        not_lower : (y : Provider) → provider_at v y.number ≡ Some y → y.geom ≡ n
            → IsLower (rank v n) (provider_at v y.number) → ⊥
        not_lower y found of is =
            let here : rank v y.geom < rank v n = subst (IsLower (rank v n)) found is in
            let there : rank v n < rank v n = subst (λ g. rank v g < rank v n) of here in
            omega (arith, there)

module _ {C : Type 0} (t : Topology C) (c p : ℕ) (j : Joins t c p) where
  -- the graph with the consumer attached
  abbrev u : Topology C
  u = attach t c p

  -- the provider isn't reached
  abbrev IsAway : ℕ → Type 0
  IsAway q = Contains (below t p) q → ⊥

  -- the provider's geom is lower than that of the consumer
  joined_lower : IsLower u (rank u j.consumer.geom) (provider_at t p)
  joined_lower =
      All-contains (λ (d : Consumer). IfSome d.provider
      (λ q. IsSomeAnd (provider_at u q) (λ x. rank u x.geom < rank u d.geom))) u.consumers
      (record j.consumer { provider = Some p }) j.after
      (find-Contains (λ (y : Consumer). y.number == c) u.consumers (record j.consumer { provider = Some p })
      (attached-found.here t c p j.consumer j.stands))

  -- the same under a lower provider
  same_over : (k : ℕ)
      → ((q : ℕ) → IsLower u (rank u j.consumer.geom) (provider_at t q)
      → below_within k u q ≡ below_within k t q)
      → (o : Option Provider) → IsLower u (rank u j.consumer.geom) o
      → option_map_or (λ x. flat_map (below_within k u) (providers_under u x.geom)) o []
      ≡ option_map_or (λ x. flat_map (below_within k t) (providers_under t x.geom)) o []
  same_over k more None low = refl
  same_over k more (Some x) low =
      let other : j.consumer.geom ≢ x.geom =
      λ e. let here : rank u x.geom < rank u x.geom =
      subst (λ g. rank u x.geom < rank u g) e low in omega (arith, here) in
      flat_map_each (below_within k u) (below_within k t) (providers_under u x.geom)
      (all_weaker (λ r. IsSomeAnd (provider_at u r) (λ y. rank u y.geom < rank u x.geom))
      (λ r. below_within k u r ≡ below_within k t r)
      (λ r under. more r (lower_still u (rank u x.geom) (rank u j.consumer.geom) low (provider_at t r) under))
      (providers_under u x.geom) (under-rank u j.after x.geom))
      ∙ ap (flat_map (below_within k t)) (attached-found.under t c p x.geom j.consumer j.order j.stands other)

  -- so at each level
  same_below : (k q : ℕ) → IsLower u (rank u j.consumer.geom) (provider_at t q)
      → below_within k u q ≡ below_within k t q
  same_below zero q low = refl
  same_below (suc k) q low = ap (λ ps. q ∷ ps) (same_over k (λ r. same_below k r) (provider_at t q) low)

  -- the same is reached downwards
  pub below_kept : below u p ≡ below t p
  below_kept = same_below (length t.geoms) p joined_lower

  -- no provider of the consumer's geom is reached
  pub own_away : AllByRecursion (λ y. IsAway y.number) (providers_of t j.consumer.geom)
  own_away =
      all_weaker (λ (y : Provider). Contains (below u p) y.number → ⊥) (λ (y : Provider). IsAway y.number)
      (λ y away reached. away (subst (λ ps. Contains ps y.number) (sym below_kept) reached))
      (providers_of t j.consumer.geom)
      (never_reached u j.after (joined_known t c p j) p j.consumer.geom joined_lower)

  -- nor of a geom whose consumer is attached to the provider
  attached_away : (d : Consumer) → IsSomeAnd (provider_at t p) (λ x. rank t x.geom < rank t d.geom)
      → AllByRecursion (λ y. IsAway y.number) (providers_of t d.geom)
  attached_away d low = never_reached t j.ranked (joined_known t c p j) p d.geom low

  module _ (granted : ℕ → Counts) where
    -- a consumer of what isn't reached wants what it wanted, where the counts above are the same
    want_same_above : (q : ℕ) (d : Consumer) → IsAway q → Contains t.consumers d → d.provider ≡ Some q
        → AllByRecursion (λ y. IsAway y.number → have granted u y.number ≡ have granted t y.number)
        (providers_of t d.geom)
        → want granted u d ≡ want granted t d
    want_same_above q d away there attached above =
        want_given-same granted (have granted u) (have granted t) t d
        (all_weaker
        (λ (y : Provider). ((provider_at t y.number ≡ Some y) × (y.geom ≡ d.geom))
        × (IsAway y.number → have granted u y.number ≡ have granted t y.number))
        (λ (y : Provider). have granted u y.number ≡ have granted t y.number)
        (λ y h. h.1 (λ reached. away (below_closed t j.ranked p y.number q d there attached (rw h.0.0 h.0.1) reached)))
        (providers_of t d.geom)
        (two_facts _ _ (providers_of t d.geom) (found_of t j.ranked (joined_known t c p j) d.geom) above))

    -- a provider that isn't reached is another one
    another : (q : ℕ) → IsAway q → p ≢ q
    another q away e = away (subst (Contains (below t p)) e (below_self (length t.geoms) t p))

    -- what isn't reached keeps its counts
    pub counts_kept : (q : ℕ) → IsAway q → have granted u q ≡ have granted t q
    counts_kept =
        upward t j.ranked (joined_known t c p j) (λ q. IsAway q → have granted u q ≡ have granted t q)
        (λ q above away.
        have_is_sum u j.after (joined_known t c p j) granted q
        ∙ ap (λ ds. sum_counts (map (want granted u) ds)) (attached_elsewhere t c p j q (another q away))
        ∙ sum-same (want granted u) (want granted t) (attached_to t q)
        (all_weaker
        (λ (d : Consumer). (Contains t.consumers d × (names_number d.provider q ≡ true))
        × AllByRecursion (λ y. IsAway y.number → have granted u y.number ≡ have granted t y.number)
        (providers_of t d.geom))
        (λ (d : Consumer). want granted u d ≡ want granted t d)
        (λ d h. want_same_above q d away h.0.0 (names_some d.provider q h.0.1) h.1)
        (attached_to t q)
        (two_facts _ _ (attached_to t q) (kept_members (λ x. names_number x.provider q) t.consumers) above))
        ∙ sym (have_is_sum t j.ranked (joined_known t c p j) granted q))

    -- so does what is wanted of geoms that offer nothing of what is reached
    pub wants_kept : (d : Consumer) → AllByRecursion (λ y. IsAway y.number) (providers_of t d.geom)
        → want granted u d ≡ want granted t d
    wants_kept d out =
        want_given-same granted (have granted u) (have granted t) t d
        (all_weaker (λ (y : Provider). IsAway y.number)
        (λ (y : Provider). have granted u y.number ≡ have granted t y.number)
        (λ y away. counts_kept y.number away) (providers_of t d.geom) out)

    -- and what the consumer itself wants
    pub own_want_kept : want granted u j.consumer ≡ want granted t j.consumer
    own_want_kept = wants_kept j.consumer own_away

    -- and what is wanted at the provider
    pub wants_at_it_kept : AllByRecursion (λ d. want granted u d ≡ want granted t d) (attached_to t p)
    wants_at_it_kept =
        all_weaker (λ (d : Consumer). IsSomeAnd (provider_at t p) (λ x. rank t x.geom < rank t d.geom))
        (λ (d : Consumer). want granted u d ≡ want granted t d)
        (λ d low. wants_kept d (attached_away d low)) (attached_to t p) (attached-above t j.ranked p)

    -- all else stays
    pub around_kept : StaysAround granted t granted u (below t p)
    around_kept = record {
      haves = counts_kept;
      attached = λ q away. attached_elsewhere t c p j q (another q away);
      wants = λ q away d there.
          let inside = of_filter (λ x. names_number x.provider q) t.consumers d there in
          want_same_above q d away inside.0 (names_some d.provider q inside.1)
          (of_each (λ (y : Provider). IsAway y.number → have granted u y.number ≡ have granted t y.number)
          (λ y. counts_kept y.number) (providers_of t d.geom));
    }

-- the same providers are reached downwards, and the same errors
pub joining_keeps_below : {C : Type 0} → JoiningKeepsBelow C
joining_keeps_below = record {
  providers = λ t c p j. below_kept t c p j;
  errors = λ t c p j. ap (list_any (is_errored t)) (below_kept t c p j);
}

-- only what is reached changes
pub joining_changes_below : {C : Type 0} → JoiningChangesBelow C
joining_changes_below = record {
  around = λ granted t c p j. around_kept t c p j granted;
  wants = λ granted t c p j d out. wants_kept t c p j granted d (recursion_from_All _ (providers_of t d.geom) out);
  own = λ granted t c p j. own_want_kept t c p j granted;
}
