-- What counts depend on: counters that keep the sums, what stands above, what is reached downwards from where a grant
-- changes; and the order of a walk downwards.
use Rattle.std.specs.Prelude.{◌≡◌, ℕ, ◌+◌, ◌==◌, false, List, [], ◌∷◌, map, Option, Some, None, All, option_map, Contains, Bool, true, filter, ◌≢◌, zero, suc, ◌<◌, ◌≤◌, flat_map, IfSome, IsSomeAnd, length, ◌⊎◌, fold, if◌then◌else◌}
use Rattle.std.specs.List.{AllByRecursion}
use Rattle.std.proofs.Common.{refl, sym, ◌∙◌, ap, subst, arith, inl, inr, eq-eqb}
use Rattle.std.proofs.lemmas.List.Elements.{recursion_from_All, All-from_recursion, All-contains}
use Rattle.std.specs.Option.{option_map_or}
use Rattle.std.proofs.lemmas.Bool.{eqb-true}
use Rattle.geo_model.specs.Kind.TheVariants as kinds
use Rattle.geo_model.specs.Counts.{Counts}
use Rattle.geo_model.specs.Words.{is_granted_kind, is_kind, names_number}
use Rattle.geo_model.specs.Topology.{Topology, Geom, Provider, Consumer, geom_at, providers_of, attached_to, provider_at, consumers_of, providers_under}
use Rattle.geo_model.specs.Rank.{Ranked, rank, geoms_under}
use Rattle.geo_model.specs.Demand.{no_counts, add_counts, sum_counts, want_of_kind, want_given, have, want}
use Rattle.geo_model.proofs.DemandLemmas.{map_same, kept_by, all_weaker, rank_within-le, rank_within-positive}
use Rattle.geo_model.proofs.MemberLists.{All-from_contained, filter-Contains, Contains-there, Contains-cases, nothing_in, Contains-here, Contains-filter, Contains-filter_map, in_flat_map, flat_map_cases, filter_map-Contains}
use Rattle.geo_model.specs.Opens.{below, below_within}
use Rattle.geo_model.proofs.RankLemmas.{mapped_by}
use Rattle.geo_model.proofs.AllLists.{two_facts}
use Rattle.geo_laws_counts.specs.CountWords.{NumbersLead, SameAbove, kind_at}
use Rattle.geo_laws_counts.proofs.Sums.{sum-same, counts-same, want_of_sum, want-sum, nothing_over, over_nothing, want_over, have_is_sum, want_given-same, geom_found, upward_from, of_each, names_some, want_given-granted, found_of}
use Rattle.geo_laws_counts.proofs.LimitFacts.{all_of, each_of, of_filter, has-contains, has_not}
use Rattle.geo_laws_counts.specs.DemandLaws.{DiffersAt, StaysAround}
use Rattle.geo_laws_counts.specs.WalkWords.{has_number, IsOrder, order_from}

module _ {C : Type 0} (granted : ℕ → Counts) (t : Topology C) (ranked : Ranked t) (known : NumbersLead t) where
  -- counters that are at each provider the sum of what its consumers want by them are the counts
  pub counters_are_counts : (H : ℕ → Counts)
      → All (λ x. H x.number ≡ sum_counts (map (want_given granted H t) (attached_to t x.number))) t.providers
      → All (λ x. H x.number ≡ have granted t x.number) t.providers
  counters_are_counts H sums =
      all_of (λ (x : Provider). H x.number ≡ have granted t x.number) t.providers (λ x here.
      from_above x.number (is_sum x here))
    where
      -- each is the sum
      is_sum : (x : Provider) → Contains t.providers x
          → H x.number ≡ sum_counts (map (want_given granted H t) (attached_to t x.number))
      is_sum x here =
          All-contains (λ (y : Provider). H y.number
          ≡ sum_counts (map (want_given granted H t) (attached_to t y.number))) t.providers x sums here

      -- what is the sum is the count
      from_above : (p : ℕ) → H p ≡ sum_counts (map (want_given granted H t) (attached_to t p)) → H p ≡ have granted t p
      from_above =
          upward_from t ranked known (λ p. H p ≡ sum_counts (map (want_given granted H t) (attached_to t p))
          → H p ≡ have granted t p) (λ p above sum.
          sum
          ∙ sum-same (want_given granted H t) (want granted t) (attached_to t p)
          (each_of (λ (c : Consumer). want_given granted H t c ≡ want granted t c) (attached_to t p) (λ c there.
          want_given-same granted H (have granted t) t c
          (each_of (λ (y : Provider). H y.number ≡ have granted t y.number) (providers_of t c.geom) (λ y stands.
          above c y there stands (is_sum y (of_filter (λ (z : Provider). z.geom == c.geom) t.providers y stands).0)))))
          ∙ sym (have_is_sum t ranked known granted p))

-- wants of one class, grant and number of providers
want_pair : {C D : Type 0} (H K : ℕ → Counts) (x : Counts) (t : Topology C) (u : Topology D) (n : ℕ)
    → providers_of u n ≡ providers_of t n → AllByRecursion (λ y. K y.number ≡ H y.number) (providers_of t n)
    → (o : Option (Geom C)) (v : Option (Geom D)) → option_map (λ g. g.kind) v ≡ option_map (λ g. g.kind) o
    → ((g : Geom C) → o ≡ Some g → g.number ≡ n) → ((g : Geom D) → v ≡ Some g → g.number ≡ n)
    → want_over K x u v ≡ want_over H x t o
want_pair H K x t u n providers same None None kinds before after = refl
want_pair H K x t u n providers same None (Some g) kinds before after = cc
want_pair H K x t u n providers same (Some g) None kinds before after = cc
want_pair H K x t u n providers same (Some g) (Some h) kinds before after =
    let kind : h.kind ≡ g.kind = cc in
    ap (λ k. want_of_kind k (map (λ p. K p.number) (providers_of u h.number)) x) kind
    ∙ ap (λ ps. want_of_kind g.kind (map (λ (p : Provider). K p.number) ps) x)
    (ap (providers_of u) (after h refl) ∙ providers ∙ ap (providers_of t) (sym (before g refl)))
    ∙ ap (λ haves. want_of_kind g.kind haves x)
    (map_same (λ (p : Provider). K p.number) (λ (p : Provider). H p.number) (providers_of t g.number)
    (subst (λ m. AllByRecursion (λ (p : Provider). K p.number ≡ H p.number) (providers_of t m))
    (sym (before g refl)) same))

-- a consumer wants the same where its class, its grant and its geom's providers, with their counts, are the same
pub want_same : {C D : Type 0} (granted : ℕ → Counts) (t : Topology C) (other : ℕ
    → Counts) (u : Topology D) (c : Consumer)
    → other c.number ≡ granted c.number → kind_at u c.geom ≡ kind_at t c.geom
    → providers_of u c.geom ≡ providers_of t c.geom
    → AllByRecursion (λ y. have other u y.number ≡ have granted t y.number) (providers_of t c.geom)
    → want other u c ≡ want granted t c
want_same granted t other u c grant kind providers haves =
    ap (λ x. want_over (have other u) x u (geom_at u c.geom)) grant
    ∙ want_pair (have granted t) (have other u) (granted c.number) t u c.geom providers haves
    (geom_at t c.geom) (geom_at u c.geom) kind
    (λ g found. geom_found t c.geom g found) (λ g found. geom_found u c.geom g found)

module _ {C D : Type 0} (granted : ℕ → Counts) (t : Topology C) (other : ℕ → Counts) (u : Topology D)
    (ranked : Ranked t) (known : NumbersLead t) (ranked_after : Ranked u) (known_after : NumbersLead u)
    (Above : ℕ → Type 0) (same : SameAbove granted t other u Above) where
  -- counts depend only on what stands above
  pub same_above : (p : ℕ) → Above p → have other u p ≡ have granted t p
  same_above =
      upward_from t ranked known (λ p. Above p → have other u p ≡ have granted t p) (λ p above stands.
      have_is_sum u ranked_after known_after other p
      ∙ ap (λ cs. sum_counts (map (want other u) cs)) (same.attached p stands)
      ∙ sum-same (want other u) (want granted t) (attached_to t p)
      (each_of (λ (c : Consumer). want other u c ≡ want granted t c) (attached_to t p) (λ c there.
      want_same granted t other u c
      (All-contains (λ (d : Consumer). other d.number ≡ granted d.number) (attached_to t p) c (same.grants p stands)
      there)
      (All-contains (λ (d : Consumer). kind_at u d.geom ≡ kind_at t d.geom) (attached_to t p) c
      (same.classes p stands) there)
      (All-contains (λ (d : Consumer). providers_of u d.geom ≡ providers_of t d.geom) (attached_to t p) c
      (same.providers p stands) there)
      (each_of (λ (y : Provider). have other u y.number ≡ have granted t y.number) (providers_of t c.geom) (λ y offered.
      above c y there offered
      (All-contains (λ (z : Provider). Above z.number) (providers_of t c.geom) y
      (All-contains (λ (d : Consumer). All (λ (z : Provider). Above z.number) (providers_of t d.geom)) (attached_to t p)
      c (same.above p stands) there) offered)))))
      ∙ sym (have_is_sum t ranked known granted p))

-- a sum of nothing
pub sum_nothing : {X : Type 0} (f : X → Counts) (xs : List X) → AllByRecursion (λ x. f x ≡ no_counts) xs
    → sum_counts (map f xs) ≡ no_counts
sum_nothing f [] none = refl
sum_nothing f (x ∷ xs) none = ap (λ a. add_counts a (sum_counts (map f xs))) none.0
    ∙ ap (add_counts no_counts) (sum_nothing f xs none.1)

-- where a sum is nothing, so is each part of it
nothing_summed : {X : Type 0} (f : X → Counts) (xs : List X) → sum_counts (map f xs) ≡ no_counts
    → AllByRecursion (λ x. f x ≡ no_counts) xs
nothing_summed f [] e = tt
nothing_summed f (x ∷ xs) e =
    let r : (f x).r + (sum_counts (map f xs)).r ≡ 0 = ap (λ (a : Counts). a.r) e in
    let w : (f x).w + (sum_counts (map f xs)).w ≡ 0 = ap (λ (a : Counts). a.w) e in
    let z : (f x).e + (sum_counts (map f xs)).e ≡ 0 = ap (λ (a : Counts). a.e) e in (
      counts-same (f x) no_counts (omega arith) (omega arith) (omega arith),
      nothing_summed f xs (counts-same (sum_counts (map f xs)) no_counts (omega arith) (omega arith) (omega arith)),
    )

module _ {C : Type 0} (granted : ℕ → Counts) (t : Topology C) (c : Consumer) (g : Geom C)
    (found : geom_at t c.geom ≡ Some g)
    (kind : is_granted_kind g.kind ≡ false) where
  -- what a consumer of a found geom wants
  want_found : want granted t c
      ≡ want_of_sum g.kind (sum_counts (map (λ y. have granted t y.number) (providers_of t g.number)))
      (granted c.number)
  want_found =
      ap (want_over (have granted t) (granted c.number) t) found
      ∙ want-sum g.kind (map (λ y. have granted t y.number) (providers_of t g.number)) (granted c.number)

  -- a consumer with no count above wants nothing
  pub nothing_above : All (λ y. have granted t y.number ≡ no_counts) (providers_of t g.number)
      → want granted t c ≡ no_counts
  nothing_above none =
      want_found
      ∙ ap (λ s. want_of_sum g.kind s (granted c.number))
      (sum_nothing (λ (y : Provider). have granted t y.number) (providers_of t g.number)
      (recursion_from_All (λ (y : Provider). have granted t y.number ≡ no_counts) (providers_of t g.number) none))
      ∙ nothing_over g.kind (granted c.number) kind

  -- and one that wants nothing has no count above, unless it is one of a disk, which never wants anything
  pub wants_nothing : is_kind g.kind kinds.Disk ≡ false → want granted t c ≡ no_counts
      → All (λ y. have granted t y.number ≡ no_counts) (providers_of t g.number)
  wants_nothing disk none =
      All-from_recursion (λ (y : Provider). have granted t y.number ≡ no_counts) (providers_of t g.number)
      (nothing_summed (λ (y : Provider). have granted t y.number) (providers_of t g.number)
      (over_nothing g.kind (sum_counts (map (λ y. have granted t y.number) (providers_of t g.number)))
      (granted c.number) kind disk (sym want_found ∙ none)))

-- What is reached downwards from a provider, what stays where a grant changes, and the order of a walk downwards.

-- each item that a filter keeps is in the list, and passes
pub kept_members : {X : Type 0} (test : X → Bool) (xs : List X)
    → AllByRecursion (λ x. Contains xs x × (test x ≡ true)) (filter test xs)
kept_members test xs =
    All-from_contained (λ x. Contains xs x × (test x ≡ true)) (filter test xs) (filter-Contains test xs)

-- What is reached downwards from a provider is closed, and what isn't reached keeps its counts.

-- a provider is reached from itself
pub below_self : {C : Type 0} (k : ℕ) (t : Topology C) (p : ℕ) → Contains (below_within k t p) p
below_self zero t p = Contains-here p []
below_self (suc k) t p = Contains-here p _

-- the provider to which a geom's consumer is attached is directly under the geom
pub directly_under : {C : Type 0} (t : Topology C) (d : Consumer) (q : ℕ) → Contains t.consumers d → d.provider ≡ Some q
    → Contains (providers_under t d.geom) q
directly_under t d q there attached =
    Contains-filter_map (λ x. x.provider) (consumers_of t d.geom) d q
    (Contains-filter (λ x. x.geom == d.geom) t.consumers d there (eq-eqb d.geom d.geom refl))
    attached

module _ {C : Type 0} (t : Topology C) (ranked : Ranked t) where
  -- the providers directly under a geom have geoms of smaller rank
  pub under-rank : (n : ℕ)
      → AllByRecursion (λ p. IsSomeAnd (provider_at t p) (λ x. rank t x.geom < rank t n)) (providers_under t n)
  under-rank n =
      mapped_by
      (λ (c : Consumer). IfSome c.provider (λ p. IsSomeAnd (provider_at t p) (λ x. rank t x.geom < rank t n)))
      (λ p. IsSomeAnd (provider_at t p) (λ x. rank t x.geom < rank t n))
      (λ (c : Consumer). c.provider)
      (λ c p e fact. rw e at fact)
      (consumers_of t n)
      (kept_by
      (λ (c : Consumer). IfSome c.provider (λ p. IsSomeAnd (provider_at t p) (λ x. rank t x.geom < rank t c.geom)))
      (λ (c : Consumer). IfSome c.provider (λ p. IsSomeAnd (provider_at t p) (λ x. rank t x.geom < rank t n)))
      (λ (c : Consumer). c.geom == n)
      (λ c e fact. rw (eqb-true c.geom n e) at fact)
      t.consumers
      (recursion_from_All _ t.consumers ranked))

  -- a provider directly under a geom is found, and its geom has a smaller rank
  pub under_of : (n p : ℕ) → Contains (providers_under t n) p
      → IsSomeAnd (provider_at t p) (λ x. rank t x.geom < rank t n)
  under_of n p there =
      All-contains (λ q. IsSomeAnd (provider_at t q) (λ x. rank t x.geom < rank t n)) (providers_under t n) p
      (All-from_recursion _ (providers_under t n) (under-rank n)) there

  -- a level less below
  level_of : (o : Option Provider) (k n : ℕ) → rank t n ≤ suc k + 1 → IsSomeAnd o (λ x. rank t x.geom < rank t n)
      → IfSome o (λ x. rank t x.geom ≤ k + 1)
  level_of None k n most under = absurd under
  level_of (Some x) k n most under = omega (arith, most, under)

  -- nothing is under a geom of rank 1
  low_end : (n : ℕ) (o u : Option Provider) → IfSome o (λ x. rank t x.geom ≤ zero + 1) → IsSomeAnd o (λ x. x.geom ≡ n)
      → IsSomeAnd u (λ x. rank t x.geom < rank t n) → ⊥
  low_end n None u most above under = above
  low_end n (Some x) None most above under = under
  low_end n (Some x) (Some z) most above under =
      let here : rank t n ≤ zero + 1 = subst (λ g. rank t g ≤ zero + 1) above most in
      omega (arith, here, under, rank_within-positive (length t.geoms) t z.geom)

  -- one step further down from what is reached is reached
  reach_over : (k p y q n : ℕ)
      → ((r : ℕ) → IfSome (provider_at t r) (λ x. rank t x.geom ≤ k + 1) → Contains (below_within k t r) y
      → Contains (below_within k t r) q)
      → Contains (providers_under t n) q → IsSomeAnd (provider_at t y) (λ x. x.geom ≡ n)
      → (o : Option Provider) → provider_at t p ≡ o → IfSome o (λ x. rank t x.geom ≤ suc k + 1)
      → Contains (p ∷ option_map_or (λ x. flat_map (below_within k t) (providers_under t x.geom)) o []) y
      → Contains (p ∷ option_map_or (λ x. flat_map (below_within k t) (providers_under t x.geom)) o []) q
  reach_over k p y q n more direct above None e most reached =
      elim (Contains-cases p y [] reached) [
        | inl same ↦
            let here : IsSomeAnd (provider_at t p) (λ x. x.geom ≡ n) =
            subst (λ r. IsSomeAnd (provider_at t r) (λ x. x.geom ≡ n)) (sym same) above in
            absurd (subst (λ o. IsSomeAnd o (λ (x : Provider). x.geom ≡ n)) e here)
        | inr none ↦ absurd (nothing_in y none)
      ]
  reach_over k p y q n more direct above (Some x) e most reached =
      Contains-there p q (flat_map (below_within k t) (providers_under t x.geom))
      (elim (Contains-cases p y (flat_map (below_within k t) (providers_under t x.geom)) reached) [
        | inl same ↦
            let here : IsSomeAnd (provider_at t p) (λ x. x.geom ≡ n) =
            subst (λ r. IsSomeAnd (provider_at t r) (λ x. x.geom ≡ n)) (sym same) above in
            let geom : x.geom ≡ n = subst (λ o. IsSomeAnd o (λ (x : Provider). x.geom ≡ n)) e here in
            in_flat_map (below_within k t) (providers_under t x.geom) q q
            (subst (λ g. Contains (providers_under t g) q) (sym geom) direct) (below_self k t q)
        | inr rest ↦
            let way = flat_map_cases (below_within k t) (providers_under t x.geom) y rest in
            in_flat_map (below_within k t) (providers_under t x.geom) way.0 q way.1
            (more way.0 (level_of (provider_at t way.0) k x.geom most (under_of x.geom way.0 way.1)) way.2)
      ])

  -- the same at each level
  reach_step : (k p y q : ℕ) (d : Consumer) → IfSome (provider_at t p) (λ x. rank t x.geom ≤ k + 1)
      → Contains t.consumers d → d.provider ≡ Some q → IsSomeAnd (provider_at t y) (λ x. x.geom ≡ d.geom)
      → Contains (below_within k t p) y → Contains (below_within k t p) q
  reach_step zero p y q d most there attached above reached =
      elim (Contains-cases p y [] reached) [
        | inl same ↦
            absurd
            (low_end d.geom (provider_at t p) (provider_at t q) most
            (subst (λ r. IsSomeAnd (provider_at t r) (λ x. x.geom ≡ d.geom)) (sym same) above)
            (under_of d.geom q (directly_under t d q there attached)))
        | inr none ↦ absurd (nothing_in y none)
      ]
  reach_step (suc k) p y q d most there attached above reached =
      reach_over k p y q d.geom
      (λ r low inside. reach_step k r y q d low there attached above inside)
      (directly_under t d q there attached) above (provider_at t p) refl most reached

  -- as many levels as there are geoms reach the bottom
  lowest : (o : Option Provider) → IfSome o (λ x. rank t x.geom ≤ length t.geoms + 1)
  lowest None = tt
  lowest (Some x) = rank_within-le (length t.geoms) t x.geom

  -- what stands directly under what is reached is reached
  pub below_closed : (p y q : ℕ) (d : Consumer) → Contains t.consumers d → d.provider ≡ Some q
      → IsSomeAnd (provider_at t y) (λ x. x.geom ≡ d.geom) → Contains (below t p) y → Contains (below t p) q
  below_closed p y q d there attached above reached =
      reach_step (length t.geoms) p y q d (lowest (provider_at t p)) there attached above reached

module _ {C : Type 0} (t : Topology C) (ranked : Ranked t) (known : NumbersLead t) (small large : ℕ → Counts) (c p : ℕ)
    (others : (n : ℕ) → n ≢ c
    → small n ≡ large n) (place : All (λ d. d.number ≡ c → d.provider ≡ Some p) t.consumers) where
  -- a consumer of what is reached neither by grant nor by counts wants what it wanted
  want_stays : (q : ℕ) (d : Consumer) → (Contains (below t p) q → ⊥) → Contains t.consumers d → d.provider ≡ Some q
      → AllByRecursion (λ y. (Contains (below t p) y.number → ⊥) → have small t y.number ≡ have large t y.number)
      (providers_of t d.geom)
      → want small t d ≡ want large t d
  want_stays q d away there attached above =
      let other : d.number ≢ c =
      (λ e. let at : Some p ≡ Some q =
      sym (All-contains (λ (x : Consumer). x.number ≡ c → x.provider ≡ Some p) t.consumers d place there e)
      ∙ attached in
      let same : p ≡ q = cc in away (subst (Contains (below t p)) same (below_self (length t.geoms) t p))) in
      let haves : AllByRecursion (λ y. have small t y.number ≡ have large t y.number) (providers_of t d.geom) =
      all_weaker
      (λ (y : Provider). ((provider_at t y.number ≡ Some y) × (y.geom ≡ d.geom))
      × ((Contains (below t p) y.number → ⊥) → have small t y.number ≡ have large t y.number))
      (λ (y : Provider). have small t y.number ≡ have large t y.number)
      (λ y h. h.1 (λ reached. away (below_closed t ranked p y.number q d there attached (rw h.0.0 h.0.1) reached)))
      (providers_of t d.geom)
      (two_facts _ _ (providers_of t d.geom) (found_of t ranked known d.geom) above) in
      want_given-same small (have small t) (have large t) t d haves
      ∙ want_given-granted small large (have large t) t d (others d.number other)

  -- what isn't reached downwards from where a grant changes keeps its counts
  pub stays : (q : ℕ) → (Contains (below t p) q → ⊥) → have small t q ≡ have large t q
  stays =
      upward_from t ranked known (λ q. (Contains (below t p) q → ⊥) → have small t q ≡ have large t q) (λ q above away.
      have_is_sum t ranked known small q
      ∙ sum-same (want small t) (want large t) (attached_to t q)
      (each_of (λ (d : Consumer). want small t d ≡ want large t d) (attached_to t q) (λ d there.
      let inside = of_filter (λ x. names_number x.provider q) t.consumers d there in
      want_stays q d away inside.0 (names_some d.provider q inside.1)
      (each_of (λ (y : Provider). (Contains (below t p) y.number → ⊥) → have small t y.number ≡ have large t y.number)
      (providers_of t d.geom) (λ y stands. above d y there stands))))
      ∙ sym (have_is_sum t ranked known large q))

  -- and the consumers attached to it want what they wanted
  pub wants_stay : (q : ℕ) → (Contains (below t p) q → ⊥) → (d : Consumer) → Contains (attached_to t q) d
      → want small t d ≡ want large t d
  wants_stay q away d there =
      let inside = of_filter (λ x. names_number x.provider q) t.consumers d there in
      want_stays q d away inside.0 (names_some d.provider q inside.1)
      (of_each (λ (y : Provider). (Contains (below t p) y.number → ⊥) → have small t y.number ≡ have large t y.number)
      (λ y. stays y.number) (providers_of t d.geom))

-- Another grant of one consumer changes only what is reached downwards.

-- all else stays
pub differing_stays : {C : Type 0} (granted other : ℕ → Counts) (t : Topology C) (c p : ℕ)
    → DiffersAt granted other t c p
    → Ranked t → NumbersLead t → StaysAround granted t other t (below t p)
differing_stays granted other t c p differs ranked known = record {
  haves = λ q away.
      sym (stays t ranked known granted other c p (λ n apart. sym (differs.agree n apart)) differs.place q away);
  attached = λ q away. refl;
  wants = λ q away d there.
      sym (wants_stay t ranked known granted other c p (λ n apart. sym (differs.agree n apart)) differs.place q
      away d there);
}

-- The order of a walk downwards: no geom twice, each before those under it, and just those that are reached.

-- what each step keeps, a fold keeps
fold_keeps : {A B : Type 0} (Q : B → Type 0) (f : B → A → B) (xs : List A)
    → ((b : B) (x : A) → Contains xs x → Q b → Q (f b x))
    → (b : B) → Q b → Q (fold f b xs)
fold_keeps Q f [] keeps b q = q
fold_keeps Q f (x ∷ xs) keeps b q =
    fold_keeps Q f xs (λ c y there. keeps c y (Contains-there x y xs there)) (f b x) (keeps b x (Contains-here x xs) q)

-- what a step makes and the others keep, a fold has for each item
fold_has : {A B : Type 0} (Q : A → B → Type 0) (f : B → A → B) → ((b : B) (x y : A) → Q x b → Q x (f b y))
    → (xs : List A) → ((b : B) (x : A) → Contains xs x → Q x (f b x)) → (b : B) (x : A) → Contains xs x
    → Q x (fold f b xs)
fold_has Q f keeps [] makes b x there = absurd (nothing_in x there)
fold_has Q f keeps (y ∷ ys) makes b x there =
    elim (Contains-cases y x ys there) [
      | inl same ↦
          fold_keeps (λ c. Q x c) f ys (λ c z inside q. keeps c x z q) (f b y)
          (subst (λ z. Q z (f b y)) same (makes b y (Contains-here y ys)))
      | inr rest ↦ fold_has Q f keeps ys (λ c z inside. makes c z (Contains-there y z ys inside)) (f b y) x rest
    ]

-- a geom directly under another one
pub record Under {C : Type 0} (t : Topology C) (x h : ℕ) : Type 0 where
  pub prov : ℕ
  pub below : Contains (providers_under t x) prov
  pub offer : Provider
  pub found : provider_at t prov ≡ Some offer
  pub geom : offer.geom ≡ h

-- a value that a look-up gives
mapped_some : (o : Option Provider) (h : ℕ) → option_map (λ (x : Provider). x.geom) o ≡ Some h
    → (x : Provider) × (o ≡ Some x) × (x.geom ≡ h)
mapped_some None h e = absurd (cc)
mapped_some (Some x) h e = (x, refl, (cc))

module _ {C : Type 0} (t : Topology C) where
  -- what stands on the list of geoms directly under one
  pub under-is : (x h : ℕ) → Contains (geoms_under t x) h → Under t x h
  under-is x h there =
      let found = filter_map-Contains (λ p. option_map (λ (y : Provider). y.geom) (provider_at t p))
      (providers_under t x) h there in
      let offer = mapped_some (provider_at t found.item) h found.fact in
      record { prov = found.item; below = found.stands; offer = offer.0; found = offer.1; geom = offer.2 }

  -- and what is directly under one stands on the list
  pub is-under : (x q : ℕ) (y : Provider) → Contains (providers_under t x) q → provider_at t q ≡ Some y
      → Contains (geoms_under t x) y.geom
  is-under x q y there found =
      Contains-filter_map (λ p. option_map (λ (z : Provider). z.geom) (provider_at t p)) (providers_under t x) q y.geom
      there
      (ap (option_map (λ (z : Provider). z.geom)) found)

  -- what is directly under a geom of an order is in it
  pub order_closed : (xs : List ℕ) → IsOrder t xs → (x h : ℕ) → Contains xs x → Contains (geoms_under t x) h
      → Contains xs h
  order_closed [] order x h there under = absurd (nothing_in x there)
  order_closed (y ∷ ys) order x h there under =
      elim (Contains-cases y x ys there) [
        | inl same ↦ Contains-there y h ys (order.1 h (subst (λ z. Contains (geoms_under t z) h) (sym same) under))
        | inr rest ↦ Contains-there y h ys (order_closed ys order.2 x h rest under)
      ]

  -- no geom of an order stands over the first
  pub order_first : (x : ℕ) (xs : List ℕ) → IsOrder t (x ∷ xs) → (g : ℕ) → Contains (x ∷ xs) g
      → Contains (geoms_under t g) x → ⊥
  order_first x xs order g there under =
      elim (Contains-cases x g xs there) [
        | inl same ↦ order.0 (order.1 x (subst (λ z. Contains (geoms_under t z) x) (sym same) under))
        | inr rest ↦ order.0 (order_closed xs order.2 g x rest under)
      ]

  -- Whatever holds of what is directly under

  module _ (P : ℕ → Type 0) (closed : (x h : ℕ) → P x → Contains (geoms_under t x) h → P h) where
    -- the same after one geom more
    within_pick : (b : Bool) (ys zs : List ℕ) → ((y : ℕ) → Contains ys y → P y) → ((y : ℕ) → Contains zs y → P y)
        → (y : ℕ) → Contains (if b then ys else zs) y → P y
    within_pick true ys zs old new = old
    within_pick false ys zs old new = new

    -- holds of all that is put in front of an order
    pub order_within : (k x : ℕ) (xs : List ℕ) → P x → ((y : ℕ) → Contains xs y → P y) → (y : ℕ)
        → Contains (order_from k t x xs) y → P y
    order_within zero x xs here all y there = all y there
    order_within (suc k) x xs here all y there =
        elim (Contains-cases x y
        (fold (λ ys h. if has_number ys h then ys else order_from k t h ys) xs (geoms_under t x)) there) [
          | inl same ↦ subst P same here
          | inr rest ↦
              fold_keeps (λ zs. (z : ℕ) → Contains zs z → P z)
              (λ ys h. if has_number ys h then ys else order_from k t h ys) (geoms_under t x)
              (λ ys h under old.
              within_pick (has_number ys h) ys (order_from k t h ys) old
              (order_within k h ys (closed x h here under) old))
              xs all y rest
        ]

  -- one of two lists contains what both do
  pick : (b : Bool) (ys zs : List ℕ) (y : ℕ) → Contains ys y → Contains zs y → Contains (if b then ys else zs) y
  pick true ys zs y old new = old
  pick false ys zs y old new = new

  -- what was in an order stays in it
  order_keeps : (k x : ℕ) (xs : List ℕ) (y : ℕ) → Contains xs y → Contains (order_from k t x xs) y
  order_keeps zero x xs y there = there
  order_keeps (suc k) x xs y there =
      Contains-there x y (fold (λ ys h. if has_number ys h then ys else order_from k t h ys) xs (geoms_under t x))
      (fold_keeps (λ zs. Contains zs y)
      (λ ys h. if has_number ys h then ys else order_from k t h ys) (geoms_under t x)
      (λ ys h under old. pick (has_number ys h) ys (order_from k t h ys) y old (order_keeps k h ys y old))
      xs there)

  -- a geom that is put in front is in it
  order_head : (k x : ℕ) (xs : List ℕ) → 1 ≤ k → Contains (order_from k t x xs) x
  order_head zero x xs some = absurd (omega arith)
  order_head (suc k) x xs some =
      Contains-here x (fold (λ ys h. if has_number ys h then ys else order_from k t h ys) xs (geoms_under t x))

  module _ (ranked : Ranked t) where
    -- what is directly under a geom has a smaller rank
    pub under_lower : (x h : ℕ) → Contains (geoms_under t x) h → rank t h < rank t x
    under_lower x h there =
        let under = under-is x h there in
        let low : IsSomeAnd (provider_at t under.prov) (λ y. rank t y.geom < rank t x) =
        under_of t ranked x under.prov under.below in
        subst (λ g. rank t g < rank t x) under.geom
        (subst (λ o. IsSomeAnd o (λ (y : Provider). rank t y.geom < rank t x)) under.found low)

    -- the list after one geom more is an order
    order_pick : (b : Bool) (ys zs : List ℕ) → IsOrder t ys → (b ≡ false → IsOrder t zs)
        → IsOrder t (if b then ys else zs)
    order_pick true ys zs old new = old
    order_pick false ys zs old new = new refl

    -- a geom is there after it was looked for
    head_pick : (ys : List ℕ) (k h : ℕ) → 1 ≤ k → (b : Bool) → has_number ys h ≡ b
        → Contains (if b then ys else order_from k t h ys) h
    head_pick ys k h some true e = has-contains ys h e
    head_pick ys k h some false e = order_head k h ys some

    -- what was there, or has a smaller rank than a geom, goes on to what is directly under
    at_under : (xs : List ℕ) (x : ℕ) → IsOrder t xs → (z g : ℕ) → Contains xs z ⊎ (rank t z < rank t x)
        → Contains (geoms_under t z) g
        → Contains xs g ⊎ (rank t g < rank t x)
    at_under xs x order z g at under =
        elim at [
          | inl old ↦ inl (order_closed xs order z g old under)
          | inr less ↦ inr (let lower : rank t g < rank t z = under_lower z g under in omega arith)
        ]

    -- and holds of all that is put between
    lower_than : (k x : ℕ) (xs : List ℕ) → IsOrder t xs
        → (y : ℕ) → Contains (fold (λ ys h. if has_number ys h then ys else order_from k t h ys) xs (geoms_under t x)) y
        → Contains xs y ⊎ (rank t y < rank t x)
    lower_than k x xs order =
        fold_keeps (λ zs. (y : ℕ) → Contains zs y → Contains xs y ⊎ (rank t y < rank t x))
        (λ ys h. if has_number ys h then ys else order_from k t h ys) (geoms_under t x)
        (λ ys h under old.
        within_pick (λ y. Contains xs y ⊎ (rank t y < rank t x)) (at_under xs x order)
        (has_number ys h) ys (order_from k t h ys) old
        (order_within (λ y. Contains xs y ⊎ (rank t y < rank t x)) (at_under xs x order) k h ys
        (inr (under_lower x h under)) old))
        xs (λ y there. inl there)

    -- so many levels are left
    level_left : (k x z : ℕ) → rank t x ≤ suc k → Contains (geoms_under t x) z → rank t z ≤ k
    level_left k x z high inside = let less : rank t z < rank t x = under_lower x z inside in omega arith

    -- and at least one
    level_some : (k x z : ℕ) → rank t x ≤ suc k → Contains (geoms_under t x) z → 1 ≤ k
    level_some k x z high inside =
        let less : rank t z < rank t x = under_lower x z inside in
        let some : 1 ≤ rank t z = rank_within-positive (length t.geoms) t z in
        omega arith

    -- with a geom, and all that is reached from it, an order stays one
    pub order_stays : (k x : ℕ) (xs : List ℕ) → rank t x ≤ k → IsOrder t xs → (Contains xs x → ⊥)
        → IsOrder t (order_from k t x xs)
    order_stays zero x xs high order new = order
    order_stays (suc k) x xs high order new = (
      (λ there. elim (lower_than k x xs order x there) [ inl old ↦ new old | inr less ↦ omega arith ]),
      (λ h under.
          fold_has (λ z zs. Contains zs z) (λ ys z. if has_number ys z then ys else order_from k t z ys)
          (λ zs z y there. pick (has_number zs y) zs (order_from k t y zs) z there (order_keeps k y zs z there))
          (geoms_under t x)
          (λ zs z inside. head_pick zs k z (level_some k x z high inside) (has_number zs z) refl) xs h under),
      fold_keeps (IsOrder t) (λ ys h. if has_number ys h then ys else order_from k t h ys) (geoms_under t x)
          (λ ys h under old.
          order_pick (has_number ys h) ys (order_from k t h ys) old
          (λ e. order_stays k h ys (level_left k x h high under) old (has_not ys h e)))
          xs order,
    )

-- What is reached downwards

module _ {C : Type 0} (t : Topology C) (P : ℕ → Type 0)
    (down : (y : ℕ) (x : Provider) (q : ℕ) → P y → provider_at t y ≡ Some x → Contains (providers_under t x.geom) q
    → P q) where
  -- a fact that goes on to whatever is directly under holds over one level
  least_over : (k p : ℕ) → P p → ((r : ℕ) → P r → (y : ℕ) → Contains (below_within k t r) y → P y)
      → (o : Option Provider) → provider_at t p ≡ o
      → (y : ℕ) → Contains (p ∷ option_map_or (λ x. flat_map (below_within k t) (providers_under t x.geom)) o []) y
      → P y
  least_over k p here more None e y inside =
      elim (Contains-cases p y [] inside) [ inl same ↦ subst P same here | inr none ↦ absurd (nothing_in y none) ]
  least_over k p here more (Some x) e y inside =
      elim (Contains-cases p y (flat_map (below_within k t) (providers_under t x.geom)) inside) [
        | inl same ↦ subst P same here
        | inr rest ↦
            let way = flat_map_cases (below_within k t) (providers_under t x.geom) y rest in
            more way.0 (down p x way.0 here e way.1) y way.2
      ]

  -- and over all levels
  least_within : (k p : ℕ) → P p → (y : ℕ) → Contains (below_within k t p) y → P y
  least_within zero p here y there =
      elim (Contains-cases p y [] there) [ inl same ↦ subst P same here | inr none ↦ absurd (nothing_in y none) ]
  least_within (suc k) p here y there = least_over k p here (least_within k) (provider_at t p) refl y there

  -- so it holds of all that is reached
  pub below_least : (p : ℕ) → P p → (y : ℕ) → Contains (below t p) y → P y
  below_least p here y there = least_within (length t.geoms) p here y there
