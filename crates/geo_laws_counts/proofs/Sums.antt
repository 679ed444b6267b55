-- Sums of access counts, what consumers want from them, counts over levels of a graph, and by how much they rise.
use Rattle.std.specs.Prelude.{◌≡◌, ℕ, ◌==◌, Bool, true, false, ◌&&◌, List, [], ◌∷◌, map, ◌+◌, not, if◌then◌else◌, zero, suc, ◌-◌, ◌<◌, ◌≤◌, Option, Some, None, IfSome, IsSomeAnd, length, cond, filter, Contains}
use Rattle.std.specs.List.{list_all, AllByRecursion}
use Rattle.std.proofs.Common.{refl, sym, ◌∙◌, ap, arith, subst}
use Rattle.std.proofs.lemmas.Bool.{eqb-true}
use Rattle.std.proofs.lemmas.Bool.Decides.{nat_tests}
use Rattle.std.specs.Option.{option_map_or}
use Rattle.std.proofs.lemmas.List.Elements.{recursion_from_All}
use Rattle.geo_model.specs.Counts.{Counts}
use Rattle.geo_model.specs.Demand.{no_counts, add_counts, sum_counts, is_zero, want_of_kind, want_given, have_within, have, want}
use Rattle.geo_model.specs.Kind.{Kind}
use Rattle.geo_model.specs.Kind.TheVariants as kinds
use Rattle.geo_model.specs.Words.{is_granted_kind, is_kind, names_number}
use Rattle.geo_model.specs.Topology.{Topology, Geom, Provider, Consumer, geom_at, provider_at, providers_of, attached_to}
use Rattle.geo_model.specs.Rank.{rank, Ranked}
use Rattle.geo_model.proofs.DemandLemmas.{map_same, kept_by, find_passes, no_items, all_weaker, rank_within-le, rank_within-positive}
pub use Rattle.geo_model.proofs.DemandLemmas.{names_some}
use Rattle.geo_model.proofs.FilterLists.{keeps_all}
pub use Rattle.geo_model.proofs.AllLists.{of_each}
use Rattle.geo_model.proofs.MemberLists.{at_contained}
use Rattle.geo_laws_counts.specs.CountWords.{IsAtMost, more_counts, gain_of_kind, NumbersLead, AreAtMost, keep_consumers}

-- three equal numbers make equal counts
pub counts-same : (a b : Counts) → a.r ≡ b.r → a.w ≡ b.w → a.e ≡ b.e → a ≡ b
counts-same a b r w e =
    let three : ℕ → ℕ → ℕ → Counts = λ x y z. record { r = x; w = y; e = z } in
    ap (λ x. three x a.w a.e) r ∙ ap (λ y. three b.r y a.e) w ∙ ap (λ z. three b.r b.w z) e

-- no counts and some are these
pub zero-add : (a : Counts) → add_counts no_counts a ≡ a
zero-add a = counts-same (add_counts no_counts a) a (omega arith) (omega arith) (omega arith)

-- the same from the right
pub add-zero : (a : Counts) → add_counts a no_counts ≡ a
add-zero a = counts-same (add_counts a no_counts) a (omega arith) (omega arith) (omega arith)

-- sums may be grouped otherwise
pub add-assoc : (a b c : Counts) → add_counts (add_counts a b) c ≡ add_counts a (add_counts b c)
add-assoc a b c = counts-same _ _ (omega arith) (omega arith) (omega arith)

-- the parts of a sum may change places
pub add-move : (a b c : Counts) → add_counts a (add_counts b c) ≡ add_counts b (add_counts a c)
add-move a b c = counts-same _ _ (omega arith) (omega arith) (omega arith)

-- two sums may exchange their parts
add-swap : (a b c d : Counts)
    → add_counts (add_counts a b) (add_counts c d) ≡ add_counts (add_counts a c) (add_counts b d)
add-swap a b c d = counts-same _ _ (omega arith) (omega arith) (omega arith)

-- the order of counts
pub at_most-same : (a : Counts) → IsAtMost a a
at_most-same a = record { r = omega arith; w = omega arith; e = omega arith }

-- no counts are at most any
pub at_most-zero : (a : Counts) → IsAtMost no_counts a
at_most-zero a = record { r = omega arith; w = omega arith; e = omega arith }

-- the order goes on
pub at_most-trans : (a b c : Counts) → IsAtMost a b → IsAtMost b c → IsAtMost a c
at_most-trans a b c h k = record { r = omega arith; w = omega arith; e = omega arith }

-- sums keep the order
at_most-add : (a b c d : Counts) → IsAtMost a b → IsAtMost c d → IsAtMost (add_counts a c) (add_counts b d)
at_most-add a b c d h k = record { r = omega arith; w = omega arith; e = omega arith }

-- only no counts are at most none
zero-at_most : (a : Counts) → IsAtMost a no_counts → a ≡ no_counts
zero-at_most a h = counts-same a no_counts (omega arith) (omega arith) (omega arith)

-- what is at most no counts is none
pub at_most-under : (a b : Counts) → IsAtMost a b → b ≡ no_counts → a ≡ no_counts
at_most-under a b h none = zero-at_most a (rw none at h)

-- the smaller and what the larger has more are the larger
pub add-more : (a b : Counts) → IsAtMost a b → add_counts a (more_counts a b) ≡ b
add-more a b h = counts-same (add_counts a (more_counts a b)) b (omega arith) (omega arith) (omega arith)

-- what a sum has more than one part is the other part
pub more-add : (a d : Counts) → more_counts a (add_counts a d) ≡ d
more-add a d = counts-same (more_counts a (add_counts a d)) d (omega arith) (omega arith) (omega arith)

-- sums of what each item has
pub sum-same : {X : Type 0} (f g : X → Counts) (xs : List X) → AllByRecursion (λ x. f x ≡ g x) xs
    → sum_counts (map f xs) ≡ sum_counts (map g xs)
sum-same f g [] same = refl
sum-same f g (x ∷ xs) same =
    ap (λ a. add_counts a (sum_counts (map f xs))) same.0 ∙ ap (add_counts (g x)) (sum-same f g xs same.1)

-- the same for the order
pub sum-at_most : {X : Type 0} (f g : X → Counts) (xs : List X) → AllByRecursion (λ x. IsAtMost (f x) (g x)) xs
    → IsAtMost (sum_counts (map f xs)) (sum_counts (map g xs))
sum-at_most f g [] less = at_most-same no_counts
sum-at_most f g (x ∷ xs) less =
    at_most-add (f x) (g x) (sum_counts (map f xs)) (sum_counts (map g xs)) less.0 (sum-at_most f g xs less.1)

-- the sum of sums
pub sum-add : {X : Type 0} (f g : X → Counts) (xs : List X)
    → sum_counts (map (λ x. add_counts (f x) (g x)) xs) ≡ add_counts (sum_counts (map f xs)) (sum_counts (map g xs))
sum-add f g [] = refl
sum-add f g (x ∷ xs) =
    ap (add_counts (add_counts (f x) (g x))) (sum-add f g xs)
    ∙ add-swap (f x) (g x) (sum_counts (map f xs)) (sum_counts (map g xs))

-- no counts at all, as a test
pub zero-test : (a : Counts) → is_zero a ≡ true → a ≡ no_counts
zero-test a h =
    counts-same a no_counts (grind (arith, nat_tests)) (grind (arith, nat_tests)) (grind (arith, nat_tests))

-- a sum is zero just where both parts are
zero-add_test : (a b : Counts) → is_zero (add_counts a b) ≡ (is_zero a && is_zero b)
zero-add_test a b = grind (arith, nat_tests)

-- all counts of a list are zero just where its sum is
pub zeros-sum : (xs : List Counts) → list_all is_zero xs ≡ is_zero (sum_counts xs)
zeros-sum [] = refl
zeros-sum (x ∷ xs) = ap (λ b. is_zero x && b) (zeros-sum xs) ∙ sym (zero-add_test x (sum_counts xs))

-- What a consumer wants depends on the sum of what its geom's providers have.

-- one exclusive count, unless there are no counts
exclusive_over : Bool → Counts → Counts
exclusive_over none a = add_counts a (record { r = 0; w = 0; e = (if not none then 1 else 0) })

-- what a consumer of a class holds, from the sum of what its geom's providers have and what was granted to it
pub want_of_sum : Kind → Counts → Counts → Counts
want_of_sum kinds.Dev s granted = granted
want_of_sum kinds.Taste s granted = granted
want_of_sum kinds.Disk s granted = no_counts
want_of_sum kinds.Nop s granted = s
want_of_sum _ s granted = exclusive_over (is_zero s) s

-- it is what the consumer of the class wants
pub want-sum : (kind : Kind) (haves : List Counts) (granted : Counts)
    → want_of_kind kind haves granted ≡ want_of_sum kind (sum_counts haves) granted
unfolding want_of_sum exclusive_over
want-sum kinds.Dev haves granted = refl
want-sum kinds.Taste haves granted = refl
want-sum kinds.Disk haves granted = refl
want-sum kinds.Nop haves granted = add-zero (sum_counts haves)
want-sum _ haves granted = ap (λ b. exclusive_over b (sum_counts haves)) (zeros-sum haves)

-- a consumer of DEV or TASTE wants what is granted to it
pub granted_want : (kind : Kind) (haves : List Counts) (granted : Counts) → is_granted_kind kind ≡ true
    → want_of_kind kind haves granted ≡ granted
granted_want kinds.Dev haves granted is = refl
granted_want kinds.Taste haves granted is = refl
granted_want _ haves granted is = absurd cc

-- more of each above and a greater grant never make it want less
exclusive-at_most : (a b : Counts) → IsAtMost a b → (x y : Bool) → is_zero a ≡ x → is_zero b ≡ y
    → IsAtMost (exclusive_over x a) (exclusive_over y b)
unfolding exclusive_over
exclusive-at_most a b h true y za zb = record { r = omega arith; w = omega arith; e = omega arith }
exclusive-at_most a b h false false za zb = record { r = omega arith; w = omega arith; e = omega arith }
exclusive-at_most a b h false true za zb =
    let none : b ≡ no_counts = zero-test b zb in
    let zero : a ≡ no_counts = at_most-under a b h none in
    let yes : is_zero a ≡ true = rw zero refl in
    let no : true ≡ false = sym yes ∙ za in cc

-- a greater sum and a greater grant never make the want less
want_of_sum-at_most : (kind : Kind) (a b x y : Counts) → IsAtMost a b → IsAtMost x y
    → IsAtMost (want_of_sum kind a x) (want_of_sum kind b y)
unfolding want_of_sum
want_of_sum-at_most kinds.Dev a b x y h k = k
want_of_sum-at_most kinds.Taste a b x y h k = k
want_of_sum-at_most kinds.Disk a b x y h k = at_most-same no_counts
want_of_sum-at_most kinds.Nop a b x y h k = h
want_of_sum-at_most _ a b x y h k = exclusive-at_most a b h (is_zero a) (is_zero b) refl refl

-- by how much the want rises where each provider above has more
exclusive-gain : (s d : Counts) (x y : Bool)
    → exclusive_over (x && y) (add_counts s d)
    ≡ add_counts (exclusive_over x s) (add_counts d (record { r = 0; w = 0; e = (if x && not y then 1 else 0) }))
unfolding exclusive_over
exclusive-gain s d true true = counts-same _ _ (omega arith) (omega arith) (omega arith)
exclusive-gain s d true false = counts-same _ _ (omega arith) (omega arith) (omega arith)
exclusive-gain s d false y = counts-same _ _ (omega arith) (omega arith) (omega arith)

-- the same for lists of counts
exclusive_gain_of : (had gains : List Counts)
    → exclusive_over (is_zero (add_counts (sum_counts had) (sum_counts gains)))
    (add_counts (sum_counts had) (sum_counts gains))
    ≡ add_counts (exclusive_over (is_zero (sum_counts had)) (sum_counts had))
    (add_counts (sum_counts gains)
    (record { r = 0; w = 0; e = (if list_all is_zero had && not (list_all is_zero gains) then 1 else 0) }))
exclusive_gain_of had gains =
    let s : Counts = sum_counts had in
    let d : Counts = sum_counts gains in
    rw (zeros-sum had, zeros-sum gains)
    (ap (λ b. exclusive_over b (add_counts s d)) (zero-add_test s d) ∙ exclusive-gain s d (is_zero s) (is_zero d))

-- what a consumer of the class wants more
pub want_of_sum-gain : (kind : Kind) (had gains : List Counts) (x y : Counts)
    → want_of_sum kind (add_counts (sum_counts had) (sum_counts gains)) (add_counts x y)
    ≡ add_counts (want_of_sum kind (sum_counts had) x) (gain_of_kind kind had gains y)
unfolding want_of_sum
want_of_sum-gain kinds.Dev had gains x y = refl
want_of_sum-gain kinds.Taste had gains x y = refl
want_of_sum-gain kinds.Disk had gains x y = refl
want_of_sum-gain kinds.Nop had gains x y = refl
want_of_sum-gain _ had gains x y = exclusive_gain_of had gains

-- a class that isn't DEV or TASTE wants nothing where there is nothing above, and but for DISK only there
pub nothing_over : (kind : Kind) (x : Counts) → is_granted_kind kind ≡ false → want_of_sum kind no_counts x ≡ no_counts
unfolding want_of_sum exclusive_over
nothing_over kinds.Dev x e = cc
nothing_over kinds.Taste x e = cc
nothing_over _ x e = refl

-- there is nothing over nothing alone
exclusive_nothing : (b : Bool) (s : Counts) → exclusive_over b s ≡ no_counts → s ≡ no_counts
unfolding exclusive_over
exclusive_nothing b s none =
    let r : s.r + 0 ≡ 0 = ap (λ (a : Counts). a.r) none in
    let w : s.w + 0 ≡ 0 = ap (λ (a : Counts). a.w) none in
    let e : s.e + (if not b then 1 else 0) ≡ 0 = ap (λ (a : Counts). a.e) none in
    counts-same s no_counts (omega arith) (omega arith) (omega arith)

-- where nothing is wanted there is nothing above
pub over_nothing : (kind : Kind) (s x : Counts) → is_granted_kind kind ≡ false → is_kind kind kinds.Disk ≡ false
    → want_of_sum kind s x ≡ no_counts → s ≡ no_counts
unfolding want_of_sum
over_nothing kinds.Dev s x e disk none = cc
over_nothing kinds.Taste s x e disk none = cc
over_nothing kinds.Disk s x e disk none = cc
over_nothing kinds.Nop s x e disk none = none
over_nothing _ s x e disk none = exclusive_nothing (is_zero s) s none

-- Induction along a graph without loops, from above downwards, and that enough levels are enough.

-- the geom that is found has the number that was sought
pub geom_found : {C : Type 0} (t : Topology C) (n : ℕ) (g : Geom C) → geom_at t n ≡ Some g → g.number ≡ n
geom_found t n g found = eqb-true g.number n (find_passes (λ z. z.number == n) t.geoms g found)

-- what a consumer with a grant wants of a geom that may be found, from the counts of its providers
abbrev pub want_over : {C : Type 0} → (ℕ → Counts) → Counts → Topology C → Option (Geom C) → Counts
want_over H x t o =
    option_map_or (λ g. want_of_kind g.kind (map (λ p. H p.number) (providers_of t g.number)) x) o no_counts

-- what a consumer wants, where each of its geom's providers has the same
want_over-same : {C : Type 0} (H K : ℕ → Counts) (x : Counts) (t : Topology C) (n : ℕ)
    → AllByRecursion (λ y. H y.number ≡ K y.number) (providers_of t n)
    → (o : Option (Geom C)) → ((g : Geom C) → o ≡ Some g → g.number ≡ n)
    → want_over H x t o ≡ want_over K x t o
want_over-same H K x t n same None found = refl
want_over-same H K x t n same (Some g) found =
    let here : AllByRecursion (λ y. H y.number ≡ K y.number) (providers_of t g.number) = rw (found g refl) same in
    ap (λ haves. want_of_kind g.kind haves x)
    (map_same (λ (y : Provider). H y.number) (λ (y : Provider). K y.number) (providers_of t g.number) here)

-- the same for any consumer
pub want_given-same : {C : Type 0} (granted : ℕ → Counts) (H K : ℕ → Counts) (t : Topology C) (c : Consumer)
    → AllByRecursion (λ y. H y.number ≡ K y.number) (providers_of t c.geom)
    → want_given granted H t c ≡ want_given granted K t c
want_given-same granted H K t c same =
    want_over-same H K (granted c.number) t c.geom same (geom_at t c.geom) (λ g found. geom_found t c.geom g found)

-- and where its grant is the same
pub want_given-granted : {C : Type 0} (small large : ℕ → Counts) (H : ℕ → Counts) (t : Topology C) (c : Consumer)
    → small c.number ≡ large c.number → want_given small H t c ≡ want_given large H t c
want_given-granted small large H t c same = ap (λ x. want_over H x t (geom_at t c.geom)) same

-- a level less above
level_up : {C : Type 0} (t : Topology C) (n k : ℕ) (high : ℕ) (o : Option Provider)
    → IfSome o (λ x. n ≤ suc k + rank t x.geom)
    → IsSomeAnd o (λ x. rank t x.geom < high) → n ≤ k + high
level_up t n k high None least above = absurd above
level_up t n k high (Some x) least above = omega (arith, least, above)

-- nothing stands above at the top level
top_level : {C : Type 0} (t : Topology C) (high : ℕ) (o : Option Provider) → high ≤ length t.geoms + 1
    → IfSome o (λ x. length t.geoms + 1 ≤ zero + rank t x.geom) → IsSomeAnd o (λ x. rank t x.geom < high) → ⊥
top_level t high None most least above = above
top_level t high (Some x) most least above = omega (arith, most, least, above)

-- as many levels as there are geoms reach the top
least_level : {C : Type 0} (t : Topology C) (k : ℕ) → length t.geoms ≤ k → (o : Option Provider)
    → IfSome o (λ x. length t.geoms + 1 ≤ k + rank t x.geom)
least_level t k h None = tt
least_level t k h (Some x) = omega (arith, h, rank_within-positive (length t.geoms) t x.geom)

module _ {C : Type 0} (t : Topology C) (ranked : Ranked t) where
  -- the consumers at a provider have geoms of greater rank
  pub attached-above : (p : ℕ)
      → AllByRecursion (λ c. IsSomeAnd (provider_at t p) (λ x. rank t x.geom < rank t c.geom)) (attached_to t p)
  attached-above p =
      kept_by
      (λ (c : Consumer). IfSome c.provider (λ q. IsSomeAnd (provider_at t q) (λ x. rank t x.geom < rank t c.geom)))
      (λ (c : Consumer). IsSomeAnd (provider_at t p) (λ x. rank t x.geom < rank t c.geom))
      (λ (c : Consumer). names_number c.provider p)
      (λ c e h. rw (names_some c.provider p e) at h)
      t.consumers
      (recursion_from_All _ t.consumers ranked)

module _ {C : Type 0} (t : Topology C) (ranked : Ranked t) (known : NumbersLead t) where
  -- the providers of a geom are found, and are of that geom
  pub found_of : (n : ℕ) → AllByRecursion (λ y. (provider_at t y.number ≡ Some y) × (y.geom ≡ n)) (providers_of t n)
  found_of n =
      kept_by
      (λ (y : Provider). provider_at t y.number ≡ Some y)
      (λ (y : Provider). (provider_at t y.number ≡ Some y) × (y.geom ≡ n))
      (λ (y : Provider). y.geom == n)
      (λ y e h. (h, eqb-true y.geom n e))
      t.providers
      known

  -- a fact of a level and a provider, which follows from that of a level less at all that stands directly above
  upward_levels : (P : ℕ → ℕ → Type 0)
      → ((p : ℕ) → attached_to t p ≡ [] → P zero p)
      → ((k p : ℕ)
      → AllByRecursion (λ c. AllByRecursion (λ y. P k y.number) (providers_of t c.geom)) (attached_to t p)
      → P (suc k) p)
      → (k p : ℕ) → IfSome (provider_at t p) (λ x. length t.geoms + 1 ≤ k + rank t x.geom) → P k p
  upward_levels P none so zero p least =
      none p
      (no_items (attached_to t p)
      (all_weaker (λ (c : Consumer). IsSomeAnd (provider_at t p) (λ x. rank t x.geom < rank t c.geom))
      (λ (c : Consumer). ⊥)
      (λ c above. top_level t (rank t c.geom) (provider_at t p) (rank_within-le (length t.geoms) t c.geom) least above)
      (attached_to t p)
      (attached-above t ranked p)))
  upward_levels P none so (suc k) p least =
      so k p
      (all_weaker (λ (c : Consumer). IsSomeAnd (provider_at t p) (λ x. rank t x.geom < rank t c.geom))
      (λ (c : Consumer). AllByRecursion (λ y. P k y.number) (providers_of t c.geom))
      (λ c above.
      all_weaker (λ (y : Provider). (provider_at t y.number ≡ Some y) × (y.geom ≡ c.geom))
      (λ (y : Provider). P k y.number)
      (λ y h.
      let high : length t.geoms + 1 ≤ k + rank t c.geom =
      level_up t (length t.geoms + 1) k (rank t c.geom) (provider_at t p) least above in
      let there : length t.geoms + 1 ≤ k + rank t y.geom = rw h.1 high in
      upward_levels P none so k y.number (rw h.0 there))
      (providers_of t c.geom)
      (found_of c.geom))
      (attached_to t p)
      (attached-above t ranked p))

  -- a fact of each provider, which follows from that of all that stands directly above
  pub upward : (P : ℕ → Type 0)
      → ((p : ℕ) → AllByRecursion (λ c. AllByRecursion (λ y. P y.number) (providers_of t c.geom)) (attached_to t p)
      → P p)
      → (p : ℕ) → P p
  upward P so p =
      upward_levels (λ k q. P q) (λ q none. so q (rw none tt)) (λ k q above. so q above)
      (length t.geoms) p (least_level t (length t.geoms) (omega arith) (provider_at t p))

  -- so with the fact at each that stands directly above
  pub upward_from : (P : ℕ → Type 0)
      → ((p : ℕ)
      → ((c : Consumer) (y : Provider) → Contains (attached_to t p) c → Contains (providers_of t c.geom) y → P y.number)
      → P p)
      → (p : ℕ) → P p
  upward_from P so =
      upward P (λ p above. so p (λ c y there stands.
      at_contained (λ (z : Provider). P z.number) (providers_of t c.geom) y
      (at_contained (λ (d : Consumer). AllByRecursion (λ (z : Provider). P z.number) (providers_of t d.geom))
      (attached_to t p) c above there) stands))

  module _ (granted : ℕ → Counts) where
    -- from the level on that covers what can stand above a provider, one level more changes nothing
    more_levels : (k : ℕ) → length t.geoms ≤ k → (p : ℕ)
        → have_within granted k t p ≡ have_within granted (suc k) t p
    more_levels k enough p =
        upward_levels (λ l q. have_within granted l t q ≡ have_within granted (suc l) t q)
        (λ q none. rw none refl)
        (λ l q above.
        ap sum_counts
        (map_same (want_given granted (have_within granted l t) t)
        (want_given granted (have_within granted (suc l) t) t)
        (attached_to t q)
        (all_weaker
        (λ (c : Consumer).
        AllByRecursion (λ y. have_within granted l t y.number ≡ have_within granted (suc l) t y.number)
        (providers_of t c.geom))
        (λ (c : Consumer). want_given granted (have_within granted l t) t c
        ≡ want_given granted (have_within granted (suc l) t) t c)
        (λ c same. want_given-same granted (have_within granted l t) (have_within granted (suc l) t) t c same)
        (attached_to t q) above)))
        k p (least_level t k enough (provider_at t p))

    -- enough levels are enough
    levels_and : (k p : ℕ) → have_within granted (length t.geoms + k) t p ≡ have granted t p
    levels_and zero p = let none : length t.geoms + zero ≡ length t.geoms = omega arith in rw none refl
    levels_and (suc k) p =
        let step : length t.geoms + suc k ≡ suc (length t.geoms + k) = omega arith in
        rw step (sym (more_levels (length t.geoms + k) (omega arith) p) ∙ levels_and k p)

    pub enough_levels : (k : ℕ) → length t.geoms ≤ k → (p : ℕ) → have_within granted k t p ≡ have granted t p
    enough_levels k enough p =
        let rest : (d : ℕ) × (k ≡ length t.geoms + d) = (k - length t.geoms, omega arith) in
        rw rest.1 (levels_and rest.0 p)

    -- the counts of a provider are the sum over the consumers attached to it
    pub have_is_sum : (p : ℕ) → have granted t p ≡ sum_counts (map (want granted t) (attached_to t p))
    have_is_sum p = more_levels (length t.geoms) (omega arith) p

-- Counts over so many levels: they never fall with more levels, greater grants and more consumers.

-- a sum over fewer items, each of which counts for no more
filtered_cons : {X : Type 0} (f g : X → Counts) (a : X → Bool) (x : X) (xs ys : List X) (b c : Bool) → a x ≡ c
    → IsAtMost (f x) (g x) → IsAtMost (sum_counts (map f (filter a ys))) (sum_counts (map g (filter a xs)))
    → IsAtMost (sum_counts (map f (filter a (cond b (x ∷ ys) ys))))
    (sum_counts (map g (cond c (x ∷ filter a xs) (filter a xs))))
filtered_cons f g a x xs ys true true e less rest =
    rw e (at_most-add (f x) (g x) (sum_counts (map f (filter a ys))) (sum_counts (map g (filter a xs))) less rest)
filtered_cons f g a x xs ys true false e less rest = rw e rest
filtered_cons f g a x xs ys false true e less rest =
    at_most-trans _ _ _ rest (plus (sum_counts (map g (filter a xs))) (g x))
  where
    plus : (s d : Counts) → IsAtMost s (add_counts d s)
    plus s d = record { r = omega arith; w = omega arith; e = omega arith }
filtered_cons f g a x xs ys false false e less rest = rest

-- the same for whole lists
sum-filtered : {X : Type 0} (f g : X → Counts) (a b : X → Bool) → ((x : X) → IsAtMost (f x) (g x)) → (xs : List X)
    → IsAtMost (sum_counts (map f (filter a (filter b xs)))) (sum_counts (map g (filter a xs)))
sum-filtered f g a b less [] = at_most-same no_counts
sum-filtered f g a b less (x ∷ xs) =
    filtered_cons f g a x xs (filter b xs) (b x) (a x) refl (less x) (sum-filtered f g a b less xs)

-- what a consumer of a found geom wants
want_over-at_most : {C : Type 0} (H K : ℕ → Counts) → AreAtMost H K → (x y : Counts) → IsAtMost x y → (t : Topology C)
    → (o : Option (Geom C))
    → IsAtMost (want_over H x t o) (want_over K y t o)
want_over-at_most H K less x y h t None = at_most-same no_counts
want_over-at_most H K less x y h t (Some g) =
    rw (
      want-sum g.kind (map (λ p. H p.number) (providers_of t g.number)) x,
      want-sum g.kind (map (λ p. K p.number) (providers_of t g.number)) y,
    )
    (want_of_sum-at_most g.kind _ _ x y
    (sum-at_most (λ (p : Provider). H p.number) (λ (p : Provider). K p.number) (providers_of t g.number)
    (of_each (λ (p : Provider). IsAtMost (H p.number) (K p.number)) (λ p. less p.number) (providers_of t g.number)))
    h)

module _ {C : Type 0} (small large : ℕ → Counts) (grants : AreAtMost small large) where
  -- a consumer wants no less where each provider above has no less and its grant is no less
  pub want_given-at_most : (H K : ℕ → Counts) → AreAtMost H K → (t : Topology C) (c : Consumer)
      → IsAtMost (want_given small H t c) (want_given large K t c)
  want_given-at_most H K less t c =
      want_over-at_most H K less (small c.number) (large c.number) (grants c.number) t (geom_at t c.geom)

  -- more levels, more consumers and greater grants never make the counts less
  within-at_most : (t : Topology C) (test : Consumer → Bool) (k l : ℕ) → k ≤ l → (p : ℕ)
      → IsAtMost (have_within small k (keep_consumers t test) p) (have_within large l t p)
  within-at_most t test zero l h p = at_most-zero (have_within large l t p)
  within-at_most t test (suc k) zero h p = absurd (omega arith)
  within-at_most t test (suc k) (suc l) h p =
      sum-filtered (want_given small (have_within small k (keep_consumers t test)) (keep_consumers t test))
      (want_given large (have_within large l t) t)
      (λ c. names_number c.provider p) test
      (λ c.
      want_given-at_most (have_within small k (keep_consumers t test)) (have_within large l t)
      (within-at_most t test k l (omega arith)) t c)
      t.consumers

  -- the counts of each provider, and what each consumer wants, where some consumers are left out
  pub kept-at_most : (t : Topology C) (test : Consumer → Bool) (p : ℕ)
      → IsAtMost (have small (keep_consumers t test) p) (have large t p)
  kept-at_most t test p = within-at_most t test (length t.geoms) (length t.geoms) (omega arith) p

  -- and what each consumer wants
  pub kept_want-at_most : (t : Topology C) (test : Consumer → Bool) (c : Consumer)
      → IsAtMost (want small (keep_consumers t test) c) (want large t c)
  kept_want-at_most t test c =
      want_given-at_most (have small (keep_consumers t test)) (have large t) (kept-at_most t test) t c

-- a graph that keeps all its consumers
pub keep_all : {C : Type 0} (t : Topology C) → keep_consumers t (λ x. true) ≡ t
keep_all t =
    ap (λ cs. record t { consumers = cs })
    (keeps_all (λ c. true) t.consumers (of_each (λ c. true ≡ true) (λ c. refl) t.consumers))

module _ {C : Type 0} (small large : ℕ → Counts) (grants : AreAtMost small large) (t : Topology C) where
  -- more levels and greater grants never make the counts less
  pub levels-at_most : (k l : ℕ) → k ≤ l → (p : ℕ) → IsAtMost (have_within small k t p) (have_within large l t p)
  levels-at_most k l h p =
      let fact : IsAtMost (have_within small k (keep_consumers t (λ x. true)) p) (have_within large l t p) =
      within-at_most small large grants t (λ x. true) k l h p
      in rw (keep_all t) at fact

  -- counts never fall with greater grants
  pub have-at_most : (p : ℕ) → IsAtMost (have small t p) (have large t p)
  have-at_most p = levels-at_most (length t.geoms) (length t.geoms) (omega arith) p

  -- nor does what a consumer wants
  pub want-at_most : (c : Consumer) → IsAtMost (want small t c) (want large t c)
  want-at_most c = want_given-at_most small large grants (have small t) (have large t) have-at_most t c

-- grants are at most themselves
pub grants-same : (granted : ℕ → Counts) → AreAtMost granted granted
grants-same granted c = at_most-same (granted c)

-- what `counts_follow_demand` says
pub ruleset counts_follow_demand = (have-at_most, want-at_most, kept-at_most, kept_want-at_most)

-- By how much counts rise where demand does.

-- equal counts have nothing more
pub more_of_same : (a b : Counts) → a ≡ b → more_counts a b ≡ no_counts
more_of_same a b e =
    subst (λ z. more_counts a z ≡ no_counts) e
    (counts-same (more_counts a a) no_counts (omega arith) (omega arith) (omega arith))

-- each item's larger count is its smaller one and what it has more
pub sum_of_more : {X : Type 0} (f g : X → Counts) → ((x : X) → IsAtMost (f x) (g x)) → (xs : List X)
    → sum_counts (map g xs) ≡ add_counts (sum_counts (map f xs)) (sum_counts (map (λ x. more_counts (f x) (g x)) xs))
sum_of_more f g less xs =
    sym (sum-same (λ x. add_counts (f x) (more_counts (f x) (g x))) g xs
    (of_each (λ x. add_counts (f x) (more_counts (f x) (g x)) ≡ g x) (λ x. add-more (f x) (g x) (less x)) xs))
    ∙ sum-add f (λ x. more_counts (f x) (g x)) xs

module _ {C : Type 0} (small large : ℕ → Counts) (grants : AreAtMost small large) (t : Topology C) where
  -- what a consumer wants more, from what the providers of its geom have more
  pub want_gains : (c : Consumer) (g : Geom C) → geom_at t c.geom ≡ Some g
      → want large t c
      ≡ add_counts (want small t c)
      (gain_of_kind g.kind
      (map (λ x. have small t x.number) (providers_of t g.number))
      (map (λ x. more_counts (have small t x.number) (have large t x.number)) (providers_of t g.number))
      (more_counts (small c.number) (large c.number)))
  want_gains c g found =
      let ys : List Provider = providers_of t g.number in
      let had : List Counts = map (λ (x : Provider). have small t x.number) ys in
      let has : List Counts = map (λ (x : Provider). have large t x.number) ys in
      let gains : List Counts =
      map (λ (x : Provider). more_counts (have small t x.number) (have large t x.number)) ys in
      let more : Counts = more_counts (small c.number) (large c.number) in
      let after : want large t c ≡ want_of_kind g.kind has (large c.number) =
      ap (want_over (have large t) (large c.number) t) found in
      let before : want small t c ≡ want_of_kind g.kind had (small c.number) =
      ap (want_over (have small t) (small c.number) t) found in
      let sums : sum_counts has ≡ add_counts (sum_counts had) (sum_counts gains) =
      sum_of_more (λ (x : Provider). have small t x.number) (λ (x : Provider). have large t x.number)
      (λ x. have-at_most small large grants t x.number) ys in
      after ∙ want-sum g.kind has (large c.number)
      ∙ ap (λ s. want_of_sum g.kind s (large c.number)) sums
      ∙ ap (want_of_sum g.kind (add_counts (sum_counts had) (sum_counts gains)))
      (sym (add-more (small c.number) (large c.number) (grants c.number)))
      ∙ want_of_sum-gain g.kind had gains (small c.number) more
      ∙ ap (λ a. add_counts a (gain_of_kind g.kind had gains more)) (sym (want-sum g.kind had (small c.number))
      ∙ sym before)

  -- so of one whose grant stays, with other names for the smaller counts and for what it wants by them
  pub want_gains_by : (c : Consumer) (g : Geom C) → geom_at t c.geom ≡ Some g → small c.number ≡ large c.number
      → (H : ℕ → Counts) → ((q : ℕ) → have small t q ≡ H q) → (a : Counts) → want small t c ≡ a
      → want large t c
      ≡ add_counts a
      (gain_of_kind g.kind
      (map (λ x. H x.number) (providers_of t g.number))
      (map (λ x. more_counts (H x.number) (have large t x.number)) (providers_of t g.number))
      no_counts)
  want_gains_by c g found same H haves a wants =
      let ys : List Provider = providers_of t g.number in
      let had : List Counts = map (λ (x : Provider). have small t x.number) ys in
      let gains : List Counts =
      map (λ (x : Provider). more_counts (have small t x.number) (have large t x.number)) ys in
      let counts : have small t ≡ H = λ i q. haves q i in
      subst (λ (K : ℕ → Counts). want large t c
      ≡ add_counts a (gain_of_kind g.kind (map (λ (x : Provider). K x.number) ys)
      (map (λ (x : Provider). more_counts (K x.number) (have large t x.number)) ys) no_counts)) counts
      (want_gains c g found
      ∙ ap (λ more. add_counts (want small t c) (gain_of_kind g.kind had gains more))
      (more_of_same (small c.number) (large c.number) same)
      ∙ ap (λ b. add_counts b (gain_of_kind g.kind had gains no_counts)) wants)

  -- what a provider has more is the sum of what its consumers want more
  pub have_gains : Ranked t → NumbersLead t → (p : ℕ)
      → have large t p
      ≡ add_counts (have small t p)
      (sum_counts (map (λ c. more_counts (want small t c) (want large t c)) (attached_to t p)))
  have_gains ranked known p =
      have_is_sum t ranked known large p
      ∙ sum_of_more (want small t) (want large t) (want-at_most small large grants t) (attached_to t p)
      ∙ ap (λ a. add_counts a (sum_counts (map (λ c. more_counts (want small t c) (want large t c)) (attached_to t p))))
      (sym (have_is_sum t ranked known small p))
