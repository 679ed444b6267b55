-- The counts of a provider are the sum over the consumers attached to it, where the graph is ranked.
use Rattle.std.specs.Prelude.{◌≡◌, ℕ, zero, suc, ◌+◌, ◌<◌, ◌≤◌, ◌==◌, Bool, true, false, List, [], ◌∷◌, Option, Some, None, filter, map, IfSome, IsSomeAnd, length}
use Rattle.std.specs.List.{AllByRecursion}
use Rattle.std.proofs.Common.{refl, ◌∙◌, ap, arith}
use Rattle.std.proofs.lemmas.Bool.{eqb-true}
use Rattle.std.proofs.lemmas.List.Elements.{recursion_from_All}
use Rattle.geo_base.specs.declared.request.Counts.{Counts}
use Rattle.geo_model.specs.Words.{names_number, largest}
use Rattle.geo_model.specs.Topology.{Topology, Geom, Provider, Consumer, provider_at, geom_at, attached_to, providers_of}
use Rattle.geo_model.specs.Rank.{rank, rank_within, geoms_under, Ranked}
use Rattle.geo_model.specs.Demand.{have, have_within, want, want_given, sum_counts}
pub use Rattle.geo_base.proofs.AllLists.{all_weaker}
-- what a search finds passes the test
pub use Rattle.geo_base.proofs.FindLists.{found_passes as find_passes}

-- functions that agree on each item give the same list
pub map_same : {X Y : Type 0} (f g : X → Y) (xs : List X) → AllByRecursion (λ x. f x ≡ g x) xs → map f xs ≡ map g xs
map_same f g [] same = refl
map_same f g (x ∷ xs) same = ap (λ y. y ∷ map f xs) same.0 ∙ ap (λ ys. g x ∷ ys) (map_same f g xs same.1)

-- what a filter keeps has the fact and passes the test
kept_cons : {X : Type 0} (Q : X → Type 0) (test : X → Bool) (x : X) (xs : List X) (b : Bool) → test x ≡ b
    → (test x ≡ true → Q x) → AllByRecursion Q (filter test xs) → AllByRecursion Q (filter test (x ∷ xs))
kept_cons Q test x xs true e fact rest = rw e (fact e, rest)
kept_cons Q test x xs false e fact rest = rw e rest

pub kept_by : {X : Type 0} (P Q : X → Type 0) (test : X → Bool) → ((x : X) → test x ≡ true → P x → Q x)
    → (xs : List X) → AllByRecursion P xs → AllByRecursion Q (filter test xs)
kept_by P Q test so [] facts = facts
kept_by P Q test so (x ∷ xs) facts =
    kept_cons Q test x xs (test x) refl (λ e. so x e facts.0) (kept_by P Q test so xs facts.1)

-- the largest of numbers that have a bound
pub largest-le : (n : ℕ) (ns : List ℕ) → AllByRecursion (λ k. k ≤ n) ns → largest ns ≤ n
largest-le n [] facts = omega arith
largest-le n (k ∷ ks) facts = omega (arith, facts.0, largest-le n ks facts.1)

pub map_all : {X Y : Type 0} (P : Y → Type 0) (f : X → Y) → ((x : X) → P (f x)) → (xs : List X)
    → AllByRecursion P (map f xs)
map_all P f so [] = tt
map_all P f so (x ∷ xs) = (so x, map_all P f so xs)

-- a rank over so many levels is at most one more
pub rank_within-le : {C : Type 0} (n : ℕ) (t : Topology C) (g : ℕ) → rank_within n t g ≤ n + 1
rank_within-le zero t g = omega arith
rank_within-le (suc n) t g =
    let below : largest (map (rank_within n t) (geoms_under t g)) ≤ n + 1 =
    largest-le (n + 1) _ (map_all (λ k. k ≤ n + 1) (rank_within n t) (rank_within-le n t) (geoms_under t g))
    in omega (arith, below)

pub rank_within-positive : {C : Type 0} (n : ℕ) (t : Topology C) (g : ℕ) → 1 ≤ rank_within n t g
rank_within-positive zero t g = omega arith
rank_within-positive (suc n) t g = omega arith

pub no_items : {X : Type 0} (xs : List X) → AllByRecursion (λ x. ⊥) xs → xs ≡ []
no_items [] facts = refl
no_items (x ∷ xs) facts = absurd facts.0

-- what names a number is that number
pub names_some : (o : Option ℕ) (p : ℕ) → names_number o p ≡ true → o ≡ Some p
names_some None p e = cc
names_some (Some m) p e = ap (λ n. Some n) (eqb-true m p e)

module _ {C : Type 0} (granted : ℕ → Counts) (t : Topology C) where
  -- the same haves of a geom's providers give the same want of its consumer
  want_by : (H K : ℕ → Counts) (c : Consumer) (o : Option (Geom C)) → geom_at t c.geom ≡ o
      → ((g : Geom C) → geom_at t c.geom ≡ Some g
      → AllByRecursion (λ y. H y.number ≡ K y.number) (providers_of t g.number))
      → want_given granted H t c ≡ want_given granted K t c
  want_by H K c None e same = rw e refl
  want_by H K c (Some g) e same =
      let haves : map (λ y. H y.number) (providers_of t g.number) ≡ map (λ y. K y.number) (providers_of t g.number) =
      map_same (λ y. H y.number) (λ y. K y.number) (providers_of t g.number) (same g e)
      in rw (e, haves) refl

  -- the consumers at a provider have geoms of greater rank
  attached-rank : Ranked t → (p : ℕ) (x : Provider) → provider_at t p ≡ Some x
      → AllByRecursion (λ c. rank t x.geom < rank t c.geom) (attached_to t p)
  attached-rank ranked p x found =
      kept_by
      (λ (c : Consumer). IfSome c.provider (λ q. IsSomeAnd (provider_at t q) (λ y. rank t y.geom < rank t c.geom)))
      (λ (c : Consumer). rank t x.geom < rank t c.geom)
      (λ (c : Consumer). names_number c.provider p)
      (λ c e h. rw found at (rw (names_some c.provider p e) at h))
      t.consumers
      (recursion_from_All _ t.consumers ranked)

  -- the providers of a consumer's geom are of that geom
  same_geom : (c : Consumer) (g : Geom C) → geom_at t c.geom ≡ Some g
      → AllByRecursion (λ y. provider_at t y.number ≡ Some y) t.providers
      → AllByRecursion (λ y. (provider_at t y.number ≡ Some y) × (y.geom ≡ c.geom)) (providers_of t g.number)
  same_geom c g found known =
      kept_by
      (λ (y : Provider). provider_at t y.number ≡ Some y)
      (λ (y : Provider). (provider_at t y.number ≡ Some y) × (y.geom ≡ c.geom))
      (λ (y : Provider). y.geom == g.number)
      (λ y e h. (
        h,
        eqb-true y.geom g.number e
            ∙ eqb-true g.number c.geom (find_passes (λ z. z.number == c.geom) t.geoms g found),
      ))
      t.providers
      known

module _ {C : Type 0} (granted : ℕ → Counts) (t : Topology C) (ranked : Ranked t)
    (known : AllByRecursion (λ (y : Provider). provider_at t y.number ≡ Some y) t.providers) where
  -- from the level on that covers what can stand above a provider, one level more changes nothing
  have_within-more : (k : ℕ) (p : ℕ) (x : Provider) → provider_at t p ≡ Some x → length t.geoms + 1 ≤ k + rank t x.geom
      → have_within granted k t p ≡ have_within granted (suc k) t p
  have_within-more zero p x found high =
      let none : attached_to t p ≡ [] =
      no_items (attached_to t p)
      (all_weaker (λ (c : Consumer). rank t x.geom < rank t c.geom) (λ (c : Consumer). ⊥)
      (λ c above. omega (arith, above, high, rank_within-le (length t.geoms) t c.geom))
      (attached_to t p)
      (attached-rank granted t ranked p x found))
      in rw none refl
  have_within-more (suc k) p x found high =
      ap sum_counts
      (map_same (want_given granted (have_within granted k t) t) (want_given granted (have_within granted (suc k) t) t)
      (attached_to t p)
      (all_weaker (λ (c : Consumer). rank t x.geom < rank t c.geom)
      (λ (c : Consumer). want_given granted (have_within granted k t) t c
      ≡ want_given granted (have_within granted (suc k) t) t c)
      (λ c above.
      want_by granted t (have_within granted k t) (have_within granted (suc k) t) c (geom_at t c.geom) refl
      (λ g e.
      all_weaker (λ (y : Provider). (provider_at t y.number ≡ Some y) × (y.geom ≡ c.geom))
      (λ (y : Provider). have_within granted k t y.number ≡ have_within granted (suc k) t y.number)
      (λ y h. have_within-more k y.number y h.0 (rw h.1 (omega (arith, above, high))))
      (providers_of t g.number)
      (same_geom granted t c g e known)))
      (attached_to t p)
      (attached-rank granted t ranked p x found)))

  -- the counts of a provider are the sum over the consumers attached to it
  pub have-sum : (p : ℕ) (x : Provider) → provider_at t p ≡ Some x
      → have granted t p ≡ sum_counts (map (want granted t) (attached_to t p))
  have-sum p x found =
      have_within-more (length t.geoms) p x found (omega (arith, rank_within-positive (length t.geoms) t x.geom))
