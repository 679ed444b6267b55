-- What refuses a consumer that joins a provider, and which write counts rise with it.
use Rattle.std.specs.Prelude.{◌≡◌, ◌≢◌, ◌⊎◌, ◌↔◌, ℕ, Bool, true, false, not, [], ◌∷◌, None, All, Contains}
use Rattle.std.proofs.Common.{refl}
use Rattle.std.proofs.lemmas.Bool.{not-false, not_from_true}
use Rattle.geo_model.specs.Counts.{Counts}
use Rattle.geo_model.specs.Errno.TheVariants.{ENXIO, ELOOP, EDEEP, EPERM, EOVERFLOW}
use Rattle.geo_model.specs.Words.{first_error}
use Rattle.geo_model.specs.Topology.{Topology, Provider, consumer_at, provider_at, attached_to, attach}
use Rattle.geo_model.specs.Rank.{would_loop, is_too_deep}
use Rattle.geo_model.specs.Opens.{below, has_error_below, join_refusal}
use Rattle.geo_model.specs.Demand.{have, want, is_exclusive, fits_limit}
use Rattle.geo_laws_counts.specs.CountWords.{IsAtMost}
use Rattle.geo_laws_counts.specs.LimitLaws.{NoneInTheWay, greatest_counts}
use Rattle.geo_laws_counts.proofs.LimitFacts.{apart_from, within_limit, all_of}
use Rattle.geo_laws_counts.proofs.Rising.{fallen_none, risen_in, changed_exclusive, changed_limit}
use Rattle.geo_laws_growth.specs.JoinLaws.{Joins, JoiningRisesBelow, IsJoined, JoinsAreAllowed}
use Rattle.geo_laws_growth.proofs.Joining.{counts_raised}
use Rattle.geo_laws_growth.proofs.JoiningBelow.{around_kept}

-- no error comes where no test holds
none_of : (a b c d e : Bool) → first_error ((a, ENXIO) ∷ (b, ELOOP) ∷ (c, EDEEP) ∷ (d, EPERM) ∷ (e, EOVERFLOW) ∷ [])
    ≡ None
    → (a ≡ false) × (b ≡ false) × (c ≡ false) × (d ≡ false) × (e ≡ false)
none_of true b c d e none = cc
none_of false true c d e none = cc
none_of false false true d e none = cc
none_of false false false true e none = cc
none_of false false false false true none = cc
none_of false false false false false none = (refl, refl, refl, refl, refl)

-- and no test holds where none comes
of_none : (a b c d e : Bool) → a ≡ false → b ≡ false → c ≡ false → d ≡ false → e ≡ false
    → first_error ((a, ENXIO) ∷ (b, ELOOP) ∷ (c, EDEEP) ∷ (d, EPERM) ∷ (e, EOVERFLOW) ∷ []) ≡ None
of_none a b c d e ea eb ec ed ee = rw (ea, eb, ec, ed, ee) refl

module _ {C : Type 0} (granted : ℕ → Counts) (t : Topology C) (c p : ℕ) where
  -- the graph with the consumer attached
  abbrev u : Topology C
  u = attach t c p

  -- a consumer is refused just where one of the tests holds
  join_allowed : join_refusal granted t c p ≡ None ↔ IsJoined granted t c p
  join_allowed = (
    (λ none.
        let tests = none_of (has_error_below t p) (would_loop t (consumer_at t c) (provider_at t p)) (is_too_deep u)
        (not (is_exclusive granted u)) (not (fits_limit granted u)) none in
        record {
          errors = tests.0;
          loop = tests.1;
          depth = tests.2;
          exclusive = not-false (is_exclusive granted u) tests.3;
          limit = not-false (fits_limit granted u) tests.4;
        }),
    (λ facts.
        of_none (has_error_below t p) (would_loop t (consumer_at t c) (provider_at t p)) (is_too_deep u)
        (not (is_exclusive granted u)) (not (fits_limit granted u))
        facts.errors facts.loop facts.depth
        (not_from_true (is_exclusive granted u) facts.exclusive)
        (not_from_true (fits_limit granted u) facts.limit)),
  )

  module _ (j : Joins t c p) where
    -- none stands in another's way just where none does at what is reached
    joined_exclusive : is_exclusive granted t ≡ true
        → is_exclusive granted u ≡ true
        ↔ All (λ (x : Provider). Contains (below t p) x.number → NoneInTheWay granted u (attached_to u x.number))
        t.providers
    joined_exclusive before = (
      (λ after.
          all_of (λ (x : Provider). Contains (below t p) x.number → NoneInTheWay granted u (attached_to u x.number))
          t.providers
          (λ x there reached.
          all_of (λ a. All (λ b. a.number ≢ b.number → ((want granted u a).w ≡ 0) ⊎ ((want granted u b).e ≡ 0))
          (attached_to u x.number))
          (attached_to u x.number)
          (λ a first.
          all_of (λ b. a.number ≢ b.number → ((want granted u a).w ≡ 0) ⊎ ((want granted u b).e ≡ 0))
          (attached_to u x.number)
          (λ b second. apart_from granted u after x a b there first second)))),
      changed_exclusive granted t granted u (below t p) (around_kept t c p j granted) refl before,
    )

    -- no count is above the limit just where none is there
    joined_limit : fits_limit granted t ≡ true
        → fits_limit granted u ≡ true
        ↔ All (λ (x : Provider). Contains (below t p) x.number → IsAtMost (have granted u x.number) greatest_counts)
        t.providers
    joined_limit before = (
      (λ after.
          all_of (λ (x : Provider). Contains (below t p) x.number
          → IsAtMost (have granted u x.number) greatest_counts) t.providers
          (λ x there reached. within_limit granted u after x there)),
      changed_limit granted t granted u (below t p) (around_kept t c p j granted) refl before,
    )

-- a consumer isn't refused just where it is allowed, for which it is enough to look at what is reached
pub joins_are_allowed : {C : Type 0} → JoinsAreAllowed C
joins_are_allowed = record { refusal = join_allowed; exclusive = joined_exclusive; limit = joined_limit }

-- what rises is reached, and nothing falls
pub joining_rises_below : {C : Type 0} → JoiningRisesBelow C
joining_rises_below = record {
  risen = λ granted t c p j. risen_in granted t granted (attach t c p) (below t p) (around_kept t c p j granted).haves;
  none_falls = λ granted t c p j. fallen_none granted t granted (attach t c p) (counts_raised t c p j granted);
}
