-- Actors of whom none has a command left, but one that is given one.
use Rattle.std.specs.Prelude.{◌≡◌, ℕ, zero, suc, ◌+◌, ◌<◌, ◌≤◌, ◌==◌, ◌⊎◌, true, List, [], ◌∷◌, map, length, Some, None, slice_get, slice_set}
use Rattle.std.specs.List.{range_with_len, list_all}
use Rattle.std.proofs.Common.{refl, ap, ◌∙◌, arith, inl, inr, ⊎_elim}
use Rattle.std.proofs.lemmas.Bool.{eq-eqb, ne_eqb}
use Rattle.geo_model.specs.declared.command.LineCommand.{LineCommand}
use Rattle.geo_session.specs.Growth.{more_for, more_left}
use Rattle.geo_session.specs.Session.{none_left}
use Rattle.geo_session.proofs.Lists.{more_from}

abbrev nones : ℕ → ℕ → List (List LineCommand)
nones a n = map (λ actor. []) (range_with_len a n)

none_from : (a n k : ℕ) → k < n → slice_get (nones a n) k ≡ Some []
none_from a zero k less = absurd (omega (arith, less))
none_from a (suc n) zero less = refl
none_from a (suc n) (suc k) less = none_from (a + 1) n k (omega (arith, less))

-- an actor that is there has no command
pub none_at : (n k : ℕ) → k < n → slice_get (none_left n) k ≡ Some []
none_at n k less = none_from 0 n k less

beyond_from : (a n k : ℕ) → n ≤ k → slice_get (nones a n) k ≡ None
beyond_from a zero k less = refl
beyond_from a (suc n) zero less = absurd (omega (arith, less))
beyond_from a (suc n) (suc k) less = beyond_from (a + 1) n k (omega (arith, less))

-- another isn't there
pub none_beyond : (n k : ℕ) → n ≤ k → slice_get (none_left n) k ≡ None
none_beyond n k less = beyond_from 0 n k less

-- none has one in all
done_from : (a n : ℕ) → list_all (λ (rest : List LineCommand). length rest == 0) (nones a n) ≡ true
done_from a zero = refl
done_from a (suc n) = done_from (a + 1) n

pub all_done : (n : ℕ) → list_all (λ (rest : List LineCommand). length rest == 0) (none_left n) ≡ true
all_done n = done_from 0 n

-- What is given

module _ (c : LineCommand) where
  -- an actor to whom it isn't given has none still
  not_given : (k : ℕ) → (c.actor ≡ k → ⊥) → more_for c (k, []) ≡ []
  not_given k other = rw (ne_eqb c.actor k other) refl

  pub given : more_for c (c.actor, []) ≡ c ∷ []
  given = rw (eq-eqb c.actor c.actor refl) refl

  given_beyond : (k a n i : ℕ) → n ≤ i → slice_get (more_from c k (nones a n)) i ≡ None
  given_beyond k a zero i less = refl
  given_beyond k a (suc n) zero less = absurd (omega (arith, less))
  given_beyond k a (suc n) (suc i) less = given_beyond (k + 1) (a + 1) n i (omega (arith, less))

  -- it is given to no one that isn't there
  pub none_given : (n : ℕ) → n ≤ c.actor → slice_get (more_left c (none_left n)) c.actor ≡ None
  none_given n less = given_beyond 0 0 n c.actor less

  others : (k a n : ℕ) → c.actor < k → more_from c k (nones a n) ≡ nones a n
  others k a zero less = refl
  others k a (suc n) less =
      ap (λ (head : List LineCommand). head ∷ more_from c (k + 1) (nones (a + 1) n))
      (not_given k (λ same. omega (arith, less, same)))
      ∙ ap (λ (rest : List (List LineCommand)). [] ∷ rest) (others (k + 1) (a + 1) n (omega (arith, less)))

  back_from : (k a n i : ℕ) → c.actor ≡ k + i → slice_set (more_from c k (nones a n)) i [] ≡ nones a n
  back_from k a zero i at = refl
  back_from k a (suc n) zero at =
      ap (λ (rest : List (List LineCommand)). [] ∷ rest) (others (k + 1) (a + 1) n (omega (arith, at)))
  back_from k a (suc n) (suc i) at =
      ap (λ (head : List LineCommand). head ∷ slice_set (more_from c (k + 1) (nones (a + 1) n)) i [])
      (not_given k (λ same. omega (arith, at, same)))
      ∙ ap (λ (rest : List (List LineCommand)). [] ∷ rest) (back_from (k + 1) (a + 1) n i (omega (arith, at)))

  -- where it is gone none has one left
  pub gone : (n : ℕ) → slice_set (more_left c (none_left n)) c.actor [] ≡ none_left n
  gone n = back_from 0 0 n c.actor (omega arith)

-- each actor is there or isn't
pub none_or_less : (n k : ℕ) → (k < n) ⊎ (n ≤ k)
none_or_less zero k = inr (omega arith)
none_or_less (suc n) zero = inl (omega arith)
none_or_less (suc n) (suc k) =
    ⊎_elim (λ (less : k < n). let more : suc k < suc n = omega (arith, less) in inl more)
    (λ (less : n ≤ k). let more : suc n ≤ suc k = omega (arith, less) in inr more) (none_or_less n k)
