-- The walk over the consumers of DEV at a provider.
use Rattle.std.specs.Prelude.{◌≡◌, ℕ, ◌+◌, nat_le, Bool, true, false, cond, List, [], ◌∷◌, map, filter}
use Rattle.std.proofs.Common.{sym, ap, ◌∙◌, rules}
use Rattle.geo_model.specs.Topology.{Topology, Consumer, attached_to}
use Rattle.geo_model.specs.Events.{is_of_dev, dying_consumers}
use Rattle.geo_laws_graph.specs.LookupLaws.{left_from}
use Rattle.geo_laws_graph.proofs.Lists.{filter-filter}
use Rattle.geo_base.proofs.FilterLists.{filter-map}

module _ {C : Type 0} (t : Topology C) (p : ℕ) where
  -- the consumers at the provider, from a number on
  abbrev pub users_left : ℕ → List Consumer
  users_left n = left_from (λ (c : Consumer). c.number) n (attached_to t p)

  -- those that die, from a number on
  abbrev pub dying_left : ℕ → List ℕ
  dying_left n = left_from (λ m. m) n (dying_consumers t p)

  -- are those of DEV among the consumers that are left
  pub dying_is : (n : ℕ) → dying_left n ≡ map (λ c. c.number) (filter (is_of_dev t) (users_left n))
  dying_is n =
      filter-map (nat_le n) (λ (c : Consumer). c.number) (filter (is_of_dev t) (attached_to t p))
      ∙ ap (map (λ (c : Consumer). c.number))
      (filter-filter (is_of_dev t) (λ (c : Consumer). nat_le n c.number) (attached_to t p))

  module _ (from_number : ℕ) (x : Consumer)
      (left : users_left from_number ≡ x ∷ users_left (x.number + 1)) where
    -- whether the next one is of DEV
    next_is : (b : Bool) → is_of_dev t x ≡ b
        → dying_left from_number
        ≡ cond b (x.number ∷ dying_left (x.number + 1)) (dying_left (x.number + 1))
    next_is true e =
        dying_is from_number
        ∙ ap (λ ys. map (λ (c : Consumer). c.number) (filter (is_of_dev t) ys)) left
        ∙ ap (λ b. map (λ (c : Consumer). c.number)
        (cond b (x ∷ filter (is_of_dev t) (users_left (x.number + 1)))
        (filter (is_of_dev t) (users_left (x.number + 1))))) e
        ∙ ap (λ ns. x.number ∷ ns) (sym (dying_is (x.number + 1)))
    next_is false e = search (rules, dying_is from_number, dying_is (x.number + 1))

    -- it dies
    pub dying_here : is_of_dev t x ≡ true → dying_left from_number ≡ x.number ∷ dying_left (x.number + 1)
    dying_here e = next_is true e

    -- it doesn't
    pub dying_pass : is_of_dev t x ≡ false → dying_left (x.number + 1) ≡ dying_left from_number
    dying_pass e = sym (next_is false e)

  -- none is left
  pub dying_end : (from_number : ℕ) → users_left from_number ≡ [] → dying_left from_number ≡ []
  dying_end from_number none = search (rules, dying_is from_number)
