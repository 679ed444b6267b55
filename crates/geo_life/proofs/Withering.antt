-- The walk over the providers of a geom that withers, and what is left of a walk after a change that it has passed.
use Rattle.std.specs.Prelude.{◌≡◌, ℕ, ◌<◌, ◌≤◌, ◌==◌, nat_le, false, List, ◌+◌, true, not, [], ◌∷◌, map, filter, fold, if◌then◌else◌}
use Rattle.std.proofs.Common.{ap, ◌∙◌, arith, refl, rules}
use Rattle.std.proofs.lemmas.Bool.{leb-true, ne_eqb}
use Rattle.geo_model.specs.Words.{change_where}
use Rattle.geo_laws_graph.specs.LookupLaws.{left_from, ErrorIsFound}
use Rattle.geo_laws_graph.proofs.Lists.{filter-changed, unhit}
use Rattle.geo_laws_graph.proofs.Members.{All-from_contained, filter-Contains}
use Rattle.geo_model.specs.Topology.{Topology, Provider, providers_of, set_error}
use Rattle.geo_model.specs.Events.{QueuedTopology, orphan_provider}
use Rattle.geo_laws_graph.proofs.Found.{error-found}
use Rattle.geo_laws_graph.proofs.Walks.{walk-begin}

module _ {X : Type 0} (number : X → ℕ) (change : X → X) (same : (x : X) → number (change x) ≡ number x) (n : ℕ) where
  -- a change of the item of a number leaves what is left from a greater number on
  pub left_past : (m : ℕ) → n < m → (xs : List X)
      → left_from number m (change_where (λ x. number x == n) change xs) ≡ left_from number m xs
  left_past m less xs =
      filter-changed (λ (x : X). number x == n) change (λ (x : X). nat_le m (number x))
      (λ x hit. ap (nat_le m) (same x))
      xs
      ∙ unhit (λ (x : X). number x == n) change (left_from number m xs)
      (All-from_contained (λ (x : X). (number x == n) ≡ false) (left_from number m xs)
      (λ x there.
      let past : m ≤ number x =
      leb-true m (number x) (filter-Contains (λ (y : X). nat_le m (number y)) xs x there).1 in
      ne_eqb (number x) n (λ is. omega (arith, is, past, less))))

module _ {C : Type 0} (g : ℕ) where
  -- the providers of the geom from a number on
  abbrev pub providers_left : Topology C → ℕ → List Provider
  providers_left t from_number = left_from (λ (x : Provider). x.number) from_number (providers_of t g)

  -- those without an error, orphaned in order
  abbrev pub orphan_left : QueuedTopology C → ℕ → QueuedTopology C
  orphan_left q from_number =
      fold orphan_provider q (map (λ x. x.number) (filter (λ x. not x.errored) (providers_left q.topology from_number)))

  -- at the beginning all of them are left
  pub orphan_begin : (q : QueuedTopology C)
      → orphan_left q 0
      ≡ fold orphan_provider q (map (λ x. x.number) (filter (λ x. not x.errored) (providers_of q.topology g)))
  orphan_begin q = search (rules, walk-begin (λ (x : Provider). x.number) (providers_of q.topology g))

  -- a provider that gets an error isn't among those behind it
  error_past : (t : Topology C) (n : ℕ) → providers_left (set_error t n) (n + 1) ≡ providers_left t (n + 1)
  error_past t n =
      ap (left_from (λ (x : Provider). x.number) (n + 1)) (ErrorIsFound.of error-found t n g)
      ∙ left_past (λ (x : Provider). x.number) (λ x. record x { errored = true }) (λ x. refl) n (n + 1) (omega arith)
      (providers_of t g)

  -- one that carries none is orphaned
  pub orphan_one : (q : QueuedTopology C) (from_number n : ℕ) (x : Provider)
      → providers_left q.topology from_number ≡ x ∷ providers_left q.topology (n + 1) → x.number ≡ n
      → x.errored ≡ false
      → orphan_left (orphan_provider q n) (n + 1) ≡ orphan_left q from_number
  orphan_one q from_number n x left number is = search (rules, error_past q.topology n)

  -- either way
  pub orphan_step : (q new : QueuedTopology C) (from_number n : ℕ) (x : Provider)
      → providers_left q.topology from_number ≡ x ∷ providers_left q.topology (n + 1) → x.number ≡ n
      → new ≡ (if x.errored then q else orphan_provider q n)
      → orphan_left new (n + 1) ≡ orphan_left q from_number
  orphan_step q new from_number n x left number is = search (rules, orphan_one q from_number n x left number)

  -- at the end none is left
  pub orphan_end : (q : QueuedTopology C) (from_number : ℕ) → providers_left q.topology from_number ≡ []
      → orphan_left q from_number ≡ q
  orphan_end q from_number none = search rules
