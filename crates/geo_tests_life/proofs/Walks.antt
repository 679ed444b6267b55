-- Walks over all providers, and over the consumers of handles.
use Rattle.std.specs.Prelude.{◌≡◌, ℕ, suc, ◌+◌, ◌≤◌, nat_le, false, List, [], ◌∷◌, find, length, Some, None, All}
use Rattle.std.specs.Option.{option_map}
use Rattle.std.proofs.Common.{sym, ap, subst, arith}
use Rattle.std.proofs.lemmas.List.Elements.{All-nil, All-cons}
use Rattle.geo_model.specs.Topology.{Topology, Provider, Consumer}
use Rattle.geo_mesh.specs.Graph.{IsSoundGraph}
use Rattle.geo_laws_graph.specs.LookupLaws.{left_from, IsStep, WalksMeetAll}
use Rattle.geo_laws_graph.proofs.Walks.{walks-meet}
use Rattle.geo_life.specs.Life.{sound_providers}
use Rattle.geo_life.specs.LifeLaws.{PlacesAreFew}
use Rattle.geo_life.proofs.Places.{places_are_few}

-- the consumer isn't marked
abbrev pub IsUnmarked : Consumer → Type 0
IsUnmarked c = c.spoiled ≡ false

-- those that are left, from a number on
abbrev pub users_left : List Consumer → ℕ → List Consumer
users_left xs from_number = left_from (λ (c : Consumer). c.number) from_number xs

-- at the beginning all are left
pub unmarked_begin : (xs : List Consumer) → All IsUnmarked (users_left xs 0) → All IsUnmarked xs
unmarked_begin xs all = subst (All IsUnmarked) (WalksMeetAll.begin walks-meet (λ (c : Consumer). c.number) xs) all

-- one more is left where it isn't marked
pub unmarked_step : (xs : List Consumer) (from_number n : ℕ) (x : Consumer)
    → users_left xs from_number ≡ x ∷ users_left xs (n + 1) → x.spoiled ≡ false
    → All IsUnmarked (users_left xs (n + 1)) → All IsUnmarked (users_left xs from_number)
unmarked_step xs from_number n x left its rest =
    subst (All IsUnmarked) (sym left) (All-cons IsUnmarked x (users_left xs (n + 1)) its rest)

-- none is left
pub unmarked_end : (xs : List Consumer) (from_number : ℕ) → users_left xs from_number ≡ []
    → All IsUnmarked (users_left xs from_number)
unmarked_end xs from_number none = subst (All IsUnmarked) (sym none) (All-nil IsUnmarked)

-- how many providers are left, from a number on
abbrev pub many_left : {C : Type 0} → Topology C → ℕ → ℕ
many_left t from_number = length (left_from (λ (p : Provider). p.number) from_number t.providers)

module _ {C : Type 0} (t : Topology C) where
  -- at the beginning no fewer than those without an error
  pub many_begin : sound_providers t ≤ 0 + many_left t 0
  many_begin =
      let all : many_left t 0 ≡ length t.providers =
      ap length (WalksMeetAll.begin walks-meet (λ (p : Provider). p.number) t.providers) in
      let few : sound_providers t ≤ length t.providers = PlacesAreFew.sound places_are_few t in
      omega (arith, all, few)

  module _ (sound : IsSoundGraph t) (from_number n : ℕ)
      (first : option_map (λ (p : Provider). p.number) (find (λ p. nat_le from_number p.number) t.providers) ≡ Some n)
    where
      -- the next one
      pub many_next : IsStep (λ (p : Provider). p.number) t.providers t.next_provider from_number n
      many_next =
          WalksMeetAll.step walks-meet (λ (p : Provider). p.number) t.providers t.next_provider from_number n
          sound.orderly.order.providers first

      -- one fewer is left behind it
      pub many_step : many_left t from_number ≡ 1 + many_left t (n + 1)
      many_step =
          let more : many_left t from_number ≡ suc (many_left t (n + 1)) = ap length many_next.left in
          omega (arith, more)

  -- none is left
  pub many_end : (from_number : ℕ)
      → option_map (λ (p : Provider). p.number) (find (λ p. nat_le from_number p.number) t.providers) ≡ None
      → many_left t from_number ≡ 0
  many_end from_number none =
      ap length (WalksMeetAll.rest walks-meet (λ (p : Provider). p.number) t.providers from_number none)
