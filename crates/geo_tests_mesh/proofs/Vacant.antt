-- Nothing is there where nothing is found from number 0 on.
use Rattle.std.specs.Prelude.{◌≡◌, ℕ, nat_le, List, [], ◌∷◌, find, None}
use Rattle.std.specs.Option.{option_map}
use Rattle.std.proofs.Common.{refl, rules}
use Rattle.geo_model.specs.Topology.{Topology, Provider, Consumer, attached_to, consumers_of, providers_of}
use Rattle.geo_mesh.specs.Topo.{first_consumer, first_provider}

module _ {X : Type 0} (number : X → ℕ) where
  none_there : (xs : List X) → option_map number (find (λ x. nat_le 0 (number x)) xs) ≡ None → xs ≡ []
  none_there [] e = refl
  none_there (x ∷ xs) e = search rules

pub none_attached : {C : Type 0} (t : Topology C) (p : ℕ) → first_consumer (attached_to t p) 0 ≡ None
    → attached_to t p ≡ []
none_attached t p none = none_there (λ (x : Consumer). x.number) (attached_to t p) none

pub none_owned : {C : Type 0} (t : Topology C) (g : ℕ) → first_consumer (consumers_of t g) 0 ≡ None
    → consumers_of t g ≡ []
none_owned t g none = none_there (λ (x : Consumer). x.number) (consumers_of t g) none

pub none_offered : {C : Type 0} (t : Topology C) (g : ℕ) → first_provider (providers_of t g) 0 ≡ None
    → providers_of t g ≡ []
none_offered t g none = none_there (λ (x : Provider). x.number) (providers_of t g) none
