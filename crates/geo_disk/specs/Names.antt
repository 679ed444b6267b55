-- Lists whose items have names.
use Rattle.std.specs.Prelude.{ℕ, List, Option, Bool, bytes_eq, filter, find, not}
use Rattle.std.specs.List.{list_any}

-- whether a name is among some
abbrev pub is_among : List ℕ → List (List ℕ) → Bool
is_among name names = list_any (bytes_eq name) names

-- names without one
abbrev pub names_without : List ℕ → List (List ℕ) → List (List ℕ)
names_without name names = filter (λ other. not (bytes_eq name other)) names

-- whether an item has the name
abbrev pub is_named : {X : Type 0} → (X → List ℕ) → List ℕ → X → Bool
is_named name_of name x = bytes_eq name (name_of x)

-- the first item of the name
abbrev pub named : {X : Type 0} → (X → List ℕ) → List ℕ → List X → Option X
named name_of name xs = find (is_named name_of name) xs
