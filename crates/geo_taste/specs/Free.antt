-- Names that a new provider can have.
use Rattle.std.specs.Prelude.{ℕ, List, [], ◌∷◌, Option, Some, None, if◌then◌else◌}
use Rattle.geo_model.specs.Topology.{Topology, is_name_taken}
use Rattle.geo_model.specs.World.{Config}
use Rattle.geo_model.specs.Acceptance.{are_names_free}

-- the name, if a provider of it can be made
abbrev pub free_name : Topology Config → List ℕ → Option (List ℕ)
free_name t name = if are_names_free t (name ∷ []) then Some name else None

-- a name, unless a provider without an error has it
abbrev pub untaken : Topology Config → Option (List ℕ) → Option (List ℕ)
untaken t None = None
untaken t (Some name) = if is_name_taken t name then None else Some name
