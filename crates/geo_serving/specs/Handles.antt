-- The handle of the mesh under which each export is open.
use Rattle.std.specs.Prelude.{ℕ, ◌+◌, List, [], ◌∷◌, Option, Some, None, nat_lt, bytes_eq, position, if◌then◌else◌}
use Rattle.geo_nbd.specs.declared.export.Export.{Export}
use Rattle.geo_serving.specs.declared.exported.TheConstants.{MAX_EXPORTS}

-- by its place: `n` and a digit
abbrev pub handle_of : ℕ → Option (List ℕ)
handle_of place = if nat_lt place MAX_EXPORTS then Some (110 ∷ (48 + place) ∷ []) else None

-- the place of the first export of a name
abbrev pub place_of : List Export → List ℕ → Option ℕ
place_of exports name = position (λ e. bytes_eq e.name name) exports

abbrev pub handle_there : Option ℕ → Option (List ℕ)
handle_there None = None
handle_there (Some place) = handle_of place

-- the handle of an export
abbrev pub handle_at : List Export → Export → Option (List ℕ)
handle_at exports export = handle_there (place_of exports export.name)
