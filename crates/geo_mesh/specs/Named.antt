-- Geoms of a class and of a name.
use Rattle.std.specs.Prelude.{ℕ, ◌&&◌, Bool, List}
use Rattle.geo_model.specs.Kind.{Kind}
use Rattle.geo_model.specs.Words.{is_kind, same_name}
use Rattle.geo_mesh.specs.declared.records.GeomCell.{GeomCell}

-- whether the geom is of the class
abbrev pub is_of_class : {C : Type 0} → Kind → GeomCell C → Bool
is_of_class kind x = is_kind x.geom.kind kind

-- whether the geom is of the class and of the name
abbrev pub is_of : {C : Type 0} → Kind → List ℕ → GeomCell C → Bool
is_of kind name x = is_kind x.geom.kind kind && same_name x.geom.name name
