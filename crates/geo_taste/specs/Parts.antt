-- Slices and partitions from a place on, and when they can be added.
use Rattle.std.specs.Prelude.{◌≡◌, ℕ, ◌*◌, Bool, true, false, not, ◌&&◌, List, [], ◌∷◌, ◌++◌, Option, Some, None, if◌then◌else◌}
use Rattle.std.specs.List.{AllByRecursion, list_all}
use Rattle.geo_base.specs.Name.{is_name}
use Rattle.geo_model.specs.Words.{same_name}
use Rattle.geo_model.specs.Topology.{Topology, is_name_taken}
use Rattle.geo_model.specs.World.{Config}
use Rattle.geo_model.specs.Acceptance.{NewSlice}
use Rattle.geo_mesh.specs.Topo.{is_provider_size}

-- whether each has a name
abbrev pub are_names : List NewSlice → Bool
are_names slices = list_all (λ x. is_name x.name) slices

-- they, if each has a name
abbrev pub named_all : List NewSlice → Option (List NewSlice)
named_all slices = if are_names slices then Some slices else None

-- a provider can be made of a part
abbrev pub CanAddPart : Topology Config → NewSlice → Type 0
CanAddPart t x = (is_name_taken t x.name ≡ false) × (is_provider_size x.size 512 ≡ true)

-- two parts differ in name
abbrev pub PartsDiffer : NewSlice → NewSlice → Type 0
PartsDiffer x y = same_name x.name y.name ≡ false

-- each differs in name from all behind it
abbrev pub ArePartsApart : List NewSlice → Type 0
ArePartsApart [] = Unit {0}
ArePartsApart (x ∷ xs) = AllByRecursion (PartsDiffer x) xs × ArePartsApart xs

-- whether a provider can be made of a part
abbrev pub is_addable : Topology Config → NewSlice → Bool
is_addable t x = not (is_name_taken t x.name) && is_provider_size x.size 512

-- a part of so many sectors was put behind the others, if it has a name
abbrev pub IsPushed : Option (List ℕ) → ℕ → Bool → List NewSlice → List NewSlice → Type 0
IsPushed None sectors named old new = named ≡ false
IsPushed (Some name) sectors named old new =
    (named ≡ true) × (new ≡ old ++ record { name = name; size = sectors * 512 } ∷ [])

-- so was the part of a place that may be empty
abbrev pub IsPlacePushed : Option (List ℕ) → Option ℕ → Bool → List NewSlice → List NewSlice → Type 0
IsPlacePushed name None named old new = (named ≡ true) × (new ≡ old)
IsPlacePushed name (Some sectors) named old new = IsPushed name sectors named old new
