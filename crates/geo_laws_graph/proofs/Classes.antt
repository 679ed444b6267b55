-- What a class says of its geoms' numbers and configurations.
use Rattle.std.specs.Prelude.{◌≡◌, ◌≢◌, ℕ, true, false, ◌||◌, Some, IsTrue}
use Rattle.std.proofs.Common.{refl, ◌∙◌, ap}
use Rattle.std.proofs.lemmas.Bool.{ne_eqb, or_from}
use Rattle.geo_model.specs.Kind.{Kind}
use Rattle.geo_model.specs.Kind.TheVariants as kinds
use Rattle.geo_model.specs.Words.{is_kind, is_granted_kind}
use Rattle.geo_model.specs.Topology.{Geom}
use Rattle.geo_model.specs.World.{Config, Nothing, Disk}
use Rattle.geo_model.specs.Place.{disk_of}
use Rattle.geo_model.specs.Sound.{fits_kind, IsOfItsClass}

-- a class is DEV, or TASTE, or grants nothing
pub granted_is : (kind : Kind) → is_granted_kind kind ≡ (is_kind kind kinds.Dev || is_kind kind kinds.Taste)
granted_is kinds.Disk = refl
granted_is _ = refl

-- a geom of its class, neither 1 nor 2, is neither DEV nor TASTE
pub not_granted : (x : Geom Config) → IsOfItsClass x → x.number ≢ 1 → x.number ≢ 2 → is_granted_kind x.kind ≡ false
not_granted x of apart other =
    granted_is x.kind
    ∙ or_from (is_kind x.kind kinds.Dev) (is_kind x.kind kinds.Taste)
    (of.dev ∙ ne_eqb x.number 1 apart) (of.taste ∙ ne_eqb x.number 2 other)

-- a geom of DEV or TASTE has no configuration
pub bare_config : (kind : Kind) (config : Config) → is_granted_kind kind ≡ true → IsTrue (fits_kind kind config)
    → config ≡ Nothing
bare_config kinds.Dev Nothing granted fits = refl
bare_config kinds.Taste Nothing granted fits = refl
bare_config _ _ granted fits = absurd cc

-- a configuration that has a disk
pub is_disk : (config : Config) (disk : ℕ) → disk_of config ≡ Some disk → config ≡ Disk disk
is_disk (Disk d) disk e = let same : d ≡ disk = cc in ap Disk same
is_disk _ disk e = absurd cc
