-- Assemblies whose places are filled one after another.
use Rattle.std.specs.Prelude.{ℕ, ◌+◌, ◌<◌, ◌≤◌, Bool, not, ◌||◌, List, length, sum, Option, Some, None, is_some, if◌then◌else◌}
use Rattle.std.specs.List.{list_all}
use Rattle.geo_model.specs.TheConstants.{MAX_COMPONENTS, MAX_MEDIA_BYTES}
use Rattle.geo_model.specs.Acceptance.{is_size, joined_size, places_of}
use Rattle.geo_model.specs.World.{Config, Concat, Nop}

-- a size, where a provider may have it
abbrev pub allowed_size : ℕ → Option ℕ
allowed_size size = if is_size size then Some size else None

-- whether a place is free, or the size of the whole is one that a provider may have
abbrev pub can_stand : Config → Bool
can_stand config = not (list_all is_some (places_of config)) || is_size (joined_size config)

-- such a configuration
abbrev pub standing : Config → Option Config
standing config = if can_stand config then Some config else None

-- a concat with room for a component of a size more
pub record HasRoom (sizes : List ℕ) (size : ℕ) : Type 0 where
  pub few : length sizes < MAX_COMPONENTS
  pub fits : sum sizes + size ≤ MAX_MEDIA_BYTES

abbrev pub CanGrow : Config → ℕ → Type 0
CanGrow (Concat id places sizes) size = HasRoom sizes size
CanGrow _ size = ⊥

-- how a NOP fails its requests
abbrev pub fail_of : Config → Option ℕ
fail_of (Nop below offset fail) = Some fail
fail_of _ = None
