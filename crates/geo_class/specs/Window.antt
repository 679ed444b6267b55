-- A provider that lies in one component as a whole, as contracts see it.
use Rattle.std.specs.Prelude.{ℕ, ◌+◌, List, [], ◌∷◌, Option, Some}
use Rattle.geo_model.specs.declared.span.Stretch.{Stretch}
use Rattle.geo_model.specs.Place.{Spot, window}

-- where it starts in component 0, its size, and the size of its sectors
pub record WindowView : Type 0 where
  pub start : ℕ
  pub size : ℕ
  pub sector : ℕ

-- an offset lies in component 0, behind the start
abbrev pub window_spot : WindowView → ℕ → Option Spot
window_spot w o = Some (record { component = 0; offset = w.start + o })

-- all of it is one stretch
abbrev pub window_stretches : WindowView → ℕ → ℕ → List Stretch
window_stretches w o len = window w.start w.size ∷ []
