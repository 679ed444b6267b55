-- What contracts see of a list of passes.
use Rattle.std.specs.Prelude.{ℕ, List}
use Rattle.geo_lock.specs.Pass.{PassView}

-- the passes, and how many more can be pushed
pub record PassListView (B E : Type 0) : Type 0 where
  pub items : List (PassView B E)
  pub spare : ℕ
