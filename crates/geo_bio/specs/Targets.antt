-- The targets of the pieces of a request, as contracts see them.
use Rattle.std.specs.Prelude.{ℕ, List}

-- for each piece the consumer and the provider, and for how many more there is room
pub record TargetsView : Type 0 where
  pub items : List (ℕ × ℕ)
  pub spare : ℕ
