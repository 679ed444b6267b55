-- Lists with room.
use Rattle.std.specs.Prelude.{ℕ, List}

-- values in order, and for how many more there is room
pub record Room (T : Type 0) : Type 0 where
  pub items : List T
  pub spare : ℕ
