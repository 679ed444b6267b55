-- Components one behind the other, as contracts see them.
use Rattle.std.specs.Prelude.{ℕ, List}

-- the sizes of the components, and the size of their sectors
pub record ConcatView : Type 0 where
  pub sizes : List ℕ
  pub sector : ℕ
