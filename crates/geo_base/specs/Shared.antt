-- Bytes that have several holders.
use Rattle.std.specs.Prelude.{ℕ, ⊤, ◌≤◌, List, length, slice_range}
use Rattle.std.specs.Arc.{arc_value}
use Rattle.geo_base.specs.declared.shared.Cells.{Cells}
use Rattle.geo_base.specs.declared.shared.Cells.TheVariants as cells

-- the bytes, wherever they are
abbrev pub bytes_in : Cells → List ℕ
bytes_in (cells.Own block) = block
bytes_in (cells.Shared all start end) = slice_range (arc_value all) start end

-- two places lie within bytes, the first not behind the second
pub record IsWithin (bytes : List ℕ) (start end : ℕ) : Type 0 where
  pub rising : start ≤ end
  pub inside : end ≤ length bytes

-- what is shared has the places from which and before which its bytes are
abbrev pub AreWithin : Cells → Type 0
AreWithin (cells.Own block) = ⊤
AreWithin (cells.Shared all start end) = IsWithin (arc_value all) start end
