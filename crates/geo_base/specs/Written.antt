-- Bytes that are written over others.
use Rattle.std.specs.Prelude.{ℕ, List, ◌++◌, length, take, drop}

-- the bytes with others written over them from the first on; their number stays
abbrev pub written_over : List ℕ → List ℕ → List ℕ
written_over bytes others = take (length bytes) (others ++ drop (length others) bytes)
