-- Numbers in bytes, the highest byte first.
use Rattle.std.specs.Prelude.{ℕ, List, ◌++◌, take, drop}
use Rattle.byteorder.specs.Endian.{big_number}

-- the number in so many bytes from a place on
abbrev pub number_at : ℕ → ℕ → List ℕ → ℕ
number_at n at bytes = big_number n (drop at bytes)

-- bytes, with so many of them from a place on replaced
abbrev pub put : ℕ → ℕ → List ℕ → List ℕ → List ℕ
put at n part bytes = take at bytes ++ (part ++ drop n (drop at bytes))
