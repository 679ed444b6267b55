-- The words that are left of a line.
use Rattle.std.specs.Prelude.{ℕ, ◌^◌, ◌<◌, List, [], length, Option, Some, None}
use Rattle.std.specs.Borrow.{Bor}
use Rattle.geo_model.specs.Script.{words_of}

-- the words of what is left, and none behind the last word
abbrev pub words_left : Option (Bor (List ℕ)) → List (List ℕ)
words_left None = []
words_left (Some rest) = words_of rest.now

-- what is left of a line has fewer than 2 ^ 32 bytes
abbrev pub IsShort : Option (Bor (List ℕ)) → Type 0
IsShort None = Unit {0}
IsShort (Some rest) = length rest.now < 2 ^ 32
