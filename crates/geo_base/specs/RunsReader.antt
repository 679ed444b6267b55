-- How a text of runs is read, a byte at a time.
use Rattle.std.specs.Prelude.{ℕ, ◌+◌, ◌-◌, ◌*◌, ◌==◌, ◌&&◌, ◌<◌, nat_lt, nat_le, List, ◌++◌, length, replicate, slice_index_or, Option, Some, None, if◌then◌else◌}
use Rattle.geo_base.specs.declared.runs.Place.{Place}
use Rattle.geo_base.specs.declared.runs.Place.TheVariants.{Start, High, Byte, Times}
use Rattle.geo_base.specs.declared.limits.TheConstants.{MAX_RUNS_BYTES}

-- where reading stands, and the bytes of the runs that ended
pub record Reading : Type 0 where
  pub place : Place
  pub bytes : List ℕ

-- a first digit is below 16
abbrev pub IsPlace : Place → Type 0
IsPlace Start = Unit {0}
IsPlace (High high) = high < 16
IsPlace (Byte byte) = Unit {0}
IsPlace (Times byte times) = Unit {0}

-- the last byte, and 256 where there is none
abbrev pub last_of : List ℕ → ℕ
last_of bytes = slice_index_or bytes (length bytes - 1) 256

-- what a digit in lower case is worth
unfoldable pub hex_digit_value : ℕ → Option ℕ
hex_digit_value b =
    if nat_le 48 b && nat_le b 57
    then Some (b - 48)
    else (if nat_le 97 b && nat_le b 102 then Some (b - 87) else None)

-- behind the first digit of a byte
abbrev pub high_place : Option ℕ → Option Place
high_place None = None
high_place (Some high) = Some (High high)

-- behind its second: the byte differs from that of the run before
unfoldable pub byte_place : List ℕ → ℕ → Option ℕ → Option Place
byte_place bytes high None = None
byte_place bytes high (Some low) = if last_of bytes == 16 * high + low then None else Some (Byte (16 * high + low))

-- behind the star
abbrev pub star_place : ℕ → ℕ → Option Place
star_place byte b = if b == 42 then Some (Times byte 0) else None

-- behind a digit of the number, which isn't 0 and doesn't pass what may still stand
unfoldable pub times_place : List ℕ → ℕ → ℕ → ℕ → Option Place
times_place bytes byte times b =
    if (nat_le 48 b && nat_le b 57)
    && (nat_le 1 (10 * times + (b - 48)) && nat_le (length bytes + (10 * times + (b - 48))) MAX_RUNS_BYTES)
    then Some (Times byte (10 * times + (b - 48)))
    else None

-- a place before which no run ended
abbrev pub inside_run : List ℕ → Option Place → Option Reading
inside_run bytes None = None
inside_run bytes (Some place) = Some (record { place = place; bytes = bytes })

-- behind the space after a run, where a byte more may stand
unfoldable pub ended_run : List ℕ → ℕ → ℕ → Option Reading
ended_run bytes byte times =
    if nat_le 1 times && nat_lt (length bytes + times) MAX_RUNS_BYTES
    then Some (record { place = Start; bytes = bytes ++ replicate times byte })
    else None

-- behind one byte more
unfoldable pub read_one_more : Place → List ℕ → ℕ → Option Reading
read_one_more Start bytes b = inside_run bytes (high_place (hex_digit_value b))
read_one_more (High high) bytes b = inside_run bytes (byte_place bytes high (hex_digit_value b))
read_one_more (Byte byte) bytes b = inside_run bytes (star_place byte b)
read_one_more (Times byte times) bytes b =
    if b == 32 then ended_run bytes byte times else inside_run bytes (times_place bytes byte times b)
