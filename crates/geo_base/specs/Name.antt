-- Forms of names.
use Rattle.std.specs.Prelude.{ℕ, ◌==◌, nat_le, Bool, ◌&&◌, ◌||◌, List, length, Option, Some, None, if◌then◌else◌}
use Rattle.std.specs.List.{list_all}

-- letters, digits, `_` and `-`
abbrev pub is_word_byte : ℕ → Bool
is_word_byte b = (nat_le 97 b && nat_le b 122) || (nat_le 65 b && nat_le b 90) || (nat_le 48 b && nat_le b 57)
    || (b == 95) || (b == 45)

-- those, `.` and `/`
abbrev pub is_name_byte : ℕ → Bool
is_name_byte b = is_word_byte b || (b == 46) || (b == 47)

-- whether the bytes are a name of 1 to 63 bytes, as of a provider or a geom
abbrev pub is_name : List ℕ → Bool
is_name bytes = nat_le 1 (length bytes) && nat_le (length bytes) 63 && list_all is_name_byte bytes

-- whether the bytes are a name of 1 to 16 bytes, as of a disk, an actor, a handle or a record
abbrev pub is_short_name : List ℕ → Bool
is_short_name bytes = nat_le 1 (length bytes) && nat_le (length bytes) 16 && list_all is_word_byte bytes

-- the name of these bytes, where they are one
abbrev pub name_of : List ℕ → Option (List ℕ)
name_of bytes = if is_name bytes then Some bytes else None
