-- The forms of what C gives, tested.
use Rattle.std.specs.Prelude.{ℕ, ◌+◌, nat_le, Bool, ◌&&◌}

-- counts of one digit each, not all zero
abbrev pub is_grant : ℕ → ℕ → ℕ → Bool
is_grant r w e = nat_le r 9 && nat_le w 9 && nat_le e 9 && nat_le 1 (r + w + e)
