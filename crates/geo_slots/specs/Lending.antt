-- What a table ends as, where a `&mut` to one of its values is returned.
use Rattle.std.specs.Prelude.{ℕ, Option}
use Rattle.std.specs.Borrow.{LendsIf, MutBor, Fml, RattleType}
use Rattle.geo_slots.specs.Slots.{SlotsView, with_value}
use Rattle.geo_slots.specs.contracts.slots.Slots.{the_row}

-- the table with another value under a number
abbrev pub with_value_at : {T : Type 0} → SlotsView T → ℕ → T → SlotsView T
with_value_at s number value = record s { rows = with_value s.rows number value }

-- once the borrow r ends, the number has the last value written through r; at `None` the table stays as it is
abbrev pub lends_value : (T : RattleType) → MutBor (SlotsView T.Denot) → ℕ → Option (MutBor T.Denot) → Fml
lends_value T s number r = LendsIf (the_row T) T s r (with_value_at s.now number) s.now
