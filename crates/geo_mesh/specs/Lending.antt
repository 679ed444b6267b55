-- What tables end as, where a `&mut` to the cell under a number that has one is returned: the number has the last value
-- written there.
use Rattle.std.specs.Prelude.{ℕ}
use Rattle.std.specs.Borrow.{Lends, MutBor, Fml, RattleType}
use Rattle.geo_slots.specs.Slots.{SlotsView}
use Rattle.geo_slots.specs.contracts.slots.Slots.{the_row as slots_row}
use Rattle.geo_slots.specs.Lending.{with_value_at}
use Rattle.geo_mesh.specs.declared.records.GeomCell.{GeomCell}
use Rattle.geo_mesh.specs.declared.records.ProvCell.{ProvCell}
use Rattle.geo_mesh.specs.declared.records.ConsCell.{ConsCell}
use Rattle.geo_mesh.specs.declared.tables.Tables.{Tables}
use Rattle.geo_mesh.specs.contracts.records.GeomCell.{the_row as geom_row}
use Rattle.geo_mesh.specs.contracts.records.ProvCell.{the_row as provider_row}
use Rattle.geo_mesh.specs.contracts.records.ConsCell.{the_row as consumer_row}
use Rattle.geo_mesh.specs.contracts.tables.Tables.{the_row as tables_row}
use Rattle.geo_mesh.specs.Cells.{with_geom_cell, with_provider_cell, with_consumer_cell}

-- of one table
abbrev pub lends_cell : (T : RattleType) → MutBor (SlotsView T.Denot) → ℕ → MutBor T.Denot → Fml
lends_cell T s number r = Lends (slots_row T) T s r (with_value_at s.now number)

-- of all tables, for a geom
abbrev pub lends_geom : (C : RattleType) → MutBor (Tables C.Denot) → ℕ → MutBor (GeomCell C.Denot) → Fml
lends_geom C t number r = Lends (tables_row C) (geom_row C) t r (with_geom_cell t.now number)

-- for a provider
abbrev pub lends_provider : (C : RattleType) → MutBor (Tables C.Denot) → ℕ → MutBor ProvCell → Fml
lends_provider C t number r = Lends (tables_row C) provider_row t r (with_provider_cell t.now number)

-- for a consumer
abbrev pub lends_consumer : (C : RattleType) → MutBor (Tables C.Denot) → ℕ → MutBor ConsCell → Fml
lends_consumer C t number r = Lends (tables_row C) consumer_row t r (with_consumer_cell t.now number)
