-- What a mesh keeps: its tables with their index and names, and the ranks in its cells.
use Rattle.std.specs.Prelude.{◌≡◌, ℕ, ◌≤◌}
use Rattle.geo_mesh.specs.declared.tables.Tables.{Tables}
use Rattle.geo_mesh.specs.Cells.{graph}
use Rattle.geo_mesh.specs.Index.{with_rooms}
use Rattle.geo_mesh.specs.Names.{SameNames}
use Rattle.geo_mesh.specs.Notes.{IsSameNotes}
use Rattle.geo_mesh.specs.Mesh.{IsMesh}
use Rattle.geo_mesh.specs.Ranks.{HaveRanks}
use Rattle.geo_mesh.specs.Graph.{IsOrderly}
use Rattle.geo_mesh.specs.Going.{AreGoing, AreGoingBut}

-- the tables, their index and their names fit, the ranks stand in the cells, the graph is orderly, and the geoms that
-- carry the mark are those of which something can go
pub record IsWhole {C : Type 0} (t : Tables C) : Type 0 where
  pub tables : IsMesh t
  pub ranks : HaveRanks t.geoms t.edges t.live
  pub graph : IsOrderly (graph t)
  pub going : AreGoing t

-- so it is but for the mark of one geom, if that withers
pub record IsWholeBut {C : Type 0} (geom : ℕ) (t : Tables C) : Type 0 where
  pub tables : IsMesh t
  pub ranks : HaveRanks t.geoms t.edges t.live
  pub graph : IsOrderly (graph t)
  pub going : AreGoingBut geom t

-- the tables are these, but for the room that is kept, of which there is no less
pub record IsRoomier {C : Type 0} (t u : Tables C) : Type 0 where
  pub geoms : u.geoms ≡ record t.geoms { spare = u.geoms.spare }
  pub providers : u.edges.providers ≡ record t.edges.providers { spare = u.edges.providers.spare }
  pub consumers : u.edges.consumers ≡ record t.edges.consumers { spare = u.edges.consumers.spare }
  pub live : u.live ≡ t.live
  pub index : u.edges.index ≡ with_rooms t.edges.index u.edges.index
  pub names : SameNames t.names u.names
  pub notes : IsSameNotes t.notes u.notes
  pub geoms_stay : t.geoms.spare ≤ u.geoms.spare
  pub providers_stay : t.edges.providers.spare ≤ u.edges.providers.spare
  pub consumers_stay : t.edges.consumers.spare ≤ u.edges.consumers.spare
