-- What the tables of a mesh, the count of its geoms and its index keep with one another.
use Rattle.std.specs.Prelude.{length, map}
use Rattle.geo_mesh.specs.declared.tables.Tables.{Tables}
use Rattle.geo_mesh.specs.Cells.{IsCount, graph, provider_row}
use Rattle.geo_mesh.specs.Names.{AreNames, HaveNameRoom}
use Rattle.geo_mesh.specs.Notes.{AreNotes}
use Rattle.geo_mesh.specs.Index.{IsIndexed, HaveRoom}

-- the geoms are counted, the index is that of the graph, the names are those of the providers, and the notes are
-- those of the tables; all have room for what the tables have room for
pub record IsMesh {C : Type 0} (t : Tables C) : Type 0 where
  pub count : IsCount (length t.geoms.rows) t.live
  pub indexed : IsIndexed (graph t) t.edges.index
  pub room : HaveRoom t.geoms.spare t.edges.providers.spare t.edges.consumers.spare t.edges.index
  pub names_are : AreNames (map provider_row t.edges.providers.rows) t.edges.providers.next t.names
  pub notes : AreNotes t.notes t.geoms t.edges.providers
  pub names_room : HaveNameRoom t.edges.providers.spare t.names
