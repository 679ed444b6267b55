-- Which providers are noted, and what name each geom has, beside the tables.
use Rattle.std.specs.Prelude.{◌≡◌, ℕ, ◌≤◌, Bool, false, List, [], ◌∷◌}
use Rattle.geo_slots.specs.Slots.{SlotsView}
use Rattle.geo_mesh.specs.declared.records.GeomCell.{GeomCell}
use Rattle.geo_mesh.specs.declared.records.ProvCell.{ProvCell}
use Rattle.geo_mesh.specs.declared.tables.Notes.{Notes}
use Rattle.geo_mesh.specs.Marks.{no_marks}
use Rattle.geo_mesh.specs.Rows.{rows_with}
use Rattle.geo_mesh.specs.Cells.{risen_of, fallen_of}

-- whether the geom withers
abbrev pub withering_of : {C : Type 0} → GeomCell C → Bool
withering_of x = x.geom.withering

-- the geom's name
abbrev pub geom_name : {C : Type 0} → GeomCell C → List ℕ
geom_name x = x.geom.name

-- room for so many geoms and providers
pub record HaveNoteRoom (geoms providers : ℕ) (n : Notes) : Type 0 where
  pub risen : providers ≤ n.risen.room
  pub fallen : providers ≤ n.fallen.room
  pub going : geoms ≤ n.going.room
  pub named : geoms ≤ n.named.room

-- the notes are these, but for the room
pub record IsSameNotes (old new : Notes) : Type 0 where
  pub risen : new.risen ≡ record old.risen { room = new.risen.room }
  pub fallen : new.fallen ≡ record old.fallen { room = new.fallen.room }
  pub going : new.going ≡ record old.going { room = new.going.room }
  pub named : new.named ≡ record old.named { room = new.named.room }

-- the notes are those of the tables, but for the geoms of which something can go, and have room for what these have
-- room for
pub record AreNotes {C : Type 0} (n : Notes) (gs : SlotsView (GeomCell C)) (ps : SlotsView ProvCell) : Type 0 where
  pub risen : n.risen.rows ≡ rows_with risen_of ps.rows
  pub fallen : n.fallen.rows ≡ rows_with fallen_of ps.rows
  pub named : n.named.rows ≡ rows_with (geom_name {C = C}) gs.rows
  pub risen_next : n.risen.next ≡ ps.next
  pub fallen_next : n.fallen.next ≡ ps.next
  pub going_next : n.going.next ≡ gs.next
  pub named_next : n.named.next ≡ gs.next
  pub room : HaveNoteRoom gs.spare ps.spare n

-- the notes of two geoms of these names that don't wither, and of no provider
pub record AreFirstNotes (first second : List ℕ) (n : Notes) : Type 0 where
  pub risen : n.risen ≡ no_marks n.risen.room
  pub fallen : n.fallen ≡ no_marks n.fallen.room
  pub going : n.going ≡ record { rows = (1, false) ∷ (2, false) ∷ []; next = 3; room = n.going.room }
  pub named : n.named ≡ record { rows = (1, first) ∷ (2, second) ∷ []; next = 3; room = n.named.room }
