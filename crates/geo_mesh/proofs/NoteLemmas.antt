-- Notes of providers and of geoms, after each change of the tables.
use Rattle.std.specs.Prelude.{◌≡◌, ℕ, ◌+◌, ◌-◌, ◌≤◌, ◌==◌, Bool, false, List, [], ◌∷◌, ◌++◌, Some, max}
use Rattle.std.proofs.Common.{refl, sym, ◌∙◌, ap, rules}
use Rattle.std.proofs.lemmas.List.{map-append}
use Rattle.geo_slots.specs.Slots.{SlotsView, IsRising, value_at, with_value, without, with_insert}
use Rattle.geo_mesh.specs.declared.records.GeomCell.{GeomCell}
use Rattle.geo_mesh.specs.declared.records.ProvCell.{ProvCell}
use Rattle.geo_mesh.specs.declared.tables.Notes.{Notes}
use Rattle.geo_mesh.specs.Rows.{row_with, rows_with}
use Rattle.geo_mesh.specs.Marks.{MarksView}
use Rattle.geo_mesh.specs.Cells.{risen_of, fallen_of}
use Rattle.geo_names.specs.Names.{NamesView, with_name}
use Rattle.geo_mesh.specs.Notes.{geom_name, HaveNoteRoom, IsSameNotes, AreNotes}
use Rattle.geo_mesh.specs.Ranks.{bare}
use Rattle.geo_mesh.proofs.RowLemmas.{map-bare, rows_with-with_value, map-without, rows_kept}

-- with one number more, without a mark
abbrev pub with_mark : MarksView → MarksView
with_mark m = record { rows = m.rows ++ (m.next, false) ∷ []; next = m.next + 1; room = m.room - 1 }

-- without a number
abbrev pub without_mark : MarksView → ℕ → MarksView
without_mark m k = record m { rows = without m.rows k }

-- with a number marked or not
abbrev pub set_mark : MarksView → ℕ → Bool → MarksView
set_mark m k b = record m { rows = with_value m.rows k b }

module _ {C : Type 0} (n : Notes) (gs : SlotsView (GeomCell C)) (ps : SlotsView ProvCell) where
  -- with a new provider, which isn't noted
  pub notes-provider : (v : ProvCell) → AreNotes n gs ps → v.provider.risen ≡ false → v.provider.fallen ≡ false
      → AreNotes (record n { risen = with_mark n.risen; fallen = with_mark n.fallen }) gs (with_insert ps v)
  notes-provider v are risen fallen =
      search (
        rules,
        map-append (row_with risen_of) ps.rows ((ps.next, v) ∷ []),
        map-append (row_with fallen_of) ps.rows ((ps.next, v) ∷ []),
      )

  -- with a new geom, and its name
  pub notes-geom : (v : GeomCell C) (m : NamesView) → AreNotes n gs ps
      → m ≡ record (with_name n.named v.geom.name) { room = m.room } → n.named.room ≤ m.room + 1
      → AreNotes (record n { going = with_mark n.going; named = m }) (with_insert gs v) ps
  notes-geom v m are added room = search (rules, map-append (row_with (geom_name {C = C})) gs.rows ((gs.next, v) ∷ []))

  -- without a geom and its name
  pub notes-without_geom : (k : ℕ) (m : NamesView) → AreNotes n gs ps
      → m ≡ record n.named { rows = without n.named.rows k; room = m.room } → n.named.room ≤ m.room
      → AreNotes (record n { going = without_mark n.going k; named = m })
      (record gs { rows = without gs.rows k }) ps
  notes-without_geom k m are removed room = record {
    risen = are.risen;
    fallen = are.fallen;
    risen_next = are.risen_next;
    fallen_next = are.fallen_next;
    going_next = are.going_next;
    named = ap (λ k. k.rows) removed
        ∙ (rw are.named
        (sym (map-without (row_with (geom_name {C = C})) k (λ (row : ℕ × List ℕ). row.0 == k) (λ row. refl) gs.rows)));
    named_next = ap (λ k. k.next) removed ∙ are.named_next;
    room = search rules;
  }

  -- without a provider
  pub notes-without_provider : (k : ℕ) → AreNotes n gs ps
      → AreNotes (record n { risen = without_mark n.risen k; fallen = without_mark n.fallen k }) gs
      (record ps { rows = without ps.rows k })
  notes-without_provider k are = record {
    risen = rw are.risen
        (sym (map-without (row_with risen_of) k (λ (row : ℕ × Bool). row.0 == k) (λ row. refl) ps.rows));
    fallen = rw are.fallen
        (sym (map-without (row_with fallen_of) k (λ (row : ℕ × Bool). row.0 == k) (λ row. refl) ps.rows));
    risen_next = are.risen_next;
    fallen_next = are.fallen_next;
    going_next = are.going_next;
    named = are.named;
    named_next = are.named_next;
    room = search rules;
  }

  -- with another cell of a provider, which may be noted otherwise
  pub notes-noted : (k : ℕ) (w : ProvCell) → AreNotes n gs ps
      → AreNotes (record n {
        risen = set_mark n.risen k w.provider.risen;
        fallen = set_mark n.fallen k w.provider.fallen;
      }) gs
      (record ps { rows = with_value ps.rows k w })
  notes-noted k w are = record {
    risen = rw are.risen (sym (rows_with-with_value risen_of k w ps.rows));
    fallen = rw are.fallen (sym (rows_with-with_value fallen_of k w ps.rows));
    risen_next = are.risen_next;
    fallen_next = are.fallen_next;
    going_next = are.going_next;
    named = are.named;
    named_next = are.named_next;
    room = search rules;
  }

  -- with another cell of a provider that is noted as before
  pub notes-provider_kept : (k : ℕ) (v w : ProvCell) → IsRising 1 ps.rows ps.next → value_at ps.rows k ≡ Some v
      → w.provider.risen ≡ v.provider.risen
      → w.provider.fallen ≡ v.provider.fallen → AreNotes n gs ps
      → AreNotes n gs (record ps { rows = with_value ps.rows k w })
  notes-provider_kept k v w rising at risen fallen are =
      record {
        risen = are.risen ∙ sym (rows_kept ps k v w rising at (row_with risen_of) (λ i. (k, risen i)));
        fallen = are.fallen ∙ sym (rows_kept ps k v w rising at (row_with fallen_of) (λ i. (k, fallen i)));
        risen_next = are.risen_next;
        fallen_next = are.fallen_next;
        going_next = are.going_next;
        named = are.named;
        named_next = are.named_next;
        room = are.room;
      }

  -- with another cell of a geom of the same name
  pub notes-geom_kept : (k : ℕ) (v w : GeomCell C) → IsRising 1 gs.rows gs.next → value_at gs.rows k ≡ Some v
      → w.geom.name ≡ v.geom.name → AreNotes n gs ps → AreNotes n (record gs { rows = with_value gs.rows k w }) ps
  notes-geom_kept k v w rising at same are =
      record {
        risen = are.risen;
        fallen = are.fallen;
        risen_next = are.risen_next;
        fallen_next = are.fallen_next;
        going_next = are.going_next;
        named = are.named ∙ sym (rows_kept gs k v w rising at (row_with (geom_name {C = C})) (λ i. (k, same i)));
        named_next = are.named_next;
        room = are.room;
      }

-- other ranks in the cells leave the notes
pub notes-bare : {C : Type 0} (n : Notes) (gs ns : SlotsView (GeomCell C)) (ps : SlotsView ProvCell)
    → bare ns ≡ bare gs → AreNotes n gs ps → AreNotes n ns ps
notes-bare {C} n gs ns ps same are =
    let names : rows_with (geom_name {C = C}) ns.rows ≡ rows_with (geom_name {C = C}) gs.rows =
    map-bare (λ row. (row.0, row.1.0.name)) gs ns same in
    search rules

-- notes that aren't touched
pub unnoted : (n : Notes) → IsSameNotes n n
unnoted n = record { risen = refl; fallen = refl; going = refl; named = refl }

-- notes with room for what there was room for, and for more of it
pub note_room_for : (a b d e g p : ℕ) (n : Notes) → HaveNoteRoom a b n → HaveNoteRoom d e n → g ≤ max a d
    → p ≤ max b e → HaveNoteRoom g p n
note_room_for a b d e g p n one two most_g most_p = search rules
