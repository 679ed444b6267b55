-- What a mesh keeps as a whole, after each call.
use Rattle.std.specs.Prelude.{◌≡◌, ℕ, ◌==◌, ◌≤◌, max, Bool, true, Some, map}
use Rattle.std.proofs.Common.{refl, sym, ◌∙◌, ap, subst, List, [], ◌∷◌, false, None, rules}
use Rattle.std.proofs.lemmas.Bool.{ne_eqb}
use Rattle.geo_slots.specs.Slots.{IsRising, value_at, with_insert}
use Rattle.geo_model.specs.Words.{change_where}
use Rattle.geo_model.specs.Topology.{Geom, Provider, Consumer, set_marks, provider_at, add_geom, add_provider, add_consumer}
use Rattle.geo_mesh.specs.declared.records.GeomCell.{GeomCell}
use Rattle.geo_mesh.specs.declared.records.ProvCell.{ProvCell}
use Rattle.geo_mesh.specs.declared.records.ConsCell.{ConsCell}
use Rattle.geo_mesh.specs.declared.names.Names.{Names}
use Rattle.geo_mesh.specs.declared.tables.Tables.{Tables}
use Rattle.geo_mesh.specs.Topo.{is_provider_size}
use Rattle.geo_mesh.specs.Graph.{IsOffer, IsOrderly}
use Rattle.geo_mesh.specs.Cells.{graph, geom_row, provider_row, consumer_row, with_geom_cell, with_provider_cell, with_consumer_cell, graph_of, put_consumer}
use Rattle.geo_mesh.specs.Index.{IsIndexed, HaveRoom, with_rooms, attached_index, detached_index}
use Rattle.geo_mesh.specs.Names.{AreNames, HaveNameRoom, SameNames, RetiresName}
use Rattle.geo_mesh.specs.declared.tables.Notes.{Notes}
use Rattle.geo_mesh.specs.Notes.{AreNotes, HaveNoteRoom, IsSameNotes}
use Rattle.geo_mesh.proofs.NoteLemmas.{note_room_for, notes-geom_kept, notes-provider_kept, notes-bare}
use Rattle.geo_mesh.specs.Mesh.{IsMesh}
use Rattle.geo_mesh.specs.Ranks.{HaveRanks, footing, kind_of, bare}
use Rattle.geo_mesh.specs.Going.{AreGoing, AreGoingBut, is_idle_cell, is_free_in, going_rows}
use Rattle.geo_mesh.specs.Whole.{IsWhole, IsWholeBut, IsRoomier}
use Rattle.geo_mesh.proofs.RowLemmas.{rows_changed, only_value, OnlyValue}
use Rattle.geo_mesh.proofs.IndexLemmas.{indexed-geom, indexed-provider, indexed-set_marks, OnlyOf, indexed-attach, indexed-detach}
use Rattle.geo_mesh.proofs.ViewLemmas.{count-with_value, provider_at-view, switch-view}
use Rattle.geo_mesh.proofs.Orderly.{orderly-geom, orderly-provider, orderly-set_marks}
use Rattle.geo_mesh.proofs.GoingLemmas.{free-provider_cell, free-consumer_kept, free-consumer_cell, going-free, going-cell, going-withers, free_once}
use Rattle.geo_mesh.proofs.RankMesh as ranks
use Rattle.std.specs.Option.{option_map}
use Rattle.std.proofs.lemmas.List.{map-append, length-map}
use Rattle.geo_mesh.specs.declared.index.Index.{Index}
use Rattle.geo_mesh.specs.Rows.{row_with}
use Rattle.geo_mesh.proofs.NameLemmas.{only_provider, names-changed, names-marked}
use Rattle.geo_mesh.proofs.RankRows.{kinds-bare}
use Rattle.geo_mesh.proofs.RankMesh.{view-bare}

-- What the tables, the count and the index of a mesh keep, after each call.

-- room for what there was room for, and for more of it
pub room_for : (a b c d e f g p q : ℕ) (i : Index) → HaveRoom a b c i → HaveRoom d e f i → g ≤ max a d
    → p ≤ max b e → q ≤ max c f → HaveRoom g p q i
room_for a b c d e f g p q i one two most_g most_p most_q = search rules

-- room for names, for what there was room for, and for more of it
pub name_room_for : (a b p : ℕ) (m : Names) → HaveNameRoom a m → HaveNameRoom b m → p ≤ max a b → HaveNameRoom p m
name_room_for a b p m one two most = search rules

-- each consumer of the number of the one cell is of its geom
pub only_of : (n : ℕ) (v : ConsCell) (rows : List (ℕ × ConsCell)) → OnlyValue n v rows
    → OnlyOf n v.consumer.geom (map consumer_row rows)
only_of n v [] only = tt
only_of n v (row ∷ rows) only = search (rules, only_of n v rows only.1)

-- names that aren't touched
pub untouched : (m : Names) → SameNames m m
untouched m = record { sound = λ q. refl; all = refl }

module _ {C : Type 0} (t : Tables C) (mesh : IsMesh t) where
  -- the graph with a new provider's row is the graph with a new provider
  pub graph-provider : (v : ProvCell) → v.provider.errored ≡ false
      → graph_of t.geoms (record t.edges { providers = with_insert t.edges.providers v })
      ≡ add_provider (graph t) v.provider.geom v.provider.name v.provider.size v.provider.sector
  graph-provider v sound =
      rw (map-append provider_row t.edges.providers.rows ((t.edges.providers.next, v) ∷ []), sound) refl

  -- the graph with a new consumer's row is the graph with a new consumer
  pub graph-consumer : (v : ConsCell) → v.consumer.prov ≡ None → v.consumer.spoiled ≡ false
      → graph_of t.geoms (record t.edges { consumers = with_insert t.edges.consumers v })
      ≡ add_consumer (graph t) v.consumer.geom None
  graph-consumer v free clean =
      rw (map-append consumer_row t.edges.consumers.rows ((t.edges.consumers.next, v) ∷ []), free, clean) refl

  -- the graph with a new geom's row is the graph with a new geom
  pub graph-geom : (v : GeomCell C) → v.geom.withering ≡ false → v.geom.started ≡ 0
      → graph_of (with_insert t.geoms v) t.edges
      ≡ add_geom (graph t) v.geom.kind v.geom.name v.geom.config v.geom.automatic
  graph-geom v stays none = rw (map-append geom_row t.geoms.rows ((t.geoms.next, v) ∷ []), stays, none) refl

  -- the provider of a number is that of the row under it
  pub found_provider : (k : ℕ) (v : ProvCell) → value_at t.edges.providers.rows k ≡ Some v
      → provider_at (graph t) k ≡ Some (provider_row (k, v))
  found_provider k v at = provider_at-view t.geoms t.edges k ∙ ap (option_map (λ w. provider_row (k, w))) at

  -- with a consumer attached
  pub mesh-attached : (k p : ℕ) (v : ConsCell) → IsRising 1 t.edges.consumers.rows t.edges.consumers.next
      → value_at t.edges.consumers.rows k ≡ Some v
      → IsMesh (record t {
        edges = record (put_consumer t.edges k (record v { consumer = record v.consumer { prov = Some p } }))
            { index = attached_index t.edges.index k p v.consumer.geom };
      })
  mesh-attached k p v rising at = record {
    notes = mesh.notes;
    names_are = mesh.names_are;
    names_room = mesh.names_room;
    count = mesh.count;
    indexed =
        subst (λ g. IsIndexed g (attached_index t.edges.index k p v.consumer.geom))
        (sym (ap (λ v. v.topology) (switch-view t k v rising at (Some p))))
        (indexed-attach (graph t) t.edges.index mesh.indexed k p v.consumer.geom
        (only_of k v t.edges.consumers.rows
        (only_value k 1 t.edges.consumers.next v t.edges.consumers.rows rising at)));
    room = mesh.room;
  }

  -- with a consumer detached
  pub mesh-detached : (k : ℕ) (v : ConsCell) → IsRising 1 t.edges.consumers.rows t.edges.consumers.next
      → value_at t.edges.consumers.rows k ≡ Some v
      → IsMesh (record t {
        edges = record (put_consumer t.edges k (record v { consumer = record v.consumer { prov = None } }))
            { index = detached_index t.edges.index k };
      })
  mesh-detached k v rising at = search (rules, switch-view t k, indexed-detach (graph t) t.edges.index mesh.indexed k)

  -- with an error at a provider
  pub names-errored : (k : ℕ) (v : ProvCell) → IsRising 1 t.edges.providers.rows t.edges.providers.next
      → value_at t.edges.providers.rows k ≡ Some v
      → (m : Names) → RetiresName t.names m v.provider.name v.provider.errored
      → AreNames (change_where (λ x. x.number == k) (λ x. record x { errored = true })
      (map provider_row t.edges.providers.rows)) t.edges.providers.next m
  names-errored k v rising at m retires =
      names-marked (map provider_row t.edges.providers.rows) t.edges.providers.next t.names m mesh.names_are k
      (provider_row (k, v))
      (only_provider k v t.edges.providers.rows
      (only_value k 1 t.edges.providers.next v t.edges.providers.rows rising at)) (found_provider k v at)
      retires.sound retires.all

  -- other ranks in the cells leave the tables as they are
  pub mesh-bare : (ns : _) → bare ns ≡ bare t.geoms → IsMesh (record t { geoms = ns })
  mesh-bare ns same =
      search (
        rules,
        kinds-bare t.geoms ns same,
        length-map t.geoms.rows (row_with (kind_of {C = C})),
        length-map ns.rows (row_with (kind_of {C = C})),
        notes-bare t.notes t.geoms ns t.edges.providers same mesh.notes,
        view-bare t ns same,
      )

-- The whole

-- what index, names and ranks read of a geom's cell is as it was
pub record KeepsGeom {C : Type 0} (v w : GeomCell C) : Type 0 where
  pub kind : w.geom.kind ≡ v.geom.kind
  pub name : w.geom.name ≡ v.geom.name
  pub rank : w.rank ≡ v.rank

-- what index, names and ranks read of a provider's cell is as it was, and its sizes are those of a provider if they
-- were
pub record KeepsProvider (v w : ProvCell) : Type 0 where
  pub geom : w.provider.geom ≡ v.provider.geom
  pub name : w.provider.name ≡ v.provider.name
  pub errored : w.provider.errored ≡ v.provider.errored
  pub sizes : is_provider_size v.provider.size v.provider.sector ≡ true
      → is_provider_size w.provider.size w.provider.sector ≡ true

-- what index, names and ranks read of a consumer's cell is as it was
pub record KeepsConsumer (v w : ConsCell) : Type 0 where
  pub geom : w.consumer.geom ≡ v.consumer.geom
  pub provider : w.consumer.prov ≡ v.consumer.prov

-- what of a mesh's tables holds beside the marks of the geoms
pub record IsStanding {C : Type 0} (t : Tables C) : Type 0 where
  pub tables : IsMesh t
  pub ranks : HaveRanks t.geoms t.edges t.live
  pub graph : IsOrderly (graph t)

module _ {C : Type 0} (t : Tables C) (stands : IsStanding t) where
  -- with the marks it is the whole
  pub with_going : AreGoing t → IsWhole t
  with_going going = record { tables = stands.tables; ranks = stands.ranks; graph = stands.graph; going = going }

  -- so but for one geom's mark
  pub with_going_but : (geom : ℕ) → AreGoingBut geom t → IsWholeBut geom t
  with_going_but geom going = search rules

-- the tables with other room in each of their parts, of which the rows have no less
pub roomier : {C : Type 0} {t u : Tables C} → u.geoms ≡ record t.geoms { spare = u.geoms.spare }
    → u.edges.providers ≡ record t.edges.providers { spare = u.edges.providers.spare }
    → u.edges.consumers ≡ record t.edges.consumers { spare = u.edges.consumers.spare } → u.live ≡ t.live
    → u.edges.index ≡ with_rooms t.edges.index u.edges.index → SameNames t.names u.names → IsSameNotes t.notes u.notes
    → t.geoms.spare ≤ u.geoms.spare → t.edges.providers.spare ≤ u.edges.providers.spare
    → t.edges.consumers.spare ≤ u.edges.consumers.spare → IsRoomier t u
roomier geoms providers consumers live index names notes geoms_stay providers_stay consumers_stay = search rules

module _ {C : Type 0} (t : Tables C) (whole : IsWhole t) where
  -- more room changes nothing else
  pub whole-reserved : (u : Tables C) → IsRoomier t u
      → HaveRoom u.geoms.spare u.edges.providers.spare u.edges.consumers.spare u.edges.index
      → HaveNameRoom u.edges.providers.spare u.names
      → HaveNoteRoom u.geoms.spare u.edges.providers.spare u.notes → IsWhole u
  whole-reserved u is room name_room note_room =
      let roomy : Tables C = record {
        geoms = record t.geoms { spare = u.geoms.spare };
        edges = record {
          providers = record t.edges.providers { spare = u.edges.providers.spare };
          consumers = record t.edges.consumers { spare = u.edges.consumers.spare };
          index = u.edges.index;
        };
        live = t.live;
        names = u.names;
        notes = u.notes;
      } in
      search rules

  -- so where no more room was made than what was asked for, and index, names and notes have room for that, beside what
  -- they had room for
  pub whole-grown : (u : Tables C) (geoms providers consumers : ℕ) → IsRoomier t u
      → u.geoms.spare ≤ max t.geoms.spare geoms → u.edges.providers.spare ≤ max t.edges.providers.spare providers
      → u.edges.consumers.spare ≤ max t.edges.consumers.spare consumers
      → ((g p c : ℕ) → HaveRoom g p c t.edges.index → HaveRoom g p c u.edges.index)
      → HaveRoom geoms providers consumers u.edges.index
      → ((p : ℕ) → HaveNameRoom p t.names → HaveNameRoom p u.names) → HaveNameRoom providers u.names
      → ((g p : ℕ) → HaveNoteRoom g p t.notes → HaveNoteRoom g p u.notes) → HaveNoteRoom geoms providers u.notes
      → IsWhole u
  whole-grown u geoms providers consumers is most_g most_p most_c stays room names_stay name_room notes_stay note_room =
      whole-reserved u is
      (room_for t.geoms.spare t.edges.providers.spare t.edges.consumers.spare geoms providers consumers
      u.geoms.spare u.edges.providers.spare u.edges.consumers.spare u.edges.index
      (stays t.geoms.spare t.edges.providers.spare t.edges.consumers.spare whole.tables.room) room most_g most_p most_c)
      (name_room_for t.edges.providers.spare providers u.edges.providers.spare u.names
      (names_stay t.edges.providers.spare whole.tables.names_room) name_room most_p)
      (note_room_for t.geoms.spare t.edges.providers.spare geoms providers u.geoms.spare u.edges.providers.spare
      u.notes (notes_stay t.geoms.spare t.edges.providers.spare whole.tables.notes.room) note_room most_g most_p)

  -- the marks stay where the same is free
  pub same-going : (new : ℕ → Bool) → ((g : ℕ) → new g ≡ is_free_in t g)
      → t.notes.going.rows ≡ going_rows new t.geoms.rows
  same-going new same = whole.going ∙ going-free (is_free_in t) new (λ g. sym (same g)) t.geoms.rows

  -- another cell of a geom that keeps what is read of it keeps what stands beside the marks
  geom_standing : (n : ℕ) (v w : GeomCell C) → IsRising 1 t.geoms.rows t.geoms.next
      → value_at t.geoms.rows n ≡ Some v → KeepsGeom v w → IsStanding (with_geom_cell t n w)
  geom_standing n v w rising at keeps =
      let change : Geom C → Geom C = λ x. record x {
        name = w.geom.name;
        config = w.geom.config;
        automatic = w.geom.automatic;
        withering = w.geom.withering;
        started = w.geom.started;
      } in
      let seen : geom_row (n, w) ≡ change (geom_row (n, v)) = λ i. record (geom_row (n, w)) { kind = keeps.kind i } in
      let changed : graph (with_geom_cell t n w)
      ≡ record (graph t) { geoms = change_where (λ x. x.number == n) change (graph t).geoms } =
      ap (λ xs. record (graph t) { geoms = xs })
      (rows_changed t.geoms n v w rising at geom_row (λ x. x.number == n) (λ row. refl) change seen) in
      record {
        tables = record {
          count = count-with_value n w t.geoms.rows t.live whole.tables.count;
          indexed =
              subst (λ g. IsIndexed g t.edges.index) (sym changed)
              (indexed-geom (graph t) t.edges.index whole.tables.indexed n change (λ x. refl));
          room = whole.tables.room;
          names_are = whole.tables.names_are;
          names_room = whole.tables.names_room;
          notes = notes-geom_kept t.notes t.geoms t.edges.providers n v w rising at keeps.name whole.tables.notes;
        };
        ranks = ranks.mesh-geom t.geoms t.edges t.live n whole.ranks v w rising (sym at) keeps.kind keeps.rank;
        graph = subst (λ g. IsOrderly g) (sym changed)
            (orderly-geom (graph t) whole.graph n change (λ x. refl) (λ x. refl));
      }

  -- it keeps the whole where the geom withers as before
  pub whole-geom_cell : (n : ℕ) (v w : GeomCell C) → IsRising 1 t.geoms.rows t.geoms.next
      → value_at t.geoms.rows n ≡ Some v → KeepsGeom v w
      → w.geom.withering ≡ v.geom.withering → IsWhole (with_geom_cell t n w)
  whole-geom_cell n v w rising at keeps stays =
      with_going (with_geom_cell t n w) (geom_standing n v w rising at keeps)
      (whole.going ∙ sym (going-cell (is_free_in t) n v w stays t.geoms.rows
      (only_value n 1 t.geoms.next v t.geoms.rows rising at)))

  -- but for the geom's mark where it withers from now on
  pub whole-geom_withers : (n : ℕ) (v w : GeomCell C) → IsRising 1 t.geoms.rows t.geoms.next
      → value_at t.geoms.rows n ≡ Some v → KeepsGeom v w
      → w.geom.withering ≡ true → IsWholeBut n (with_geom_cell t n w)
  whole-geom_withers n v w rising at keeps withers =
      with_going_but (with_geom_cell t n w) (geom_standing n v w rising at keeps) n
      (record {
        free = free_once (is_free_in t) n v;
        others = λ g apart. rw (ne_eqb g n apart) refl;
        rows = whole.going ∙ going-withers (is_free_in t) n v w withers t.geoms.rows
            (only_value n 1 t.geoms.next v t.geoms.rows rising at);
      })

  -- the marks stay with another cell of a provider of the same geom
  provider_going : (n : ℕ) (v w : ProvCell) → IsRising 1 t.edges.providers.rows t.edges.providers.next
      → value_at t.edges.providers.rows n ≡ Some v → w.provider.geom ≡ v.provider.geom
      → AreGoing (with_provider_cell t n w)
  provider_going n v w rising at same =
      same-going (is_free_in (with_provider_cell t n w))
      (λ g. free-provider_cell t.edges.providers.rows t.edges.consumers.rows g n v w same
      (only_value n 1 t.edges.providers.next v t.edges.providers.rows rising at))

  -- another cell of a provider keeps the whole, where it fits the names and the notes
  provider_changed : (n : ℕ) (v w : ProvCell) (m : Names) (notes : Notes) (change : Provider → Provider)
      → IsRising 1 t.edges.providers.rows t.edges.providers.next → value_at t.edges.providers.rows n ≡ Some v
      → provider_row (n, w) ≡ change (provider_row (n, v)) → ((x : Provider) → (change x).number ≡ x.number)
      → ((x : Provider) → (change x).geom ≡ x.geom)
      → (IsOffer (provider_row (n, v)) → IsOffer (change (provider_row (n, v))))
      → AreNames (change_where (λ x. x.number == n) change (graph t).providers) t.edges.providers.next m
      → HaveNameRoom t.edges.providers.spare m
      → AreNotes notes t.geoms (with_provider_cell t n w).edges.providers → notes.going ≡ t.notes.going
      → IsWhole (record (with_provider_cell t n w) { names = m; notes = notes })
  provider_changed n v w m notes change rising at seen number geom offers names_are names_room are unmarked =
      let same = rows_changed t.edges.providers n v w rising at provider_row (λ x. x.number == n) (λ row. refl) change
      seen in
      let changed : graph (with_provider_cell t n w)
      ≡ record (graph t) { providers = change_where (λ x. x.number == n) change (graph t).providers } =
      ap (λ xs. record (graph t) { providers = xs }) same in
      let owner : w.provider.geom ≡ v.provider.geom = ap (λ x. x.geom) seen ∙ geom (provider_row (n, v)) in
      record {
        tables = record {
          count = whole.tables.count;
          indexed =
              subst (λ g. IsIndexed g t.edges.index) (sym changed)
              (indexed-provider (graph t) t.edges.index whole.tables.indexed n change number geom);
          room = whole.tables.room;
          names_are = subst (λ xs. AreNames xs t.edges.providers.next m) (sym same) names_are;
          names_room = names_room;
          notes = are;
        };
        ranks = ranks.mesh-provider t.geoms t.edges t.live n whole.ranks v w rising (sym at) owner;
        graph =
            subst (λ g. IsOrderly g) (sym changed)
            (orderly-provider (graph t) whole.graph n change number geom (provider_row (n, v))
            (found_provider t whole.tables n v at) offers);
        going = ap (λ m. m.rows) unmarked ∙ provider_going n v w rising at owner;
      }

  -- another cell of a provider that keeps what is read of it keeps the whole
  pub whole-provider_noted : (n : ℕ) (v w : ProvCell) (notes : Notes)
      → IsRising 1 t.edges.providers.rows t.edges.providers.next
      → value_at t.edges.providers.rows n ≡ Some v → KeepsProvider v w
      → AreNotes notes t.geoms (with_provider_cell t n w).edges.providers → notes.going ≡ t.notes.going
      → IsWhole (record (with_provider_cell t n w) { notes = notes })
  whole-provider_noted n v w notes rising at keeps are unmarked =
      let change : Provider → Provider = λ x. record x { size = w.provider.size; sector = w.provider.sector } in
      search (
        rules,
        provider_changed n v w t.names notes change rising,
        names-changed (graph t).providers t.edges.providers.next t.names t.names whole.tables.names_are n change
            (λ x. refl) (λ x. refl) (λ x. refl),
      )

  -- so where the provider is noted as before
  pub whole-provider_cell : (n : ℕ) (v w : ProvCell) → IsRising 1 t.edges.providers.rows t.edges.providers.next
      → value_at t.edges.providers.rows n ≡ Some v → KeepsProvider v w → w.provider.risen ≡ v.provider.risen
      → w.provider.fallen ≡ v.provider.fallen
      → IsWhole (with_provider_cell t n w)
  whole-provider_cell n v w rising at keeps risen fallen =
      whole-provider_noted n v w t.notes rising at keeps
      (notes-provider_kept t.notes t.geoms t.edges.providers n v w rising at risen fallen whole.tables.notes) refl

  -- another cell of a consumer that keeps what is read of it keeps what stands beside the marks
  consumer_standing : (n : ℕ) (v w : ConsCell) → IsRising 1 t.edges.consumers.rows t.edges.consumers.next
      → value_at t.edges.consumers.rows n ≡ Some v → KeepsConsumer v w → IsStanding (with_consumer_cell t n w)
  consumer_standing n v w rising at keeps =
      let change : Consumer → Consumer = λ x. record x { spoiled = w.consumer.spoiled } in
      let seen : consumer_row (n, w) ≡ change (consumer_row (n, v)) =
      λ i. record (consumer_row (n, w)) { geom = keeps.geom i; provider = keeps.provider i } in
      let changed : graph (with_consumer_cell t n w) ≡ set_marks (graph t) (λ x. x.number == n) w.consumer.spoiled =
      ap (λ xs. record (graph t) { consumers = xs })
      (rows_changed t.edges.consumers n v w rising at consumer_row (λ x. x.number == n) (λ row. refl) change seen) in
      record {
        tables = record {
          count = whole.tables.count;
          indexed =
              subst (λ g. IsIndexed g t.edges.index) (sym changed)
              (indexed-set_marks (graph t) t.edges.index whole.tables.indexed (λ x. x.number == n) w.consumer.spoiled);
          room = whole.tables.room;
          names_are = whole.tables.names_are;
          names_room = whole.tables.names_room;
          notes = whole.tables.notes;
        };
        ranks = ranks.mesh-consumer t.geoms t.edges t.live n whole.ranks v w rising (sym at)
            (λ i. (keeps.geom i, footing (keeps.geom i) (keeps.provider i)));
        graph = subst (λ g. IsOrderly g) (sym changed)
            (orderly-set_marks (graph t) whole.graph (λ x. x.number == n) w.consumer.spoiled);
      }

  -- it keeps the whole where the consumer is idle as before
  pub whole-consumer_cell : (n : ℕ) (v w : ConsCell) → IsRising 1 t.edges.consumers.rows t.edges.consumers.next
      → value_at t.edges.consumers.rows n ≡ Some v → KeepsConsumer v w → is_idle_cell w ≡ is_idle_cell v
      → IsWhole (with_consumer_cell t n w)
  whole-consumer_cell n v w rising at keeps idle =
      with_going (with_consumer_cell t n w) (consumer_standing n v w rising at keeps)
      (same-going (is_free_in (with_consumer_cell t n w))
      (λ g. free-consumer_kept t.edges.providers.rows t.edges.consumers.rows g n v w keeps.geom keeps.provider idle
      (only_value n 1 t.edges.consumers.next v t.edges.consumers.rows rising at)))

  -- but for the mark of the consumer's geom where it may not be
  pub whole-consumer_used : (n : ℕ) (v w : ConsCell) → IsRising 1 t.edges.consumers.rows t.edges.consumers.next
      → value_at t.edges.consumers.rows n ≡ Some v → KeepsConsumer v w
      → IsWholeBut v.consumer.geom (with_consumer_cell t n w)
  whole-consumer_used n v w rising at keeps =
      with_going_but (with_consumer_cell t n w) (consumer_standing n v w rising at keeps) v.consumer.geom
      (record {
        free = is_free_in t;
        others = λ g apart.
            sym (free-consumer_cell t.edges.providers.rows t.edges.consumers.rows g n v w keeps.geom keeps.provider
            (only_value n 1 t.edges.consumers.next v t.edges.consumers.rows rising at) apart);
        rows = whole.going;
      })

  -- an error at a provider, whose name is retired, keeps the whole
  pub whole-errored : (n : ℕ) (v : ProvCell) (m : Names) → IsRising 1 t.edges.providers.rows t.edges.providers.next
      → value_at t.edges.providers.rows n ≡ Some v → RetiresName t.names m v.provider.name v.provider.errored
      → HaveNameRoom t.edges.providers.spare m
      → IsWhole (record (with_provider_cell t n (record v { provider = record v.provider { errored = true } }))
      { names = m })
  whole-errored n v m rising at retires name_room =
      let w : ProvCell = record v { provider = record v.provider { errored = true } } in
      provider_changed n v w m t.notes (λ x. record x { errored = true }) rising at refl (λ x. refl) (λ x. refl)
      (λ offer. record { not_dev = offer.not_dev; not_taste = offer.not_taste; sizes = offer.sizes })
      (names-errored t whole.tables n v rising at m retires) name_room
      (notes-provider_kept t.notes t.geoms t.edges.providers n v w rising at refl refl whole.tables.notes) refl
