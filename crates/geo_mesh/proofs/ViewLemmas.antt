-- The mesh that the rows stand for, after a change of one row.
use Rattle.std.specs.Prelude.{◌≡◌, ℕ, ◌+◌, ◌-◌, ◌≤◌, ◌==◌, nat_le, min, max, Bool, false, ◌&&◌, List, [], ◌∷◌, Option, Some, IsSome, map, find, option_map, is_some, ◌<◌, length, if◌then◌else◌}
use Rattle.std.specs.List.{list_any}
use Rattle.std.specs.Option.{option_or}
use Rattle.std.proofs.Common.{arith, ap, ◌∙◌, refl, rules}
use Rattle.geo_mesh.specs.Cells.{IsCount, made_provider, made_consumer, geom_row, provider_row, consumer_row, have_of, risen_of, fallen_of, want_of, active_of, geom_scratch_of, provider_scratch_of, consumer_scratch_of, graph_of, graph, topo_view, with_geom_cell, with_provider_cell, with_consumer_cell}
use Rattle.geo_mesh.specs.declared.names.Names.{Names}
use Rattle.geo_names.specs.Names.{last_named}
use Rattle.geo_mesh.specs.Names.{AreNames, sound_of, is_sound_named}
use Rattle.geo_mesh.proofs.NameLemmas.{newest-names}
use Rattle.std.proofs.lemmas.List.{map-append, length-map}
use Rattle.geo_model.specs.Words.{change_where}
use Rattle.geo_model.specs.Counts.{Counts}
use Rattle.geo_model.specs.Topology.{Geom, Provider, Consumer, geom_at, provider_at, consumer_at, find_provider}
use Rattle.geo_slots.specs.Slots.{SlotsView, IsRising, value_at, with_value, without, first_from, with_insert}
use Rattle.geo_mesh.specs.declared.records.Scratch.{Scratch}
use Rattle.geo_mesh.specs.declared.records.GeomCell.{GeomCell}
use Rattle.geo_mesh.specs.declared.records.ProvCell.{ProvCell}
use Rattle.geo_mesh.specs.declared.records.ConsCell.{ConsCell}
use Rattle.geo_mesh.specs.declared.tables.Edges.{Edges}
use Rattle.geo_mesh.specs.declared.tables.Tables.{Tables}
use Rattle.geo_mesh.specs.Whole.{IsRoomier}
use Rattle.geo_mesh.specs.Rows.{row_with, passes, rows_with}
use Rattle.geo_mesh.specs.Topo.{TopoView, Room, first_geom, first_provider, first_consumer, with_provider, with_consumer, with_topology, with_want, with_have, with_notes, with_active, with_geom_scratch, with_provider_scratch, with_consumer_scratch, without_geom, without_provider, without_consumer, IsButForRoom}
use Rattle.geo_mesh.proofs.RowLemmas.{only_value, rows_with-with_value, rows_with-change_at, map-without, find-map, row_there, rows_changed, rows_kept, first-map, value_at-rows_with}
use Rattle.geo_slots.proofs.RowLemmas.{without_below}

module _ {C : Type 0} (gs : SlotsView (GeomCell C)) (edges : Edges) (n : ℕ) where
  -- the geom of a number
  pub geom_at-view : geom_at (graph_of gs edges) n ≡ option_map (λ v. geom_row (n, v)) (value_at gs.rows n)
  geom_at-view = find-map geom_row n (λ (x : Geom C). x.number == n) (λ row. refl) gs.rows

  -- a geom that is there has its row
  pub geom_there : IsSome (geom_at (graph_of gs edges) n) → IsSome (value_at gs.rows n)
  geom_there lives = row_there (λ v. geom_row (n, v)) (value_at gs.rows n) (rw geom_at-view at lives)

  -- the provider of a number
  pub provider_at-view : provider_at (graph_of gs edges) n
      ≡ option_map (λ v. provider_row (n, v)) (value_at edges.providers.rows n)
  provider_at-view = find-map provider_row n (λ (x : Provider). x.number == n) (λ row. refl) edges.providers.rows

  -- a provider that is there has its row
  pub provider_there : IsSome (provider_at (graph_of gs edges) n) → IsSome (value_at edges.providers.rows n)
  provider_there lives =
      row_there (λ v. provider_row (n, v)) (value_at edges.providers.rows n) (rw provider_at-view at lives)

  -- the consumer of a number
  pub consumer_at-view : consumer_at (graph_of gs edges) n
      ≡ option_map (λ v. consumer_row (n, v)) (value_at edges.consumers.rows n)
  consumer_at-view = find-map consumer_row n (λ (x : Consumer). x.number == n) (λ row. refl) edges.consumers.rows

  -- a consumer that is there has its row
  pub consumer_there : IsSome (consumer_at (graph_of gs edges) n) → IsSome (value_at edges.consumers.rows n)
  consumer_there lives =
      row_there (λ v. consumer_row (n, v)) (value_at edges.consumers.rows n) (rw consumer_at-view at lives)

-- what a provider's cell holds beside the provider, and a consumer's beside the consumer
abbrev pub provider_beside : ProvCell → Counts × Bool × Bool × Scratch
provider_beside x = (have_of x, risen_of x, fallen_of x, x.scratch)

-- what a consumer's cell holds beside the consumer
abbrev pub consumer_beside : ConsCell → Counts × ℕ × Scratch
consumer_beside x = (want_of x, active_of x, x.scratch)

module _ {C : Type 0} (t : Tables C) (n : ℕ) (v : GeomCell C) (rising : IsRising 1 t.geoms.rows t.geoms.next)
    (at : value_at t.geoms.rows n ≡ Some v) where
  -- the mesh after a geom changes
  pub geom-view : (change : Geom C → Geom C) (w : GeomCell C) → geom_row (n, w) ≡ change (geom_row (n, v))
      → w.scratch ≡ v.scratch
      → topo_view (with_geom_cell t n w)
      ≡ with_topology (topo_view t)
      (record (graph t) { geoms = change_where (λ x. x.number == n) change (graph t).geoms })
  geom-view change w so same =
      rw (
        rows_changed t.geoms n v w rising at geom_row (λ x. x.number == n) (λ row. refl) change so,
        rows_kept t.geoms n v w rising at (row_with (geom_scratch_of {C = C})) (λ i. (n, same i)),
      ) refl

  -- the mesh after a geom gets other scratch
  pub set_geom_scratch-view : (scratch : Scratch)
      → topo_view (with_geom_cell t n (record v { scratch = scratch })) ≡ with_geom_scratch (topo_view t) n scratch
  set_geom_scratch-view scratch =
      let w : GeomCell C = record v { scratch = scratch } in
      rw (
        rows_kept t.geoms n v w rising at geom_row refl,
        rows_with-with_value (geom_scratch_of {C = C}) n w t.geoms.rows,
      ) refl

module _ {C : Type 0} (t : Tables C) (n : ℕ) (v : ProvCell)
    (rising : IsRising 1 t.edges.providers.rows t.edges.providers.next)
    (at : value_at t.edges.providers.rows n ≡ Some v) where
  -- a part of the cell that is kept is seen as before
  provider_part : {Y : Type 0} (w : ProvCell) (f : ProvCell → Y) → f w ≡ f v
      → rows_with f (with_value t.edges.providers.rows n w) ≡ rows_with f t.edges.providers.rows
  provider_part w f same = rows_kept t.edges.providers n v w rising at (row_with f) (λ i. (n, same i))

  -- the mesh after a provider changes
  pub provider-view : (change : Provider → Provider) (w : ProvCell)
      → provider_row (n, w) ≡ change (provider_row (n, v)) → provider_beside w ≡ provider_beside v
      → topo_view (with_provider_cell t n w)
      ≡ with_topology (topo_view t)
      (record (graph t) { providers = change_where (λ x. x.number == n) change (graph t).providers })
  provider-view change w so same =
      rw (
        rows_changed t.edges.providers n v w rising at provider_row (λ x. x.number == n) (λ row. refl) change so,
        provider_part w have_of (ap (λ b. b.0) same),
        provider_part w risen_of (ap (λ b. b.1) same),
        provider_part w fallen_of (ap (λ b. b.2) same),
        provider_part w provider_scratch_of (ap (λ b. b.3) same),
      ) refl

  -- the mesh after a provider gets other counts
  pub set_have-view : (have : Counts)
      → topo_view (with_provider_cell t n (record v { provider = record v.provider { have = have } }))
      ≡ with_have (topo_view t) n have
  set_have-view have =
      let w : ProvCell = record v { provider = record v.provider { have = have } } in
      rw (
        rows_kept t.edges.providers n v w rising at provider_row refl,
        rows_with-with_value have_of n w t.edges.providers.rows,
        provider_part w risen_of refl,
        provider_part w fallen_of refl,
        provider_part w provider_scratch_of refl,
      ) refl

  -- the mesh after a provider gets other notes
  pub set_noted-view : (risen : Bool) (fallen : Bool)
      → topo_view (with_provider_cell t n
      (record v { provider = record v.provider { risen = risen; fallen = fallen } }))
      ≡ with_notes (topo_view t) n risen fallen
  set_noted-view risen fallen =
      let w : ProvCell = record v { provider = record v.provider { risen = risen; fallen = fallen } } in
      rw (
        rows_kept t.edges.providers n v w rising at provider_row refl,
        provider_part w have_of refl,
        rows_with-with_value risen_of n w t.edges.providers.rows,
        rows_with-with_value fallen_of n w t.edges.providers.rows,
        provider_part w provider_scratch_of refl,
      ) refl

  -- the mesh after a provider gets the notes that it has
  pub same_notes-view : (risen fallen : Bool) → v.provider.risen ≡ risen → v.provider.fallen ≡ fallen
      → topo_view (with_provider_cell t n v) ≡ with_notes (topo_view t) n risen fallen
  same_notes-view up down as_risen as_fallen =
      set_noted-view v.provider.risen v.provider.fallen
      ∙ (λ i. with_notes (topo_view t) n (as_risen i) (as_fallen i))

  -- the mesh after a provider gets other scratch
  pub set_provider_scratch-view : (scratch : Scratch)
      → topo_view (with_provider_cell t n (record v { scratch = scratch }))
      ≡ with_provider_scratch (topo_view t) n scratch
  set_provider_scratch-view scratch =
      let w : ProvCell = record v { scratch = scratch } in
      rw (
        rows_kept t.edges.providers n v w rising at provider_row refl,
        provider_part w have_of refl,
        provider_part w risen_of refl,
        provider_part w fallen_of refl,
        rows_with-with_value provider_scratch_of n w t.edges.providers.rows,
      ) refl

module _ {C : Type 0} (t : Tables C) (n : ℕ) (v : ConsCell)
    (rising : IsRising 1 t.edges.consumers.rows t.edges.consumers.next)
    (at : value_at t.edges.consumers.rows n ≡ Some v) where
  -- a part of the cell that is kept is seen as before
  consumer_part : {Y : Type 0} (w : ConsCell) (f : ConsCell → Y) → f w ≡ f v
      → rows_with f (with_value t.edges.consumers.rows n w) ≡ rows_with f t.edges.consumers.rows
  consumer_part w f same = rows_kept t.edges.consumers n v w rising at (row_with f) (λ i. (n, same i))

  -- the mesh after a consumer changes
  pub consumer-view : (change : Consumer → Consumer) (w : ConsCell)
      → consumer_row (n, w) ≡ change (consumer_row (n, v)) → consumer_beside w ≡ consumer_beside v
      → topo_view (with_consumer_cell t n w)
      ≡ with_topology (topo_view t)
      (record (graph t) { consumers = change_where (λ x. x.number == n) change (graph t).consumers })
  consumer-view change w so same =
      rw (
        rows_changed t.edges.consumers n v w rising at consumer_row (λ x. x.number == n) (λ row. refl) change so,
        consumer_part w want_of (ap (λ b. b.0) same),
        consumer_part w active_of (ap (λ b. b.1) same),
        consumer_part w consumer_scratch_of (ap (λ b. b.2) same),
      ) refl

  -- the mesh after another number of requests is out through a consumer
  pub active-view : (change : ℕ → ℕ)
      → topo_view (with_consumer_cell t n
      (record v { consumer = record v.consumer { active = change v.consumer.active } }))
      ≡ with_active (topo_view t) n change
  active-view change =
      let w : ConsCell = record v { consumer = record v.consumer { active = change v.consumer.active } } in
      rw (
        rows_kept t.edges.consumers n v w rising at consumer_row refl,
        consumer_part w want_of refl,
        rows_with-change_at active_of n change v w refl t.edges.consumers.rows
            (only_value n 1 t.edges.consumers.next v t.edges.consumers.rows rising at),
        consumer_part w consumer_scratch_of refl,
      ) refl

  -- the mesh after a consumer gets other counts
  pub set_want-view : (want : Counts)
      → topo_view (with_consumer_cell t n (record v { consumer = record v.consumer { want = want } }))
      ≡ with_want (topo_view t) n want
  set_want-view want =
      let w : ConsCell = record v { consumer = record v.consumer { want = want } } in
      rw (
        rows_kept t.edges.consumers n v w rising at consumer_row refl,
        rows_with-with_value want_of n w t.edges.consumers.rows,
        consumer_part w active_of refl,
        consumer_part w consumer_scratch_of refl,
      ) refl

  -- the mesh after a consumer gets other scratch
  pub set_consumer_scratch-view : (scratch : Scratch)
      → topo_view (with_consumer_cell t n (record v { scratch = scratch }))
      ≡ with_consumer_scratch (topo_view t) n scratch
  set_consumer_scratch-view scratch =
      let w : ConsCell = record v { scratch = scratch } in
      rw (
        rows_kept t.edges.consumers n v w rising at consumer_row refl,
        consumer_part w want_of refl,
        consumer_part w active_of refl,
        rows_with-with_value consumer_scratch_of n w t.edges.consumers.rows,
      ) refl

  -- the mesh after a consumer is attached to a provider, or to nothing
  pub switch-view : (o : Option ℕ)
      → topo_view (with_consumer_cell t n (record v { consumer = record v.consumer { prov = o } }))
      ≡ with_topology (topo_view t) (record (graph t) {
        consumers = change_where (λ x. x.number == n) (λ x. record x { provider = o }) (graph t).consumers;
      })
  switch-view o =
      consumer-view (λ x. record x { provider = o }) (record v { consumer = record v.consumer { prov = o } }) refl refl

module _ {C : Type 0} (t : Tables C) (n : ℕ) where
  -- the mesh without a geom
  pub without_geom-view : (less : ℕ)
      → IsButForRoom (topo_view (record t { geoms = record t.geoms { rows = without t.geoms.rows n }; live = less }))
      (without_geom (topo_view t) n)
  without_geom-view less =
      rw (
        map-without geom_row n (λ (x : Geom C). x.number == n) (λ row. refl) t.geoms.rows,
        map-without (row_with (geom_scratch_of {C = C})) n (λ x. x.0 == n) (λ row. refl) t.geoms.rows,
      ) refl

  -- the mesh without a provider
  pub without_provider-view : topo_view
      (record t {
        edges =
            record t.edges { providers = record t.edges.providers { rows = without t.edges.providers.rows n } };
      })
      ≡ without_provider (topo_view t) n
  without_provider-view =
      rw (
        map-without provider_row n (λ (x : Provider). x.number == n) (λ row. refl) t.edges.providers.rows,
        map-without (row_with have_of) n (λ x. x.0 == n) (λ row. refl) t.edges.providers.rows,
        map-without (row_with risen_of) n (λ x. x.0 == n) (λ row. refl) t.edges.providers.rows,
        map-without (row_with fallen_of) n (λ x. x.0 == n) (λ row. refl) t.edges.providers.rows,
        map-without (row_with provider_scratch_of) n (λ x. x.0 == n) (λ row. refl) t.edges.providers.rows,
      ) refl

  -- the mesh without a consumer
  pub without_consumer-view : topo_view
      (record t {
        edges =
            record t.edges { consumers = record t.edges.consumers { rows = without t.edges.consumers.rows n } };
      })
      ≡ without_consumer (topo_view t) n
  without_consumer-view =
      rw (
        map-without consumer_row n (λ (x : Consumer). x.number == n) (λ row. refl) t.edges.consumers.rows,
        map-without (row_with want_of) n (λ x. x.0 == n) (λ row. refl) t.edges.consumers.rows,
        map-without (row_with active_of) n (λ x. x.0 == n) (λ row. refl) t.edges.consumers.rows,
        map-without (row_with consumer_scratch_of) n (λ x. x.0 == n) (λ row. refl) t.edges.consumers.rows,
      ) refl

  -- the first number from a number on
  pub next_geom-view : (low : ℕ) → first_geom (graph t).geoms low ≡ first_from t.geoms.rows low
  next_geom-view low =
      first-map geom_row (λ (x : Geom C). x.number) (λ (x : Geom C). nat_le low x.number) (λ row. nat_le low row.0)
      (λ row. refl) (λ row. refl) t.geoms.rows

  -- the first provider from a number on
  pub next_provider-view : (low : ℕ) → first_provider (graph t).providers low ≡ first_from t.edges.providers.rows low
  next_provider-view low =
      first-map provider_row (λ (x : Provider). x.number) (λ (x : Provider). nat_le low x.number)
      (λ row. nat_le low row.0) (λ row. refl) (λ row. refl) t.edges.providers.rows

  -- the first consumer from a number on
  pub next_consumer-view : (low : ℕ) → first_consumer (graph t).consumers low ≡ first_from t.edges.consumers.rows low
  next_consumer-view low =
      first-map consumer_row (λ (x : Consumer). x.number) (λ (x : Consumer). nat_le low x.number)
      (λ row. nat_le low row.0) (λ row. refl) (λ row. refl) t.edges.consumers.rows

module _ {C : Type 0} (t : Tables C) where
  -- the provider of a name, by the rows
  pub find-names : (n : Names) → AreNames (map provider_row t.edges.providers.rows) t.edges.providers.next n
      → (name : List ℕ) → find_provider (graph t) name ≡ option_or (sound_of n name) (last_named n.all.rows name)
  find-names n are name =
      search (rules, newest-names (map provider_row t.edges.providers.rows) t.edges.providers.next n are name)

  -- a new consumer, in room that was kept
  pub with_consumer-view : (geom room : ℕ) →
      topo_view (record t {
        edges =
            record t.edges {
              consumers = with_insert (record t.edges.consumers { spare = room }) (made_consumer geom);
            };
      })
      ≡ record (with_consumer (topo_view t) geom) { room = record (topo_view t).room { consumers = room - 1 } }
  with_consumer-view geom room =
      let row : List (ℕ × ConsCell) = (t.edges.consumers.next, made_consumer geom) ∷ [] in
      rw (
        map-append consumer_row t.edges.consumers.rows row,
        map-append (row_with want_of) t.edges.consumers.rows row,
        map-append (row_with active_of) t.edges.consumers.rows row,
        map-append (row_with consumer_scratch_of) t.edges.consumers.rows row,
      ) refl

  -- a new provider, in room that was kept
  pub with_provider-view : (geom : ℕ) (name : List ℕ) (size sector room : ℕ) →
      topo_view (record t {
        edges =
            record t.edges {
              providers =
                  with_insert (record t.edges.providers { spare = room }) (made_provider geom name size sector);
            };
      })
      ≡ record (with_provider (topo_view t) geom name size sector) {
        room = record (topo_view t).room { providers = room - 1 };
      }
  with_provider-view geom name size sector room =
      let row : List (ℕ × ProvCell) = (t.edges.providers.next, made_provider geom name size sector) ∷ [] in
      rw (
        map-append provider_row t.edges.providers.rows row,
        map-append (row_with have_of) t.edges.providers.rows row,
        map-append (row_with risen_of) t.edges.providers.rows row,
        map-append (row_with fallen_of) t.edges.providers.rows row,
        map-append (row_with provider_scratch_of) t.edges.providers.rows row,
      ) refl

module _ {C : Type 0} (gs : SlotsView (GeomCell C)) (n : ℕ) where
  -- one less where one is taken away
  pub length-without : (low high : ℕ) (v : GeomCell C) (rows : List (ℕ × GeomCell C)) → IsRising low rows high
      → Some v ≡ value_at rows n → length (without rows n) + 1 ≡ length rows
  length-without low high v [] rising at = absurd cc
  length-without low high v (row ∷ rows) rising at =
      grind (arith, without_below n (row.0 + 1) rows high rising.1, length-without (row.0 + 1) high v rows rising.1)

  -- one geom less
  pub count_falls : (live : ℕ) (v : GeomCell C) → IsRising 1 gs.rows gs.next → Some v ≡ value_at gs.rows n
      → IsCount (length gs.rows) live → IsCount (length (without gs.rows n)) (live - 1)
  count_falls live v rising at counted = search (rules, length-without 1 gs.next v gs.rows rising)

-- what is seen of a row has its number, and a flag where its value passes
module _ {T X : Type 0} (seen : ℕ × T → X) (number : X → ℕ) (flag : X → Bool) (test : T → Bool) (n : ℕ)
    (is : (row : ℕ × T) → number (seen row) ≡ row.0) (same : (row : ℕ × T) → flag (seen row) ≡ test row.1) where
  -- past the number none of it has the flag
  unflagged : (low high : ℕ) (rows : List (ℕ × T)) → IsRising low rows high → n < low
      → list_any (λ x. (number x == n) && flag x) (map seen rows) ≡ false
  unflagged low high [] rising below = refl
  unflagged low high (row ∷ rows) rising below =
      search (rules, unflagged (row.0 + 1) high rows rising.1 (omega (arith, rising.0)))

  -- whether what is seen of the number has the flag, by its row
  pub flag-rows : (low high : ℕ) (rows : List (ℕ × T)) → IsRising low rows high
      → list_any (λ x. (number x == n) && flag x) (map seen rows) ≡ passes test (value_at rows n)
  flag-rows low high [] rising = refl
  flag-rows low high (row ∷ rows) rising =
      grind (
        arith,
        is row,
        same row,
        unflagged (row.0 + 1) high rows rising.1,
        flag-rows (row.0 + 1) high rows rising.1,
      )

-- whether the provider of a number carries an error, by its row
pub is_errored-rows : (n low high : ℕ) (rows : List (ℕ × ProvCell)) → IsRising low rows high
    → list_any (λ (x : Provider). (x.number == n) && x.errored) (map provider_row rows)
    ≡ passes (λ (x : ProvCell). x.provider.errored) (value_at rows n)
is_errored-rows n =
    flag-rows provider_row (λ x. x.number) (λ x. x.errored) (λ v. v.provider.errored) n (λ row. refl) (λ row. refl)

-- whether the geom of a number withers, by its row
pub is_withering-rows : {C : Type 0} (n low high : ℕ) (rows : List (ℕ × GeomCell C)) → IsRising low rows high
    → list_any (λ (x : Geom C). (x.number == n) && x.withering) (map geom_row rows)
    ≡ passes (λ (x : GeomCell C). x.geom.withering) (value_at rows n)
is_withering-rows n =
    flag-rows geom_row (λ x. x.number) (λ x. x.withering) (λ v. v.geom.withering) n (λ row. refl) (λ row. refl)

-- one passes just where one is found
any_found : {X : Type 0} (test : X → Bool) (xs : List X) → list_any test xs ≡ is_some (find test xs)
any_found test [] = refl
any_found test (x ∷ xs) = grind (arith, any_found test xs)

-- whether a name is taken, by the names
pub name_taken : (ps : List Provider) (next : ℕ) (n : Names) → AreNames ps next n → (name : List ℕ)
    → is_some (sound_of n name) ≡ list_any (is_sound_named name) ps
name_taken ps next n are name = search (rules, any_found (is_sound_named name) ps)

-- another value under a number leaves the count
pub count-with_value : {C : Type 0} (n : ℕ) (v : GeomCell C) (rows : List (ℕ × GeomCell C)) (live : ℕ)
    → IsCount (length rows) live → IsCount (length (with_value rows n v)) live
count-with_value {C} n v rows live counted =
    search (rules, length-map rows (λ (row : ℕ × GeomCell C). if row.0 == n then (n, v) else row))

-- more room shows in the room alone
pub roomier-view : {C : Type 0} (t u : Tables C) → IsRoomier t u → IsButForRoom (topo_view u) (topo_view t)
roomier-view t u is = rw (is.geoms, is.providers, is.consumers) refl

module _ {C : Type 0} (t u : Tables C) {v : TopoView C} (seen : topo_view t ≡ v) (roomier : IsRoomier t u) where
  -- so the graph is the same
  pub roomier-graph : graph u ≡ v.topology
  roomier-graph = ap (λ w. w.topology) (roomier-view t u roomier) ∙ ap (λ w. w.topology) seen

  -- where no more providers and consumers were asked for, the room for them is the same
  pub room-geoms : (n : ℕ) → u.edges.providers.spare ≤ max t.edges.providers.spare 0
      → u.edges.consumers.spare ≤ max t.edges.consumers.spare 0
      → ◌≡◌ {A = Room} (record {
        geoms = n;
        providers = u.edges.providers.spare;
        consumers = u.edges.consumers.spare;
      }) (record v.room { geoms = n })
  room-geoms n providers_most consumers_most = search rules

  -- where no more geoms and consumers were
  pub room-providers : (n : ℕ) → u.geoms.spare ≤ max t.geoms.spare 0
      → u.edges.consumers.spare ≤ max t.edges.consumers.spare 0
      → ◌≡◌ {A = Room} (record {
        geoms = min u.geoms.spare (4294967294 - u.live);
        providers = n;
        consumers = u.edges.consumers.spare;
      }) (record v.room { providers = n })
  room-providers n geoms_most consumers_most = search rules

  -- where no more geoms and providers were
  pub room-consumers : (n : ℕ) → u.geoms.spare ≤ max t.geoms.spare 0
      → u.edges.providers.spare ≤ max t.edges.providers.spare 0
      → ◌≡◌ {A = Room} (record {
        geoms = min u.geoms.spare (4294967294 - u.live);
        providers = u.edges.providers.spare;
        consumers = n;
      }) (record v.room { consumers = n })
  room-consumers n geoms_most providers_most = search rules

-- What the mesh shows of a provider and of a consumer, by their cells.

-- what is shown under a number, where this is the cell that stands there, if one does
pub record ShowsProvider {C : Type 0} (v : TopoView C) (k : ℕ) (o : Option ProvCell) : Type 0 where
  pub provider : provider_at v.topology k ≡ option_map (λ x. provider_row (k, x)) o
  pub have : value_at v.haves k ≡ option_map have_of o
  pub risen : value_at v.risen k ≡ option_map risen_of o
  pub fallen : value_at v.fallen k ≡ option_map fallen_of o

-- so of a consumer
pub record ShowsConsumer {C : Type 0} (v : TopoView C) (k : ℕ) (o : Option ConsCell) : Type 0 where
  pub consumer : consumer_at v.topology k ≡ option_map (λ x. consumer_row (k, x)) o
  pub want : value_at v.wants k ≡ option_map want_of o
  pub active : value_at v.active k ≡ option_map active_of o

module _ {C : Type 0} (t : Tables C) (v : TopoView C) (seen : topo_view t ≡ v) (n k : ℕ) (same : n ≡ k) where
  -- a provider shows as its cell says
  pub shows-provider : (o : Option ProvCell) → o ≡ value_at t.edges.providers.rows n → ShowsProvider v k o
  shows-provider o at = record {
    provider = rw (← seen, ← same, provider_at-view t.geoms t.edges n, ← at) refl;
    have = rw (← seen, ← same, value_at-rows_with have_of n t.edges.providers.rows, ← at) refl;
    risen = rw (← seen, ← same, value_at-rows_with risen_of n t.edges.providers.rows, ← at) refl;
    fallen = rw (← seen, ← same, value_at-rows_with fallen_of n t.edges.providers.rows, ← at) refl;
  }

  -- and a consumer
  pub shows-consumer : (o : Option ConsCell) → o ≡ value_at t.edges.consumers.rows n → ShowsConsumer v k o
  shows-consumer o at = record {
    consumer = rw (← seen, ← same, consumer_at-view t.geoms t.edges n, ← at) refl;
    want = rw (← seen, ← same, value_at-rows_with want_of n t.edges.consumers.rows, ← at) refl;
    active = rw (← seen, ← same, value_at-rows_with active_of n t.edges.consumers.rows, ← at) refl;
  }
