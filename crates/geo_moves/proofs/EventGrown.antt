-- A mesh to which parts came: nothing is granted by it, and which rows came.
use Rattle.std.specs.Prelude.{◌≡◌, ℕ, ◌==◌, List, [], ◌∷◌, ◌++◌, map, find, Option, Some, None, IsSome, unwrap_or}
use Rattle.std.specs.List.{AllByRecursion}
use Rattle.std.specs.Option.{option_map}
use Rattle.std.proofs.Common.{refl, sym, ◌∙◌, ap, rules}
use Rattle.std.proofs.lemmas.List.{map-append}
use Rattle.std.proofs.lemmas.List.Elements.{All-contains}
use Rattle.geo_base.proofs.FindLists.{none_passes, found-before}
use Rattle.geo_base.proofs.AllLists.{all_mapped}
use Rattle.geo_base.specs.declared.kind.Kind.{Kind}
use Rattle.geo_base.specs.declared.request.Counts.{Counts}
use Rattle.geo_model.specs.Topology.{Geom, Consumer, consumer_at, geom_at}
use Rattle.geo_model.specs.Graph.{GeomsLive}
use Rattle.geo_model.specs.Demand.{no_counts, want}
use Rattle.geo_model.specs.Place.{disk_of}
use Rattle.geo_model.specs.World.{Config}
use Rattle.geo_slots.specs.Slots.{value_at}
use Rattle.geo_mesh.specs.Topo.{TopoView}
use Rattle.geo_laws_graph.proofs.Members.{find-Contains}
use Rattle.geo_access.specs.Access.{IsCounted, granted_by, holds_grants}
use Rattle.geo_access.proofs.Decided.{item_at}
use Rattle.geo_state.specs.Parts.{disk_row, owner_row}
use Rattle.geo_state.specs.Sites.{Comers, HasComers}
use Rattle.geo_state.proofs.Frames.{under, under_read}
use Rattle.geo_state.proofs.Lists.{find-past}
use Rattle.geo_moves.proofs.Growing.{Grows, class_row, no_want, number_of}
use Rattle.geo_moves.proofs.Offering.{none-stored}

-- the disk of a geom's row
abbrev pub disk_part : ℕ × (Kind × Option ℕ) → ℕ × Option ℕ
disk_part row = (row.0, row.1.1)

-- rows with disks alone
disk-rows : (gs : List (Geom Config)) → map disk_row gs ≡ map disk_part (map class_row gs)
disk-rows [] = refl
disk-rows (g ∷ gs) = ap (λ rows. disk_row g ∷ rows) (disk-rows gs)

-- what is found under a number is found there among more rows
value-more : {V : Type 0} (rows more : List (ℕ × V)) (n : ℕ) (v : V) → value_at rows n ≡ Some v
    → value_at (rows ++ more) n ≡ Some v
value-more {V} rows more n v e = search (rules, found-before (λ (r : ℕ × V). r.0 == n) rows more)

-- numbers that came want nothing
wants-none : (ns : List ℕ) (n : ℕ) → unwrap_or (value_at (map no_want ns) n) no_counts ≡ no_counts
wants-none [] n = refl
wants-none (m ∷ ms) n = search (rules, wants-none ms n)

module _ (t u : TopoView Config) (g : Grows t u) where
  -- the rows that came
  abbrev pub comers : Comers
  comers = record {
    consumers = map number_of g.consumers;
    geoms = map disk_part g.geoms;
    providers = map owner_row g.providers;
  }

  -- they came at the ends
  pub has-comers : HasComers t u comers
  has-comers = record {
    consumers = ap (map number_of) g.with_consumers ∙ map-append number_of t.topology.consumers g.consumers;
    active = g.with_active;
    geoms =
        disk-rows u.topology.geoms
        ∙ ap (map disk_part) g.with_geoms
        ∙ map-append disk_part (map class_row t.topology.geoms) g.geoms
        ∙ ap (λ rows. rows ++ map disk_part g.geoms) (sym (disk-rows t.topology.geoms));
    providers = ap (map owner_row) g.with_providers ∙ map-append owner_row t.topology.providers g.providers;
  }

  -- none is of a disk
  pub no-disks : AllByRecursion (λ (row : ℕ × Option ℕ). row.1 ≡ None) (map disk_part g.geoms)
  no-disks = all_mapped (λ (row : ℕ × Option ℕ). row.1 ≡ None) disk_part g.geoms g.diskless

  -- Grants

  -- the class of a geom, by its row
  class-read : (v : TopoView Config) (n : ℕ)
      → option_map (λ (x : Geom Config). let row : Kind × Option ℕ = (x.kind, disk_of x.config) in row)
      (geom_at v.topology n) ≡ under (map class_row v.topology.geoms) n
  class-read v n = search (rules, under_read)

  -- a geom that stood has its class
  same-class : (n : ℕ) → IsSome (geom_at t.topology n) → holds_grants u.topology n ≡ holds_grants t.topology n
  same-class n there =
      search (
        rules,
        class-read t n,
        class-read u n,
        ap (λ rows. under rows n) g.with_geoms,
        value-more (map class_row t.topology.geoms) g.geoms n,
        class_row,
      )

  module _ (counted : IsCounted t) (live : GeomsLive t.topology) where
    -- a consumer that stood is granted what it was
    stood-granted : (c : ℕ) (x : Consumer) → consumer_at t.topology c ≡ Some x → granted_by u c ≡ granted_by t c
    stood-granted c x found =
        search (
          rules,
          ap (find (λ (y : Consumer). y.number == c)) g.with_consumers,
          found-before (λ (y : Consumer). y.number == c) t.topology.consumers g.consumers x found,
          All-contains (λ (y : Consumer). IsSome (geom_at t.topology y.geom)) t.topology.consumers x live
              (find-Contains (λ (y : Consumer). y.number == c) t.topology.consumers x found),
          Some (want (granted_by t) t.topology x),
          ap (λ rows. value_at rows c) counted.wants,
          item_at (λ (y : Consumer). y.number) (want (granted_by t) t.topology) c t.topology.consumers x found,
          ap (λ rows. value_at rows c) g.with_wants,
          value-more t.wants (map no_want (map number_of g.consumers)) c (want (granted_by t) t.topology x),
          no_want,
          number_of,
          same-class x.geom,
        )

    -- one that came is granted nothing
    come-granted : (c : ℕ) → consumer_at t.topology c ≡ None → granted_by u c ≡ granted_by t c
    come-granted c none =
        search (
          rules,
          none-stored (want (granted_by t) t.topology) c t.topology.consumers none,
          ap (λ rows. unwrap_or (value_at rows c) no_counts) g.with_wants,
          find-past (λ (row : ℕ × Counts). row.0 == c) t.wants (map no_want (map number_of g.consumers)),
          no_want,
          number_of,
          none_passes (λ (row : ℕ × Counts). row.0 == c) t.wants,
          wants-none (map number_of g.consumers) c,
        )

    -- so all grants are as they were
    pub grown-granted : (c : ℕ) → granted_by u c ≡ granted_by t c
    grown-granted c = search (rules, come-granted c, stood-granted c)
