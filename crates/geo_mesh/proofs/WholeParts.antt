-- What a mesh keeps as a whole, where a part comes or goes, and where a consumer is attached or detached.
use Rattle.std.specs.Prelude.{◌≡◌, ◌≢◌, ℕ, ◌+◌, ◌-◌, ◌<◌, ◌≤◌, ◌^◌, ◌==◌, true, false, [], ◌∷◌, Option, Some, None, find, map, option_map, IsSome, IfSome, Bool, IsSomeAnd}
use Rattle.std.specs.List.{AllByRecursion}
use Rattle.std.proofs.Common.{refl, sym, ◌∙◌, ap, subst, rules}
use Rattle.std.proofs.lemmas.Bool.{ne_eqb}
use Rattle.geo_model.specs.Words.{names_number}
use Rattle.geo_slots.specs.Slots.{SlotsView, IsRising, value_at, without, with_insert}
use Rattle.geo_model.specs.Topology.{geom_at, provider_at, consumer_at, providers_of, consumers_of, attached_to, Provider, is_errored}
use Rattle.geo_mesh.specs.declared.records.GeomCell.{GeomCell}
use Rattle.geo_mesh.specs.declared.records.ProvCell.{ProvCell}
use Rattle.geo_mesh.specs.declared.records.ConsCell.{ConsCell}
use Rattle.geo_mesh.specs.declared.index.Index.{Index}
use Rattle.geo_mesh.specs.declared.names.Names.{Names}
use Rattle.geo_mesh.specs.declared.tables.Edges.{Edges}
use Rattle.geo_mesh.specs.declared.tables.Tables.{Tables}
use Rattle.geo_names.specs.Names.{NamesView, with_name}
use Rattle.geo_mesh.specs.Topo.{is_provider_size, TopoView}
use Rattle.geo_mesh.specs.Graph.{IsOrderly}
use Rattle.geo_mesh.specs.Cells.{graph, provider_row, put_consumer, topo_view}
use Rattle.geo_mesh.specs.Index.{with_geom_index, with_provider_index, with_consumer_index, without_geom_index, without_provider_index, without_consumer_index, attached_index, detached_index, IsIndexed}
use Rattle.geo_mesh.specs.Names.{HaveNameRoom, AddsName, RemovesName, is_sound_named, AreNames}
use Rattle.geo_mesh.specs.Ranks.{HaveRanks, bare, stored, owner, owner_of, number_or, kinds, user, ranked_below, is_dev_or_taste, is_high, IsRefusedFor, IsAdmitted}
use Rattle.geo_mesh.specs.Whole.{IsWhole, IsWholeBut}
use Rattle.geo_mesh.specs.Going.{AreGoingBut, is_free_in}
use Rattle.geo_mesh.proofs.RankFirst.{footing-none, kin-of, first-two}
use Rattle.geo_mesh.proofs.RowLemmas.{map-without, only_value, value_at-rows_with}
use Rattle.geo_mesh.proofs.GoingLemmas.{under-each, free-new_provider, free-new_consumer, free-without_provider, free-without_consumer, free-switched, going-push, going-without, going-bare}
use Rattle.geo_mesh.proofs.NoteLemmas.{with_mark, without_mark, notes-geom, notes-provider, notes-without_geom, notes-without_provider}
use Rattle.geo_mesh.proofs.RankMesh as ranks
use Rattle.geo_mesh.proofs.RankSwitch.{mesh-kept, free-cell, free-at, user-cell, user-stands, provider-offered, admitted-mesh, admitted-free, on-refused}
use Rattle.geo_mesh.proofs.ViewLemmas.{consumer_at-view, count_falls, without_geom-view, without_provider-view, without_consumer-view, switch-view}
use Rattle.geo_mesh.proofs.Orderly.{orderly-add_geom, orderly-add_provider, orderly-add_consumer, orderly-remove_geom, orderly-remove_provider, orderly-remove_consumer, orderly-attach, orderly-detach}
use Rattle.geo_mesh.proofs.WholeLemmas.{graph-geom, graph-provider, graph-consumer, mesh-attached, mesh-detached, mesh-bare, found_provider}
use Rattle.geo_mesh.proofs.IndexLemmas.{indexed-add_consumer, indexed-add_geom, indexed-add_provider, indexed-remove_consumer, indexed-remove_geom, indexed-remove_provider}
use Rattle.std.proofs.lemmas.List.{map-append}
use Rattle.geo_mesh.proofs.NameLemmas.{only_provider, names-added, names-removed}
use Rattle.geo_model.specs.Rank.{attach_refusal}
use Rattle.geo_mesh.specs.declared.records.AttachRefusal.{AttachRefusal}
use Rattle.geo_mesh.specs.Refusals.{attach_errno}

-- the ranks don't see the index
beside_index : {C : Type 0} (gs : SlotsView (GeomCell C)) (edges : Edges) (live : ℕ) (i : Index)
    → HaveRanks gs edges live → HaveRanks gs (record edges { index = i }) live
beside_index gs edges live i are = record { count = are.count; standing = are.standing }

module _ {C : Type 0} (t : Tables C) (whole : IsWhole t) where
  -- with a new geom, of rank 1
  pub whole-new_geom : (v : GeomCell C) (m : NamesView) → v.geom.withering ≡ false → v.geom.started ≡ 0 → v.rank ≡ 1
      → IsRising 1 t.geoms.rows t.geoms.next
      → t.live < 4294967294 → t.geoms.next + 1 < 2 ^ 64
      → m ≡ record (with_name t.notes.named v.geom.name) { room = m.room } → t.notes.named.room ≤ m.room + 1
      → IsWhole (record t {
        geoms = with_insert t.geoms v;
        edges = record t.edges { index = with_geom_index t.edges.index };
        live = t.live + 1;
        notes = record t.notes { going = with_mark t.notes.going; named = m };
      })
  whole-new_geom v m stays none rank rising few fits added room =
      search (
        rules,
        notes-geom t.notes t.geoms t.edges.providers v m whole.tables.notes added room,
        graph-geom t whole.tables v stays none,
        indexed-add_geom (graph t) t.edges.index whole.tables.indexed v.geom.kind v.geom.name v.geom.config
            v.geom.automatic,
        beside_index (with_insert t.geoms v) t.edges (t.live + 1) (with_geom_index t.edges.index)
            (ranks.mesh-new_geom t.geoms t.edges t.live whole.ranks (t.geoms.next + 1) (t.geoms.spare - 1) v rank rising
            few),
        orderly-add_geom (graph t) whole.graph v.geom.kind v.geom.name v.geom.config v.geom.automatic fits,
        going-push (is_free_in t) t.geoms.next v stays t.geoms.rows,
      )

  -- with a new provider of a geom other than the first two, of a name that no other has without an error: but for the
  -- geom's mark
  pub whole-new_provider : (v : ProvCell) (m : Names) → v.provider.errored ≡ false → v.provider.risen ≡ false
      → v.provider.fallen ≡ false
      → find (is_sound_named v.provider.name) (map provider_row t.edges.providers.rows) ≡ None
      → AddsName t.names m v.provider.name t.edges.providers.next
      → HaveNameRoom (t.edges.providers.spare - 1) m → IsSome (geom_at (graph t) v.provider.geom)
      → v.provider.geom ≢ 1 → v.provider.geom ≢ 2
      → is_provider_size v.provider.size v.provider.sector ≡ true → t.edges.providers.next + 1 < 2 ^ 64
      → IsWholeBut v.provider.geom (record t {
        edges = record t.edges {
          providers = with_insert t.edges.providers v;
          index = with_provider_index t.edges.index v.provider.geom;
        };
        names = m;
        notes = record t.notes { risen = with_mark t.notes.risen; fallen = with_mark t.notes.fallen };
      })
  whole-new_provider v m sound risen fallen free adds name_room lives not_dev not_taste sizes fits = record {
    tables = record {
      notes = notes-provider t.notes t.geoms t.edges.providers v whole.tables.notes risen fallen;
      names_are =
          subst (λ xs. AreNames xs (t.edges.providers.next + 1) m)
          (sym (map-append provider_row t.edges.providers.rows ((t.edges.providers.next, v) ∷ [])))
          (names-added (map provider_row t.edges.providers.rows) t.edges.providers.next t.names m whole.tables.names_are
          (provider_row (t.edges.providers.next, v)) sound refl free adds);
      names_room = name_room;
      count = whole.tables.count;
      indexed =
          subst (λ g. IsIndexed g (with_provider_index t.edges.index v.provider.geom))
          (sym (graph-provider t whole.tables v sound))
          (indexed-add_provider (graph t) t.edges.index whole.tables.indexed v.provider.geom v.provider.name
          v.provider.size
          v.provider.sector);
      room = search rules;
    };
    ranks =
        beside_index t.geoms (record t.edges { providers = with_insert t.edges.providers v }) t.live
        (with_provider_index t.edges.index v.provider.geom)
        (ranks.mesh-new_provider t.geoms t.edges t.live whole.ranks t.edges.providers.next
        (t.edges.providers.next + 1) (t.edges.providers.spare - 1) v);
    graph =
        subst (λ g. IsOrderly g) (sym (graph-provider t whole.tables v sound))
        (orderly-add_provider (graph t) whole.graph v.provider.geom v.provider.name v.provider.size
        v.provider.sector lives not_dev not_taste sizes fits);
    going = search (rules, free-new_provider t.edges.providers.rows t.edges.consumers.rows);
  }

  -- with a new consumer, attached to nothing: but for its geom's mark
  pub whole-new_consumer : (v : ConsCell) → v.consumer.prov ≡ None → v.consumer.spoiled ≡ false
      → IsSome (geom_at (graph t) v.consumer.geom)
      → t.edges.consumers.next + 1 < 2 ^ 64
      → IsWholeBut v.consumer.geom (record t {
        edges =
            record t.edges {
              consumers = with_insert t.edges.consumers v;
              index = with_consumer_index t.edges.index v.consumer.geom;
            };
      })
  whole-new_consumer v free clean lives fits =
      search (
        rules,
        graph-consumer t whole.tables v free clean,
        indexed-add_consumer (graph t) t.edges.index whole.tables.indexed v.consumer.geom,
        beside_index t.geoms (record t.edges { consumers = with_insert t.edges.consumers v }) t.live
            (with_consumer_index t.edges.index v.consumer.geom)
            (ranks.mesh-new_consumer t.geoms t.edges t.live whole.ranks t.edges.consumers.next v.consumer.geom
            (t.edges.consumers.next + 1) (t.edges.consumers.spare - 1) v
            (rw free (ap (λ (o : Option ℕ). (v.consumer.geom, o)) (footing-none v.consumer.geom)))
            (ranks.lives-kinds t.geoms t.edges t.live v.consumer.geom lives)),
        orderly-add_consumer (graph t) whole.graph v.consumer.geom lives fits,
        free-new_consumer t.edges.providers.rows t.edges.consumers.rows,
      )

  -- without a geom that has neither provider nor consumer
  pub whole-without_geom : (n : ℕ) (v : GeomCell C) (m : NamesView) → IsRising 1 t.geoms.rows t.geoms.next
      → value_at t.geoms.rows n ≡ Some v → n ≢ 1 → n ≢ 2
      → providers_of (graph t) n ≡ [] → consumers_of (graph t) n ≡ []
      → m ≡ record t.notes.named { rows = without t.notes.named.rows n; room = m.room } → t.notes.named.room ≤ m.room
      → IsWhole (record t {
        geoms = record t.geoms { rows = without t.geoms.rows n };
        edges = record t.edges { index = without_geom_index t.edges.index n };
        live = t.live - 1;
        notes = record t.notes { going = without_mark t.notes.going n; named = m };
      })
  whole-without_geom n v m rising at not_dev not_taste no_provider no_consumer removed room = record {
    tables = search (
      rules,
      notes-without_geom t.notes t.geoms t.edges.providers n m whole.tables.notes removed room,
      count_falls t.geoms n t.live,
      without_geom-view t n (t.live - 1),
      indexed-remove_geom (graph t) t.edges.index whole.tables.indexed n,
    );
    ranks =
        beside_index (record t.geoms { rows = without t.geoms.rows n }) t.edges (t.live - 1)
        (without_geom_index t.edges.index n)
        (ranks.mesh-destroy_geom t.geoms t.edges t.live whole.ranks n t.geoms.next t.geoms.spare v rising (sym at)
        no_consumer);
    graph =
        subst (λ g. IsOrderly g) (sym (ap (λ v. v.topology) (without_geom-view t n (t.live - 1))))
        (orderly-remove_geom (graph t) whole.graph n not_dev not_taste no_provider no_consumer);
    going = ap (λ rows. without rows n) whole.going ∙ sym (going-without (is_free_in t) n t.geoms.rows);
  }

  -- without a provider to which nothing is attached: but for its geom's mark
  pub whole-without_provider : (n : ℕ) (v : ProvCell) (m : Names)
      → IsRising 1 t.edges.providers.rows t.edges.providers.next
      → value_at t.edges.providers.rows n ≡ Some v
      → RemovesName t.names m v.provider.name n v.provider.errored
      → HaveNameRoom t.edges.providers.spare m → attached_to (graph t) n ≡ []
      → IsWholeBut v.provider.geom (record t {
        edges = record t.edges {
          providers = record t.edges.providers { rows = without t.edges.providers.rows n };
          index = without_provider_index t.edges.index n;
        };
        names = m;
        notes = record t.notes { risen = without_mark t.notes.risen n; fallen = without_mark t.notes.fallen n };
      })
  whole-without_provider n v m rising at removes name_room none = record {
    tables = record {
      notes = notes-without_provider t.notes t.geoms t.edges.providers n whole.tables.notes;
      names_are =
          subst (λ xs. AreNames xs t.edges.providers.next m)
          (sym (map-without provider_row n (λ (x : Provider). x.number == n) (λ row. refl) t.edges.providers.rows))
          (names-removed (map provider_row t.edges.providers.rows) t.edges.providers.next t.names m
          whole.tables.names_are n
          (provider_row (n, v))
          (only_provider n v t.edges.providers.rows
          (only_value n 1 t.edges.providers.next v t.edges.providers.rows rising at))
          (found_provider t whole.tables n v at)
          removes.sound removes);
      names_room = name_room;
      count = whole.tables.count;
      indexed =
          subst (λ g. IsIndexed g (without_provider_index t.edges.index n))
          (sym (ap (λ v. v.topology) (without_provider-view t n)))
          (indexed-remove_provider (graph t) t.edges.index whole.tables.indexed n);
      room = whole.tables.room;
    };
    ranks =
        beside_index t.geoms
        (record t.edges { providers = record t.edges.providers { rows = without t.edges.providers.rows n } }) t.live
        (without_provider_index t.edges.index n)
        (ranks.mesh-destroy_provider t.geoms t.edges t.live whole.ranks n none);
    graph =
        search (rules, without_provider-view t n, orderly-remove_provider (graph t) whole.graph n none);
    going = record {
      free = is_free_in t;
      others = λ g apart.
          sym (free-without_provider t.edges.providers.rows t.edges.consumers.rows g n v
          (only_value n 1 t.edges.providers.next v t.edges.providers.rows rising at) apart);
      rows = whole.going;
    };
  }

  -- without a consumer that is attached to nothing: but for its geom's mark
  pub whole-without_consumer : (n : ℕ) (v : ConsCell) → IsRising 1 t.edges.consumers.rows t.edges.consumers.next
      → value_at t.edges.consumers.rows n ≡ Some v → IfSome (consumer_at (graph t) n) (λ x. x.provider ≡ None)
      → IsWholeBut v.consumer.geom (record t {
        edges = record t.edges {
          consumers = record t.edges.consumers { rows = without t.edges.consumers.rows n };
          index = without_consumer_index t.edges.index n;
        };
      })
  whole-without_consumer n v rising at free = record {
    tables = search (
      rules,
      without_consumer-view t n,
      indexed-remove_consumer (graph t) t.edges.index whole.tables.indexed n,
    );
    ranks =
        beside_index t.geoms
        (record t.edges { consumers = record t.edges.consumers { rows = without t.edges.consumers.rows n } }) t.live
        (without_consumer_index t.edges.index n)
        (ranks.mesh-destroy_consumer t.geoms t.edges t.live whole.ranks n rising free);
    graph =
        search (rules, without_consumer-view t n, orderly-remove_consumer (graph t) whole.graph n);
    going = record {
      free = is_free_in t;
      others = λ g apart.
          sym (free-without_consumer t.edges.providers.rows t.edges.consumers.rows g n v
          (rw (consumer_at-view t.geoms t.edges n, at) at free)
          (only_value n 1 t.edges.consumers.next v t.edges.consumers.rows rising at) apart);
      rows = whole.going;
    };
  }

  -- with the ranks as they were, in other cells
  pub whole-kept : (ns : SlotsView (GeomCell C)) → bare ns ≡ bare t.geoms
      → ((x : ℕ) → stored ns x ≡ stored t.geoms x) → IsWhole (record t { geoms = ns })
  whole-kept ns same kept = record {
    tables = mesh-bare t whole.tables ns same;
    ranks = mesh-kept t.geoms ns t.edges t.live whole.ranks same kept;
    graph = subst (λ g. IsOrderly g) (sym (ap (λ v. v.topology) (ranks.view-bare t ns same))) whole.graph;
    going = whole.going ∙ sym (going-bare (is_free_in t) t.geoms ns same);
  }

  -- each provider of a number is its owner's
  owned : (p : ℕ) → AllByRecursion (λ row. (row.0 == p) ≡ true → row.1.provider.geom ≡ owner t.edges p)
      t.edges.providers.rows
  owned p =
      under-each p (λ x. x.provider.geom ≡ owner t.edges p) 1 t.edges.providers.next t.edges.providers.rows
      (kin-of t.geoms t.edges whole.graph whole.tables.indexed).providers_rise
      (rw (value_at-rows_with owner_of p t.edges.providers.rows) (at (value_at t.edges.providers.rows p))) where
        at : (o : Option ProvCell) → IfSome o (λ x. x.provider.geom ≡ number_or 0 (option_map owner_of o))
        at None = tt
        at (Some x) = refl

  module _ (n : ℕ) (v : ConsCell) (rising : IsRising 1 t.edges.consumers.rows t.edges.consumers.next)
      (at : value_at t.edges.consumers.rows n ≡ Some v)
      (ns : SlotsView (GeomCell C)) (same : bare ns ≡ bare t.geoms) where
    -- the marks, where the consumer is attached to one provider or no more: but for that of the provider's geom
    switched_going : (p : ℕ) (o : Option ℕ) (i : Index)
        → ((q : ℕ) → q ≢ p → names_number o q ≡ names_number v.consumer.prov q)
        → AreGoingBut (owner t.edges p) (record t {
          geoms = ns;
          edges = record (put_consumer t.edges n (record v { consumer = record v.consumer { prov = o } }))
              { index = i };
        })
    switched_going p o i names = record {
      free = is_free_in t;
      others = λ g apart.
          sym (free-switched t.edges.providers.rows t.edges.consumers.rows g n v
          (record v { consumer = record v.consumer { prov = o } }) p (owner t.edges p) refl refl names
          (only_value n 1 t.edges.consumers.next v t.edges.consumers.rows rising at) (owned p) apart);
      rows = whole.going ∙ sym (going-bare (is_free_in t) t.geoms ns same);
    }

    -- with a consumer attached to a provider, where the ranks stand for that graph: but for the mark of the provider's
    -- geom
    pub whole-attached : (p : ℕ) → v.consumer.prov ≡ None
        → HaveRanks ns (put_consumer t.edges n (record v { consumer = record v.consumer { prov = Some p } })) t.live
        → IsSome (provider_at (graph t) p)
        → IsWholeBut (owner t.edges p) (record t {
          geoms = ns;
          edges = record (put_consumer t.edges n (record v { consumer = record v.consumer { prov = Some p } }))
              { index = attached_index t.edges.index n p v.consumer.geom };
        })
    whole-attached p free are lives =
        let edges : Edges = put_consumer t.edges n (record v { consumer = record v.consumer { prov = Some p } }) in
        let after : Tables C = record t
        { edges = record edges { index = attached_index t.edges.index n p v.consumer.geom } } in
        record {
          tables = mesh-bare after (mesh-attached t whole.tables n p v rising at) ns same;
          ranks = beside_index ns edges t.live (attached_index t.edges.index n p v.consumer.geom) are;
          graph =
              subst (λ g. IsOrderly g)
              (sym (ap (λ v. v.topology) (ranks.view-bare after ns same ∙ switch-view t n v rising at (Some p))))
              (orderly-attach (graph t) whole.graph n p lives);
          going = switched_going p (Some p) (attached_index t.edges.index n p v.consumer.geom)
              (λ q apart. rw free (ne_eqb p q (λ e. apart (sym e))));
        }

    -- with a consumer attached to nothing, where the ranks stand for that graph: but for the mark of the geom of the
    -- provider to which it was attached
    pub whole-detached : (p : ℕ) → v.consumer.prov ≡ Some p → HaveRanks ns
        (put_consumer t.edges n (record v { consumer = record v.consumer { prov = None } })) t.live
        → IsWholeBut (owner t.edges p) (record t {
          geoms = ns;
          edges = record (put_consumer t.edges n (record v { consumer = record v.consumer { prov = None } }))
              { index = detached_index t.edges.index n };
        })
    whole-detached p bound are =
        let edges : Edges = put_consumer t.edges n (record v { consumer = record v.consumer { prov = None } }) in
        let after : Tables C = record t { edges = record edges { index = detached_index t.edges.index n } } in
        record {
          tables = mesh-bare after (mesh-detached t whole.tables n v rising at) ns same;
          ranks = beside_index ns edges t.live (detached_index t.edges.index n) are;
          graph =
              subst (λ g. IsOrderly g)
              (sym (ap (λ v. v.topology) (ranks.view-bare after ns same ∙ switch-view t n v rising at None)))
              (orderly-detach (graph t) whole.graph n);
          going = switched_going p None (detached_index t.edges.index n)
              (λ q apart. rw bound (sym (ne_eqb p q (λ e. apart (sym e)))));
        }

-- What an attach asks of a mesh and does to it, by the numbers that are read there.

-- the consumer is attached to nothing, the provider is there, and these are their geoms
pub record IsAsked {C : Type 0} (t : Tables C) (v : TopoView C) (n p upper under : ℕ) : Type 0 where
  pub whole : IsWhole t
  pub seen : topo_view t ≡ v
  pub loose : IsSomeAnd (consumer_at v.topology n) (λ x. x.provider ≡ None)
  pub offered : IsSome (provider_at v.topology p)
  pub user_is : upper ≡ user t.edges n
  pub owner_is : under ≡ owner t.edges p

-- so it is where the geoms were read under the same numbers
pub attach-asked : {C : Type 0} (t : Tables C) {v : TopoView C} {n p k m upper under : ℕ} → IsWhole t
    → topo_view t ≡ v → k ≡ n → upper ≡ user t.edges k → m ≡ p → under ≡ owner t.edges m
    → IsSomeAnd (consumer_at v.topology n) (λ x. x.provider ≡ None) → IsSome (provider_at v.topology p)
    → IsAsked t v n p upper under
attach-asked t whole seen same user_is alike owner_is loose offered = search rules

module _ {C : Type 0} {t : Tables C} {v : TopoView C} {n p upper under : ℕ} (asked : IsAsked t v n p upper under) where
  -- the consumer is attached to nothing in the tables too
  loose_there : IsSomeAnd (consumer_at (graph t) n) (λ x. x.provider ≡ None)
  loose_there = rw (← asked.seen) at asked.loose

  -- and the provider is offered there
  offered_there : IsSome (provider_at (graph t) p)
  offered_there = rw (← asked.seen) at asked.offered

  -- the upper geom is that of the consumer's cell
  upper_is : (cell : ConsCell) → Some cell ≡ value_at t.edges.consumers.rows n → upper ≡ cell.consumer.geom
  upper_is cell at = asked.user_is ∙ user-cell t.geoms t.edges n cell at

  -- the upper geom is there
  pub upper-lives : IsSome (value_at (kinds t.geoms) upper)
  upper-lives =
      let found = free-cell t.geoms t.edges n loose_there in
      let kin = kin-of t.geoms t.edges asked.whole.graph asked.whole.tables.indexed in
      subst (λ g. IsSome (value_at (kinds t.geoms) g)) (sym (upper_is found.0 found.1))
      (user-stands t.geoms t.edges t.live asked.whole.ranks n p found.0 kin.consumers_rise found.1)

  -- the provider carries no error there
  sound_there : {error : Bool} → error ≡ is_errored v.topology p → error ≡ false → is_errored (graph t) p ≡ false
  sound_there error_is none = rw (← asked.seen) at (sym error_is ∙ none)

  -- why an attach is refused is what the model answers
  pub refused-answer : {error : Bool} → error ≡ is_errored v.topology p → error ≡ false → (e : AttachRefusal)
      → is_dev_or_taste upper ≡ false → IsRefusedFor e t.geoms (ranked_below t.edges) upper under
      → attach_refusal v.topology n p ≡ Some (attach_errno e)
  refused-answer error_is none e later why =
      let found = free-cell t.geoms t.edges n loose_there in
      let kin = kin-of t.geoms t.edges asked.whole.graph asked.whole.tables.indexed in
      let here = upper_is found.0 found.1 in
      rw (← asked.seen)
      (on-refused t.geoms t.edges t.live asked.whole.ranks n p found.0 kin.consumers_rise found.1 found.2
      (provider-offered t.geoms t.edges p offered_there) (first-two t.geoms t.edges asked.whole.graph)
      (subst (λ g. is_dev_or_taste g ≡ false) here later) e (sound_there error_is none)
      (subst (λ g. IsRefusedFor e t.geoms (ranked_below t.edges) found.0.consumer.geom g) asked.owner_is
      (subst (λ g. IsRefusedFor e t.geoms (ranked_below t.edges) g under) here why)))

  module _ (cell : ConsCell) (rising : IsRising 1 t.edges.consumers.rows t.edges.consumers.next)
      (at : value_at t.edges.consumers.rows n ≡ Some cell) (ns : SlotsView (GeomCell C)) (same : bare ns ≡ bare t.geoms)
      (admitted : IsAdmitted (is_dev_or_taste upper) (ranked_below t.edges) upper under (stored t.geoms) (stored ns))
      (low : is_high (kinds t.geoms) (stored ns) ≡ false) where
    -- the ranks admit the consumer's geom by its cell
    admitted_there : IsAdmitted (is_dev_or_taste cell.consumer.geom) (ranked_below t.edges) cell.consumer.geom
        (owner t.edges p) (stored t.geoms) (stored ns)
    admitted_there = search (rules, upper_is cell (sym at))

    -- an attach that is admitted isn't refused by the model
    pub admitted-answer : {error : Bool} → error ≡ is_errored v.topology p → error ≡ false
        → attach_refusal v.topology n p ≡ None
    admitted-answer error_is none =
        rw (← asked.seen)
        (admitted-free t.geoms t.edges t.live asked.whole.ranks n p cell rising (sym at)
        (free-at t.geoms t.edges n cell loose_there (sym at)) (provider-offered t.geoms t.edges p offered_there)
        (first-two t.geoms t.edges asked.whole.graph) ns same admitted_there low
        (sound_there error_is none))

    -- and the mesh is whole with the consumer attached, but for the mark of the lower geom
    pub admitted-whole : IsWholeBut under (record t {
      geoms = ns;
      edges = record (put_consumer t.edges n (record cell { consumer = record cell.consumer { prov = Some p } }))
          { index = attached_index t.edges.index n p upper };
    })
    admitted-whole =
        let loose : cell.consumer.prov ≡ None = free-at t.geoms t.edges n cell loose_there (sym at) in
        rw (asked.owner_is, upper_is cell (sym at))
        (whole-attached t asked.whole n cell rising at ns same p loose
        (admitted-mesh t.geoms t.edges t.live asked.whole.ranks n p cell rising (sym at) loose
        (provider-offered t.geoms t.edges p offered_there) (first-two t.geoms t.edges asked.whole.graph) ns same
        admitted_there low) offered_there)
